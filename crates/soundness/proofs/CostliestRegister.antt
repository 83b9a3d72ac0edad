-- R-12 of our calls: what is written is accepted and reaches the count, and no accepted register with as many terms of as many choices
-- passes it.
use Prim.Native.Nat.{ℕ, ◌+◌, ◌*◌, ◌-◌, ◌≤◌, ◌<◌}
use native.Mathlib.Omega.{arith}
use native.Mathlib.Decide.{dec_lt}
use native.Mathlib.Nat.{mul-le-mul}
use mathlib.Core.Path.{◌≡◌, refl, sym, ◌∙◌, ap, subst}
use mathlib.Core.Logic.{◌⊎◌, inl, inr}
use mathlib.Core.Bool.{true}
use mathlib.Core.List.{List}
use lib.ListN.{length}
use Rattle.integers.proofs.Lists.{flag}
use Rattle.wire.specs.declared.WriterAnswer.{WriterAnswer}
use Rattle.register.specs.declared.Register.{Register}
use Rattle.register.proofs.Opened.{Opened, opened}
use Rattle.scheme.specs.declared.Scheme.{Scheme}
use Rattle.scheme.specs.Scheme.{max_products, max_variables}
use Rattle.scheme.specs.Encoding.{encode_scheme}
use Rattle.scheme.proofs.Encoding.{length-encode}
use Rattle.builder.specs.Builder.{Built, stopped, built, build}
use Rattle.builder.specs.Answer.{built_room}
use Rattle.builder.proofs.Validity.{build_valid}
use Rattle.builder.proofs.Call as B
use Rattle.counting.specs.Counting.{products_below, most_products}
use Rattle.counting.proofs.Counting.{counting}
use Rattle.costliest.specs.Limits.{max_named}
use Rattle.costliest.specs.Costliest.{is_refused, Admitted, costliest_bytes}
use Rattle.costliest.specs.Answer.{costliest_answer, costliest_buffer, costliest_room}
use Rattle.costliest.proofs.Admitted.{refused_when, admitted_when, not_refused, decided}
use Rattle.costliest.proofs.Record.{costliest, costliest_choices, costliest_terms, costliest_described, costliest_apart}
use Rattle.costliest.proofs.Lengths.{length_costliest}
use Rattle.costliest.proofs.Accepted.{size_within, costliest_accepted}
use Rattle.soundness.specs.Calls.{register_call, scheme_call, build_call, costliest_call, front}
use Rattle.soundness.specs.Acceptance.{register_accepted}
use Rattle.soundness.specs.Writers.{Writes, KeepsRefused}
use Rattle.soundness.specs.CostliestRegister.{Forms, FormsUpTo, CostliestWritten, OfBounded, NoneMore, CostliestRegister}
use Rattle.soundness.proofs.Writers.{writer_of, writes_bytes, keeps_bytes, front_is, opened_is, opened_writes, opened_reads}

-- ---- what the builder forms of an accepted register

module _ (s : List ℕ) (reg : Register) (o : Opened s reg) where
  formed : (sch : Scheme) → build reg ≡ built sch → (terms products : ℕ) → reg.terms ≡ terms → sch.products ≡ products → Forms build_call scheme_call s terms products
  formed sch e terms products t p =
      let splits = (build_valid reg o.valid sch e).all_split ∙ t in
      record {
        scheme = sch;
        products_are = p;
        splits_are = splits;
        bytes = encode_scheme reg.choices sch;
        count = length-encode reg.choices sch ∙ rw (p, splits);
        writes = opened_writes s reg o sch e;
        reads_back = opened_reads s reg o sch e;
      }

-- an answer 10 is no answer of a writer
not_full : (s : List ℕ) {terms products : ℕ} → Forms build_call scheme_call s terms products → (lent : List ℕ) → (build_call s lent).0.number ≡ 10 → ⊥
not_full s f lent z = by (dec_lt (length lent) (length f.bytes))
  where
    by : Dec (length lent < length f.bytes) → ⊥
    by (yes l) = let n : ◌≡◌ {A = ℕ} 11 10 = ap (λ x. x.0.number) (sym (f.writes.short lent l)) ∙ z in omega arith
    by (no l) = let n : ◌≡◌ {A = ℕ} 0 10 = ap (λ x. x.0.number) (sym (f.writes.fits lent (omega arith))) ∙ z in omega arith

-- so many products are within the limit: m · (d − 2) is at most m · d
few_products : (m d : ℕ) → m * d ≤ max_named → most_products m d ≤ max_products
few_products m d l = let k : m * (d - 2) ≤ m * d = mul-le-mul (omega arith) (omega arith) in omega arith

-- ---- no register of so many terms forms more

module _ (m d : ℕ) (s : List ℕ) (o : OfBounded register_call m d s) where
  read : Opened s o.reg
  read = opened s (register_accepted o.reg) (sym o.accepted) refl

  abbrev UpTo : Type 0
  UpTo = FormsUpTo build_call scheme_call s o.reg.terms (most_products m d)

  below : products_below o.reg o.reg.terms ≤ most_products m d
  below = counting.bounded m d o.reg o.bounded

  up_to : (sch : Scheme) → build o.reg ≡ built sch → UpTo
  up_to sch e = record {
    products = sch.products;
    forms = formed s o.reg read sch e o.reg.terms sch.products refl refl;
    at_most = omega (arith, below, counting.at_most o.reg sch e);
  }

  at_most : (lent : List ℕ) → (build_call s lent).0.number ≡ 0 → UpTo
  at_most lent z =
      let w = B.call_reads s lent z in
      up_to w.scheme (ap build (ap (λ a. a.register) (sym o.accepted)) ∙ w.builds)

  room : o.reg.choices + most_products m d ≤ max_variables → UpTo
  room l = let f = counting.room o.reg (omega (arith, below, few_products m d o.small)) (omega (arith, below)) in up_to f.0 f.1

  full : (lent : List ℕ) → (build_call s lent).0.number ≡ 10 → max_variables < o.reg.choices + most_products m d
  full lent z = by (dec_lt max_variables (o.reg.choices + most_products m d))
    where
      by : Dec (max_variables < o.reg.choices + most_products m d) → max_variables < o.reg.choices + most_products m d
      by (yes l) = l
      by (no l) = absurd (not_full s (room (omega arith)).forms lent z)

  either : (lent : List ℕ) → built_room ≤ length lent → ((build_call s lent).0.number ≡ 0) ⊎ ((build_call s lent).0.number ≡ 10)
  either lent l = by (build o.reg) refl
    where
      by : (x : Built) → build o.reg ≡ x → ((build_call s lent).0.number ≡ 0) ⊎ ((build_call s lent).0.number ≡ 10)
      by (stopped t) e = inr (ap (λ x. x.0.number) (opened_is s o.reg read (stopped t) e lent))
      by (built sch) e = inl ((opened_writes s o.reg read sch e).enough lent l)

none_more : NoneMore register_call build_call scheme_call
none_more = record {
  at_most = at_most;
  forms = room;
  narrow = λ m d s o l. room m d s o (omega (arith, few_products m d o.small));
  few = λ m d s o. few_products m d o.small;
  full = full;
  either = either;
}

-- ---- the register that is written

module _ (m d : ℕ) where
  abbrev bytes : List ℕ
  bytes = costliest_bytes m d

  module _ (a : Admitted m d) where
    is_writer : (lent : List ℕ) → costliest_call m d lent ≡ writer_of bytes lent
    unfolding costliest_answer costliest_buffer
    is_writer lent = rw (not_refused m d a) refl

    writes : Writes (costliest_call m d) bytes costliest_room
    writes = writes_bytes (costliest_call m d) bytes costliest_room is_writer (omega (arith, length_costliest m d, size_within m d a))

    reads : register_call bytes ≡ register_accepted (costliest m d)
    reads = costliest_accepted m d a

    forms : Forms build_call scheme_call bytes m (most_products m d)
    forms =
        let o = opened bytes (register_accepted (costliest m d)) (sym reads) refl in
        let c = costliest_apart m d a in
        let total : products_below (costliest m d) (costliest m d).terms ≡ most_products m d = counting.apart d (costliest m d) c ∙ rw (costliest_terms m d) in
        let few = few_products m d a.small in
        let f = counting.room (costliest m d) (rw total few) (rw (total, costliest_choices m d) (omega (arith, few, a.small))) in
        formed bytes (costliest m d) o f.0 f.1 m (most_products m d) (costliest_terms m d) (counting.exactly (costliest m d) f.0 o.valid c.disjoint f.1 ∙ total)

  refused_call : is_refused m d ≡ true → (lent : List ℕ) → costliest_call m d lent ≡ (record { number = 18; part = 0; position = 0; count = 0 }, lent)
  unfolding costliest_answer costliest_buffer
  refused_call e lent = rw e refl

  -- one that answers 0 is not refused
  taken : (lent : List ℕ) → (costliest_call m d lent).0.number ≡ 0 → Admitted m d
  taken lent z =
      flag (is_refused m d) (λ e. let n : ◌≡◌ {A = ℕ} 18 0 = ap (λ x. x.0.number) (sym (refused_call e lent)) ∙ z in absurd (omega arith)) (admitted_when m d)

  front_bytes : (lent : List ℕ) → (z : (costliest_call m d lent).0.number ≡ 0) → front (costliest_call m d lent) ≡ bytes
  front_bytes lent z = front_is (costliest_call m d) bytes costliest_room (writes (taken lent z)) lent z

  keeps : KeepsRefused (costliest_call m d)
  keeps lent =
      flag (is_refused m d) (λ e. subst Kept (sym (refused_call e lent)) (λ h. (refl, refl)))
      (λ e. subst Kept (sym (is_writer (admitted_when m d e) lent)) (keeps_bytes bytes lent))
    where
      Kept : WriterAnswer × List ℕ → Type 0
      Kept x = (x.0.number ≡ 0 → ⊥) → (x.0.count ≡ 0) × (x.1 ≡ lent)

written : CostliestWritten costliest_call register_call build_call scheme_call
written = record {
  refused = λ m d lent h. refused_call m d (refused_when m d h) lent;
  writes = writes;
  count = length_costliest;
  decided = decided;
  keeps = keeps;
  reads = λ m d lent z. let a = taken m d lent z in (costliest m d, costliest_described m d a, rw (front_bytes m d lent z) (reads m d a));
  forms = λ m d lent z. rw (front_bytes m d lent z) (forms m d (taken m d lent z));
}

pub costliest_register : CostliestRegister costliest_call register_call build_call scheme_call
costliest_register = record { written = written; none_more = none_more }
