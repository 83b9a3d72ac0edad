-- What is written reads back, of our calls.
use Prim.Native.Nat.{ℕ, ◌≤◌, ◌<◌}
use native.Mathlib.Omega.{arith}
use native.Mathlib.Decide.{dec_lt}
use mathlib.Core.Path.{◌≡◌, refl, sym, ◌∙◌, ap, ap₂}
use mathlib.Core.Bool.{false≢true}
use mathlib.Core.List.{List}
use lib.Dec.{ltb}
use lib.IntN.{ℤ}
use lib.ListN.{length, drop}
use lib.Seq.{take_at}
use borrow.Author.Tests.{lt-ltb, le-ltb}
use Rattle.integers.proofs.Lists.{flag}
use Rattle.wire.specs.Number.{Bytes}
use Rattle.wire.specs.Outcome.{Outcome, refuses, accepts, answer_by}
use Rattle.wire.specs.Writer.{refused_answer, bytes_answer, with_front}
use Rattle.forms.specs.Table.{table_numbers}
use Rattle.register.specs.declared.Register.{Register}
use Rattle.register.specs.Register.{has_range}
use Rattle.register.specs.Format.{register_by_itself}
use Rattle.register.specs.Answer.{register_answer}
use Rattle.register.specs.Opening.{open_register}
use Rattle.register.proofs.Accept as Ra
use Rattle.register.proofs.Opened.{Opened}
use Rattle.scheme.specs.declared.Scheme.{Scheme}
use Rattle.scheme.specs.Encoding.{encode_scheme}
use Rattle.scheme.proofs.Accept as Sa
use Rattle.scheme.proofs.Canonical.{canonical}
use Rattle.scheme.proofs.Opened.{register_bytes, scheme_bytes, answer_opened}
use Rattle.builder.specs.Builder.{Built, stopped, built, build}
use Rattle.builder.specs.Answer.{built_room, built_answer, built_buffer}
use Rattle.builder.proofs.Factor.{built_factor}
use Rattle.builder.proofs.Validity.{build_valid, build_size}
use Rattle.builder.proofs.Call as B
use Rattle.plan.specs.Chosen.{chosen}
use Rattle.certificate.specs.Encoding.{Encodes}
use Rattle.bound.specs.Bound.{bound}
use Rattle.bound.specs.Opening.{open_chosen}
use Rattle.plain.specs.Answer.{own_bytes, own_room, plain_answer, plain_buffer}
use Rattle.plain.proofs.Same.{plain_same}
use Rattle.plain.proofs.Valid.{Low, low_chosen, plain_valid}
use Rattle.plain.proofs.Encoded.{plain_bytes}
use Rattle.plain.proofs.ReadBack.{plain_encodes}
use Rattle.plain.proofs.Answers.{parts_accepted}
use Rattle.plain.proofs.Call as P
use Rattle.job.specs.Outcome.{of_register, with_scheme, with_certificate, with_plan, outcome}
use Rattle.job.proofs.Turn.{same_chosen}
use Rattle.job.proofs.Suppliers.{known}
use Rattle.listing.specs.declared.Reader.{Reader}
use Rattle.listing.specs.declared.Reader.TheVariants.{Farm, Supplier}
use Rattle.listing.specs.Listing.{listed}
use Rattle.listing.specs.Readers.{lines_for}
use Rattle.listing.specs.Answer.{listing_room, answer_with, listing_table, buffer_with}
use Rattle.listing.proofs.Outcome.{listing_short}
use Rattle.soundness.specs.Calls.{front, scheme_call, check_call, plain_call, build_call, job_call, listing_with, listing_call, supplier_listing_call}
use Rattle.soundness.specs.Parts.{Part1, Part2, Part3, Part4, Choosing, with_r, WithPlan}
use Rattle.soundness.specs.Acceptance.{OfCheck, scheme_accepted, check_accepted}
use Rattle.soundness.specs.Writers.{Writer, handed_back, Writes, KeepsRefused, OfBuild, BuildWrites, own_certificate, PlainWrites, OwnJobs, ListingWrites, Writers}
use Rattle.soundness.proofs.Choosing.{choosing_of, chosen_parts}
use Rattle.soundness.proofs.Acceptance.{acceptance}

-- ---- a call that writes bytes

-- one that answers and hands back just this
abbrev pub writer_of : List ℕ → Writer
writer_of bytes lent = (bytes_answer bytes lent, with_front bytes lent)

pub writes_bytes : (writer : Writer) (bytes : List ℕ) (room : ℕ) → ((lent : List ℕ) → writer lent ≡ writer_of bytes lent) → length bytes ≤ room → Writes writer bytes room
unfolding bytes_answer
writes_bytes writer bytes room e l = record {
  fits = fits;
  short = λ lent m. e lent ∙ rw (lt-ltb (length lent) (length bytes) m) refl;
  enough = λ lent m. ap (λ x. x.0.number) (fits lent (omega arith));
}
  where
    fits : (lent : List ℕ) → length bytes ≤ length lent → writer lent ≡ handed_back bytes lent
    fits lent m = e lent ∙ rw (le-ltb (length lent) (length bytes) m) refl

pub keeps_bytes : (bytes : List ℕ) → KeepsRefused (writer_of bytes)
unfolding bytes_answer
keeps_bytes bytes lent h = flag (ltb (length lent) (length bytes)) (λ e. rw e (refl, refl)) (λ e. absurd (h (rw e refl)))

-- where it answers 0, its bytes stand at the front
pub front_is : (writer : Writer) (bytes : List ℕ) (room : ℕ) → Writes writer bytes room → (lent : List ℕ) → (writer lent).0.number ≡ 0 → front (writer lent) ≡ bytes
front_is writer bytes room w lent z = by (dec_lt (length lent) (length bytes))
  where
    by : Dec (length lent < length bytes) → front (writer lent) ≡ bytes
    by (yes l) = let n : ◌≡◌ {A = ℕ} 11 0 = ap (λ x. x.0.number) (sym (w.short lent l)) ∙ z in absurd (omega arith)
    by (no l) = ap front (w.fits lent (omega arith)) ∙ take_at bytes (drop (length bytes) lent) (length bytes) refl

-- ---- the builder

-- of an accepted register
module _ (t : List ℕ) (reg : Register) (o : Opened t reg) where
  pub opened_is : (x : Built) → build reg ≡ x → (lent : List ℕ) → build_call t lent ≡ (built_answer t reg lent x, built_buffer reg lent x)
  opened_is x e lent = rw (o.reads, e) refl

  module _ (sch : Scheme) (e : build reg ≡ built sch) where
    pub opened_writes : Writes (build_call t) (encode_scheme reg.choices sch) built_room
    opened_writes = writes_bytes (build_call t) (encode_scheme reg.choices sch) built_room (opened_is (built sch) e) (build_size reg o.valid sch e)

    pub opened_reads : (lent : List ℕ) → (build_call t lent).0.number ≡ 0 → scheme_call t (front (build_call t lent)) ≡ scheme_accepted sch
    opened_reads lent z =
        let bytes = encode_scheme reg.choices sch in
        ap (scheme_call t) (front_is (build_call t) bytes built_room opened_writes lent z)
        ∙ rw (o.reads, Sa.encoding_accepted reg o.valid bytes sch (build_valid reg o.valid sch e) (canonical reg sch (built_factor reg sch e)))

module _ (t : List ℕ) (reg : Register) (p : Part1 t reg) where
  opened_part : Opened t reg
  opened_part = record { reads = Ra.encoding_accepted t reg p.conditions p.bytes; valid = p.conditions }

  pub build_is : (x : Built) → build reg ≡ x → (lent : List ℕ) → build_call t lent ≡ (built_answer t reg lent x, built_buffer reg lent x)
  build_is = opened_is t reg opened_part

build_writes : (t : List ℕ) (reg : Register) (sch : Scheme) → OfBuild t reg sch → Writes (build_call t) (encode_scheme reg.choices sch) built_room
build_writes t reg sch o = opened_writes t reg (opened_part t reg o.part_1) sch o.builds

build_reads : (t : List ℕ) (reg : Register) (sch : Scheme) → OfBuild t reg sch → (lent : List ℕ) → (build_call t lent).0.number ≡ 0 → scheme_call t (front (build_call t lent)) ≡ scheme_accepted sch
build_reads t reg sch o = opened_reads t reg (opened_part t reg o.part_1) sch o.builds

-- the scheme of what is handed back
built_part : (t : List ℕ) (reg : Register) (sch : Scheme) → OfBuild t reg sch → (lent : List ℕ) → (build_call t lent).0.number ≡ 0 → Part2 reg (front (build_call t lent)) sch
built_part t reg sch o lent z = record {
  conditions = build_valid reg o.part_1.conditions sch o.builds;
  bytes = rw (front_is (build_call t) (encode_scheme reg.choices sch) built_room (build_writes t reg sch o) lent z) (canonical reg sch (built_factor reg sch o.builds));
}

build_only : (t lent : List ℕ) → Bytes t → (build_call t lent).0.number ≡ 0 → (reg : Register) × ((sch : Scheme) × OfBuild t reg sch)
build_only t lent b z =
    let w = B.call_reads t lent z in
    let s = front (build_call t lent) in
    let o = answer_opened t s (ap (λ a. a.number) w.reads) in
    ((register_answer (register_by_itself t)).register, (w.scheme, record { part_1 = record { conditions = w.valid; bytes = register_bytes t s _ _ o b }; builds = w.builds }))

build_keeps : (t : List ℕ) → KeepsRefused (build_call t)
build_keeps t lent = go (open_register t)
  where
    made : (reg : Register) (x : Built) → ((built_answer t reg lent x).number ≡ 0 → ⊥) → ((built_answer t reg lent x).count ≡ 0) × (built_buffer reg lent x ≡ lent)
    made reg (stopped i) h = (refl, refl)
    made reg (built sch) h = keeps_bytes (encode_scheme reg.choices sch) lent h

    go : (x : Outcome Register) → let a = answer_by refused_answer (λ reg. built_answer t reg lent (build reg)) x in
        (a.number ≡ 0 → ⊥) → (a.count ≡ 0) × (answer_by (λ number part at. lent) (λ reg. built_buffer reg lent (build reg)) x ≡ lent)
    go (refuses n part at) h = (refl, refl)
    go (accepts reg) h = made reg (build reg) h

of_build : BuildWrites build_call scheme_call
of_build = record {
  writes = build_writes;
  reads_back = build_reads;
  full = λ t reg term p e. build_is t reg p (stopped term) e;
  only = build_only;
  keeps = build_keeps;
}

-- ---- our own certificate

module _ (t s q : List ℕ) (k : WithPlan t s q) where
  abbrev c : ℕ → ℤ
  c = chosen k.reg k.fed

  low : Low c k.reg
  low = low_chosen k.reg k.part_1.conditions k.fed

  plain_writes : Writes (plain_call t s q) (own_bytes k.reg k.sch k.fed) own_room
  plain_writes =
      let o = chosen_parts k.part_1 k.part_2 k.choosing in
      writes_bytes (plain_call t s q) (own_bytes k.reg k.sch k.fed) own_room (λ lent. let (a, b) = parts_accepted t s q lent k.reg k.sch k.fed o in rw (a, b) refl) (plain_bytes c k.reg k.sch k.part_2.conditions)

  module _ (lent : List ℕ) (z : (plain_call t s q lent).0.number ≡ 0) where
    plain_reads : Part3 c k.reg k.sch (front (plain_call t s q lent)) (own_certificate k.reg k.sch k.fed)
    plain_reads = record {
      conditions = plain_valid c k.reg k.sch low k.part_1.conditions k.part_2.conditions;
      bytes = rw (front_is (plain_call t s q) (own_bytes k.reg k.sch k.fed) own_room plain_writes lent z) (plain_encodes c k.reg k.sch);
    }

    plain_checks : (table : List ℤ) → table_numbers ≤ length table →
        check_call t s (front (plain_call t s q lent)) q table ≡ (check_accepted (bound (own_certificate k.reg k.sch k.fed)), with_r c k.reg k.sch (own_certificate k.reg k.sch k.fed) table)
    plain_checks table l =
        let d : OfCheck t s (front (plain_call t s q lent)) q (bound (own_certificate k.reg k.sch k.fed)) = record {
          reg = k.reg;
          sch = k.sch;
          fed = k.fed;
          cert = own_certificate k.reg k.sch k.fed;
          part_1 = k.part_1;
          part_2 = k.part_2;
          choosing = k.choosing;
          part_3 = plain_reads;
          bound_is = refl;
        } in
        let a = acceptance.of_check in
        ap₂ (λ x y. (x, y)) (a.all t s _ q table _ l d) (a.table_back t s _ q table _ l d)

plain_only : (t s q lent : List ℕ) → Bytes t → Bytes s → Bytes q → (plain_call t s q lent).0.number ≡ 0 → WithPlan t s q
plain_only t s q lent b b' b'' z =
    let w = P.call_reads t s q lent z in
    let o = w.opens.parts in
    record {
      reg = w.reg;
      sch = w.sch;
      fed = w.plan;
      part_1 = record { conditions = o.register_valid; bytes = register_bytes t s _ _ o b };
      part_2 = record { conditions = o.scheme_valid; bytes = scheme_bytes t s _ _ o b' };
      choosing = choosing_of w.opens b'';
    }

plain_keeps : (t s q : List ℕ) → KeepsRefused (plain_call t s q)
unfolding plain_answer plain_buffer
plain_keeps t s q lent = go (open_chosen t s q)
  where
    go : (x : Outcome (Register × Scheme × ℕ)) → let a = answer_by refused_answer (λ (reg, sch, p). bytes_answer (own_bytes reg sch p) lent) x in
        (a.number ≡ 0 → ⊥) → (a.count ≡ 0) × (answer_by (λ number part at. lent) (λ (reg, sch, p). with_front (own_bytes reg sch p) lent) x ≡ lent)
    go (refuses n part at) h = (refl, refl)
    go (accepts (reg, sch, p)) h = keeps_bytes (own_bytes reg sch p) lent h

of_plain : PlainWrites plain_call check_call
of_plain = record { writes = plain_writes; reads_back = plain_reads; checks = plain_checks; only = plain_only; keeps = plain_keeps }

-- ---- a job of what these two write

-- a plan of the register chooses the coefficients where the register has a range; where it has none, the plan that feeds nothing does, and
-- the certificate is the same
module _ (t s q : List ℕ) (reg : Register) (sch : Scheme) (fed : ℕ) (p₁ : Part1 t reg) (p₂ : Part2 reg s sch) (p₄ : Part4 reg q fed) where
  abbrev beside : (chooses : ℕ) → Choosing reg q chooses → WithPlan t s q
  beside chooses h = record { reg = reg; sch = sch; fed = chooses; part_1 = p₁; part_2 = p₂; choosing = h }

  own_encodes : (lent : List ℕ) → (plain_call t s q lent).0.number ≡ 0 → Encodes (own_certificate reg sch fed) (front (plain_call t s q lent))
  own_encodes lent z =
      flag (has_range reg)
      (λ some. (plain_reads t s q (beside fed (record { part_4 = λ e. p₄; none = λ none. absurd (false≢true (sym none ∙ some)) })) lent z).bytes)
      (λ none.
      let same = same_chosen reg p₁.conditions.within none fed 0 in
      rw (plain_same (chosen reg fed) (chosen reg 0) reg sch (λ i l. same i))
      (plain_reads t s q (beside 0 (record { part_4 = λ some. absurd (false≢true (sym none ∙ some)); none = λ e. refl })) lent z).bytes)

own_jobs : OwnJobs build_call plain_call job_call
own_jobs t plan reg sch fed o p lent lent' z y table supplier tally k l =
    let q = built_part t reg sch o lent z in
    acceptance.of_job.all _ table supplier tally _ _ k l (record {
      parts = with_plan (with_certificate (with_scheme (of_register reg) sch) (own_certificate reg sch fed)) fed;
      conditions = record { register = o.part_1.conditions; scheme = q.conditions; certificate = plain_valid (chosen reg fed) reg sch (low_chosen reg o.part_1.conditions fed) o.part_1.conditions q.conditions; plan = p.conditions };
      bytes = record {
        first = t;
        second = front (build_call t lent);
        third = front (plain_call t (front (build_call t lent)) plan lent');
        fourth = plan;
        register = o.part_1.bytes;
        scheme = q.bytes;
        certificate = own_encodes t (front (build_call t lent)) plan reg sch fed o.part_1 q p lent' y;
        plan = p.bytes;
        bytes = refl;
      };
      bound_is = refl;
      cost_is = refl;
    })

-- ---- the listings

of_listing : (reader : Reader) → ListingWrites (lines_for reader) (listing_with (lines_for reader)) job_call
unfolding answer_with buffer_with listing_table
of_listing reader = record {
  writes = λ job table l. writes_bytes _ (listed (lines_for reader) (outcome job)) listing_room (λ lent. rw (le-ltb (length table) table_numbers l) refl) (listing_short reader job);
  table_back = λ job table lent supplier tally k. sym (known job table supplier tally k).1;
}

pub writers : Writers build_call scheme_call plain_call check_call listing_call supplier_listing_call job_call
writers = record { of_build = of_build; of_plain = of_plain; own_jobs = own_jobs; of_listing = of_listing Farm; of_supplier_listing = of_listing Supplier }
