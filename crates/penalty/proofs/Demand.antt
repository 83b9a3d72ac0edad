-- What the penalty call hands back, over all bytes. Where both parts are accepted it answers zeros, the value read from the table
-- is that of h and exactly half of the table's sum, its least value over the fillings whose choices fit is the least cost over the
-- plans that fit, where one does, with factor 2 or more the fillings that reach it have each product of weight above 0 equal to
-- that of its operands, and the numbers past the table are the lent ones. Where it answers zeros the bytes are those of a register
-- and a scheme that meet the paper's conditions. Where it answers a refusal the table is the lent one.
use Prim.Native.Nat.{ℕ, ◌*◌, ◌≤◌, ◌<◌}
use mathlib.Core.Path.{◌≡◌, refl, sym, ◌∙◌, ap, subst}
use mathlib.Core.List.{List}
use native.Mathlib.Omega.{arith}
use native.Mathlib.Decide.{dec_lt}
use lib.IntN.{ℤ, pos, ◌*ℤ◌}
use lib.ListN.{length}
use borrow.Author.Tests.{lt-ltb, le-ltb}
use Rattle.wire.specs.Outcome.{Outcome, refuses, accepts, answer_by}
use Rattle.wire.proofs.Outcome.{Numbered}
use Rattle.forms.specs.Form.{value, entry}
use Rattle.forms.specs.Table.{table_numbers, table_value}
use Rattle.forms.proofs.Store.{bounded_with_table}
use Rattle.forms.proofs.Table.{table_value_form, with_table-length, with_table_past}
use Rattle.register.specs.declared.Register.{Register}
use Rattle.register.specs.Register.{coefficient}
use Rattle.register.specs.Valid.{Within}
use Rattle.scheme.specs.declared.Scheme.{Scheme}
use Rattle.scheme.specs.Scheme.{side}
use Rattle.scheme.specs.Filling.{Filling, factor}
use Rattle.scheme.specs.Answer.{open_parts}
use Rattle.scheme.specs.Valid.{Valid}
use Rattle.scheme.proofs.Opened.{Opened, opened, opening_numbered, register_bytes, scheme_bytes}
use Rattle.plan.specs.Fits.{Fits}
use Rattle.plan.proofs.Fits.{register_fits?}
use Rattle.penalty.specs.Penalty.{h}
use Rattle.penalty.specs.Limits.{max_h_entry}
use Rattle.penalty.specs.Demand.{Holds, Made}
use Rattle.penalty.specs.Answer.{answer, penalty_answer, with_penalty, penalty_table}
use Rattle.penalty.proofs.Penalty.{below_h}
use Rattle.penalty.proofs.Bounds.{side_square, entry_h, twice_h}
use Rattle.penalty.proofs.Least.{penalty_iff, table_twice, table_least_where}
use Rattle.penalty.proofs.TrueProducts.{strict_of}
use Rattle.penalty.proofs.Answers.{parts_accepted}

-- the table of h does
penalty_holds : (reg : Register) (sch : Scheme) → Within reg → Valid reg sch → (lent : List ℤ) → table_numbers ≤ length lent → Holds reg sch lent (with_penalty reg sch lent)
penalty_holds reg sch within valid lent l = record {
  reads = reads;
  twice = λ z. table_twice c reg sch valid lent z ∙ ap (λ v. pos 2 *ℤ v) (sym (reads z));
  least = λ plan fits. table_least_where c reg sch valid lent (Fits reg) (register_fits? reg) plan fits;
  least_iff = penalty_iff c reg sch valid _ reads (Fits reg);
  true_products = λ two m. strict_of c reg sch valid two (Fits reg) m _ reads;
  small = (bounded_with_table n max_h_entry (entry (h c reg sch)) lent fits (λ i j u v. entry_h reg sch within valid i j)).low;
  sum_small = λ z. rw (table_twice c reg sch valid lent z) (twice_h reg sch within valid z);
  long = with_table-length n (entry (h c reg sch)) lent fits;
  past = with_table_past n (entry (h c reg sch)) lent;
}
  where
    c : ℕ → ℤ
    c = coefficient reg

    n : ℕ
    n = side reg.choices sch

    fits : n * n ≤ length lent
    fits = omega (arith, side_square reg sch valid)

    reads : (z : Filling) → table_value n (with_penalty reg sch lent) (factor z) ≡ value (factor z) (h c reg sch)
    reads z = table_value_form (below_h c reg sch valid) lent (factor z)

-- ---- over bytes

-- where both parts are accepted, the call answers zeros and its table is what is demanded
module _ (register scheme : List ℕ) (lent : List ℤ) (l : table_numbers ≤ length lent) (reg : Register) (sch : Scheme) (o : Opened register scheme reg sch) where
  pub made_answer : penalty_answer register scheme lent ≡ answer 0 0 0
  made_answer = sym (parts_accepted register scheme lent l reg sch o).answers

  pub made_holds : Holds reg sch lent (penalty_table register scheme lent)
  made_holds =
      subst (Holds reg sch lent) (parts_accepted register scheme lent l reg sch o).holds
      (penalty_holds reg sch o.register_valid.within o.scheme_valid lent l)

-- zeros are answered only there
module _ (register scheme : List ℕ) (lent : List ℤ) where
  pub zeros_made : penalty_answer register scheme lent ≡ answer 0 0 0 → Made register scheme lent
  unfolding penalty_answer
  zeros_made e = go (dec_lt (length lent) table_numbers)
    where
      both : table_numbers ≤ length lent → (x : Outcome (Register × Scheme)) → open_parts register scheme ≡ x → Numbered x → answer_by answer (λ parts. answer 0 0 0) x ≡ answer 0 0 0 → Made register scheme lent
      both l (refuses n part at) x d f = absurd (d (ap (λ a. a.number) f))
      both l (accepts (reg, sch)) x d f =
          let o = opened register scheme reg sch x in
          record {
            reg = reg;
            sch = sch;
            register_is = register_bytes register scheme reg sch o;
            scheme_is = scheme_bytes register scheme reg sch o;
            register_valid = o.register_valid;
            scheme_valid = o.scheme_valid;
            holds = made_holds register scheme lent l reg sch o;
          }

      go : Dec (length lent < table_numbers) → Made register scheme lent
      go (yes l) = let z : ◌≡◌ {A = ℕ} 11 0 = ap (λ a. a.number) (rw (lt-ltb (length lent) table_numbers l) at e) in absurd (omega arith)
      go (no l) = both (omega arith) (open_parts register scheme) refl (opening_numbered register scheme) (rw (le-ltb (length lent) table_numbers (omega arith)) at e)

  pub refused_unchanged : ((penalty_answer register scheme lent).number ≡ 0 → ⊥) → penalty_table register scheme lent ≡ lent
  unfolding penalty_answer penalty_table
  refused_unchanged h = go (dec_lt (length lent) table_numbers)
    where
      both : (x : Outcome (Register × Scheme)) → ((answer_by answer (λ parts. answer 0 0 0) x).number ≡ 0 → ⊥) → answer_by (λ number part at. lent) (λ (reg, sch). with_penalty reg sch lent) x ≡ lent
      both (refuses n part at) d = refl
      both (accepts a) d = absurd (d refl)

      go : Dec (length lent < table_numbers) → penalty_table register scheme lent ≡ lent
      go (yes l) = rw (lt-ltb (length lent) table_numbers l)
      go (no l) = let e = le-ltb (length lent) table_numbers (omega arith) in rw e (both (open_parts register scheme) (rw e at h))
