-- Of our calls: what is promised of the penalty form with any factor, and of what does not depend on the factor.
use Prim.Native.Nat.{ℕ, ◌≤◌}
use native.Mathlib.Omega.{arith}
use mathlib.Core.Path.{◌≡◌, refl, sym, ◌∙◌, ap₂}
use mathlib.Core.List.{List}
use lib.IntN.{ℤ}
use lib.ListN.{length}
use Rattle.wire.specs.Outcome.{accepts}
use Rattle.forms.specs.Table.{table_numbers}
use Rattle.register.specs.declared.Register.{Register}
use Rattle.scheme.specs.declared.Scheme.{Scheme}
use Rattle.scheme.specs.Scheme.{with_factor}
use Rattle.scheme.specs.Encoding.{factor_in}
use Rattle.scheme.specs.Answer.{open_parts}
use Rattle.scheme.proofs.OtherFactor.{g_with_factor}
use Rattle.scheme.proofs.Factors.{factor_read}
use Rattle.scheme.proofs.Opened.{opens, opened_encodings, answer_opened}
use Rattle.penalty.specs.Answer.{penalty_answer, penalty_table}
use Rattle.penalty.proofs.OtherFactor.{weight_with_factor}
use Rattle.penalty.proofs.Weighing.{weight_some}
use Rattle.bound.specs.Check.{check_answer, check_table}
use Rattle.bound.proofs.OtherFactor as B
use Rattle.plain.specs.Answer.{plain_answer, plain_buffer}
use Rattle.plain.proofs.OtherFactor as P
use Rattle.soundness.specs.Calls.{scheme_call, penalty_call, check_call, plain_call, job_call, listing_call, supplier_listing_call}
use Rattle.soundness.specs.Parts.{Part1, Part2}
use Rattle.soundness.specs.Demand3.{register_of, low, scheme_of, Accepted}
use Rattle.soundness.specs.HeavierPenalties.{AnyFactor, HeavierPenalties, FactorLaws, CertificatesAlike, SchemesAlike, FactorUnseen}
use Rattle.soundness.proofs.Ours.{holds}
use Rattle.soundness.proofs.JobsAlike.{jobs_alike}
use Rattle.soundness.proofs.LaterParts.{later_parts}

-- ---- the penalty form

any_factor : (t s : List ℕ) → Accepted t s → (lent : List ℤ) → table_numbers ≤ length lent → AnyFactor t s (penalty_table t s lent)
any_factor t s z lent l =
    let o = answer_opened t s z in
    let h = holds t s z lent l in
    let said : (scheme_of t s).factor ≡ factor_in s = factor_read (register_of t) s o.scheme_reads in
    record {
      least = h.least_iff;
      true_products = λ two. h.true_products (rw said two);
      weighted = λ k. weight_some (low t) (register_of t) (scheme_of t s) k o.scheme_valid.within.factor;
      entries = h.small;
      sums = h.sum_small;
    }

pub heavier_penalties : HeavierPenalties penalty_call
heavier_penalties = any_factor

-- ---- of no call

pub factor_laws : FactorLaws
factor_laws = record {
  weights = λ c reg sch f. weight_with_factor sch f c reg;
  g_without = λ c reg sch f. g_with_factor sch f c reg;
  sum_of_entries = omega arith;
  sum_below = omega arith;
}

-- ---- what does not depend on the factor, and whether it is said

module _ (t s u : List ℕ) (reg : Register) (sch : Scheme) (p : Part1 t reg) (q : Part2 reg s sch) where
  opens_part : (x : List ℕ) (c : Scheme) → Part2 reg x c → open_parts t x ≡ accepts (reg, c)
  opens_part x c k = opens (opened_encodings t x reg c p.conditions p.bytes k.conditions k.bytes)

  -- all that the calls look at of part 2 is what is opened of it
  said_or_not : Part2 reg u sch → SchemesAlike scheme_call penalty_call check_call plain_call t s u
  unfolding penalty_answer penalty_table check_answer check_table plain_answer plain_buffer
  said_or_not k =
      let same : open_parts t s ≡ open_parts t u = opens_part s sch q ∙ sym (opens_part u sch k) in
      record {
        schemes = rw same refl;
        penalties = λ table. rw same refl;
        certificates = record {
          checks = λ certificate plan table. rw same refl;
          plains = λ plan lent. rw same refl;
        };
      }

  other_factor : (f : ℕ) → Part2 reg u (with_factor sch f) → CertificatesAlike check_call plain_call t s u
  other_factor f k =
      let one = opens_part s sch q in
      let other = opens_part u (with_factor sch f) k in
      record {
        checks = λ certificate plan table.
            ap₂ (λ a b. (a, b)) (sym (B.answer_with_factor t s u reg sch f one other plan certificate table)) (sym (B.table_with_factor t s u reg sch f one other plan certificate table));
        plains = λ plan lent.
            ap₂ (λ a b. (a, b)) (sym (P.answer_with_factor t s u reg sch f one other plan lent)) (sym (P.buffer_with_factor t s u reg sch f one other plan lent));
      }

pub factor_unseen : FactorUnseen scheme_call penalty_call check_call plain_call job_call listing_call supplier_listing_call
factor_unseen = record {
  said_or_not = said_or_not;
  other_factor = λ register scheme other reg sch f p q. other_factor register scheme other reg sch p q f;
  of_job = λ job other p f v fits e d. jobs_alike job other p f fits v e d;
  of_any_job = λ register scheme other rest reg sch f d p q q' l. later_parts register scheme other rest reg sch f d p q q' l;
}
