-- For part 2 that does not begin with a `23`, our calls answer and hand back what they did before there was a factor.
use Prim.Native.Nat.{ℕ, ◌+◌}
use mathlib.Core.Path.{◌≡◌, refl, sym, ◌∙◌, ap}
use mathlib.Core.Bool.{cond}
use mathlib.Core.List.{List, ◌++◌}
use lib.Dec.{ltb}
use lib.IntN.{ℤ, pos, ◌*ℤ◌}
use lib.ListN.{length}
use Rattle.integers.proofs.Join.{join_cong}
use Rattle.integers.proofs.Ring.{one_*ℤ}
use Rattle.wire.specs.Outcome.{Outcome, accepts, refuses, given, and_then, answer_by}
use Rattle.wire.proofs.Outcome.{itself_refused}
use Rattle.forms.specs.Form.{times, entry}
use Rattle.forms.specs.Table.{table_numbers, with_table}
use Rattle.register.specs.declared.Register.{Register}
use Rattle.register.specs.Opening.{open_register}
use Rattle.register.specs.Register.{coefficient}
use Rattle.register.proofs.Accept.{encoding_accepted}
use Rattle.scheme.specs.declared.Scheme.{Scheme}
use Rattle.scheme.specs.Scheme.{side}
use Rattle.scheme.specs.Function.{g}
use Rattle.scheme.specs.Format.{scheme_by_itself}
use Rattle.scheme.specs.Encoding.{SaysFactor}
use Rattle.scheme.specs.Answer.{open_parts, refused_answer, accepted_answer}
use Rattle.scheme.specs.BeforeFactors.{by_itself_before_factors}
use Rattle.scheme.proofs.BeforeFactors.{as_before_factors_in_job, as_before_factors, was_refused}
use Rattle.scheme.proofs.Factors.{factor_in_unsaid}
use Rattle.penalty.specs.Weights.{usage, weight}
use Rattle.penalty.specs.Penalty.{bracket_of, penalty_of, h}
use Rattle.penalty.specs.declared.PenaltyAnswer.{PenaltyAnswer}
use Rattle.penalty.specs.Answer.{answer, with_penalty, penalty_answer, penalty_table}
use Rattle.bound.specs.Opening.{open_plan, open_chosen}
use Rattle.bound.specs.Check.{check_answer, check_table}
use Rattle.plain.specs.Answer.{plain_answer, plain_buffer}
use Rattle.soundness.specs.Calls.{scheme_call, penalty_call, check_call, plain_call}
use Rattle.soundness.specs.Parts.{Part1}
use Rattle.soundness.specs.BeforeFactors.{h_before_factors, penalty_before_factors, open_before_factors, open_chosen_before_factors, scheme_before_factors, with_penalty_before_factors, penalty_call_before_factors, check_before_factors, plain_before_factors, CallsAsBeforeFactors, AsBeforeFactors}
use Rattle.soundness.proofs.Factors.{has_factor}

-- ---- the penalty form

module _ (c : ℕ → ℤ) (reg : Register) (sch : Scheme) (one : sch.factor ≡ 1) where
  weight_same : (k : ℕ) → weight c reg sch k ≡ usage c reg sch k
  unfolding weight
  weight_same k = ap (λ f. pos f *ℤ usage c reg sch k) one ∙ one_*ℤ (usage c reg sch k)

  forms_same : h c reg sch ≡ h_before_factors c reg sch
  unfolding h
  forms_same =
      let n = reg.choices in
      ap (λ penalties. g c reg sch ++ penalties)
      (join_cong sch.products (penalty_of c reg sch) (penalty_before_factors c reg sch) (λ i l. ap (λ w. times w (bracket_of n sch (n + i))) (weight_same (n + i))))

-- ---- what is opened, and what is made of it

module _ (t s : List ℕ) (none : SaysFactor s → ⊥) where
  opens_by_reg : (x : Outcome Register) →
      and_then {B = Register × Scheme} x (λ reg. and_then (given 2 (scheme_by_itself reg s)) λ sch. accepts (reg, sch)) ≡ and_then x λ reg. and_then (given 2 (by_itself_before_factors reg s)) λ sch. accepts (reg, sch)
  opens_by_reg (refuses n part at) = refl
  opens_by_reg (accepts reg) = ap (λ y. and_then (given 2 y) λ sch. accepts (reg, sch)) (as_before_factors reg s none)

  opens : open_parts t s ≡ open_before_factors t s
  opens = opens_by_reg (open_register t)

  scheme_same : scheme_call t s ≡ scheme_before_factors t s
  scheme_same = ap (answer_by refused_answer accepted_answer) opens

  -- an accepted scheme has factor 1

  one : (scheme_call t s).number ≡ 0 → (scheme_call t s).scheme.factor ≡ 1
  one z = ((has_factor t s).accepted z).0 ∙ factor_in_unsaid s none

  one_opened : (reg : Register) (sch : Scheme) → open_parts t s ≡ accepts (reg, sch) → sch.factor ≡ 1
  one_opened reg sch e =
      let z : (scheme_call t s).number ≡ 0 = ap (λ x. (answer_by refused_answer accepted_answer x).number) e in
      sym (ap (λ x. (answer_by refused_answer accepted_answer x).scheme.factor) e) ∙ one z

  module _ (lent : List ℤ) where
    abbrev penalty_by : (Register → Scheme → List ℤ → List ℤ) → Outcome (Register × Scheme) → PenaltyAnswer × List ℤ
    penalty_by holds x =
        let short = ltb (length lent) table_numbers in
        (cond short (answer 11 0 0) (answer_by answer (λ parts. answer 0 0 0) x), cond short lent (answer_by (λ number part at. lent) (λ (reg, sch). holds reg sch lent) x))

    tables_same : (x : Outcome (Register × Scheme)) → open_parts t s ≡ x → penalty_by with_penalty x ≡ penalty_by with_penalty_before_factors x
    tables_same (refuses n part at) e = refl
    tables_same (accepts (reg, sch)) e =
        let short = ltb (length lent) table_numbers in
        ap (λ f. (cond short (answer 11 0 0) (answer 0 0 0), cond short lent (with_table (side reg.choices sch) (entry f) lent))) (forms_same (coefficient reg) reg sch (one_opened reg sch e))

    penalty_same : penalty_call t s lent ≡ penalty_call_before_factors t s lent
    unfolding penalty_answer penalty_table
    penalty_same = tables_same (open_parts t s) refl ∙ ap (penalty_by with_penalty_before_factors) opens

  -- and the plan that chooses
  module _ (k : List ℕ) where
    opens_chosen : open_chosen t s k ≡ open_chosen_before_factors t s k
    opens_chosen = ap (λ x. and_then x λ (reg, sch). and_then (open_plan reg k) λ p. accepts (reg, sch, p)) opens

    check_same : (certificate : List ℕ) (lent : List ℤ) → check_call t s certificate k lent ≡ check_before_factors t s certificate k lent
    unfolding check_answer check_table
    check_same certificate lent = rw opens_chosen refl

    plain_same : (lent : List ℕ) → plain_call t s k lent ≡ plain_before_factors t s k lent
    unfolding plain_answer plain_buffer
    plain_same lent = rw opens_chosen refl

-- ---- bytes that begin with one were refused

were_refused : (t s : List ℕ) (reg : Register) → Part1 t reg → SaysFactor s → scheme_before_factors t s ≡ refused_answer 1 2 0
unfolding by_itself_before_factors
were_refused t s reg p says =
    let e = itself_refused s (was_refused reg s says) in
    rw (encoding_accepted t reg p.conditions p.bytes, e)

pub calls_as_before_factors : CallsAsBeforeFactors scheme_call penalty_call check_call plain_call
calls_as_before_factors = record {
  schemes = scheme_same;
  penalties = λ register scheme lent none. penalty_same register scheme none lent;
  checks = λ register scheme certificate plan lent none. check_same register scheme none plan certificate lent;
  plains = λ register scheme plan lent none. plain_same register scheme none plan lent;
  one = one;
}

pub as_before : AsBeforeFactors
as_before = record {
  part_2_in_job = as_before_factors_in_job;
  part_2_by_itself = as_before_factors;
  opens = opens;
  was_refused = was_refused;
  were_refused = were_refused;
  forms = forms_same;
}
