-- Parts 1 and 2, and of a register with a range the plan: what opening them says of their bytes, and what the code makes of them.
use mathlib.Core.Path.{◌≡◌, refl, sym, ◌∙◌, ap, subst}
use mathlib.Core.Bool.{Bool, true, false, cond}
use mathlib.Core.List.{List}
use Prim.Native.Nat.{ℕ}
use Rattle.wire.specs.Number.{Bytes}
use Rattle.std.specs.Prelude.{Result}
use Rattle.wire.specs.declared.refusals.Refused.{Refused}
use Rattle.wire.specs.declared.refusals.Read.{Read}
use Rattle.wire.specs.Part.{accepted, by_itself}
use Rattle.wire.specs.Rows.{Progress}
use Rattle.wire.specs.Outcome.{Outcome, refuses, accepts, given, and_then, added_by}
use Rattle.wire.specs.Results.{reading_of, whole_of}
use Rattle.wire.proofs.Results.{whole_added}
use Rattle.wire.proofs.Outcome.{Numbered, next_numbered, then_numbered, accepts_one, then_accepts, given_accepts}
use Rattle.register.specs.declared.Register.{Register}
use Rattle.register.specs.Register.{has_range}
use Rattle.plan.specs.Format.{plan_in_job, plan_by_itself}
use Rattle.plan.specs.Encoding.{Encodes}
use Rattle.plan.specs.Valid.{Valid}
use Rattle.plan.specs.Chosen.{under}
use Rattle.plan.proofs.Accept.{whole_valid, whole_encodes, whole_accepted}
use Rattle.plan.proofs.Answers.{plan_numbered}
use Rattle.scheme.specs.declared.Scheme.{Scheme}
use Rattle.scheme.specs.Valid as S
use Rattle.scheme.specs.Answer.{open_parts}
use Rattle.scheme.proofs.Opened.{Opened, opens, opened, opening_numbered}
use Rattle.bound.specs.Opening.{open_plan, open_chosen, opened_under}

-- ---- the plan

-- where a term has a range it is read, and else it is the plan that feeds nothing
pub plan_ranged : (reg : Register) (s : List ℕ) → has_range reg ≡ true → open_plan reg s ≡ given 4 (plan_by_itself reg s)
plan_ranged reg s e = rw e

pub plan_none : (reg : Register) (s : List ℕ) → has_range reg ≡ false → open_plan reg s ≡ accepts 0
plan_none reg s e = rw e

plan_opening_numbered : (reg : Register) (s : List ℕ) → Numbered (open_plan reg s)
plan_opening_numbered reg s = by (has_range reg)
  where
    by : (b : Bool) → Numbered (cond b (given 4 (plan_by_itself reg s)) (accepts 0))
    by true = next_numbered 4 (plan_by_itself reg s) _ (plan_numbered reg s) λ p end. tt
    by false = tt

-- ---- the three

-- they are accepted as these
pub record Chosen (t s k : List ℕ) (reg : Register) (sch : Scheme) (plan : ℕ) : Type 0 where
  pub parts : Opened t s reg sch
  pub opens_plan : open_plan reg k ≡ accepts plan

pub opens_chosen : {t s k : List ℕ} {reg : Register} {sch : Scheme} {plan : ℕ} → Chosen t s k reg sch plan → open_chosen t s k ≡ accepts (reg, sch, plan)
opens_chosen o = rw (opens o.parts, o.opens_plan)

module _ (t s k : List ℕ) where
  pub chosen_opened : (reg : Register) (sch : Scheme) (plan : ℕ) → open_chosen t s k ≡ accepts (reg, sch, plan) → Chosen t s k reg sch plan
  chosen_opened reg sch plan e =
      let ((reg', sch'), (x, f)) = then_accepts (open_parts t s) _ e in
      let (plan', (y, g)) = then_accepts (open_plan reg' k) _ f in
      subst (λ (z : Register × Scheme × ℕ). Chosen t s k z.0 z.1 z.2) (accepts_one g) (record { parts = opened t s reg' sch' x; opens_plan = y })

  pub chosen_numbered : Numbered (open_chosen t s k)
  chosen_numbered = then_numbered (open_parts t s) _ (opening_numbered t s) λ (reg, sch). then_numbered (open_plan reg k) _ (plan_opening_numbered reg k) λ p. tt

  -- what is refused, as the code has it
  pub under_refused : {n part at : ℕ} → refuses n part at ≡ opened_under t s k → open_chosen t s k ≡ refuses n part at
  under_refused {n} {part} {at} e = by (open_chosen t s k) (sym e)
    where
      by : (x : Outcome (Register × Scheme × ℕ)) → and_then {B = Register × Scheme} x (λ (reg, sch, p). accepts (under reg p, sch)) ≡ refuses n part at → x ≡ refuses n part at
      by (refuses n' part' at') f = cc
      by (accepts z) f = cc

  -- what is accepted
  pub under_accepted : (P : Register → Scheme → Type 0) {made : Register} {sch : Scheme} → accepts (made, sch) ≡ opened_under t s k →
      ((reg : Register) (sch : Scheme) (plan : ℕ) → Chosen t s k reg sch plan → P (under reg plan) sch) → P made sch
  under_accepted P e h =
      let ((reg, sch, plan), (x, f)) = then_accepts (open_chosen t s k) _ (sym e) in
      subst (λ (z : Register × Scheme). P z.0 z.1) (accepts_one f) (h reg sch plan (chosen_opened reg sch plan x))

-- ---- what the plan is

module _ (t s k : List ℕ) (reg : Register) (sch : Scheme) (plan : ℕ) (o : Chosen t s k reg sch plan) where
  pub chooses_0 : has_range reg ≡ false → plan ≡ 0
  chooses_0 e = sym (accepts_one (sym (plan_none reg k e) ∙ o.opens_plan))

  reading : (G : ℕ → Type 0) → has_range reg ≡ true → ((p : Progress ℕ) (end : ℕ) → plan_by_itself reg k ≡ accepted p end → G p.parsed) → G plan
  reading G e = given_accepts 4 (plan_by_itself reg k) G (sym (plan_ranged reg k e) ∙ o.opens_plan)

  pub chooses_valid : has_range reg ≡ true → Valid reg plan
  chooses_valid e = reading (Valid reg) e λ p end x. (whole_valid reg o.parts.register_valid.within.choices.few k p end x).0

  pub chooses_bytes : has_range reg ≡ true → Bytes k → Encodes reg plan k
  chooses_bytes e b = reading (λ p. Encodes reg p k) e λ p end x. whole_encodes reg o.parts.register_valid.within.choices.few k p end x b

-- an encoding of a valid plan is opened as it
pub chosen_encodings : (t s k : List ℕ) (reg : Register) (sch : Scheme) (plan : ℕ) → Opened t s reg sch → (has_range reg ≡ true → Valid reg plan × Encodes reg plan k) → (has_range reg ≡ false → plan ≡ 0) → Chosen t s k reg sch plan
chosen_encodings t s k reg sch plan o some none = record { parts = o; opens_plan = by (has_range reg) refl }
  where
    by : (b : Bool) → has_range reg ≡ b → open_plan reg k ≡ accepts plan
    by true e = let (v, x) = some e in plan_ranged reg k e ∙ rw (whole_accepted reg o.register_valid.within.choices.few plan k v x)
    by false e = plan_none reg k e ∙ ap accepts (sym (none e))

-- ---- the scheme, with another register

-- a scheme looks at choices and masks alone
pub scheme_for : (reg other : Register) (sch : Scheme) → other.choices ≡ reg.choices → other.terms ≡ reg.terms → other.masks ≡ reg.masks → S.Valid reg sch → S.Valid other sch
scheme_for reg other sch n m ms v =
    let w = v.within in
    record {
      within = record {
        factor = w.factor;
        lefts = w.lefts;
        rights = w.rights;
        products_within = w.products_within;
        variables_within = rw n w.variables_within;
        products = rw n w.products;
        split_lefts = w.split_lefts;
        split_rights = w.split_rights;
        splits_within = rw m w.splits_within;
        splits = rw (n, ms) w.splits;
      };
      all_split = rw m v.all_split;
    }

-- where no term has a range it is the register itself
pub under_none : (reg : Register) (plan : ℕ) → has_range reg ≡ false → under reg plan ≡ reg
under_none reg plan e = rw e

-- ---- the code: with a range, from parts that are opened and the plan that is read with the register

opened_with : (reg : Register) (sch : Scheme) (x : Outcome ℕ) →
    and_then x (λ p. accepts (under reg p, sch)) ≡ and_then {B = Register × Scheme} (and_then {B = Register × Scheme × ℕ} x (λ p. accepts (reg, sch, p))) (λ (reg, sch, p). accepts (under reg p, sch))
opened_with reg sch (refuses n part at) = refl
opened_with reg sch (accepts p) = refl

pub opened_then : (t s k : List ℕ) (reg : Register) (sch : Scheme) (read : Result (Read ℕ) Refused) → has_range reg ≡ true → accepts (reg, sch) ≡ open_parts t s →
    reading_of read ≡ added_by (λ p. p) (plan_in_job reg k) → (x : Outcome ℕ) → x ≡ whole_of 4 (by_itself k (reading_of read)) → and_then x (λ p. accepts (under reg p, sch)) ≡ opened_under t s k
unfolding plan_by_itself
opened_then t s k reg sch read some opens r x e =
    let plan : x ≡ open_plan reg k = e ∙ ap (λ y. whole_of 4 (by_itself k y)) r ∙ whole_added 4 k (plan_in_job reg k) ∙ sym (plan_ranged reg k some) in
    opened_with reg sch x ∙ rw (← opens, plan)
