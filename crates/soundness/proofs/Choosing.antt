-- The plan that chooses the coefficients, of our calls: that opening parts 1, 2 and 4 is `Choosing`, that without a range the low ones are
-- chosen, and that a plan which does not fit is refused 15 by the check and for our own certificate.
use Prim.Native.Nat.{ℕ, ◌-◌, ◌^◌, ◌≤◌, ◌<◌}
use native.Mathlib.Omega.{arith}
use mathlib.Core.Path.{◌≡◌, refl, sym, ◌∙◌, ap, ap₂, fun_ext}
use mathlib.Core.Logic.{⊎_elim}
use mathlib.Core.Bool.{true, false}
use mathlib.Core.List.{List, ◌++◌}
use lib.IntN.{ℤ, pos}
use lib.ListN.{length}
use lib.Pow.{pow_mono}
use borrow.Author.Tests.{lt-leb, le-leb, le-ltb}
use Rattle.integers.proofs.Lists.{flag}
use Rattle.wire.specs.Number.{Bytes, bytes_of}
use Rattle.wire.specs.Checks.{refusal, command_checks}
use Rattle.wire.specs.Part.{refused, checks_at, operands_at, total, read_part}
use Rattle.wire.specs.Rows.{row_of}
use Rattle.wire.specs.Outcome.{refuses}
use Rattle.wire.proofs.Number.{nat_at_front}
use Rattle.wire.proofs.Part.{read_from_refused}
use Rattle.wire.proofs.Outcome.{itself_refused}
use Rattle.forms.specs.Table.{table_numbers}
use Rattle.register.specs.declared.Register.{Register}
use Rattle.register.specs.Limits.{max_choices}
use Rattle.register.specs.Register.{coefficient, has_range}
use Rattle.register.specs.Valid.{Valid}
use Rattle.register.specs.Encoding.{Narrow}
use Rattle.scheme.specs.declared.Scheme.{Scheme}
use Rattle.scheme.proofs.Opened.{Opened, opens, opened_encodings}
use Rattle.plan.specs.Fits.{Fits, fits}
use Rattle.plan.specs.Format.{plan_checks, plan_part, plan_in_job, plan_by_itself}
use Rattle.plan.specs.Encoding.{Encodes, encode_narrow_plan, encode_wide_plan}
use Rattle.plan.specs.Chosen.{chosen}
use Rattle.plan.proofs.Accept.{encodings}
use Rattle.plan.proofs.Coefficients.{chosen_known}
use Rattle.plan.proofs.Fits.{register_fits}
use Rattle.bound.specs.Opening.{open_chosen}
use Rattle.bound.proofs.Opening.{Chosen, chooses_0, chooses_valid, chooses_bytes, chosen_encodings}
use Rattle.bound.proofs.Answers as C
use Rattle.plain.proofs.Answers as P
use Rattle.soundness.specs.Calls.{check_call, plain_call}
use Rattle.soundness.specs.Parts.{Part1, Part2, Choosing}
use Rattle.soundness.specs.Writers.{refused_back}
use Rattle.soundness.specs.Rows.{Misfit}

-- ---- parts 1, 2 and 4

pub opened_parts : (t s : List ℕ) (reg : Register) (sch : Scheme) → Part1 t reg → Part2 reg s sch → Opened t s reg sch
opened_parts t s reg sch p q = opened_encodings t s reg sch p.conditions p.bytes q.conditions q.bytes

pub choosing_of : {t s k : List ℕ} {reg : Register} {sch : Scheme} {plan : ℕ} → Chosen t s k reg sch plan → Bytes k → Choosing reg k plan
choosing_of o b = record { part_4 = λ e. record { conditions = chooses_valid _ _ _ _ _ _ o e; bytes = chooses_bytes _ _ _ _ _ _ o e b }; none = chooses_0 _ _ _ _ _ _ o }

pub chosen_of : {t s k : List ℕ} {reg : Register} {sch : Scheme} {plan : ℕ} → Opened t s reg sch → Choosing reg k plan → Chosen t s k reg sch plan
chosen_of o c = chosen_encodings _ _ _ _ _ _ o (λ e. let p = c.part_4 e in (p.conditions, p.bytes)) c.none

pub chosen_parts : {t s k : List ℕ} {reg : Register} {sch : Scheme} {plan : ℕ} → Part1 t reg → Part2 reg s sch → Choosing reg k plan → Chosen t s k reg sch plan
chosen_parts p q = chosen_of (opened_parts _ _ _ _ p q)

-- ---- a register without a range

pub chosen_low : (reg : Register) → Valid reg → has_range reg ≡ false → (plan : ℕ) → chosen reg plan ≡ coefficient reg
chosen_low reg v none plan = fun_ext (chosen_known reg v.within plan none)

pub choosing_none : (reg : Register) (plan : List ℕ) → has_range reg ≡ false → Choosing reg plan 0
choosing_none reg plan none = record { part_4 = λ some. cc; none = λ e. refl }

-- ---- the plan's command at the front

module _ (reg : Register) (fed : ℕ) (rest : List ℕ) (n : ℕ) (own : refusal (plan_checks reg.choices fed (fits reg fed)) ≡ n) (d : n ≡ 0 → ⊥) where
  by_narrow : Narrow fed → plan_in_job reg (encode_narrow_plan fed ++ rest) ≡ refused n 0
  unfolding plan_in_job read_part checks_at command_checks refusal row_of operands_at total encode_narrow_plan bytes_of
  by_narrow small =
      let bytes = encode_narrow_plan fed ++ rest in
      read_from_refused (plan_part reg) bytes (plan_part reg).start 0 n (omega arith)
      (rw (le-ltb (length bytes - 0) 5 (omega arith), nat_at_front 4 bytes 1 fed rest refl small) own) d

  by_wide : fed < 2 ^ 64 → plan_in_job reg (encode_wide_plan fed ++ rest) ≡ refused n 0
  unfolding plan_in_job read_part checks_at command_checks refusal row_of operands_at total encode_wide_plan bytes_of
  by_wide small =
      let bytes = encode_wide_plan fed ++ rest in
      read_from_refused (plan_part reg) bytes (plan_part reg).start 0 n (omega arith)
      (rw (le-ltb (length bytes - 0) 9 (omega arith), nat_at_front 8 bytes 1 fed rest refl small) own) d

  -- in either form it is refused by its own checks
  pub plan_stands : (front : List ℕ) → Encodes reg fed front → fed < 2 ^ 64 → plan_in_job reg (front ++ rest) ≡ refused n 0
  plan_stands front e small = ⊎_elim (λ (narrow, q). rw q (by_narrow narrow)) (λ q. rw q (by_wide small)) ((encodings reg fed front).0 e)

module _ (reg : Register) (fed : ℕ) where
  misfit_checks : fed < 2 ^ reg.choices → (Fits reg fed → ⊥) → refusal (plan_checks reg.choices fed (fits reg fed)) ≡ 15
  unfolding plan_checks refusal
  misfit_checks l h = rw (lt-leb (2 ^ reg.choices) fed l, flag (fits reg fed) (λ e. absurd (h ((register_fits reg fed).0 e))) (λ e. e))

  pub unnamed_checks : 2 ^ reg.choices ≤ fed → refusal (plan_checks reg.choices fed (fits reg fed)) ≡ 5
  unfolding plan_checks refusal
  unnamed_checks l = rw (le-leb (2 ^ reg.choices) fed l)

  pub plan_misfit : (front rest : List ℕ) → Encodes reg fed front → reg.choices ≤ max_choices → fed < 2 ^ reg.choices → (Fits reg fed → ⊥) → plan_in_job reg (front ++ rest) ≡ refused 15 0
  plan_misfit front rest e few l h = plan_stands reg fed rest 15 (misfit_checks l h) (λ z. omega arith) front e (omega (arith, l, pow_mono few))

module _ (t plan : List ℕ) (k : Misfit t plan) where
  pub misfit_read : plan_in_job k.reg plan ≡ refused 15 0
  misfit_read = ap (plan_in_job k.reg) k.bytes ∙ plan_misfit k.reg k.fed k.front k.rest k.encodes k.part_1.conditions.within.choices.few k.inside k.misfit

  -- where the register has a range, it is refused between parts 2 and 3
  module _ (s : List ℕ) (sch : Scheme) (some : has_range k.reg ≡ true) (q : Part2 k.reg s sch) where
    opening_misfit : open_chosen t s plan ≡ refuses 15 4 0
    unfolding plan_by_itself
    opening_misfit = rw (opens (opened_parts t s k.reg sch k.part_1 q), some, itself_refused plan misfit_read)

pub misfit_checked : (register scheme certificate plan : List ℕ) (table : List ℤ) (sch : Scheme) (k : Misfit register plan) → has_range k.reg ≡ true → Part2 k.reg scheme sch →
    table_numbers ≤ length table → check_call register scheme certificate plan table ≡ (record { number = 15; part = 4; position = 0; bound = pos 0 }, table)
misfit_checked t s c plan table sch k some q l =
    let a = C.part_refused t s c plan table l 15 4 0 (opening_misfit t plan k s sch some q) in
    ap₂ (λ x y. (x, y)) (sym a.answers) (sym a.holds)

pub misfit_own : (register scheme plan lent : List ℕ) (sch : Scheme) (k : Misfit register plan) → has_range k.reg ≡ true → Part2 k.reg scheme sch →
    plain_call register scheme plan lent ≡ refused_back 15 4 0 lent
misfit_own t s plan lent sch k some q =
    let (a, b) = P.part_refused t s plan lent 15 4 0 (opening_misfit t plan k s sch some q) in
    ap₂ (λ x y. (x, y)) (sym a) (sym b)
