-- The plan's commands, and what reading one leads to.
use mathlib.Core.Path.{◌≡◌, sym, ◌∙◌}
use mathlib.Core.Logic.{inl, inr}
use mathlib.Core.Bool.{true}
use mathlib.Core.List.{List}
use Prim.Native.Nat.{ℕ, ◌≤◌}
use native.Mathlib.Nat.{sub-zero}
use native.Mathlib.Omega.{arith}
use native.Mathlib.Decide.{ℕ_discrete}
use lib.ListN.{length, get_or}
use borrow.Author.Tests.{ltb-false, ne_eqb, not-false}
use Rattle.wire.specs.Checks.{Check, refusal, command_checks}
use Rattle.wire.specs.Part.{refused, accepted, operands_at, total, size, checks_at, after_at, read_part}
use Rattle.wire.specs.Rows.{is_among, row_of}
use Rattle.wire.specs.Grammar.{Among}
use Rattle.wire.specs.Results.{number_of}
use Rattle.wire.specs.declared.refusals.Refusal.{Refusal}
use Rattle.wire.proofs.Checks.{Passed, refusal_none}
use Rattle.wire.proofs.Grammar.{among_test}
use Rattle.wire.proofs.Part.{read_from_missing, read_from_refused, read_from_ends}
use Rattle.wire.proofs.Rest.{no_row_lem}
use Rattle.wire.proofs.Accepting.{reached}
use Rattle.wire.proofs.Results.{numbered}
use Rattle.register.specs.declared.Register.{Register}
use Rattle.plan.specs.Fits.{fits}
use Rattle.plan.specs.Format.{plan_checks, plan_rows, plan_part, plan_in_job}
use Rattle.plan.specs.Answer.{plan_bytes, plan_said}

-- ---- by the command's byte

by_byte : {A : Type 0} (b : ℕ) → (b ≡ 0x40 → A) → (b ≡ 0x41 → A) → ((b ≡ 0x40 → ⊥) → (b ≡ 0x41 → ⊥) → A) → A
by_byte {A} b narrow wide other = go (ℕ_discrete b 0x40) (ℕ_discrete b 0x41)
  where
    go : Dec (b ≡ 0x40) → Dec (b ≡ 0x41) → A
    go (yes e) _ = narrow e
    go (no d) (yes e) = wide e
    go (no d) (no f) = other d f

-- a plan's command that is not the wide one
pub narrow_byte : (b : ℕ) → is_among b plan_bytes ≡ true → (b ≡ 0x41 → ⊥) → b ≡ 0x40
narrow_byte b h d = by (among_test b plan_bytes h)
  where
    by : Among b plan_bytes → b ≡ 0x40
    by (inl e) = e
    by (inr (inl e)) = absurd (d e)
    by (inr (inr f)) = absurd f

-- the bytes of a command

module _ (reg : Register) where
  pub narrow_size : (b : ℕ) → b ≡ 0x40 → size (plan_part reg) b ≡ 5
  unfolding row_of total
  narrow_size b e = rw e

  pub wide_size : (b : ℕ) → b ≡ 0x41 → size (plan_part reg) b ≡ 9
  unfolding row_of total
  wide_size b e = rw e

  pub other_size : (b : ℕ) → (b ≡ 0x40 → ⊥) → (b ≡ 0x41 → ⊥) → size (plan_part reg) b ≡ 1
  unfolding total
  other_size b d e = rw (no_row_lem (plan_rows reg) b (d, (e, tt)))

-- are as many with any register
pub size_same : (reg reg' : Register) (b : ℕ) → size (plan_part reg) b ≡ size (plan_part reg') b
size_same reg reg' b =
    by_byte b
    (λ e. narrow_size reg b e ∙ sym (narrow_size reg' b e))
    (λ e. wide_size reg b e ∙ sym (wide_size reg' b e))
    (λ d e. other_size reg b d e ∙ sym (other_size reg' b d e))

-- ---- the plan at the front of a run of bytes

-- its checks, and their refusal

abbrev pub checks_of : Register → List ℕ → List Check
checks_of reg s =
    let b = get_or s 0 0 in
    let plan = plan_said s in
    command_checks (is_among b plan_bytes) (length s) (size (plan_part reg) b) (plan_checks reg.choices plan (fits reg plan))

abbrev pub refusal_of : Register → List ℕ → ℕ
refusal_of reg s = refusal (checks_at (plan_part reg) s (plan_part reg).start 0)

module _ (reg : Register) (s : List ℕ) where
  pub refusal_is : refusal_of reg s ≡ refusal (checks_of reg s)
  unfolding checks_at row_of operands_at total command_checks refusal
  refusal_is =
      by_byte (get_or s 0 0)
      (λ e. rw (e, sub-zero))
      (λ e. rw (e, sub-zero))
      (λ d e. rw (ne_eqb _ _ d, ne_eqb _ _ e))

  pub plan_missing : length s ≡ 0 → plan_in_job reg s ≡ refused 2 0
  unfolding plan_in_job read_part
  plan_missing e = read_from_missing (plan_part reg) s (plan_part reg).start 0 (omega arith)

  pub plan_refused : (n : ℕ) → (length s ≡ 0 → ⊥) → n ≡ refusal_of reg s → (n ≡ 0 → ⊥) → plan_in_job reg s ≡ refused n 0
  unfolding plan_in_job read_part
  plan_refused n l e h = read_from_refused (plan_part reg) s (plan_part reg).start 0 n (omega arith) (sym e) h

  -- a refusal that its checks lead to
  pub plan_refused_by : (refusal : Refusal) → (length s ≡ 0 → ⊥) → number_of refusal ≡ refusal_of reg s → plan_in_job reg s ≡ refused (number_of refusal) 0
  plan_refused_by refusal l e = plan_refused (number_of refusal) l e (numbered refusal)

  -- where the command is not refused
  module _ (e : refusal_of reg s ≡ 0) where
    passed : Passed (checks_of reg s)
    unfolding command_checks plan_checks
    passed = refusal_none (checks_of reg s) (omega arith, (omega arith, (omega arith, (omega arith, tt)))) (sym refusal_is ∙ e)

    pub plan_byte : is_among (get_or s 0 0) plan_bytes ≡ true
    unfolding command_checks
    plan_byte = not-false _ passed.0

    pub plan_room : (any : Register) → size (plan_part any) (get_or s 0 0) ≤ length s
    unfolding command_checks
    plan_room any = rw (size_same any reg) (ltb-false _ _ passed.1.0)

    pub plan_ends : (length s ≡ 0 → ⊥) → plan_in_job reg s ≡ accepted (reached (get_or s 0 0) (plan_said s)) (size (plan_part reg) (get_or s 0 0))
    unfolding plan_in_job read_part row_of total after_at operands_at
    plan_ends l = by (among_test _ plan_bytes plan_byte)
      where
        by : Among (get_or s 0 0) plan_bytes → plan_in_job reg s ≡ accepted (reached (get_or s 0 0) (plan_said s)) (size (plan_part reg) (get_or s 0 0))
        by (inl b) = read_from_ends (plan_part reg) s (plan_part reg).start 0 (omega arith) e (rw b) ∙ rw b
        by (inr (inl b)) = read_from_ends (plan_part reg) s (plan_part reg).start 0 (omega arith) e (rw b) ∙ rw b
        by (inr (inr h)) = absurd h
