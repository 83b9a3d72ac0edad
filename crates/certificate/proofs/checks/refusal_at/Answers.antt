-- The common checks first, then by the command's byte those of its operands.
use Prim.Native.Nat.{ℕ, ◌+◌, ◌-◌, ◌≤◌}
use native.Mathlib.Omega.{arith}
use mathlib.Core.Path.{◌≡◌, refl, ◌∙◌, ap}
use mathlib.Core.List.{List, []}
use mathlib.Core.Bool.{Bool}
use lib.ListN.{length, get_or}
use mir.Syntax.{w64}
use mir.Val.{SFits}
use mir.Facts.{to_z-of_z}
use borrow.Author.Rules.{rules}
use Rattle.wire.specs.Number.{int_at}
use Rattle.wire.specs.Checks.{refusal, command_checks}
use Rattle.wire.specs.Part.{operands_at, checks_at}
use Rattle.wire.specs.Results.{number_of, number_in}
use Rattle.wire.specs.Rows.{Progress, is_among, row_of}
use Rattle.wire.proofs.Checks.{command_room, command_here}
use Rattle.wire.proofs.Results.{numbered}
use Rattle.wire.proofs.Loop.{operands_of, common_refused, common_own}
use Rattle.register.specs.declared.Register.{Register}
use Rattle.register.specs.Register as R
use Rattle.scheme.specs.declared.Scheme.{Scheme}
use Rattle.scheme.specs.Scheme as S
use Rattle.certificate.specs.declared.Seen.{Seen}
use Rattle.certificate.specs.Certificate.{Certificate, fresh}
use Rattle.certificate.specs.Format.{command_size, certificate_rows, certificate_part}
use Rattle.certificate.specs.Answer.{IsMultiplier, seen_of, multiplier_at, square_read}
use Rattle.certificate.proofs.Asks.{own_named}
use Rattle.certificate.proofs.Sizes.{size_is, size_scale}
use Rattle.certificate.proofs.Rows.{row_multiplier, only_multiplier}
use Rattle.certificate.proofs.checks.refusal_at.Goals as goal
use Rattle.certificate.proofs.checks.refusal_at.Goals.{In_ok-check_command}

-- once place and size are judged
module _ (reg : Register) (sch : Scheme) (s : List ℕ) (at : ℕ) (seen : Seen) where
  abbrev b : ℕ
  b = get_or s at 0

  abbrev Judged : ℕ → ℕ → Type 0
  Judged previous number = number ≡ refusal (command_checks (is_among previous (row_of (certificate_rows reg sch) b).follows) (length s - at) (command_size b) [])

  module _ {stands : Bool} {size number : ℕ} (x : stands ≡ is_among seen.previous (row_of (certificate_rows reg sch) b).follows) (y : size ≡ command_size b) (z : number ≡ refusal (command_checks stands (length s - at) size [])) where
    judged : Judged seen.previous number
    judged = rw (← x, ← y) z

    -- of what has been read
    shown : (p : Progress Certificate) → seen_of reg sch p ≡ seen → Judged p.previous number
    shown p f = rw (ap (λ x. x.previous) f) judged

-- and not refused
module _ (c : In_ok-check_command) where
  abbrev command : ℕ
  command = get_or c.args.bytes.now c.args.at 0

  room : c.args.at + command_size command ≤ length c.args.bytes.now
  room = omega (arith, command_room _ _ _ [] _ c.in_ok-check_command.ensures refl, c.command_size.ensures)

  module _ (reg : Register) (sch : Scheme) where
    own : (p : Progress Certificate) → seen_of reg sch p ≡ c.args.seen → (k : ℕ) → command ≡ k → refusal ((row_of (certificate_rows reg sch) k).checks p.parsed (operands_of fresh (certificate_rows reg sch) c.args.bytes.now c.args.at k)) ≡ refusal (checks_at (certificate_part reg sch) c.args.bytes.now p c.args.at)
    own p f k e =
        common_own fresh (certificate_rows reg sch) c.args.bytes.now p c.args.at k e _
        (rw (← e, size_is reg sch) (shown reg sch c.args.bytes.now c.args.at c.args.seen (c.stands_after.ensures reg sch) c.command_size.ensures c.in_ok-check_command.ensures p f))
        refl

    -- a byte that is none of the others
    between : (command ≡ 0x30 → ⊥) → (command ≡ 0x3A → ⊥) → (command ≡ 0x3F → ⊥) → IsMultiplier command
    between =
        only_multiplier reg sch _ _
        (command_here _ _ _ [] _ (judged reg sch c.args.bytes.now c.args.at c.args.seen (c.stands_after.ensures reg sch) c.command_size.ensures c.in_ok-check_command.ensures) refl)

pub returns-in_err-check_command : goal.returns-in_err-check_command
returns-in_err-check_command c = λ reg sch p f h.
    let refusal = c.in_err-check_command.field-0.0 in
    let said : number_in c.from_residual.result ≡ number_of refusal = search rules in
    said
    ∙ common_refused fresh (certificate_rows reg sch) c.args.bytes.now p c.args.at _ refl _
    (rw (size_is reg sch) (shown reg sch c.args.bytes.now c.args.at c.args.seen (c.stands_after.ensures reg sch) c.command_size.ensures c.in_err-check_command.ensures p f))
    (numbered refusal)

-- scale and target

pub read-scale-requires : goal.read-scale-requires
read-scale-requires c = omega (arith, size_scale, rw c.in-48.is at (room (goal.at.read-scale-requires c).In_ok-check_command))

pub read-target-requires : goal.read-target-requires
read-target-requires c = omega (arith, size_scale, rw c.in-48.is at (room (goal.at.read-target-requires c).In_ok-check_command))

pub returns-in-48 : goal.returns-in-48
unfolding row_of operands_at int_at
returns-in-48 c = λ reg sch p f h.
    c.scale_refusal.ensures
    ∙ rw (to_z-of_z (record { sfits = c.read-target.type_inv }), c.read-target.ensures, c.read-scale.ensures) (own (goal.at.returns-in-48 c).In_ok-check_command reg sch p f 0x30 c.in-48.is)

-- a square

pub square_at-requires : goal.square_at-requires
square_at-requires c = rw c.in-58.is at (room (goal.at.square_at-requires c).In_ok-check_command)

pub returns-in-58 : goal.returns-in-58
unfolding row_of square_read
returns-in-58 c = λ reg sch p f h. c.square_refusal.ensures ∙ rw (← f, c.square_at.ensures) (own (goal.at.returns-in-58 c).In_ok-check_command reg sch p f 0x3A c.in-58.is)

pub returns-in-63 : goal.returns-in-63
unfolding row_of refusal
returns-in-63 c = λ reg sch p f h. own (goal.at.returns-in-63 c).In_ok-check_command reg sch p f 0x3F c.in-63.is

-- a multiplier command

pub multiplier_at-t-requires-clause-kind : goal.multiplier_at-t-requires-clause-kind
multiplier_at-t-requires-clause-kind c = between (goal.at.multiplier_at-t-requires-clause-kind c).In_ok-check_command R.fresh S.fresh (λ e. omega arith) (λ e. omega arith) (λ e. omega arith)

pub multiplier_at-t-requires-clause-at_in_bounds : goal.multiplier_at-t-requires-clause-at_in_bounds
multiplier_at-t-requires-clause-at_in_bounds c = room (goal.at.multiplier_at-t-requires-clause-at_in_bounds c).In_ok-check_command

pub returns-in_default : goal.returns-in_default
unfolding multiplier_at
returns-in_default c = λ reg sch p f h.
    let m = (goal.at.returns-in_default c).In_ok-check_command in
    let x = between m reg sch (λ e. omega arith) (λ e. omega arith) (λ e. omega arith) in
    let ok : SFits w64 c.multiplier_at-t.result.m = search rules in
    c.multiplier_refusal.ensures _ (c.rule_of-rule.ensures reg sch (rw (← f) (record { choices_is = refl; variables_is = refl; rows_is = refl; sets_are = h })))
    ∙ rw (to_z-of_z ok, ← f) (own_named _ _ sch c.multiplier_at-t.result _ c.multiplier_at-t.ensures ∙ rw (row_multiplier reg sch _ x) at (own m reg sch p f _ refl))
