use Prim.Native.Nat.{ℕ, ◌+◌, ◌-◌, ◌<◌, ◌≤◌}
use native.Mathlib.Omega.{arith}
use mathlib.Core.Path.{◌≡◌, refl, ◌∙◌}
use mathlib.Core.Logic.{◌⊎◌, ⊎_elim}
use mathlib.Core.Bool.{Bool}
use mathlib.Core.List.{List, [], ◌∷◌}
use lib.ListN.{length, get_or}
use mir.Facts.{to_z-of_z}
use Rattle.integers.proofs.Lists.{◌▹◌}
use Rattle.std.proofs.Common.{rules}
use Rattle.wire.specs.Number.{int_at}
use Rattle.wire.specs.Checks.{Check, refusal, command_checks}
use Rattle.wire.specs.Part.{operands_at, total, size, checks_at}
use Rattle.wire.specs.Results.{number_of, number_in}
use Rattle.wire.specs.Rows.{Progress, is_among, row_of}
use Rattle.wire.proofs.Accepting.{reached}
use Rattle.wire.proofs.Checks.{command_room, command_here}
use Rattle.wire.proofs.Rest.{only_last}
use Rattle.wire.proofs.Results.{numbered}
use Rattle.wire.proofs.Loop.{operands_of, common_refused, common_own}
use Rattle.register.specs.declared.Register.{Register}
use Rattle.register.specs.Register.{fresh}
use Rattle.register.specs.Format.{base_row, choice_row, term_row, window_row, row_row, wide_term_row, range_row, length_row, end_row, may_feed, register_rows, register_part}
use Rattle.register.proofs.Passes.{choice_settled}
use Rattle.register.proofs.RowOperands.{zeros_at}
use Rattle.register.proofs.checks.refusal_at.Goals.{In_ok-check_command}
use Rattle.register.proofs.checks.refusal_at.Goals as goal

-- the checks of place and size, once these are judged
abbrev common : List ℕ → ℕ → ℕ → List Check
common s at previous = let b = get_or s at 0 in command_checks (is_among previous (row_of register_rows b).follows) (length s - at) (size register_part b) []

judged : (s : List ℕ) (at previous n : ℕ) {here : Bool} {m : ℕ} → here ≡ is_among previous (row_of register_rows (get_or s at 0)).follows → m ≡ size register_part (get_or s at 0) → n ≡ refusal (command_checks here (length s - at) m []) → n ≡ refusal (common s at previous)
judged s at previous n h e r = rw (← h, ← e) r

-- and not refused
module _ (c : In_ok-check_command) where
  abbrev bytes : List ℕ
  bytes = c.args.bytes.now

  abbrev at : ℕ
  at = c.args.at

  abbrev p : Progress Register
  p = reached c.args.previous c.args.register.now

  passed : 0 ≡ refusal (common bytes at c.args.previous)
  passed = judged _ _ _ _ c.stands_after.ensures c.command_size.ensures c.in_ok-check_command.ensures

  room : (k n : ℕ) → get_or bytes at 0 ≡ k → size register_part k ≡ n → n ≤ length bytes - at
  room k n e f = let g : size register_part (get_or bytes at 0) ≡ n = rw e f in rw g at (command_room _ _ _ [] _ passed refl)

  own : (k : ℕ) → get_or bytes at 0 ≡ k → refusal ((row_of register_rows k).checks p.parsed (operands_of fresh register_rows bytes at k)) ≡ refusal (checks_at register_part bytes p at)
  own k e = common_own fresh register_rows bytes p at k e _ (rw (← e) passed) refl

-- windows of tanks below the last choice's are of lower tanks than a choice that rises
risen : (tanks : List ℕ) {n tank₀ tank passed : ℕ} → (n ≡ 0) ⊎ (tank₀ ≤ tank) → ((j : ℕ) → j < passed → (1 ≤ n) × (get_or tanks j 0 < tank₀)) → (j : ℕ) → j < passed → get_or tanks j 0 < tank
risen tanks h earlier j l = let (some, lower) = earlier j l in ⊎_elim (λ z. absurd (omega arith)) (λ k. omega (arith, lower, k)) h

pub returns-in_err-check_command : goal.returns-in_err-check_command
returns-in_err-check_command c =
    let refusal = c.in_err-check_command.field-0.0 in
    let said : number_in c.from_residual.result ≡ number_of refusal = search rules in
    said ∙ common_refused fresh register_rows c.args.bytes.now (reached c.args.previous c.args.register.now) c.args.at _ refl _ (judged _ _ _ _ c.stands_after.ensures c.command_size.ensures c.in_err-check_command.ensures) (numbered refusal)

pub read-requires : goal.read-requires
unfolding row_of total
read-requires c = omega (arith, room (goal.at.read-requires c).In_ok-check_command 0x10 5 c.in-16.is refl)

pub read-tank-requires : goal.read-tank-requires
unfolding row_of total
read-tank-requires c = omega (arith, room (goal.at.read-tank-requires c).In_ok-check_command 0x11 5 c.in-17.is refl)

pub read-minute-requires : goal.read-minute-requires
unfolding row_of total
read-minute-requires c = omega (arith, room (goal.at.read-minute-requires c).In_ok-check_command 0x11 5 c.in-17.is refl)

pub read-requires-in-18 : goal.read-requires-in-18
unfolding row_of total
read-requires-in-18 c = omega (arith, room (goal.at.read-requires-in-18 c).In_ok-check_command 0x12 9 c.in-18.is refl)

pub read-coefficient-requires : goal.read-coefficient-requires
unfolding row_of total
read-coefficient-requires c = omega (arith, room (goal.at.read-coefficient-requires c).In_ok-check_command 0x12 9 c.in-18.is refl)

pub read-tank-requires-in-19 : goal.read-tank-requires-in-19
unfolding row_of total
read-tank-requires-in-19 c = omega (arith, room (goal.at.read-tank-requires-in-19 c).In_ok-check_command 0x13 7 c.in-19.is refl)

pub read-from-requires : goal.read-from-requires
unfolding row_of total
read-from-requires c = omega (arith, room (goal.at.read-from-requires c).In_ok-check_command 0x13 7 c.in-19.is refl)

pub read-to-requires : goal.read-to-requires
unfolding row_of total
read-to-requires c = omega (arith, room (goal.at.read-to-requires c).In_ok-check_command 0x13 7 c.in-19.is refl)

pub read-total-requires : goal.read-total-requires
unfolding row_of total
read-total-requires c = omega (arith, room (goal.at.read-total-requires c).In_ok-check_command 0x14 35 c.in-20.is refl)

pub past_zero-zeros-requires : goal.past_zero-zeros-requires
unfolding row_of total
past_zero-zeros-requires c = omega (arith, room (goal.at.past_zero-zeros-requires c).In_ok-check_command 0x14 35 c.in-20.is refl)

pub read-mask-requires : goal.read-mask-requires
unfolding row_of total
read-mask-requires c = omega (arith, room (goal.at.read-mask-requires c).In_ok-check_command 0x15 13 c.in-21.is refl)

pub read-coefficient-requires-in-21 : goal.read-coefficient-requires-in-21
unfolding row_of total
read-coefficient-requires-in-21 c = omega (arith, room (goal.at.read-coefficient-requires-in-21 c).In_ok-check_command 0x15 13 c.in-21.is refl)

pub read-requires-in-22 : goal.read-requires-in-22
unfolding row_of total
read-requires-in-22 c = omega (arith, room (goal.at.read-requires-in-22 c).In_ok-check_command 0x16 13 c.in-22.is refl)

pub read-low-requires : goal.read-low-requires
unfolding row_of total
read-low-requires c = omega (arith, room (goal.at.read-low-requires c).In_ok-check_command 0x16 13 c.in-22.is refl)

pub read-high-requires : goal.read-high-requires
unfolding row_of total
read-high-requires c = omega (arith, room (goal.at.read-high-requires c).In_ok-check_command 0x16 13 c.in-22.is refl)

pub read-requires-in-24 : goal.read-requires-in-24
unfolding row_of total
read-requires-in-24 c = omega (arith, room (goal.at.read-requires-in-24 c).In_ok-check_command 0x18 3 c.in-24.is refl)

pub returns-in-16 : goal.returns-in-16
unfolding row_of operands_at int_at
returns-in-16 c = c.base_refusal.ensures ∙ rw (to_z-of_z (record { sfits = c.read.type_inv }), c.read.ensures) (own (goal.at.returns-in-16 c).In_ok-check_command 0x10 c.in-16.is)

pub returns-in-17 : goal.returns-in-17
unfolding row_of operands_at
returns-in-17 c =
    let a = c.args in
    let r = a.register.now in
    let g = c.requires.given in
    let tank = c.read-tank.result in
    let minute = c.read-minute.result in
    c.choice_refusal.ensures
    ∙ choice_settled r.day_length r.choices _ _ tank minute c.may_feed-may.result (may_feed r.windows r.window_tanks r.window_froms r.window_tos tank minute) (λ h. c.may_feed-may.ensures g.no_fall (risen r.window_tanks h g.earlier))
    ∙ rw (c.read-minute.ensures, c.read-tank.ensures) (own (goal.at.returns-in-17 c).In_ok-check_command 0x11 c.in-17.is)

pub returns-in-18 : goal.returns-in-18
unfolding row_of operands_at int_at
returns-in-18 c = c.term_refusal.ensures ∙ rw (to_z-of_z (record { sfits = c.read-coefficient.type_inv }), c.read-coefficient.ensures, c.from-mask.ensures, c.read-in-18.ensures) (own (goal.at.returns-in-18 c).In_ok-check_command 0x12 c.in-18.is)

pub returns-in-19 : goal.returns-in-19
unfolding row_of operands_at
returns-in-19 c = c.window_refusal.ensures ∙ rw (c.read-to.ensures, c.read-from.ensures, c.read-tank-in-19.ensures) (own (goal.at.returns-in-19 c).In_ok-check_command 0x13 c.in-19.is)

pub returns-in-20 : goal.returns-in-20
unfolding row_of operands_at int_at
returns-in-20 c =
    c.row_refusal.ensures
    ∙ rw (c.past_zero-zeros.ensures, to_z-of_z (record { sfits = c.read-total.type_inv }), c.read-total.ensures, ← zeros_at c.args.register.now.choices c.args.bytes.now (c.args.at + 1)) (own (goal.at.returns-in-20 c).In_ok-check_command 0x14 c.in-20.is)

pub returns-in-21 : goal.returns-in-21
unfolding row_of operands_at int_at
returns-in-21 c = c.term_refusal-in-21.ensures ∙ rw (to_z-of_z (record { sfits = c.read-coefficient-in-21.type_inv }), c.read-coefficient-in-21.ensures, c.read-mask.ensures) (own (goal.at.returns-in-21 c).In_ok-check_command 0x15 c.in-21.is)

pub returns-in-22 : goal.returns-in-22
unfolding row_of operands_at int_at
returns-in-22 c =
    c.range_refusal.ensures
    ∙ rw (to_z-of_z (record { sfits = c.read-low.type_inv }), to_z-of_z (record { sfits = c.read-high.type_inv }), c.read-high.ensures, c.read-low.ensures, c.from-mask-in-22.ensures, c.read-in-22.ensures) (own (goal.at.returns-in-22 c).In_ok-check_command 0x16 c.in-22.is)

pub returns-in-24 : goal.returns-in-24
unfolding row_of operands_at
returns-in-24 c = c.length_refusal.ensures ∙ rw c.read-in-24.ensures (own (goal.at.returns-in-24 c).In_ok-check_command 0x18 c.in-24.is)

pub returns-in_default : goal.returns-in_default
unfolding row_of operands_at
returns-in_default c =
    let e = (goal.at.returns-in_default c).In_ok-check_command in
    c.end_refusal.ensures
    ∙ own e 0x1F (only_last end_row _ (base_row ∷ choice_row ∷ term_row ∷ window_row ∷ row_row ∷ wide_term_row ∷ range_row ∷ length_row ∷ []) ((λ e. omega arith) ▹ (λ e. omega arith) ▹ (λ e. omega arith) ▹ (λ e. omega arith) ▹ (λ e. omega arith) ▹ (λ e. omega arith) ▹ (λ e. omega arith) ▹ (λ e. omega arith) ▹ tt) _ (command_here _ _ _ [] _ (passed e) refl))
