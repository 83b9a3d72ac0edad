-- The common checks first, then by the command's byte those of its operands.
use Prim.Native.Nat.{ℕ, ◌-◌, ◌≤◌}
use native.Mathlib.Omega.{arith}
use Rattle.std.proofs.Common.{rules}
use mathlib.Core.Path.{◌≡◌, refl, ◌∙◌, ap}
use mathlib.Core.Bool.{Bool}
use mathlib.Core.List.{List, [], ◌∷◌}
use lib.ListN.{length, get_or}
use Rattle.wire.specs.Checks.{refusal, command_checks}
use Rattle.wire.specs.Results.{number_of, number_in}
use Rattle.wire.specs.Part.{operands_at, total, size, checks_at}
use Rattle.wire.specs.Rows.{Progress, is_among, row_of}
use Rattle.wire.proofs.Checks.{command_room, command_here}
use Rattle.wire.proofs.Rest.{only_last}
use Rattle.wire.proofs.Loop.{operands_of, common_refused, common_own}
use Rattle.register.specs.declared.Register.{Register}
use Rattle.register.specs.Register as R
use Rattle.scheme.specs.declared.Scheme.{Scheme}
use Rattle.scheme.specs.Scheme.{initial}
use Rattle.scheme.specs.Format.{factor_row, product_row, split_row, end_row, scheme_rows, scheme_part}
use Rattle.scheme.specs.Answer.{seen_of}
use Rattle.wire.proofs.Results.{numbered}
use Rattle.scheme.proofs.Passes.{product_in, split_in}
use Rattle.scheme.proofs.checks.refusal_at.Goals.{In_ok-check_command}
use Rattle.scheme.proofs.checks.refusal_at.Goals as goal

-- place and size of the command at a position, directly after another, are judged, with any register
abbrev Judged : List ℕ → ℕ → ℕ → ℕ → Type 0
Judged s at previous placed = (reg : Register) →
    placed ≡ refusal (command_checks (is_among previous (row_of (scheme_rows reg) (get_or s at 0)).follows) (length s - at) (size (scheme_part reg) (get_or s at 0)) [])

judged : (s : List ℕ) (at previous : ℕ) {here : Bool} {bytes placed : ℕ} → ((reg : Register) → here ≡ is_among previous (row_of (scheme_rows reg) (get_or s at 0)).follows)
    → ((reg : Register) → bytes ≡ size (scheme_part reg) (get_or s at 0)) → placed ≡ refusal (command_checks here (length s - at) bytes []) → Judged s at previous placed
judged s at previous h k e reg = rw (← (h reg), ← (k reg)) e

-- and not refused
module _ (c : In_ok-check_command) where
  abbrev s : List ℕ
  s = c.args.bytes.now

  abbrev at : ℕ
  at = c.args.at

  passed : Judged s at c.args.seen.previous 0
  passed = judged s at c.args.seen.previous c.stands_after.ensures c.command_size.ensures c.in_ok-check_command.ensures

  -- the bytes of a command are as many with any register
  room : (k n : ℕ) → get_or s at 0 ≡ k → size (scheme_part R.fresh) k ≡ n → n ≤ length s - at
  room k n e f = let g : size (scheme_part R.fresh) (get_or s at 0) ≡ n = rw e f in rw g at (command_room _ _ _ [] _ (passed R.fresh) refl)

  own : (reg : Register) (p : Progress Scheme) → seen_of reg p ≡ c.args.seen → (k : ℕ) → get_or s at 0 ≡ k
      → refusal ((row_of (scheme_rows reg) k).checks p.parsed (operands_of initial (scheme_rows reg) s at k)) ≡ refusal (checks_at (scheme_part reg) s p at)
  own reg p f k e = common_own initial (scheme_rows reg) s p at k e _ (rw (← e, ap (λ x. x.previous) f) (passed reg)) refl

  -- what else stands here is the end
  end : (reg : Register) → (get_or s at 0 ≡ 0x23 → ⊥) → (get_or s at 0 ≡ 0x21 → ⊥) → (get_or s at 0 ≡ 0x22 → ⊥) → get_or s at 0 ≡ 0x2F
  end reg x f g = only_last (end_row reg) _ (factor_row ∷ product_row reg ∷ split_row reg ∷ []) (x, (f, (g, tt))) _ (command_here _ _ _ [] _ (passed reg) refl)

pub returns-in_err-check_command : goal.returns-in_err-check_command
returns-in_err-check_command c =
    let r = c.in_err-check_command.field-0.0 in
    let j = judged c.args.bytes.now c.args.at c.args.seen.previous c.stands_after.ensures c.command_size.ensures c.in_err-check_command.ensures in
    let e : number_in c.from_residual.result ≡ number_of r = search rules in
    λ reg p f h. e ∙ common_refused initial (scheme_rows reg) c.args.bytes.now p c.args.at _ refl _ (rw (ap (λ x. x.previous) f) (j reg)) (numbered r)

pub read-l-requires : goal.read-l-requires
unfolding row_of total
read-l-requires c = omega (arith, room (goal.at.read-l-requires c).In_ok-check_command 0x21 3 c.in-33.is refl)

pub read-r-requires : goal.read-r-requires
unfolding row_of total
read-r-requires c = omega (arith, room (goal.at.read-r-requires c).In_ok-check_command 0x21 3 c.in-33.is refl)

pub read-l-requires-in-34 : goal.read-l-requires-in-34
unfolding row_of total
read-l-requires-in-34 c = omega (arith, room (goal.at.read-l-requires-in-34 c).In_ok-check_command 0x22 3 c.in-34.is refl)

pub read-r-requires-in-34 : goal.read-r-requires-in-34
unfolding row_of total
read-r-requires-in-34 c = omega (arith, room (goal.at.read-r-requires-in-34 c).In_ok-check_command 0x22 3 c.in-34.is refl)

pub returns-in-33 : goal.returns-in-33
unfolding row_of operands_at
returns-in-33 c = λ reg p f h.
    c.product_refusal.ensures ∙ rw (← f, c.read-r.ensures, c.read-l.ensures) (product_in reg.choices p.parsed _ h _ _ ∙ own (goal.at.returns-in-33 c).In_ok-check_command reg p f 0x21 c.in-33.is)

pub returns-in-34 : goal.returns-in-34
unfolding row_of operands_at
returns-in-34 c = λ reg p f h.
    c.split_refusal.ensures ∙ rw (← f, c.read-r-in-34.ensures, c.read-l-in-34.ensures) (split_in reg.choices p.parsed _ h _ _ _ _ _ ∙ own (goal.at.returns-in-34 c).In_ok-check_command reg p f 0x22 c.in-34.is)

pub read-requires : goal.read-requires
unfolding row_of total
read-requires c = omega (arith, room (goal.at.read-requires c).In_ok-check_command 0x23 3 c.in-35.is refl)

pub returns-in-35 : goal.returns-in-35
unfolding row_of operands_at
returns-in-35 c = λ reg p f h. c.factor_refusal.ensures ∙ rw c.read.ensures (own (goal.at.returns-in-35 c).In_ok-check_command reg p f 0x23 c.in-35.is)

pub returns-in_default : goal.returns-in_default
unfolding row_of operands_at
returns-in_default c = λ reg p f h.
    let e = (goal.at.returns-in_default c).In_ok-check_command in
    c.end_refusal.ensures ∙ rw (← f) (own e reg p f 0x2F (end e reg (λ e. omega arith) (λ e. omega arith) (λ e. omega arith)))
