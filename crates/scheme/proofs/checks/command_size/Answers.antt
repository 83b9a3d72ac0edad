-- By the command's byte.
use Prim.Native.Nat.{suc}
use native.Mathlib.Omega.{arith}
use mathlib.Core.Path.{refl, sym, ap}
use mathlib.Core.List.{[], ◌∷◌}
use Rattle.wire.specs.Part.{total}
use Rattle.wire.specs.Rows.{row_of}
use Rattle.wire.proofs.Rest.{total_last}
use Rattle.scheme.specs.Format.{factor_row, product_row, split_row, end_row}
use Rattle.scheme.proofs.checks.command_size.Goals as goal

pub returns-in-33 : goal.returns-in-33
unfolding row_of total
returns-in-33 c = λ reg. rw c.in-33.is

pub returns-in-34 : goal.returns-in-34
unfolding row_of total
returns-in-34 c = λ reg. rw c.in-34.is

pub returns-in-35 : goal.returns-in-35
unfolding row_of total
returns-in-35 c = λ reg. rw c.in-35.is

pub returns-in_default : goal.returns-in_default
returns-in_default c = λ reg. ap suc (sym (total_last (end_row reg) _ (factor_row ∷ product_row reg ∷ split_row reg ∷ []) (λ e. omega arith, (λ e. omega arith, (λ e. omega arith, tt))) refl))
