-- The lines of a job, as a farm reads them and as a supplier does. Of an accepted job a farm reads `T` for each choice and `F` for each
-- fed one, a supplier `C` for each choice, and then both read `B`. Of a refused job both read only `R`.
use Rattle.std.specs.Prelude.{ℕ, Bool, cond, List, [], ◌∷◌, ◌++◌, ℤ, pos}
use Rattle.integers.specs.Integer.{bit}
use Rattle.integers.specs.Lists.{join_below}
use Rattle.sets.specs.Sets.{is_member}
use Rattle.text.specs.Text.{line}
use Rattle.wire.specs.Outcome.{Outcome, refuses, accepts}
use Rattle.register.specs.declared.Register.{Register}
use Rattle.register.specs.Register.{tank, minute}
use Rattle.job.specs.Outcome.{Parts, bound_of, cost_of, gap_of}

-- the lines of a register and a plan, before the last line
abbrev pub PlanLines : Type 0
PlanLines = Register → ℕ → List ℕ

-- ---- a farm's

-- T: choice, tank, minute, each choice

abbrev pub choice_line : ℕ → ℕ → ℕ → List ℕ
choice_line choice tank minute = line 0x54 (pos choice ∷ pos tank ∷ pos minute ∷ [])

unfoldable pub choice_lines : Register → List ℕ
choice_lines r = join_below r.choices (λ i. choice_line i (tank r i) (minute r i))

-- F: tank, minute, each fed choice

abbrev pub fed_line : ℕ → ℕ → List ℕ
fed_line tank minute = line 0x46 (pos tank ∷ pos minute ∷ [])

unfoldable pub fed_lines : PlanLines
fed_lines r plan = join_below r.choices (λ i. cond (is_member i plan) (fed_line (tank r i) (minute r i)) [])

abbrev pub plan_lines : PlanLines
plan_lines r plan = choice_lines r ++ fed_lines r plan

-- ---- a supplier's

-- C: choice, 1 or 0 for fed or not, each choice

abbrev pub supplier_line : ℕ → Bool → List ℕ
supplier_line choice fed = line 0x43 (pos choice ∷ bit fed ∷ [])

unfoldable pub supplier_lines : PlanLines
supplier_lines r plan = join_below r.choices (λ i. supplier_line i (is_member i plan))

-- ---- a listing

-- B: bound, cost, gap
abbrev pub bound_line : ℤ → ℤ → ℤ → List ℕ
bound_line bound cost gap = line 0x42 (bound ∷ cost ∷ gap ∷ [])

-- the one line of a refused job
abbrev pub refusal_line : ℕ → ℕ → List ℕ
refusal_line number at = line 0x52 (pos number ∷ pos at ∷ [])

-- with the lines of one of the two

unfoldable pub accepted_lines : PlanLines → Register → ℕ → ℤ → ℤ → ℤ → List ℕ
accepted_lines lines r plan bound cost gap = lines r plan ++ bound_line bound cost gap

unfoldable pub listed : PlanLines → Outcome Parts → List ℕ
listed lines (refuses number part at) = refusal_line number at
listed lines (accepts p) = accepted_lines lines p.register p.plan (bound_of p) (cost_of p) (gap_of p)

-- the farm's listing, and the supplier's

abbrev pub listing : Outcome Parts → List ℕ
listing = listed plan_lines

abbrev pub supplier_listing : Outcome Parts → List ℕ
supplier_listing = listed supplier_lines
