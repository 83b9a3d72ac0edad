-- The parts of a job in turn: what one of them leads to, with any parts after it.
use Prim.Native.Nat.{ℕ, ◌+◌, ◌≤◌}
use mathlib.Core.Path.{◌≡◌, sym, ◌∙◌}
use mathlib.Core.Bool.{false}
use mathlib.Core.List.{List, []}
use lib.Dec.{ltb}
use lib.ListN.{length}
use borrow.Author.Tests.{ltb-false}
use Rattle.integers.specs.Lists.{All}
use Rattle.integers.proofs.Lists.{flag, ◌▹◌}
use Rattle.wire.specs.Part.{Reading, accepted}
use Rattle.wire.specs.Rows.{Progress}
use Rattle.wire.specs.Outcome.{Outcome, refuses, accepts, next, and_then, starting_at, added_by}
use Rattle.wire.proofs.Outcome.{next_at, not_both, accepts_one}
use Rattle.register.specs.declared.Register.{Register}
use Rattle.register.specs.Register.{has_range}
use Rattle.register.specs.Valid.{Within}
use Rattle.plan.specs.Chosen.{chosen}
use Rattle.plan.proofs.Coefficients.{chosen_known}
use Rattle.job.specs.Outcome.{Parts, JobPart, part_two, part_three, part_four, order, in_turn, ended}

-- what holds of each part holds of each in a register's order
pub of_order : (P : JobPart → Type 0) → P part_two → P part_three → P part_four → (reg : Register) → All P (order reg)
of_order P two three four reg = flag (has_range reg) (λ t. rw t (two ▹ four ▹ three ▹ tt)) (λ t. rw t (two ▹ three ▹ four ▹ tt))

-- without a range all plans choose the same coefficients
pub same_chosen : (reg : Register) → Within reg → has_range reg ≡ false → (plan plan' t : ℕ) → chosen reg plan t ≡ chosen reg plan' t
same_chosen reg w none plan plan' t = chosen_known reg w plan none t ∙ sym (chosen_known reg w plan' none t)

module _ (s : List ℕ) (last : ℕ) where
  -- parts from a position on, and the job's end
  abbrev pub follow : List JobPart → Parts → ℕ → Outcome Parts
  follow ks p from = and_then (in_turn ks s p from) (ended last s)

  -- where the job is accepted, so is each part, and so is what follows it
  pub accepts_at : {A G : Type 0} (part from : ℕ) (add : A → Parts) (x : Reading (Progress A)) (ks : List JobPart) (p : Parts) →
      and_then (next part (starting_at from (added_by add x)) (in_turn ks s)) (ended last s) ≡ accepts p →
      ((read : Progress A) (end : ℕ) → x ≡ accepted read end → follow ks (add read.parsed) (from + end) ≡ accepts p → G) → G
  accepts_at {A} {G} part from add x ks p e h = next_at (λ o. and_then o (ended last s) ≡ accepts p → G) part from add x (in_turn ks s) (λ n at d q. absurd (not_both q)) h e

  -- and nothing stands past the last one
  pub accepts_end : (q p : Parts) (end : ℕ) → follow [] q end ≡ accepts p → (length s ≤ end) × (q ≡ p)
  accepts_end q p end e =
      flag (ltb end (length s))
      (λ t. let z : ◌≡◌ {A = Outcome Parts} (refuses 12 last end) (accepts p) = rw t at e in absurd (not_both z))
      (λ t. let z : ◌≡◌ {A = Outcome Parts} (accepts q) (accepts p) = rw t at e in (ltb-false end (length s) t, accepts_one z))
