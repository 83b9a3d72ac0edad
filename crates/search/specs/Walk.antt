-- The walk over partial plans: choices from the highest number down, unfed first.
use Rattle.std.specs.Prelude.{ℕ, zero, suc, ◌+◌, ◌^◌, Bool, true, false, cond, not, ◌&&◌, ◌||◌, ℤ, pos}
use Rattle.std.specs.Int.Signed.{le_z}

-- what it has come to: whether a full plan that fits has been met, the best plan with its cost, and the number of visits, which may pass
-- 32 bits. A visit (the paper's own term) is one partial plan that the walk comes to: the empty one, full ones and those left count
pub record Best : Type 0 where
  pub met : Bool
  pub plan : ℕ
  pub cost : ℤ
  pub visits : ℕ

-- nothing met, nothing visited
abbrev pub start : Best
start = record { met = false; plan = 0; cost = pos 0; visits = 0 }

-- one partial plan more
abbrev pub visited : Best → Best
visited w = record w { visits = w.visits + 1 }

-- a full plan that fits becomes the best
abbrev pub better : ℕ → ℤ → Best → Best
better plan cost w = record w { met = true; plan = plan; cost = cost }

-- a full plan that fits has been met, and the sum is at least the best cost so far
abbrev pub is_left : ℤ → Best → Bool
is_left s w = w.met && le_z w.cost s

-- from the partial plan with d choices undecided and `fed` fed, by the sum at each and a test of full plans. It is visited; where it
-- is not left, a full plan that fits becomes the best, and of another choice d − 1 is decided, unfed and then fed
unfoldable pub walk : (ℕ → ℕ → ℤ) → (ℕ → Bool) → (d fed : ℕ) → Best → Best
walk sum fits zero fed w = cond (is_left (sum 0 fed) w || not (fits fed)) (visited w) (better fed (sum 0 fed) (visited w))
walk sum fits (suc d) fed w = cond (is_left (sum (suc d) fed) w) (visited w) (walk sum fits d (fed + 2 ^ d) (walk sum fits d fed (visited w)))
