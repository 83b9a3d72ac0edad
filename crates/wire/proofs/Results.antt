-- What the code's results say of the readings and outcomes that they stand for: where one is Ok, and where it is Err.
use Prim.Native.Nat.{ℕ}
use native.Mathlib.Omega.{arith}
use mathlib.Core.Path.{◌≡◌, refl, sym, ◌∙◌, ap}
use mathlib.Core.Bool.{Bool, true, false, cond}
use mathlib.Core.List.{List}
use lib.Dec.{ltb}
use lib.ListN.{length}
use Rattle.std.proofs.Common.{Result, Ok, Err}
use Rattle.wire.specs.declared.refusals.Refusal.{Refusal}
use Rattle.wire.specs.declared.refusals.Refusal.TheVariants.{NoCommand, CutShort, TooMany, OutOfRange, NotThere, Misordered, NotRising, SetsUnfit, FallsShort, NoProductLeft, TooShort, PastEnd, OutsideWindows, PastLimit, Misfit, NoneFits, UnknownSupplier, ShapeOutOfRange}
use Rattle.wire.specs.declared.refusals.Refused.{Refused}
use Rattle.wire.specs.declared.refusals.Read.{Read}
use Rattle.wire.specs.Part.{Reading, refused, accepted, by_itself}
use Rattle.wire.specs.Rows.{Progress}
use Rattle.wire.specs.Outcome.{given, added_by}
use Rattle.wire.specs.Results.{number_of, reading_of, whole_of}

-- no refusal has the number 0
pub numbered : (refusal : Refusal) → number_of refusal ≡ 0 → ⊥
numbered NoCommand e = omega arith
numbered CutShort e = omega arith
numbered TooMany e = omega arith
numbered OutOfRange e = omega arith
numbered NotThere e = omega arith
numbered Misordered e = omega arith
numbered NotRising e = omega arith
numbered SetsUnfit e = omega arith
numbered FallsShort e = omega arith
numbered NoProductLeft e = omega arith
numbered TooShort e = omega arith
numbered PastEnd e = omega arith
numbered OutsideWindows e = omega arith
numbered PastLimit e = omega arith
numbered Misfit e = omega arith
numbered NoneFits e = omega arith
numbered UnknownSupplier e = omega arith
numbered ShapeOutOfRange e = omega arith

-- ---- a part at the front of a run of bytes, by what its commands gave

module _ {A B : Type 0} (f : A → B) where
  pub accepted_added : (x : Reading (Progress A)) {b : B} {end : ℕ} → accepted b end ≡ added_by f x → (p : Progress A) × ((x ≡ accepted p end) × (f p.parsed ≡ b))
  accepted_added (refused n at) e = let z : ◌≡◌ {A = ℕ} 0 1 = cc in absurd (omega arith)
  accepted_added (accepted p end) e = (p, (cc, cc))

  pub refused_added : (x : Reading (Progress A)) {n at : ℕ} → ◌≡◌ {A = Reading B} (refused n at) (added_by f x) → x ≡ refused n at
  refused_added (refused n at) e = cc
  refused_added (accepted p end) e = let z : ◌≡◌ {A = ℕ} 0 1 = cc in absurd (omega arith)

  module _ (x : Reading (Progress A)) {result : Result (Read B) Refused} (e : reading_of result ≡ added_by f x) where
    pub read_ok : {read : Read B} → result ≡ Ok read → (p : Progress A) × ((x ≡ accepted p read.end) × (f p.parsed ≡ read.value))
    read_ok was = accepted_added x (sym (ap reading_of was) ∙ e)

    pub read_err : {fault : Refused} → result ≡ Err fault → x ≡ refused (number_of fault.refusal) fault.position
    read_err was = refused_added x (sym (ap reading_of was) ∙ e)

-- as a run of bytes by itself
pub whole_added : {A : Type 0} (part : ℕ) (s : List ℕ) (x : Reading (Progress A)) → whole_of part (by_itself s (added_by (λ a. a) x)) ≡ given part (by_itself s x)
unfolding by_itself
whole_added part s (refused n at) = refl
whole_added {A} part s (accepted p end) = by (ltb end (length s))
  where
    by : (t : Bool) → whole_of {A = A} part (cond t (refused 12 end) (accepted p.parsed end)) ≡ given part (cond t (refused 12 end) (accepted p end))
    by true = refl
    by false = refl
