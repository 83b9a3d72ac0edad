-- What a program makes of its input, and what the input's first bytes decide of it.
use Prim.Native.Nat.{ℕ}
use mathlib.Core.Path.{◌≡◌, refl, ◌∙◌, sym, ap}
use mathlib.Core.List.{List, ◌++◌}
use native.Mathlib.Omega.{arith}
use lib.ListN.{length, take, drop}
use lib.Seq.{take_at}
use Rattle.wire.specs.Outcome.{Outcome, refuses, accepts}
use Rattle.job.proofs.Prefix.{reach_is}
use Rattle.console.specs.declared.parts.Made.{Made}
use Rattle.console.specs.declared.streams.TheConstants.{INPUT}
use Rattle.console.specs.Parts.{made, printed}
use Rattle.console.specs.Programs.{Decided}
use Rattle.console.specs.Printing.{Makes}
use Rattle.console.proofs.Prefix.{decided}

-- as many bytes as a program reads decide it
pub by_input : Decided INPUT
by_input = decided INPUT (omega (arith, reach_is))

count_is : (said : Outcome (List ℕ)) → length (printed said) ≡ (made said).count
count_is (refuses number part at) = refl
count_is (accepts bytes) = refl

-- what stands at the front of a text, with its count
pub makes : (said : Outcome (List ℕ)) (m : Made) (text out : List ℕ) → m ≡ made said → out ≡ printed said ++ drop m.count text → Makes said m out
makes said m text out e d = (e, ap (take m.count) d ∙ take_at (printed said) _ m.count (count_is said ∙ ap (λ m. m.count) (sym e)))
