-- One store.
use mathlib.Core.Path.{refl}
use borrow.Author.Rules.{rules}
use Rattle.wire.specs.Number.{written}
use Rattle.text.proofs.Writer.put_byte.Goals as goal

pub returns : goal.returns
unfolding written
returns c = record { same_reference = refl; value = refl; out_after = search rules }
