-- What a writer's calls do to it.
use Rattle.std.specs.Prelude.{ℕ, ◌+◌, ◌≡◌, List, length}
use Rattle.wire.specs.Number.{written}
use Rattle.text.specs.declared.Writer.{Writer}

-- the bytes are written from where it stood, in the same buffer, and it stands after them
pub record Writes (bytes : List ℕ) (before after : Writer) : Type 0 where
  pub same_reference : after.out.ghost_name ≡ before.out.ghost_name
  pub value : after.at ≡ before.at + length bytes
  pub out_after : after.out.now ≡ written before.out.now before.at bytes
