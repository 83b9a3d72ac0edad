-- Part 1 is in its order.
use mathlib.Core.Path.{refl}
use Rattle.integers.proofs.Lists.{◌▹◌}
use Rattle.register.specs.Format.{register_rows}
use Rattle.register.specs.Order.{InOrder, register_order}

pub register_in_order : InOrder register_order register_rows
register_in_order = refl ▹ refl ▹ refl ▹ refl ▹ refl ▹ refl ▹ refl ▹ refl ▹ refl ▹ tt
