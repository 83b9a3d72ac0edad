-- Each part is in its order.
use mathlib.Core.Path.{refl}
use Rattle.integers.proofs.Lists.{◌▹◌}
use Rattle.register.proofs.Order.{register_in_order}
use Rattle.soundness.specs.Order.{InOrders}

pub in_orders : InOrders
in_orders = record {
  part_1 = register_in_order;
  part_2 = λ reg. refl ▹ refl ▹ refl ▹ refl ▹ tt;
  part_3 = λ reg sch. refl ▹ refl ▹ refl ▹ refl ▹ refl ▹ refl ▹ refl ▹ refl ▹ refl ▹ refl ▹ refl ▹ refl ▹ refl ▹ tt;
  part_4 = λ reg. refl ▹ refl ▹ tt;
}
