-- The order of the commands of each part, said once: a command stands where it has it, and is refused 1 elsewhere. That of part 1 stands
-- in register/specs/Order.
use Rattle.std.specs.Prelude.{List, [], ◌∷◌}
use Rattle.register.specs.declared.Register.{Register}
use Rattle.register.specs.Format.{register_rows}
use Rattle.register.specs.Order.{Group, once, at_most_once, any_number, InOrder, register_order}
use Rattle.scheme.specs.declared.Scheme.{Scheme}
use Rattle.scheme.specs.Format.{scheme_rows}
use Rattle.certificate.specs.Format.{certificate_rows}
use Rattle.plan.specs.Format.{plan_rows}

-- part 2: `23` at most once, each `21`, each `22`, `2F`
abbrev pub scheme_order : List Group
scheme_order =
    record { often = at_most_once; bytes = 0x23 ∷ [] }
    ∷ record { often = any_number; bytes = 0x21 ∷ [] }
    ∷ record { often = any_number; bytes = 0x22 ∷ [] }
    ∷ record { often = once; bytes = 0x2F ∷ [] }
    ∷ []

-- part 3: `30`, each `31` to `39`, `3A` and `3B` in any order, `3F`
abbrev pub certificate_order : List Group
certificate_order =
    record { often = once; bytes = 0x30 ∷ [] }
    ∷ record { often = any_number; bytes = 0x31 ∷ 0x32 ∷ 0x33 ∷ 0x34 ∷ 0x35 ∷ 0x36 ∷ 0x37 ∷ 0x38 ∷ 0x39 ∷ 0x3A ∷ 0x3B ∷ [] }
    ∷ record { often = once; bytes = 0x3F ∷ [] }
    ∷ []

-- part 4: `40` or `41`
abbrev pub plan_order : List Group
plan_order = record { often = once; bytes = 0x40 ∷ 0x41 ∷ [] } ∷ []

-- of no call in particular: by these rows each call reads its parts
pub record InOrders : Type 0 where
  pub part_1 : InOrder register_order register_rows
  pub part_2 : (reg : Register) → InOrder scheme_order (scheme_rows reg)
  pub part_3 : (reg : Register) (sch : Scheme) → InOrder certificate_order (certificate_rows reg sch)
  pub part_4 : (reg : Register) → InOrder plan_order (plan_rows reg)
