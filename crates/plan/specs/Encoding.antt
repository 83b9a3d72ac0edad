-- The bytes of a plan: `40` or `41` and a set of choices. Written without the reader: of the part's rows only the widths are used.
use Rattle.std.specs.Prelude.{ℕ, ◌≡◌, ◌⊎◌, ◌^◌, cond, ltb, List, [], ◌∷◌, get_or}
use Rattle.wire.specs.Number.{bytes_of}
use Rattle.wire.specs.Encoding.{Command}
use Rattle.wire.specs.Grammar.{Only}
use Rattle.wire.specs.Grammar as G
use Rattle.register.specs.declared.Register.{Register}
use Rattle.register.specs.Limits.{narrow_choices}
use Rattle.register.specs.Encoding.{Narrow}
use Rattle.plan.specs.Format.{plan_part}

-- `40` plan
abbrev pub plan_command : ℕ → Command
plan_command plan = record { byte = 0x40; operands = plan ∷ [] }

-- `41` plan
abbrev pub wide_plan_command : ℕ → Command
wide_plan_command plan = record { byte = 0x41; operands = plan ∷ [] }

-- a command says a plan: `40`, which names choices 0 to 31 only, or `41`
abbrev pub SaysPlan : ℕ → Command → Type 0
SaysPlan plan c = (Narrow plan × (c ≡ plan_command plan)) ⊎ (c ≡ wide_plan_command plan)

-- the only command is that of the plan
abbrev pub Commands : ℕ → List Command → Type 0
Commands plan = Only (SaysPlan plan)

-- a run of bytes is an encoding of a plan of a register
abbrev pub Encodes : Register → ℕ → List ℕ → Type 0
Encodes reg plan s = G.Encodes (plan_part reg) Commands plan s

-- a run of bytes begins with `41`
abbrev pub BeginsWide : List ℕ → Type 0
BeginsWide s = get_or s 0 0 ≡ 0x41

-- ---- byte by byte: with `41`, which is an encoding of every plan, and with `40`, which is one of a plan that it can name; there are no
-- others (`encodings` in proofs/Accept)

-- `40`, then the plan in four bytes
unfoldable pub encode_narrow_plan : ℕ → List ℕ
encode_narrow_plan plan = 0x40 ∷ bytes_of 4 plan

-- `41`, then the plan in eight bytes
unfoldable pub encode_wide_plan : ℕ → List ℕ
encode_wide_plan plan = 0x41 ∷ bytes_of 8 plan

-- what a writer makes: `40` where it can name the plan's choices
unfoldable pub encode_plan : ℕ → List ℕ
encode_plan plan = cond (ltb plan (2 ^ narrow_choices)) (encode_narrow_plan plan) (encode_wide_plan plan)
