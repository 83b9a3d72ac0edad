-- The scheme's bytes: `23` factor, which may be missing where it is 1, `21` for each product, `22` for each split, `2F`. Written without
-- the reader: of the part's rows only the widths of operands are used.
use Rattle.std.specs.Prelude.{ℕ, ◌+◌, ◌≡◌, ◌⊎◌, cond, eqb, List, [], ◌∷◌, ◌++◌, get_or}
use Rattle.integers.specs.Lists.{join_below}
use Rattle.wire.specs.Number.{bytes_of, nat_at}
use Rattle.wire.specs.Encoding.{Command}
use Rattle.wire.specs.Grammar.{Only, Optional, Then, Kind, Kinds}
use Rattle.wire.specs.Grammar as G
use Rattle.register.specs.declared.Register.{Register}
use Rattle.scheme.specs.declared.Scheme.{Scheme}
use Rattle.scheme.specs.Scheme.{product_left, product_right, left, right, split_left, split_right}
use Rattle.scheme.specs.Format.{scheme_part}

-- ---- an encoding: header, each product in one of its forms, each split in one of its forms, end

-- `23` factor
abbrev pub factor_command : ℕ → Command
factor_command factor = record { byte = 0x23; operands = factor ∷ [] }

-- `23`, which may be missing where the factor is 1
abbrev pub Header : Scheme → List Command → Type 0
Header s = Optional (s.factor ≡ 1) (λ c. c ≡ factor_command s.factor)

-- `21` l, r
abbrev pub product_command : (l r : ℕ) → Command
product_command l r = record { byte = 0x21; operands = l ∷ r ∷ [] }

abbrev pub product_kind : Kind Scheme
product_kind = record { bytes = 0x21 ∷ []; count = λ s. s.products; says = λ s i c. c ≡ product_command (product_left s i) (product_right s i) }

-- `22` l, r
abbrev pub split_command : (l r : ℕ) → Command
split_command l r = record { byte = 0x22; operands = l ∷ r ∷ [] }

abbrev pub split_kind : Kind Scheme
split_kind = record { bytes = 0x22 ∷ []; count = λ s. s.splits; says = λ s t c. c ≡ split_command (split_left s t) (split_right s t) }

-- in this order
abbrev pub kinds : List (Kind Scheme)
kinds = product_kind ∷ split_kind ∷ []

-- `2F`
abbrev pub end_command : Command
end_command = record { byte = 0x2F; operands = [] }

-- the commands are those of a scheme
abbrev pub Commands : Scheme → List Command → Type 0
Commands s = Then (Kinds s (Header s) kinds) (Only (λ c. c ≡ end_command))

-- a run of bytes is an encoding of a scheme
abbrev pub Encodes : Register → Scheme → List ℕ → Type 0
Encodes reg s x = G.Encodes (scheme_part reg) Commands s x

-- ---- byte by byte

-- `23` factor u16
unfoldable pub encode_factor : ℕ → List ℕ
encode_factor factor = 0x23 ∷ bytes_of 2 factor

-- `21` product: l u8, r u8
unfoldable pub encode_product : (l r : ℕ) → List ℕ
encode_product l r = 0x21 ∷ (bytes_of 1 l ++ bytes_of 1 r)

-- `22` split: l u8, r u8
unfoldable pub encode_split : (l r : ℕ) → List ℕ
encode_split l r = 0x22 ∷ (bytes_of 1 l ++ bytes_of 1 r)

-- the products n, n + 1, .., where there are n choices, and the splits, one after the other

abbrev pub encode_products : ℕ → Scheme → List ℕ
encode_products n s = join_below s.products (λ i. encode_product (left n s (n + i)) (right n s (n + i)))

abbrev pub encode_splits : Scheme → List ℕ
encode_splits s = join_below s.splits (λ t. encode_split (split_left s t) (split_right s t))

-- all but the factor and the end
abbrev pub encode_body : ℕ → Scheme → List ℕ
encode_body n s = encode_products n s ++ encode_splits s

-- without `23`, as the builder writes it
unfoldable pub encode_scheme : ℕ → Scheme → List ℕ
encode_scheme n s = encode_body n s ++ (0x2F ∷ [])

-- the bytes of a header
abbrev pub HeaderBytes : Scheme → List ℕ → Type 0
HeaderBytes s h = (h ≡ encode_factor s.factor) ⊎ ((s.factor ≡ 1) × (h ≡ []))

-- the encodings: with `23`, which says every factor, and without it, where the factor is 1
abbrev pub EncodedBy : ℕ → Scheme → List ℕ → Type 0
EncodedBy n s x = (x ≡ encode_factor s.factor ++ encode_scheme n s) ⊎ ((s.factor ≡ 1) × (x ≡ encode_scheme n s))

-- ---- the factor in bytes

-- they begin with a `23`
abbrev pub SaysFactor : List ℕ → Type 0
SaysFactor s = get_or s 0 0 ≡ 0x23

-- the factor that the `23` says, and 1 where they begin with none
abbrev pub factor_in : List ℕ → ℕ
factor_in s = cond (eqb (get_or s 0 0) 0x23) (nat_at 2 s 1) 1
