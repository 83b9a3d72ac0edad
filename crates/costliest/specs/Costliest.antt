-- The costliest register of m terms and d choices in each: when it is refused, its bytes, and the register that they say.
use Rattle.std.specs.Prelude.{ℕ, ◌+◌, ◌*◌, ◌-◌, ◌<◌, ◌≤◌, ◌≡◌, ◌↔◌, ◌⊎◌, Bool, false, ◌&&◌, ◌||◌, List, [], ◌∷◌, ◌++◌, T, eqb, leb, ltb, pos}
use Rattle.integers.specs.Lists.{join_below}
use Rattle.sets.specs.Sets.{is_member, set_of}
use Rattle.register.specs.declared.Register.{Register}
use Rattle.register.specs.Limits.{usual_day}
use Rattle.register.specs.Register.{tank, minute, mask, coefficient, high, is_range}
use Rattle.register.specs.Valid.{Valid}
use Rattle.register.specs.Encoding.{encode_base, encode_choice, encode_term}
use Rattle.counting.specs.Counting.{degree}
use Rattle.costliest.specs.Limits.{min_degree, max_named}

-- no term, fewer than 3 or more than 32 choices in each, or more than 32 in all; the product is that of whole numbers
unfoldable pub is_refused : ℕ → ℕ → Bool
is_refused m d = eqb m 0 || ltb d min_degree || ltb max_named d || ltb max_named (m * d)

-- the same as a condition
abbrev pub Outside : ℕ → ℕ → Type 0
Outside m d = (m ≡ 0) ⊎ (d < min_degree) ⊎ (max_named < d) ⊎ (max_named < m * d)

-- m and d that are not refused
pub record Admitted (m d : ℕ) : Type 0 where
  pub some_term : 1 ≤ m
  pub deep : min_degree ≤ d
  pub narrow : d ≤ max_named
  pub small : m * d ≤ max_named

-- term t names choices t times d to t times d + d − 1

abbrev pub names : (d t i : ℕ) → Bool
names d t i = leb (t * d) i && leb i (t * d + d - 1)

unfoldable pub term_mask : (m d t : ℕ) → ℕ
term_mask m d t = set_of (m * d) (names d t)

-- `10` with base cost 0, m times d `11` with tank 1 and minutes from 0 up, m `12` with coefficient 1, `1F`
unfoldable pub costliest_bytes : ℕ → ℕ → List ℕ
costliest_bytes m d =
    encode_base (pos 0) ++ join_below (m * d) (λ i. encode_choice 1 i) ++ join_below m (λ t. encode_term (term_mask m d t) (pos 1)) ++ (0x1F ∷ [])

-- the register, field by field
pub record Described (m d : ℕ) (r : Register) : Type 0 where
  pub base_0 : r.base ≡ pos 0
  pub choices_are : r.choices ≡ m * d
  pub terms_are : r.terms ≡ m
  pub tanks_are : (i : ℕ) → i < m * d → tank r i ≡ 1
  pub minutes_are : (i : ℕ) → i < m * d → minute r i ≡ i
  pub coefficients_are : (t : ℕ) → t < m → coefficient r t ≡ pos 1
  pub names_are : (t : ℕ) → t < m → (i : ℕ) → T (is_member i (mask r t)) ↔ ((t * d ≤ i) × (i ≤ t * d + d - 1))
  -- d of them
  pub degrees_are : (t : ℕ) → t < m → degree r t ≡ d
  -- `10`, `11`, `12` and `1F` say no more: the day has its usual length, and there is no window, no row and no range
  pub usual : r.day_length ≡ usual_day
  pub no_window : r.windows ≡ 0
  pub no_row : r.rows ≡ 0
  pub no_range : (t : ℕ) → t < m → is_range r t ≡ false
  pub highs_are : (t : ℕ) → t < m → high r t ≡ pos 1
  -- whatever stands past the counts is 0
  pub valid : Valid r
