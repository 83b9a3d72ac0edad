-- The paper's conditions on the commands of a certificate of a register and a scheme: ranges, counts, names, orders, sets.
-- Written without the reader (`proofs/Conditions` has that the reader tests just these).
use Rattle.std.specs.Prelude.{ℕ, ◌≤◌, ◌<◌, ◌≡◌, List, [], ◌∷◌, ℤ, pos, nat_abs, length, get_or, ◌≤ℤ◌}
use Rattle.std.specs.Int.Bits.{bit_or}
use Rattle.integers.specs.Lists.{All}
use Rattle.sets.specs.Sets.{ProperSubset}
use Rattle.register.specs.declared.Register.{Register}
use Rattle.scheme.specs.declared.Scheme.{Scheme}
use Rattle.scheme.specs.Scheme.{variables}
use Rattle.scheme.specs.Variables.{E}
use Rattle.certificate.specs.Limits.{max_scale, max_target, max_multipliers, max_multiplier, max_row_multiplier, max_squares, max_weight, square_entries, max_entry}
use Rattle.certificate.specs.Certificate.{Multiplier, Square, Certificate}
use Rattle.certificate.specs.Rules.{by_key}

-- v is a variable, and k a product, where there are n choices

abbrev pub Variable : ℕ → Scheme → ℕ → Type 0
Variable n s v = v < variables n s

abbrev pub Product : ℕ → Scheme → ℕ → Type 0
Product n s k = (n ≤ k) × (k < variables n s)

-- m of a null form within ±10¹², of a form that is subtracted 0–10¹²

abbrev pub NullRange : ℤ → Type 0
NullRange m = nat_abs m ≤ max_multiplier

abbrev pub SubtractedRange : ℤ → Type 0
SubtractedRange m = (pos 0 ≤ℤ m) × (m ≤ℤ pos max_multiplier)

-- of a row form within ±10⁹

abbrev pub RowRange : ℤ → Type 0
RowRange m = nat_abs m ≤ max_row_multiplier

-- the condition of each multiplier command by its byte: how many numbers it names, whether what they name is there, their order, their
-- sets, and the range of m
abbrev pub conditions : Register → Scheme → List ℕ → ℤ → List (ℕ × Type 0)
conditions r s names m =
    let n = r.choices in
    let e : ℕ → ℕ = E n s in
    (0x31, (i : ℕ) × (names ≡ i ∷ []) × Variable n s i × NullRange m)
    -- the set of j is a proper subset of that of i
    ∷ (0x32, (i : ℕ) × (j : ℕ) × (names ≡ i ∷ j ∷ []) × Variable n s i × Variable n s j × ProperSubset (e j) (e i) × NullRange m)
    -- the set of i is the union of the other two, which are in order
    ∷ (0x33, (i : ℕ) × (j : ℕ) × (k : ℕ) × (names ≡ i ∷ j ∷ k ∷ []) × Variable n s i × Variable n s j × Variable n s k × (j < k) × (e i ≡ bit_or (e j) (e k)) × NullRange m)
    -- two pairs, each in order, with the same union
    ∷ (0x34, (i : ℕ) × (j : ℕ) × (k : ℕ) × (l : ℕ) × (names ≡ i ∷ j ∷ k ∷ l ∷ []) × Variable n s i × Variable n s j × Variable n s k × Variable n s l × (i < j) × (k < l) × (bit_or (e i) (e j) ≡ bit_or (e k) (e l)) × NullRange m)
    -- for a product
    ∷ (0x35, (k : ℕ) × (names ≡ k ∷ []) × Product n s k × SubtractedRange m)
    ∷ (0x36, (k : ℕ) × (names ≡ k ∷ []) × Product n s k × SubtractedRange m)
    ∷ (0x37, (k : ℕ) × (names ≡ k ∷ []) × Product n s k × SubtractedRange m)
    -- for a variable
    ∷ (0x38, (i : ℕ) × (names ≡ i ∷ []) × Variable n s i × SubtractedRange m)
    ∷ (0x39, (i : ℕ) × (names ≡ i ∷ []) × Variable n s i × SubtractedRange m)
    -- for a row and a variable
    ∷ (0x3B, (k : ℕ) × (i : ℕ) × (names ≡ k ∷ i ∷ []) × (k < r.rows) × Variable n s i × RowRange m)
    ∷ []

-- a multiplier command is allowed where the condition of its byte holds; no other byte is one
unfoldable pub Allowed : Register → Scheme → Multiplier → Type 0
Allowed r s t = by_key ⊥ t.kind (conditions r s t.names t.m)

-- a square: its weight's range, how many entries it has, their range, and that the unused ones are 0
pub record SquareAllowed (n : ℕ) (s : Scheme) (q : Square) : Type 0 where
  pub w_above : 1 ≤ q.w
  pub w_within : q.w ≤ max_weight
  pub entries : length q.v ≡ square_entries
  pub entries_within : (i : ℕ) → i < square_entries → nat_abs (get_or q.v i (pos 0)) ≤ max_entry
  pub past_0 : (i : ℕ) → variables n s < i → i < square_entries → get_or q.v i (pos 0) ≡ pos 0

-- within the limits, as far as commands other than the end say
pub record Within (reg : Register) (s : Scheme) (k : Certificate) : Type 0 where
  -- of `30`
  pub scale_above : 1 ≤ k.scale
  pub scale_within : k.scale ≤ max_scale
  pub target_within : nat_abs k.target ≤ max_target
  -- of `31` to `39` and `3B`
  pub multipliers_within : length k.multipliers ≤ max_multipliers
  pub multipliers : All (Allowed reg s) k.multipliers
  -- of `3A`
  pub squares_within : length k.squares ≤ max_squares
  pub squares : All (SquareAllowed reg.choices s) k.squares
