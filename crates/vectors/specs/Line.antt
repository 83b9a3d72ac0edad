-- The fields of a line, which stand between single spaces.
use Rattle.std.specs.Prelude.{ℕ, ◌≡◌, ◌≢◌, ◌<◌, MatchOption, length, get_or, Bool, false, not, cond, eqb, Option, Some, None, option_copied, List, [], ◌∷◌}
use Rattle.vectors.specs.declared.fields.Fields.{Fields}

-- neither empty nor a heading
abbrev pub is_case : List ℕ → Bool
is_case [] = false
is_case (b ∷ bs) = not (eqb b 35)

-- the place of the first space, where there is one
abbrev pub IsFirstSpace : List ℕ → Option ℕ → Type 0
IsFirstSpace text place = MatchOption place ((k : ℕ) → k < length text → get_or text k 0 ≢ 32) (λ i. (i < length text) × (get_or text i 0 ≡ 32) × ((k : ℕ) → k < i → get_or text k 0 ≢ 32))

-- with one more byte at the start of the first field
abbrev pub in_front : ℕ → List (List ℕ) → List (List ℕ)
in_front b [] = []
in_front b (field ∷ fields) = (b ∷ field) ∷ fields

unfoldable pub fields_of : List ℕ → List (List ℕ)
fields_of [] = [] ∷ []
fields_of (b ∷ bs) = cond (eqb b 32) ([] ∷ fields_of bs) (in_front b (fields_of bs))

-- those from where the next one starts, where one is left
abbrev pub fields_left : Option (List ℕ) → List (List ℕ)
fields_left None = []
fields_left (Some left) = fields_of left

abbrev pub left_in : Fields → List (List ℕ)
left_in fields = fields_left (option_copied fields.left)

-- what the first of the fields says
abbrev pub first_says : {A : Type 0} → (List ℕ → Option A) → List (List ℕ) → Option A
first_says said [] = None
first_says said (field ∷ fields) = said field

-- it is the number that was answered
abbrev pub is_answered : {A : Type 0} → (A → A → Bool) → A → Option A → Bool
is_answered eq answered None = false
is_answered eq answered (Some said) = eq said answered
