-- Lines are cut back from the front of a text in one way only: a decimal number says its number, a field has no byte that ends
-- it, and byte 0A ends a line.
use Prim.Native.Nat.{ℕ, zero, suc, ◌+◌, ◌*◌, ◌-◌, ◌/◌, ◌%◌, ◌≤◌, ◌<◌}
use native.Mathlib.Omega.{arith}
use mathlib.Core.Path.{◌≡◌, refl, sym, ap, ap₂, ◌∙◌, subst}
use mathlib.Core.List.{List, [], ◌∷◌, ◌++◌, append_assoc, append-nil, flat_map}
use lib.Dec.{ltb}
use lib.IntN.{ℤ, pos, negsuc}
use lib.ListN.{length, get_or, drop}
use borrow.Author.Tests.{ltb-true, ltb-false}
use Rattle.integers.specs.Lists.{All, join_below}
use Rattle.integers.proofs.Lists.{flag, All-append, All-map}
use Rattle.integers.proofs.Join.{flat_map_append, flat_map_join}
use Rattle.text.specs.Text.{digits, decimal, line}
use Rattle.text.proofs.Digits.{digits_one, digits_more}

-- the first element and the others
pub head_is : {x y : ℕ} {xs ys : List ℕ} → ◌≡◌ {A = List ℕ} (x ∷ xs) (y ∷ ys) → x ≡ y
head_is e = ap (λ l. get_or l 0 0) e

pub tail_is : {x y : ℕ} {xs ys : List ℕ} → ◌≡◌ {A = List ℕ} (x ∷ xs) (y ∷ ys) → xs ≡ ys
tail_is e = ap (λ l. drop 1 l) e

-- ---- the number that digits say, after those that say n

value : ℕ → List ℕ → ℕ
value n [] = n
value n (d ∷ ds) = value (n * 10 + (d - 48)) ds

value_last : (n : ℕ) (ds : List ℕ) (d : ℕ) → value n (ds ++ (d ∷ [])) ≡ value n ds * 10 + (d - 48)
unfolding value
value_last n [] d = refl
value_last n (c ∷ ds) d = value_last (n * 10 + (c - 48)) ds d

digits_say : (k n : ℕ) → n < k → value 0 (digits n) ≡ n
unfolding value
digits_say zero n l = absurd (omega arith)
digits_say (suc k) n l =
    flag (ltb n 10)
    (λ t. ap (value 0) (digits_one n (ltb-true n 10 t)) ∙ omega arith)
    (λ f.
    let h = ltb-false n 10 f in
    ap (value 0) (digits_more n h) ∙ value_last 0 (digits (n / 10)) (48 + n % 10) ∙ omega (arith, digits_say k (n / 10) (omega arith)))

pub digits_determine : (m n : ℕ) → digits m ≡ digits n → m ≡ n
digits_determine m n e = sym (digits_say (suc m) m (omega arith)) ∙ ap (value 0) e ∙ digits_say (suc n) n (omega arith)

-- ---- a field's bytes are above the space, and none is above the digits

abbrev Digit : ℕ → Type 0
Digit b = (47 < b) × (b < 58)

digits_to : (k n : ℕ) → n < k → All Digit (digits n)
digits_to zero n l = absurd (omega arith)
digits_to (suc k) n l =
    flag (ltb n 10)
    (λ t. let h = ltb-true n 10 t in subst (All Digit) (sym (digits_one n h)) ((omega arith, omega arith), tt))
    (λ f.
    let h = ltb-false n 10 f in
    subst (All Digit) (sym (digits_more n h)) (All-append Digit (digits (n / 10)) ((48 + n % 10) ∷ []) (digits_to k (n / 10) (omega arith)) ((omega arith, omega arith), tt)))

digits_are : (n : ℕ) → All Digit (digits n)
digits_are n = digits_to (suc n) n (omega arith)

high : (n : ℕ) → All (λ b. 47 < b) (digits n)
high n = All-map Digit (λ b. 47 < b) (λ b h. h.0) (digits n) (digits_are n)

pub decimal_above : (z : ℤ) → All (λ b. 32 < b) (decimal z)
unfolding decimal
decimal_above (pos n) = All-map (λ b. 47 < b) (λ b. 32 < b) (λ b h. omega arith) (digits n) (high n)
decimal_above (negsuc n) = (omega arith, All-map (λ b. 47 < b) (λ b. 32 < b) (λ b h. omega arith) (digits (suc n)) (high (suc n)))

pub decimal_determines : (x y : ℤ) → decimal x ≡ decimal y → x ≡ y
unfolding decimal
decimal_determines (pos m) (pos n) e = ap pos (digits_determine m n e)
decimal_determines (pos m) (negsuc n) e = absurd (omega (arith, (subst (All (λ b. 47 < b)) e (high m)).0))
decimal_determines (negsuc m) (pos n) e = absurd (omega (arith, (subst (All (λ b. 47 < b)) (sym e) (high n)).0))
decimal_determines (negsuc m) (negsuc n) e = let h : suc m ≡ suc n = digits_determine (suc m) (suc n) (tail_is e) in ap negsuc (omega arith)

-- ---- a field, and a line, from the front

-- a text that begins with the space or byte 0A
abbrev Ends : List ℕ → Type 0
Ends [] = ⊥
Ends (b ∷ w) = b ≤ 32

cut : (x y u v : List ℕ) → All (λ b. 32 < b) x → All (λ b. 32 < b) y → Ends u → Ends v → x ++ u ≡ y ++ v → (x ≡ y) × (u ≡ v)
cut [] [] u v h k a b e = (refl, e)
cut [] (y ∷ ys) [] v h k a b e = absurd a
cut [] (y ∷ ys) (c ∷ u) v h k a b e = absurd (omega (arith, head_is e, k.0))
cut (x ∷ xs) [] u [] h k a b e = absurd b
cut (x ∷ xs) [] u (c ∷ v) h k a b e = absurd (omega (arith, head_is e, h.0))
cut (x ∷ xs) (y ∷ ys) u v h k a b e =
    let (f, g) = cut xs ys u v h.1 k.1 a b (tail_is e) in
    (rw (head_is e, f), g)

-- the fields, byte 0A, and what follows them
abbrev pub fields : List ℤ → List ℕ
fields xs = flat_map (λ z. 0x20 ∷ decimal z) xs

abbrev fields_then : List ℤ → List ℕ → List ℕ
fields_then xs u = fields xs ++ (0x0A ∷ u)

ends : (xs : List ℤ) (u : List ℕ) → Ends (fields_then xs u)
unfolding flat_map
ends [] u = omega arith
ends (x ∷ xs) u = omega arith

fields_determine : (xs ys : List ℤ) (u v : List ℕ) → fields_then xs u ≡ fields_then ys v → (xs ≡ ys) × (u ≡ v)
unfolding flat_map
fields_determine [] [] u v e = (refl, tail_is e)
fields_determine [] (y ∷ ys) u v e = absurd (omega (arith, head_is e))
fields_determine (x ∷ xs) [] u v e = absurd (omega (arith, head_is e))
fields_determine (x ∷ xs) (y ∷ ys) u v e = both (fields_determine xs ys u v first.1) (decimal_determines x y first.0)
  where
    first : (decimal x ≡ decimal y) × (fields_then xs u ≡ fields_then ys v)
    first = cut (decimal x) (decimal y) (fields_then xs u) (fields_then ys v) (decimal_above x) (decimal_above y) (ends xs u) (ends ys v)
        (sym (append_assoc (decimal x) (fields xs) (0x0A ∷ u)) ∙ tail_is e ∙ append_assoc (decimal y) (fields ys) (0x0A ∷ v))

    both : (xs ≡ ys) × (u ≡ v) → x ≡ y → (◌≡◌ {A = List ℤ} (x ∷ xs) (y ∷ ys)) × (u ≡ v)
    both h f = (rw (f, h.0), h.1)

pub line_determines : (a b : ℕ) (xs ys : List ℤ) (u v : List ℕ) → line a xs ++ u ≡ line b ys ++ v → (a ≡ b) × ((xs ≡ ys) × (u ≡ v))
unfolding line
line_determines a b xs ys u v e =
    (head_is e, fields_determine xs ys u v (sym (append_assoc (fields xs) (0x0A ∷ []) u) ∙ tail_is e ∙ append_assoc (fields ys) (0x0A ∷ []) v))

-- ---- a byte above the digits that is not a line's letter stands nowhere in the line

abbrev Low : ℕ → Type 0
Low b = b < 58

fields_low : (xs : List ℤ) → All Low (fields xs)
unfolding flat_map decimal
fields_low [] = tt
fields_low (x ∷ xs) = (omega arith, All-append Low (decimal x) (fields xs) (low x) (fields_low xs))
  where
    digits_low : (n : ℕ) → All Low (digits n)
    digits_low n = All-map Digit Low (λ b h. h.1) (digits n) (digits_are n)

    low : (z : ℤ) → All Low (decimal z)
    low (pos n) = digits_low n
    low (negsuc n) = (omega arith, digits_low (suc n))

pub line_without : (byte letter : ℕ) (xs : List ℤ) → 57 < byte → (letter ≡ byte → ⊥) → All (λ b. b ≡ byte → ⊥) (line letter xs)
unfolding line
line_without byte letter xs l d =
    (d, All-map Low (λ b. b ≡ byte → ⊥) (λ b h e. absurd (omega arith)) (fields xs ++ (0x0A ∷ [])) (All-append Low (fields xs) (0x0A ∷ []) (fields_low xs) (omega arith, tt)))

-- ---- a text of lines

unfoldable pub texts : List (ℕ × List ℤ) → List ℕ
texts lines = flat_map (λ l. line l.0 l.1) lines

pub texts_append : (a b : List (ℕ × List ℤ)) → texts (a ++ b) ≡ texts a ++ texts b
unfolding texts
texts_append a b = flat_map_append _ a b

pub texts_join : (n : ℕ) (f : ℕ → List (ℕ × List ℤ)) → texts (join_below n f) ≡ join_below n (λ i. texts (f i))
unfolding texts
texts_join n f = flat_map_join _ n f

pub texts_one : (letter : ℕ) (xs : List ℤ) → texts ((letter, xs) ∷ []) ≡ line letter xs
unfolding texts flat_map
texts_one letter xs = append-nil (line letter xs)

pub texts_none : texts [] ≡ []
unfolding texts flat_map
texts_none = refl

pub texts_determine : (a b : List (ℕ × List ℤ)) → texts a ≡ texts b → a ≡ b
unfolding texts flat_map line
texts_determine [] [] e = refl
texts_determine [] (y ∷ b) e = absurd (omega (arith, ap length e))
texts_determine (x ∷ a) [] e = absurd (omega (arith, ap length e))
texts_determine (x ∷ a) (y ∷ b) e =
    let (l, (f, rest)) = line_determines x.0 y.0 x.1 y.1 (texts a) (texts b) e in
    ap₂ ◌∷◌ (ap₂ (λ m n. (m, n)) l f) (texts_determine a b rest)
