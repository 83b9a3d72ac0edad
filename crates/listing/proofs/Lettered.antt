-- Lines as their letters and their fields: lists of lines that are told apart by their letters, and lists of a line for each choice.
use Prim.Native.Nat.{ℕ, ◌+◌, ◌*◌, ◌<◌}
use native.Mathlib.Nat.{mul-one}
use native.Mathlib.Omega.{arith}
use mathlib.Core.Path.{◌≡◌, refl, sym, ap, ap₂, ◌∙◌}
use mathlib.Core.List.{List, [], ◌∷◌, ◌++◌}
use lib.IntN.{ℤ}
use lib.ListN.{length, get_or, drop}
use Rattle.integers.specs.Lists.{All, join_below}
use Rattle.integers.proofs.Join.{length_join, get_d_join}

abbrev pub Line : Type 0
Line = ℕ × List ℤ

abbrev none : Line
none = (0, [])

pub head_line : {x y : Line} {xs ys : List Line} → ◌≡◌ {A = List Line} (x ∷ xs) (y ∷ ys) → x ≡ y
head_line e = ap (λ l. get_or l 0 none) e

tail_line : {x y : Line} {xs ys : List Line} → ◌≡◌ {A = List Line} (x ∷ xs) (y ∷ ys) → xs ≡ ys
tail_line e = ap (λ l. drop 1 l) e

abbrev pub Has : ℕ → Line → Type 0
Has letter l = l.0 ≡ letter

-- lines of one letter, and then lines of another
pub apart : (t f : ℕ) → (t ≡ f → ⊥) → (a a' b b' : List Line) → All (Has t) a → All (Has t) a' → All (Has f) b → All (Has f) b' → a ++ b ≡ a' ++ b' → (a ≡ a') × (b ≡ b')
apart t f d [] [] b b' h h' k k' e = (refl, e)
apart t f d [] (y ∷ a') [] b' h h' k k' e = absurd (omega (arith, ap length e))
apart t f d [] (y ∷ a') (x ∷ b) b' h h' k k' e = absurd (d (sym h'.0 ∙ sym (ap (λ l. l.0) (head_line e)) ∙ k.0))
apart t f d (x ∷ a) [] b [] h h' k k' e = absurd (omega (arith, ap length e))
apart t f d (x ∷ a) [] b (y ∷ b') h h' k k' e = absurd (d (sym h.0 ∙ ap (λ l. l.0) (head_line e) ∙ k'.0))
apart t f d (x ∷ a) (y ∷ a') b b' h h' k k' e =
    let (g, i) = apart t f d a a' b b' h.1 h'.1 k k' (tail_line e) in
    (ap₂ ◌∷◌ (head_line e) g, i)

-- a line for each number below n
module _ (n n' : ℕ) (f f' : ℕ → Line) (e : join_below n (λ i. f i ∷ []) ≡ join_below n' (λ i. f' i ∷ [])) where
  pub count : n ≡ n'
  count = sym (mul-one n) ∙ sym (length_join n 1 (λ i. f i ∷ []) (λ i. refl)) ∙ ap length e ∙ length_join n' 1 (λ i. f' i ∷ []) (λ i. refl) ∙ mul-one n'

  pub each : (i : ℕ) → i < n → f i ≡ f' i
  each i l =
      sym (get_d_join n 1 (λ i. f i ∷ []) (λ i. refl) i 0 none l (omega arith))
      ∙ ap (λ x. get_or x (i * 1 + 0) none) e
      ∙ get_d_join n' 1 (λ i. f' i ∷ []) (λ i. refl) i 0 none (omega (arith, count)) (omega arith)
