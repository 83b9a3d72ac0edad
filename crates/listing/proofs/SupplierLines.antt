-- Equal lines of suppliers stand for as many choices, the same ones fed, and the same bound, cost and gap.
use Prim.Native.Nat.{ℕ}
use native.Mathlib.Omega.{arith}
use mathlib.Core.Path.{◌≡◌, refl, sym, ap, ap₂, ◌∙◌}
use mathlib.Core.Bool.{Bool, true, false}
use mathlib.Core.List.{List, [], ◌∷◌, ◌++◌}
use lib.IntN.{ℤ, pos, nat_abs}
use lib.ListN.{get_or}
use Rattle.integers.specs.Integer.{bit}
use Rattle.integers.specs.Lists.{All, join_below}
use Rattle.integers.proofs.Lists.{All-join}
use Rattle.integers.proofs.Join.{join_cong}
use Rattle.sets.specs.Sets.{is_member}
use Rattle.text.proofs.Unique.{texts, texts_append, texts_join, texts_one, texts_determine}
use Rattle.register.specs.declared.Register.{Register}
use Rattle.listing.specs.Listing.{supplier_line, supplier_lines, bound_line}
use Rattle.listing.specs.Same.{SameFed}
use Rattle.listing.proofs.Lettered.{Line, Has, head_line, apart, count, each}

-- ---- the lines, each as its letter and its fields

abbrev choice : ℕ → ℕ → Line
choice plan i = (0x43, pos i ∷ bit (is_member i plan) ∷ [])

abbrev choices : ℕ → ℕ → List Line
choices n plan = join_below n (λ i. choice plan i ∷ [])

abbrev last : ℤ → ℤ → ℤ → List Line
last bound cost gap = (0x42, bound ∷ cost ∷ gap ∷ []) ∷ []

lines_are : (r : Register) (plan : ℕ) (bound cost gap : ℤ) → texts (choices r.choices plan ++ last bound cost gap) ≡ supplier_lines r plan ++ bound_line bound cost gap
unfolding supplier_lines
lines_are r plan bound cost gap =
    texts_append (choices r.choices plan) (last bound cost gap)
    ∙ ap₂ ◌++◌
    (texts_join r.choices (λ i. choice plan i ∷ []) ∙ join_cong r.choices _ _ (λ i l. texts_one 0x43 (pos i ∷ bit (is_member i plan) ∷ [])))
    (texts_one 0x42 (bound ∷ cost ∷ gap ∷ []))

choices_have : (n plan : ℕ) → All (Has 0x43) (choices n plan)
choices_have n plan = All-join (Has 0x43) n _ (λ i l. (refl, tt))

bit_determines : (a b : Bool) → bit a ≡ bit b → a ≡ b
bit_determines true true e = refl
bit_determines true false e = absurd (omega (arith, ap nat_abs e))
bit_determines false true e = absurd (omega (arith, ap nat_abs e))
bit_determines false false e = refl

-- ---- two of them

module _ (r r' : Register) (plan plan' : ℕ) where
  pub same_fed : (b c g b' c' g' : ℤ) → supplier_lines r plan ++ bound_line b c g ≡ supplier_lines r' plan' ++ bound_line b' c' g' → SameFed r plan r' plan' × ((b ≡ b') × ((c ≡ c') × (g ≡ g')))
  same_fed b c g b' c' g' e =
      let lines = texts_determine (choices r.choices plan ++ last b c g) (choices r'.choices plan' ++ last b' c' g') (lines_are r plan b c g ∙ e ∙ sym (lines_are r' plan' b' c' g')) in
      let (f, d) = apart 0x43 0x42 (λ e. omega arith) (choices r.choices plan) (choices r'.choices plan') (last b c g) (last b' c' g') (choices_have r.choices plan) (choices_have r'.choices plan') (refl, tt) (refl, tt) lines in
      let number : (k : ℕ) → get_or (b ∷ c ∷ g ∷ []) k (pos 0) ≡ get_or (b' ∷ c' ∷ g' ∷ []) k (pos 0) = λ k. ap (λ (l : Line). get_or l.1 k (pos 0)) (head_line d) in (
        record {
          choices = count r.choices r'.choices (choice plan) (choice plan') f;
          fed = λ i l. bit_determines (is_member i plan) (is_member i plan') (ap (λ (x : Line). get_or x.1 1 (pos 0)) (each r.choices r'.choices (choice plan) (choice plan') f i l));
        },
        (number 0, (number 1, number 2)),
      )

  pub fed_lines : SameFed r plan r' plan' → supplier_lines r plan ≡ supplier_lines r' plan'
  unfolding supplier_lines
  fed_lines s = join_cong r.choices _ _ (λ i l. ap (supplier_line i) (s.fed i l)) ∙ ap (λ n. join_below n (λ i. supplier_line i (is_member i plan'))) s.choices
