-- A line that stands in a text, at its front or after byte 0A. In a text of lines it is one of them.
use Prim.Native.Nat.{ℕ, zero, suc, ◌<◌}
use native.Mathlib.Omega.{arith}
use mathlib.Core.Path.{◌≡◌, refl, sym, ap, ap₂, ◌∙◌, subst}
use mathlib.Core.Logic.{inl, inr, ⊎_elim}
use mathlib.Core.List.{List, [], ◌∷◌, ◌++◌, append_assoc, append-nil, flat_map}
use lib.IntN.{ℤ}
use lib.ListN.{length}
use Rattle.integers.specs.Lists.{All, join_below}
use Rattle.integers.proofs.Lists.{All-append, All-map}
use Rattle.integers.proofs.Entries.{below_or_last}
use Rattle.text.specs.Text.{decimal, line, Starts, HasLine}
use Rattle.text.proofs.Unique.{head_is, tail_is, decimal_above, fields, line_determines, texts}

-- ---- lines one after the other

starts_append : (a b : List ℕ) → Starts a → Starts b → Starts (a ++ b)
starts_append a b s (inl e) = subst Starts (sym (ap (λ u. a ++ u) e ∙ append-nil a)) s
starts_append a b s (inr (before, e)) = inr (a ++ before, ap (λ u. a ++ u) e ∙ sym (append_assoc a before (0x0A ∷ [])))

pub starts_line : (letter : ℕ) (xs : List ℤ) → Starts (line letter xs)
unfolding line
starts_line letter xs = inr (letter ∷ fields xs, refl)

pub starts_join : (n : ℕ) (f : ℕ → List ℕ) → ((i : ℕ) → Starts (f i)) → Starts (join_below n f)
unfolding join_below
starts_join zero f h = inl refl
starts_join (suc n) f h = starts_append (join_below n f) (f n) (starts_join n f h) (h n)

module _ (x : List ℕ) where
  pub stands_alone : HasLine x x
  stands_alone = record { front = []; back = []; whole = sym (append-nil x); starts = inl refl }

  pub stands_first : (a b : List ℕ) → HasLine x a → HasLine x (a ++ b)
  stands_first a b s = record { front = s.front; back = s.back ++ b; whole = ap (λ u. u ++ b) s.whole ∙ append_assoc (s.front ++ x) s.back b; starts = s.starts }

  pub stands_second : (a b : List ℕ) → Starts a → HasLine x b → HasLine x (a ++ b)
  stands_second a b h s = record {
    front = a ++ s.front;
    back = s.back;
    whole = ap (λ u. a ++ u) s.whole ∙ sym (append_assoc a (s.front ++ x) s.back) ∙ ap (λ u. u ++ s.back) (sym (append_assoc a s.front x));
    starts = starts_append a s.front h s.starts;
  }

  pub stands_join : (n : ℕ) (f : ℕ → List ℕ) → ((i : ℕ) → Starts (f i)) → (i : ℕ) → i < n → HasLine x (f i) → HasLine x (join_below n f)
  unfolding join_below
  stands_join zero f h i l s = absurd (omega arith)
  stands_join (suc n) f h i l s =
      ⊎_elim
      (λ (k : i < n). stands_first (join_below n f) (f n) (stands_join n f h i k s))
      (λ (k : i ≡ n). stands_second (join_below n f) (f n) (starts_join n f h) (subst (λ j. HasLine x (f j)) k s))
      (below_or_last i n l)

-- ---- a line that stands in a text of lines is one of them

record Behind (u v : List ℕ) : Type 0 where
  front : List ℕ
  starts : Starts front
  whole : u ≡ front ++ v

-- u stands behind the first byte 0A of a text, v behind any
behind : (body u before v : List ℕ) → All (λ b. 0x0A < b) body → body ++ (0x0A ∷ u) ≡ before ++ (0x0A ∷ v) → Behind u v
behind [] u [] v h e = record { front = []; starts = inl refl; whole = tail_is e }
behind [] u (c ∷ before) v h e = record { front = before ++ (0x0A ∷ []); starts = inr (before, refl); whole = tail_is e ∙ sym (append_assoc before (0x0A ∷ []) v) }
behind (b ∷ body) u [] v h e = absurd (omega (arith, head_is e, h.0))
behind (b ∷ body) u (c ∷ before) v h e = behind body u before v h.1 (tail_is e)

fields_above : (xs : List ℤ) → All (λ b. 0x0A < b) (fields xs)
unfolding flat_map
fields_above [] = tt
fields_above (x ∷ xs) = (omega arith, All-append (λ b. 0x0A < b) (decimal x) (fields xs) (All-map (λ b. 32 < b) (λ b. 0x0A < b) (λ b h. omega arith) (decimal x) (decimal_above x)) (fields_above xs))

-- what holds of all lines holds of it
module _ (P : ℕ × List ℤ → Type 0) (letter : ℕ) (xs : List ℤ) where
  found : (back : List ℕ) (lines : List (ℕ × List ℤ)) → All (λ l. (0x0A < l.0) × P l) lines → (front : List ℕ) → Starts front → texts lines ≡ front ++ (line letter xs ++ back) → P (letter, xs)
  unfolding texts flat_map line
  found back [] h [] s e = absurd (omega (arith, ap length e))
  found back [] h (c ∷ front) s e = absurd (omega (arith, ap length e))
  found back (x ∷ lines) h front (inl f) e =
      let (l, (g, _)) = line_determines x.0 letter x.1 xs (texts lines) back (e ∙ ap (λ u. u ++ (line letter xs ++ back)) f) in
      subst P (ap₂ (λ m n. (m, n)) l g) h.0.1
  found back (x ∷ lines) h front (inr (before, f)) e =
      let v = line letter xs ++ back in
      let both = sym (append_assoc (x.0 ∷ fields x.1) (0x0A ∷ []) (texts lines)) ∙ e ∙ ap (λ u. u ++ v) f ∙ append_assoc before (0x0A ∷ []) v in
      let b = behind (x.0 ∷ fields x.1) (texts lines) before v (h.0.0, fields_above x.1) both in
      found back lines h.1 b.front b.starts b.whole

  pub stands_among : (lines : List (ℕ × List ℤ)) → All (λ l. (0x0A < l.0) × P l) lines → HasLine (line letter xs) (texts lines) → P (letter, xs)
  stands_among lines h s = found s.back lines h s.front s.starts (s.whole ∙ append_assoc s.front (line letter xs) s.back)
