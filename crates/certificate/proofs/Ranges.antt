-- Numbers in a range, and numbers in a list.
use mathlib.Core.Path.{◌≡◌, refl, sym, subst, ◌∙◌, ap}
use mathlib.Core.Logic.{inl, inr, ⊎_elim}
use mathlib.Core.Bool.{true, ◌&&◌}
use mathlib.Core.List.{List, [], ◌∷◌, ◌++◌, map}
use Prim.Native.Nat.{ℕ, ◌+◌, ◌-◌, ◌≤◌, ◌<◌}
use native.Mathlib.Omega.{arith}
use native.Mathlib.Decide.{ℕ_discrete}
use lib.Dec.{T, eqb, leb, eqb→eq, leb→le}
use borrow.Author.Tests.{ne_eqb, eq-eqb}
use Rattle.integers.specs.Lists.{All, all_below}
use Rattle.integers.proofs.Lists.{T_and, T_or, T_ext, T_true, All-append, All-map, all_below_at, ◌▹◌}
use Rattle.wire.specs.Rows.{Row, is_among, row_of}
use Rattle.certificate.specs.Format.{multiplier_kinds, any_before}
use Rattle.certificate.specs.Answer.{IsMultiplier}

-- what holds of each number in a list holds of a number in it
pub among_all : (P : ℕ → Type 0) (cs : List ℕ) → All P cs → (b : ℕ) → T (is_among b cs) → P b
among_all P [] h b t = absurd t
among_all P (c ∷ []) h b t = subst P (sym (eqb→eq b c t)) h.0
among_all P (c ∷ (d ∷ cs)) h b t =
    ⊎_elim (λ u. subst P (sym (eqb→eq b c u)) h.0) (λ u. among_all P (d ∷ cs) h.1 b u) ((T_or (eqb b c) (is_among b (d ∷ cs))).0 t)

-- a list that has the k numbers from m on has each number in that range
pub in_range : (m k : ℕ) (cs : List ℕ) → T (all_below k (λ i. is_among (m + i) cs)) → (b : ℕ) → m ≤ b → b < m + k → T (is_among b cs)
in_range m k cs t b p q =
    let e : m + (b - m) ≡ b = omega arith in
    subst (λ x. T (is_among x cs)) e (all_below_at k (λ i. is_among (m + i) cs) t (b - m) (omega arith))

-- `31` to `39` and `3B`

pub is_multiplier : (b : ℕ) → IsMultiplier b → T (is_among b multiplier_kinds)
unfolding all_below
is_multiplier b (inl (p, q)) = in_range 0x31 9 multiplier_kinds tt b p (omega arith)
is_multiplier b (inr e) = subst (λ b. T (is_among b multiplier_kinds)) (sym e) tt

pub multiplier_between : (b : ℕ) → IsMultiplier b → (0x31 ≤ b) × (b ≤ 0x3B)
multiplier_between b (inl (p, q)) = (p, omega arith)
multiplier_between b (inr e) = (omega arith, omega arith)

-- what holds of each of them
pub all_kinds : (P : ℕ → Type 0) → ((kind : ℕ) → IsMultiplier kind → P kind) → All P multiplier_kinds
all_kinds P h =
    let ranged : (kind : ℕ) → (0x31 ≤ kind) × (kind ≤ 0x39) → P kind = λ kind r. h kind (inl r) in
    All-append P (0x31 ∷ 0x32 ∷ 0x33 ∷ 0x34 ∷ 0x35 ∷ 0x36 ∷ 0x37 ∷ 0x38 ∷ 0x39 ∷ []) (0x3B ∷ [])
    (All-map (λ kind. (0x31 ≤ kind) × (kind ≤ 0x39)) P ranged (0x31 ∷ 0x32 ∷ 0x33 ∷ 0x34 ∷ 0x35 ∷ 0x36 ∷ 0x37 ∷ 0x38 ∷ 0x39 ∷ []) (omega arith))
    (h 0x3B (inr refl), tt)

-- what may stand before a command is `30` to `3B`

pub among_between : (b : ℕ) → 0x30 ≤ b → b ≤ 0x3B → is_among b any_before ≡ true
unfolding all_below
among_between b p q = (T_true _).0 (in_range 0x30 12 any_before tt b p (omega arith))

pub before_any : (b : ℕ) → (leb 0x30 b && leb b 0x3B) ≡ is_among b any_before
before_any b =
    T_ext (leb 0x30 b && leb b 0x3B) (is_among b any_before) (
      (λ t. let (p, q) = (T_and (leb 0x30 b) (leb b 0x3B)).0 t in (T_true _).1 (among_between b (leb→le 0x30 b p) (leb→le b 0x3B q))),
      (λ t. among_all (λ b. T (leb 0x30 b && leb b 0x3B)) any_before (tt ▹ tt ▹ tt ▹ tt ▹ tt ▹ tt ▹ tt ▹ tt ▹ tt ▹ tt ▹ tt ▹ tt ▹ tt) b t),
    )

-- the row of a byte

module _ {R : Type 0} where
  row_first : (r : Row R) (rows : List (Row R)) (b : ℕ) → b ≡ r.byte → row_of (r ∷ rows) b ≡ r
  unfolding row_of
  row_first r rows b e = rw (eq-eqb b r.byte e)

  pub row_later : (r : Row R) (rows : List (Row R)) (b : ℕ) → (b ≡ r.byte → ⊥) → row_of (r ∷ rows) b ≡ row_of rows b
  unfolding row_of
  row_later r rows b h = rw (ne_eqb b r.byte h)

  -- one of several rows that are made alike
  pub row_alike : (row : ℕ → Row R) → ((k : ℕ) → (row k).byte ≡ k) → (ks : List ℕ) (rest : List (Row R)) (b : ℕ) → T (is_among b ks) → row_of (map row ks ++ rest) b ≡ row b
  row_alike row same [] rest b t = absurd t
  row_alike row same (k ∷ []) rest b t =
      let e = eqb→eq b k t in row_first (row k) rest b (e ∙ sym (same k)) ∙ ap row (sym e)
  row_alike row same (k ∷ (l ∷ ks)) rest b t = by (ℕ_discrete b k) (row_alike row same (l ∷ ks) rest b)
    where
      by : Dec (b ≡ k) → (T (is_among b (l ∷ ks)) → row_of (map row (l ∷ ks) ++ rest) b ≡ row b) → row_of (map row (k ∷ (l ∷ ks)) ++ rest) b ≡ row b
      by (yes e) later = row_first (row k) _ b (e ∙ sym (same k)) ∙ ap row (sym e)
      by (no d) later = row_later (row k) _ b (λ e. d (e ∙ same k)) ∙ later (⊎_elim (λ u. absurd (d (eqb→eq b k u))) (λ u. u) ((T_or (eqb b k) (is_among b (l ∷ ks))).0 t))

  -- what holds of the row of each multiplier command
  pub rows_alike : (P : Row R → Type 0) (row : ℕ → Row R) → ((kind : ℕ) → IsMultiplier kind → P (row kind)) → All P (map row multiplier_kinds)
  rows_alike P row h = mapped multiplier_kinds (all_kinds (λ kind. P (row kind)) h)
    where
      mapped : (ks : List ℕ) → All (λ kind. P (row kind)) ks → All P (map row ks)
      mapped [] a = tt
      mapped (k ∷ ks) a = (a.0, mapped ks a.1)
