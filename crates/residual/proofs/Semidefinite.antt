-- R is symmetric: so where it is diagonally dominant, B, which is R and the squares, is positive semidefinite.
use Prim.Native.Nat.{ℕ}
use mathlib.Core.Path.{◌≡◌, sym, ap, ap₂, fun_ext}
use mathlib.Core.List.{List, [], ◌∷◌}
use lib.IntN.{ℤ, pos, ◌+ℤ◌, ◌-ℤ◌, ◌*ℤ◌}
use lib.ListN.{get_or}
use Rattle.integers.specs.Lists.{All}
use Rattle.integers.specs.Sum.{sum_over}
use Rattle.integers.specs.Quadratic.{Semidefinite, Symmetric, DiagonallyDominant}
use Rattle.integers.proofs.Order.{pos_nonneg}
use Rattle.integers.proofs.Ring.{*ℤ_assoc}
use Rattle.integers.proofs.Solver.{quote, atoms, ring}
use Rattle.integers.proofs.Quadratic.{semidefinite_cong, semidefinite_+, semidefinite_*, semidefinite_square, semidefinite_sum_over}
use Rattle.integers.proofs.Gerschgorin.{dominant→semidefinite}
use Rattle.forms.specs.Form.{entry}
use Rattle.forms.proofs.Form.{entry_symmetric}
use Rattle.register.specs.declared.Register.{Register}
use Rattle.scheme.specs.declared.Scheme.{Scheme}
use Rattle.scheme.specs.Scheme.{side}
use Rattle.certificate.specs.Certificate.{Square, Certificate}
use Rattle.residual.specs.Residual.{shifted, square_at, R}
use Rattle.residual.proofs.Table.{R_and_squares}

-- ---- squares

square_semidefinite : (n : ℕ) (q : Square) → Semidefinite n (square_at q)
square_semidefinite n q =
    semidefinite_cong n _ (square_at q) (λ i j _ _. sym (*ℤ_assoc (pos q.w) (get_or q.v i (pos 0)) (get_or q.v j (pos 0))))
    (semidefinite_* n (pos q.w) _ (pos_nonneg q.w) (semidefinite_square n (λ i. get_or q.v i (pos 0))))

squares_semidefinite : (n : ℕ) (qs : List Square) → Semidefinite n (λ i j. sum_over qs (λ q. square_at q i j))
squares_semidefinite n qs = semidefinite_sum_over n qs square_at (go qs)
  where
    go : (qs : List Square) → All (λ q. Semidefinite n (square_at q)) qs
    go [] = tt
    go (q ∷ qs) = (square_semidefinite n q, go qs)

-- ---- R and B

module _ (c : ℕ → ℤ) (r : Register) (s : Scheme) (k : Certificate) where
  abbrev n : ℕ
  n = r.choices

  abbrev squares : ℕ → ℕ → ℤ
  squares i j = sum_over k.squares (λ q. square_at q i j)

  pub R_symmetric : Symmetric (side n s) (R c r s k)
  unfolding R
  R_symmetric i j h l =
      ap₂ ◌-ℤ◌ (entry_symmetric (shifted c r s k) i j) (ap (sum_over k.squares) (fun_ext (λ q. swap (pos q.w) (get_or q.v i (pos 0)) (get_or q.v j (pos 0)))))
    where
      swap : (w u v : ℤ) → w *ℤ u *ℤ v ≡ w *ℤ v *ℤ u
      swap w u v = atoms (w ∷ u ∷ v ∷ []) λ ρ w u v. simp (w, u, v, quote) (ring _ _ _ tt)

  module _ (dominant : DiagonallyDominant (side n s) (R c r s k)) where
    -- the table of B is positive semidefinite
    pub semidefinite : Semidefinite (side n s) (entry (shifted c r s k))
    semidefinite =
        semidefinite_cong (side n s) (λ i j. R c r s k i j +ℤ squares i j) _ (λ i j _ _. R_and_squares c r s k i j)
        (semidefinite_+ (side n s) (R c r s k) squares (dominant→semidefinite (side n s) (R c r s k) R_symmetric dominant) (squares_semidefinite (side n s) k.squares))
