-- The row of a command by its byte.
use mathlib.Core.Path.{◌≡◌, refl, sym, ◌∙◌, ap}
use mathlib.Core.Bool.{true, ◌&&◌, false≢true, true≢false}
use mathlib.Core.Logic.{inl, inr}
use mathlib.Core.List.{List, [], ◌∷◌}
use Prim.Native.Nat.{ℕ, ◌≤◌}
use native.Mathlib.Omega.{arith}
use native.Mathlib.Decide.{ℕ_discrete}
use lib.Dec.{leb}
use borrow.Author.Tests.{leb-true, le-leb}
use Rattle.integers.proofs.Lists.{flag, and_both}
use Rattle.wire.specs.Rows.{Row, row_of, no_row, is_among}
use Rattle.wire.proofs.Rest.{no_row_lem}
use Rattle.register.specs.declared.Register.{Register}
use Rattle.scheme.specs.declared.Scheme.{Scheme}
use Rattle.certificate.specs.Certificate.{Certificate}
use Rattle.certificate.specs.Answer.{IsMultiplier}
use Rattle.certificate.specs.Format.{scale_row, multiplier_kinds, multiplier_row, square_row, end_row, any_before, certificate_rows}
use Rattle.certificate.proofs.Ranges.{is_multiplier, multiplier_between, row_later, row_alike}
use Rattle.certificate.proofs.Sizes.{no_command}

-- from `31` to `3B` all but the square's are multiplier commands
pub kinds_between : (b : ℕ) → 0x31 ≤ b → b ≤ 0x3B → (b ≡ 0x3A → ⊥) → IsMultiplier b
kinds_between b p q d = by (ℕ_discrete b 0x3B)
  where
    by : Dec (b ≡ 0x3B) → IsMultiplier b
    by (yes e) = inr e
    by (no f) = inl (p, omega arith)

module _ (reg : Register) (sch : Scheme) where
  abbrev rows : List (Row Certificate)
  rows = certificate_rows reg sch

  pub row_multiplier : (b : ℕ) → IsMultiplier b → row_of rows b ≡ multiplier_row reg sch b
  row_multiplier b h =
      row_later scale_row _ b (λ e. omega (arith, multiplier_between b h)) ∙ row_alike (multiplier_row reg sch) (λ k. refl) multiplier_kinds (square_row reg sch ∷ end_row ∷ []) b (is_multiplier b h)

  pub row_other : (b : ℕ) → (0x30 ≤ b → b ≤ 0x3B → ⊥) → (b ≡ 0x3F → ⊥) → row_of rows b ≡ no_row
  row_other b h d = no_row_lem rows b (no_command b h d)

  -- ---- where it may stand

  pub stands_between : (b : ℕ) → 0x31 ≤ b → b ≤ 0x3B → (row_of rows b).follows ≡ any_before
  unfolding row_of
  stands_between b p q = by (ℕ_discrete b 0x3A)
    where
      by : Dec (b ≡ 0x3A) → (row_of rows b).follows ≡ any_before
      by (yes e) = rw e
      by (no d) = ap (λ (r : Row Certificate). r.follows) (row_multiplier b (kinds_between b p q d))

  -- a byte that may stand somewhere, and is none of the others
  module _ (b previous : ℕ) (h : is_among previous (row_of rows b).follows ≡ true) where
    pub only_end : (0x30 ≤ b → b ≤ 0x3B → ⊥) → b ≡ 0x3F
    only_end x = by (ℕ_discrete b 0x3F)
      where
        by : Dec (b ≡ 0x3F) → b ≡ 0x3F
        by (yes e) = e
        by (no d) = absurd (false≢true (rw (row_other b x d) at h))

    pub only_multiplier : (b ≡ 0x30 → ⊥) → (b ≡ 0x3A → ⊥) → (b ≡ 0x3F → ⊥) → IsMultiplier b
    only_multiplier x y z =
        flag (leb 0x31 b && leb b 0x3B)
        (λ t. let (p, q) = and_both _ _ t in kinds_between b (leb-true 0x31 b p) (leb-true b 0x3B q) y)
        (λ t. absurd (z (only_end (λ l u. true≢false (sym (rw (le-leb 0x31 b (omega arith), le-leb b 0x3B (omega arith)) at (sym t)))))))

  pub only_first : (b : ℕ) → is_among 0 (row_of rows b).follows ≡ true → b ≡ 0x30
  unfolding row_of
  only_first b h = by (ℕ_discrete b 0x30)
    where
      by : Dec (b ≡ 0x30) → b ≡ 0x30
      by (yes e) = e
      by (no d) =
          let e : b ≡ 0x3F = only_end b 0 h (λ l u. false≢true (rw (stands_between b (omega arith) u) at h)) in
          absurd (false≢true (rw e at h))
