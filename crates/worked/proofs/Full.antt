-- A certificate with as many commands as it may have: 1,023 `31`, a `3B` and 64 squares; and with one more of either. Each m and
-- each entry of a square is 0, so R is what it is without them.
use Prim.Native.Nat.{ℕ, zero, suc, ◌≤◌}
use native.Mathlib.Omega.{arith}
use mathlib.Core.Path.{◌≡◌, refl, sym, ◌∙◌, ap, ap₂, subst, fun_ext}
use mathlib.Core.Logic.{◌↔◌}
use mathlib.Core.Bool.{Bool, true, false, cond}
use mathlib.Core.List.{[], ◌∷◌, ◌++◌}
use lib.IntN.{ℤ, pos, neg_ℤ, ◌+ℤ◌, ◌-ℤ◌, ◌*ℤ◌, zero-*ℤ}
use lib.ListN.{length, get_or, replicate, length-append, length-replicate, get_or-replicate}
use Rattle.integers.specs.Lists.{All}
use Rattle.integers.specs.Sum.{sum_over}
use Rattle.integers.specs.Quadratic.{DiagonallyDominant}
use Rattle.integers.proofs.Sum.{sum_over_0}
use Rattle.integers.proofs.Lists.{All-append}
use Rattle.forms.specs.Form.{mono, entry}
use Rattle.register.specs.declared.Register.{Register}
use Rattle.scheme.specs.declared.Scheme.{Scheme}
use Rattle.scheme.specs.Scheme.{side}
use Rattle.scheme.specs.Function.{g}
use Rattle.certificate.specs.Limits.{max_multipliers, max_squares, square_entries}
use Rattle.certificate.specs.Certificate.{Multiplier, Certificate, set_multipliers, set_squares}
use Rattle.certificate.specs.Rules.{by_key, rule_of}
use Rattle.certificate.specs.Within.{Variable, Allowed, SquareAllowed, Within}
use Rattle.certificate.proofs.Commands.{command, command_31}
use Rattle.residual.specs.Residual.{square_at, R}
use Rattle.residual.proofs.Table.{signed, signed_form, entry_signed_form, entry-B}
use Rattle.bound.specs.Valid.{Carries, Valid}
use Rattle.soundness.specs.Rows.{row_multiplier}
use Rattle.soundness.proofs.Multipliers.{multiplier_laws}

-- so many `31` of variable 0, then a `3B` of row 0 and variable 0, each with m = 0; and so many squares whose entries are 0
abbrev pub many : (multipliers squares : ℕ) → Certificate
many multipliers squares = record {
  scale = 1;
  target = pos 0;
  multipliers = replicate multipliers (command 0x31 0 0) ++ (row_multiplier 0 0 (pos 0) ∷ []);
  squares = replicate squares (record { w = 1; v = replicate square_entries (pos 0) });
}

all_same : {A : Type 0} (P : A → Type 0) (n : ℕ) (x : A) → P x → All P (replicate n x)
all_same P zero x h = tt
all_same P (suc n) x h = (h, all_same P n x h)

-- of any register with a choice and a row, and any scheme
module _ (reg : Register) (sch : Scheme) (choice : 1 ≤ reg.choices) (row : 1 ≤ reg.rows) where
  there : Variable reg.choices sch 0
  there = omega arith

  row_allowed : Allowed reg sch (row_multiplier 0 0 (pos 0))
  unfolding Allowed by_key
  row_allowed = (0, 0, refl, omega arith, there, omega arith)

  square_allowed : SquareAllowed reg.choices sch (record { w = 1; v = replicate square_entries (pos 0) })
  square_allowed = record {
    w_above = omega arith;
    w_within = omega arith;
    entries = length-replicate square_entries (pos 0);
    entries_within = λ i l. rw (get_or-replicate square_entries i (pos 0) (pos 0) l) (omega arith);
    past_0 = λ i h l. get_or-replicate square_entries i (pos 0) (pos 0) l;
  }

  within_iff : (multipliers squares : ℕ) → Within reg sch (many multipliers squares)
      ↔ ((length (many multipliers squares).multipliers ≤ max_multipliers) × (length (many multipliers squares).squares ≤ max_squares))
  within_iff multipliers squares =
      multiplier_laws.counts reg sch (many multipliers squares) (omega arith) (omega arith) (omega arith)
      (All-append (Allowed reg sch) (replicate multipliers (command 0x31 0 0)) (row_multiplier 0 0 (pos 0) ∷ []) (all_same (Allowed reg sch) multipliers _ (command_31 reg sch 0 0 there (omega arith))) (row_allowed, tt))
      (all_same (SquareAllowed reg.choices sch) squares _ square_allowed)

  how_many : (multipliers squares : ℕ) → (length (many multipliers squares).multipliers ≡ suc multipliers) × (length (many multipliers squares).squares ≡ squares)
  how_many multipliers squares = (
    omega (arith, length-append (replicate multipliers (command 0x31 0 0)) (row_multiplier 0 0 (pos 0) ∷ []), length-replicate multipliers (command 0x31 0 0)),
    length-replicate squares _,
  )

  -- 1,024 multipliers and 64 squares are within the limits; a 1,025th multiplier is not, nor a 65th square
  pub full : Within reg sch (many 1_023 64) × ((Within reg sch (many 1_024 64) → ⊥) × (Within reg sch (many 1_023 65) → ⊥))
  full = (
    (within_iff 1_023 64).1 (omega (arith, (how_many 1_023 64).0), omega (arith, (how_many 1_023 64).1)),
    (
      (λ w. omega (arith, ((within_iff 1_024 64).0 w).0, (how_many 1_024 64).0)),
      (λ w. omega (arith, ((within_iff 1_023 65).0 w).1, (how_many 1_023 65).1)),
    ),
  )

-- ---- they change nothing in R, so with them a certificate carries T where without any it does

zeros_at : (n i : ℕ) → get_or (replicate n (pos 0)) i (pos 0) ≡ pos 0
zeros_at zero i = refl
zeros_at (suc n) zero = refl
zeros_at (suc n) (suc i) = zeros_at n i

-- with so many multipliers and squares
abbrev pub with_many : Certificate → (multipliers squares : ℕ) → Certificate
with_many k multipliers squares = set_squares (set_multipliers k (many multipliers squares).multipliers) (many multipliers squares).squares

module _ (c : ℕ → ℤ) (reg : Register) (sch : Scheme) (k : Certificate) where
  nothing_added : (t : Multiplier) → t.m ≡ pos 0 → (i j : ℕ) → entry (signed_form reg sch t) i j ≡ pos 0
  unfolding signed
  nothing_added t e i j = entry_signed_form reg sch t i j ∙ ap (λ x. x *ℤ entry (rule_of reg sch t).form i j) (by (rule_of reg sch t).null) ∙ zero-*ℤ (entry (rule_of reg sch t).form i j)
    where
      by : (b : Bool) → cond b t.m (neg_ℤ t.m) ≡ pos 0
      by true = e
      by false = ap neg_ℤ e

  same_r : k.multipliers ≡ [] → k.squares ≡ [] → (multipliers squares i j : ℕ) → R c reg sch (with_many k multipliers squares) i j ≡ R c reg sch k i j
  unfolding R sum_over
  same_r e f multipliers squares i j =
      ap₂ ◌-ℤ◌
      (entry-B c reg sch (with_many k multipliers squares) i j
      ∙ ap (λ x. pos k.scale *ℤ entry (g c reg sch) i j +ℤ x +ℤ entry (mono 0 0 (neg_ℤ k.target) ∷ []) i j)
      (sum_over_0 (many multipliers squares).multipliers _ (All-append _ (replicate multipliers (command 0x31 0 0)) (row_multiplier 0 0 (pos 0) ∷ [])
      (all_same _ multipliers _ (nothing_added (command 0x31 0 0) refl i j)) (nothing_added (row_multiplier 0 0 (pos 0)) refl i j, tt))
      ∙ ap (λ ts. sum_over ts (λ t. entry (signed_form reg sch t) i j)) (sym e))
      ∙ sym (entry-B c reg sch k i j))
      (sum_over_0 (many multipliers squares).squares _ (all_same _ squares _ (nothing i j))
      ∙ ap (λ qs. sum_over qs (λ q. square_at q i j)) (sym f))
    where
      nothing : (i j : ℕ) → pos 1 *ℤ get_or (replicate square_entries (pos 0)) i (pos 0) *ℤ get_or (replicate square_entries (pos 0)) j (pos 0) ≡ pos 0
      nothing i j = rw (zeros_at square_entries i, zeros_at square_entries j) refl

  pub full_carries : k.multipliers ≡ [] → k.squares ≡ [] → (multipliers squares : ℕ) → Carries c reg sch k → Carries c reg sch (with_many k multipliers squares)
  full_carries e f multipliers squares h = subst (DiagonallyDominant (side reg.choices sch)) (sym (fun_ext (λ i. fun_ext (λ j. same_r e f multipliers squares i j)))) h

  -- so 1,024 multipliers and 64 squares may stand in a certificate that meets every condition
  pub full_valid : 1 ≤ reg.choices → 1 ≤ reg.rows → k.multipliers ≡ [] → k.squares ≡ [] → Valid c reg sch k → Valid c reg sch (with_many k 1_023 64)
  full_valid choice row e f v = let w = (full reg sch choice row).0 in record {
    within = record {
      scale_above = v.within.scale_above;
      scale_within = v.within.scale_within;
      target_within = v.within.target_within;
      multipliers_within = w.multipliers_within;
      multipliers = w.multipliers;
      squares_within = w.squares_within;
      squares = w.squares;
    };
    carried = full_carries e f 1_023 64 v.carried;
  }
