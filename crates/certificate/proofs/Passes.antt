-- What the checks of a command say of its operands where none fails; of scale and square, just that.
use mathlib.Core.Path.{◌≡◌, ap}
use mathlib.Core.Logic.{⊎_elim, ◌↔◌}
use mathlib.Core.Bool.{Bool, false, not, ◌||◌}
use Prim.Native.Nat.{ℕ, ◌≤◌, ◌<◌}
use native.Mathlib.Omega.{arith}
use lib.Dec.{T, eqb, leb, leb→le, le→leb, eqb→eq}
use lib.IntN.{ℤ, pos, negsuc, nat_abs}
use lib.ListN.{length, get_or}
use lib.Signed.{◌≤ℤ◌}
use borrow.Author.Tests.{eqb-false, ltb-false, leb-false, not-false, ne_eqb, le-ltb, lt-leb}
use Rattle.integers.specs.Lists.{all_below}
use Rattle.integers.proofs.Lists.{T_true, T_or, flag, or_none, all_below_at, all_below_by}
use Rattle.integers.proofs.Machine.{lt_z-false}
use Rattle.wire.specs.Checks.{refusal}
use Rattle.wire.proofs.Checks.{refusal_none, none_refusal}
use Rattle.scheme.specs.declared.Scheme.{Scheme}
use Rattle.scheme.specs.Scheme.{variables}
use Rattle.certificate.specs.Limits.{max_scale, max_target, max_multipliers, max_squares, max_weight, square_entries, max_entry}
use Rattle.certificate.specs.Certificate.{Square}
use Rattle.certificate.specs.Rules.{Rule}
use Rattle.certificate.specs.Format.{scale_checks, multiplier_checks, square_checks}
use Rattle.certificate.specs.Within.{SquareAllowed}

holds : (b : Bool) → not b ≡ false → T b
holds b e = (T_true b).1 (not-false b e)

pub record ScalePasses (s : ℕ) (target : ℤ) : Type 0 where
  pub scale_above : 1 ≤ s
  pub scale_within : s ≤ max_scale
  pub target_within : nat_abs target ≤ max_target

pub scale_iff : (s : ℕ) (target : ℤ) → (refusal (scale_checks s target) ≡ 0) ↔ ScalePasses s target
unfolding scale_checks
scale_iff s target = (
  (λ e.
      let r = or_none _ _ (refusal_none (scale_checks s target) (omega arith) e).0 in
      let q = or_none _ _ r.0 in
      record {
        scale_above = omega (arith, eqb-false s 0 q.0);
        scale_within = ltb-false max_scale s q.1;
        target_within = ltb-false max_target (nat_abs target) r.1;
      }),
  (λ p. none_refusal (scale_checks s target) (rw (ne_eqb s 0 (omega (arith, p.scale_above)), le-ltb max_scale s p.scale_within, le-ltb max_target (nat_abs target) p.target_within), tt)),
)

-- the tests of a rule and of the multiplier m
pub record RulePasses (rule : Rule) (m : ℤ) : Type 0 where
  pub m_above : rule.least ≤ℤ m
  pub m_below : m ≤ℤ rule.most
  pub there : T rule.there
  pub ordered : T rule.ordered
  pub fits : T rule.fits

pub multiplier_passes : (multipliers : ℕ) (rule : Rule) (m : ℤ) → refusal (multiplier_checks multipliers rule m) ≡ 0 → (multipliers < max_multipliers) × RulePasses rule m
unfolding multiplier_checks
multiplier_passes multipliers rule m e =
    let p = refusal_none (multiplier_checks multipliers rule m) (omega arith) e in
    let r = or_none _ _ p.1.0 in (
      leb-false max_multipliers multipliers p.0,
      record {
        m_above = lt_z-false m rule.least r.0;
        m_below = lt_z-false rule.most m r.1;
        there = holds rule.there p.1.1.0;
        ordered = holds rule.ordered p.1.1.1.0;
        fits = holds rule.fits p.1.1.1.1.0;
      },
    )

-- an integer whose absolute value is 0
abs-zero : (z : ℤ) → nat_abs z ≡ 0 → z ≡ pos 0
abs-zero (pos n) e = ap pos e
abs-zero (negsuc n) e = absurd (omega arith)

-- a square with all its entries
module _ (squares n : ℕ) (sch : Scheme) (q : Square) (long : length q.v ≡ square_entries) where
  abbrev N : ℕ
  N = variables n sch

  abbrev v : ℕ → ℤ
  v i = get_or q.v i (pos 0)

  -- its tests

  abbrev are_within : Bool
  are_within = all_below square_entries (λ i. leb (nat_abs (v i)) max_entry)

  abbrev end_in_zeros : Bool
  end_in_zeros = all_below square_entries (λ i. leb i N || eqb (nat_abs (v i)) 0)

  within_iff : T are_within ↔ ((i : ℕ) → i < square_entries → nat_abs (v i) ≤ max_entry)
  within_iff = (
    (λ t i l. leb→le _ _ (all_below_at square_entries (λ i. leb (nat_abs (v i)) max_entry) t i l)),
    (λ h. all_below_by square_entries (λ i. leb (nat_abs (v i)) max_entry) (λ i l. le→leb _ _ (h i l))),
  )

  zeros_iff : T end_in_zeros ↔ ((i : ℕ) → N < i → i < square_entries → v i ≡ pos 0)
  zeros_iff = (
    (λ t i l u. abs-zero (v i) (⊎_elim (λ a. absurd (omega (arith, leb→le i N a))) (λ b. eqb→eq _ _ b) ((T_or (leb i N) (eqb (nat_abs (v i)) 0)).0 (all_below_at square_entries (λ i. leb i N || eqb (nat_abs (v i)) 0) t i u)))),
    (λ h. all_below_by square_entries (λ i. leb i N || eqb (nat_abs (v i)) 0) (λ i l. flag (leb i N) (λ t. rw t tt) (λ t. rw (t, h i (leb-false i N t) l) tt))),
  )

  pub square_iff : (refusal (square_checks squares N q) ≡ 0) ↔ ((squares < max_squares) × SquareAllowed n sch q)
  unfolding square_checks
  square_iff = (
    (λ e.
        let p = refusal_none (square_checks squares N q) (omega arith) e in
        let r = or_none _ _ p.1.0 in
        let w = or_none _ _ r.0 in (
          leb-false max_squares squares p.0,
          record {
            w_above = omega (arith, eqb-false q.w 0 w.0);
            w_within = ltb-false max_weight q.w w.1;
            entries = long;
            entries_within = within_iff.0 (holds are_within r.1);
            past_0 = zeros_iff.0 (holds end_in_zeros p.1.1.0);
          },
        )),
    (λ (few, a).
        none_refusal (square_checks squares N q) (
          lt-leb max_squares squares few,
          (
            rw (ne_eqb q.w 0 (omega (arith, a.w_above)), le-ltb max_weight q.w a.w_within, (T_true are_within).0 (within_iff.1 a.entries_within)),
            (rw ((T_true end_in_zeros).0 (zeros_iff.1 a.past_0)), tt),
          ),
        )),
  )
