-- The paper's example meets the conditions, so no plan of it costs less than 0.
use Prim.Native.Nat.{ℕ, suc, ◌+◌, ◌-◌, ◌≤◌, ◌<◌}
use mathlib.Core.Path.{◌≡◌, refl, ap}
use mathlib.Core.Bool.{Bool, true, ◌&&◌, not}
use mathlib.Core.List.{◌∷◌}
use native.Mathlib.Omega.{arith}
use lib.Bits.{bit_or}
use lib.Dec.{T, T_not, eqb, leb, ltb, eqb→eq, eqb_refl, leb→le, ltb→lt}
use lib.IntN.{pos}
use lib.ListN.{get_or, replicate}
use lib.Signed.{◌≤ℤ◌}
use Rattle.integers.specs.CeilDiv.{ceil_div}
use Rattle.integers.specs.Lists.{all_below}
use Rattle.integers.proofs.Lists.{T_and, all_below_at, ◌▹◌}
use Rattle.integers.proofs.Entries.{replicate_rest}
use Rattle.register.specs.declared.Register.{Register}
use Rattle.register.specs.Register.{mask, coefficient}
use Rattle.plan.specs.Plan.{cost}
use Rattle.scheme.specs.declared.Scheme.{Scheme}
use Rattle.scheme.specs.Scheme.{left, right, variables, split_left, split_right}
use Rattle.scheme.specs.Variables.{E, upward, up_to}
use Rattle.scheme.specs.Valid as S
use Rattle.bound.specs.Bound.{bound}
use Rattle.bound.specs.Valid.{Valid}
use Rattle.register.proofs.Example.{example_register}
use Rattle.scheme.proofs.Example.{example_scheme}
use Rattle.bound.proofs.Conditions.{carries_iff}
use Rattle.bound.proofs.Worked.{example_certificate, w9}
use Rattle.certificate.proofs.Commands.{command_38, command_39}
use Rattle.bound.proofs.Bound.{every_plan_bound}

-- ---- products and splits, as tests

abbrev product_fits : ℕ → Scheme → ℕ → Bool
product_fits n s k = ltb (left n s k) (right n s k) && ltb (right n s k) k && all_below k (λ v. not (eqb (E n s v) (E n s k)))

abbrev split_fits : Register → Scheme → ℕ → Bool
split_fits r s t =
    leb (split_left s t) (split_right s t) && ltb (split_right s t) (variables r.choices s)
    && eqb (bit_or (E r.choices s (split_left s t)) (E r.choices s (split_right s t))) (mask r t)

products_by : (n : ℕ) (s : Scheme) → T (all_below s.products (λ i. product_fits n s (n + i))) → S.Products n s
products_by n s p k h l = let e : n + (k - n) ≡ k = omega arith in rw e at (product (k - n) (omega arith))
  where
    product : (i : ℕ) → i < s.products → S.ProductOf n s (n + i)
    product i h =
        let t = (T_and (ltb (left n s (n + i)) (right n s (n + i)) && ltb (right n s (n + i)) (n + i)) _).0 (all_below_at s.products (λ i. product_fits n s (n + i)) p i h) in
        let u = (T_and (ltb (left n s (n + i)) (right n s (n + i))) (ltb (right n s (n + i)) (n + i))).0 t.0 in
        record {
          ordered = ltb→lt _ _ u.0;
          falls = ltb→lt _ _ u.1;
          new = λ v m e. T_not (eqb (E n s v) (E n s (n + i))) (all_below_at (n + i) (λ v. not (eqb (E n s v) (E n s (n + i)))) t.1 v m) (rw e (eqb_refl (E n s (n + i))));
        }

splits_by : (r : Register) (s : Scheme) (m : ℕ) → T (all_below m (split_fits r s)) → (t : ℕ) → t < m → S.SplitOf r s t
splits_by r s m q t h = omega (arith, leb→le, ltb→lt, eqb→eq, simp T_and at (all_below_at m (split_fits r s) q t h))

-- ---- the example

-- past two products and three splits
past_2 : (a b m i : ℕ) → 2 ≤ i → ◌≡◌ {A = ℕ} (get_or (a ∷ b ∷ replicate m 0) i 0) 0
past_2 a b m i h = let e : i ≡ suc (suc (i - 2)) = omega arith in rw e (replicate_rest m (i - 2) 0)

past_3 : (a b c m t : ℕ) → 3 ≤ t → ◌≡◌ {A = ℕ} (get_or (a ∷ b ∷ c ∷ replicate m 0) t 0) 0
past_3 a b c m t h = let e : t ≡ suc (suc (suc (t - 3))) = omega arith in rw e (replicate_rest m (t - 3) 0)

example_scheme_lem : S.Valid example_register example_scheme
unfolding all_below E upward up_to
example_scheme_lem = record {
  within = record {
    factor = record { positive = omega arith; within = omega arith };
    lefts = record { room = refl; rest = past_2 0 2 30 };
    rights = record { room = refl; rest = past_2 1 3 30 };
    products_within = omega arith;
    variables_within = omega arith;
    products = products_by 3 example_scheme tt;
    split_lefts = record { room = refl; rest = past_3 0 1 4 253 };
    split_rights = record { room = refl; rest = past_3 0 1 4 253 };
    splits_within = omega arith;
    splits = splits_by example_register example_scheme 3 tt;
  };
  all_split = refl;
}

example_valid : Valid (coefficient example_register) example_register example_scheme (example_certificate (pos 0))
example_valid = record {
  within = record {
    scale_above = omega arith;
    scale_within = omega arith;
    target_within = omega arith;
    multipliers_within = omega arith;
    multipliers =
        command_39 example_register example_scheme 0 6 (omega arith) (omega arith)
        ▹ command_39 example_register example_scheme 1 4 (omega arith) (omega arith)
        ▹ command_38 example_register example_scheme 4 5 (omega arith) (omega arith)
        ▹ tt;
    squares_within = omega arith;
    squares = tt;
  };
  carried = (carries_iff (coefficient example_register) example_register example_scheme (example_certificate (pos 0))).0 (ap (λ l. get_or l 0 true) w9);
}

no_plan_below : (plan : ℕ) → pos 0 ≤ℤ cost (coefficient example_register) example_register plan
unfolding bound ceil_div
no_plan_below = every_plan_bound (coefficient example_register) example_register example_scheme (example_certificate (pos 0)) example_scheme_lem example_valid refl
