-- Two jobs and the relaxed problem, those of the examples `relaxed.triangle` and `relaxed.product`. In the first T·D² is reached at a
-- point where s times the bound, times D², is more, and s·g by itself less; in the second the function is below T·D² at a list that
-- keeps to every condition on points but that a product is no less than its operands' sum less D.
use Prim.Native.Nat.{ℕ, ◌-◌, ◌≤◌}
use native.Mathlib.Omega.{arith}
use mathlib.Core.Path.{◌≡◌, refl}
use mathlib.Core.List.{List, [], ◌∷◌, ◌++◌, map, flat_map}
use lib.IntN.{ℤ, pos, negsuc, ◌+ℤ◌, ◌-ℤ◌, ◌*ℤ◌}
use lib.Dec.{ltb}
use lib.ListN.{replicate}
use borrow.Author.Tests.{le-ltb}
use lib.Signed.{◌≤ℤ◌}
use Rattle.integers.specs.Integer.{abs, bit}
use Rattle.integers.specs.Lists.{join_below, all_below, comes_before}
use Rattle.integers.specs.Sum.{sum_below, sum_over, except}
use Rattle.integers.specs.Quadratic.{off_diagonal}
use Rattle.integers.specs.CeilDiv.{ceil_div}
use Rattle.integers.proofs.Diff.{diff₃, diffs}
use Rattle.integers.proofs.Lists.{bit_low, bit_high}
use Rattle.integers.proofs.Order.{pos_mono, ≤ℤ_trans}
use Rattle.sets.specs.Sets.{is_member, is_subset, is_proper_subset}
use Rattle.forms.specs.Form.{times, entry, product_over, homogenized}
use Rattle.wire.specs.Number.{nat_at, little}
use Rattle.wire.specs.Checks.{refusal, command_checks}
use Rattle.wire.specs.Part.{operands_at, total, checks_at, after_at, step, run, read_from, read_part}
use Rattle.wire.specs.Part as P
use Rattle.wire.specs.Rows.{row_of}
use Rattle.wire.specs.Outcome.{accepts}
use Rattle.register.specs.Limits.{max_choices}
use Rattle.register.specs.Register.{coefficient, set_base, set_choices}
use Rattle.register.specs.Register as Reg
use Rattle.register.specs.Format.{base_checks, choice_checks, term_checks, register_in_job}
use Rattle.register.specs.Format as RegFormat
use Rattle.register.proofs.Example.{example_register, known_terms}
use Rattle.scheme.specs.declared.Scheme.{Scheme}
use Rattle.scheme.specs.Scheme.{left, right}
use Rattle.scheme.specs.Scheme as Sch
use Rattle.scheme.specs.Variables.{up_to, upward, E}
use Rattle.scheme.specs.Function.{term, g}
use Rattle.scheme.specs.Format.{is_new, product_checks, split_checks, scheme_in_job}
use Rattle.scheme.specs.Format as SchFormat
use Rattle.plan.specs.Fits.{fits_rows}
use Rattle.plan.specs.Format.{plan_checks, plan_in_job}
use Rattle.certificate.specs.Rules.{by_key, arity, rule_of}
use Rattle.certificate.proofs.Commands.{command}
use Rattle.residual.specs.Residual.{null_part, subtracted_part, null_forms, subtracted_forms, reformulated, shifted, R}
use Rattle.residual.specs.Relaxed.{Relaxed}
use Rattle.bound.specs.Bound.{row_holds, carries, bound}
use Rattle.certificate.specs.Format.{scale_checks, multiplier_checks, square_checks, commands_in_job}
use Rattle.bound.specs.Format.{dominance_checked, certificate_in_job}
use Rattle.job.specs.Outcome.{Parts, outcome}
use Rattle.soundness.specs.Calls.{job_call}
use Rattle.soundness.specs.SupplierListing.{IsAccepted}
use Rattle.soundness.proofs.SupplierListing.{accepted_is}

-- ---- the jobs

abbrev pub triangle : List ℕ
triangle =
    (0x10 ∷ 1 ∷ 0 ∷ 0 ∷ 0 ∷ []) ++ (0x11 ∷ 1 ∷ 0 ∷ 0xE0 ∷ 1 ∷ []) ++ (0x11 ∷ 1 ∷ 0 ∷ 0xD0 ∷ 2 ∷ [])
    ++ (0x11 ∷ 1 ∷ 0 ∷ 0xC0 ∷ 3 ∷ []) ++ (0x12 ∷ 1 ∷ 0 ∷ 0 ∷ 0 ∷ 0xFF ∷ 0xFF ∷ 0xFF ∷ 0xFF ∷ [])
    ++ (0x12 ∷ 2 ∷ 0 ∷ 0 ∷ 0 ∷ 0xFF ∷ 0xFF ∷ 0xFF ∷ 0xFF ∷ []) ++ (0x12 ∷ 3 ∷ 0 ∷ 0 ∷ 0 ∷ 1 ∷ 0 ∷ 0 ∷ 0 ∷ [])
    ++ (0x12 ∷ 4 ∷ 0 ∷ 0 ∷ 0 ∷ 0xFF ∷ 0xFF ∷ 0xFF ∷ 0xFF ∷ []) ++ (0x12 ∷ 5 ∷ 0 ∷ 0 ∷ 0 ∷ 1 ∷ 0 ∷ 0 ∷ 0 ∷ [])
    ++ (0x12 ∷ 6 ∷ 0 ∷ 0 ∷ 0 ∷ 1 ∷ 0 ∷ 0 ∷ 0 ∷ []) ++ (0x1F ∷ []) ++ (0x21 ∷ 0 ∷ 1 ∷ []) ++ (0x21 ∷ 0 ∷ 2 ∷ [])
    ++ (0x21 ∷ 1 ∷ 2 ∷ []) ++ (0x22 ∷ 0 ∷ 0 ∷ []) ++ (0x22 ∷ 1 ∷ 1 ∷ []) ++ (0x22 ∷ 3 ∷ 3 ∷ []) ++ (0x22 ∷ 2 ∷ 2 ∷ [])
    ++ (0x22 ∷ 4 ∷ 4 ∷ []) ++ (0x22 ∷ 5 ∷ 5 ∷ []) ++ (0x2F ∷ [])
    ++ (0x30 ∷ 8 ∷ 0 ∷ 0 ∷ 0 ∷ 0xFF ∷ 0xFF ∷ 0xFF ∷ 0xFF ∷ 0xFF ∷ 0xFF ∷ 0xFF ∷ 0xFF ∷ [])
    ++ (0x31 ∷ 0 ∷ 4 ∷ 0 ∷ 0 ∷ 0 ∷ 0 ∷ 0 ∷ 0 ∷ 0 ∷ []) ++ (0x31 ∷ 1 ∷ 4 ∷ 0 ∷ 0 ∷ 0 ∷ 0 ∷ 0 ∷ 0 ∷ 0 ∷ [])
    ++ (0x31 ∷ 2 ∷ 4 ∷ 0 ∷ 0 ∷ 0 ∷ 0 ∷ 0 ∷ 0 ∷ 0 ∷ [])
    ++ (0x33 ∷ 3 ∷ 0 ∷ 1 ∷ 0xF8 ∷ 0xFF ∷ 0xFF ∷ 0xFF ∷ 0xFF ∷ 0xFF ∷ 0xFF ∷ 0xFF ∷ [])
    ++ (0x33 ∷ 4 ∷ 0 ∷ 2 ∷ 0xF8 ∷ 0xFF ∷ 0xFF ∷ 0xFF ∷ 0xFF ∷ 0xFF ∷ 0xFF ∷ 0xFF ∷ [])
    ++ (0x33 ∷ 5 ∷ 1 ∷ 2 ∷ 0xF8 ∷ 0xFF ∷ 0xFF ∷ 0xFF ∷ 0xFF ∷ 0xFF ∷ 0xFF ∷ 0xFF ∷ [])
    ++ (0x3A ∷ 2 ∷ 0 ∷ 0 ∷ 0 ∷ 0xFD ∷ 0xFF ∷ 2 ∷ 0 ∷ 2 ∷ 0 ∷ 2 ∷ replicate 123 0) ++ (0x3F ∷ [])
    ++ (0x40 ∷ 1 ∷ 0 ∷ 0 ∷ 0 ∷ [])

abbrev pub triangle_parts : Parts
triangle_parts = record {
  register = known_terms
      (set_choices (set_base example_register (pos 1)) 3 (1 ∷ 1 ∷ 1 ∷ replicate (max_choices - 3) 0) (480 ∷ 720 ∷ 960 ∷ replicate (max_choices - 3) 0))
      6 (1 ∷ 2 ∷ 3 ∷ 4 ∷ 5 ∷ 6 ∷ replicate 250 0) (negsuc 0 ∷ negsuc 0 ∷ pos 1 ∷ negsuc 0 ∷ pos 1 ∷ pos 1 ∷ replicate 250 (pos 0));
  scheme = record {
    products = 3;
    splits = 6;
    lefts = 0 ∷ 0 ∷ 1 ∷ replicate 29 0;
    rights = 1 ∷ 2 ∷ 2 ∷ replicate 29 0;
    split_lefts = 0 ∷ 1 ∷ 3 ∷ 2 ∷ 4 ∷ 5 ∷ replicate 250 0;
    split_rights = 0 ∷ 1 ∷ 3 ∷ 2 ∷ 4 ∷ 5 ∷ replicate 250 0;
    factor = 1;
  };
  certificate = record {
    scale = 8;
    target = negsuc 0;
    multipliers =
        command 0x31 0 4 ∷ command 0x31 1 4 ∷ command 0x31 2 4
        ∷ record { kind = 0x33; names = 3 ∷ 0 ∷ 1 ∷ []; m = negsuc 7 }
        ∷ record { kind = 0x33; names = 4 ∷ 0 ∷ 2 ∷ []; m = negsuc 7 }
        ∷ record { kind = 0x33; names = 5 ∷ 1 ∷ 2 ∷ []; m = negsuc 7 }
        ∷ [];
    squares = record { w = 2; v = negsuc 2 ∷ pos 2 ∷ pos 2 ∷ pos 2 ∷ replicate 61 (pos 0) } ∷ [];
  };
  plan = 1;
}

abbrev pub product : List ℕ
product =
    (0x10 ∷ 0 ∷ 0 ∷ 0 ∷ 0 ∷ []) ++ (0x11 ∷ 1 ∷ 0 ∷ 0xE0 ∷ 1 ∷ []) ++ (0x11 ∷ 1 ∷ 0 ∷ 0xC0 ∷ 3 ∷ [])
    ++ (0x12 ∷ 1 ∷ 0 ∷ 0 ∷ 0 ∷ 0xFF ∷ 0xFF ∷ 0xFF ∷ 0xFF ∷ []) ++ (0x12 ∷ 2 ∷ 0 ∷ 0 ∷ 0 ∷ 0xFF ∷ 0xFF ∷ 0xFF ∷ 0xFF ∷ [])
    ++ (0x12 ∷ 3 ∷ 0 ∷ 0 ∷ 0 ∷ 1 ∷ 0 ∷ 0 ∷ 0 ∷ []) ++ (0x1F ∷ []) ++ (0x21 ∷ 0 ∷ 1 ∷ []) ++ (0x22 ∷ 0 ∷ 0 ∷ [])
    ++ (0x22 ∷ 1 ∷ 1 ∷ []) ++ (0x22 ∷ 2 ∷ 2 ∷ []) ++ (0x2F ∷ [])
    ++ (0x30 ∷ 1 ∷ 0 ∷ 0 ∷ 0 ∷ 0xFF ∷ 0xFF ∷ 0xFF ∷ 0xFF ∷ 0xFF ∷ 0xFF ∷ 0xFF ∷ 0xFF ∷ [])
    ++ (0x37 ∷ 2 ∷ 1 ∷ 0 ∷ 0 ∷ 0 ∷ 0 ∷ 0 ∷ 0 ∷ 0 ∷ []) ++ (0x3F ∷ []) ++ (0x40 ∷ 1 ∷ 0 ∷ 0 ∷ 0 ∷ [])

abbrev pub product_parts : Parts
product_parts = record {
  register = known_terms
      (set_choices (set_base example_register (pos 0)) 2 (1 ∷ 1 ∷ replicate (max_choices - 2) 0) (480 ∷ 960 ∷ replicate (max_choices - 2) 0))
      3 (1 ∷ 2 ∷ 3 ∷ replicate 253 0) (negsuc 0 ∷ negsuc 0 ∷ pos 1 ∷ replicate 253 (pos 0));
  scheme = record {
    products = 1;
    splits = 3;
    lefts = replicate 32 0;
    rights = 1 ∷ replicate 31 0;
    split_lefts = 0 ∷ 1 ∷ 2 ∷ replicate 253 0;
    split_rights = 0 ∷ 1 ∷ 2 ∷ replicate 253 0;
    factor = 1;
  };
  certificate = record { scale = 1; target = negsuc 0; multipliers = command 0x37 2 1 ∷ []; squares = [] };
  plan = 1;
}

leads : (outcome triangle ≡ accepts triangle_parts) × (outcome product ≡ accepts product_parts)
unfolding outcome flat_map join_below all_below comes_before abs sum_below sum_over except off_diagonal is_member is_subset is_proper_subset times entry nat_at little refusal command_checks operands_at total checks_at after_at P.command step P.follow run read_from read_part row_of Reg.fresh base_checks choice_checks term_checks RegFormat.end_checks register_in_job Sch.fresh up_to upward E term g is_new product_checks split_checks SchFormat.end_checks scheme_in_job fits_rows plan_checks plan_in_job by_key arity rule_of null_part subtracted_part null_forms subtracted_forms reformulated shifted R row_holds carries scale_checks multiplier_checks square_checks commands_in_job dominance_checked certificate_in_job
leads = (refl, refl)

-- ---- 1 for each choice, 0 for each product

abbrev pub ones : ℕ → ℕ → ℤ
ones n i = bit (ltb i n)

-- the conditions of `Relaxed` but the last, here at every place
pub record Unheld (n : ℕ) (s : Scheme) (D : ℕ) (y : ℕ → ℤ) : Type 0 where
  pub positive : 1 ≤ D
  pub low : (i : ℕ) → pos 0 ≤ℤ y i
  pub high : (i : ℕ) → y i ≤ℤ pos D
  pub below_left : (k : ℕ) → n ≤ k → y k ≤ℤ y (left n s k)
  pub below_right : (k : ℕ) → n ≤ k → y k ≤ℤ y (right n s k)

module _ (n : ℕ) (s : Scheme) where
  -- over 1 the last condition may fail
  unheld : Unheld n s 1 (ones n)
  unheld = record {
    positive = omega arith;
    low = λ i. bit_low (ltb i n);
    high = λ i. bit_high (ltb i n);
    below_left = λ k h. no_product k h (left n s k);
    below_right = λ k h. no_product k h (right n s k);
  }
    where
      no_product : (k : ℕ) → n ≤ k → (i : ℕ) → ones n k ≤ℤ ones n i
      no_product k h i = rw (le-ltb k n h) (bit_low (ltb i n))

  -- over 2 it does not: these are halves
  halves : Relaxed n s 2 (ones n)
  halves = record {
    positive = omega arith;
    low = λ i h. unheld.low i;
    high = λ i h. ≤ℤ_trans _ _ _ (unheld.high i) (pos_mono 1 2 (omega arith));
    below_left = λ k h l. unheld.below_left k h;
    below_right = λ k h l. unheld.below_right k h;
    above = λ k h l. together _ _ _ (unheld.high (left n s k)) (unheld.high (right n s k)) (unheld.low k);
  }
    where
      together : (a b c : ℤ) → a ≤ℤ pos 1 → b ≤ℤ pos 1 → pos 0 ≤ℤ c → (a +ℤ b -ℤ pos 2) ≤ℤ c
      together = diff₃ _ λ p q r s t u. simp diffs (omega arith)

-- ---- of a job: the function, T·D², s·bound·D², and s·g by itself, homogenized

module _ (p : Parts) (D : ℕ) (y : ℕ → ℤ) where
  abbrev pub function : ℤ
  function = homogenized (reformulated (coefficient p.register) p.register p.scheme p.certificate) D y

  abbrev pub target_over : ℤ
  target_over = p.certificate.target *ℤ pos D *ℤ pos D

  abbrev pub rounded_up_over : ℤ
  rounded_up_over = pos p.certificate.scale *ℤ bound p.certificate *ℤ pos D *ℤ pos D

  abbrev pub g_alone : ℤ
  g_alone = homogenized (times (pos p.certificate.scale) (g (coefficient p.register) p.register p.scheme)) D y

-- ---- the two jobs: each is accepted, and

-- at this point the function is T·D², −4, s·bound·D² is 0, and s·g −16
pub at_halves : IsAccepted job_call triangle
    × Relaxed 3 triangle_parts.scheme 2 (ones 3)
    × (map (λ f. f triangle_parts 2 (ones 3)) (function ∷ target_over ∷ rounded_up_over ∷ g_alone ∷ []) ≡ negsuc 3 ∷ negsuc 3 ∷ pos 0 ∷ negsuc 15 ∷ [])
unfolding flat_map join_below sum_over times term g by_key rule_of null_part null_forms reformulated product_over homogenized bound ceil_div
at_halves = (accepted_is triangle triangle_parts leads.0, halves 3 triangle_parts.scheme, refl)

-- at this list, whose product is below the sum of its operands less D, the function is −2 and T·D² −1
pub at_both : IsAccepted job_call product
    × Unheld 2 product_parts.scheme 1 (ones 2)
    × (map (λ f. f product_parts 1 (ones 2)) (function ∷ target_over ∷ []) ≡ negsuc 1 ∷ negsuc 0 ∷ [])
unfolding flat_map join_below sum_over times term g by_key rule_of null_part null_forms reformulated product_over homogenized
at_both = (accepted_is product product_parts leads.1, unheld 2 product_parts.scheme, refl)
