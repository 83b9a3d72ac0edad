-- The mask of a term as the code has it: ones, shifted in 64 bits, of which 32 are kept.
use Prim.Native.Nat.{ℕ, zero, suc, ◌+◌, ◌*◌, ◌-◌, ◌%◌, ◌^◌, ◌≤◌, ◌<◌}
use native.Mathlib.Nat.{mod-eq_of_lt}
use native.Mathlib.Omega.{arith}
use mathlib.Core.Path.{◌≡◌, sym, ◌∙◌, ap}
use lib.Pow.{pow_pos, pow_mono}
use mir.Syntax.{w64}
use Rattle.std.proofs.lemmas.Nat.{pow-add}
use Rattle.integers.proofs.Machine.{one_shifted}

module _ (d t : ℕ) (small : t * d + d ≤ 32) where
  abbrev number : ℕ
  number = (2 ^ d - 1) * 2 ^ (t * d)

  pub number_fits : number < 2 ^ 32
  number_fits =
      let h : number + 2 ^ (t * d) ≡ 2 ^ d * 2 ^ (t * d) = whole (2 ^ d) (2 ^ (t * d)) (pow_pos d) in
      let k : 2 ^ (d + t * d) ≤ 2 ^ 32 = pow_mono {i = d + t * d} {j = 32} (omega arith) in
      omega (arith, pow-add 2 d (t * d), pow_pos (t * d))
    where
      whole : (a b : ℕ) → 1 ≤ a → (a - 1) * b + b ≡ a * b
      whole zero b l = absurd (omega arith)
      whole (suc a) b l = let e : suc a - 1 ≡ a = omega arith in rw e (omega arith)

  -- no bit is lost
  pub shifted : (1 * 2 ^ d % 2 ^ 64 - 1) * 2 ^ (t * d) % 2 ^ 64 ≡ number
  shifted = ap (λ x. (x - 1) * 2 ^ (t * d) % 2 ^ 64) (sym (one_shifted w64 d (omega arith))) ∙ mod-eq_of_lt (omega (arith, number_fits))
