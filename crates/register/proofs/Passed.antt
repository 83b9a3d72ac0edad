-- Windows that a later choice need not look at: those of tanks below the last choice's.
use Prim.Native.Nat.{ℕ, suc, ◌-◌, ◌<◌, ◌≤◌}
use native.Mathlib.Omega.{arith}
use mathlib.Core.Path.{◌≡◌, ap}
use mathlib.Core.Logic.{◌⊎◌, ⊎_elim}
use mathlib.Core.Bool.{Bool}
use mathlib.Core.List.{List}
use lib.IntN.{ℤ}
use Rattle.register.specs.declared.Register.{Register}
use Rattle.register.specs.Register.{tank, minute, window_tank, fresh, set_terms, set_rows, with_base, with_length, with_choice, with_window}
use Rattle.register.specs.Valid.{Within}
use Rattle.register.proofs.Passes.{NextChoice}
use Rattle.register.proofs.Entries.{choice_new, window_kept}

-- there is a choice, and the first `passed` windows are of lower tanks
pub record Passed (r : Register) (passed : ℕ) : Type 0 where
  pub within : passed ≤ r.windows
  pub earlier : (j : ℕ) → j < passed → (1 ≤ r.choices) × (window_tank r j < tank r (r.choices - 1))

pub passed_starts : Passed fresh 0
passed_starts = record { within = omega arith; earlier = λ j l. absurd (omega arith) }

module _ (r : Register) (w : Within r) {k : ℕ} (p : Passed r k) where
  pub passed_base : (base : ℤ) → Passed (with_base r base) k
  passed_base base = record { within = p.within; earlier = p.earlier }

  pub passed_length : (length : ℕ) → Passed (with_length r length) k
  passed_length length = record { within = p.within; earlier = p.earlier }

  pub passed_terms : (m : ℕ) (masks : List ℕ) (lows highs : List ℤ) (ranged : List Bool) → Passed (set_terms r m masks lows highs ranged) k
  passed_terms m masks lows highs ranged = record { within = p.within; earlier = p.earlier }

  pub passed_rows : (n : ℕ) (totals entries : List ℤ) → Passed (set_rows r n totals entries) k
  passed_rows n totals entries = record { within = p.within; earlier = p.earlier }

  pub passed_window : (t f o : ℕ) → Passed (with_window r t f o) k
  passed_window t f o = record {
    within = omega (arith, p.within);
    earlier = λ j l. let (some, lower) = p.earlier j l in (some, rw (ap (λ c. c.0) (window_kept r w t f o j (omega (arith, p.within)))) lower);
  }

  -- a choice more: its tank is not below the last one's
  pub passed_choice : (t m : ℕ) → NextChoice r.day_length r.choices (tank r (r.choices - 1)) (minute r (r.choices - 1)) t m → (k' : ℕ) → k' ≤ r.windows → ((j : ℕ) → j < k' → (j < k) ⊎ (window_tank r j < t)) → Passed (with_choice r t m) k'
  passed_choice t m next k' l h = record {
    within = l;
    earlier = λ j a.
        let e : suc r.choices - 1 ≡ r.choices = omega arith in
        (omega arith, rw (e, ap (λ c. c.0) (choice_new r w t m next.few)) (⊎_elim (λ b. old j b) (λ b. b) (h j a)));
  }
    where
      old : (j : ℕ) → j < k → window_tank r j < t
      old j b =
          let (some, lower) = p.earlier j b in
          ⊎_elim (λ z. absurd (omega arith)) (λ c. ⊎_elim (λ x. omega (arith, lower, x)) (λ x. omega (arith, lower, x.0)) c) next.rises
