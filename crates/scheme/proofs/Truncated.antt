-- A valid register from the fact that one is there. Not every valid register has bytes, since those of a range name choices 0 to 31 only; but
-- each has them without its terms, and what the reader says of its canonical bytes then has at most one proof. So has what is said of the terms.
use Prim.Native.Nat.{ℕ}
use native.Mathlib.Omega.{arith}
use mathlib.Core.Path.{◌≡◌}
use mathlib.Core.Bool.{Bool, false}
use mathlib.Core.List.{List}
use lib.IntN.{ℤ, pos}
use lib.ListN.{length, replicate}
use Rattle.std.proofs.Math.Logic.{∥∥₁_elim}
use Rattle.wire.specs.Part.{accepted}
use Rattle.wire.proofs.Accepting.{reached}
use Rattle.register.specs.declared.Register.{Register}
use Rattle.register.specs.Limits.{max_terms}
use Rattle.register.specs.Register.{set_terms}
use Rattle.register.specs.Format.{register_by_itself}
use Rattle.register.specs.Encoding.{encode_register}
use Rattle.register.specs.Valid.{Terms, Valid}
use Rattle.integers.proofs.Entries.{column_none, table_none}
use Rattle.register.proofs.Canonical.{canonical}
use Rattle.register.proofs.Accept.{encoding_accepted, whole_valid}
use Rattle.std.proofs.Props.{props}

abbrev bare : Register → Register
bare r = set_terms r 0 (replicate max_terms 0) (replicate max_terms (pos 0)) (replicate max_terms (pos 0)) (replicate max_terms false)

-- a register with other terms
with_terms : (r : Register) {m : ℕ} {masks : List ℕ} {lows highs : List ℤ} {ranged : List Bool} → Valid r → Terms r.choices m masks lows highs ranged → Valid (set_terms r m masks lows highs ranged)
with_terms r v t =
    let w = v.within in
    record {
      within = record { base = w.base; day = w.day; choices = w.choices; terms = t; windows = w.windows; rows = w.rows; may_feed = w.may_feed };
      day_length = v.day_length;
      some_choice = v.some_choice;
    }

bare_valid : (r : Register) → Valid r → Valid (bare r)
bare_valid r v =
    with_terms r v
    (record { masks = column_none max_terms 0; coefficients = column_none max_terms (pos 0); highs = column_none max_terms (pos 0); ranged = column_none max_terms false; table = table_none max_terms _ _ _ })

valid_bare : (r : Register) → ∥ Valid r ∥₁ → Valid (bare r)
valid_bare r t =
    let s = encode_register (bare r) in
    let e : register_by_itself s ≡ accepted (reached 0x1F (bare r)) (length s) = ∥∥₁_elim t (Prim.hlevel props) (λ v. encoding_accepted s (bare r) (bare_valid r v) (canonical (bare r) (λ t l. absurd (omega arith)))) in
    (whole_valid s (reached 0x1F (bare r)) (length s) e).0

terms_right : (r : Register) → ∥ Valid r ∥₁ → Terms r.choices r.terms r.masks r.coefficients r.highs r.ranged
terms_right r t = ∥∥₁_elim t (Prim.hlevel props) (λ v. v.within.terms)

pub valid_register : {r : Register} → ∥ Valid r ∥₁ → Valid r
valid_register {r} t = with_terms (bare r) (valid_bare r t) (terms_right r t)
