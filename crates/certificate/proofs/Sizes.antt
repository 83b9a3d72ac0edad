-- The bytes of the certificate's commands: as the rows say, with every register and scheme.
use Prim.Native.Nat.{ℕ, suc, ◌+◌, ◌*◌, ◌≤◌}
use mathlib.Core.Path.{◌≡◌, refl, ap}
use mathlib.Core.Bool.{Bool, true, false, cond}
use mathlib.Core.List.{List, [], ◌∷◌, ◌++◌, map}
use native.Mathlib.Omega.{arith}
use lib.Dec.{eqb}
use Rattle.integers.specs.Lists.{All, all_below}
use Rattle.integers.proofs.Lists.{◌▹◌, All-append, All-map}
use Rattle.wire.specs.Part.{total, size}
use Rattle.wire.specs.Rows.{Row, row_of}
use Rattle.register.specs.declared.Register.{Register}
use Rattle.scheme.specs.declared.Scheme.{Scheme}
use Rattle.certificate.specs.Limits.{square_entries}
use Rattle.certificate.specs.Rules.{arity, by_key}
use Rattle.certificate.specs.Format.{scale_widths, multiplier_widths, square_widths, multiplier_kinds, widths_by_byte, command_size, certificate_part}
use Rattle.certificate.specs.Answer.{IsMultiplier}
use Rattle.certificate.proofs.Ranges.{among_all, in_range, is_multiplier}

-- the widths in a row, by its byte
widths_by : {R : Type 0} (rows : List (Row R)) (b : ℕ) → (row_of rows b).widths ≡ by_key [] b (map (λ r. (r.byte, r.widths)) rows)
unfolding row_of by_key
widths_by [] b = refl
widths_by {R = R} (r ∷ rows) b = by (eqb b r.byte) (row_of rows b) (widths_by rows b)
  where
    by : (q : Bool) (x : Row R) {ws : List ℕ} → x.widths ≡ ws → (cond q r x).widths ≡ cond q r.widths ws
    by true x e = refl
    by false x e = e

pub size_is : (reg : Register) (sch : Scheme) (b : ℕ) → size (certificate_part reg sch) b ≡ command_size b
unfolding command_size
size_is reg sch b = ap (λ ws. suc (total ws)) (widths_by _ b)

-- its byte at least
pub size_above : (b : ℕ) → 1 ≤ command_size b
unfolding command_size
size_above b = omega arith

-- a byte that is no command
pub no_command : (b : ℕ) → (0x30 ≤ b → b ≤ 0x3B → ⊥) → (b ≡ 0x3F → ⊥) → All (λ e. b ≡ e.0 → ⊥) widths_by_byte
no_command b h d =
    let inside : List (ℕ × List ℕ) = (0x30, scale_widths) ∷ (map (λ kind. (kind, multiplier_widths kind)) multiplier_kinds ++ ((0x3A, square_widths) ∷ [])) in
    All-append (λ e. b ≡ e.0 → ⊥) inside ((0x3F, []) ∷ []) (All-map (λ e. (0x30 ≤ e.0) × (e.0 ≤ 0x3B)) (λ e. b ≡ e.0 → ⊥) (λ e r q. h (omega arith) (omega arith)) inside (omega arith)) (d, tt)

-- `35` to `39` name one variable each
pub size_one : (b : ℕ) → 0x35 ≤ b → b ≤ 0x39 → command_size b ≡ 10
unfolding command_size by_key arity total all_below
size_one b p q =
    among_all (λ b. command_size b ≡ 10) (0x35 ∷ 0x36 ∷ 0x37 ∷ 0x38 ∷ 0x39 ∷ []) (refl ▹ refl ▹ refl ▹ refl ▹ refl ▹ tt) b (in_range 0x35 5 (0x35 ∷ 0x36 ∷ 0x37 ∷ 0x38 ∷ 0x39 ∷ []) tt b p (omega arith))

-- a multiplier command: its byte, the numbers that it names and the 8 bytes of its multiplier
pub size_multiplier : (b : ℕ) → IsMultiplier b → command_size b ≡ 9 + arity b
unfolding command_size by_key arity total
size_multiplier b h =
    among_all (λ b. command_size b ≡ 9 + arity b) multiplier_kinds (refl ▹ refl ▹ refl ▹ refl ▹ refl ▹ refl ▹ refl ▹ refl ▹ refl ▹ refl ▹ tt) b (is_multiplier b h)

pub size_scale : command_size 0x30 ≡ 13
unfolding command_size by_key total
size_scale = refl

pub size_square : command_size 0x3A ≡ 5 + 2 * square_entries
unfolding command_size by_key total
size_square = refl

pub size_end : command_size 0x3F ≡ 1
unfolding command_size by_key total
size_end = refl
