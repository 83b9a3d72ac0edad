-- Two registers whose bytes agree but in hidden operands are the same but for these.
use Prim.Native.Nat.{ℕ}
use mathlib.Core.Path.{◌≡◌, refl, ap, ap₂}
use mathlib.Core.List.{List, [], ◌++◌}
use Rattle.integers.proofs.Lists.{◌▹◌}
use Rattle.wire.specs.Rows.{Progress, Row, row_of}
use Rattle.wire.specs.Encoding.{Command, Accepts, encode}
use Rattle.wire.proofs.Prefix.{row_of_by}
use Rattle.certificate.specs.Rules.{by_key}
use Rattle.register.specs.declared.Register.{Register}
use Rattle.register.specs.Format.{base_row, choice_row, term_row, window_row, row_row, wide_term_row, range_row, length_row, register_rows, register_part}
use Rattle.hidden.specs.Hidden.{hides}
use Rattle.hidden.specs.Alike.{blank}
use Rattle.hidden.proofs.Commands.{Off, shown_operands, marks, Ends, commands_alike}

abbrev pub Like : Progress Register → Progress Register → Type 0
Like p p' = blank p.parsed ≡ blank p'.parsed

-- what a command of a row gives, of registers that are alike
abbrev Kept : ℕ → Row Register → Type 0
Kept b row = (r r' : Register) (xs xs' : List ℕ) → blank r ≡ blank r' → shown_operands (hides b) xs ≡ shown_operands (hides b) xs' → blank (row.after r xs) ≡ blank (row.after r' xs')

-- a line for each command of the register
keeps : (b : ℕ) → Kept b (row_of register_rows b)
unfolding by_key
keeps b = row_of_by Kept register_rows b (λ r r' xs xs' e d. e)
    ((λ r r' xs xs' e d. ap₂ (λ x ys. blank (base_row.after x ys)) e d)
    ▹ (λ r r' xs xs' e d. ap (λ x. blank (choice_row.after x [])) e)
    ▹ (λ r r' xs xs' e d. ap₂ (λ x ys. blank (term_row.after x ys)) e d)
    ▹ (λ r r' xs xs' e d. ap (λ x. blank (window_row.after x [])) e)
    ▹ (λ r r' xs xs' e d. ap₂ (λ x ys. blank (row_row.after x ys)) e d)
    ▹ (λ r r' xs xs' e d. ap₂ (λ x ys. blank (wide_term_row.after x ys)) e d)
    ▹ (λ r r' xs xs' e d. ap₂ (λ x ys. blank (range_row.after x ys)) e d)
    ▹ (λ r r' xs xs' e d. ap₂ (λ x ys. blank (length_row.after x ys)) e d)
    ▹ (λ r r' xs xs' e d. e)
    ▹ tt)

pub registers_alike : (cs cs' : List Command) (p p' : Progress Register) (t t' : List ℕ) → Accepts register_part register_part.start cs p → Accepts register_part register_part.start cs' p' →
    Off (marks register_part hides cs) (marks register_part hides cs') (encode register_part cs ++ t) (encode register_part cs' ++ t') → Ends register_part hides Like cs cs' p p' t t'
registers_alike cs cs' p p' t t' = commands_alike register_part hides Like (λ p p' b. keeps b p.parsed p'.parsed) cs cs' register_part.start register_part.start p p' t t' refl
