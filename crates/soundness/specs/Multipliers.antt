-- The multiplier commands `31` to `39` and `3B`: what each adds or subtracts, in the scope paper's words, and how many commands a
-- certificate may have; of no call in particular. z is a list of whole numbers, one for each variable, negative ones too, and z i the
-- number of variable i: so an equation that holds at every z is one of polynomials. c t is the coefficient of term t.
use Rattle.std.specs.Prelude.{ℕ, ◌≤◌, ◌≡◌, ◌↔◌, List, [], ◌∷◌, length, ℤ, pos, nat_abs, ◌+ℤ◌, ◌-ℤ◌, ◌*ℤ◌}
use Rattle.integers.specs.Lists.{All}
use Rattle.integers.specs.Sum.{sum_below}
use Rattle.forms.specs.Form.{Form, places, value}
use Rattle.register.specs.declared.Register.{Register}
use Rattle.register.specs.Register.{row_total, row_entry}
use Rattle.scheme.specs.declared.Scheme.{Scheme}
use Rattle.scheme.specs.Scheme.{left, right}
use Rattle.scheme.specs.Function.{g}
use Rattle.certificate.specs.Limits.{max_scale, max_target, max_multipliers, max_squares}
use Rattle.certificate.specs.Certificate.{Certificate, with_multiplier}
use Rattle.certificate.specs.Within.{Allowed, SquareAllowed, Within}
use Rattle.residual.specs.Residual.{reformulated, shifted}

-- the value of a form at z
abbrev pub at : (ℕ → ℤ) → Form → ℤ
at z f = value (places (pos 1) z) f

-- ---- what each command adds or subtracts

module _ (c : ℕ → ℤ) (reg : Register) (sch : Scheme) (cert : Certificate) (m : ℤ) (z : ℕ → ℤ) where
  -- the certificate with a command more, by its byte and the numbers that it names
  abbrev pub more : ℕ → List ℕ → Certificate
  more kind names = with_multiplier cert (record { kind = kind; names = names; m = m })

  -- x is added m times: to the form whose table is B, and to the reformulated function, s·g with its null forms
  abbrev pub Adds : ℕ → List ℕ → ℤ → Type 0
  Adds kind names x =
      (at z (shifted c reg sch (more kind names)) ≡ at z (shifted c reg sch cert) +ℤ m *ℤ x)
      × (at z (reformulated c reg sch (more kind names)) ≡ at z (reformulated c reg sch cert) +ℤ m *ℤ x)

  -- x is subtracted m times from the form whose table is B; the reformulated function is what it was
  abbrev pub Subtracts : ℕ → List ℕ → ℤ → Type 0
  Subtracts kind names x =
      (at z (shifted c reg sch (more kind names)) ≡ at z (shifted c reg sch cert) -ℤ m *ℤ x)
      × (at z (reformulated c reg sch (more kind names)) ≡ at z (reformulated c reg sch cert))

  -- the left and the right operand of product k
  abbrev l : ℕ → ℕ
  l k = left reg.choices sch k

  abbrev r : ℕ → ℕ
  r k = right reg.choices sch k

  pub record MultiplierForms : Type 0 where
    -- null forms
    pub of_31 : (i : ℕ) → Adds 0x31 (i ∷ []) (z i *ℤ z i -ℤ z i)
    pub of_32 : (i j : ℕ) → Adds 0x32 (i ∷ j ∷ []) (z i -ℤ z i *ℤ z j)
    pub of_33 : (i j k : ℕ) → Adds 0x33 (i ∷ j ∷ k ∷ []) (z i -ℤ z j *ℤ z k)
    pub of_34 : (i j k l : ℕ) → Adds 0x34 (i ∷ j ∷ k ∷ l ∷ []) (z i *ℤ z j -ℤ z k *ℤ z l)
    -- never negative on plans: for product k
    pub of_35 : (k : ℕ) → Subtracts 0x35 (k ∷ []) (z (l k) -ℤ z k)
    pub of_36 : (k : ℕ) → Subtracts 0x36 (k ∷ []) (z (r k) -ℤ z k)
    pub of_37 : (k : ℕ) → Subtracts 0x37 (k ∷ []) (z k -ℤ z (l k) -ℤ z (r k) +ℤ pos 1)
    -- and for variable i
    pub of_38 : (i : ℕ) → Subtracts 0x38 (i ∷ []) (z i)
    pub of_39 : (i : ℕ) → Subtracts 0x39 (i ∷ []) (pos 1 -ℤ z i)
    -- the null form of row k and variable i: z_i times (row sum − b)
    pub of_3_b : (k i : ℕ) → Adds 0x3B (k ∷ i ∷ []) (z i *ℤ (sum_below reg.choices (λ j. row_entry reg k j *ℤ z j) -ℤ row_total reg k))

-- ---- the promises

pub record MultiplierLaws : Type 0 where
  pub forms : (c : ℕ → ℤ) (reg : Register) (sch : Scheme) (cert : Certificate) (m : ℤ) (z : ℕ → ℤ) → MultiplierForms c reg sch cert m z
  -- without a multiplier the form whose table is B is s·g − T, and the reformulated function s·g
  pub none : (c : ℕ → ℤ) (reg : Register) (sch : Scheme) (cert : Certificate) (z : ℕ → ℤ) → cert.multipliers ≡ [] →
      (at z (shifted c reg sch cert) ≡ pos cert.scale *ℤ at z (g c reg sch) -ℤ cert.target)
      × (at z (reformulated c reg sch cert) ≡ pos cert.scale *ℤ at z (g c reg sch))
  -- commands each of which is allowed may stand together just where there are at most 1,024 multipliers, of whatever kinds, and at most
  -- 64 squares: neither count looks at the other
  pub counts : (reg : Register) (sch : Scheme) (cert : Certificate) →
      1 ≤ cert.scale → cert.scale ≤ max_scale → nat_abs cert.target ≤ max_target →
      All (Allowed reg sch) cert.multipliers → All (SquareAllowed reg.choices sch) cert.squares →
      Within reg sch cert ↔ ((length cert.multipliers ≤ max_multipliers) × (length cert.squares ≤ max_squares))
