-- The multiplier commands `31` to `39` and `3B`: null forms and row forms, added m times, and forms never negative on plans,
-- subtracted m times.
use Rattle.std.specs.Prelude.{ℕ, List, [], ◌∷◌, Bool, true, false, cond, ◌&&◌, ℤ, pos, negsuc, neg_ℤ, get_or, eqb, ltb, leb}
use Rattle.std.specs.Int.Bits.{bit_or}
use Rattle.forms.specs.Form.{Form, mono, place}
use Rattle.sets.specs.Sets.{is_proper_subset}
use Rattle.register.specs.declared.Register.{Register}
use Rattle.scheme.specs.declared.Scheme.{Scheme}
use Rattle.scheme.specs.Scheme.{left, right, variables}
use Rattle.scheme.specs.Variables.{E}
use Rattle.certificate.specs.Limits.{max_multiplier, max_row_multiplier}
use Rattle.certificate.specs.Certificate.{Multiplier}
use Rattle.certificate.specs.RowForm.{row_form_of}

-- what the paper says of a multiplier command
pub record Rule : Type 0 where
  -- a null form (the paper's own term; 000's null function): 0 on every plan, that of a row on every plan that fits; the others are never
  -- negative on plans
  pub null : Bool
  -- m is from the least to the most, or it is refused 4
  pub least : ℤ
  pub most : ℤ
  -- the variables, the product or the row that it names are there, or it is refused 5
  pub there : Bool
  -- its pairs are in order, or it is refused 6
  pub ordered : Bool
  -- the sets fit, or it is refused 8
  pub fits : Bool
  pub form : Form

-- what stands by the first key that is k
unfoldable pub by_key {ℓ} : {A : Type ℓ} → A → ℕ → List (ℕ × A) → A
by_key none k [] = none
by_key none k (e ∷ es) = cond (eqb k e.0) e.1 (by_key none k es)

abbrev pub minus1 : ℤ
minus1 = negsuc 0

-- m within ±10¹²
abbrev pub null_rule : Bool → Bool → Bool → Form → Rule
null_rule there ordered fits form = record { null = true; least = neg_ℤ (pos max_multiplier); most = pos max_multiplier; there = there; ordered = ordered; fits = fits; form = form }

-- m within ±10⁹
abbrev pub row_rule : Bool → Form → Rule
row_rule there form = record { null = true; least = neg_ℤ (pos max_row_multiplier); most = pos max_row_multiplier; there = there; ordered = true; fits = true; form = form }

-- m 0–10¹²
abbrev pub subtracted_rule : Bool → Form → Rule
subtracted_rule there form = record { null = false; least = pos 0; most = pos max_multiplier; there = there; ordered = true; fits = true; form = form }

-- the rules, with a register and a scheme, where i, j, k, l are the variables named; for `35` to `37` product i is the paper's
-- product k, and a and b are its operands; for `3B` i is the row and j the variable
abbrev pub rules : Register → Scheme → ℕ → ℕ → ℕ → ℕ → List (ℕ × Rule)
rules r s i j k l =
    let n = r.choices in
    let a = left n s i in
    let b = right n s i in
    let e : ℕ → ℕ = E n s in
    let variable : ℕ → Bool = λ v. ltb v (variables n s) in
    let product : Bool = leb n i && variable i in
    -- z_i² − z_i
    (0x31, null_rule (variable i) true true (mono (place i) (place i) (pos 1) ∷ mono 0 (place i) minus1 ∷ []))
    -- z_i − z_i z_j; j's choices are some of i's, not all
    ∷ (0x32, null_rule (variable i && variable j) true (is_proper_subset (e j) (e i)) (mono 0 (place i) (pos 1) ∷ mono (place i) (place j) minus1 ∷ []))
    -- z_i − z_j z_k; i's choices are those of j and k
    ∷ (0x33, null_rule (variable i && variable j && variable k) (ltb j k) (eqb (e i) (bit_or (e j) (e k))) (mono 0 (place i) (pos 1) ∷ mono (place j) (place k) minus1 ∷ []))
    -- z_i z_j − z_k z_l; both pairs have the same choices
    ∷ (0x34, null_rule (variable i && variable j && variable k && variable l) (ltb i j && ltb k l) (eqb (bit_or (e i) (e j)) (bit_or (e k) (e l))) (mono (place i) (place j) (pos 1) ∷ mono (place k) (place l) minus1 ∷ []))
    -- z_l − z_k
    ∷ (0x35, subtracted_rule product (mono 0 (place a) (pos 1) ∷ mono 0 (place i) minus1 ∷ []))
    -- z_r − z_k
    ∷ (0x36, subtracted_rule product (mono 0 (place b) (pos 1) ∷ mono 0 (place i) minus1 ∷ []))
    -- z_k − z_l − z_r + 1
    ∷ (0x37, subtracted_rule product (mono 0 (place i) (pos 1) ∷ mono 0 (place a) minus1 ∷ mono 0 (place b) minus1 ∷ mono 0 0 (pos 1) ∷ []))
    -- z_i
    ∷ (0x38, subtracted_rule (variable i) (mono 0 (place i) (pos 1) ∷ []))
    -- 1 − z_i
    ∷ (0x39, subtracted_rule (variable i) (mono 0 0 (pos 1) ∷ mono 0 (place i) minus1 ∷ []))
    -- z_j (row sum − b), of row i
    ∷ (0x3B, row_rule (ltb i r.rows && variable j) (row_form_of r i j))
    ∷ []

-- how many numbers each command names
unfoldable pub arity : ℕ → ℕ
arity kind = by_key 1 kind ((0x32, 2) ∷ (0x33, 3) ∷ (0x34, 4) ∷ (0x3B, 2) ∷ [])

abbrev pub no_rule : Rule
no_rule = null_rule false false false []

unfoldable pub rule_of : Register → Scheme → Multiplier → Rule
rule_of r s t =
    let name : ℕ → ℕ = λ i. get_or t.names i 0 in
    by_key no_rule t.kind (rules r s (name 0) (name 1) (name 2) (name 3))
