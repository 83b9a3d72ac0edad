-- A certificate without a multiplier `3B`: part 3 as it stood before there were rows and how it was read, the null forms, which are then
-- 0 at every plan, the bound, which is then one over every plan, and our own certificate, which has no `3B`. Of the definitions those
-- that a `3B` changed are written here as they were, with names of one line written out; the others, among them the bytes of a
-- certificate, are what they were.
use Rattle.std.specs.Prelude.{ℕ, ◌≤◌, ◌<◌, ◌≡◌, ◌↔◌, Bool, true, ◌&&◌, cond, ltb, leb, eqb, ℤ, pos, neg_ℤ, nat_abs, ◌-ℤ◌, ◌*ℤ◌, ◌≤ℤ◌, length, get_or}
use mathlib.Core.List.{List, [], ◌∷◌, ◌++◌, flat_map}
use Rattle.std.specs.Int.Bits.{bit_or}
use Rattle.integers.specs.Lists.{All}
use Rattle.integers.specs.Sum.{sum_over}
use Rattle.integers.specs.Quadratic.{DiagonallyDominant}
use Rattle.wire.specs.Part.{Part, Reading, read_part}
use Rattle.wire.specs.Rows.{Progress, Row, is_among, part_of}
use Rattle.wire.specs.Walk.{comes_to}
use Rattle.forms.specs.Form.{Form, mono, place, times, value, homogenized, entry}
use Rattle.forms.specs.Table.{table_numbers}
use Rattle.sets.specs.Sets.{ProperSubset, is_proper_subset}
use Rattle.register.specs.declared.Register.{Register}
use Rattle.scheme.specs.declared.Scheme.{Scheme}
use Rattle.scheme.specs.Scheme.{left, right, variables, side}
use Rattle.scheme.specs.Variables.{E}
use Rattle.scheme.specs.Filling.{factor, induced}
use Rattle.scheme.specs.Function.{g}
use Rattle.scheme.specs.Valid as S
use Rattle.certificate.specs.Limits.{max_scale, max_target, max_multipliers, max_squares}
use Rattle.certificate.specs.Certificate.{Multiplier, Certificate, fresh}
use Rattle.certificate.specs.Rules.{Rule, by_key, minus1, null_rule, subtracted_rule, no_rule}
use Rattle.certificate.specs.Format.{multiplier_of, multiplier_checks, scale_row, multiplier_row, square_row, end_row, commands_in_job}
use Rattle.certificate.specs.Within.{Variable, Product, NullRange, SubtractedRange, Allowed, SquareAllowed, Within}
use Rattle.certificate.specs.Encoding.{Encodes}
use Rattle.residual.specs.Residual.{null_part, reformulated, B, R, square_at}
use Rattle.bound.specs.Relaxation.{plan_point}
use Rattle.plan.specs.Plan.{Plan, cost}
use Rattle.plan.specs.Chosen.{chosen}
use Rattle.job.specs.declared.Tally.{Tally}
use Rattle.job.specs.Outcome.{Parts}
use Rattle.job.specs.Valid as J
use Rattle.soundness.specs.Calls.{CheckCall, PlainCall, JobCall, front}
use Rattle.soundness.specs.Parts.{Part1, Part2, Part3, Choosing, WithPlan}
use Rattle.soundness.specs.Jobs.{job_cost}
use Rattle.soundness.specs.Writers.{own_certificate}

-- no multiplier of a certificate is a `3B`
abbrev pub NoRowMultiplier : Certificate → Type 0
NoRowMultiplier cert = All (λ t. t.kind ≡ 0x3B → ⊥) cert.multipliers

-- ---- part 3 before there were rows: the conditions

-- the condition of each multiplier command by its byte: how many variables it names, which are there, their order, their
-- sets, and the range of m
abbrev pub conditions_before_rows : Register → Scheme → List ℕ → ℤ → List (ℕ × Type 0)
conditions_before_rows r s names m =
    let n = r.choices in
    let e : ℕ → ℕ = E n s in
    (0x31, (i : ℕ) × (names ≡ i ∷ []) × Variable n s i × NullRange m)
    -- the set of j is a proper subset of that of i
    ∷ (0x32, (i : ℕ) × (j : ℕ) × (names ≡ i ∷ j ∷ []) × Variable n s i × Variable n s j × ProperSubset (e j) (e i) × NullRange m)
    -- the set of i is the union of the other two, which are in order
    ∷ (0x33, (i : ℕ) × (j : ℕ) × (k : ℕ) × (names ≡ i ∷ j ∷ k ∷ []) × Variable n s i × Variable n s j × Variable n s k × (j < k) × (e i ≡ bit_or (e j) (e k)) × NullRange m)
    -- two pairs, each in order, with the same union
    ∷ (0x34, (i : ℕ) × (j : ℕ) × (k : ℕ) × (l : ℕ) × (names ≡ i ∷ j ∷ k ∷ l ∷ []) × Variable n s i × Variable n s j × Variable n s k × Variable n s l × (i < j) × (k < l) × (bit_or (e i) (e j) ≡ bit_or (e k) (e l)) × NullRange m)
    -- for a product
    ∷ (0x35, (k : ℕ) × (names ≡ k ∷ []) × Product n s k × SubtractedRange m)
    ∷ (0x36, (k : ℕ) × (names ≡ k ∷ []) × Product n s k × SubtractedRange m)
    ∷ (0x37, (k : ℕ) × (names ≡ k ∷ []) × Product n s k × SubtractedRange m)
    -- for a variable
    ∷ (0x38, (i : ℕ) × (names ≡ i ∷ []) × Variable n s i × SubtractedRange m)
    ∷ (0x39, (i : ℕ) × (names ≡ i ∷ []) × Variable n s i × SubtractedRange m)
    ∷ []

-- a multiplier command is allowed where the condition of its byte holds; no other byte is one
unfoldable pub AllowedBeforeRows : Register → Scheme → Multiplier → Type 0
AllowedBeforeRows r s t = by_key ⊥ t.kind (conditions_before_rows r s t.names t.m)

-- within the limits, as far as commands other than the end say
pub record WithinBeforeRows (reg : Register) (s : Scheme) (k : Certificate) : Type 0 where
  -- of `30`
  pub scale_above : 1 ≤ k.scale
  pub scale_within : k.scale ≤ max_scale
  pub target_within : nat_abs k.target ≤ max_target
  -- of `31` to `39`
  pub multipliers_within : length k.multipliers ≤ max_multipliers
  pub multipliers : All (AllowedBeforeRows reg s) k.multipliers
  -- of `3A`
  pub squares_within : length k.squares ≤ max_squares
  pub squares : All (SquareAllowed reg.choices s) k.squares

-- ---- part 3 before there were rows: the rules, B and R. c t is the coefficient of term t

-- the rules, with a register and a scheme, where i, j, k, l are the variables named; for `35` to `37` product i is the paper's
-- product k, and a and b are its operands
abbrev pub rules_before_rows : Register → Scheme → ℕ → ℕ → ℕ → ℕ → List (ℕ × Rule)
rules_before_rows r s i j k l =
    let n = r.choices in
    let a = left n s i in
    let b = right n s i in
    let e : ℕ → ℕ = E n s in
    let variable : ℕ → Bool = λ v. ltb v (variables n s) in
    let product : Bool = leb n i && variable i in
    -- z_i² − z_i
    (0x31, null_rule (variable i) true true (mono (place i) (place i) (pos 1) ∷ mono 0 (place i) minus1 ∷ []))
    -- z_i − z_i z_j; j's choices are some of i's, not all
    ∷ (0x32, null_rule (variable i && variable j) true (is_proper_subset (e j) (e i)) (mono 0 (place i) (pos 1) ∷ mono (place i) (place j) minus1 ∷ []))
    -- z_i − z_j z_k; i's choices are those of j and k
    ∷ (0x33, null_rule (variable i && variable j && variable k) (ltb j k) (eqb (e i) (bit_or (e j) (e k))) (mono 0 (place i) (pos 1) ∷ mono (place j) (place k) minus1 ∷ []))
    -- z_i z_j − z_k z_l; both pairs have the same choices
    ∷ (0x34, null_rule (variable i && variable j && variable k && variable l) (ltb i j && ltb k l) (eqb (bit_or (e i) (e j)) (bit_or (e k) (e l))) (mono (place i) (place j) (pos 1) ∷ mono (place k) (place l) minus1 ∷ []))
    -- z_l − z_k
    ∷ (0x35, subtracted_rule product (mono 0 (place a) (pos 1) ∷ mono 0 (place i) minus1 ∷ []))
    -- z_r − z_k
    ∷ (0x36, subtracted_rule product (mono 0 (place b) (pos 1) ∷ mono 0 (place i) minus1 ∷ []))
    -- z_k − z_l − z_r + 1
    ∷ (0x37, subtracted_rule product (mono 0 (place i) (pos 1) ∷ mono 0 (place a) minus1 ∷ mono 0 (place b) minus1 ∷ mono 0 0 (pos 1) ∷ []))
    -- z_i
    ∷ (0x38, subtracted_rule (variable i) (mono 0 (place i) (pos 1) ∷ []))
    -- 1 − z_i
    ∷ (0x39, subtracted_rule (variable i) (mono 0 0 (pos 1) ∷ mono 0 (place i) minus1 ∷ []))
    ∷ []

-- the rule of a multiplier command, by its byte
unfoldable pub rule_of_before_rows : Register → Scheme → Multiplier → Rule
rule_of_before_rows r s t =
    let name : ℕ → ℕ = λ i. get_or t.names i 0 in
    by_key no_rule t.kind (rules_before_rows r s (name 0) (name 1) (name 2) (name 3))

-- a multiplier command's null form m times, or its subtracted form m times

unfoldable pub null_part_before_rows : Register → Scheme → Multiplier → Form
null_part_before_rows reg sch t = let rule = rule_of_before_rows reg sch t in cond rule.null (times t.m rule.form) []

unfoldable pub subtracted_part_before_rows : Register → Scheme → Multiplier → Form
subtracted_part_before_rows reg sch t = let rule = rule_of_before_rows reg sch t in cond rule.null [] (times t.m rule.form)

-- s·g + null forms − subtracted forms − T
unfoldable pub shifted_before_rows : (ℕ → ℤ) → Register → Scheme → Certificate → Form
shifted_before_rows c reg sch cert =
    (times (pos cert.scale) (g c reg sch) ++ flat_map (null_part_before_rows reg sch) cert.multipliers)
    ++ (times minus1 (flat_map (subtracted_part_before_rows reg sch) cert.multipliers) ++ (mono 0 0 (neg_ℤ cert.target) ∷ []))

-- B is the table of that
abbrev pub B_before_rows : (ℕ → ℤ) → Register → Scheme → Certificate → ℕ → ℕ → ℤ
B_before_rows c reg sch cert i j = entry (shifted_before_rows c reg sch cert) i j

-- R: B less every square's w·v_i·v_j
unfoldable pub R_before_rows : (ℕ → ℤ) → Register → Scheme → Certificate → ℕ → ℕ → ℤ
R_before_rows c reg sch cert i j = B_before_rows c reg sch cert i j -ℤ sum_over cert.squares (λ q. square_at q i j)

-- part 3: within the limits, R carries T, that is, it is diagonally dominant, and the bytes; c t is the coefficient of term t
pub record Part3BeforeRows (c : ℕ → ℤ) (reg : Register) (sch : Scheme) (certificate : List ℕ) (cert : Certificate) : Type 0 where
  pub within : WithinBeforeRows reg sch cert
  pub carried : DiagonallyDominant (side reg.choices sch) (R_before_rows c reg sch cert)
  pub bytes : Encodes cert certificate

-- ---- part 3 before there were rows: how it was read

-- what might stand before any command but the first
abbrev pub any_before_rows : List ℕ
any_before_rows = 0x30 ∷ 0x31 ∷ 0x32 ∷ 0x33 ∷ 0x34 ∷ 0x35 ∷ 0x36 ∷ 0x37 ∷ 0x38 ∷ 0x39 ∷ 0x3A ∷ []

-- the rows of today, with what they followed, and multipliers by the rules of before
abbrev pub multiplier_row_before_rows : Register → Scheme → ℕ → Row Certificate
multiplier_row_before_rows reg sch kind = record (multiplier_row reg sch kind) {
  follows = any_before_rows;
  checks = λ cert xs.
      let t = multiplier_of kind xs in
      multiplier_checks (length cert.multipliers) (rule_of_before_rows reg sch t) t.m;
}

abbrev pub rows_before_row_multipliers : Register → Scheme → List (Row Certificate)
rows_before_row_multipliers reg sch =
    scale_row
    ∷ multiplier_row_before_rows reg sch 0x31 ∷ multiplier_row_before_rows reg sch 0x32 ∷ multiplier_row_before_rows reg sch 0x33
    ∷ multiplier_row_before_rows reg sch 0x34 ∷ multiplier_row_before_rows reg sch 0x35 ∷ multiplier_row_before_rows reg sch 0x36
    ∷ multiplier_row_before_rows reg sch 0x37 ∷ multiplier_row_before_rows reg sch 0x38 ∷ multiplier_row_before_rows reg sch 0x39
    ∷ record (square_row reg sch) { follows = any_before_rows }
    ∷ record end_row { follows = any_before_rows }
    ∷ []

abbrev pub part_before_row_multipliers : Register → Scheme → Part (Progress Certificate)
part_before_row_multipliers reg sch = part_of fresh (rows_before_row_multipliers reg sch)

-- the commands at the front of a run of bytes, accepted or refused 1 to 8
unfoldable pub commands_before_rows : Register → Scheme → List ℕ → Reading (Progress Certificate)
commands_before_rows reg sch s = read_part (part_before_row_multipliers reg sch) s

-- reading as before there were rows, which refuses each `3B` with 1, comes to one where a multiplier may stand
abbrev pub SaysRowMultiplier : Register → Scheme → List ℕ → Type 0
SaysRowMultiplier reg sch s = comes_to (part_before_row_multipliers reg sch) (λ p. is_among p.previous any_before_rows) 0x3B s ≡ true

-- ---- the promises

-- Part 3 without a `3B` is what it was, whether the register has rows or not; of no call in particular.
pub record AsBeforeRowMultipliers : Type 0 where
  -- it meets today's conditions and has no `3B` just where it meets those of before
  pub part_3 : (c : ℕ → ℤ) (reg : Register) (sch : Scheme) (certificate : List ℕ) (cert : Certificate) →
      (Part3 c reg sch certificate cert × NoRowMultiplier cert) ↔ Part3BeforeRows c reg sch certificate cert
  -- its B and its R are those of before
  pub table_b : (c : ℕ → ℤ) (reg : Register) (sch : Scheme) (cert : Certificate) → NoRowMultiplier cert → B c reg sch cert ≡ B_before_rows c reg sch cert
  pub table_r : (c : ℕ → ℤ) (reg : Register) (sch : Scheme) (cert : Certificate) → NoRowMultiplier cert → R c reg sch cert ≡ R_before_rows c reg sch cert

-- Part 3 that says no `3B` is read as it was: accepted with the same commands, or refused with the same number at the same position; of
-- no call in particular. (9, at `3F`, is by R, which is the R of before: `table_r`.)
pub record ReadBeforeRowMultipliers : Type 0 where
  pub in_job : (reg : Register) (sch : Scheme) (s : List ℕ) → (SaysRowMultiplier reg sch s → ⊥) → commands_in_job reg sch s ≡ commands_before_rows reg sch s
  -- so it is read where no byte is `3B`
  pub no_byte : (reg : Register) (sch : Scheme) (s : List ℕ) → ((at : ℕ) → get_or s at 0 ≡ 0x3B → ⊥) → SaysRowMultiplier reg sch s → ⊥

-- The null forms of `31` to `34` are 0 at every plan, whether it fits the rows or not; of no call in particular.
pub record NullEveryPlan : Type 0 where
  -- what a multiplier command that is no `3B` adds to the reformulated function is 0 at the filling that a plan induces
  pub command : (reg : Register) (sch : Scheme) → S.Valid reg sch → (t : Multiplier) → Allowed reg sch t → (t.kind ≡ 0x3B → ⊥) → (plan : ℕ) →
      value (factor (induced reg.choices sch plan)) (null_part reg sch t) ≡ pos 0
  -- so at the point of every plan the reformulated function of a certificate without a `3B` is s times g
  pub function_is : (c : ℕ → ℤ) (reg : Register) (sch : Scheme) (cert : Certificate) → S.Valid reg sch → Within reg sch cert → NoRowMultiplier cert → (plan : ℕ) →
      homogenized (reformulated c reg sch cert) 1 (plan_point reg sch plan) ≡ pos cert.scale *ℤ homogenized (g c reg sch) 1 (plan_point reg sch plan)

-- The bound of a certificate without a `3B` is one over every plan of the register's choices, whether it fits the rows or not, with the
-- coefficients that the plan chooses which is given beside it.
pub record BoundsEveryPlan (check_call : CheckCall) (plain_call : PlainCall) (job_call : JobCall) : Type 0 where
  -- where the check accepts a certificate without a `3B`, no plan costs less than the bound that it answers
  pub of_check : (register scheme certificate plan : List ℕ) (table : List ℤ) (reg : Register) (sch : Scheme) (fed : ℕ) (cert : Certificate) →
      Part1 register reg → Part2 reg scheme sch → Choosing reg plan fed → Part3 (chosen reg fed) reg sch certificate cert → NoRowMultiplier cert →
      (check_call register scheme certificate plan table).0.number ≡ 0 →
      (other : Plan reg.choices) → (check_call register scheme certificate plan table).0.bound ≤ℤ cost (chosen reg fed) reg other.fed
  -- and so where a job is accepted, of the bound that is answered for it
  pub of_job : (job : List ℕ) (table : List ℤ) (supplier : ℕ) (tally : Tally) (parts : Parts) →
      J.Valid parts → J.Encodes parts job → NoRowMultiplier parts.certificate →
      (job_call job table supplier tally).0.number ≡ 0 →
      (plan : Plan parts.register.choices) → (job_call job table supplier tally).0.bound ≤ℤ job_cost parts plan.fed
  -- our own certificate has no `3B`, whatever register, scheme and plan it is of
  pub own : (reg : Register) (sch : Scheme) (fed : ℕ) → NoRowMultiplier (own_certificate reg sch fed)
  -- so the bound that the check, lent a table that is long enough, answers for the bytes that our own call hands back is one over
  -- every plan
  pub of_own : (register scheme plan lent : List ℕ) (table : List ℤ) (k : WithPlan register scheme plan) →
      (plain_call register scheme plan lent).0.number ≡ 0 → table_numbers ≤ length table →
      (other : Plan k.reg.choices) → (check_call register scheme (front (plain_call register scheme plan lent)) plan table).0.bound ≤ℤ cost (chosen k.reg k.fed) k.reg other.fed
