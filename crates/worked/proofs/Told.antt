-- A small job with one tank and with another, and with one coefficient and with another. A farm's listing tells the first two apart,
-- a supplier's the last two: what is promised of the supplier's listing is not true of every listing, nor with a coefficient hidden.
use Prim.Native.Nat.{ℕ, zero, suc, ◌-◌, ◌≤◌}
use native.Mathlib.Omega.{arith}
use mathlib.Core.Path.{◌≡◌, refl, sym, ◌∙◌, ap}
use mathlib.Core.Bool.{Bool, ◌&&◌, true, false, true≢false}
use mathlib.Core.List.{List, [], ◌∷◌, ◌++◌, flat_map}
use lib.Dec.{ltb}
use lib.IntN.{ℤ, pos, negsuc}
use lib.ListN.{length, get_or, replicate, length-replicate}
use borrow.Author.Tests.{ltb-true}
use Rattle.integers.proofs.Lists.{and_both}
use Rattle.forms.specs.Table.{table_numbers}
use Rattle.certificate.proofs.Commands.{command}
use Rattle.integers.specs.Integer.{abs}
use Rattle.integers.specs.Lists.{join_below, all_below, comes_before}
use Rattle.integers.specs.Sum.{sum_below, sum_over, except}
use Rattle.integers.specs.Quadratic.{off_diagonal}
use Rattle.integers.specs.CeilDiv.{ceil_div}
use Rattle.sets.specs.Sets.{is_member, is_subset, is_proper_subset}
use Rattle.forms.specs.Form.{times, entry}
use Rattle.wire.specs.Number.{Bytes, nat_at, little}
use Rattle.wire.specs.Checks.{refusal, command_checks}
use Rattle.wire.specs.Part.{operands_at, total, checks_at, after_at, step, run, read_from, read_part}
use Rattle.wire.specs.Part as P
use Rattle.wire.specs.Rows.{row_of}
use Rattle.wire.specs.Outcome.{accepts}
use Rattle.text.specs.Text.{digits_to, digits, decimal, line}
use Rattle.register.specs.declared.Register.{Register}
use Rattle.register.specs.Limits.{max_choices}
use Rattle.register.specs.Register.{set_base, set_choices}
use Rattle.register.specs.Register as Reg
use Rattle.register.specs.Format.{base_checks, choice_checks, term_checks, register_in_job}
use Rattle.register.specs.Format as RegFormat
use Rattle.register.proofs.Example.{example_register, known_terms}
use Rattle.scheme.specs.declared.Scheme.{Scheme}
use Rattle.scheme.specs.Scheme as Sch
use Rattle.scheme.specs.Variables.{up_to, upward, E}
use Rattle.scheme.specs.Function.{term, g}
use Rattle.scheme.specs.Format.{is_new, product_checks, split_checks, scheme_in_job}
use Rattle.scheme.specs.Format as SchFormat
use Rattle.plan.specs.Plan.{cost}
use Rattle.plan.specs.Fits.{fits_rows}
use Rattle.plan.specs.Format.{plan_checks, plan_in_job}
use Rattle.certificate.specs.Rules.{by_key, arity, rule_of}
use Rattle.residual.specs.Residual.{null_part, subtracted_part, null_forms, subtracted_forms, reformulated, shifted, R}
use Rattle.bound.specs.Bound.{row_holds, carries, bound}
use Rattle.certificate.specs.Format.{scale_checks, multiplier_checks, square_checks, commands_in_job}
use Rattle.bound.specs.Format.{dominance_checked, certificate_in_job}
use Rattle.job.specs.Outcome.{Parts, outcome}
use Rattle.listing.specs.declared.Reader.TheVariants.{Farm}
use Rattle.listing.specs.Listing.{plan_lines, supplier_lines, choice_lines, fed_lines, accepted_lines, listed, listing, supplier_listing}
use Rattle.listing.specs.Answer.{listing_room}
use Rattle.listing.proofs.Outcome.{listing_short}
use Rattle.listing.proofs.Answers.{enough, handed_back}
use Rattle.hidden.specs.Hidden.{operand_marks, marks_from, is_hidden, Agree}
use Rattle.soundness.specs.Calls.{job_call, listing_call, front}
use Rattle.soundness.specs.SupplierListing.{IsAccepted, Hides}
use Rattle.soundness.proofs.SupplierListing.{accepted_is}

-- ---- a job of 53 bytes: one choice, one term, the plan that feeds it

abbrev back : List ℕ
back =
    0 ∷ 0 ∷ 0 ∷ 0x1F ∷ 0x22 ∷ 0 ∷ 0 ∷ 0x2F
    ∷ 0x30 ∷ 1 ∷ 0 ∷ 0 ∷ 0 ∷ 0xF6 ∷ 0xFF ∷ 0xFF ∷ 0xFF ∷ 0xFF ∷ 0xFF ∷ 0xFF ∷ 0xFF ∷ 0x31 ∷ 0 ∷ 3 ∷ 0 ∷ 0 ∷ 0 ∷ 0 ∷ 0 ∷ 0 ∷ 0 ∷ 0x3F
    ∷ 0x40 ∷ 1 ∷ 0 ∷ 0 ∷ 0 ∷ []

abbrev job : (tank coefficient : ℕ) → List ℕ
job tank coefficient = 0x10 ∷ 0 ∷ 0 ∷ 0 ∷ 0 ∷ 0x11 ∷ tank ∷ 0 ∷ 0 ∷ 0 ∷ 0x12 ∷ 1 ∷ 0 ∷ 0 ∷ 0 ∷ coefficient ∷ back

-- the example's register with other base cost, choices and terms
abbrev register : (tank coefficient : ℕ) → Register
register tank coefficient = known_terms
    (set_choices (set_base example_register (pos 0)) 1 (tank ∷ replicate (max_choices - 1) 0) (replicate max_choices 0))
    1 (1 ∷ replicate 255 0) (pos coefficient ∷ replicate 255 (pos 0))

abbrev scheme : Scheme
scheme = record {
  products = 0;
  splits = 1;
  lefts = replicate 32 0;
  rights = replicate 32 0;
  split_lefts = replicate 256 0;
  split_rights = replicate 256 0;
  factor = 1;
}

abbrev parts : (tank coefficient : ℕ) → Parts
parts tank coefficient = record {
  register = register tank coefficient;
  scheme = scheme;
  certificate = record { scale = 1; target = negsuc 9; multipliers = command 0x31 0 3 ∷ []; squares = [] };
  plan = 1;
}

abbrev Leads : (tank coefficient : ℕ) → Type 0
Leads tank coefficient = outcome (job tank coefficient) ≡ accepts (parts tank coefficient)

leads : Leads 1 1 × (Leads 2 1 × Leads 1 2)
unfolding outcome flat_map join_below all_below comes_before abs sum_below sum_over except off_diagonal is_member is_subset is_proper_subset times entry nat_at little refusal command_checks operands_at total checks_at after_at P.command step P.follow run read_from read_part row_of Reg.fresh base_checks choice_checks term_checks RegFormat.end_checks register_in_job Sch.fresh up_to upward E term g is_new product_checks split_checks SchFormat.end_checks scheme_in_job fits_rows plan_checks plan_in_job by_key arity rule_of null_part subtracted_part null_forms subtracted_forms reformulated shifted R row_holds carries scale_checks multiplier_checks square_checks commands_in_job dominance_checked certificate_in_job
leads = (refl, (refl, refl))

is_accepted : (tank coefficient : ℕ) → Leads tank coefficient → IsAccepted job_call (job tank coefficient)
is_accepted tank coefficient = accepted_is (job tank coefficient) (parts tank coefficient)

-- ---- bytes

is_bytes : List ℕ → Bool
is_bytes [] = true
is_bytes (b ∷ s) = ltb b 256 && is_bytes s

bytes_by : (s : List ℕ) → is_bytes s ≡ true → Bytes s
unfolding is_bytes
bytes_by [] e = tt
bytes_by (b ∷ s) e = let (h, k) = and_both (ltb b 256) (is_bytes s) e in (ltb-true b 256 h, bytes_by s k)

below : (is_bytes (job 1 1) ≡ true) × (is_bytes (job 2 1) ≡ true)
unfolding is_bytes
below = (refl, refl)

-- ---- two lists that differ at one place

elsewhere : (a : List ℕ) (x y : ℕ) (b : List ℕ) (at : ℕ) → (at ≡ length a → ⊥) → get_or (a ++ (x ∷ b)) at 0 ≡ get_or (a ++ (y ∷ b)) at 0
elsewhere [] x y b zero h = absurd (h refl)
elsewhere [] x y b (suc at) h = refl
elsewhere (c ∷ a) x y b zero h = refl
elsewhere (c ∷ a) x y b (suc at) h = elsewhere a x y b at (λ e. h (ap suc e))

-- ---- which bytes are hidden, one by one

-- `10`, `18`, a `13`, an `11`, a `14`, a `12` and `1F`, and an `11` after them
abbrev each_command : List ℕ
each_command =
    (0x10 ∷ replicate 4 0) ++ (0x18 ∷ 0xA0 ∷ 5 ∷ [])
    ++ (0x13 ∷ 1 ∷ 0 ∷ 0 ∷ 0 ∷ 0xA0 ∷ 5 ∷ [])
    ++ (0x11 ∷ 1 ∷ 0 ∷ 0 ∷ 0 ∷ [])
    ++ (0x14 ∷ replicate 34 0) ++ (0x12 ∷ 1 ∷ 0 ∷ 0 ∷ 0 ∷ 1 ∷ 0 ∷ 0 ∷ 0 ∷ []) ++ (0x1F ∷ [])
    ++ (0x11 ∷ 1 ∷ 0 ∷ 0 ∷ 0 ∷ [])

-- the six bytes after `13` and the four after `11` of part 1, and no others
pub each_hidden : marks_from (length each_command) each_command ≡ replicate 9 false ++ replicate 6 true ++ (false ∷ []) ++ replicate 4 true ++ replicate 45 false
unfolding marks_from operand_marks by_key row_of total
each_hidden = refl

-- ---- another tank

tank_hidden : is_hidden (job 1 1) 6 ≡ true
unfolding is_hidden marks_from operand_marks by_key row_of total
tank_hidden = refl

other_tank : Agree (job 1 1) (job 2 1)
other_tank = record {
  lengths = refl;
  bytes = λ at h k. elsewhere (0x10 ∷ 0 ∷ 0 ∷ 0 ∷ 0 ∷ 0x11 ∷ []) 1 2 (0 ∷ 0 ∷ 0 ∷ 0x12 ∷ 1 ∷ 0 ∷ 0 ∷ 0 ∷ 1 ∷ back) at λ e.
      true≢false (sym tank_hidden ∙ ap (is_hidden (job 1 1)) (sym e) ∙ h);
}

-- byte 4 of a farm's lines, in `T 0 1 0` or `T 0 2 0`
tank_shown : (get_or (listing (accepts (parts 1 1))) 4 0 ≡ 0x31) × (get_or (listing (accepts (parts 2 1))) 4 0 ≡ 0x32)
unfolding listed accepted_lines choice_lines fed_lines line decimal digits digits_to flat_map join_below is_member is_subset bound ceil_div cost sum_below
tank_shown = (refl, refl)

abbrev zeros : List ℤ
zeros = replicate table_numbers (pos 0)

abbrev room : List ℕ
room = replicate listing_room 0

shown_whole : (s : List ℕ) → front ((listing_call s zeros room).0, (listing_call s zeros room).1.1) ≡ listing (outcome s)
shown_whole s =
    let l : table_numbers ≤ length zeros = omega (arith, length-replicate table_numbers (pos 0)) in
    let m : listing_room ≤ length room = omega (arith, length-replicate {A = ℕ} listing_room 0) in
    (handed_back plan_lines s zeros room (ap (λ a. a.number) (enough plan_lines s zeros room l m (listing_short Farm s)).0)).front

pub farm_told : Hides job_call listing_call → ⊥
farm_told h =
    let bytes : Bytes (job 1 1) × Bytes (job 2 1) = (bytes_by (job 1 1) below.0, bytes_by (job 2 1) below.1) in
    let w = h (job 1 1) (job 2 1) zeros zeros room room bytes.0 bytes.1 (is_accepted 1 1 leads.0) (is_accepted 2 1 leads.1.0) other_tank refl refl in
    let e = sym (shown_whole (job 1 1)) ∙ w.written ∙ shown_whole (job 2 1) in
    let d : listing (accepts (parts 1 1)) ≡ listing (accepts (parts 2 1)) = sym (ap listing leads.0) ∙ e ∙ ap listing leads.1.0 in
    absurd (omega (arith, sym tank_shown.0 ∙ ap (λ l. get_or l 4 0) d ∙ tank_shown.1))

-- ---- another coefficient

-- byte 12 of a supplier's lines, in `B -10 1 11` or `B -10 2 12`
cost_shown : (get_or (supplier_listing (accepts (parts 1 1))) 12 0 ≡ 0x31) × (get_or (supplier_listing (accepts (parts 1 2))) 12 0 ≡ 0x32)
unfolding listed accepted_lines supplier_lines line decimal digits digits_to flat_map join_below is_member is_subset bound ceil_div cost sum_below
cost_shown = (refl, refl)

-- two accepted jobs of one length, the same byte at each position but 15, in the coefficient; a supplier's lines differ
pub coefficient_told :
    (IsAccepted job_call (job 1 1) × IsAccepted job_call (job 1 2))
    × (length (job 1 1) ≡ length (job 1 2))
    × ((at : ℕ) → (at ≡ 15 → ⊥) → get_or (job 1 1) at 0 ≡ get_or (job 1 2) at 0)
    × (supplier_listing (outcome (job 1 1)) ≡ supplier_listing (outcome (job 1 2)) → ⊥)
coefficient_told = (
  (is_accepted 1 1 leads.0, is_accepted 1 2 leads.1.1),
  refl,
  (λ at d. elsewhere (0x10 ∷ 0 ∷ 0 ∷ 0 ∷ 0 ∷ 0x11 ∷ 1 ∷ 0 ∷ 0 ∷ 0 ∷ 0x12 ∷ 1 ∷ 0 ∷ 0 ∷ 0 ∷ []) 1 2 back at d),
  (λ e.
      let d : supplier_listing (accepts (parts 1 1)) ≡ supplier_listing (accepts (parts 1 2)) = sym (ap supplier_listing leads.0) ∙ e ∙ ap supplier_listing leads.1.1 in
      absurd (omega (arith, sym cost_shown.0 ∙ ap (λ l. get_or l 12 0) d ∙ cost_shown.1))),
)
