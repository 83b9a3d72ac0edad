-- The example, 113 bytes, as a job: it is accepted, with T = 1 refused, and one byte more is refused.
use mathlib.Core.Path.{◌≡◌, refl, ◌∙◌, ap}
use mathlib.Core.List.{List, [], ◌∷◌, ◌++◌, map, flat_map}
use Prim.Native.Nat.{ℕ, ◌≤◌, ◌<◌}
use lib.IntN.{ℤ, pos}
use lib.ListN.{length}
use borrow.Author.Tests.{lt-ltb, le-ltb}
use Rattle.forms.specs.Table.{table_numbers}
use Rattle.certificate.specs.Certificate.{Certificate}
use Rattle.certificate.proofs.Commands.{command}
use Rattle.integers.specs.Integer.{abs}
use Rattle.integers.specs.Lists.{join_below, all_below, comes_before}
use Rattle.integers.specs.Sum.{sum_below, sum_over, except}
use Rattle.integers.specs.Quadratic.{off_diagonal}
use Rattle.integers.specs.CeilDiv.{ceil_div}
use Rattle.sets.specs.Sets.{is_member, is_subset, is_proper_subset}
use Rattle.forms.specs.Form.{times, entry}
use Rattle.wire.specs.Number.{nat_at, little}
use Rattle.wire.specs.Checks.{refusal, command_checks}
use Rattle.wire.specs.Part.{operands_at, total, checks_at, after_at, step, run, read_from, read_part}
use Rattle.wire.specs.Part as P
use Rattle.wire.specs.Rows.{row_of}
use Rattle.text.specs.Text.{digits_to, digits, decimal, line}
use Rattle.register.specs.Register as Reg
use Rattle.register.specs.Format.{base_checks, choice_checks, term_checks, register_in_job}
use Rattle.register.specs.Format as RegFormat
use Rattle.scheme.specs.Scheme as Sch
use Rattle.scheme.specs.Variables.{up_to, upward, E}
use Rattle.scheme.specs.Function.{term, g}
use Rattle.scheme.specs.Format.{is_new, product_checks, split_checks, scheme_in_job}
use Rattle.scheme.specs.Format as SchFormat
use Rattle.plan.specs.Plan.{cost}
use Rattle.plan.specs.Fits.{fits_rows}
use Rattle.plan.specs.Format.{plan_checks, plan_in_job}
use Rattle.certificate.specs.Rules.{by_key, arity, rule_of}
use Rattle.residual.specs.Residual.{null_part, subtracted_part, null_forms, subtracted_forms, reformulated, shifted, R}
use Rattle.bound.specs.Bound.{row_holds, carries, bound}
use Rattle.certificate.specs.Format.{scale_checks, multiplier_checks, square_checks, commands_in_job}
use Rattle.bound.specs.Format.{dominance_checked, certificate_in_job}
use Rattle.register.proofs.Example.{register_bytes, example_register}
use Rattle.scheme.proofs.Example.{scheme_bytes, example_scheme}
use Rattle.wire.specs.Outcome.{refuses, accepts}
use Rattle.job.specs.Outcome.{Parts, outcome}
use Rattle.job.specs.declared.Tally.{Tally}
use Rattle.job.specs.declared.JobAnswer.{JobAnswer}
use Rattle.job.specs.Tally.{suppliers, raised, with_accepted, with_refused, pair_of, with_pair, moved}
use Rattle.job.specs.Answer.{refused_answer, after_job, job_answer}
use Rattle.listing.specs.Listing.{choice_lines, fed_lines, supplier_lines, accepted_lines, listed, listing, supplier_listing}

-- parts 1 and 2
abbrev pub front : List ℕ
front = register_bytes ++ scheme_bytes

-- parts 3 and 4, with a target below 256
abbrev pub back : ℕ → List ℕ
back target =
    0x30 ∷ 1 ∷ 0 ∷ 0 ∷ 0 ∷ target ∷ 0 ∷ 0 ∷ 0 ∷ 0 ∷ 0 ∷ 0 ∷ 0
    ∷ 0x39 ∷ 0 ∷ 6 ∷ 0 ∷ 0 ∷ 0 ∷ 0 ∷ 0 ∷ 0 ∷ 0 ∷ 0x39 ∷ 1 ∷ 4 ∷ 0 ∷ 0 ∷ 0 ∷ 0 ∷ 0 ∷ 0 ∷ 0 ∷ 0x38 ∷ 4 ∷ 5 ∷ 0 ∷ 0 ∷ 0 ∷ 0 ∷ 0 ∷ 0 ∷ 0 ∷ 0x3F
    ∷ 0x40 ∷ 3 ∷ 0 ∷ 0 ∷ 0 ∷ []

-- `T 0 4 480` .. `B 0 0 0`
abbrev pub lines : List ℕ
lines =
    0x54 ∷ 0x20 ∷ 0x30 ∷ 0x20 ∷ 0x34 ∷ 0x20 ∷ 0x34 ∷ 0x38 ∷ 0x30 ∷ 0x0A
    ∷ 0x54 ∷ 0x20 ∷ 0x31 ∷ 0x20 ∷ 0x34 ∷ 0x20 ∷ 0x37 ∷ 0x32 ∷ 0x30 ∷ 0x0A
    ∷ 0x54 ∷ 0x20 ∷ 0x32 ∷ 0x20 ∷ 0x37 ∷ 0x20 ∷ 0x34 ∷ 0x38 ∷ 0x30 ∷ 0x0A
    ∷ 0x46 ∷ 0x20 ∷ 0x34 ∷ 0x20 ∷ 0x34 ∷ 0x38 ∷ 0x30 ∷ 0x0A
    ∷ 0x46 ∷ 0x20 ∷ 0x34 ∷ 0x20 ∷ 0x37 ∷ 0x32 ∷ 0x30 ∷ 0x0A
    ∷ 0x42 ∷ 0x20 ∷ 0x30 ∷ 0x20 ∷ 0x30 ∷ 0x20 ∷ 0x30 ∷ 0x0A ∷ []

-- the example's certificate
abbrev example_certificate : Certificate
example_certificate = record { scale = 1; target = pos 0; multipliers = command 0x39 0 6 ∷ command 0x39 1 4 ∷ command 0x38 4 5 ∷ []; squares = [] }

abbrev example_parts : Parts
example_parts = record { register = example_register; scheme = example_scheme; certificate = example_certificate; plan = 3 }

-- with T = 0, with T = 1, and with one more byte
abbrev pub examples : List (List ℕ)
examples = (front ++ back 0) ∷ (front ++ back 1) ∷ (front ++ (back 0 ++ (0 ∷ []))) ∷ []

outcomes : map outcome examples ≡ accepts example_parts ∷ refuses 9 3 107 ∷ refuses 12 4 113 ∷ []
unfolding outcome flat_map join_below all_below comes_before abs sum_below sum_over except off_diagonal is_member is_subset is_proper_subset times entry nat_at little refusal command_checks operands_at total checks_at after_at P.command step P.follow run read_from read_part row_of Reg.fresh base_checks choice_checks term_checks RegFormat.end_checks register_in_job Sch.fresh up_to upward E term g is_new product_checks split_checks SchFormat.end_checks scheme_in_job fits_rows plan_checks plan_in_job by_key arity rule_of null_part subtracted_part null_forms subtracted_forms reformulated shifted R row_holds carries scale_checks multiplier_checks square_checks commands_in_job dominance_checked certificate_in_job
outcomes = refl

map-map : {A B C : Type 0} (f : B → C) (g : A → B) (xs : List A) → map (λ x. f (g x)) xs ≡ map f (map g xs)
map-map f g [] = refl
map-map f g (x ∷ xs) = ap (λ l. f (g x) ∷ l) (map-map f g xs)

-- what the call answers to them, for each supplier and with every table long enough
module _ (lent : List ℤ) (supplier : ℕ) (tally : Tally) (k : supplier < suppliers) (l : table_numbers ≤ length lent) where
  answers : map (λ s. job_answer s lent supplier tally) examples
      ≡ record { number = 0; part = 0; position = 0; bound = pos 0; cost = pos 0; gap = pos 0; tally = moved with_accepted supplier tally }
      ∷ refused_answer 9 3 107 (moved with_refused supplier tally)
      ∷ refused_answer 12 4 113 (moved with_refused supplier tally)
      ∷ []
  unfolding job_answer bound ceil_div cost sum_below is_subset
  answers = rw (lt-ltb supplier suppliers k, le-ltb (length lent) table_numbers l) (map-map (λ o. after_job o supplier tally) outcome examples ∙ ap (map (λ o. after_job o supplier tally)) outcomes)

  -- with 4 accepted and 7 refused jobs so far
  pub counted : pair_of tally supplier ≡ record { accepted = 4; refused = 7 } → map (λ s. job_answer s lent supplier tally) examples
      ≡ record { number = 0; part = 0; position = 0; bound = pos 0; cost = pos 0; gap = pos 0; tally = with_pair supplier (record { accepted = 5; refused = 7 }) tally }
      ∷ record { number = 9; part = 3; position = 107; bound = pos 0; cost = pos 0; gap = pos 0; tally = with_pair supplier (record { accepted = 4; refused = 8 }) tally }
      ∷ record { number = 12; part = 4; position = 113; bound = pos 0; cost = pos 0; gap = pos 0; tally = with_pair supplier (record { accepted = 4; refused = 8 }) tally }
      ∷ []
  unfolding raised
  counted e = rw e at answers

  -- with as many accepted jobs as are counted, and one fewer refused
  pub counted_last : pair_of tally supplier ≡ record { accepted = 4_294_967_295; refused = 4_294_967_294 } →
      map (λ s. (job_answer s lent supplier tally).tally) examples
      ≡ with_pair supplier (record { accepted = 4_294_967_295; refused = 4_294_967_294 }) tally
      ∷ with_pair supplier (record { accepted = 4_294_967_295; refused = 4_294_967_295 }) tally
      ∷ with_pair supplier (record { accepted = 4_294_967_295; refused = 4_294_967_295 }) tally
      ∷ []
  unfolding raised
  counted_last e = rw e at (ap (map (λ (a : JobAnswer). a.tally)) answers)

-- and for a supplier that there is not, with any table
pub unknown : (lent : List ℤ) (supplier : ℕ) (tally : Tally) → suppliers ≤ supplier → map (λ s. job_answer s lent supplier tally) examples
    ≡ refused_answer 17 0 0 tally ∷ refused_answer 17 0 0 tally ∷ refused_answer 17 0 0 tally ∷ []
unfolding job_answer
unknown lent supplier tally k = rw (le-ltb supplier suppliers k)

-- the lines; `R 9 107`; `R 12 113`
pub jobs : map (λ s. listing (outcome s)) examples
    ≡ lines
    ∷ (0x52 ∷ 0x20 ∷ 0x39 ∷ 0x20 ∷ 0x31 ∷ 0x30 ∷ 0x37 ∷ 0x0A ∷ [])
    ∷ (0x52 ∷ 0x20 ∷ 0x31 ∷ 0x32 ∷ 0x20 ∷ 0x31 ∷ 0x31 ∷ 0x33 ∷ 0x0A ∷ [])
    ∷ []
unfolding listed accepted_lines choice_lines fed_lines line decimal digits digits_to flat_map join_below is_member is_subset bound ceil_div cost sum_below
jobs = map-map listing outcome examples ∙ ap (map listing) outcomes

-- and the lines of a supplier: `C 0 1`, `C 1 1`, `C 2 0`, `B 0 0 0`; the same of a refusal
pub supplier_jobs : map (λ s. supplier_listing (outcome s)) examples
    ≡ (0x43 ∷ 0x20 ∷ 0x30 ∷ 0x20 ∷ 0x31 ∷ 0x0A ∷ 0x43 ∷ 0x20 ∷ 0x31 ∷ 0x20 ∷ 0x31 ∷ 0x0A ∷ 0x43 ∷ 0x20 ∷ 0x32 ∷ 0x20 ∷ 0x30 ∷ 0x0A
    ∷ 0x42 ∷ 0x20 ∷ 0x30 ∷ 0x20 ∷ 0x30 ∷ 0x20 ∷ 0x30 ∷ 0x0A ∷ [])
    ∷ (0x52 ∷ 0x20 ∷ 0x39 ∷ 0x20 ∷ 0x31 ∷ 0x30 ∷ 0x37 ∷ 0x0A ∷ [])
    ∷ (0x52 ∷ 0x20 ∷ 0x31 ∷ 0x32 ∷ 0x20 ∷ 0x31 ∷ 0x31 ∷ 0x33 ∷ 0x0A ∷ [])
    ∷ []
unfolding listed accepted_lines supplier_lines line decimal digits digits_to flat_map join_below is_member is_subset bound ceil_div cost sum_below
supplier_jobs = map-map supplier_listing outcome examples ∙ ap (map supplier_listing) outcomes
