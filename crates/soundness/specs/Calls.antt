-- The calls of which the statements here speak, from bytes, lent tables and lent buffers to the answer and what is handed back.
use Rattle.std.specs.Prelude.{ℕ, List, ℤ, take}
use Rattle.wire.specs.declared.WriterAnswer.{WriterAnswer}
use Rattle.register.specs.declared.RegisterAnswer.{RegisterAnswer}
use Rattle.register.specs.Format.{register_by_itself}
use Rattle.register.specs.Answer.{register_answer}
use Rattle.scheme.specs.declared.SchemeAnswer.{SchemeAnswer}
use Rattle.scheme.specs.Answer.{scheme_answer}
use Rattle.builder.specs.Answer.{build_answer, build_buffer}
use Rattle.costliest.specs.Answer.{costliest_answer, costliest_buffer}
use Rattle.plan.specs.declared.CostAnswer.{CostAnswer}
use Rattle.plan.specs.Answer.{cost_answer}
use Rattle.penalty.specs.declared.PenaltyAnswer.{PenaltyAnswer}
use Rattle.penalty.specs.Answer.{penalty_answer, penalty_table}
use Rattle.bound.specs.declared.CheckAnswer.{CheckAnswer}
use Rattle.bound.specs.Check.{check_answer, check_table}
use Rattle.plain.specs.Answer.{plain_answer, plain_buffer}
use Rattle.job.specs.declared.Tally.{Tally}
use Rattle.job.specs.declared.JobAnswer.{JobAnswer}
use Rattle.job.specs.Answer.{job_answer, job_table}
use Rattle.listing.specs.Listing.{PlanLines, plan_lines, supplier_lines}
use Rattle.listing.specs.Answer.{answer_with, listing_table, buffer_with}
use Rattle.search.specs.declared.SearchAnswer.{SearchAnswer}
use Rattle.search.specs.Answer.{search_answer}

-- part 1
abbrev pub RegisterCall : Type 0
RegisterCall = List ℕ → RegisterAnswer

-- parts 1 and 2
abbrev pub SchemeCall : Type 0
SchemeCall = List ℕ → List ℕ → SchemeAnswer

-- parts 1 and 4
abbrev pub CostCall : Type 0
CostCall = List ℕ → List ℕ → CostAnswer

-- parts 1 and 2, and the table
abbrev pub PenaltyCall : Type 0
PenaltyCall = List ℕ → List ℕ → List ℤ → PenaltyAnswer × List ℤ

-- parts 1 to 4, and the table
abbrev pub CheckCall : Type 0
CheckCall = List ℕ → List ℕ → List ℕ → List ℕ → List ℤ → CheckAnswer × List ℤ

-- parts 1, 2 and 4, and the byte buffer
abbrev pub PlainCall : Type 0
PlainCall = List ℕ → List ℕ → List ℕ → List ℕ → WriterAnswer × List ℕ

-- part 1, and the byte buffer
abbrev pub BuildCall : Type 0
BuildCall = List ℕ → List ℕ → WriterAnswer × List ℕ

-- how many terms, how many choices in each, and the byte buffer
abbrev pub CostliestCall : Type 0
CostliestCall = ℕ → ℕ → List ℕ → WriterAnswer × List ℕ

-- a job, the table, the supplier's number and the tally
abbrev pub JobCall : Type 0
JobCall = List ℕ → List ℤ → ℕ → Tally → JobAnswer × List ℤ

-- a job, the table and the byte buffer: the farm's listing, and the supplier's
abbrev pub ListingCall : Type 0
ListingCall = List ℕ → List ℤ → List ℕ → WriterAnswer × (List ℤ × List ℕ)

-- part 1 and the visit limit
abbrev pub SearchCall : Type 0
SearchCall = List ℕ → ℕ → SearchAnswer

-- what a call that writes hands back: the first bytes of the buffer, as many as the answer counts
abbrev pub front : WriterAnswer × List ℕ → List ℕ
front (answer, buffer) = take answer.count buffer

-- ours: what the exported functions `feedcheck_register` to `feedcheck_search` answer and hand back, by the contracts in `src/lib.rt`

abbrev pub register_call : RegisterCall
register_call register = register_answer (register_by_itself register)

abbrev pub scheme_call : SchemeCall
scheme_call register scheme = scheme_answer register scheme

abbrev pub cost_call : CostCall
cost_call register plan = cost_answer register plan

abbrev pub penalty_call : PenaltyCall
penalty_call register scheme lent = (penalty_answer register scheme lent, penalty_table register scheme lent)

abbrev pub check_call : CheckCall
check_call register scheme certificate plan lent = (check_answer register scheme certificate plan lent, check_table register scheme certificate plan lent)

abbrev pub plain_call : PlainCall
plain_call register scheme plan lent = (plain_answer register scheme plan lent, plain_buffer register scheme plan lent)

abbrev pub build_call : BuildCall
build_call register lent = (build_answer register lent, build_buffer register lent)

abbrev pub costliest_call : CostliestCall
costliest_call m d lent = (costliest_answer m d lent, costliest_buffer m d lent)

abbrev pub job_call : JobCall
job_call job lent supplier tally = (job_answer job lent supplier tally, job_table job lent supplier)

-- the two listing calls, by the lines that each writes of a register and a plan

abbrev pub listing_with : PlanLines → ListingCall
listing_with lines job table buffer = (answer_with lines job table buffer, (listing_table job table, buffer_with lines job table buffer))

abbrev pub listing_call : ListingCall
listing_call = listing_with plan_lines

abbrev pub supplier_listing_call : ListingCall
supplier_listing_call = listing_with supplier_lines

abbrev pub search_call : SearchCall
search_call register limit = search_answer register limit
