-- What the cost call answers, from what its callees answer.
use mathlib.Core.Path.{◌≡◌, refl, sym, ◌∙◌, ap}
use mathlib.Core.List.{List}
use Prim.Native.Nat.{ℕ, ◌≤◌}
use Rattle.wire.specs.Number.{Bytes}
use Rattle.wire.specs.Part.{Reading, refused, accepted, by_itself}
use Rattle.wire.specs.Rows.{Progress}
use Rattle.std.proofs.Common.{Result}
use Rattle.wire.specs.declared.refusals.Read.{Read}
use Rattle.wire.specs.declared.refusals.Refused.{Refused}
use Rattle.wire.specs.Outcome.{accepts, and_then, added_by}
use Rattle.wire.specs.Results.{reading_of, whole_of}
use Rattle.wire.proofs.Results.{whole_added}
use Rattle.wire.proofs.Part.{NumberedReading, read_part_numbered, by_itself_numbered}
use Rattle.register.specs.declared.Register.{Register}
use Rattle.register.specs.Limits.{max_choices}
use Rattle.register.specs.Format.{register_part, register_in_job, register_by_itself}
use Rattle.register.specs.Opening.{open_register}
use Rattle.register.specs.Valid as R
use Rattle.register.specs.Encoding as RE
use Rattle.register.proofs.Accept as Ra
use Rattle.register.proofs.Opened.{Opened, opened_by}
use Rattle.plan.specs.Plan.{cost}
use Rattle.plan.specs.Chosen.{chosen}
use Rattle.plan.specs.Format.{plan_part, plan_in_job, plan_by_itself}
use Rattle.plan.specs.Answer.{refused_cost, accepted_cost, cost_outcome, cost_answer}
use Rattle.plan.specs.Encoding.{Encodes}
use Rattle.plan.specs.Valid.{Valid}
use Rattle.plan.proofs.Accept.{whole_accepted as plan-accepted, whole_valid, whole_encodes}

-- the cost, where the register is opened, by what the plan's reader answers
pub cost_then : (s plan : List ℕ) (reg : Register) (read : Result (Read ℕ) Refused) → accepts reg ≡ open_register s → reading_of read ≡ added_by (λ p. p) (plan_in_job reg plan) →
    and_then (whole_of 4 (by_itself plan (reading_of read))) (λ p. accepts (cost (chosen reg p) reg p)) ≡ cost_outcome s plan
unfolding plan_by_itself
cost_then s plan reg read e r = rw (← e, r, whole_added 4 plan (plan_in_job reg plan))

pub plan_numbered : (reg : Register) (s : List ℕ) → NumberedReading (plan_by_itself reg s)
unfolding plan_by_itself plan_in_job
plan_numbered reg s = by_itself_numbered s (plan_in_job reg s) (read_part_numbered (plan_part reg) s)

register_numbered : (s : List ℕ) → NumberedReading (register_by_itself s)
unfolding register_by_itself register_in_job
register_numbered s = by_itself_numbered s (register_in_job s) (read_part_numbered register_part s)

-- ---- by what the call answers

-- an answer of no refusal: both parts are read
pub record Costed (s plan : List ℕ) : Type 0 where
  pub reg : Register
  pub read : Progress ℕ
  pub end : ℕ
  pub first : Opened s reg
  pub reads : plan_by_itself reg plan ≡ accepted read end
  pub answers : cost_answer s plan ≡ accepted_cost (cost (chosen reg read.parsed) reg read.parsed)

pub costed : (s plan : List ℕ) → (cost_answer s plan).number ≡ 0 → Costed s plan
unfolding cost_answer
costed s plan z = by (register_by_itself s) refl (register_numbered s)
  where
    go : (reg : Register) → Opened s reg → (x : Reading (Progress ℕ)) → plan_by_itself reg plan ≡ x → NumberedReading x → Costed s plan
    go reg o (refused n at) e d = let a : cost_answer s plan ≡ refused_cost n 4 at = rw (o.reads, e) in absurd (d (sym (ap (λ r. r.number) a) ∙ z))
    go reg o (accepted p end) e d = record { reg = reg; read = p; end = end; first = o; reads = e; answers = rw (o.reads, e) }

    by : (x : Reading (Progress Register)) → register_by_itself s ≡ x → NumberedReading x → Costed s plan
    by (refused n at) e d = let a : cost_answer s plan ≡ refused_cost n 1 at = rw e in absurd (d (sym (ap (λ r. r.number) a) ∙ z))
    by (accepted p end) e d = go p.parsed (opened_by s p.parsed (rw e)) (plan_by_itself p.parsed plan) refl (plan_numbered p.parsed plan)

-- the bytes of a valid register and of a plan whose choices are all there are given the plan's cost
pub cost_encodings : (s plan : List ℕ) (reg : Register) (p : ℕ) → R.Valid reg → RE.Encodes reg s → Valid reg p → Encodes reg p plan → cost_answer s plan ≡ accepted_cost (cost (chosen reg p) reg p)
unfolding cost_answer
cost_encodings s plan reg p v e named e' = rw (Ra.encoding_accepted s reg v e, plan-accepted reg v.within.choices.few p plan named e')

-- and no other bytes are given a cost
module _ (s plan : List ℕ) (c : Costed s plan) where
  pub costed_register : Bytes s → RE.Encodes c.reg s
  costed_register b = ((Ra.accepted_iff s c.reg b).0 c.first.reads).1

  abbrev few : c.reg.choices ≤ max_choices
  few = c.first.valid.within.choices.few

  pub costed_valid : Valid c.reg c.read.parsed
  costed_valid = (whole_valid c.reg few plan c.read c.end c.reads).0

  pub costed_plan : Bytes plan → Encodes c.reg c.read.parsed plan
  costed_plan = whole_encodes c.reg few plan c.read c.end c.reads
