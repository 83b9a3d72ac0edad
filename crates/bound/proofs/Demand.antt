-- What the check's answer says, over all bytes. Where it answers 0 the bytes are those of a register, a scheme and a certificate
-- that meet the paper's conditions, no plan of this register that fits costs less than the bound, the cost call's answers among them,
-- and the second-order part is never negative.
use Prim.Native.Nat.{ℕ, ◌≤◌}
use mathlib.Core.Path.{◌≡◌, refl, sym, subst}
use mathlib.Core.List.{List}
use lib.IntN.{ℤ}
use lib.Signed.{◌≤ℤ◌}
use Rattle.integers.proofs.Order.{≤ℤ_trans}
use Rattle.wire.specs.Part.{Reading, refused, accepted}
use Rattle.wire.specs.Rows.{Progress}
use Rattle.wire.specs.Outcome.{accepts, given, and_then, answer_by}
use Rattle.wire.proofs.Part.{NumberedReading, read_part_numbered, by_itself_numbered}
use Rattle.register.specs.declared.Register.{Register}
use Rattle.register.specs.Limits.{max_choices}
use Rattle.register.specs.Opening.{open_register}
use Rattle.plan.specs.declared.CostAnswer.{CostAnswer}
use Rattle.plan.specs.Plan.{cost}
use Rattle.plan.specs.Fits.{Fits}
use Rattle.plan.specs.Chosen.{chosen, WithinRanges}
use Rattle.plan.specs.Format.{plan_part, plan_in_job, plan_by_itself}
use Rattle.plan.specs.Answer.{refused_cost, accepted_cost, cost_answer}
use Rattle.plan.proofs.Accept.{whole_valid as valid-plan}
use Rattle.plan.proofs.Coefficients.{chosen_within}
use Rattle.plan.proofs.Ranges.{cost_most, gap_none}
use Rattle.scheme.proofs.Opened.{register_bytes, scheme_bytes}
use Rattle.bound.specs.Bound.{bound}
use Rattle.bound.specs.Demand.{Shown}
use Rattle.bound.specs.Check.{check_answer}
use Rattle.bound.proofs.Accept.{whole_valid, whole_encodes}
use Rattle.bound.proofs.Answers.{checked}
use Rattle.bound.proofs.Bound.{plan_bound}
use Rattle.bound.proofs.Opening.{chooses_valid, chooses_bytes}
use Rattle.bound.proofs.SecondOrder.{second_order_lem}

-- what the cost call answers, once the register is read
abbrev cost_by : Register → Reading (Progress ℕ) → CostAnswer
cost_by reg x = answer_by refused_cost accepted_cost (and_then (given 4 x) λ p. accepts (cost (chosen reg p) reg p))

-- the cost call reads the same register, and a plan that fits, which is dearest with the coefficients that it chooses itself
costs_more : (register plan : List ℕ) (reg : Register) (b : ℤ) → open_register register ≡ accepts reg → reg.choices ≤ max_choices → (c : ℕ → ℤ) → WithinRanges reg c →
    ((plan : ℕ) → Fits reg plan → b ≤ℤ cost c reg plan) → (cost_answer register plan).number ≡ 0 → b ≤ℤ (cost_answer register plan).cost
unfolding cost_answer plan_by_itself plan_in_job
costs_more register plan reg b e few c within h z =
    rw e (go (plan_by_itself reg plan) refl (by_itself_numbered plan _ (read_part_numbered (plan_part reg) plan)) (rw e at z))
  where
    go : (x : Reading (Progress ℕ)) → plan_by_itself reg plan ≡ x → NumberedReading x → (cost_by reg x).number ≡ 0 → b ≤ℤ (cost_by reg x).cost
    go (refused n at) a d f = absurd (d f)
    go (accepted q to) a d f = ≤ℤ_trans _ _ _ (h q.parsed (valid-plan reg few plan q to a).0.fits) (cost_most reg c within q.parsed)

module _ (register scheme certificate plan : List ℕ) (lent : List ℤ) where
  pub answered_shown : (check_answer register scheme certificate plan lent).number ≡ 0 → Shown register scheme certificate plan (check_answer register scheme certificate plan lent)
  answered_shown e =
      let k = checked register scheme certificate plan lent e in
      let reg = k.reg in
      let sch = k.sch in
      let o = k.opens.parts in
      let c = chosen reg k.plan in
      let within = chosen_within reg o.register_valid.within k.plan in
      let v = whole_valid reg sch c certificate k.read k.end k.reads in
      let h = plan_bound c reg sch k.read.parsed o.scheme_valid v in
      subst (Shown register scheme certificate plan) (sym k.answers) (record {
        reg = reg;
        sch = sch;
        cert = k.read.parsed;
        chooses = k.plan;
        register_is = register_bytes register scheme reg sch o;
        scheme_is = scheme_bytes register scheme reg sch o;
        certificate_is = whole_encodes reg sch c certificate k.read k.end k.reads;
        plan_is = chooses_bytes register scheme plan reg sch k.plan k.opens;
        register_valid = o.register_valid;
        scheme_valid = o.scheme_valid;
        plan_valid = chooses_valid register scheme plan reg sch k.plan k.opens;
        certificate_valid = v;
        bound_is = refl;
        costs = h;
        answered_costs = λ other. costs_more register other reg (bound k.read.parsed) (rw o.register_reads) o.register_valid.within.choices.few c within h;
        cheapest = λ same d inside other fits. gap_none reg k.plan other (bound k.read.parsed) same (h other fits) d inside;
        second_order_part = second_order_lem c reg sch k.read.parsed v.carried;
      })
