-- Acceptance, of our calls.
use Prim.Native.Nat.{ℕ, zero, suc, ◌+◌, ◌^◌, ◌≤◌, ◌<◌}
use native.Mathlib.Omega.{arith}
use mathlib.Core.Path.{◌≡◌, refl, sym, ◌∙◌, ap, ap₂, subst}
use mathlib.Core.Bool.{Bool, true, false, true≢false, cond}
use mathlib.Core.List.{List}
use lib.Dec.{ltb}
use lib.IntN.{ℤ}
use lib.Pow.{pow_pos}
use lib.ListN.{length}
use Rattle.integers.proofs.Lists.{flag}
use Rattle.wire.specs.Number.{Bytes}
use Rattle.wire.specs.Part.{accepted}
use Rattle.wire.specs.Outcome.{Outcome, refuses, accepts, answer_by}
use Rattle.wire.proofs.Outcome.{Numbered}
use Rattle.wire.proofs.Accepting.{reached}
use Rattle.forms.specs.Table.{table_numbers}
use Rattle.register.specs.declared.Register.{Register}
use Rattle.register.specs.Register.{coefficient, has_range}
use Rattle.register.specs.Format.{register_by_itself}
use Rattle.register.specs.Answer.{register_answer}
use Rattle.register.proofs.Accept as Ra
use Rattle.register.proofs.Opened as RO
use Rattle.scheme.specs.declared.Scheme.{Scheme}
use Rattle.scheme.specs.Answer.{open_parts, scheme_answer}
use Rattle.scheme.proofs.Whole.{answered, answer_iff}
use Rattle.scheme.proofs.Opened.{Opened, opens, opened_encodings, opening_numbered, register_bytes, scheme_bytes, answer_opened}
use Rattle.penalty.specs.declared.PenaltyAnswer.{PenaltyAnswer}
use Rattle.penalty.specs.Answer.{penalty_answer}
use Rattle.penalty.specs.Answer as Penalty
use Rattle.penalty.proofs.Answers as PenaltyCall
use Rattle.penalty.proofs.Demand.{zeros_made}
use Rattle.plan.specs.Chosen.{chosen}
use Rattle.plan.specs.Fits.{Fits, fits}
use Rattle.plan.proofs.Fits.{register_fits}
use Rattle.plan.proofs.Answers.{costed, cost_encodings, costed_register, costed_valid, costed_plan}
use Rattle.certificate.specs.Format.{commands_in_job}
use Rattle.bound.specs.Format.{certificate_in_job, certificate_by_itself}
use Rattle.bound.specs.Check.{with_residual, check_answer, check_table}
use Rattle.bound.proofs.Accept.{commands_accepted, whole_accepted, whole_valid, whole_encodes, encoding_accepted}
use Rattle.bound.proofs.Same.{residual_same}
use Rattle.bound.proofs.Opening.{Chosen}
use Rattle.bound.proofs.Answers.{after_certificate, parts_accepted, checked}
use Rattle.job.specs.declared.Tally.{Tally}
use Rattle.job.specs.Outcome.{Parts, coefficients, table_after}
use Rattle.job.specs.Tally.{suppliers}
use Rattle.job.specs.Answer.{job_answer}
use Rattle.job.specs.Valid.{Valid}
use Rattle.job.proofs.Turn.{same_chosen}
use Rattle.job.proofs.EachRead.{Reads, AllRead}
use Rattle.job.proofs.Accept as JA
use Rattle.job.proofs.Suppliers as JS
use Rattle.search.specs.Walk.{Best, is_left, start, visited, walk}
use Rattle.search.specs.Sum.{sum}
use Rattle.search.specs.Answer.{search}
use Rattle.search.proofs.Walks.{walk_left, walk_full, walk_unfit, walk_on, unmet}
use Rattle.search.proofs.Cheapest.{found_least, found_met}
use Rattle.search.proofs.Searched.{searched, within_limit}
use Rattle.soundness.specs.Calls.{register_call, scheme_call, cost_call, penalty_call, check_call, job_call, search_call}
use Rattle.soundness.specs.Parts.{with_r}
use Rattle.soundness.specs.Acceptance.{OfCheck, OfJob, check_accepted, job_accepted, RegisterAcceptance, SchemeAcceptance, CostAcceptance, PenaltyAcceptance, CheckAcceptance, JobAcceptance, SearchAcceptance, Acceptance}
use Rattle.soundness.proofs.Choosing.{opened_parts, choosing_of, chosen_parts}

-- ---- part 1

of_register : RegisterAcceptance register_call
of_register = record {
  all = λ t reg p. ap register_answer (Ra.encoding_accepted t reg p.conditions p.bytes);
  only = λ t reg b e. let (v, x) = (Ra.answer_iff t reg b).0 e in record { conditions = v; bytes = x };
  number_0 = λ t z. ap register_answer (RO.opened t (register_answer (register_by_itself t)) refl z).reads;
}

-- ---- parts 1 and 2

opened_answer : (t s : List ℕ) (reg : Register) (sch : Scheme) → Opened t s reg sch → scheme_answer t s ≡ answered sch
opened_answer t s reg sch o = rw (opens o)

of_scheme : SchemeAcceptance scheme_call
of_scheme = record {
  all = λ t s sch p. opened_answer t s p.reg sch (opened_parts t s p.reg sch p.part_1 p.part_2);
  only = λ t s sch b b' e.
      let (reg, ((v, x), (v', x'))) = (answer_iff t s sch b b').0 e in
      record { reg = reg; part_1 = record { conditions = v; bytes = x }; part_2 = record { conditions = v'; bytes = x' } };
  number_0 = λ t s z. opened_answer t s _ _ (answer_opened t s z);
}

-- ---- parts 1 and 4

of_cost : CostAcceptance cost_call
of_cost = record {
  all = λ t plan z p.
      rw p.cost_is (cost_encodings t plan p.reg p.fed p.part_1.conditions p.part_1.bytes p.part_4.conditions p.part_4.bytes);
  only = λ t plan z b b' e.
      let c = costed t plan (ap (λ a. a.number) e) in
      record {
        reg = c.reg;
        fed = c.read.parsed;
        part_1 = record { conditions = c.first.valid; bytes = costed_register t plan c b };
        part_4 = record { conditions = costed_valid t plan c; bytes = costed_plan t plan c b' };
        cost_is = ap (λ a. a.cost) (sym e ∙ c.answers);
      };
  number_0 = λ t plan z. rw (costed t plan z).answers;
}

-- ---- the check, and the table

module _ (t s k q : List ℕ) (lent : List ℤ) (b : ℤ) (l : table_numbers ≤ length lent) (p : OfCheck t s k q b) where
  abbrev c : ℕ → ℤ
  c = chosen p.reg p.fed

  read_parts : Chosen t s q p.reg p.sch p.fed
  read_parts = chosen_parts p.part_1 p.part_2 p.choosing

  read_third : certificate_by_itself c p.reg p.sch k ≡ accepted (reached 0x3F p.cert) (length k)
  read_third = encoding_accepted p.reg p.part_1.conditions p.sch p.part_2.conditions c p.cert k p.part_3.conditions p.part_3.bytes

  check_all : check_answer t s k q lent ≡ check_accepted b
  check_all = sym (parts_accepted t s k q lent l p.reg p.sch p.fed read_parts).answers ∙ ap after_certificate read_third ∙ ap check_accepted (sym p.bound_is)

  check_table_lem : check_table t s k q lent ≡ with_r c p.reg p.sch p.cert lent
  check_table_lem =
      let (in_job, _) = whole_accepted p.reg p.sch c k _ _ read_third in
      let (commands, _) = commands_accepted p.reg p.sch c k _ _ in_job in
      sym (parts_accepted t s k q lent l p.reg p.sch p.fed read_parts).holds ∙ ap (λ x. with_residual c p.reg p.sch x lent) commands

check_only : (t s k q : List ℕ) (lent : List ℤ) (b : ℤ) → Bytes t → Bytes s → Bytes k → Bytes q → check_answer t s k q lent ≡ check_accepted b → OfCheck t s k q b
check_only t s k q lent b b₁ b₂ b₃ b₄ e =
    let c = checked t s k q lent (ap (λ a. a.number) e) in
    let o = c.opens.parts in
    let d = chosen c.reg c.plan in
    record {
      reg = c.reg;
      sch = c.sch;
      fed = c.plan;
      cert = c.read.parsed;
      part_1 = record { conditions = o.register_valid; bytes = register_bytes t s c.reg c.sch o b₁ };
      part_2 = record { conditions = o.scheme_valid; bytes = scheme_bytes t s c.reg c.sch o b₂ };
      choosing = choosing_of c.opens b₄;
      part_3 = record { conditions = whole_valid c.reg c.sch d k c.read c.end c.reads; bytes = whole_encodes c.reg c.sch d k c.read c.end c.reads b₃ };
      bound_is = ap (λ a. a.bound) (sym e ∙ c.answers);
    }

of_check : CheckAcceptance check_call
of_check = record {
  all = check_all;
  table_back = check_table_lem;
  only = check_only;
  number_0 = λ t s k q lent z. rw (checked t s k q lent z).answers;
  short = λ t s k q lent l z. absurd (omega (arith, (checked t s k q lent z).long));
}

-- ---- a job, and the table

job_all : (job : List ℕ) (lent : List ℤ) (supplier : ℕ) (tally : Tally) (b z : ℤ) → supplier < suppliers → table_numbers ≤ length lent → OfJob job b z → job_answer job lent supplier tally ≡ job_accepted b z supplier tally
job_all job lent supplier tally b z k l p =
    JA.answer_accepted job lent supplier tally p.parts k l p.conditions p.bytes ∙ ap₂ (λ b z. job_accepted b z supplier tally) (sym p.bound_is) (sym p.cost_is)

-- the parts before the certificate are read in their order, and of the certificate only its commands
module _ (s : List ℕ) (lent : List ℤ) (p : Parts) (v : Valid p) (a : AllRead s p) where
  held : (x : List ℕ) → Reads (certificate_in_job (coefficients p) p.register p.scheme x) p.certificate a.three →
      with_residual (coefficients p) p.register p.scheme (commands_in_job p.register p.scheme x) lent ≡ with_r (coefficients p) p.register p.scheme p.certificate lent
  held x r =
      let (commands, _) = commands_accepted p.register p.scheme (coefficients p) x _ _ r.is in
      ap (λ y. with_residual (coefficients p) p.register p.scheme y lent) commands

  -- where the register has no range, the plan has not been read, but makes no difference
  job_table_lem : table_after s lent ≡ with_r (coefficients p) p.register p.scheme p.certificate lent
  unfolding table_after
  job_table_lem =
      rw a.register.is (flag (has_range p.register)
      (λ t.
      let plan = rw t at a.plan.is in
      let certificate = rw t at a.certificate in
      rw (t, a.scheme.is, plan) (held _ certificate))
      (λ t.
      let certificate = rw t at a.certificate in
      let same = same_chosen p.register v.register.within t 0 p.plan in
      rw (t, a.scheme.is) (residual_same (chosen p.register 0) (coefficients p) p.register p.scheme (λ i l. same i) _ lent ∙ held _ certificate)))

job_only : (job : List ℕ) (lent : List ℤ) (supplier : ℕ) (tally : Tally) (b z : ℤ) → Bytes job → job_answer job lent supplier tally ≡ job_accepted b z supplier tally → OfJob job b z
job_only job lent supplier tally b z bytes e =
    let (p, (a, (v, k))) = JA.accepted_answer_lem job bytes lent supplier tally (ap (λ a. a.number) e) in
    record { parts = p; conditions = v; bytes = k; bound_is = ap (λ a. a.bound) (sym e ∙ a); cost_is = ap (λ a. a.cost) (sym e ∙ a) }

of_job : JobAcceptance job_call
of_job = record {
  all = job_all;
  table_back = λ job lent supplier tally b z k l p. (JS.table_enough job lent supplier tally k l).1 ∙ job_table_lem job lent p.parts p.conditions (JA.encoded_read p.parts p.conditions job p.bytes);
  only = job_only;
  number_0 = λ job lent supplier tally z. rw (JA.answered job lent supplier tally z).answers;
  short = λ job lent supplier tally l z. absurd (omega (arith, (JA.answered job lent supplier tally z).long));
  unknown_supplier = λ job lent supplier tally l z. absurd (omega (arith, (JA.answered job lent supplier tally z).there));
}

-- ---- the penalty call

abbrev answered_by : Outcome (Register × Scheme) → PenaltyAnswer
answered_by x = answer_by Penalty.answer (λ parts. Penalty.answer 0 0 0) x

-- number 0 stands in no answer but zeros
penalty_zeros : (t s : List ℕ) (lent : List ℤ) → (penalty_answer t s lent).number ≡ 0 → penalty_answer t s lent ≡ record { number = 0; part = 0; position = 0 }
unfolding penalty_answer
penalty_zeros t s lent = by (ltb (length lent) table_numbers)
  where
    parts : (x : Outcome (Register × Scheme)) → Numbered x → (answered_by x).number ≡ 0 → answered_by x ≡ record { number = 0; part = 0; position = 0 }
    parts (refuses n part at) d z = absurd (d z)
    parts (accepts a) d z = refl

    by : (b : Bool) → (cond b (Penalty.answer 11 0 0) (answered_by (open_parts t s))).number ≡ 0 → cond b (Penalty.answer 11 0 0) (answered_by (open_parts t s)) ≡ record { number = 0; part = 0; position = 0 }
    by true z = absurd (omega arith)
    by false z = parts (open_parts t s) (opening_numbered t s) z

of_penalty : PenaltyAcceptance penalty_call
of_penalty = record {
  all = λ t s lent sch l p.
      let o = opened_encodings t s p.reg sch p.part_1.conditions p.part_1.bytes p.part_2.conditions p.part_2.bytes in
      let q = PenaltyCall.parts_accepted t s lent l p.reg sch o in
      ap₂ (λ a b. (a, b)) (sym q.answers) (sym q.holds);
  only = λ t s lent b b' z.
      let m = zeros_made t s lent (penalty_zeros t s lent z) in
      (m.sch, record { reg = m.reg; part_1 = record { conditions = m.register_valid; bytes = m.register_is b }; part_2 = record { conditions = m.scheme_valid; bytes = m.scheme_is b' } });
}

-- ---- part 1, and the visit limit

-- a walk that has met no plan that fits has kept the plan that it began with
unmet_plan : (sum : ℕ → ℕ → ℤ) (fits : ℕ → Bool) (d fed : ℕ) (w : Best) → (walk sum fits d fed w).met ≡ false → (walk sum fits d fed w).plan ≡ w.plan
unmet_plan sum fits zero fed w m = flag (is_left (sum 0 fed) w)
    (λ e. rw (walk_left sum fits 0 fed w e))
    (λ e. flag (fits fed) (λ f. absurd (true≢false (rw (walk_full sum fits fed w e f) at m))) (λ f. rw (walk_unfit sum fits fed w f)))
unmet_plan sum fits (suc d) fed w m = flag (is_left (sum (suc d) fed) w)
    (λ e. rw (walk_left sum fits (suc d) fed w e))
    (λ e.
    let n = rw (walk_on sum fits d fed w e) at m in
    let u = walk sum fits d fed (visited w) in
    rw (walk_on sum fits d fed w e) (unmet_plan sum fits d (fed + 2 ^ d) u n ∙ unmet_plan sum fits d fed (visited w) (unmet sum fits d (fed + 2 ^ d) u n)))

-- so the plan that the search comes to is always one of the register's, and where it fits, one that fits has been met
module _ (r : Register) where
  abbrev w : Best
  w = search (coefficient r) r

  searched_below : w.plan < 2 ^ r.choices
  unfolding search
  searched_below = flag w.met
      (λ m. (found_least (coefficient r) r m).plan_below)
      (λ m. rw (unmet_plan (sum (coefficient r) r) (fits r) r.choices 0 start m) (pow_pos r.choices))

  searched_met : Fits r w.plan → w.met ≡ true
  searched_met f = found_met (coefficient r) r w.plan searched_below ((register_fits r w.plan).1 f)

of_search : SearchAcceptance search_call
of_search = record {
  all = λ t limit plan z visits p.
      let e = Ra.encoding_accepted t p.reg p.part_1.conditions p.part_1.bytes in
      rw (p.plan_is, p.cost_is, p.visits_are) (within_limit t p.reg e limit (subst (λ v. v ≤ limit) p.visits_are p.within) (searched_met p.reg (subst (Fits p.reg) p.plan_is p.fits)));
  only = λ t limit plan z visits b e.
      let s = searched t limit (ap (λ a. a.number) e) in
      let f = sym e ∙ s.answers in
      record {
        reg = (register_answer (register_by_itself t)).register;
        part_1 = record { conditions = s.first.valid; bytes = ((Ra.accepted_iff t _ b).0 s.first.reads).1 };
        plan_is = ap (λ a. a.plan) f;
        fits = subst (Fits (register_answer (register_by_itself t)).register) (sym (ap (λ a. a.plan) f)) ((register_fits (register_answer (register_by_itself t)).register _).0 (found_least _ _ s.met).plan_fits);
        cost_is = ap (λ a. a.cost) f;
        visits_are = ap (λ a. a.visits) f;
        within = subst (λ v. v ≤ limit) (sym (ap (λ a. a.visits) f)) s.within;
      };
  number_0 = λ t limit z. rw (searched t limit z).answers;
}

pub acceptance : Acceptance register_call scheme_call cost_call penalty_call check_call job_call search_call
acceptance = record { of_register = of_register; of_scheme = of_scheme; of_cost = of_cost; of_penalty = of_penalty; of_check = of_check; of_job = of_job; of_search = of_search }
