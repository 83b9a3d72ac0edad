-- The bound in the relaxation, of our calls.
use Prim.Native.Nat.{ℕ, zero, suc, ◌*◌, ◌≤◌}
use native.Mathlib.Nat.{mul-le-mul}
use native.Mathlib.Omega.{arith}
use mathlib.Core.Path.{◌≡◌, refl, sym, ◌∙◌, ap, subst}
use mathlib.Core.List.{List, [], ◌∷◌}
use lib.IntN.{ℤ, pos, ◌+ℤ◌, ◌-ℤ◌, ◌*ℤ◌, *ℤ-zero}
use lib.ListN.{length}
use lib.Signed.{◌≤ℤ◌, ≤ℤ_refl}
use Rattle.integers.proofs.Diff.{diff₂, diffs}
use Rattle.integers.proofs.Order.{pos_mono, pos_nonneg, *ℤ_monoˡ, *ℤ_cancelˡ, *ℤ_nonneg}
use Rattle.integers.proofs.Solver.{quote, atoms, ring}
use Rattle.wire.specs.Number.{Bytes}
use Rattle.wire.specs.Part.{Reading, refused, accepted}
use Rattle.wire.specs.Rows.{Progress}
use Rattle.wire.proofs.Part.{NumberedReading, by_itself_numbered}
use Rattle.wire.specs.Outcome.{accepts}
use Rattle.wire.proofs.Outcome.{accepts_one}
use Rattle.forms.specs.Table.{table_numbers}
use Rattle.forms.proofs.Homogenized.{homogenized_value, homogenized_expanded}
use Rattle.register.specs.declared.Register.{Register}
use Rattle.register.specs.Register.{coefficient}
use Rattle.register.specs.Answer.{register_answer}
use Rattle.register.proofs.Accept as R
use Rattle.plan.specs.Chosen.{chosen}
use Rattle.scheme.specs.declared.Scheme.{Scheme}
use Rattle.scheme.proofs.Opened.{Opened, opens, register_bytes, scheme_bytes, answer_opened}
use Rattle.certificate.specs.Certificate.{Certificate}
use Rattle.residual.specs.Relaxed.{Relaxed}
use Rattle.bound.specs.Format.{certificate_by_itself}
use Rattle.bound.specs.Bound.{bound}
use Rattle.bound.specs.Opening.{open_plan}
use Rattle.bound.specs.Check.{check_answer}
use Rattle.bound.specs.Relaxation.{BoundsRelaxed}
use Rattle.bound.proofs.Accept.{whole_valid, whole_encodes, encoding_accepted}
use Rattle.bound.proofs.Opening.{Chosen}
use Rattle.bound.proofs.Answers.{after_certificate, parts_accepted, job_numbered, checked}
use Rattle.bound.proofs.Bound.{bounds_relaxed, plan_bounded}
use Rattle.job.specs.declared.Tally.{Tally}
use Rattle.job.specs.Outcome.{coefficients}
use Rattle.soundness.specs.Calls.{CheckCall, JobCall, check_call, job_call}
use Rattle.soundness.specs.Parts.{Part3, Choosing}
use Rattle.soundness.specs.Demand3.{register_of, chosen_by, scheme_of, Accepted, Plan, cost_with, FitsPlan}
use Rattle.soundness.specs.Relaxation.{ProvesRelaxed, CheckedRelaxed, JobRelaxed, Expanded, Relaxation, RelaxationLaws}
use Rattle.soundness.proofs.Choosing.{opened_parts, choosing_of, chosen_of, chosen_low}
use Rattle.soundness.proofs.Jobs.{accepted_job, accepted_numbers}

-- ---- an answer of no refusal comes from a certificate that is accepted

pub record Reads (c : ℕ → ℤ) (reg : Register) (sch : Scheme) (s : List ℕ) : Type 0 where
  pub read : Progress Certificate
  pub end : ℕ
  pub reads : certificate_by_itself c reg sch s ≡ accepted read end

module _ (t s q : List ℕ) (reg : Register) (sch : Scheme) (plan : ℕ) (o : Chosen t s q reg sch plan) (lent : List ℤ) (l : table_numbers ≤ length lent) (k : List ℕ) where
  answer_is : check_answer t s k q lent ≡ after_certificate (certificate_by_itself (chosen reg plan) reg sch k)
  answer_is = sym (parts_accepted t s k q lent l reg sch plan o).answers

  pub reads_accepted : (check_answer t s k q lent).number ≡ 0 → Reads (chosen reg plan) reg sch k
  unfolding certificate_by_itself
  reads_accepted z =
      go (certificate_by_itself (chosen reg plan) reg sch k) refl (by_itself_numbered k _ (job_numbered (chosen reg plan) reg sch k)) (ap (λ a. a.number) (sym answer_is) ∙ z)
    where
      go : (x : Reading (Progress Certificate)) → certificate_by_itself (chosen reg plan) reg sch k ≡ x → NumberedReading x → (after_certificate x).number ≡ 0 → Reads (chosen reg plan) reg sch k
      go (refused n at) e d z = absurd (d z)
      go (accepted p end) e d z = record { read = p; end = end; reads = e }

  -- and its bound is that of the certificate
  pub bound_read : (p : Progress Certificate) (end : ℕ) → certificate_by_itself (chosen reg plan) reg sch k ≡ accepted p end → ((check_answer t s k q lent).number ≡ 0) × ((check_answer t s k q lent).bound ≡ bound p.parsed)
  bound_read p end e = let a = answer_is ∙ ap after_certificate e in (ap (λ a. a.number) a, ap (λ a. a.bound) a)

-- what was read is part 3 of these bytes
pub read_part_3 : (c : ℕ → ℤ) (reg : Register) (sch : Scheme) (k : List ℕ) (r : Reads c reg sch k) → Bytes k → Part3 c reg sch k r.read.parsed
read_part_3 c reg sch k r b = record { conditions = whole_valid reg sch c k r.read r.end r.reads; bytes = whole_encodes reg sch c k r.read r.end r.reads b }

one_read : {A : Type 0} {p q : Progress A} {end end' : ℕ} → accepted p end ≡ accepted q end' → p.parsed ≡ q.parsed
one_read e = cc

-- ---- parts 1 to 3, with any coefficients

module _ (t s k : List ℕ) (o : Opened t s (register_of t) (scheme_of t s)) (c : Register → ℕ → ℤ) (r : Reads (c (register_of t)) (register_of t) (scheme_of t s) k) (b : ℤ) (is : b ≡ bound r.read.parsed) where
  proves : ProvesRelaxed c t s k b
  proves = record {
    cert = r.read.parsed;
    part_3 = read_part_3 _ _ _ k r;
    no_other = λ reg sch cert p₁ p₂ p₃.
        let same : ◌≡◌ {A = Register × Scheme} (reg, sch) (register_of t, scheme_of t s) = accepts_one (sym (opens (opened_parts t s reg sch p₁ p₂)) ∙ opens o) in
        let read = encoding_accepted reg p₁.conditions sch p₂.conditions (c reg) cert k p₃.conditions p₃.bytes in
        (ap (λ x. x.0) same, ap (λ x. x.1) same, one_read (sym read ∙ ap (λ x. certificate_by_itself (c x.0) x.0 x.1 k) same ∙ r.reads));
    bounds = rw is (bounds_relaxed (c (register_of t)) (register_of t) (scheme_of t s) r.read.parsed o.scheme_valid (whole_valid _ _ _ k r.read r.end r.reads));
  }

-- ---- parts 1 to 3, and the plan that chooses the coefficients

module _ (t s k q : List ℕ) (lent : List ℤ) (e : (check_call t s k q lent).0.number ≡ 0) where
  parts_1_and_2 : Accepted t s
  parts_1_and_2 = let c = checked t s k q lent e in rw (opens c.opens.parts) refl

  -- the register and the scheme that are read are those that their readers answer
  opened_as : Chosen t s q (register_of t) (scheme_of t s) (checked t s k q lent e).plan
  opened_as =
      let c = checked t s k q lent e in
      let o = answer_opened t s parts_1_and_2 in
      let same : ◌≡◌ {A = Register × Scheme} (c.reg, c.sch) (register_of t, scheme_of t s) = accepts_one (sym (opens c.opens.parts) ∙ opens o) in
      record { parts = o; opens_plan = subst (λ r. open_plan r q ≡ accepts c.plan) (ap (λ x. x.0) same) c.opens.opens_plan }

  checked_relaxed : CheckedRelaxed t s k q (check_call t s k q lent).0.bound
  checked_relaxed =
      let c = checked t s k q lent e in
      let o = opened_as in
      let reg = register_of t in
      let r = reads_accepted t s q _ _ _ o lent c.long k e in
      let is = (bound_read t s q _ _ _ o lent c.long k r.read r.end r.reads).1 in
      record {
        accepted = parts_1_and_2;
        fed = c.plan;
        part_1 = λ b. record { conditions = o.parts.register_valid; bytes = register_bytes t s (register_of t) (scheme_of t s) o.parts b };
        part_2 = λ b. record { conditions = o.parts.scheme_valid; bytes = scheme_bytes t s (register_of t) (scheme_of t s) o.parts b };
        choosing = choosing_of o;
        no_other_plan = λ other p p₁ p₄.
            let same : other ≡ reg = ap (λ x. (register_answer x).register) (sym (R.encoding_accepted t other p₁.conditions p₁.bytes)) in
            accepts_one (sym (chosen_of o.parts (subst (λ r. Choosing r q p) same p₄)).opens_plan ∙ o.opens_plan);
        proves = proves t s k o.parts (λ reg. chosen reg c.plan) r _ is;
        known = λ none.
            let low_reads : certificate_by_itself (coefficient reg) reg (scheme_of t s) k ≡ accepted r.read r.end =
            ap (λ c. certificate_by_itself c reg (scheme_of t s) k) (sym (chosen_low reg o.parts.register_valid none c.plan)) ∙ r.reads in
            proves t s k o.parts coefficient (record { read = r.read; end = r.end; reads = low_reads }) _ is;
      }

-- ---- a job

job_relaxed : (job : List ℕ) (table : List ℤ) (supplier : ℕ) (tally : Tally) (e : (job_call job table supplier tally).0.number ≡ 0) → JobRelaxed job (job_call job table supplier tally).0.bound
job_relaxed job table supplier tally e =
    let j = accepted_job job table supplier tally e in
    let p = j.parts in
    let bounds : BoundsRelaxed (coefficients p) p.register p.scheme p.certificate (job_call job table supplier tally).0.bound =
    subst (BoundsRelaxed (coefficients p) p.register p.scheme p.certificate) (accepted_numbers job table supplier tally e).0
    (bounds_relaxed (coefficients p) p.register p.scheme p.certificate j.conditions.scheme j.conditions.certificate) in
    record {
      parts = p;
      conditions = j.conditions;
      bytes = j.bytes;
      no_other = j.no_other;
      bounds = bounds;
      bounds_known = λ none. subst (λ c. BoundsRelaxed c p.register p.scheme p.certificate (job_call job table supplier tally).0.bound) (chosen_low p.register j.conditions.register none p.plan) bounds;
    }

-- ---- expanded fractions

module _ (n : ℕ) (s : Scheme) (D : ℕ) (y : ℕ → ℤ) (e : ℕ) (l : 1 ≤ e) where
  abbrev expanded_y : ℕ → ℤ
  expanded_y i = pos e *ℤ y i

  up : (a b : ℤ) → a ≤ℤ b → (pos e *ℤ a) ≤ℤ (pos e *ℤ b)
  up a b = *ℤ_monoˡ (pos e) a b (pos_nonneg e)

  down : (a b : ℤ) → (pos e *ℤ a) ≤ℤ (pos e *ℤ b) → a ≤ℤ b
  down a b = *ℤ_cancelˡ e a b l

  together : (a b : ℤ) → pos e *ℤ a +ℤ pos e *ℤ b -ℤ pos (e * D) ≡ pos e *ℤ (a +ℤ b -ℤ pos D)
  together a b = go (pos e) (pos D) a b
    where
      go : (e d a b : ℤ) → e *ℤ a +ℤ e *ℤ b -ℤ e *ℤ d ≡ e *ℤ (a +ℤ b -ℤ d)
      go e d a b = atoms (e ∷ d ∷ a ∷ b ∷ []) λ ρ e d a b. simp (e, d, a, b, quote) (ring _ _ _ tt)

  some_denominator : (d : ℕ) → 1 ≤ e * d → 1 ≤ d
  some_denominator zero h = absurd (omega (arith, h))
  some_denominator (suc d) h = omega arith

  to : Relaxed n s D y → Relaxed n s (e * D) expanded_y
  to r = record {
    positive = mul-le-mul l r.positive;
    low = λ i h. *ℤ_nonneg (pos e) (y i) (pos_nonneg e) (r.low i h);
    high = λ i h. up (y i) (pos D) (r.high i h);
    below_left = λ k a b. up _ _ (r.below_left k a b);
    below_right = λ k a b. up _ _ (r.below_right k a b);
    above = λ k a b. rw together (up _ _ (r.above k a b));
  }

  from : Relaxed n s (e * D) expanded_y → Relaxed n s D y
  from r = record {
    positive = some_denominator D r.positive;
    low = λ i h. down (pos 0) (y i) (rw (*ℤ-zero (pos e)) (r.low i h));
    high = λ i h. down (y i) (pos D) (r.high i h);
    below_left = λ k a b. down _ _ (r.below_left k a b);
    below_right = λ k a b. down _ _ (r.below_right k a b);
    above = λ k a b. down _ _ (rw together at (r.above k a b));
  }

  expanded : Expanded n s D y e
  expanded = record { point = (to, from); values = λ f. homogenized_expanded f D y e }

-- ---- one fraction for every variable

equal : (n : ℕ) (s : Scheme) (D a : ℕ) → 1 ≤ D → a ≤ D → Relaxed n s D (λ i. pos a)
equal n s D a l m = record {
  positive = l;
  low = λ i h. pos_nonneg a;
  high = λ i h. pos_mono a D m;
  below_left = λ k b c. ≤ℤ_refl (pos a);
  below_right = λ k b c. ≤ℤ_refl (pos a);
  above = λ k b c. twice (pos a) (pos D) (pos_mono a D m);
}
  where
    twice : (a d : ℤ) → a ≤ℤ d → (a +ℤ a -ℤ d) ≤ℤ a
    twice = diff₂ _ λ p q r s. simp diffs (omega arith)

-- ---- the promises

pub relaxation : Relaxation check_call job_call
relaxation = record { of_check = checked_relaxed; of_job = job_relaxed }

pub relaxation_laws : RelaxationLaws
relaxation_laws = record { as_value = homogenized_value; expanded = expanded; equal = equal; plans = plan_bounded }

-- ---- so no plan that fits costs less than the bound, of any check call of which this holds, with the coefficients of its plan

pub plans_bounded : (check : CheckCall) (job : JobCall) (h : Relaxation check job) →
    (register scheme certificate plan : List ℕ) (table : List ℤ) (e : (check register scheme certificate plan table).0.number ≡ 0) →
    (other : Plan register) → FitsPlan register other →
    (check register scheme certificate plan table).0.bound ≤ℤ cost_with (chosen_by register (h.of_check register scheme certificate plan table e).fed) register other
plans_bounded check job h register scheme certificate plan table e other fits =
    let k = h.of_check register scheme certificate plan table e in
    relaxation_laws.plans (chosen_by register k.fed) (register_of register) (scheme_of register scheme) k.proves.cert _ k.proves.bounds other.fed fits

-- and this plan, of our check, is the one that chooses
pub checked_chooses : (register scheme certificate plan : List ℕ) (table : List ℤ) (e : (check_call register scheme certificate plan table).0.number ≡ 0) →
    (fed : ℕ) → Chosen register scheme plan (register_of register) (scheme_of register scheme) fed → (relaxation.of_check register scheme certificate plan table e).fed ≡ fed
unfolding relaxation checked_relaxed
checked_chooses register scheme certificate plan table e fed o = accepts_one (sym (opened_as register scheme certificate plan table e).opens_plan ∙ o.opens_plan)
