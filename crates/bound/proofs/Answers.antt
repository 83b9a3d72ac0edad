-- What the check answers and what its table then holds: the certificate by itself, then the call, from what their callees answer.
use Prim.Native.Nat.{ℕ, ◌-◌, ◌≤◌, ◌<◌}
use mathlib.Core.Path.{◌≡◌, refl, sym, ◌∙◌, ap}
use mathlib.Core.Bool.{Bool, true, false, cond}
use mathlib.Core.List.{List}
use native.Mathlib.Omega.{arith}
use native.Mathlib.Decide.{dec_lt}
use lib.Dec.{ltb}
use lib.IntN.{ℤ}
use lib.ListN.{length}
use borrow.Author.Tests.{lt-ltb, le-ltb}
use Rattle.wire.specs.Part.{Reading, refused, accepted, by_itself}
use Rattle.wire.specs.Rows.{Progress}
use Rattle.wire.specs.Outcome.{Outcome, refuses, accepts, given, and_then, answer_by, added_by}
use Rattle.wire.specs.Results.{whole_of}
use Rattle.wire.proofs.Part.{NumberedReading, read_part_numbered, by_itself_numbered}
use Rattle.wire.proofs.Outcome.{Numbered}
use Rattle.forms.specs.Table.{table_numbers}
use Rattle.register.specs.declared.Register.{Register}
use Rattle.register.specs.Register.{coefficient}
use Rattle.plan.specs.Chosen.{chosen, under}
use Rattle.scheme.specs.declared.Scheme.{Scheme}
use Rattle.bound.specs.declared.CheckAnswer.{CheckAnswer}
use Rattle.certificate.specs.Certificate.{Certificate}
use Rattle.bound.specs.Bound.{carries, bound}
use Rattle.certificate.specs.Format.{certificate_part, commands_in_job}
use Rattle.bound.specs.Format.{dominance_checked, certificate_in_job, certificate_by_itself}
use Rattle.bound.specs.Opening.{open_chosen, opened_under}
use Rattle.bound.specs.Check.{with_residual, refused_answer, accepted_answer, open_certificate, check_outcome, check_answer, check_table}
use Rattle.bound.proofs.Same.{certificate_under, residual_under}
use Rattle.bound.proofs.Opening.{Chosen, opens_chosen, chosen_opened, chosen_numbered, under_refused, under_accepted}

-- zeros and the bound
abbrev pub answered : ℤ → CheckAnswer
answered b = record { number = 0; part = 0; position = 0; bound = b }

-- what the call answers for part 3
abbrev pub after_certificate : Reading (Progress Certificate) → CheckAnswer
after_certificate x = answer_by refused_answer accepted_answer (given 3 x)

module _ (c : ℕ → ℤ) (reg : Register) (sch : Scheme) (s : List ℕ) where
  pub job_numbered : NumberedReading (certificate_in_job c reg sch s)
  unfolding certificate_in_job commands_in_job dominance_checked
  job_numbered = go (commands_in_job reg sch s) (read_part_numbered (certificate_part reg sch) s)
    where
      by : (p : Progress Certificate) (end : ℕ) (b : Bool) → NumberedReading (cond b (accepted p end) (refused 9 (end - 1)))
      by p end true = tt
      by p end false = λ e. omega arith

      go : (x : Reading (Progress Certificate)) → NumberedReading x → NumberedReading (dominance_checked c reg sch x)
      go (refused n at) d = d
      go (accepted p end) d = by p end (carries c reg sch p.parsed)

-- ---- the call

-- what it answers and what the table then holds
pub record Answered (t s k q : List ℕ) (lent : List ℤ) (a : CheckAnswer) (table : List ℤ) : Type 0 where
  pub answers : a ≡ check_answer t s k q lent
  pub holds : table ≡ check_table t s k q lent

-- a table below 4,225 numbers
pub short : (t s k q : List ℕ) (lent : List ℤ) → length lent < table_numbers → Answered t s k q lent (refused_answer 11 0 0) lent
unfolding check_answer check_table
short t s k q lent l = let e = lt-ltb (length lent) table_numbers l in record { answers = rw e; holds = rw e }

-- ---- by what the other parts lead to, where the table is long enough

module _ (t s k q : List ℕ) (lent : List ℤ) (l : table_numbers ≤ length lent) where
  pub part_refused : (n part at : ℕ) → open_chosen t s q ≡ refuses n part at → Answered t s k q lent (refused_answer n part at) lent
  unfolding check_answer check_table
  part_refused n part at e = let f = le-ltb (length lent) table_numbers l in record { answers = rw (f, e); holds = rw (f, e) }

  pub parts_accepted : (reg : Register) (sch : Scheme) (plan : ℕ) → Chosen t s q reg sch plan →
      Answered t s k q lent (after_certificate (certificate_by_itself (chosen reg plan) reg sch k)) (with_residual (chosen reg plan) reg sch (commands_in_job reg sch k) lent)
  unfolding check_answer check_table
  parts_accepted reg sch plan o = let f = le-ltb (length lent) table_numbers l in record { answers = rw (f, opens_chosen o); holds = rw (f, opens_chosen o) }

-- ---- by the outcome that the call answers

-- the bound of a certificate by itself
bound_whole : (k : List ℕ) (x : Reading (Progress Certificate)) → whole_of 3 (by_itself k (added_by bound x)) ≡ and_then (given 3 (by_itself k x)) λ cert. accepts (bound cert)
unfolding by_itself
bound_whole k (refused n at) = refl
bound_whole k (accepted p end) = by (ltb end (length k))
  where
    by : (past : Bool) → whole_of {A = ℤ} 3 (cond past (refused 12 end) (accepted (bound p.parsed) end)) ≡ and_then (given 3 (cond past (refused 12 end) (accepted p end))) λ cert. accepts (bound cert)
    by true = refl
    by false = refl

module _ (t s k q : List ℕ) (lent : List ℤ) where
  -- what the call answers
  pub answer_is : answer_by refused_answer answered (check_outcome t s k q lent) ≡ check_answer t s k q lent
  unfolding check_answer
  answer_is = by (ltb (length lent) table_numbers) (open_certificate t s k q)
    where
      by : (below : Bool) (x : Outcome Certificate) → answer_by refused_answer answered (cond below (refuses 11 0 0) (and_then x λ cert. accepts (bound cert))) ≡ cond below (refused_answer 11 0 0) (answer_by refused_answer accepted_answer x)
      by true x = refl
      by false (refuses n part at) = refl
      by false (accepts cert) = refl

  module _ (l : table_numbers ≤ length lent) where
    pub opening_refused : {n part at : ℕ} → refuses n part at ≡ opened_under t s q → (refuses n part at ≡ check_outcome t s k q lent) × (lent ≡ check_table t s k q lent)
    unfolding check_table
    opening_refused e = let f = le-ltb (length lent) table_numbers l in let g = under_refused t s q e in (rw (f, g), rw (f, g))

    -- with the register that the code makes for the plan

    made_accepted : (reg : Register) (sch : Scheme) (plan : ℕ) → Chosen t s q reg sch plan → let made = under reg plan in
        (whole_of 3 (by_itself k (added_by bound (certificate_in_job (coefficient made) made sch k))) ≡ check_outcome t s k q lent)
        × (with_residual (coefficient made) made sch (commands_in_job made sch k) lent ≡ check_table t s k q lent)
    unfolding check_table certificate_by_itself
    made_accepted reg sch plan o =
        let f = le-ltb (length lent) table_numbers l in
        let w = o.parts.register_valid.within in (
          ap (λ x. whole_of 3 (by_itself k (added_by bound x))) (certificate_under reg w sch plan k) ∙ rw (f, opens_chosen o) (bound_whole k (certificate_in_job (chosen reg plan) reg sch k)),
          residual_under reg w sch plan k lent ∙ rw (f, opens_chosen o),
        )

    pub opening_accepted : {made : Register} {sch : Scheme} → accepts (made, sch) ≡ opened_under t s q →
        (whole_of 3 (by_itself k (added_by bound (certificate_in_job (coefficient made) made sch k))) ≡ check_outcome t s k q lent)
        × (with_residual (coefficient made) made sch (commands_in_job made sch k) lent ≡ check_table t s k q lent)
    opening_accepted e =
        under_accepted t s q
        (λ made sch. (whole_of 3 (by_itself k (added_by bound (certificate_in_job (coefficient made) made sch k))) ≡ check_outcome t s k q lent)
        × (with_residual (coefficient made) made sch (commands_in_job made sch k) lent ≡ check_table t s k q lent))
        e made_accepted

-- ---- by what the call answers

-- an answer of no refusal: the table is long enough, and the parts are read
pub record Checked (t s k q : List ℕ) (lent : List ℤ) : Type 0 where
  pub reg : Register
  pub sch : Scheme
  pub plan : ℕ
  pub read : Progress Certificate
  pub end : ℕ
  pub long : table_numbers ≤ length lent
  pub opens : Chosen t s q reg sch plan
  pub reads : certificate_by_itself (chosen reg plan) reg sch k ≡ accepted read end
  pub answers : check_answer t s k q lent ≡ answered (bound read.parsed)

pub checked : (t s k q : List ℕ) (lent : List ℤ) → (check_answer t s k q lent).number ≡ 0 → Checked t s k q lent
unfolding certificate_by_itself
checked t s k q lent z = by (dec_lt (length lent) table_numbers)
  where
    third : (reg : Register) (sch : Scheme) (plan : ℕ) → Chosen t s q reg sch plan → table_numbers ≤ length lent → Checked t s k q lent
    third reg sch plan o l =
        go (certificate_by_itself (chosen reg plan) reg sch k) refl (by_itself_numbered k _ (job_numbered (chosen reg plan) reg sch k)) (sym (parts_accepted t s k q lent l reg sch plan o).answers)
      where
        go : (x : Reading (Progress Certificate)) → certificate_by_itself (chosen reg plan) reg sch k ≡ x → NumberedReading x → check_answer t s k q lent ≡ after_certificate x → Checked t s k q lent
        go (refused n at) e d a = absurd (d (sym (ap (λ r. r.number) a) ∙ z))
        go (accepted p end) e d a = record { reg = reg; sch = sch; plan = plan; read = p; end = end; long = l; opens = o; reads = e; answers = a }

    first : table_numbers ≤ length lent → (x : Outcome (Register × Scheme × ℕ)) → open_chosen t s q ≡ x → Numbered x → Checked t s k q lent
    first l (refuses n part at) e d = absurd (d (ap (λ r. r.number) (part_refused t s k q lent l n part at e).answers ∙ z))
    first l (accepts (reg, sch, plan)) e d = third reg sch plan (chosen_opened t s q reg sch plan e) l

    by : Dec (length lent < table_numbers) → Checked t s k q lent
    by (yes l) = let n : ◌≡◌ {A = ℕ} 11 0 = ap (λ r. r.number) (short t s k q lent l).answers ∙ z in absurd (omega arith)
    by (no l) = first (omega arith) (open_chosen t s q) refl (chosen_numbered t s q)
