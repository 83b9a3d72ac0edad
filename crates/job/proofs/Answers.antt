-- What a job comes to by what reading its parts leads to: a part at a position that is refused, that gives a value and an end, and the
-- bytes past the last one.
use Prim.Native.Nat.{ℕ, ◌+◌, ◌-◌, ◌≤◌, ◌<◌}
use mathlib.Core.Path.{◌≡◌, refl, sym, ◌∙◌, ap}
use mathlib.Core.Bool.{Bool, true, false, cond}
use mathlib.Core.List.{List, ◌∷◌}
use native.Mathlib.Omega.{arith}
use lib.Dec.{ltb}
use lib.IntN.{ℤ, nat_abs}
use lib.ListN.{length, take, drop, length-drop}
use lib.Seq.{take-length}
use Rattle.std.proofs.Common.{Result, Ok, Err}
use Rattle.wire.specs.declared.refusals.Refused.{Refused}
use Rattle.wire.specs.declared.refusals.Read.{Read}
use Rattle.wire.specs.Part.{Reading, refused, accepted}
use Rattle.wire.specs.Rows.{Progress}
use Rattle.wire.specs.Outcome.{Outcome, refuses, accepts, next, and_then, starting_at, added_by}
use Rattle.wire.specs.Results.{reading_of}
use Rattle.wire.proofs.Outcome.{position_of, not_both}
use Rattle.register.specs.declared.Register.{Register}
use Rattle.register.specs.Register.{coefficient, has_range}
use Rattle.register.specs.Valid.{Within}
use Rattle.scheme.specs.declared.Scheme.{Scheme}
use Rattle.certificate.specs.Limits.{max_target}
use Rattle.certificate.specs.Certificate.{Certificate}
use Rattle.certificate.specs.Format.{commands_in_job}
use Rattle.bound.specs.Bound.{bound}
use Rattle.bound.specs.Check.{with_residual}
use Rattle.bound.specs.Format.{certificate_in_job}
use Rattle.bound.proofs.Accept.{valid_accepted}
use Rattle.bound.proofs.Bound.{bound_small}
use Rattle.bound.proofs.Same.{certificate_same, residual_same, certificate_under, residual_under}
use Rattle.plan.specs.Chosen.{chosen, under}
use Rattle.plan.specs.Format.{plan_part, plan_in_job}
use Rattle.plan.proofs.Coefficients.{chosen_known}
use Rattle.job.specs.declared.JobRead.{JobRead}
use Rattle.job.specs.Outcome.{Parts, coefficients, with_certificate, with_plan, JobPart, part_three, part_four, in_turn, ended, bound_of}
use Rattle.job.specs.Rest.{certificate_at, plan_at, end_of}
use Rattle.job.specs.Answer.{accepted_read, job_read}
use Rattle.job.proofs.Positions.{part_within, certificate_within}

-- what a reader says of the part `&s[from..]`, said of the rest of the list
pub of_rest : {A : Type 0} (s : List ℕ) (from : ℕ) (f : List ℕ → A) {a : A} → a ≡ f (take (length s - from) (drop from s)) → a ≡ f (drop from s)
of_rest s from f e = e ∙ ap f (rw (← length-drop from s) (take-length (drop from s)))

-- ---- where a part ends, or where it is refused

pub end_is_position : {A B : Type 0} (f : A → B) (x : Reading (Progress A)) (read : Result (Read B) Refused) → reading_of read ≡ added_by f x → end_of read ≡ position_of x
end_is_position f (refused n at) (Ok read) e = cc
end_is_position f (refused n at) (Err fault) e = cc
end_is_position f (accepted p end) (Ok read) e = cc
end_is_position f (accepted p end) (Err fault) e = cc

-- within the rest of a job, from the job's start
pub ends_within : (s : List ℕ) (from position : ℕ) → from ≤ length s → position ≤ length (drop from s) → from + position ≤ length s
ends_within s from position l h = omega (arith, length-drop from s)

-- so said of what its reader answers
pub reader_within : {A B : Type 0} (f : A → B) (s : List ℕ) (from : ℕ) (x : Reading (Progress A)) (read : Result (Read B) Refused) → reading_of read ≡ added_by f x → from ≤ length s → position_of x ≤ length (drop from s) →
    from + end_of read ≤ length s
reader_within f s from x read e l h = ends_within s from (end_of read) l (rw (end_is_position f x read e) h)

-- ---- a part at a position of a job, by what reading it there leads to

module _ {A B : Type 0} (f : A → B) (part from : ℕ) where
  abbrev pub at_position : Reading (Progress A) → Outcome (Read B)
  at_position x = next part (starting_at from (added_by f x)) λ value end. accepts (record { value = value; end = end })

  -- a value, and the position past it, from the job's start
  pub record Gives (x : Reading (Progress A)) (value : B) (end : ℕ) : Type 0 where
    pub progress : Progress A
    pub taken : ℕ
    pub reads : x ≡ accepted progress taken
    pub value_is : f progress.parsed ≡ value
    pub end_is : from + taken ≡ end

  pub gives : (x : Reading (Progress A)) (r : Read B) → accepts r ≡ at_position x → Gives x r.value r.end
  gives (refused n at) r q = absurd (not_both (sym q))
  gives (accepted p end) r q = record { progress = p; taken = end; reads = refl; value_is = cc; end_is = cc }

  -- it ends within the job
  pub given_within : (s : List ℕ) (x : Reading (Progress A)) {value : B} {end : ℕ} → Gives x value end → from ≤ length s → position_of x ≤ length (drop from s) → end ≤ length s
  given_within s x g l h = rw (← g.end_is) (ends_within s from g.taken l (rw g.reads at h))

  -- with other parts after it

  pub refused_first : {n k at : ℕ} (x : Reading (Progress A)) → refuses n k at ≡ at_position x → {C D : Type 0} (add : A → C) (later : C → ℕ → Outcome D) →
      refuses n k at ≡ next part (starting_at from (added_by add x)) later
  refused_first (refused n at) q add later = cc
  refused_first (accepted p end) q add later = absurd (not_both q)

  pub given_first : (x : Reading (Progress A)) {value : B} {end : ℕ} (g : Gives x value end) → {C D : Type 0} (add : A → C) (later : C → ℕ → Outcome D) →
      later (add g.progress.parsed) end ≡ next part (starting_at from (added_by add x)) later
  given_first x g add later = rw g.reads (ap (later (add g.progress.parsed)) (sym g.end_is))

-- ---- parts 3 and 4, wherever they stand

module _ (s : List ℕ) (p : Parts) (from : ℕ) where
  -- what stands there, read as part 3 with the parts before it
  abbrev pub third : Reading (Progress Certificate)
  third = certificate_in_job (coefficients p) p.register p.scheme (drop from s)

  abbrev pub fourth : Reading (Progress ℕ)
  fourth = plan_in_job p.register (drop from s)

  pub certificate_refused : {n k at : ℕ} → refuses n k at ≡ certificate_at s p.register p.scheme (coefficients p) from → (ks : List JobPart) → refuses n k at ≡ in_turn (part_three ∷ ks) s p from
  certificate_refused q ks = refused_first bound 3 from third q (with_certificate p) (in_turn ks s)

  pub plan_refused : {n k at : ℕ} → refuses n k at ≡ plan_at s p.register from → (ks : List JobPart) → refuses n k at ≡ in_turn (part_four ∷ ks) s p from
  plan_refused q ks = refused_first (λ plan. plan) 4 from fourth q (with_plan p) (in_turn ks s)

  -- a certificate with its bound and its end
  pub record CertificateRead (b : ℤ) (end : ℕ) : Type 0 where
    pub certificate : Certificate
    pub bound_is : bound certificate ≡ b
    pub small : nat_abs b ≤ max_target
    pub inside : end ≤ length s
    pub leads : (ks : List JobPart) → in_turn ks s (with_certificate p certificate) end ≡ in_turn (part_three ∷ ks) s p from

  pub certificate_read : from ≤ length s → (r : Read ℤ) → accepts r ≡ certificate_at s p.register p.scheme (coefficients p) from → CertificateRead r.value r.end
  certificate_read l r q =
      let g = gives bound 3 from third r q in
      let v = (valid_accepted p.register p.scheme (coefficients p) (drop from s) _ _ g.reads).0.within in
      record {
        certificate = g.progress.parsed;
        bound_is = g.value_is;
        small = rw (← g.value_is) (bound_small g.progress.parsed v.scale_above v.target_within);
        inside = given_within bound 3 from s third g l (certificate_within (coefficients p) p.register p.scheme (drop from s));
        leads = λ ks. given_first bound 3 from third g (with_certificate p) (in_turn ks s);
      }

  -- a plan with its end
  pub record PlanRead (plan end : ℕ) : Type 0 where
    pub inside : end ≤ length s
    pub leads : (ks : List JobPart) → in_turn ks s (with_plan p plan) end ≡ in_turn (part_four ∷ ks) s p from

  pub plan_read : from ≤ length s → (r : Read ℕ) → accepts r ≡ plan_at s p.register from → PlanRead r.value r.end
  unfolding plan_in_job
  plan_read l r q =
      let g = gives (λ plan. plan) 4 from fourth r q in
      record {
        inside = given_within (λ plan. plan) 4 from s fourth g l (part_within (plan_part p.register) (drop from s));
        leads = λ ks. rw (← g.value_is) (given_first (λ plan. plan) 4 from fourth g (with_plan p) (in_turn ks s));
      }

-- ---- the job's end, after the last part

-- what parts in turn lead to, and then the end
abbrev pub read_by : List ℕ → ℕ → Outcome (Parts × ℕ) → Outcome JobRead
read_by s last x = job_read (and_then x (ended last s))

module _ (s : List ℕ) (last end : ℕ) where
  abbrev pub end_at : Outcome ℕ
  end_at = cond (ltb end (length s)) (refuses 12 last end) (accepts end)

  pub past_end : {n k at : ℕ} → refuses n k at ≡ end_at → (p : Parts) → refuses n k at ≡ read_by s last (accepts (p, end))
  past_end {n} {k} {at} q p = by (ltb end (length s)) q
    where
      by : (b : Bool) → refuses n k at ≡ cond b (refuses 12 last end) (accepts end) → refuses n k at ≡ job_read (cond b (refuses 12 last end) (accepts p))
      by true q = cc
      by false q = absurd (not_both q)

  pub at_end : {at : ℕ} → accepts at ≡ end_at → (p : Parts) → accepts (accepted_read p.register p.plan (bound_of p)) ≡ read_by s last (accepts (p, end))
  at_end {at} q p = by (ltb end (length s)) q
    where
      by : (b : Bool) → accepts at ≡ cond b (refuses 12 last end) (accepts end) → accepts (accepted_read p.register p.plan (bound_of p)) ≡ job_read (cond b (refuses 12 last end) (accepts p))
      by true q = absurd (not_both (sym q))
      by false q = refl

-- ---- part 3 with the coefficients that the code has: those of its parts

module _ (s : List ℕ) (reg : Register) (w : Within reg) (sch : Scheme) (from : ℕ) where
  -- the table after it, by its coefficients
  abbrev pub table_at : (c : ℕ → ℤ) → List ℤ → List ℤ
  table_at c lent = with_residual c reg sch (commands_in_job reg sch (drop from s)) lent

  -- without a range they are the register's own
  module _ (none : has_range reg ≡ false) (plan : ℕ) where
    own : (t : ℕ) → t < reg.terms → coefficient reg t ≡ chosen reg plan t
    own t l = sym (chosen_known reg w plan none t)

    pub certificate_own : certificate_at s reg sch (coefficient reg) from ≡ certificate_at s reg sch (chosen reg plan) from
    certificate_own = ap (at_position bound 3 from) (certificate_same (coefficient reg) (chosen reg plan) reg sch own (drop from s))

    pub table_own : (lent : List ℤ) → table_at (coefficient reg) lent ≡ table_at (chosen reg plan) lent
    table_own lent = residual_same (coefficient reg) (chosen reg plan) reg sch own (commands_in_job reg sch (drop from s)) lent

  -- those of the quadratization that the code makes for a plan are the ones that the plan chooses
  module _ (plan : ℕ) (r : Register) (x : Scheme) (e : r ≡ under reg plan) (f : x ≡ sch) where
    pub certificate_chosen : certificate_at s r x (coefficient r) from ≡ certificate_at s reg sch (chosen reg plan) from
    certificate_chosen = rw (e, f) (ap (at_position bound 3 from) (certificate_under reg w sch plan (drop from s)))

    pub table_chosen : (lent : List ℤ) → with_residual (coefficient r) r x (commands_in_job r x (drop from s)) lent ≡ table_at (chosen reg plan) lent
    table_chosen lent = rw (e, f) (residual_under reg w sch plan (drop from s) lent)
