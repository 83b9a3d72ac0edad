-- A job that is refused has a number of at most the highest, and a position within the bytes that can matter.
use Prim.Native.Nat.{ℕ, ◌+◌, ◌-◌, ◌≤◌}
use native.Mathlib.Omega.{arith}
use mathlib.Core.Path.{subst}
use mathlib.Core.Bool.{Bool, true, false, cond, ◌&&◌}
use mathlib.Core.List.{List, [], ◌∷◌}
use lib.Dec.{T, eqb, ltb, leb, leb→le}
use lib.IntN.{ℤ}
use lib.ListN.{length, get_or, take, drop, length-drop}
use lib.Seq.{take_all, length-take-le}
use borrow.Author.Tests.{leb-true, leb-false}
use Rattle.integers.specs.Lists.{All}
use Rattle.integers.proofs.Lists.{T_and, cond_cases, flag, ◌▹◌}
use Rattle.wire.specs.Checks.{Check, refusal, command_checks}
use Rattle.wire.specs.Part.{Reading, refused, accepted, operands_at, checks_at, read_part}
use Rattle.wire.specs.Rows.{Progress, Row, row_of, part_of}
use Rattle.wire.specs.Outcome.{Outcome, refuses, accepts, next, and_then, starting_at, added_by}
use Rattle.wire.proofs.Part.{by_ways}
use Rattle.wire.proofs.Outcome.{number_of, position_of}
use Rattle.register.specs.declared.Register.{Register}
use Rattle.register.specs.Register as R
use Rattle.register.specs.Format.{base_checks, choice_checks, term_checks, window_checks, row_checks, range_checks, length_checks, register_rows, register_part, register_in_job}
use Rattle.register.specs.Format as RF
use Rattle.scheme.specs.declared.Scheme.{Scheme}
use Rattle.scheme.specs.Scheme as S
use Rattle.scheme.specs.Format.{product_checks, split_checks, scheme_rows, scheme_part, scheme_in_job}
use Rattle.scheme.specs.Format as SF
use Rattle.certificate.specs.Certificate as C
use Rattle.bound.specs.Bound.{carries}
use Rattle.certificate.specs.Format.{scale_checks, multiplier_checks, square_checks, certificate_rows, commands_in_job}
use Rattle.bound.specs.Format.{dominance_checked, certificate_in_job}
use Rattle.plan.specs.Format.{plan_checks, plan_rows, plan_part, plan_in_job}
use Rattle.job.specs.Outcome.{Parts, coefficients, of_register, JobPart, order, in_turn, last_of, ended, outcome}
use Rattle.job.proofs.Positions.{part_within, certificate_within}
use Rattle.job.proofs.Prefix.{job_reach, outcome_prefix}
use Rattle.job.proofs.Turn.{of_order, follow}

-- the highest number of a refusal
abbrev highest : ℕ
highest = 15

-- ---- the numbers of a part's checks

abbrev small : List Check → Bool
small [] = true
small (c ∷ cs) = leb c.number highest && small cs

refusal_small : (cs : List Check) → T (small cs) → refusal cs ≤ highest
unfolding refusal
refusal_small [] h = omega arith
refusal_small (c ∷ cs) h =
    let (l, k) = (T_and (leb c.number highest) (small cs)).0 h in
    cond_cases (λ n. n ≤ highest) c.fails c.number (refusal cs) (λ t. leb→le c.number highest l) (λ t. refusal_small cs k)

module _ {A : Type 0} where
  abbrev Small : Row A → Type 0
  Small row = (r : A) (xs : List ℕ) → T (small (row.checks r xs))

  row_of_small : (rows : List (Row A)) → All Small rows → (b : ℕ) → Small (row_of rows b)
  unfolding row_of
  row_of_small [] h b r xs = tt
  row_of_small (row ∷ rows) h b r xs =
      cond_cases (λ (x : Row A). T (small (x.checks r xs))) (eqb b row.byte) row (row_of rows b) (λ t. h.0 r xs) (λ t. row_of_small rows h.1 b r xs)

  part_small : (fresh : A) (rows : List (Row A)) → All Small rows → (s : List ℕ) → number_of (read_part (part_of fresh rows) s) ≤ highest
  unfolding read_part checks_at command_checks
  part_small fresh rows h s = let P = part_of fresh rows in by_ways P s (λ p at x. number_of x ≤ highest) (record {
    missing = λ p at l. omega arith;
    refuses = λ p at n l e d.
        let b = get_or s at 0 in
        rw e at (refusal_small (checks_at P s p at) (row_of_small rows h b p.parsed (operands_at (P.widths b) s (at + 1))));
    goes = λ p at x q l k. k;
    ends = λ p at q l. omega arith;
  }) P.start 0

register_small : (s : List ℕ) → number_of (register_in_job s) ≤ highest
unfolding register_in_job base_checks choice_checks term_checks window_checks row_checks range_checks length_checks RF.end_checks
register_small s = part_small R.fresh register_rows ((λ r xs. tt) ▹ (λ r xs. tt) ▹ (λ r xs. tt) ▹ (λ r xs. tt) ▹ (λ r xs. tt) ▹ (λ r xs. tt) ▹ (λ r xs. tt) ▹ (λ r xs. tt) ▹ (λ r xs. tt) ▹ tt) s

scheme_small : (reg : Register) (s : List ℕ) → number_of (scheme_in_job reg s) ≤ highest
unfolding scheme_in_job SF.factor_checks product_checks split_checks SF.end_checks
scheme_small reg s = part_small S.initial (scheme_rows reg) ((λ r xs. tt) ▹ (λ r xs. tt) ▹ (λ r xs. tt) ▹ (λ r xs. tt) ▹ tt) s

certificate_small : (c : ℕ → ℤ) (reg : Register) (sch : Scheme) (s : List ℕ) → number_of (certificate_in_job c reg sch s) ≤ highest
unfolding certificate_in_job commands_in_job dominance_checked scale_checks multiplier_checks square_checks
certificate_small c reg sch s = go (commands_in_job reg sch s) (part_small C.fresh (certificate_rows reg sch) each s)
  where
    each : All Small (certificate_rows reg sch)
    each =
        (λ r xs. tt) ▹ (λ r xs. tt) ▹ (λ r xs. tt) ▹ (λ r xs. tt) ▹ (λ r xs. tt) ▹ (λ r xs. tt) ▹ (λ r xs. tt) ▹ (λ r xs. tt) ▹ (λ r xs. tt) ▹ (λ r xs. tt) ▹ (λ r xs. tt) ▹ (λ r xs. tt) ▹ (λ r xs. tt) ▹ tt

    by : (p : Progress C.Certificate) (end : ℕ) (b : Bool) → number_of {S = Progress C.Certificate} (cond b (accepted p end) (refused 9 (end - 1))) ≤ highest
    by p end true = omega arith
    by p end false = omega arith

    go : (x : Reading (Progress C.Certificate)) → number_of x ≤ highest → number_of (dominance_checked c reg sch x) ≤ highest
    go (refused number at) l = l
    go (accepted p end) l = by p end (carries c reg sch p.parsed)

plan_small : (reg : Register) (s : List ℕ) → number_of (plan_in_job reg s) ≤ highest
unfolding plan_in_job plan_checks
plan_small reg s = part_small 0 (plan_rows reg) ((λ r xs. tt) ▹ (λ r xs. tt) ▹ tt) s

-- ---- the outcome

-- a refusal's number, and its position up to k
abbrev pub Ranged : {A : Type 0} → ℕ → Outcome A → Type 0
Ranged k (refuses number part at) = (number ≤ highest) × (at ≤ k)
Ranged k (accepts p) = Unit {0}

-- a part of a job, with any parts before it
abbrev InRange : JobPart → Type 0
InRange k = (p : Parts) (s : List ℕ) → (number_of (k.reads p s) ≤ highest) × (position_of (k.reads p s) ≤ length s)

added : {A B : Type 0} (add : A → B) (x : Reading (Progress A)) (n m : ℕ) → number_of x ≤ n → position_of x ≤ m → (number_of (added_by add x) ≤ n) × (position_of (added_by add x) ≤ m)
added add (refused number at) n m l h = (l, h)
added add (accepted p end) n m l h = (l, h)

each : (reg : Register) → All InRange (order reg)
unfolding scheme_in_job plan_in_job
each = of_order InRange
    (λ p s. added _ (scheme_in_job p.register s) highest (length s) (scheme_small p.register s) (part_within (scheme_part p.register) s))
    (λ p s. added _ (certificate_in_job (coefficients p) p.register p.scheme s) highest (length s) (certificate_small (coefficients p) p.register p.scheme s) (certificate_within (coefficients p) p.register p.scheme s))
    (λ p s. added _ (plan_in_job p.register s) highest (length s) (plan_small p.register s) (part_within (plan_part p.register) s))

module _ (s : List ℕ) where
  end_ranged : (last : ℕ) (p : Parts) (end : ℕ) → end ≤ length s → Ranged (length s) (ended last s (p, end))
  end_ranged last p end h = by (ltb end (length s))
    where
      by : (b : Bool) → Ranged {A = Parts} (length s) (cond b (refuses 12 last end) (accepts p))
      by true = (omega arith, h)
      by false = tt

  in_turn_lem : (last : ℕ) (ks : List JobPart) → All InRange ks → (p : Parts) (from : ℕ) → from ≤ length s → Ranged (length s) (follow s last ks p from)
  in_turn_lem last [] h p from l = end_ranged last p from l
  in_turn_lem last (k ∷ ks) h p from l = go (k.reads p (drop from s)) (h.0 p (drop from s)) (in_turn_lem last ks h.1)
    where
      go : (x : Reading Parts) → (number_of x ≤ highest) × (position_of x ≤ length (drop from s)) → ((q : Parts) (end : ℕ) → end ≤ length s → Ranged (length s) (follow s last ks q end)) →
          Ranged (length s) (and_then (next k.number (starting_at from x) (in_turn ks s)) (ended last s))
      go (refused number at) r more = (r.0, omega (arith, r.1, length-drop from s))
      go (accepted q end) r more = more q (from + end) (omega (arith, r.1, length-drop from s))

  within_bytes : Ranged (length s) (outcome s)
  unfolding outcome register_in_job
  within_bytes = go (register_in_job s) (register_small s) (part_within register_part s)
    where
      go : (x : Reading (Progress Register)) → number_of x ≤ highest → position_of x ≤ length s → Ranged (length s) (next 1 x (λ one end. let reg = one.parsed in follow s (last_of 1 (order reg)) (order reg) (of_register reg) end))
      go (refused number at) n l = (n, l)
      go (accepted one end) n l = let reg = one.parsed in in_turn_lem (last_of 1 (order reg)) (order reg) (each reg) (of_register reg) end l

-- no byte past them matters
pub outcome_ranged : (s : List ℕ) → Ranged job_reach (outcome s)
outcome_ranged s = subst (Ranged job_reach) (outcome_prefix job_reach s (omega arith)) (wider (outcome (take job_reach s)) (within_bytes (take job_reach s)))
  where
    few : length (take job_reach s) ≤ job_reach
    few =
        flag (leb (length s) job_reach)
        (λ t. let l = leb-true (length s) job_reach t in rw (take_all job_reach s l) l)
        (λ t. omega (arith, length-take-le job_reach s (omega (arith, leb-false (length s) job_reach t))))

    wider : (x : Outcome Parts) → Ranged (length (take job_reach s)) x → Ranged job_reach x
    wider (refuses number part at) h = (h.0, omega (arith, h.1, few))
    wider (accepts p) h = tt
