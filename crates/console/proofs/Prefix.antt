-- What a program prints stands in the first bytes of its input.
use Prim.Native.Nat.{ℕ, ◌+◌, ◌-◌, ◌≤◌, ◌<◌}
use native.Mathlib.Omega.{arith}
use mathlib.Core.Path.{◌≡◌, refl, sym, ◌∙◌, ap, subst}
use mathlib.Core.Bool.{Bool, true, false, cond}
use mathlib.Core.List.{List, [], ◌++◌}
use lib.Dec.{ltb}
use lib.ListN.{length, take, drop, length-take}
use lib.Seq.{take_all, take-length, take-take, take-append_seam, drop-append_seam}
use Rattle.integers.proofs.Lists.{flag}
use Rattle.wire.specs.Part.{Reading, refused, accepted, total, by_itself}
use Rattle.wire.specs.Rows.{Progress}
use Rattle.wire.specs.Outcome.{Outcome, refuses, accepts, given, and_then, answer_by}
use Rattle.wire.proofs.Encoding.{by_itself_end}
use Rattle.wire.proofs.Outcome.{position_of}
use Rattle.wire.proofs.Prefix.{drop-take}
use Rattle.register.specs.declared.Register.{Register}
use Rattle.register.specs.Register.{has_range, coefficient}
use Rattle.register.specs.Valid.{Valid}
use Rattle.register.specs.Encoding.{Encodes}
use Rattle.register.specs.Format.{register_part, register_in_job, register_by_itself}
use Rattle.register.specs.Limits.{max_terms}
use Rattle.register.proofs.Accept.{register_accepted, encoding_accepted, whole_valid}
use Rattle.register.proofs.Prefix.{register_longest, register_reach, register_prefix, register_end}
use Rattle.scheme.specs.declared.Scheme.{Scheme}
use Rattle.scheme.specs.Valid as S
use Rattle.scheme.specs.Encoding as SE
use Rattle.scheme.specs.Format.{scheme_in_job, scheme_by_itself}
use Rattle.scheme.specs.Answer.{open_parts}
use Rattle.scheme.proofs.Accept.{scheme_accepted, encoding_accepted as scheme_encoded}
use Rattle.scheme.proofs.Prefix.{scheme_longest, scheme_reach, scheme_prefix, scheme_end}
use Rattle.plan.specs.Format.{plan_in_job, plan_by_itself}
use Rattle.plan.proofs.Prefix.{plan_longest, plan_prefix, plan_end}
use Rattle.bound.specs.Opening.{open_plan}
use Rattle.plain.specs.Answer.{own_bytes}
use Rattle.certificate.specs.Rules.{arity, by_key}
use Rattle.certificate.specs.Format.{command_size}
use Rattle.certificate.proofs.Prefix.{certificate_reach}
use Rattle.job.proofs.Positions.{part_within}
use Rattle.job.proofs.Prefix.{job_reach, past_prefix, outcome_prefix}
use Rattle.search.specs.Walk.{Best}
use Rattle.search.specs.Answer.{search, within_limit, refused_search, accepted_search, search_answer}
use Rattle.console.specs.Cheapest.{cheapest_lines}
use Rattle.console.specs.Parts.{built_scheme, own_certificate, scheme_end as end_of_scheme, counted_from, certificate_after}
use Rattle.console.specs.Programs.{Decided, Follows}

-- the bytes that can matter
pub reach_is : register_reach ≡ 4_339
unfolding register_reach total
reach_is = refl

-- no byte past them matters

-- to a part by itself that ends before them, where none matters to its reading
whole_prefix : {S : Type 0} (K : ℕ) (s : List ℕ) (read : List ℕ → Reading S) → read (take K s) ≡ read s → ((p : S) (end : ℕ) → read s ≡ accepted p end → end < K) →
    by_itself (take K s) (read (take K s)) ≡ by_itself s (read s)
unfolding by_itself
whole_prefix {S} K s read same ends = by (read s) refl
  where
    by : (x : Reading S) → read s ≡ x → by_itself (take K s) (read (take K s)) ≡ by_itself s (read s)
    by (refused n at) e = rw (same, e)
    by (accepted p end) e = rw (same, e, past_prefix K s end (ends p end e))

pub itself_prefix : (K : ℕ) (s : List ℕ) → register_reach ≤ K → register_by_itself (take K s) ≡ register_by_itself s
unfolding register_by_itself register_longest register_reach total
itself_prefix K s k = whole_prefix K s register_in_job (register_prefix K s k) λ p end e. omega (arith, register_end s e)

scheme_itself_prefix : (reg : Register) → reg.terms ≤ max_terms → (K : ℕ) (s : List ℕ) → scheme_reach ≤ K → scheme_by_itself reg (take K s) ≡ scheme_by_itself reg s
unfolding scheme_by_itself scheme_longest scheme_reach total
scheme_itself_prefix reg few K s k = whole_prefix K s (scheme_in_job reg) (scheme_prefix reg few K s k) λ p end e. omega (arith, scheme_end reg few s e)

pub lines_prefix : (K : ℕ) (s : List ℕ) (limit : ℕ) → register_reach ≤ K → cheapest_lines (take K s) limit ≡ cheapest_lines s limit
unfolding cheapest_lines search_answer
lines_prefix K s limit k = rw (itself_prefix K s k)

-- so a refusal's position is within them

itself_position : (s : List ℕ) → position_of (register_by_itself s) ≤ register_reach
unfolding register_by_itself register_in_job by_itself
itself_position s = by (register_in_job s) (subst (λ x. position_of x ≤ register_reach) (register_prefix register_reach s (omega arith)) first)
  where
    first : position_of (register_in_job (take register_reach s)) ≤ register_reach
    first = let few : length (take register_reach s) ≤ register_reach = simp length-take (omega arith) in omega (arith, part_within register_part (take register_reach s))

    past : (p : Progress Register) (end : ℕ) (b : Bool) → end ≤ register_reach → position_of {S = Progress Register} (cond b (refused 12 end) (accepted p end)) ≤ register_reach
    past p end true l = l
    past p end false l = l

    by : (x : Reading (Progress Register)) → position_of x ≤ register_reach → position_of (by_itself s x) ≤ register_reach
    by (refused n at) l = l
    by (accepted p end) l = past p end (ltb end (length s)) l

pub answer_position : (s : List ℕ) (limit : ℕ) → (search_answer s limit).position ≤ register_reach
unfolding search_answer
answer_position s limit = by (register_by_itself s) (itself_position s)
  where
    within : (w : Best) (b m : Bool) → (answer_by refused_search accepted_search (cond b (refuses 14 0 0) (cond m (accepts w) (refuses 16 0 0)))).position ≤ register_reach
    within w true m = omega arith
    within w false true = omega arith
    within w false false = omega arith

    by : (x : Reading (Progress Register)) → position_of x ≤ register_reach →
        (answer_by refused_search accepted_search (and_then (given 1 x) λ reg. within_limit limit (search (coefficient reg) reg))).position ≤ register_reach
    by (refused n at) l = l
    by (accepted p end) l = let w = search (coefficient p.parsed) p.parsed in within w (ltb limit w.visits) w.met

-- ---- of the programs that write a part

-- an accepted register has all its bytes, so there are none past the longest
accepted_short : (s : List ℕ) (p : Progress Register) (end : ℕ) → register_by_itself s ≡ accepted p end → length s ≤ register_longest
unfolding register_by_itself register_in_job
accepted_short s p end e = let (in_job, whole) = by_itself_end register_part s p end e in omega (arith, whole, register_end s in_job)

built_prefix : (K : ℕ) (s : List ℕ) → register_reach ≤ K → built_scheme (take K s) ≡ built_scheme s
unfolding register_longest register_reach total
built_prefix K s k = by (register_by_itself s) refl
  where
    by : (x : Reading (Progress Register)) → register_by_itself s ≡ x → built_scheme (take K s) ≡ built_scheme s
    by (refused n at) e = rw (itself_prefix K s k, e)
    by (accepted p end) e = rw (take_all K s (omega (arith, accepted_short s p end e)))

-- a plan that chooses coefficients: of a run of bytes by itself, where the register has a range
plan_opening_prefix : (reg : Register) (K : ℕ) (s : List ℕ) → plan_longest < K → open_plan reg (take K s) ≡ open_plan reg s
unfolding plan_by_itself
plan_opening_prefix reg K s k = rw (whole_prefix K s (plan_in_job reg) (plan_prefix reg K s (omega arith)) λ p end e. omega (arith, plan_end reg s e))

-- of each part by itself, by what parts 1 and 2 lead to

abbrev of_parts : Outcome (Register × Scheme) → (plan : List ℕ) → Outcome (List ℕ)
of_parts x plan = and_then (and_then x λ (reg, sch). and_then (open_plan reg plan) λ p. accepts (reg, sch, p)) λ (reg, sch, p). accepts (own_bytes reg sch p)

own_prefix : (t s k : List ℕ) (K : ℕ) → plan_longest < K → own_certificate t s (take K k) ≡ own_certificate t s k
own_prefix t s k K l = by (open_parts t s)
  where
    by : (x : Outcome (Register × Scheme)) → of_parts x (take K k) ≡ of_parts x k
    by (refuses n part at) = refl
    by (accepts (reg, sch)) = rw (plan_opening_prefix reg K k l)

-- ---- of part 1, and what stands behind it

abbrev with_rest : (two : ℕ) (t rest : List ℕ) → Outcome (List ℕ)
with_rest two t rest = let end = end_of_scheme t rest in counted_from two (two + end) (own_certificate t (take end rest) (drop end rest))

module _ (two : ℕ) (t rest : List ℕ) where
  -- part 1 is refused
  first_refused : (n at : ℕ) → register_by_itself t ≡ refused n at → with_rest two t rest ≡ refuses n 1 at
  first_refused n at e = rw e

  module _ (p : Progress Register) (end : ℕ) (e : register_by_itself t ≡ accepted p end) where
    abbrev reg : Register
    reg = p.parsed

    -- it has no range: all that stands behind it is part 2, and no plan is looked at
    known_rest : has_range reg ≡ false → (four : ℕ) (plan : List ℕ) → with_rest two t rest ≡ counted_from two four (own_certificate t rest plan)
    known_rest f four plan = rw (e, f, take-length rest) (by (scheme_by_itself reg rest))
      where
        parts : Reading (Progress Scheme) → Outcome (Register × Scheme)
        parts x = and_then (given 2 x) λ sch. accepts (reg, sch)

        by : (x : Reading (Progress Scheme)) → counted_from two (two + length rest) (of_parts (parts x) (drop (length rest) rest)) ≡ counted_from two four (of_parts (parts x) plan)
        by (refused n at) = refl
        by (accepted q end) = rw f

    module _ (r : has_range reg ≡ true) where
      -- it has one, and part 2 is refused
      second_refused : (n at : ℕ) → scheme_in_job reg rest ≡ refused n at → with_rest two t rest ≡ refuses n 2 (two + at)
      unfolding scheme_by_itself by_itself
      second_refused n at q = rw (e, r, q, take-length rest, q)

      -- or ends, and the plan stands behind it
      ranged_rest : (q : Progress Scheme) (end : ℕ) → scheme_in_job reg rest ≡ accepted q end → with_rest two t rest ≡ counted_from two (two + end) (own_certificate t (take end rest) (drop end rest))
      ranged_rest q end' x = rw (e, r, x)

rest_prefix : (two : ℕ) (t rest : List ℕ) (K : ℕ) → scheme_reach ≤ K → scheme_longest + plan_longest < K → with_rest two t (take K rest) ≡ with_rest two t rest
rest_prefix two t rest K k l = by (register_by_itself t) refl
  where
    of_scheme : (p : Progress Register) (end : ℕ) → register_by_itself t ≡ accepted p end → has_range p.parsed ≡ true →
        (x : Reading (Progress Scheme)) → scheme_in_job p.parsed rest ≡ x → scheme_in_job p.parsed (take K rest) ≡ x →
        with_rest two t (take K rest) ≡ with_rest two t rest
    of_scheme p end e r (refused n at) x y = second_refused two t (take K rest) p end e r n at y ∙ sym (second_refused two t rest p end e r n at x)
    of_scheme p end e r (accepted q end') x y =
        let m = scheme_end p.parsed (whole_valid t p end e).0.within.terms.few rest x in
        ranged_rest two t (take K rest) p end e r q end' y
        ∙ ap (counted_from two (two + end')) (rw (take-take end' K rest (omega arith), drop-take end' K rest) (own_prefix t (take end' rest) (drop end' rest) (K - end') (omega arith)))
        ∙ sym (ranged_rest two t rest p end e r q end' x)

    by : (x : Reading (Progress Register)) → register_by_itself t ≡ x → with_rest two t (take K rest) ≡ with_rest two t rest
    by (refused n at) e = first_refused two t (take K rest) n at e ∙ sym (first_refused two t rest n at e)
    by (accepted p end) e =
        let few = (whole_valid t p end e).0.within.terms.few in
        flag (has_range p.parsed)
        (λ r. of_scheme p end e r (scheme_in_job p.parsed rest) refl (scheme_prefix p.parsed few K rest k))
        (λ f. known_rest two t (take K rest) p end e f two [] ∙ rw (e, scheme_itself_prefix p.parsed few K rest k) refl ∙ sym (known_rest two t rest p end e f two []))

-- of all, where part 1 is refused or ends
module _ (s : List ℕ) where
  refused_after : (n at : ℕ) → register_in_job s ≡ refused n at → certificate_after s ≡ refuses n 1 at
  unfolding certificate_after register_by_itself by_itself
  refused_after n at e = rw (e, take-length s, e)

  accepted_after : (p : Progress Register) (end : ℕ) → register_in_job s ≡ accepted p end → certificate_after s ≡ with_rest end (take end s) (drop end s)
  unfolding certificate_after
  accepted_after p end e = rw e

certificate_prefix : (K : ℕ) (s : List ℕ) → register_longest + scheme_reach + plan_longest ≤ K → register_reach ≤ K → certificate_after (take K s) ≡ certificate_after s
unfolding scheme_reach scheme_longest total
certificate_prefix K s k r = by (register_in_job s) refl
  where
    by : (x : Reading (Progress Register)) → register_in_job s ≡ x → certificate_after (take K s) ≡ certificate_after s
    by (refused n at) e = refused_after (take K s) n at (register_prefix K s r ∙ e) ∙ sym (refused_after s n at e)
    by (accepted p end) e =
        let l = register_end s e in
        let same : with_rest end (take end (take K s)) (drop end (take K s)) ≡ with_rest end (take end s) (drop end s) =
        rw (take-take end K s (omega arith), drop-take end K s) (rest_prefix end (take end s) (drop end s) (K - end) (omega arith) (omega arith)) in
        accepted_after (take K s) p end (register_prefix K s r ∙ e) ∙ same ∙ sym (accepted_after s p end e)

-- ---- of all

pub decided : (K : ℕ) → job_reach ≤ K → Decided K
unfolding job_reach register_longest scheme_longest certificate_reach register_reach scheme_reach plan_longest command_size total arity by_key
decided K k = record {
  job = λ s. outcome_prefix K s k;
  cheapest = λ s limit. lines_prefix K s limit (omega arith);
  scheme = λ s. built_prefix K s (omega arith);
  certificate = λ s. certificate_prefix K s (omega arith) (omega arith);
}

-- ---- parts after each other

-- where part 1 is right, what stands behind it
first_right : (reg : Register) (register rest : List ℕ) → Valid reg → Encodes reg register → certificate_after (register ++ rest) ≡ with_rest (length register) register rest
unfolding certificate_after
first_right reg register rest v e = rw (register_accepted reg register rest v e, take-append_seam register rest, drop-append_seam register rest)

-- and part 2 too, of a register with a range
first_two_right : (reg : Register) (sch : Scheme) (register scheme plan : List ℕ) → Valid reg → Encodes reg register → has_range reg ≡ true → S.Valid reg sch → SE.Encodes reg sch scheme →
    certificate_after (register ++ (scheme ++ plan)) ≡ counted_from (length register) (length register + length scheme) (own_certificate register scheme plan)
first_two_right reg sch register scheme plan v e r w x =
    first_right reg register (scheme ++ plan) v e
    ∙ ranged_rest (length register) register (scheme ++ plan) _ _ (encoding_accepted register reg v e) r _ _ (scheme_accepted reg v sch scheme plan w x)
    ∙ rw (take-append_seam scheme plan, drop-append_seam scheme plan)

pub follows : Follows
follows = record {
  known = λ reg register scheme plan v e f.
      first_right reg register scheme v e ∙ known_rest (length register) register scheme _ _ (encoding_accepted register reg v e) f (length register + length scheme) plan;
  ranged = first_two_right;
  scheme_refused = λ reg register rest number at v e r q.
      first_right reg register rest v e ∙ second_refused (length register) register rest _ _ (encoding_accepted register reg v e) r number at q;
  plan_refused = λ reg sch register scheme plan number at v e r w x q.
      first_two_right reg sch register scheme plan v e r w x ∙ rw (encoding_accepted register reg v e, scheme_encoded reg v scheme sch w x, r, q);
}
