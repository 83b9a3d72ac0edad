-- What the programs make that write a part of a job: the line of a refusal has room, and so has the part, and what a writing call
-- answers is made into either.
use Prim.Native.Nat.{ℕ, zero, suc, ◌+◌, ◌≤◌, ◌<◌}
use native.Mathlib.Omega.{arith}
use mathlib.Core.Path.{◌≡◌, refl}
use mathlib.Core.Bool.{Bool, true, false, cond}
use mathlib.Core.List.{List, [], ◌∷◌, ◌++◌}
use lib.Dec.{eqb, ltb}
use lib.ListN.{length, get_or, take, drop, length-take, length-drop}
use borrow.Author.Tests.{eq-eqb, ne_eqb, ltb-true, le-ltb}
use Rattle.integers.proofs.Lists.{flag}
use Rattle.wire.specs.Part.{Part, Reading, size, refused, accepted, by_itself}
use Rattle.wire.specs.Rows.{Progress, is_among}
use Rattle.wire.specs.Walk.{positions_from, position_of}
use Rattle.wire.specs.Outcome.{Outcome, refuses, accepts, given, and_then, answer_by}
use Rattle.wire.specs.declared.WriterAnswer.{WriterAnswer}
use Rattle.wire.specs.Writer.{refused_answer, written_answer, bytes_answer, with_front}
use Rattle.wire.proofs.Part.{NumberedReading, read_part_numbered, by_itself_numbered}
use Rattle.wire.proofs.Outcome as O
use Rattle.register.specs.declared.Register.{Register}
use Rattle.register.specs.Register.{has_range}
use Rattle.register.specs.Format.{register_part, register_in_job, register_by_itself}
use Rattle.register.specs.Encoding.{term_kind}
use Rattle.register.specs.Opening.{open_register}
use Rattle.register.specs.Position.{term_position}
use Rattle.register.proofs.Opened as R
use Rattle.scheme.specs.declared.Scheme.{Scheme}
use Rattle.scheme.specs.Encoding.{encode_scheme}
use Rattle.scheme.specs.Format.{scheme_part, scheme_in_job, scheme_by_itself}
use Rattle.scheme.specs.Answer.{open_parts}
use Rattle.plan.specs.Chosen.{chosen}
use Rattle.plan.specs.Format.{plan_part, plan_in_job, plan_by_itself}
use Rattle.bound.specs.Opening.{open_plan, open_chosen}
use Rattle.bound.proofs.Opening.{chosen_opened, chosen_numbered}
use Rattle.builder.specs.Builder.{Built, stopped, built, build}
use Rattle.builder.specs.Answer.{built_room, built_answer, built_buffer, build_answer, build_buffer}
use Rattle.builder.proofs.Validity.{build_size}
use Rattle.plain.specs.Answer.{own_bytes, plain_answer, plain_buffer}
use Rattle.plain.proofs.Encoded.{plain_bytes, room_is}
use Rattle.job.proofs.Positions.{part_within}
use Rattle.listing.specs.Listing.{refusal_line}
use Rattle.listing.specs.Answer.{listing_room}
use Rattle.console.specs.declared.parts.Made.{Made}
use Rattle.console.specs.Parts.{printed, made, built_bytes, built_scheme, own_certificate, end_in, register_end, scheme_end, counted_from, certificate_after, line_in, answer_from}

-- ---- where refusals stand, and how much is written

-- a position found by a walk is within the bytes
positions_within : {S : Type 0} (P : Part S) (bytes s : List ℕ) (k at i : ℕ) → get_or (positions_from P bytes s k at) i 0 ≤ length s
unfolding positions_from
positions_within P bytes s zero at i = omega arith
positions_within P bytes s (suc k) at i =
    let to = at + size P (get_or s at 0) in
    let rest = positions_within P bytes s k to in
    flag (ltb at (length s))
    (λ t. rw t (flag (is_among (get_or s at 0) bytes) (λ b. rw b (first (positions_from P bytes s k to) (ltb-true at (length s) t) rest i)) (λ b. rw b (rest i))))
    (λ f. rw f (omega arith))
  where
    first : (xs : List ℕ) → at < length s → ((i : ℕ) → get_or xs i 0 ≤ length s) → (i : ℕ) → get_or (at ∷ xs) i 0 ≤ length s
    first xs l h zero = omega arith
    first xs l h (suc i) = h i

-- what a program makes of its input: a refusal has a number and a position within so many bytes, and a part is no longer than a listing
abbrev pub Within : ℕ → Outcome (List ℕ) → Type 0
Within n (refuses number part at) = (number ≡ 0 → ⊥) × (at ≤ n)
Within n (accepts bytes) = length bytes ≤ listing_room

-- a part by itself, refused or not

module _ {S : Type 0} (s : List ℕ) where
  itself_within : (x : Reading S) → O.position_of x ≤ length s → O.position_of (by_itself s x) ≤ length s
  unfolding by_itself
  itself_within (refused n at) l = l
  itself_within (accepted p end) l = past (ltb end (length s))
    where
      past : (b : Bool) → O.position_of {S = S} (cond b (refused 12 end) (accepted p end)) ≤ length s
      past true = l
      past false = l

register_within : (s : List ℕ) → O.position_of (register_by_itself s) ≤ length s
unfolding register_by_itself register_in_job
register_within s = itself_within s (register_in_job s) (part_within register_part s)

register_numbered : (s : List ℕ) → NumberedReading (register_by_itself s)
unfolding register_by_itself register_in_job
register_numbered s = by_itself_numbered s (register_in_job s) (read_part_numbered register_part s)

scheme_within : (reg : Register) (s : List ℕ) → O.position_of (scheme_by_itself reg s) ≤ length s
unfolding scheme_by_itself scheme_in_job
scheme_within reg s = itself_within s (scheme_in_job reg s) (part_within (scheme_part reg) s)

plan_within : (reg : Register) (s : List ℕ) → O.position_of (plan_by_itself reg s) ≤ length s
unfolding plan_by_itself plan_in_job
plan_within reg s = itself_within s (plan_in_job reg s) (part_within (plan_part reg) s)

-- ---- the two programs

built_is : built_room ≡ 865
built_is = refl

term_within : (s : List ℕ) (t : ℕ) → term_position s t ≤ length s
unfolding term_position position_of
term_within s t = positions_within register_part term_kind.bytes s (length s) 0 t

pub built_within : (s : List ℕ) → Within (length s) (built_scheme s)
built_within s = by (register_by_itself s) refl (register_within s) (register_numbered s)
  where
    of_built : (r : Register) → accepts r ≡ open_register s → (b : Built) → build r ≡ b → Within (length s) (built_bytes s r b)
    of_built r e (stopped t) q = (λ z. omega arith, term_within s t)
    of_built r e (built sch) q = omega (arith, build_size r (R.opened_by s r e).valid sch q, built_is)

    by : (x : Reading (Progress Register)) → register_by_itself s ≡ x → O.position_of x ≤ length s → NumberedReading x →
        Within (length s) (and_then (given 1 x) λ reg. built_bytes s reg (build reg))
    by (refused n at) e l d = (d, l)
    by (accepted p end) e l d = of_built p.parsed (rw e) (build p.parsed) refl

-- a refusal of parts with these lengths stands within its own

abbrev Placed : {A : Type 0} → (ℕ → ℕ) → Outcome A → Type 0
Placed lengths (refuses number part at) = at ≤ lengths part
Placed lengths (accepts a) = Unit {0}

module _ {A : Type 0} (lengths : ℕ → ℕ) where
  then_placed : {B : Type 0} (x : Outcome A) (rest : A → Outcome B) → Placed lengths x → ((a : A) → Placed lengths (rest a)) → Placed lengths (and_then x rest)
  then_placed (refuses n part at) rest l h = l
  then_placed (accepts a) rest l h = h a

  given_placed : (part : ℕ) (x : Reading (Progress A)) → O.position_of x ≤ lengths part → Placed lengths (given part x)
  given_placed part (refused n at) l = l
  given_placed part (accepted p end) l = tt

-- of parts 1, 2 and 4, each by itself
module _ (t s k : List ℕ) where
  abbrev lengths : ℕ → ℕ
  lengths part = cond (eqb part 2) (length s) (cond (eqb part 4) (length k) (length t))

  plan_placed : (reg : Register) → Placed lengths (open_plan reg k)
  plan_placed reg = by (has_range reg)
    where
      by : (b : Bool) → Placed lengths (cond b (given 4 (plan_by_itself reg k)) (accepts 0))
      by true = given_placed lengths 4 (plan_by_itself reg k) (plan_within reg k)
      by false = tt

  chosen_placed : Placed lengths (open_chosen t s k)
  chosen_placed =
      then_placed lengths (open_parts t s) _ parts λ (reg, sch).
      then_placed lengths (open_plan reg k) _ (plan_placed reg) λ p.
      tt
    where
      parts : Placed lengths (open_parts t s)
      parts =
          then_placed lengths (open_register t) _ (given_placed lengths 1 (register_by_itself t) (register_within t)) λ reg.
          then_placed lengths (given 2 (scheme_by_itself reg s)) _ (given_placed lengths 2 (scheme_by_itself reg s) (scheme_within reg s)) λ sch.
          tt

  -- with positions from the start of part 1, by where parts 2 and 4 start
  own_within : (two four n : ℕ) → length t ≤ n → two + length s ≤ n → four + length k ≤ n → Within n (counted_from two four (own_certificate t s k))
  own_within two four n l m h = by (open_chosen t s k) refl (chosen_numbered t s k) chosen_placed
    where
      by : (x : Outcome (Register × Scheme × ℕ)) → open_chosen t s k ≡ x → O.Numbered x → Placed lengths x → Within n (counted_from two four (and_then x λ (reg, sch, p). accepts (own_bytes reg sch p)))
      by (refuses number part at) e d q =
          let near : cond (eqb part 2) (two + at) (cond (eqb part 4) (four + at) at) ≤ n =
          flag (eqb part 2) (λ u. let i : at ≤ length s = rw u at q in rw u (omega arith)) λ u.
          flag (eqb part 4) (λ v. let i : at ≤ length k = rw (u, v) at q in rw (u, v) (omega arith)) λ v.
          let i : at ≤ length t = rw (u, v) at q in rw (u, v) (omega arith)
          in (d, near)
      by (accepts (reg, sch, p)) e d q =
          let o = chosen_opened t s k reg sch p e in
          omega (arith, plain_bytes (chosen reg p) reg sch o.parts.scheme_valid, room_is)

-- where a part ends is within its bytes

module _ {A : Type 0} (s : List ℕ) where
  ends_within : (x : Reading A) → O.position_of x ≤ length s → end_in s x ≤ length s
  ends_within (refused n at) l = omega arith
  ends_within (accepted p end) l = l

pub end_within : (s : List ℕ) → register_end s ≤ length s
unfolding register_in_job
end_within s = ends_within s (register_in_job s) (part_within register_part s)

pub scheme_end_within : (t s : List ℕ) → scheme_end t s ≤ length s
unfolding scheme_in_job
scheme_end_within t s = by (open_register t)
  where
    of_register : (reg : Register) (b : Bool) → cond b (end_in s (scheme_in_job reg s)) (length s) ≤ length s
    of_register reg true = ends_within s (scheme_in_job reg s) (part_within (scheme_part reg) s)
    of_register reg false = omega arith

    by : (x : Outcome Register) → answer_by (λ number part at. length s) (λ reg. cond (has_range reg) (end_in s (scheme_in_job reg s)) (length s)) x ≤ length s
    by (refuses n part at) = omega arith
    by (accepts reg) = of_register reg (has_range reg)

pub after_within : (s : List ℕ) → Within (length s) (certificate_after s)
unfolding certificate_after
after_within s =
    let two = register_end s in
    let rest = drop two s in
    let end = scheme_end (take two s) rest in
    let l : length rest + two ≡ length s = omega (arith, end_within s, length-drop two s) in
    own_within (take two s) (take end rest) (drop end rest) two (two + end) (length s)
    (omega (arith, length-take two s)) (omega (arith, l, length-take end rest)) (omega (arith, l, scheme_end_within (take two s) rest, length-drop end rest))

-- ---- what the two calls answer, where the buffer has room

-- a part's bytes are written to the front, and a refusal changes nothing

abbrev pub answer_in : Outcome (List ℕ) → WriterAnswer
answer_in (refuses number part at) = refused_answer number part at
answer_in (accepts bytes) = written_answer (length bytes)

abbrev pub text_in : Outcome (List ℕ) → List ℕ → List ℕ
text_in (refuses number part at) text = text
text_in (accepts bytes) text = bytes ++ drop (length bytes) text

module _ (text : List ℕ) (room : listing_room ≤ length text) where
  fits : (bytes : List ℕ) → length bytes ≤ listing_room → (bytes_answer bytes text ≡ written_answer (length bytes)) × (with_front bytes text ≡ bytes ++ drop (length bytes) text)
  unfolding bytes_answer
  fits bytes l = let e = le-ltb (length text) (length bytes) (omega arith) in (rw e, rw e)

  pub build_is : (s : List ℕ) → (build_answer s text ≡ answer_in (built_scheme s)) × (build_buffer s text ≡ text_in (built_scheme s) text)
  build_is s = by (open_register s) (built_within s)
    where
      of_built : (r : Register) (b : Built) → Within (length s) (built_bytes s r b) →
          (built_answer s r text b ≡ answer_in (built_bytes s r b)) × (built_buffer r text b ≡ text_in (built_bytes s r b) text)
      of_built r (stopped t) w = (refl, refl)
      of_built r (built sch) w = fits (encode_scheme r.choices sch) w

      by : (x : Outcome Register) → Within (length s) (and_then x λ reg. built_bytes s reg (build reg)) →
          (answer_by refused_answer (λ reg. built_answer s reg text (build reg)) x ≡ answer_in (and_then x λ reg. built_bytes s reg (build reg)))
          × (answer_by (λ number part at. text) (λ reg. built_buffer reg text (build reg)) x ≡ text_in (and_then x λ reg. built_bytes s reg (build reg)) text)
      by (refuses number part at) w = (refl, refl)
      by (accepts reg) w = of_built reg (build reg) w

  pub own_is : (t s k : List ℕ) (two four n : ℕ) → Within n (counted_from two four (own_certificate t s k)) →
      (plain_answer t s k text ≡ answer_in (own_certificate t s k)) × (plain_buffer t s k text ≡ text_in (own_certificate t s k) text)
  unfolding plain_answer plain_buffer
  own_is t s k two four n = by (open_chosen t s k)
    where
      by : (x : Outcome (Register × Scheme × ℕ)) → Within n (counted_from two four (and_then x λ (reg, sch, p). accepts (own_bytes reg sch p))) →
          (answer_by refused_answer (λ (reg, sch, p). bytes_answer (own_bytes reg sch p) text) x ≡ answer_in (and_then x λ (reg, sch, p). accepts (own_bytes reg sch p)))
          × (answer_by (λ number part at. text) (λ (reg, sch, p). with_front (own_bytes reg sch p) text) x ≡ text_in (and_then x λ (reg, sch, p). accepts (own_bytes reg sch p)) text)
      by (refuses number part at) w = (refl, refl)
      by (accepts (reg, sch, p)) w = fits (own_bytes reg sch p) w

-- positions counted from the start of part 1, in the answer and in what it says

module _ (two four : ℕ) where
  pub counted_is : (x : Outcome (List ℕ)) → answer_from two four (answer_in x) ≡ answer_in (counted_from two four x)
  counted_is (refuses number part at) = refl
  counted_is (accepts bytes) = refl

  pub counted_text : (x : Outcome (List ℕ)) (text : List ℕ) → text_in x text ≡ text_in (counted_from two four x) text
  counted_text (refuses number part at) text = refl
  counted_text (accepts bytes) text = refl

  -- the position in the part itself is no higher
  pub counted_near : (n : ℕ) (x : Outcome (List ℕ)) → Within n (counted_from two four x) → (answer_in x).position ≤ n
  counted_near n (refuses number part at) w =
      flag (eqb part 2) (λ t. let (_, l) = rw t at w in omega arith) λ t.
      flag (eqb part 4) (λ u. let (_, l) = rw (t, u) at w in omega arith) λ u.
      let (_, l) = rw (t, u) at w in omega arith
  counted_near n (accepts bytes) w = omega arith

-- ---- what is made of the answer

module _ (n : ℕ) (x : Outcome (List ℕ)) (w : Within n x) where
  pub near : (answer_in x).position ≤ n
  near = by x w
    where
      by : (x : Outcome (List ℕ)) → Within n x → (answer_in x).position ≤ n
      by (refuses number part at) w = w.1
      by (accepts bytes) w = omega arith

  pub few : (answer_in x).count ≤ listing_room
  few = by x w
    where
      by : (x : Outcome (List ℕ)) → Within n x → (answer_in x).count ≤ listing_room
      by (refuses number part at) w = omega arith
      by (accepts bytes) w = w

  pub made_is : ◌≡◌ {A = Made} (record { count = cond (eqb (answer_in x).number 0) (answer_in x).count (length (line_in (answer_in x))); refused = cond (eqb (answer_in x).number 0) false true }) (made x)
  unfolding line_in
  made_is = by x w
    where
      by : (x : Outcome (List ℕ)) → Within n x → ◌≡◌ {A = Made} (record { count = cond (eqb (answer_in x).number 0) (answer_in x).count (length (line_in (answer_in x))); refused = cond (eqb (answer_in x).number 0) false true }) (made x)
      by (refuses number part at) w = rw (ne_eqb number 0 w.0)
      by (accepts bytes) w = refl

  pub text_is : (text : List ℕ) → line_in (answer_in x) ++ drop (length (line_in (answer_in x))) (text_in x text) ≡ printed x ++ drop (made x).count text
  unfolding line_in
  text_is text = by x w
    where
      by : (x : Outcome (List ℕ)) → Within n x → line_in (answer_in x) ++ drop (length (line_in (answer_in x))) (text_in x text) ≡ printed x ++ drop (made x).count text
      by (refuses number part at) w = rw (ne_eqb number 0 w.0)
      by (accepts bytes) w = refl

-- the line, by the answer's number

pub no_line : (a : WriterAnswer) → a.number ≡ 0 → line_in a ≡ []
unfolding line_in
no_line a z = rw (eq-eqb a.number 0 z)

pub the_line : (a : WriterAnswer) → (a.number ≡ 0 → ⊥) → line_in a ≡ refusal_line a.number a.position
unfolding line_in
the_line a z = rw (ne_eqb a.number 0 z)
