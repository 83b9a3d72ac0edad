-- The factor of the weights: what is promised of it to those who run the penalty form, as predicates of any such calls. The weights of the
-- penalty form have the factor in them, so what `Demand3` says of the form holds for every factor.
use Rattle.std.specs.Prelude.{ℕ, ◌^◌, ◌+◌, ◌*◌, ◌<◌, ◌≤◌, ◌≡◌, ◌⊎◌, ◌↔◌, true, cond, eqb, leb, List, ◌∷◌, ◌++◌, ℤ, pos, nat_abs, ◌*ℤ◌, ◌<ℤ◌, length, get_or}
use Rattle.forms.specs.Table.{table_numbers, table_sum}
use Rattle.register.specs.declared.Register.{Register}
use Rattle.scheme.specs.declared.Scheme.{Scheme}
use Rattle.scheme.specs.declared.SchemeAnswer.{SchemeAnswer}
use Rattle.scheme.specs.Scheme.{side, with_factor}
use Rattle.scheme.specs.Filling.{Filling, factor}
use Rattle.scheme.specs.Function.{g}
use Rattle.scheme.specs.Valid as S
use Rattle.scheme.specs.Valid.{Factor}
use Rattle.scheme.specs.Encoding.{HeaderBytes, encode_factor, encode_body, SaysFactor, factor_in}
use Rattle.scheme.specs.Answer.{refused_answer}
use Rattle.penalty.specs.Limits.{max_h_entry, max_h_sum}
use Rattle.penalty.specs.Least.{LeastWhere}
use Rattle.penalty.specs.Weights.{uses, weight}
use Rattle.penalty.specs.TrueProducts.{TrueProducts}
use Rattle.job.specs.declared.Tally.{Tally}
use Rattle.job.specs.declared.JobAnswer.{JobAnswer}
use Rattle.job.specs.Tally.{suppliers}
use Rattle.job.specs.Outcome.{Parts}
use Rattle.job.specs.Valid as J
use Rattle.builder.specs.Builder.{built, build}
use Rattle.soundness.specs.Calls.{SchemeCall, PenaltyCall, CheckCall, PlainCall, BuildCall, JobCall, ListingCall, front}
use Rattle.soundness.specs.Parts.{Part1, Part2}
use Rattle.soundness.specs.MoreChoices.{job_refused, JobsAlike}
use Rattle.soundness.specs.Demand3.{register_of, scheme_of, low, cost, FitsPlan, FitsFilling, Accepted, value_read}

-- ---- which factor a scheme has

-- an accepted scheme has the factor that its bytes say, from 1 to 1,000, and 1 where they say none; a refusal has 0
pub record HasFactor (scheme : List ℕ) (answer : SchemeAnswer) : Type 0 where
  pub accepted : answer.number ≡ 0 → (answer.scheme.factor ≡ factor_in scheme) × Factor answer.scheme.factor
  pub refused : (answer.number ≡ 0 → ⊥) → answer.scheme.factor ≡ 0

-- what a `23` put before bytes that begin with none makes of their answer: the scheme with its factor, or the same refusal, whose position
-- is past these three bytes where it is in part 2
abbrev pub behind_factor : ℕ → SchemeAnswer → SchemeAnswer
behind_factor f answer =
    cond (eqb answer.number 0)
    (record answer { scheme = with_factor answer.scheme f })
    (record answer { position = cond (eqb answer.part 2) (3 + answer.position) answer.position })

-- at a position of a run of bytes stands a `23` behind a header, products and splits, all of them right, of which there is at least one
pub record Misplaced (reg : Register) (s : List ℕ) (at : ℕ) : Type 0 where
  pub before : Scheme
  pub within : S.Within reg before
  pub header : List ℕ
  pub header_is : HeaderBytes before header
  pub rest : List ℕ
  pub bytes : s ≡ header ++ encode_body reg.choices before ++ (0x23 ∷ rest)
  pub position : at ≡ length (header ++ encode_body reg.choices before)
  pub not_first : at ≡ 0 → ⊥

-- bytes that begin with another factor, or with a `23` that is cut
pub record Another (s : List ℕ) : Type 0 where
  pub f : ℕ
  pub small : f < 2 ^ 16
  pub other : Factor f → ⊥
  pub rest : List ℕ
  pub bytes : s ≡ encode_factor f ++ rest

pub record Cut (s : List ℕ) : Type 0 where
  pub rest : List ℕ
  pub bytes : s ≡ 0x23 ∷ rest
  pub short : length rest < 2

-- a number and a position with which a `23` is refused
abbrev pub FactorRefused : Register → List ℕ → (number at : ℕ) → Type 0
FactorRefused reg s number at =
    ((number ≡ 1) × Misplaced reg s at) ⊎ (((number ≡ 2) × (at ≡ 0) × Cut s) ⊎ ((number ≡ 4) × (at ≡ 0) × Another s))

pub record FactorsRead (scheme_call : SchemeCall) (build_call : BuildCall) (job_call : JobCall) : Type 0 where
  pub of_scheme : (register scheme : List ℕ) → HasFactor scheme (scheme_call register scheme)
  -- each factor may be put before bytes that say none
  pub each_factor : (register scheme : List ℕ) (f : ℕ) → Factor f → (SaysFactor scheme → ⊥) →
      scheme_call register (encode_factor f ++ scheme) ≡ behind_factor f (scheme_call register scheme)
  -- another factor is refused 4, a `23` that is cut 2, and one that does not stand first 1, each at its command
  pub refuses : (register scheme : List ℕ) (reg : Register) (number at : ℕ) → Part1 register reg → FactorRefused reg scheme number at →
      scheme_call register scheme ≡ refused_answer number 2 at
  pub refuses_in_job : (job : List ℕ) (table : List ℤ) (supplier : ℕ) (tally : Tally) (register rest : List ℕ) (reg : Register) (number at : ℕ) →
      supplier < suppliers → table_numbers ≤ length table → Part1 register reg → job ≡ register ++ rest → FactorRefused reg rest number at →
      (job_call job table supplier tally).0 ≡ job_refused number 2 (length register + at) supplier tally
  -- the builder writes none
  pub built_one : (reg : Register) (sch : Scheme) → build reg ≡ built sch → sch.factor ≡ 1
  pub builder_says_none : (register lent : List ℕ) → (build_call register lent).0.number ≡ 0 → SaysFactor (front (build_call register lent)) → ⊥

-- ---- the penalty form

-- of accepted parts 1 and 2, with any factor, and of the table that the call hands back
pub record AnyFactor (register scheme : List ℕ) (back : List ℤ) : Type 0 where
  -- a number is the least value over the fillings whose choices fit just where it is the least cost over the plans that fit
  pub least : (m : ℤ) → LeastWhere (FitsFilling register) (value_read register scheme back) m ↔ LeastWhere (FitsPlan register) (cost register) m
  -- with factor 2 or more every such filling that reaches the least value has each product of weight above 0 equal to the product of its
  -- operands
  pub true_products : 2 ≤ factor_in scheme → (m : ℤ) → LeastWhere (FitsFilling register) (value_read register scheme back) m →
      (z : Filling) → FitsFilling register z → value_read register scheme back z ≡ m → TrueProducts (low register) (register_of register) (scheme_of register scheme) z
  -- those are the products that a term uses whose low coefficient is not 0
  pub weighted : (k : ℕ) → let reg = register_of register in
      (pos 0 <ℤ weight (low register) reg (scheme_of register scheme) k)
      ↔ ((t : ℕ) × ((t < reg.terms) × ((uses reg.choices (scheme_of register scheme) k t ≡ true) × (low register t ≡ pos 0 → ⊥))))
  -- its numbers are at most 2.5 · 10¹³ in absolute value, and its sum at a filling, which is twice the value there, 1.1 · 10¹⁷
  pub entries : let n = side (register_of register).choices (scheme_of register scheme) in (k : ℕ) → k < n * n → nat_abs (get_or back k (pos 0)) ≤ max_h_entry
  pub sums : (z : Filling) → nat_abs (table_sum (side (register_of register).choices (scheme_of register scheme)) back (factor z)) ≤ max_h_sum

abbrev pub HeavierPenalties : PenaltyCall → Type 0
HeavierPenalties penalty_call =
    (register scheme : List ℕ) → Accepted register scheme → (table : List ℤ) → table_numbers ≤ length table → AnyFactor register scheme (penalty_call register scheme table).1

-- of no call in particular: the weights are multiplied by the factor, and g is not; and numbers of the table added up in any order stay
-- below 2⁶³
pub record FactorLaws : Type 0 where
  pub weights : (c : ℕ → ℤ) (reg : Register) (sch : Scheme) (f k : ℕ) → weight c reg (with_factor sch f) k ≡ pos f *ℤ weight c reg (with_factor sch 1) k
  pub g_without : (c : ℕ → ℤ) (reg : Register) (sch : Scheme) (f : ℕ) → g c reg (with_factor sch f) ≡ g c reg sch
  pub sum_of_entries : table_numbers * max_h_entry ≤ max_h_sum
  pub sum_below : max_h_sum < 2 ^ 63

-- ---- what does not depend on the factor, and whether it is said

-- two runs of bytes, as part 2, are answered alike by the check and by the call that writes our own certificate, which hand back the same
pub record CertificatesAlike (check_call : CheckCall) (plain_call : PlainCall) (register scheme other : List ℕ) : Type 0 where
  pub checks : (certificate plan : List ℕ) (table : List ℤ) → check_call register scheme certificate plan table ≡ check_call register other certificate plan table
  pub plains : (plan lent : List ℕ) → plain_call register scheme plan lent ≡ plain_call register other plan lent

-- and by the scheme call and the penalty call too
pub record SchemesAlike (scheme_call : SchemeCall) (penalty_call : PenaltyCall) (check_call : CheckCall) (plain_call : PlainCall) (register scheme other : List ℕ) : Type 0 where
  pub schemes : scheme_call register scheme ≡ scheme_call register other
  pub penalties : (table : List ℤ) → penalty_call register scheme table ≡ penalty_call register other table
  pub certificates : CertificatesAlike check_call plain_call register scheme other

-- the same answer and the same table, but for the position where it is in part 3 or 4
abbrev pub further : ℕ → JobAnswer × List ℤ → JobAnswer × List ℤ
further d (answer, table) = (record answer { position = cond (leb 3 answer.part) (answer.position + d) answer.position }, table)

pub record FactorUnseen (scheme_call : SchemeCall) (penalty_call : PenaltyCall) (check_call : CheckCall) (plain_call : PlainCall) (job_call : JobCall) (listing_call supplier_listing_call : ListingCall) : Type 0 where
  -- factor 1 may be said or not
  pub said_or_not : (register scheme other : List ℕ) (reg : Register) (sch : Scheme) → Part1 register reg → Part2 reg scheme sch → Part2 reg other sch →
      SchemesAlike scheme_call penalty_call check_call plain_call register scheme other
  -- the check and our own certificate do not see it
  pub other_factor : (register scheme other : List ℕ) (reg : Register) (sch : Scheme) (f : ℕ) → Part1 register reg → Part2 reg scheme sch → Part2 reg other (with_factor sch f) →
      CertificatesAlike check_call plain_call register scheme other
  -- nor do jobs and their lines
  pub of_job : (job other : List ℕ) (parts : Parts) (f : ℕ) → J.Valid parts → Factor f → J.Encodes parts job → J.Encodes (record parts { scheme = with_factor parts.scheme f }) other →
      JobsAlike job_call listing_call supplier_listing_call job other
  -- and whatever follows part 2, jobs are answered alike: what is refused behind part 2, as many bytes further on as part 2 is longer
  pub of_any_job : (register scheme other rest : List ℕ) (reg : Register) (sch : Scheme) (f d : ℕ) → Part1 register reg → Part2 reg scheme sch → Part2 reg other (with_factor sch f) → length other ≡ length scheme + d →
      (table : List ℤ) (supplier : ℕ) (tally : Tally) →
      job_call (register ++ (other ++ rest)) table supplier tally ≡ further d (job_call (register ++ (scheme ++ rest)) table supplier tally)
