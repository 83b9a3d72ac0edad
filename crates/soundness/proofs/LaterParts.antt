-- A job whose part 2 says another factor, and is so many bytes longer, is answered alike, refusals of the parts behind it as much further on.
use Prim.Native.Nat.{ℕ, ◌+◌}
use native.Mathlib.Omega.{arith}
use mathlib.Core.Path.{◌≡◌, refl, sym, ◌∙◌, ap}
use mathlib.Core.Bool.{Bool, true, false, cond}
use mathlib.Core.List.{List, ◌++◌}
use lib.Dec.{ltb}
use lib.IntN.{ℤ}
use lib.ListN.{length, drop, length-append}
use lib.Seq.{drop-append_seam}
use borrow.Author.Tests.{le-leb}
use Rattle.wire.specs.Part.{accepted}
use Rattle.wire.specs.Outcome.{Outcome, refuses, accepts}
use Rattle.wire.proofs.Accepting.{reached}
use Rattle.wire.proofs.Encoding.{after_first}
use Rattle.forms.specs.Table.{table_numbers}
use Rattle.register.specs.declared.Register.{Register}
use Rattle.register.proofs.Accept.{register_accepted}
use Rattle.scheme.specs.declared.Scheme.{Scheme}
use Rattle.scheme.specs.Scheme.{with_factor}
use Rattle.scheme.specs.Format.{scheme_in_job}
use Rattle.scheme.proofs.Accept.{scheme_accepted}
use Rattle.job.specs.declared.Tally.{Tally}
use Rattle.job.specs.Outcome.{Parts, outcome}
use Rattle.job.specs.Tally.{suppliers}
use Rattle.job.specs.Answer.{refused_answer, after_job, job_answer, job_table}
use Rattle.job.proofs.Changed.{changed}
use Rattle.job.proofs.Moved.{moved}
use Rattle.job.proofs.OtherFactor.{Alike, Late, parts_with_factor, outcome_with_factor, table_with_factor, late_with_factor}
use Rattle.soundness.specs.Calls.{job_call}
use Rattle.soundness.specs.Parts.{Part1, Part2}
use Rattle.soundness.specs.HeavierPenalties.{further}

module _ (register scheme other rest : List ℕ) (reg : Register) (sch : Scheme) (f d : ℕ) (one : Part1 register reg) (two : Part2 reg scheme sch) (two' : Part2 reg other (with_factor sch f)) (longer : length other ≡ length scheme + d) where
  abbrev job : List ℕ → List ℕ
  job second = register ++ (second ++ rest)

  behind_one : (second : List ℕ) → drop (length register) (job second) ≡ second ++ rest
  behind_one second = drop-append_seam register (second ++ rest)

  scheme_reads : (second : List ℕ) (c : Scheme) → Part2 reg second c → scheme_in_job reg (drop (length register) (job second)) ≡ accepted (reached 0x2F c) (length second)
  scheme_reads second c q = ap (scheme_in_job reg) (behind_one second) ∙ scheme_accepted reg one.conditions c second rest q.conditions q.bytes

  behind_two : (second : List ℕ) → drop (length register + length second) (job second) ≡ rest
  behind_two second = after_first (job second) (length register) (length second) second rest refl (behind_one second)

  size : (second : List ℕ) → length (job second) ≡ length register + (length second + length rest)
  size second = length-append register (second ++ rest) ∙ ap (λ n. length register + n) (length-append second rest)

  alike : Alike (job scheme) (job other) f d
  alike = record {
    one = reached 0x1F reg;
    n₁ = length register;
    register = register_accepted reg register (scheme ++ rest) one.conditions one.bytes;
    register' = register_accepted reg register (other ++ rest) one.conditions one.bytes;
    two = reached 0x2F sch;
    two' = reached 0x2F (with_factor sch f);
    n₂ = length scheme;
    scheme = scheme_reads scheme sch two;
    scheme' = scheme_reads other (with_factor sch f) two' ∙ ap (accepted (reached 0x2F (with_factor sch f))) longer;
    factor = refl;
    long = omega (arith, longer, size scheme, size other);
    after =
        let there : length register + length other ≡ length register + length scheme + d = omega (arith, longer) in
        ap (λ n. drop n (job other)) (sym there) ∙ behind_two other ∙ sym (behind_two scheme);
  }

  module _ (lent : List ℤ) (supplier : ℕ) (tally : Tally) where
    -- with any table
    answers_further : (t : List ℤ) → (job_answer (job other) lent supplier tally, t) ≡ further d (job_answer (job scheme) lent supplier tally, t)
    unfolding job_answer
    answers_further t = rw (outcome_with_factor (job scheme) (job other) f d alike) (go (outcome (job scheme)) (late_with_factor (job scheme) (job other) f d alike) (ltb (length lent) table_numbers) (ltb supplier suppliers))
      where
        go : (x : Outcome Parts) → Late x → (short known : Bool) →
            (cond known (after_job (cond short (refuses 11 0 0) (moved (λ at. at + d) (changed (parts_with_factor f) x))) supplier tally) (refused_answer 17 0 0 tally), t)
            ≡ further d (cond known (after_job (cond short (refuses 11 0 0) x) supplier tally) (refused_answer 17 0 0 tally), t)
        go x l short false = refl
        go x l true true = refl
        go (refuses n part at) l false true = rw (le-leb 3 part l) refl
        go (accepts p) l false true = refl

    tables_alike : job_table (job other) lent supplier ≡ job_table (job scheme) lent supplier
    unfolding job_table
    tables_alike = rw (table_with_factor (job scheme) (job other) f d alike lent) refl

    pub later_parts : job_call (job other) lent supplier tally ≡ further d (job_call (job scheme) lent supplier tally)
    later_parts = answers_further (job_table (job other) lent supplier) ∙ ap (λ t. further d (job_answer (job scheme) lent supplier tally, t)) tables_alike
