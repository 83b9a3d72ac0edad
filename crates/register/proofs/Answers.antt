-- The answer of the register by itself, from its outcome, and from what its reader answers.
use mathlib.Core.Path.{◌≡◌}
use mathlib.Core.List.{List}
use lib.ListN.{length}
use Prim.Native.Nat.{ℕ, ◌<◌, ◌≤◌}
use borrow.Author.Tests.{lt-ltb, le-ltb}
use Rattle.std.proofs.Common.{Result, Ok, Err}
use Rattle.wire.specs.declared.refusals.Fault.{Fault}
use Rattle.wire.specs.Outcome.{given, added_by}
use Rattle.wire.specs.Part.{Reading, refused, accepted, by_itself}
use Rattle.wire.specs.Rows.{Progress}
use Rattle.wire.specs.Results.{number_of, outcome_of}
use Rattle.wire.proofs.Results.{accepted_added, refused_added}
use Rattle.register.specs.declared.Register.{Register}
use Rattle.register.specs.declared.RegisterAnswer.{RegisterAnswer}
use Rattle.register.specs.Register.{fresh}
use Rattle.register.specs.Format.{register_in_job, register_by_itself}
use Rattle.register.specs.Opening.{open_register}
use Rattle.register.specs.Answer.{refused_answer, register_answer}

-- what a call answers, by what the register's outcome is
abbrev pub answer_of : Result Register Fault → RegisterAnswer
answer_of (Ok r) = record { number = 0; part = 0; position = 0; register = r }
answer_of (Err fault) = record { number = number_of fault.refusal; part = fault.part; position = fault.position; register = fresh }

pub answers : (s : List ℕ) (result : Result Register Fault) → outcome_of result ≡ open_register s → answer_of result ≡ register_answer (register_by_itself s)
answers s result e = by (register_by_itself s) result e
  where
    by : (x : Reading (Progress Register)) (result : Result Register Fault) → outcome_of result ≡ given 1 x → answer_of result ≡ register_answer x
    by (refused n at) (Ok r) q = cc
    by (refused n at) (Err fault) q =
        let a : number_of fault.refusal ≡ n = cc in
        let b : fault.part ≡ 1 = cc in
        let d : fault.position ≡ at = cc in
        rw (a, b, d)
    by (accepted p end) (Ok r) q = let a : r ≡ p.parsed = cc in rw a
    by (accepted p end) (Err fault) q = cc

-- by the reader: it refuses, bytes are left behind the register, or none are
module _ (s : List ℕ) where
  pub answers_refused : {n at : ℕ} → ◌≡◌ {A = Reading Register} (refused n at) (added_by (λ r. r) (register_in_job s)) → refused_answer n at ≡ register_answer (register_by_itself s)
  unfolding register_by_itself by_itself
  answers_refused e = rw (refused_added (λ r. r) (register_in_job s) e)

  module _ {r : Register} {end : ℕ} (e : accepted r end ≡ added_by (λ r. r) (register_in_job s)) where
    pub answers_past : end < length s → refused_answer 12 end ≡ register_answer (register_by_itself s)
    unfolding register_by_itself by_itself
    answers_past past = let (p, is) = accepted_added (λ r. r) (register_in_job s) e in rw (is.0, lt-ltb end (length s) past)

    pub answers_read : length s ≤ end → ◌≡◌ {A = RegisterAnswer} record { number = 0; part = 0; position = 0; register = r } (register_answer (register_by_itself s))
    unfolding register_by_itself by_itself
    answers_read none = let (p, is) = accepted_added (λ r. r) (register_in_job s) e in rw (is.0, le-ltb end (length s) none, is.1)
