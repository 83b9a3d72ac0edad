-- What the call answers, from what its callees answer.
use mathlib.Core.Path.{◌≡◌, refl, sym, ◌∙◌}
use mathlib.Core.Bool.{Bool, true, false, true≢false}
use Prim.Native.Nat.{ℕ, ◌≤◌}
use native.Mathlib.Omega.{arith}
use native.Mathlib.Decide.{dec_le}
use borrow.Author.Tests.{lt-ltb, le-ltb}
use mathlib.Core.List.{List}
use Rattle.std.proofs.Common.{Option, Some, None, Result, Ok, Err}
use Rattle.std.specs.Result.{MatchResult, IsErrAnd}
use Rattle.std.proofs.lemmas.Result.{err_from_is_err_and}
use Rattle.wire.specs.declared.refusals.Fault.{Fault}
use Rattle.register.specs.Opening.{open_register}
use Rattle.std.specs.Option.{ok_or}
use Rattle.wire.specs.declared.refusals.Refusal.{Refusal}
use Rattle.wire.specs.declared.refusals.Refusal.TheVariants.{NoneFits}
use Rattle.wire.specs.Results.{number_of, outcome_of}
use Rattle.integers.proofs.Lists.{flag}
use Rattle.wire.specs.Outcome.{refuses, accepts, answer_by}
use Rattle.register.specs.declared.Register.{Register}
use Rattle.register.specs.Register.{coefficient}
use Rattle.search.specs.declared.SearchAnswer.{SearchAnswer}
use Rattle.search.specs.declared.Met.{Met}
use Rattle.search.specs.declared.Found.{Found}
use Rattle.search.specs.declared.Walked.{Walked}
use Rattle.plan.specs.Fits.{fits}
use Rattle.search.specs.Sum.{sum}
use Rattle.search.specs.Walk.{Best, start, walk}
use Rattle.search.specs.Answer.{search, within_limit, refused_search, accepted_search, found_search, told_search, search_answer}
use Rattle.search.specs.Lent.{terms_in, sum_to, lent_sum, UpTo}

-- what is answered of a walk
abbrev pub limited : ℕ → Best → SearchAnswer
limited limit w = answer_by refused_search accepted_search (within_limit limit w)

-- of what the code keeps, where the limit is not passed
abbrev pub best_answer : Option Met → ℕ → SearchAnswer
best_answer None visits = refused_search 16 0 0
best_answer (Some best) visits = record { number = 0; part = 0; position = 0; plan = best.plan; cost = best.cost; visits = visits }

-- The register first.

pub register_refused : (s : List ℕ) (limit : ℕ) {n part at : ℕ} → refuses n part at ≡ open_register s → refused_search n part at ≡ search_answer s limit
unfolding search_answer
register_refused s limit e = rw (← e)

pub then_search : (s : List ℕ) (limit : ℕ) {reg : Register} → accepts reg ≡ open_register s → limited limit (search (coefficient reg) reg) ≡ search_answer s limit
unfolding search_answer
then_search s limit e = rw (← e)

-- Then the walk.

-- the walk that the code is lent for
pub search_lent : (r : Register) → walk (lent_sum r.base (terms_in r)) (fits r) r.choices 0 start ≡ search (coefficient r) r
unfolding search sum sum_to
search_lent r = refl

-- w is the walk of the rule, and what the code has come to
module _ (limit : ℕ) (w : Best) (walked : Walked) (ok : Bool) (h : UpTo limit w walked ok) where
  -- the walk is refused
  pub passes : ok ≡ false → refused_search 14 0 0 ≡ limited limit w
  passes z = go (dec_le w.visits limit)
    where
      go : Dec (w.visits ≤ limit) → refused_search 14 0 0 ≡ limited limit w
      go (yes m) = absurd (true≢false (sym (h.same m).1 ∙ z))
      go (no m) = rw (lt-ltb limit w.visits (omega arith))

  -- it is not, and what is answered is by the best plan
  pub answers : ok ≡ true → best_answer walked.best walked.visits ≡ limited limit w
  answers z = go (dec_le w.visits limit)
    where
      go : Dec (w.visits ≤ limit) → best_answer walked.best walked.visits ≡ limited limit w
      go (yes m) = rw ((h.same m).0, le-ltb limit w.visits m) (flag w.met (λ a. rw a) (λ a. rw a))
      go (no m) = absurd (true≢false (sym z ∙ (h.passed (omega arith)).0))

-- as the code takes the best plan

pub best_err : (o : Option Met) (visits : ℕ) {refusal : Refusal} → Err refusal ≡ ok_or o NoneFits → refused_search (number_of refusal) 0 0 ≡ best_answer o visits
best_err None visits {refusal} e = let r : refusal ≡ NoneFits = cc in rw r
best_err (Some best) visits e = absurd (let n : ◌≡◌ {A = ℕ} 0 1 = cc in omega arith)

pub best_ok : (o : Option Met) (visits : ℕ) {best : Met} → Ok best ≡ ok_or o NoneFits → found_search (record { plan = best.plan; cost = best.cost; visits = visits }) ≡ best_answer o visits
best_ok None visits e = absurd (let n : ◌≡◌ {A = ℕ} 0 1 = cc in omega arith)
best_ok (Some met) visits {best} e = let r : best ≡ met = cc in rw r

-- a refusal that no command causes
pub told_nowhere : (found : Result Found Refusal) (told : Result Found Fault) (P : Refusal → Fault → Type 0) → MatchResult found (λ f. told ≡ Ok f) (λ e. IsErrAnd told (P e)) →
    ((e : Refusal) (f : Fault) → P e f → f ≡ record { refusal = e; part = 0; position = 0 }) → answer_by refused_search found_search (outcome_of told) ≡ told_search found
told_nowhere (Ok f) told P e h = rw e
told_nowhere (Err e) told P i h = let p = err_from_is_err_and told i in rw (p.1, h e p.0 p.2)
