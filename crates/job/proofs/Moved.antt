-- Parts of a job that stand elsewhere in another job, with the same bytes after them: they lead to the same, at the places where they
-- stand.
use Prim.Native.Nat.{ℕ, ◌+◌}
use mathlib.Core.Path.{◌≡◌, refl, sym, ap, ◌∙◌}
use mathlib.Core.Bool.{Bool, true, false, cond}
use mathlib.Core.List.{List, [], ◌∷◌}
use lib.Dec.{ltb}
use lib.IntN.{ℤ}
use lib.ListN.{length, drop}
use lib.Seq.{drop-drop}
use Rattle.wire.specs.Part.{Reading, refused, accepted}
use Rattle.wire.specs.Outcome.{Outcome, refuses, accepts, next, and_then, answer_by, starting_at}
use Rattle.certificate.specs.Format.{commands_in_job}
use Rattle.bound.specs.Check.{with_residual}
use Rattle.job.specs.Outcome.{Parts, coefficients, JobPart, in_turn, ended, table_by}

-- a refusal at another place
abbrev pub moved : (ℕ → ℕ) → Outcome Parts → Outcome Parts
moved place (refuses number part at) = refuses number part (place at)
moved place (accepts p) = accepts p

-- the place of each position in the other job
module _ (s s' : List ℕ) (place : ℕ → ℕ) (further : (from end : ℕ) → place (from + end) ≡ place from + end) (ends : (end : ℕ) → ltb (place end) (length s') ≡ ltb end (length s)) where
  abbrev SameAfter : ℕ → Type 0
  SameAfter from = drop (place from) s' ≡ drop from s

  same_further : (from end : ℕ) → SameAfter from → SameAfter (from + end)
  same_further from end d = rw (further from end) (sym (drop-drop end (place from) s') ∙ ap (drop end) d ∙ drop-drop end from s)

  -- parts in turn, and what is made of what they lead to
  module _ {G : Type 0} (refusal refusal' : ℕ → ℕ → ℕ → G) (f f' : Parts × ℕ → G) (refuse : (number part at : ℕ) → refusal' number part (place at) ≡ refusal number part at) (agree : (p : Parts) (end : ℕ) → SameAfter end → f' (p, place end) ≡ f (p, end)) where
    turn_moved : (ks : List JobPart) (p : Parts) (from : ℕ) → SameAfter from → answer_by refusal' f' (in_turn ks s' p (place from)) ≡ answer_by refusal f (in_turn ks s p from)
    turn_moved [] p from d = agree p from d
    turn_moved (k ∷ ks) p from d = rw (ap (k.reads p) d) (go (k.reads p (drop from s)) (turn_moved ks))
      where
        go : (x : Reading Parts) → ((p : Parts) (from : ℕ) → SameAfter from → answer_by refusal' f' (in_turn ks s' p (place from)) ≡ answer_by refusal f (in_turn ks s p from)) →
            answer_by refusal' f' (next k.number (starting_at (place from) x) (in_turn ks s')) ≡ answer_by refusal f (next k.number (starting_at from x) (in_turn ks s))
        go (refused number at) later = rw (← (further from at)) (refuse number k.number (from + at))
        go (accepted read end) later = rw (← (further from end)) (later read (from + end) (same_further from end d))

  -- with the job's end
  pub after_moved : (ks : List JobPart) (p : Parts) (from last : ℕ) → SameAfter from → and_then (in_turn ks s' p (place from)) (ended last s') ≡ moved place (and_then (in_turn ks s p from) (ended last s))
  after_moved ks p from last d =
      then_is (in_turn ks s' p (place from))
      ∙ turn_moved (λ number part at. refuses number part (place at)) refuses (λ x. moved place (ended last s x)) (ended last s') (λ number part at. refl) (λ p end d. rw (ends end) (closed (ltb end (length s)) p end)) ks p from d
      ∙ sym (moved_is (in_turn ks s p from))
    where
      closed : (b : Bool) (p : Parts) (end : ℕ) → cond b (refuses 12 last (place end)) (accepts p) ≡ moved place (cond b (refuses 12 last end) (accepts p))
      closed true p end = refl
      closed false p end = refl

      then_is : (x : Outcome (Parts × ℕ)) → and_then x (ended last s') ≡ answer_by refuses (ended last s') x
      then_is (refuses number part at) = refl
      then_is (accepts a) = refl

      moved_is : (x : Outcome (Parts × ℕ)) → moved place (and_then x (ended last s)) ≡ answer_by (λ number part at. refuses number part (place at)) (λ x. moved place (ended last s x)) x
      moved_is (refuses number part at) = refl
      moved_is (accepts a) = refl

  pub table_moved : (ks : List JobPart) (p : Parts) (from : ℕ) (lent : List ℤ) → SameAfter from → table_by s' lent (in_turn ks s' p (place from)) ≡ table_by s lent (in_turn ks s p from)
  table_moved ks p from lent =
      turn_moved (λ number part at. lent) (λ number part at. lent) _ _ (λ number part at. refl)
      (λ p end d. ap (λ t. with_residual (coefficients p) p.register p.scheme (commands_in_job p.register p.scheme t) lent) d) ks p from
