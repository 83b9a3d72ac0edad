-- The parts of a job in turn, where those before them are changed: what they lead to is changed alike, as far as each part by itself is.
-- And where the same bytes stand further on in another job, so do the refusals.
use Prim.Native.Nat.{ℕ, ◌+◌}
use mathlib.Core.Path.{◌≡◌, refl}
use mathlib.Core.Bool.{Bool, true, false, cond}
use mathlib.Core.List.{List, [], ◌∷◌}
use lib.Dec.{ltb, eqb}
use lib.IntN.{ℤ}
use lib.ListN.{length, drop}
use Rattle.integers.specs.Lists.{All}
use Rattle.wire.specs.Part.{Reading, refused, accepted}
use Rattle.wire.specs.Rows.{Progress}
use Rattle.wire.specs.Outcome.{Outcome, refuses, accepts, next, and_then, starting_at, added_by}
use Rattle.job.specs.Outcome.{Parts, JobPart, before, in_turn, ended, table_from_certificate, table_by}

-- ---- parts that are changed

module _ (change : Parts → Parts) where
  abbrev changed_read : Reading Parts → Reading Parts
  changed_read (refused number at) = refused number at
  changed_read (accepted p end) = accepted (change p) end

  abbrev changed_turn : Outcome (Parts × ℕ) → Outcome (Parts × ℕ)
  changed_turn (refuses number part at) = refuses number part at
  changed_turn (accepts (p, from)) = accepts (change p, from)

  abbrev pub changed : Outcome Parts → Outcome Parts
  changed (refuses number part at) = refuses number part at
  changed (accepts p) = accepts (change p)

  -- a part is read alike with the changed parts
  abbrev pub ReadAlike : JobPart → Type 0
  ReadAlike k = (p : Parts) (t : List ℕ) → k.reads (change p) t ≡ changed_read (k.reads p t)

  pub added_alike : {A : Type 0} (add add' : A → Parts) → ((a : A) → add' a ≡ change (add a)) → (x y : Reading (Progress A)) → y ≡ x → added_by add' y ≡ changed_read (added_by add x)
  added_alike add add' h (refused number at) y e = rw e
  added_alike add add' h (accepted p end) y e = rw (e, h p.parsed)

  -- so are those before one with a number
  pub alike_before : (n : ℕ) (ks : List JobPart) → All ReadAlike ks → All ReadAlike (before n ks)
  alike_before n [] h = tt
  alike_before n (k ∷ ks) h = by (eqb k.number n) (alike_before n ks h.1)
    where
      by : (b : Bool) → All ReadAlike (before n ks) → All ReadAlike (cond b [] (k ∷ before n ks))
      by true later = tt
      by false later = (h.0, later)

  module _ (s : List ℕ) where
    turn_changed : (ks : List JobPart) → All ReadAlike ks → (p : Parts) (from : ℕ) → in_turn ks s (change p) from ≡ changed_turn (in_turn ks s p from)
    turn_changed [] h p from = refl
    turn_changed (k ∷ ks) h p from = rw (h.0 p (drop from s)) (go (k.reads p (drop from s)) (turn_changed ks h.1))
      where
        go : (x : Reading Parts) → ((p : Parts) (from : ℕ) → in_turn ks s (change p) from ≡ changed_turn (in_turn ks s p from)) →
            next k.number (starting_at from (changed_read x)) (in_turn ks s) ≡ changed_turn (next k.number (starting_at from x) (in_turn ks s))
        go (refused number at) later = refl
        go (accepted read end) later = later read (from + end)

    pub after_changed : (ks : List JobPart) → All ReadAlike ks → (p : Parts) (from last : ℕ) → and_then (in_turn ks s (change p) from) (ended last s) ≡ changed (and_then (in_turn ks s p from) (ended last s))
    after_changed ks h p from last = rw (turn_changed ks h p from) (go (in_turn ks s p from))
      where
        close : (b : Bool) (p : Parts) (end : ℕ) → cond b (refuses 12 last end) (accepts (change p)) ≡ changed (cond b (refuses 12 last end) (accepts p))
        close true p end = refl
        close false p end = refl

        go : (x : Outcome (Parts × ℕ)) → and_then (changed_turn x) (ended last s) ≡ changed (and_then x (ended last s))
        go (refuses number part at) = refl
        go (accepts (p, end)) = close (ltb end (length s)) p end

    pub table_changed : (lent : List ℤ) → ((p : Parts) (from : ℕ) → table_from_certificate s (change p) from lent ≡ table_from_certificate s p from lent) →
        (ks : List JobPart) → All ReadAlike ks → (p : Parts) (from : ℕ) → table_by s lent (in_turn ks s (change p) from) ≡ table_by s lent (in_turn ks s p from)
    table_changed lent same ks h p from = rw (turn_changed ks h p from) (go (in_turn ks s p from))
      where
        go : (x : Outcome (Parts × ℕ)) → table_by s lent (changed_turn x) ≡ table_by s lent x
        go (refuses number part at) = refl
        go (accepts (p, end)) = same p end
