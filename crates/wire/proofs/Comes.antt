-- A part that got a new command accepts a run of bytes in which reading without that command comes to it just where it is one of the
-- commands.
use Prim.Native.Nat.{ℕ, zero, suc, ◌+◌, ◌≤◌}
use native.Mathlib.Omega.{arith}
use mathlib.Core.Path.{◌≡◌, refl, sym, ap, subst, ◌∙◌}
use mathlib.Core.Bool.{Bool, true, false, ◌||◌, or-false, or_assoc}
use mathlib.Core.List.{List, [], ◌∷◌, ◌++◌, append_assoc, flat_map}
use lib.ListN.{length, get_or, drop}
use lib.Dec.{eqb}
use borrow.Author.Tests.{eqb-true, eqb-false, lt-ltb}
use Rattle.integers.specs.Lists.{join_below, any_below}
use Rattle.integers.proofs.Lists.{flag}
use Rattle.wire.specs.Part.{Part, size, after_at}
use Rattle.wire.specs.Encoding.{Command, encode_command, encode, Accepts}
use Rattle.wire.specs.Walk.{passing, comes_from, comes_to}
use Rattle.wire.proofs.Part.{Passes, step_goes, step_ends}
use Rattle.wire.proofs.Encoding.{after_first, command_at, command_at_reads, length_command}
use Rattle.wire.proofs.Encoding as E
use Rattle.wire.proofs.Alike.{Same, Alike, at_same, passes, after_alike}

-- one of the commands has this byte
abbrev pub has_command : ℕ → List Command → Bool
has_command b [] = false
has_command b (c ∷ cs) = eqb c.byte b || has_command b cs

module _ {S : Type 0} (P Q : Part S) (Reach : S → ℕ → Type 0) (may : S → Bool) (b : ℕ) (agree : (read : S) (at c : ℕ) → Reach read at → (c ≡ b → may read ≡ false) → Alike P Q Reach read at c)
    (stands : (read : S) → P.here read b ≡ true → may read ≡ true) (s : List ℕ) where
  -- at a command that is not refused: it has this byte; or reading goes on past it, or ends with it

  module _ (read : S) (at k : ℕ) (p : Passes P s read at) where
    here : eqb (get_or s at 0) b ≡ true → comes_from Q may b s (suc k) read at ≡ true
    unfolding comes_from
    here t = rw (lt-ltb at (length s) p.inside, t, stands read (rw (eqb-true (get_or s at 0) b t) at p.here))

    module _ (r : Reach read at) (t : eqb (get_or s at 0) b ≡ false) where
      alike : Alike P Q Reach read at (get_or s at 0)
      alike = agree read at (get_or s at 0) r (λ e. absurd (eqb-false (get_or s at 0) b t e))

      same : Same P Q Reach read at (get_or s at 0)
      same = at_same P Q Reach s read at alike p

      past : P.last (get_or s at 0) ≡ false → comes_from Q may b s (suc k) read at ≡ comes_from Q may b s k (after_at P s read at) (at + size P (get_or s at 0))
      unfolding comes_from passing
      past l = rw (lt-ltb at (length s) p.inside, t, step_goes Q s read at p.inside (passes P Q Reach s read at alike p) (sym same.last ∙ l), after_alike P Q Reach s read at alike p, same.widths)

      ended : P.last (get_or s at 0) ≡ true → comes_from Q may b s (suc k) read at ≡ false
      unfolding comes_from passing
      ended l = rw (lt-ltb at (length s) p.inside, t, step_ends Q s read at p.inside (passes P Q Reach s read at alike p) (sym same.last ∙ l))

      onward : Reach (after_at P s read at) (at + size P (get_or s at 0))
      unfolding after_at
      onward = same.moves _ p.allowed

  comes_by : (cs : List Command) (read : S) (at k : ℕ) (end : S) (post : List ℕ) → Reach read at → length s ≤ at + k → Accepts P read cs end → drop at s ≡ encode P cs ++ post → comes_from Q may b s k read at ≡ has_command b cs
  unfolding encode flat_map after_at
  comes_by [] read at k end post r n a e = absurd a
  comes_by (c ∷ cs) read at k end post r n a e =
      let e' : drop at s ≡ encode_command P c ++ (encode P cs ++ post) = e ∙ append_assoc (encode_command P c) (encode P cs) post in
      let q : command_at P s at ≡ c = command_at_reads P s at c (encode P cs ++ post) a.0.operands e' in
      subst (λ (c : Command). Accepts P read (c ∷ cs) end → drop at s ≡ encode_command P c ++ (encode P cs ++ post) → comes_from Q may b s k read at ≡ has_command b (c ∷ cs)) q
      (by k n (λ read at k r n a e. comes_by cs read at k end post r n a e)) a e'
    where
      by : (k : ℕ) → length s ≤ at + k
          → ((read : S) (at k : ℕ) → Reach read at → length s ≤ at + k → Accepts P read cs end → drop at s ≡ encode P cs ++ post → comes_from Q may b s k read at ≡ has_command b cs)
          → Accepts P read (command_at P s at ∷ cs) end → drop at s ≡ encode_command P (command_at P s at) ++ (encode P cs ++ post) → comes_from Q may b s k read at ≡ has_command b (command_at P s at ∷ cs)
      by zero n later a e = let p = E.passes P s read at (encode P cs ++ post) a.0 e in absurd (omega (arith, p.inside))
      by (suc k) n later a e =
          let p = E.passes P s read at (encode P cs ++ post) a.0 e in
          let long : length (encode_command P (command_at P s at)) ≡ size P (get_or s at 0) = length_command P (command_at P s at) a.0.operands in
          flag (eqb (get_or s at 0) b) (λ t. rw t (here read at k p t)) λ t.
          flag (P.last (get_or s at 0))
          (λ l. let (none, _) = rw l at a.1 in rw (t, none) (ended read at k p r t l))
          (λ l. rw t (past read at k p r t l ∙ later _ _ k (onward read at k p r t) (omega arith) (rw l at a.1) (after_first s at _ (encode_command P (command_at P s at)) _ long e)))

  -- from the front
  pub comes_to_by : (cs : List Command) (end : S) (post : List ℕ) → P.start ≡ Q.start → Reach P.start 0 → Accepts P P.start cs end → s ≡ encode P cs ++ post → comes_to Q may b s ≡ has_command b cs
  unfolding comes_to
  comes_to_by cs end post q r a e = ap (λ start. comes_from Q may b s (length s) start 0) (sym q) ∙ comes_by cs P.start 0 (length s) end post r (omega arith) a e

-- ---- by the commands one after the other

pub has_command_append : (b : ℕ) (cs ds : List Command) → has_command b (cs ++ ds) ≡ (has_command b cs || has_command b ds)
has_command_append b [] ds = refl
has_command_append b (c ∷ cs) ds = rw (has_command_append b cs ds, or_assoc)

pub has_command_below : (b : ℕ) (c : ℕ → Command) (f : ℕ → Bool) (n : ℕ) → ((i : ℕ) → eqb (c i).byte b ≡ f i) → has_command b (join_below n (λ i. c i ∷ [])) ≡ any_below n f
unfolding join_below
has_command_below b c f zero h = refl
has_command_below b c f (suc n) h = rw (has_command_append, has_command_below b c f n h, h n, or-false)
