-- Where a part is refused and with which number, once for all parts: as `Refused` says, where the numbers of a command's checks do
-- not fall; and what a number above 2 tells of the command.
use Prim.Native.Nat.{ℕ, ◌+◌, ◌-◌, ◌≤◌, ◌<◌}
use native.Mathlib.Nat.{zero-add}
use native.Mathlib.Omega.{arith}
use mathlib.Core.Path.{◌≡◌, refl, sym, ap, ◌∙◌}
use mathlib.Core.Logic.{inl, inr, ◌↔◌}
use mathlib.Core.Bool.{Bool, true, false, cond}
use mathlib.Core.List.{List, [], ◌∷◌, ◌++◌, append_assoc, flat_map}
use lib.Dec.{T, eqb, ltb}
use lib.ListN.{length, get_or, take, drop, length-append, length-drop, take-append-drop}
use lib.Seq.{take_at, length-take-le}
use borrow.Author.Tests.{ltb-true, lt-ltb}
use Rattle.integers.specs.Lists.{All}
use Rattle.integers.proofs.Lists.{cond_cases, flag}
use Rattle.wire.specs.Number.{Bytes}
use Rattle.wire.specs.Checks.{refusal, command_checks}
use Rattle.wire.specs.Part.{Part, Reading, refused, accepted, size, checks_at, after_at, operands_at, read_from, read_part, by_itself}
use Rattle.wire.specs.Rows.{Row, row_of, part_of}
use Rattle.wire.specs.Encoding.{Command, encode_command, encode}
use Rattle.wire.specs.Refused.{Reaches, Lowest, RefusedAt, EndsAt, RefusedByItself}
use Rattle.wire.proofs.Checks.{rising_from, refusal_fails, refusal_lowest, lowest_refusal}
use Rattle.wire.proofs.Part.{own, Ways, by_ways, read_from_missing, read_from_refused, read_from_position, read_from_end}
use Rattle.wire.proofs.Encoding.{command_at, command_at_bytes, allowed, sound, reads_through, complete_at}

-- the numbers of the checks of a command do not fall, and start at 1
abbrev pub Rising : {S : Type 0} → Part S → Type 0
Rising {S} P = (s : List ℕ) (read : S) (at : ℕ) → T (rising_from 1 (checks_at P s read at))

-- a command that is refused by a check of its own stands where it may
pub own_refused : {S : Type 0} (P : Part S) (s : List ℕ) (read : S) (at n : ℕ) → 2 < n → refusal (checks_at P s read at) ≡ n → (P.here read (get_or s at 0) ≡ true) × (refusal (own P s read at) ≡ n)
unfolding checks_at command_checks refusal
own_refused P s read at n l e =
    flag (P.here read (get_or s at 0))
    (λ t. flag (ltb (length s - at) (size P (get_or s at 0))) (λ u. absurd (omega (arith, rw (t, u) at e))) (λ u. (t, rw (t, u) at e)))
    (λ t. absurd (omega (arith, rw t at e)))

module _ {S : Type 0} (P : Part S) (s : List ℕ) (b : Bytes s) where
  -- commands whose bytes stand at the front are all that stands before the rest
  front_bytes : (cs : List Command) (at : ℕ) → at ≤ length s → s ≡ encode P cs ++ drop at s → take at s ≡ encode P cs
  front_bytes cs at l x =
      ap (take at) x ∙ take_at (encode P cs) (drop at s) at (omega (arith, ap length x ∙ length-append (encode P cs) (drop at s), length-drop at s))

  -- what is accepted at the front
  pub ends_at : (read : S) (end : ℕ) → read_part P s ≡ accepted read end → EndsAt P s end
  unfolding read_part
  ends_at read end q =
      let (cs, (a, x)) = sound P s P.start 0 read end b q in
      let (_, l) = read_from_end P s P.start 0 q in
      record { commands = cs; read = read; right = a; within = l; bytes = front_bytes cs end l x }

  module _ (rises : Rising P) where
    -- how a part is refused from a position on, where what stands before it has been read
    record RefusedFrom (n at : ℕ) (read : S) (to : ℕ) : Type 0 where
      commands : List Command
      next : S
      right : Reaches P read commands next
      bytes : drop to s ≡ encode P commands ++ drop at s
      lowest : Lowest P s next n at

    refused_from : (n at : ℕ) (read : S) (to : ℕ) → at ≤ length s → read_from P s read to ≡ refused n at → RefusedFrom n at read to
    unfolding encode flat_map after_at
    refused_from n at read to past q = by_ways P s Q ways read to q
      where
        Q : S → ℕ → Reading S → Type 0
        Q read to x = x ≡ refused n at → RefusedFrom n at read to

        ways : Ways P s Q
        ways = record {
          missing = λ read to l q.
              let k : to ≡ at = cc in
              let m : 2 ≡ n = cc in
              record { commands = []; next = read; right = refl; bytes = ap (λ i. drop i s) k; lowest = inl (sym m, omega (arith, past)) };
          refuses = λ read to m l f d q.
              let k : to ≡ at = cc in
              let o : m ≡ n = cc in
              let c = checks_at P s read at in
              let f' : refusal c ≡ n = rw (k, o) at f in
              let d' : n ≡ 0 → ⊥ = rw o at d in
              record { commands = []; next = read; right = refl; bytes = ap (λ i. drop i s) k; lowest = inr (omega arith, (refusal_fails c n f' d', refusal_lowest 1 c n (rises s read at) f')) };
          goes = λ read to x p l rest q.
              let r = rest q in
              record {
                commands = command_at P s to ∷ r.commands;
                next = r.next;
                right = (allowed P s read to b p, (l, r.right));
                bytes = rw append_assoc (command_at_bytes P s to b p.room ∙ ap (λ (t : List ℕ). encode_command P (command_at P s to) ++ t) r.bytes);
                lowest = r.lowest;
              };
          ends = λ read to p l q. let z : ◌≡◌ {A = ℕ} 0 1 = cc in absurd (omega arith);
        }

    refused_at : (n at : ℕ) → read_part P s ≡ refused n at → RefusedAt P s n at
    unfolding read_part
    refused_at n at q =
        let past : at ≤ length s = (read_from_position P s P.start 0 (omega arith) q).1 in
        let r = refused_from n at P.start 0 past q in
        record { commands = r.commands; read = r.next; right = r.right; within = past; bytes = front_bytes r.commands at past r.bytes; lowest = r.lowest }

    -- a run of bytes by itself
    refused_by_itself : (n at : ℕ) → by_itself s (read_part P s) ≡ refused n at → RefusedByItself P s n at
    unfolding by_itself
    refused_by_itself n at = go (read_part P s) refl
      where
        past : (read : S) (end : ℕ) → read_part P s ≡ accepted read end → (t : Bool) → ltb end (length s) ≡ t → ◌≡◌ {A = Reading S} (cond t (refused 12 end) (accepted read end)) (refused n at) → RefusedByItself P s n at
        past read end e true u q =
            let m : 12 ≡ n = cc in
            let k : end ≡ at = cc in
            inr (sym m, (omega (arith, ltb-true end (length s) u), rw k at (ends_at read end e)))
        past read end e false u q = let z : ◌≡◌ {A = ℕ} 0 1 = cc in absurd (omega arith)

        go : (x : Reading S) → read_part P s ≡ x → by_itself s x ≡ refused n at → RefusedByItself P s n at
        go (refused m k) e q = inl (refused_at n at (e ∙ q))
        go (accepted read end) e q = past read end e (ltb end (length s)) refl q

-- And it is refused with just that number at just that position.

module _ {S : Type 0} (P : Part S) (s : List ℕ) (rises : Rising P) (n at : ℕ) where
  -- bytes at the front, and the rest
  split : (cs : List Command) → take at s ≡ encode P cs → s ≡ encode P cs ++ drop at s
  split cs x = sym (take-append-drop at s) ∙ ap (λ t. t ++ drop at s) x

  length_split : (cs : List Command) → at ≤ length s → take at s ≡ encode P cs → length (encode P cs) ≡ at
  length_split cs l x = sym (ap length x) ∙ length-take-le at s l

  at_refused : RefusedAt P s n at → read_part P s ≡ refused n at
  unfolding read_part
  at_refused r =
      reads_through P r.commands s P.start 0 r.read (drop at s) r.right (split r.commands r.bytes)
      ∙ rw (zero-add, length_split r.commands r.within r.bytes) (by r.lowest)
    where
      by : Lowest P s r.read n at → read_from P s r.read at ≡ refused n at
      by (inl (e, k)) = rw e (read_from_missing P s r.read at (omega arith))
      by (inr (k, (f, g))) =
          let (e, m) = lowest_refusal 1 (checks_at P s r.read at) n (rises s r.read at) f g in
          read_from_refused P s r.read at n k e (λ z. omega arith)

  by_itself_refused : RefusedByItself P s n at → by_itself s (read_part P s) ≡ refused n at
  unfolding by_itself read_part
  by_itself_refused (inl r) = rw (at_refused r)
  by_itself_refused (inr (e, (l, x))) =
      let q : read_part P s ≡ accepted x.read at = complete_at P x.commands s P.start 0 x.read (drop at s) x.right (split x.commands x.bytes) ∙ rw (zero-add, length_split x.commands x.within x.bytes) in
      rw (q, lt-ltb at (length s) l, e)

  -- a part is refused as `Refused` says, and whatever it says of a number and a position is what is refused

  pub refused_iff : Bytes s → (read_part P s ≡ refused n at) ↔ RefusedAt P s n at
  refused_iff b = (refused_at P s b rises n at, at_refused)

  pub refused_by_itself_iff : Bytes s → (by_itself s (read_part P s) ≡ refused n at) ↔ RefusedByItself P s n at
  refused_by_itself_iff b = (refused_by_itself P s b rises n at, by_itself_refused)

-- A part given by rows.

module _ {R : Type 0} where
  -- a row's own numbers do not fall, nor below those that every command has
  abbrev pub Rises : Row R → Type 0
  Rises row = (r : R) (xs : List ℕ) → T (rising_from 2 (row.checks r xs))

  row_of_rises : (rows : List (Row R)) → All Rises rows → (b : ℕ) → Rises (row_of rows b)
  unfolding row_of
  row_of_rises [] h b r xs = tt
  row_of_rises (row ∷ rows) h b r xs =
      cond_cases (λ (x : Row R). T (rising_from 2 (x.checks r xs))) (eqb b row.byte) row (row_of rows b) (λ t. h.0 r xs) (λ t. row_of_rises rows h.1 b r xs)

  pub rows_rising : (fresh : R) (rows : List (Row R)) → All Rises rows → Rising (part_of fresh rows)
  unfolding checks_at command_checks
  rows_rising fresh rows h s p at = let b = get_or s at 0 in row_of_rises rows h b p.parsed (operands_at (row_of rows b).widths s (at + 1))
