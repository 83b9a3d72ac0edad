-- What a part given by rows accepts, once for all parts. Good is what holds of what was read and of the commands that gave it,
-- Done the same of a part that has ended: where each row keeps them, and each command can be taken back, a part is accepted just
-- from the bytes of commands that are Done.
use Prim.Native.Nat.{ℕ, zero, suc, ◌+◌, ◌<◌, ◌≤◌}
use native.Mathlib.Nat.{zero-add}
use native.Mathlib.Omega.{arith}
use mathlib.Core.Path.{◌≡◌, refl, sym, ◌∙◌, ap}
use mathlib.Core.Logic.{◌⊎◌, ⊎_elim}
use mathlib.Core.Bool.{Bool, true, false, cond, false≢true}
use mathlib.Core.List.{List, [], ◌∷◌, ◌++◌, append_assoc, append-nil, flat_map}
use lib.ListN.{length, get_or, take, drop, length-append, length-drop}
use lib.Seq.{take_at}
use Rattle.integers.specs.Lists.{All}
use Rattle.wire.specs.Number.{Bytes}
use Rattle.wire.specs.Checks.{refusal}
use Rattle.wire.specs.Part.{Part, Reading, accepted, size, after_at, read_part}
use Rattle.wire.specs.Rows.{Progress, Row, is_among, row_of, part_of}
use Rattle.wire.specs.Encoding.{Command, Fit, encode_command, encode, Allowed, after_command, Accepts}
use Rattle.wire.proofs.Part.{operands, Passes, Ways, by_ways, read_from_end}
use Rattle.wire.proofs.Encoding.{command_at, command_at_bytes, fit_operands_at, encode-append, complete_at}
use Rattle.wire.proofs.Prefix.{row_of_by}
use Rattle.wire.proofs.Grammar.{last_from, last_from_one}

-- commands that lead from what has been read to what has been read later: what is accepted from there is accepted after them
module _ {S : Type 0} (P : Part S) where
  record Leads (read : S) (cs : List Command) (next : S) : Type 0 where
    on : (ds : List Command) (end : S) → Accepts P next ds end → Accepts P read (cs ++ ds) end

  leads_one : {read : S} (c : Command) → Allowed P read c → P.last c.byte ≡ false → Leads read (c ∷ []) (after_command P read c)
  leads_one c a l = record { on = λ ds end h. (a, rw l h) }

  leads_more : {read next later : S} {cs ds : List Command} → Leads read cs next → Leads next ds later → Leads read (cs ++ ds) later
  leads_more {cs} {ds} f g = record { on = λ es end h. rw append_assoc (f.on (ds ++ es) end (g.on es end h)) }

-- what has been read so far: the byte of the last command, and what the commands gave
abbrev pub reached : {R : Type 0} → ℕ → R → Progress R
reached previous r = record { previous = previous; parsed = r }

-- a command of a row keeps Good, or makes it Done where it ends the part; that its operands fit their widths is known where B holds
pub record Grows {R : Type 0} (B : Type 0) (Good Done : R → List Command → Type 0) (b : ℕ) (row : Row R) : Type 0 where
  pub on : (r : R) (cs : List Command) (xs : List ℕ) → Good r cs → is_among (last_from 0 cs) row.follows ≡ true → refusal (row.checks r xs) ≡ 0 → (B → Fit row.widths xs)
      → cond row.last (Done (row.after r xs) (cs ++ (record { byte = b; operands = xs } ∷ []))) (Good (row.after r xs) (cs ++ (record { byte = b; operands = xs } ∷ [])))

module _ {R : Type 0} (fresh : R) (rows : List (Row R)) where
  abbrev part : Part (Progress R)
  part = part_of fresh rows

  -- the last command taken back
  pub record Back (Good : R → List Command → Type 0) (ends : Bool) (r : R) (cs : List Command) : Type 0 where
    pub before : R
    pub front : List Command
    pub command : Command
    pub good : Good before front
    pub allowed : Allowed part (reached (last_from 0 front) before) command
    pub after : (row_of rows command.byte).after before command.operands ≡ r
    pub ends_is : (row_of rows command.byte).last ≡ ends
    pub whole : cs ≡ front ++ (command ∷ [])

  -- the laws of a part: what its rows keep, and what can be taken back
  pub record Laws (Good Done : Type 0 → R → List Command → Type 0) : Type 1 where
    pub starts : (B : Type 0) → Good B fresh []
    pub grows : (B : Type 0) → All (λ row. Grows B (Good B) (Done B) row.byte row) rows
    pub back : (r : R) (cs : List Command) → Good (Unit {0}) r cs → ((r ≡ fresh) × (cs ≡ [])) ⊎ Back (Good (Unit {0})) false r cs
    pub back_end : (r : R) (cs : List Command) → Done (Unit {0}) r cs → Back (Good (Unit {0})) true r cs

  -- what was read up to a position: its commands, which are K, and their bytes
  pub record Read (K : R → List Command → Type 0) (s : List ℕ) (p : Progress R) (at : ℕ) : Type 0 where
    pub commands : List Command
    pub holds : K p.parsed commands
    pub previous : p.previous ≡ last_from 0 commands
    pub bytes : Bytes s → s ≡ encode part commands ++ drop at s

  -- what is accepted from these bytes: the bytes of commands that are K
  pub record Encoded (K : R → List Command → Type 0) (p : Progress R) (x : List ℕ) : Type 0 where
    pub commands : List Command
    pub holds : K p.parsed commands
    pub previous : p.previous ≡ last_from 0 commands
    pub bytes : x ≡ encode part commands

  encode_one : (cs : List Command) (c : Command) → encode part (cs ++ (c ∷ [])) ≡ encode part cs ++ encode_command part c
  unfolding encode flat_map
  encode_one cs c = encode-append part cs (c ∷ []) ∙ ap (λ x. encode part cs ++ x) (append-nil (encode_command part c))

  module _ {Good Done : Type 0 → R → List Command → Type 0} (laws : Laws Good Done) where
    -- ---- what is read

    module _ (s : List ℕ) where
      abbrev pub Midway : Progress R → ℕ → Type 0
      Midway = Read (Good (Bytes s)) s

      abbrev pub Ended : Progress R → ℕ → Type 0
      Ended = Read (Done (Bytes s)) s

      pub read_starts : Midway part.start 0
      unfolding encode flat_map
      read_starts = record { commands = []; holds = laws.starts (Bytes s); previous = refl; bytes = λ b. refl }

      module _ (p : Progress R) (at : ℕ) (h : Passes part s p at) (m : Midway p at) where
        -- the commands with the one that is read here
        abbrev more : List Command
        more = m.commands ++ (command_at part s at ∷ [])

        kept : cond (part.last (get_or s at 0)) (Done (Bytes s) (after_at part s p at).parsed more) (Good (Bytes s) (after_at part s p at).parsed more)
        unfolding after_at
        kept =
            let grows : Grows (Bytes s) (Good (Bytes s)) (Done (Bytes s)) (get_or s at 0) (row_of rows (get_or s at 0)) = row_of_by (Grows (Bytes s) (Good (Bytes s)) (Done (Bytes s))) rows (get_or s at 0) (record { on = λ r cs xs g e. absurd (false≢true e) }) (laws.grows (Bytes s)) in
            grows.on p.parsed m.commands (operands part s at) m.holds (rw m.previous at h.here) h.allowed (λ b. fit_operands_at (part.widths (get_or s at 0)) s (at + 1) b)

        -- read with it
        with_it : (K : R → List Command → Type 0) → K (after_at part s p at).parsed more → Read K s (after_at part s p at) (at + size part (get_or s at 0))
        unfolding after_at
        with_it K k = record {
          commands = more;
          holds = k;
          previous = sym (last_from_one 0 m.commands (command_at part s at));
          bytes = λ b. m.bytes b ∙ ap (λ x. encode part m.commands ++ x) (command_at_bytes part s at b h.room) ∙ rw (encode_one, append_assoc);
        }

        pub read_on : part.last (get_or s at 0) ≡ false → Midway (after_at part s p at) (at + size part (get_or s at 0))
        read_on l = with_it (Good (Bytes s)) (rw l at kept)

        pub read_end : part.last (get_or s at 0) ≡ true → Ended (after_at part s p at) (at + size part (get_or s at 0))
        read_end l = with_it (Done (Bytes s)) (rw l at kept)

      -- what was read in the end
      pub read_ended : (p : Progress R) (end : ℕ) → read_part part s ≡ accepted p end → Ended p end
      unfolding read_part
      read_ended p end q = by_ways part s Q ways part.start 0 read_starts q
        where
          Q : Progress R → ℕ → Reading (Progress R) → Type 0
          Q read at x = Midway read at → x ≡ accepted p end → Ended p end

          ways : Ways part s Q
          ways = record {
            missing = λ read at l g q. let z : ◌≡◌ {A = ℕ} 0 1 = cc in absurd (omega arith);
            refuses = λ read at n l e d g q. let z : ◌≡◌ {A = ℕ} 0 1 = cc in absurd (omega arith);
            goes = λ read at x h l rest g q. rest (read_on read at h g l) q;
            ends = λ read at h l g q.
                let d : after_at part s read at ≡ p = cc in
                let k : at + size part (get_or s at 0) ≡ end = cc in
                rw (d, k) at (read_end read at h g l);
          }

      -- the bytes up to the end are those of commands that are Done
      pub read_encoded : (p : Progress R) (end : ℕ) → Bytes s → read_part part s ≡ accepted p end → Encoded (Done (Bytes s)) p (take end s) × (end ≤ length s)
      unfolding read_part
      read_encoded p end b q =
          let r = read_ended p end q in
          let (_, l) = read_from_end part s part.start 0 q in
          let n : length (encode part r.commands) ≡ end = omega (arith, ap length (r.bytes b) ∙ length-append (encode part r.commands) (drop end s), length-drop end s) in
          (record { commands = r.commands; holds = r.holds; previous = r.previous; bytes = ap (take end) (r.bytes b) ∙ take_at (encode part r.commands) (drop end s) end n }, l)

    -- ---- what is accepted

    back_leads : (k : ℕ) (r : R) (cs : List Command) → length cs < k → Good (Unit {0}) r cs → Leads part part.start cs (reached (last_from 0 cs) r)
    back_leads zero r cs l g = absurd (omega arith)
    back_leads (suc k) r cs l g = ⊎_elim first (further (back_leads k)) (laws.back r cs g)
      where
        first : (r ≡ fresh) × (cs ≡ []) → Leads part part.start cs (reached (last_from 0 cs) r)
        first (e, f) = rw (e, f) (record { on = λ ds end h. h })

        further : ((r : R) (cs : List Command) → length cs < k → Good (Unit {0}) r cs → Leads part part.start cs (reached (last_from 0 cs) r)) → Back (Good (Unit {0})) false r cs → Leads part part.start cs (reached (last_from 0 cs) r)
        further before b =
            let n : length b.front < k = omega (arith, ap length b.whole ∙ length-append b.front (b.command ∷ [])) in
            rw (b.whole, last_from_one 0 b.front b.command, ← b.after) (leads_more part (before b.before b.front n b.good) (leads_one part b.command b.allowed b.ends_is))

    pub done_accepts : (r : R) (cs : List Command) → Done (Unit {0}) r cs → Accepts part part.start cs (reached (last_from 0 cs) r)
    done_accepts r cs d = go (laws.back_end r cs d)
      where
        go : Back (Good (Unit {0})) true r cs → Accepts part part.start cs (reached (last_from 0 cs) r)
        go b =
            rw (b.whole, last_from_one 0 b.front b.command, ← b.after)
            ((back_leads (suc (length b.front)) b.before b.front (omega arith) b.good).on (b.command ∷ []) (reached b.command.byte ((row_of rows b.command.byte).after b.before b.command.operands)) (b.allowed, rw b.ends_is (refl, refl)))

    -- bytes of commands that are Done are accepted, whatever stands after them
    pub encoded_read : (p : Progress R) (x rest : List ℕ) → Encoded (Done (Unit {0})) p x → read_part part (x ++ rest) ≡ accepted p (length x)
    unfolding read_part
    encoded_read p x rest e =
        let a : Accepts part part.start e.commands p = rw (← e.previous) at (done_accepts p.parsed e.commands e.holds) in
        complete_at part e.commands (x ++ rest) part.start 0 p rest a (ap (λ y. y ++ rest) e.bytes) ∙ rw (zero-add, e.bytes)
