-- Commands that can be taken back one by one are read one after the other; and a command that stands after them and is not right is refused
-- there.
use Prim.Native.Nat.{ℕ, zero, suc, ◌+◌, ◌-◌, ◌<◌, ◌≤◌}
use native.Mathlib.Nat.{zero-add}
use native.Mathlib.Omega.{arith}
use mathlib.Core.Path.{◌≡◌, refl, ◌∙◌, ap}
use mathlib.Core.Logic.{⊎_elim}
use mathlib.Core.Bool.{true, false}
use mathlib.Core.List.{List, [], ◌∷◌, ◌++◌}
use lib.ListN.{length, get_or, length-append}
use borrow.Author.Tests.{le-ltb}
use Rattle.wire.specs.Checks.{refusal, command_checks}
use Rattle.wire.specs.Part.{Part, refused, operands_at, size, checks_at, read_part}
use Rattle.wire.specs.Rows.{Progress, Row, is_among, row_of, part_of}
use Rattle.wire.specs.Encoding.{Command, encode, Allowed, after_command}
use Rattle.wire.specs.Refused.{Reaches}
use Rattle.wire.proofs.Part.{own, own_at, read_from_refused}
use Rattle.wire.proofs.Encoding.{reads_through}
use Rattle.wire.proofs.Grammar.{last_from, last_from_one}
use Rattle.wire.proofs.Accepting.{reached, Back, Laws}

own_fails : {S : Type 0} (P : Part S) (s : List ℕ) (read : S) (at n : ℕ) → P.here read (get_or s at 0) ≡ true → at + size P (get_or s at 0) ≤ length s → refusal (own P s read at) ≡ n → refusal (checks_at P s read at) ≡ n
unfolding checks_at command_checks refusal
own_fails P s read at n h l e = rw (h, le-ltb (length s - at) (size P (get_or s at 0)) (omega arith)) e

module _ {R : Type 0} (fresh : R) (rows : List (Row R)) {Good Done : Type 0 → R → List Command → Type 0} (laws : Laws fresh rows Good Done) where
  abbrev P : Part (Progress R)
  P = part_of fresh rows

  reaches_one : (cs : List Command) (read next : Progress R) (c : Command) → Reaches P read cs next → Allowed P next c → P.last c.byte ≡ false → Reaches P read (cs ++ (c ∷ [])) (after_command P next c)
  reaches_one [] read next c e a l = (rw e a, (l, ap (λ x. after_command P x c) e))
  reaches_one (d ∷ ds) read next c h a l = (h.0, (h.1.0, reaches_one ds _ next c h.1.1 a l))

  good_below : (k : ℕ) (r : R) (cs : List Command) → length cs < k → Good (Unit {0}) r cs → Reaches P P.start cs (reached (last_from 0 cs) r)
  good_below zero r cs l g = absurd (omega arith)
  good_below (suc k) r cs l g = ⊎_elim first (further (good_below k)) (laws.back r cs g)
    where
      first : (r ≡ fresh) × (cs ≡ []) → Reaches P P.start cs (reached (last_from 0 cs) r)
      first (e, f) = rw (e, f) refl

      further : ((r : R) (cs : List Command) → length cs < k → Good (Unit {0}) r cs → Reaches P P.start cs (reached (last_from 0 cs) r)) → Back fresh rows (Good (Unit {0})) false r cs → Reaches P P.start cs (reached (last_from 0 cs) r)
      further before b =
          let n : length b.front < k = omega (arith, ap length b.whole ∙ length-append b.front (b.command ∷ [])) in
          rw (b.whole, last_from_one 0 b.front b.command, ← b.after) (reaches_one b.front P.start (reached (last_from 0 b.front) b.before) b.command (before b.before b.front n b.good) b.allowed b.ends_is)

  module _ (r : R) (cs : List Command) (g : Good (Unit {0}) r cs) (s post : List ℕ) (e : s ≡ encode P cs ++ post) where
    -- where the command stands
    abbrev at : ℕ
    at = length (encode P cs)

    -- a command there whose checks lead to this number
    pub refused_reached : (n : ℕ) → at < length s → refusal (checks_at P s (reached (last_from 0 cs) r) at) ≡ n → (n ≡ 0 → ⊥) → read_part P s ≡ refused n at
    unfolding read_part
    refused_reached n l f d =
        let read = reached (last_from 0 cs) r in
        reads_through P cs s P.start 0 read post (good_below (suc (length cs)) r cs (omega arith) g) e ∙ rw zero-add (read_from_refused P s read at n l f d)

    -- and one that may stand there, whole, by its own checks
    pub refused_after : (b n : ℕ) → get_or s at 0 ≡ b → is_among (last_from 0 cs) (row_of rows b).follows ≡ true → at + size P b ≤ length s →
        refusal ((row_of rows b).checks r (operands_at (P.widths b) s (at + 1))) ≡ n → (n ≡ 0 → ⊥) → read_part P s ≡ refused n at
    refused_after b n byte here long own_refused d =
        let read = reached (last_from 0 cs) r in
        refused_reached n (omega (arith, long)) (own_fails P s read at n (rw byte here) (rw byte long) (ap refusal (own_at P s read at b byte) ∙ own_refused)) d
