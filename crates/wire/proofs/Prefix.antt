-- The bytes that the reading of a part can look at: a part whose commands keep to limits ends within a bound, and what its reading
-- leads to stands in its first bytes.
use Prim.Native.Nat.{ℕ, zero, suc, ◌+◌, ◌-◌, ◌≤◌, ◌<◌}
use native.Mathlib.Nat.{sub-zero, zero-sub, suc-sub-suc}
use native.Mathlib.Omega.{arith}
use mathlib.Core.Path.{◌≡◌, refl, sym, ◌∙◌, ap, subst}
use mathlib.Core.Bool.{Bool, true, false, cond, false≢true}
use mathlib.Core.List.{List, [], ◌∷◌}
use lib.ListN.{length, get_or, take, drop}
use lib.Seq.{take-nil, take-take, take_all, length-take-le, get_or-take}
use lib.Dec.{eqb, leb}
use borrow.Author.Tests.{leb-true, leb-false, le-ltb, eqb-true}
use Rattle.integers.specs.Lists.{All}
use Rattle.integers.proofs.Lists.{flag}
use Rattle.wire.specs.Number.{nat_at}
use Rattle.wire.specs.Checks.{refusal, command_checks}
use Rattle.wire.specs.Part.{Part, Reading, accepted, operands_at, total, size, checks_at, after_at, read_from, read_part}
use Rattle.wire.specs.Rows.{Progress, Row, no_row, is_among, row_of, part_of}
use Rattle.wire.proofs.Part.{operands, Passes, Ways, by_ways, passed_checks_at, read_from_refused, read_from_goes, read_from_ends, read_from_end}

-- The first K bytes of a run of bytes.

pub drop-take : (n K : ℕ) (s : List ℕ) → drop n (take K s) ≡ take (K - n) (drop n s)
drop-take zero K s = rw sub-zero
drop-take (suc n) zero s = rw zero-sub
drop-take (suc n) (suc K) [] = rw take-nil
drop-take (suc n) (suc K) (x ∷ s) = rw suc-sub-suc (drop-take n K s)

nat_at-take : (k K : ℕ) (s : List ℕ) (at : ℕ) → at + k ≤ K → nat_at k (take K s) at ≡ nat_at k s at
unfolding nat_at
nat_at-take k K s at h = rw (drop-take, take-take k (K - at) (drop at s) (omega arith))

operands_at-take : (ws : List ℕ) (K : ℕ) (s : List ℕ) (at : ℕ) → at + total ws ≤ K → operands_at ws (take K s) at ≡ operands_at ws s at
unfolding operands_at total
operands_at-take [] K s at h = refl
operands_at-take (w ∷ ws) K s at h = rw (nat_at-take w K s at (omega arith), operands_at-take ws K s (at + w) (omega arith))

module _ {S : Type 0} (P : Part S) where
  -- Reach, of what has been read and the position of the next command, holds at the start and is kept by every command that is not
  -- refused; no command stands past B or takes more than M bytes, and the part ends at E at most, by what was read in the end
  pub record Limited (Reach : S → ℕ → Type 0) (B M : ℕ) (E : S → ℕ) : Type 0 where
    pub starts : Reach P.start 0
    pub near : (read : S) (at : ℕ) → Reach read at → at ≤ B
    pub small : (b : ℕ) → size P b ≤ M
    pub moves : (read : S) (at b : ℕ) (xs : List ℕ) → Reach read at → P.here read b ≡ true → refusal (P.checks read b xs) ≡ 0
        → cond (P.last b) (at + size P b ≤ E (P.after read b xs)) (Reach (P.after read b xs) (at + size P b))

  -- the command at a position that lies within the first K bytes
  module _ (K : ℕ) (s : List ℕ) (long : K ≤ length s) (read : S) (at : ℕ) (h : at + size P (get_or s at 0) ≤ K) where
    byte_take : get_or (take K s) at 0 ≡ get_or s at 0
    byte_take = get_or-take K s at 0 (omega arith)

    checks_at-take : checks_at P (take K s) read at ≡ checks_at P s read at
    unfolding checks_at command_checks
    checks_at-take =
        let b = get_or s at 0 in
        let l : length (take K s) ≡ K = length-take-le K s long in
        rw (byte_take, operands_at-take (P.widths b) K s (at + 1) (omega arith), le-ltb (length (take K s) - at) (size P b) (omega arith), le-ltb (length s - at) (size P b) (omega arith))

    after_at-take : after_at P (take K s) read at ≡ after_at P s read at
    unfolding after_at
    after_at-take =
        let e : P.after read (get_or (take K s) at 0) (operands P (take K s) at) ≡ P.after read (get_or s at 0) (operands P s at) = rw (byte_take, operands_at-take (P.widths (get_or s at 0)) K s (at + 1) (omega arith)) in
        e

    -- where it is not refused, reading goes on or ends as in the whole run

    module _ (p : Passes P s read at) where
      inside_take : at < length (take K s)
      inside_take = omega (arith, length-take-le K s long)

      passed_take : refusal (checks_at P (take K s) read at) ≡ 0
      passed_take = ap refusal checks_at-take ∙ passed_checks_at P s read at p

      goes_take : P.last (get_or s at 0) ≡ false → read_from P (take K s) read at ≡ read_from P (take K s) (after_at P s read at) (at + size P (get_or s at 0))
      goes_take l = read_from_goes P (take K s) read at inside_take passed_take (rw byte_take l) ∙ rw (after_at-take, byte_take)

      ends_take : P.last (get_or s at 0) ≡ true → read_from P (take K s) read at ≡ accepted (after_at P s read at) (at + size P (get_or s at 0))
      ends_take l = read_from_ends P (take K s) read at inside_take passed_take (rw byte_take l) ∙ rw (after_at-take, byte_take)

  -- what is accepted is accepted from the bytes before its end
  pub read_front : (s : List ℕ) (read : S) (end : ℕ) → read_part P s ≡ accepted read end → read_part P (take end s) ≡ accepted read end
  unfolding read_part
  read_front s read end q = (by_ways P s Q ways P.start 0 q).1 ∙ q
    where
      long : end ≤ length s
      long = (read_from_end P s P.start 0 q).1

      Q : S → ℕ → Reading S → Type 0
      Q next at x = x ≡ accepted read end → (at ≤ end) × (read_from P (take end s) next at ≡ x)

      ways : Ways P s Q
      ways = record {
        missing = λ next at l q. let z : ◌≡◌ {A = ℕ} 0 1 = cc in absurd (omega arith);
        refuses = λ next at n l e d q. let z : ◌≡◌ {A = ℕ} 0 1 = cc in absurd (omega arith);
        goes = λ next at x p l rest q. let (k, e) = rest q in (omega (arith, k), goes_take end s long next at k p l ∙ e);
        ends = λ next at p l q.
            let k : at + size P (get_or s at 0) ≡ end = cc in
            (omega (arith, k), ends_take end s long next at (omega (arith, k)) p l);
      }

  module _ {Reach : S → ℕ → Type 0} {B M : ℕ} {E : S → ℕ} (limits : Limited Reach B M E) where
    -- a command that is not refused
    moved : (s : List ℕ) (read : S) (at : ℕ) (l : Bool) → Passes P s read at → P.last (get_or s at 0) ≡ l → Reach read at
        → cond l (at + size P (get_or s at 0) ≤ E (after_at P s read at)) (Reach (after_at P s read at) (at + size P (get_or s at 0)))
    unfolding after_at
    moved s read at l p e r = rw e at (limits.moves read at (get_or s at 0) (operands P s at) r p.here p.allowed)

    -- where the part is accepted, it ends within its bound
    pub end_within : (s : List ℕ) {end : S} {e : ℕ} → read_part P s ≡ accepted end e → e ≤ E end
    unfolding read_part
    end_within s {end} {e} q = by_ways P s Q ways P.start 0 limits.starts end e q
      where
        Q : S → ℕ → Reading S → Type 0
        Q read at x = Reach read at → (end : S) (e : ℕ) → x ≡ accepted end e → e ≤ E end

        ways : Ways P s Q
        ways = record {
          missing = λ read at l r end e q. let z : ◌≡◌ {A = ℕ} 0 1 = cc in absurd (omega arith);
          refuses = λ read at n l h d r end e q. let z : ◌≡◌ {A = ℕ} 0 1 = cc in absurd (omega arith);
          goes = λ read at x p l rest r. rest (moved s read at false p l r);
          ends = λ read at p l r end e q.
              let z : at + size P (get_or s at 0) ≡ e = cc in
              let d : after_at P s read at ≡ end = cc in
              rw (z, d) at (moved s read at true p l r);
        }

    -- any command that is looked at lies within the first B + M bytes, so these or more of them lead to the same
    pub read_prefix : (K : ℕ) (s : List ℕ) → B + M ≤ K → read_part P (take K s) ≡ read_part P s
    unfolding read_part
    read_prefix K s k =
        flag (leb (length s) K) (λ t. ap (read_part P) (take_all K s (leb-true (length s) K t))) λ t.
        let long : K < length s = leb-false (length s) K t in
        by_ways P s Q (ways long) P.start 0 limits.starts
      where
        Q : S → ℕ → Reading S → Type 0
        Q read at x = Reach read at → read_from P (take K s) read at ≡ x

        inside : (read : S) (at : ℕ) → Reach read at → at + size P (get_or s at 0) ≤ K
        inside read at r = omega (arith, limits.near read at r, limits.small (get_or s at 0))

        ways : K < length s → Ways P s Q
        ways long =
            let full : length (take K s) ≡ K = length-take-le K s (omega arith) in
            record {
              missing = λ read at l r. absurd (omega (arith, inside read at r));
              refuses = λ read at n l e d r. read_from_refused P (take K s) read at n (omega (arith, inside read at r)) (ap refusal (checks_at-take K s (omega arith) read at (inside read at r)) ∙ e) d;
              goes = λ read at x p l rest r. goes_take K s (omega arith) read at (inside read at r) p l ∙ rest (moved s read at false p l r);
              ends = λ read at p l r. ends_take K s (omega arith) read at (inside read at r) p l;
            }

-- A part given by rows.

-- what holds of each row with its byte, and of a byte that has no row, holds of any byte with its row
pub row_of_by : {R : Type 0} (Q : ℕ → Row R → Type 0) (rows : List (Row R)) (b : ℕ) → Q b no_row → All (λ row. Q row.byte row) rows → Q b (row_of rows b)
unfolding row_of
row_of_by Q [] b none h = none
row_of_by Q (row ∷ rows) b none h =
    flag (eqb b row.byte)
    (λ t. rw t (subst (λ b. Q b row) (sym (eqb-true b row.byte t)) h.0))
    (λ t. rw t (row_of_by Q rows b none h.1))

-- a command of a row takes at most M bytes, and keeps Reach or ends the part at E at most
pub record Keeps {R : Type 0} (Reach : Progress R → ℕ → Type 0) (M : ℕ) (E : Progress R → ℕ) (b : ℕ) (row : Row R) : Type 0 where
  pub small : suc (total row.widths) ≤ M
  pub moves : (p : Progress R) (at : ℕ) (xs : List ℕ) → Reach p at → is_among p.previous row.follows ≡ true → refusal (row.checks p.parsed xs) ≡ 0
      → let after : Progress R = record { previous = b; parsed = row.after p.parsed xs } in cond row.last (at + suc (total row.widths) ≤ E after) (Reach after (at + suc (total row.widths)))

pub limited : {R : Type 0} (fresh : R) (rows : List (Row R)) {Reach : Progress R → ℕ → Type 0} {B M : ℕ} {E : Progress R → ℕ} → 1 ≤ M → Reach (record { previous = 0; parsed = fresh }) 0
    → ((p : Progress R) (at : ℕ) → Reach p at → at ≤ B) → All (λ row. Keeps Reach M E row.byte row) rows → Limited (part_of fresh rows) Reach B M E
unfolding total
limited fresh rows {Reach} {B} {M} {E} some start near h =
    let keeps : (b : ℕ) → Keeps Reach M E b (row_of rows b) = λ b. row_of_by (Keeps Reach M E) rows b (record { small = some; moves = λ p at xs r e. absurd (false≢true e) }) h in
    record {
      starts = start;
      near = near;
      small = λ b. (keeps b).small;
      moves = λ p at b xs. (keeps b).moves p at xs;
    }
