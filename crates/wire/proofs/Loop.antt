-- A reader's loop over a part given by rows: what is read from here on is what the whole is. By the byte of the command that
-- stands here.
use Prim.Native.Nat.{ℕ, suc, ◌+◌, ◌-◌, ◌<◌, ◌≤◌}
use mathlib.Core.Path.{◌≡◌, refl, sym, ◌∙◌, ap, ap₂}
use mathlib.Core.Bool.{true, false}
use mathlib.Core.List.{List, []}
use lib.ListN.{length, get_or}
use Rattle.wire.specs.Number.{Bytes}
use Rattle.wire.specs.Checks.{refusal, command_checks}
use Rattle.wire.specs.Part.{Part, refused, accepted, operands_at, total, size, checks_at, after_at, read_from, read_part}
use Rattle.wire.specs.Rows.{Progress, Row, is_among, row_of, part_of}
use Rattle.wire.specs.Encoding.{Command}
use Rattle.wire.proofs.Checks.{command_refused, command_own}
use Rattle.wire.proofs.Part.{own_at, checks_at_passed, read_from_missing, read_from_refused, read_from_goes, read_from_ends}
use Rattle.wire.proofs.Accepting.{reached, Laws, Read, read_starts, read_on}

module _ {R : Type 0} (fresh : R) (rows : List (Row R)) where
  abbrev part : Part (Progress R)
  part = part_of fresh rows

  -- the row of the byte b, its operands where they stand, and what was read with it

  abbrev pub operands_of : List ℕ → ℕ → ℕ → List ℕ
  operands_of s at b = operands_at (row_of rows b).widths s (at + 1)

  abbrev pub size_of : ℕ → ℕ
  size_of b = suc (total (row_of rows b).widths)

  abbrev pub next_of : List ℕ → Progress R → ℕ → ℕ → Progress R
  next_of s p at b = reached b ((row_of rows b).after p.parsed (operands_of s at b))

  -- the command at a position has the byte b and is not refused
  pub record Here (s : List ℕ) (p : Progress R) (at b : ℕ) : Type 0 where
    pub place : is_among p.previous (row_of rows b).follows ≡ true
    pub room : at + size_of b ≤ length s
    pub allowed : refusal ((row_of rows b).checks p.parsed (operands_of s at b)) ≡ 0

  module _ (s : List ℕ) (p : Progress R) (at b : ℕ) (e : get_or s at 0 ≡ b) where
    pub here_at : at < length s → refusal (checks_at part s p at) ≡ 0 → Here s p at b
    here_at l q =
        let h = checks_at_passed part s p at l q in
        record { place = rw e at h.here; room = rw e at h.room; allowed = ap refusal (sym (own_at part s p at b e)) ∙ h.allowed }

    -- its checks: where the common ones gave n, and n is not 0; and where it is
    module _ (n : ℕ) (q : n ≡ refusal (command_checks (is_among p.previous (row_of rows b).follows) (length s - at) (size_of b) [])) where
      pub common_refused : (n ≡ 0 → ⊥) → n ≡ refusal (checks_at part s p at)
      unfolding checks_at
      common_refused h = rw e (command_refused _ _ _ _ n q h)

      pub common_own : n ≡ 0 → refusal ((row_of rows b).checks p.parsed (operands_of s at b)) ≡ refusal (checks_at part s p at)
      unfolding checks_at
      common_own h = rw e (sym (command_own _ _ _ _ n q h))

  -- what is read from here on is what the whole is
  pub record Going (Good : Type 0 → R → List Command → Type 0) (s : List ℕ) (p : Progress R) (at : ℕ) : Type 0 where
    pub so_far : Read fresh rows (Good (Bytes s)) s p at
    pub same : read_from part s p at ≡ read_part part s

  module _ {Good Done : Type 0 → R → List Command → Type 0} (laws : Laws fresh rows Good Done) where
    pub going_starts : (s : List ℕ) → Going Good s part.start 0
    unfolding read_part
    going_starts s = record { so_far = read_starts fresh rows laws s; same = refl }

    module _ {s : List ℕ} {p : Progress R} {at : ℕ} (g : Going Good s p at) where
      pub going_missing : length s ≤ at → read_part part s ≡ refused 2 at
      going_missing l = sym g.same ∙ read_from_missing part s p at l

      pub going_refused : (n : ℕ) → at < length s → n ≡ refusal (checks_at part s p at) → (n ≡ 0 → ⊥) → read_part part s ≡ refused n at
      going_refused n l e h = sym g.same ∙ read_from_refused part s p at n l (sym e) h

      module _ (l : at < length s) (q : refusal (checks_at part s p at) ≡ 0) (b : ℕ) (e : get_or s at 0 ≡ b) where
        pub going_on : (row_of rows b).last ≡ false → Going Good s (next_of s p at b) (at + size_of b)
        unfolding after_at
        going_on f =
            let last : part.last (get_or s at 0) ≡ false = rw e f in
            let next : after_at part s p at ≡ next_of s p at b = ap (λ b. next_of s p at b) e in
            let to : at + size part (get_or s at 0) ≡ at + size_of b = rw e in
            let on : Going Good s (after_at part s p at) (at + size part (get_or s at 0)) = record { so_far = read_on fresh rows laws s p at (checks_at_passed part s p at l q) g.so_far last; same = sym (read_from_goes part s p at l q last) ∙ g.same } in
            rw (next, to) at on

        pub going_ends : (row_of rows b).last ≡ true → read_part part s ≡ accepted (next_of s p at b) (at + size_of b)
        unfolding after_at
        going_ends f =
            let last : part.last (get_or s at 0) ≡ true = rw e f in
            sym g.same ∙ read_from_ends part s p at l q last ∙ ap₂ accepted (ap (λ b. next_of s p at b) e) (rw e)
