-- A part read behind other bytes, and from what has been read there: what it leads to from the front of its own bytes it leads to there,
-- position for position, where the same commands may stand in both, are right in both, and keep what relates the two.
use Prim.Native.Nat.{ℕ, ◌+◌, ◌-◌}
use native.Mathlib.Nat.{add_assoc}
use native.Mathlib.Omega.{arith}
use mathlib.Core.Path.{◌≡◌, refl, sym, ◌∙◌, ap, subst}
use mathlib.Core.Bool.{true}
use mathlib.Core.List.{List, [], ◌∷◌}
use lib.ListN.{length, get_or, take, drop, length-drop}
use lib.Seq.{get_or-drop, drop-drop}
use Rattle.integers.proofs.Lists.{flag}
use Rattle.wire.specs.Number.{little, nat_at}
use Rattle.wire.specs.Checks.{refusal, command_checks}
use Rattle.wire.specs.Part.{Part, Reading, refused, accepted, operands_at, size, checks_at, after_at, read_from}
use Rattle.wire.proofs.Part.{operands, Passes, Ways, by_ways, passed_checks_at, read_from_missing, read_from_refused, read_from_goes, read_from_ends}

module _ {S : Type 0} (P : Part S) (Rel : ℕ → S → S → Type 0) where
  -- a command with this byte may stand here in both readings or in neither; where it may, its checks lead to the same number in both, and
  -- it keeps what relates the two
  pub record Same (at b : ℕ) (read read' : S) : Type 0 where
    pub here : P.here read' b ≡ P.here read b
    pub checks : P.here read b ≡ true → (xs : List ℕ) → refusal (P.checks read' b xs) ≡ refusal (P.checks read b xs)
    pub after : P.here read b ≡ true → (xs : List ℕ) → Rel (at + size P b) (P.after read b xs) (P.after read' b xs)

-- what the one leads to the other leads to k bytes later
abbrev pub Behind : {S : Type 0} → (ℕ → S → S → Type 0) → ℕ → Reading S → Reading S → Type 0
Behind Rel k (refused n at) x = x ≡ refused n (k + at)
Behind {S} Rel k (accepted end e) x = (end' : S) × (Rel e end end' × (x ≡ accepted end' (k + e)))

-- s stands in s' from position k on
module _ (k : ℕ) (s s' : List ℕ) (behind : drop k s' ≡ s) where
  byte_behind : (at : ℕ) → get_or s' (k + at) 0 ≡ get_or s at 0
  byte_behind at = sym (get_or-drop k s' at 0) ∙ ap (λ x. get_or x at 0) behind

  nat_behind : (w at : ℕ) → nat_at w s' (k + at) ≡ nat_at w s at
  unfolding nat_at
  nat_behind w at = ap (λ x. little (take w x)) (sym (drop-drop at k s') ∙ ap (drop at) behind)

  operands_behind : (ws : List ℕ) (at : ℕ) → operands_at ws s' (k + at) ≡ operands_at ws s at
  unfolding operands_at
  operands_behind [] at = refl
  operands_behind (w ∷ ws) at = rw (nat_behind w at, add_assoc, operands_behind ws (at + w))

  length_behind : length s ≡ length s' - k
  length_behind = sym (ap length behind) ∙ length-drop k s'

  left_behind : (at : ℕ) → length s' - (k + at) ≡ length s - at
  left_behind at = omega (arith, length_behind)

  module _ {S : Type 0} (P : Part S) (Rel : ℕ → S → S → Type 0) where
    -- one command

    module _ (at : ℕ) (read read' : S) (a : Same P Rel at (get_or s at 0) read read') where
      -- it is the same command
      command_behind : {A : Type 0} (f : ℕ → List ℕ → A) → f (get_or s' (k + at) 0) (operands P s' (k + at)) ≡ f (get_or s at 0) (operands P s at)
      command_behind f = ap (λ b. f b (operands_at (P.widths b) s' (k + at + 1))) (byte_behind at) ∙ ap (f (get_or s at 0)) (rw add_assoc (operands_behind (P.widths (get_or s at 0)) (at + 1)))

      -- with the same number
      checks_behind : refusal (checks_at P s' read' (k + at)) ≡ refusal (checks_at P s read at)
      unfolding checks_at command_checks refusal
      checks_behind =
          command_behind (λ b xs. refusal (command_checks (P.here read' b) (length s' - (k + at)) (size P b) (P.checks read' b xs)))
          ∙ rw (a.here, left_behind at) by_here
        where
          b : ℕ
          b = get_or s at 0

          by_here : refusal (command_checks (P.here read b) (length s - at) (size P b) (P.checks read' b (operands P s at))) ≡ refusal (command_checks (P.here read b) (length s - at) (size P b) (P.checks read b (operands P s at)))
          by_here = flag (P.here read b) (λ t. rw (t, a.checks t) refl) (λ t. rw t)

      module _ (p : Passes P s read at) where
        passes_behind : refusal (checks_at P s' read' (k + at)) ≡ 0
        passes_behind = checks_behind ∙ passed_checks_at P s read at p

        -- what has been read after it
        after_behind : Rel (at + size P (get_or s at 0)) (after_at P s read at) (after_at P s' read' (k + at))
        unfolding after_at
        after_behind = subst (Rel (at + size P (get_or s at 0)) (after_at P s read at)) (sym (command_behind (P.after read'))) (a.after p.here _)

      -- where the next one stands
      next_behind : k + at + size P (get_or s' (k + at) 0) ≡ k + (at + size P (get_or s at 0))
      next_behind = rw (byte_behind at, add_assoc)

    module _ (same : (at : ℕ) (read read' : S) → Rel at read read' → Same P Rel at (get_or s at 0) read read') where
      pub read_behind : (read read' : S) (at : ℕ) → Rel at read read' → Behind Rel k (read_from P s read at) (read_from P s' read' (k + at))
      read_behind read read' at r = by_ways P s There ways read at read' r
        where
          There : S → ℕ → Reading S → Type 0
          There read at x = (read' : S) → Rel at read read' → Behind Rel k x (read_from P s' read' (k + at))

          -- after a command that is right
          on : (read read' : S) (at : ℕ) (x : Reading S) → Rel at read read' → Passes P s read at → read_from P s' read' (k + at) ≡ read_from P s' (after_at P s' read' (k + at)) (k + (at + size P (get_or s at 0))) →
              ((next : S) → Rel (at + size P (get_or s at 0)) (after_at P s read at) next → Behind Rel k x (read_from P s' next (k + (at + size P (get_or s at 0))))) → Behind Rel k x (read_from P s' read' (k + at))
          on read read' at x r p e rest = rw e (rest _ (after_behind at read read' (same at read read' r) p))

          ways : Ways P s There
          ways = record {
            missing = λ read at l read' r. read_from_missing P s' read' (k + at) (omega (arith, length_behind));
            refuses = λ read at n l e d read' r. read_from_refused P s' read' (k + at) n (omega (arith, length_behind)) (checks_behind at read read' (same at read read' r) ∙ e) d;
            goes = λ read at x p l rest read' r.
                let a = same at read read' r in
                let go = read_from_goes P s' read' (k + at) (omega (arith, length_behind, p.inside)) (passes_behind at read read' a p) (rw (byte_behind at) l) in
                on read read' at x r p (go ∙ ap (read_from P s' (after_at P s' read' (k + at))) (next_behind at read read' a)) rest;
            ends = λ read at p l read' r.
                let a = same at read read' r in
                let end = read_from_ends P s' read' (k + at) (omega (arith, length_behind, p.inside)) (passes_behind at read read' a p) (rw (byte_behind at) l) in
                (after_at P s' read' (k + at), (after_behind at read read' a p, end ∙ ap (accepted (after_at P s' read' (k + at))) (next_behind at read read' a)));
          }
