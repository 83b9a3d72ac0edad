-- Two parts that agree at each command of a run of bytes read it alike. So a part that got a new command is shown to read input
-- without that command as before.
use Prim.Native.Nat.{ℕ, zero, suc, ◌+◌, ◌≤◌, ◌<◌}
use native.Mathlib.Omega.{arith}
use mathlib.Core.Path.{◌≡◌, refl, sym, ◌∙◌, ap}
use mathlib.Core.Bool.{Bool, true, false, ◌&&◌, ◌||◌, false≢true}
use mathlib.Core.List.{List}
use lib.Dec.{eqb}
use lib.ListN.{length, get_or}
use borrow.Author.Tests.{lt-ltb, eq-eqb}
use Rattle.integers.proofs.Lists.{flag, or_none}
use Rattle.wire.specs.Checks.{Check, refusal, command_checks}
use Rattle.wire.specs.Part.{Part, Reading, refused, accepted, operands_at, size, checks_at, after_at, step, read_from, read_part}
use Rattle.wire.specs.Rows.{Progress, Row, size_of, is_among, row_of, part_of}
use Rattle.wire.specs.Walk.{passing, comes_from, comes_to}
use Rattle.wire.proofs.Part.{Passes, Ways, by_ways, passed_checks_at, step_goes, read_from_missing, read_from_refused, read_from_goes, read_from_ends}

-- Reach holds of what was read and the position past it, where the part is accepted
abbrev pub Ended : {S : Type 0} → (S → ℕ → Type 0) → Reading S → Type 0
Ended Reach (refused n at) = Unit {0}
Ended Reach (accepted read end) = Reach read end

module _ {S : Type 0} (P Q : Part S) (Reach : S → ℕ → Type 0) where
  -- a command with this byte at a position: operands, checks, result and end are the same in both parts, and keep Reach
  pub record Same (read : S) (at b : ℕ) : Type 0 where
    pub widths : P.widths b ≡ Q.widths b
    pub checks : (xs : List ℕ) → refusal (P.checks read b xs) ≡ refusal (Q.checks read b xs)
    pub after : (xs : List ℕ) → P.after read b xs ≡ Q.after read b xs
    pub last : P.last b ≡ Q.last b
    pub moves : (xs : List ℕ) → refusal (P.checks read b xs) ≡ 0 → Reach (P.after read b xs) (at + size P b)

  -- a byte is a command here in both parts or in neither; one that is refused 1 by both need not agree in more
  pub record Alike (read : S) (at b : ℕ) : Type 0 where
    pub here : P.here read b ≡ Q.here read b
    pub same : P.here read b ≡ true → Same read at b

  pub neither : {read : S} {at b : ℕ} → P.here read b ≡ false → Q.here read b ≡ false → Alike read at b
  neither e f = record { here = e ∙ sym f; same = λ t. absurd (false≢true (sym e ∙ t)) }

  -- at a position where they agree, both check alike and go on alike
  module _ (s : List ℕ) (read : S) (at : ℕ) (a : Alike read at (get_or s at 0)) where
    checks_alike : refusal (checks_at P s read at) ≡ refusal (checks_at Q s read at)
    unfolding checks_at command_checks refusal
    checks_alike = rw (← a.here) (flag (P.here read (get_or s at 0)) (λ t. rw (t, (a.same t).widths, (a.same t).checks) refl) (λ t. rw t))

    refused_alike : (n : ℕ) → at < length s → refusal (checks_at P s read at) ≡ n → (n ≡ 0 → ⊥) → refused n at ≡ read_from Q s read at
    refused_alike n l e d = sym (read_from_refused Q s read at n l (sym checks_alike ∙ e) d)

    module _ (p : Passes P s read at) where
      pub at_same : Same read at (get_or s at 0)
      at_same = a.same p.here

      pub passes : refusal (checks_at Q s read at) ≡ 0
      passes = sym checks_alike ∙ passed_checks_at P s read at p

      pub after_alike : after_at Q s read at ≡ after_at P s read at
      unfolding after_at
      after_alike = sym (at_same.after _ ∙ ap (λ ws. Q.after read (get_or s at 0) (operands_at ws s (at + 1))) at_same.widths)

      goes_alike : (x : Reading S) → P.last (get_or s at 0) ≡ false → x ≡ read_from Q s (after_at P s read at) (at + size P (get_or s at 0)) → x ≡ read_from Q s read at
      goes_alike x l k = k ∙ sym (read_from_goes Q s read at p.inside passes (sym at_same.last ∙ l) ∙ rw (after_alike, at_same.widths))

      ends_alike : P.last (get_or s at 0) ≡ true → accepted (after_at P s read at) (at + size P (get_or s at 0)) ≡ read_from Q s read at
      ends_alike l = sym (read_from_ends Q s read at p.inside passes (sym at_same.last ∙ l) ∙ rw (after_alike, at_same.widths))

  module _ (s : List ℕ) (alike : (read : S) (at : ℕ) → Reach read at → Alike read at (get_or s at 0)) where
    pub read_alike : P.start ≡ Q.start → Reach P.start 0 → (read_part P s ≡ read_part Q s) × Ended Reach (read_part P s)
    unfolding read_part after_at
    read_alike e r = let (k, h) = by_ways P s M ways P.start 0 r in (k ∙ ap (λ start. read_from Q s start 0) e, h)
      where
        M : S → ℕ → Reading S → Type 0
        M read at x = Reach read at → (x ≡ read_from Q s read at) × Ended Reach x

        ways : Ways P s M
        ways = record {
          missing = λ read at l r. (sym (read_from_missing Q s read at l), tt);
          refuses = λ read at n l e d r. (refused_alike s read at (alike read at r) n l e d, tt);
          goes = λ read at x p l rest r.
              let a = alike read at r in
              let (k, h) = rest ((at_same s read at a p).moves _ p.allowed) in
              (goes_alike s read at a p x l k, h);
          ends = λ read at p l r.
              let a = alike read at r in
              (ends_alike s read at a p l, (at_same s read at a p).moves _ p.allowed);
        }

-- ---- parts made of rows

-- two rows of a command with the same operands, result and end
pub record SameRow {R : Type 0} (row row' : Row R) : Type 0 where
  pub widths : row.widths ≡ row'.widths
  pub after : (r : R) (xs : List ℕ) → row.after r xs ≡ row'.after r xs
  pub last : row.last ≡ row'.last

-- a row that follows others, and checks otherwise
pub moved_row : {R : Type 0} (row : Row R) {follows : List ℕ} {checks : R → List ℕ → List Check} → SameRow row (record row { follows = follows; checks = checks })
moved_row row = record { widths = refl; after = λ r xs. refl; last = refl }

-- by such rows the parts agree where the command may stand in both or in neither, and where it may its checks are the same and it keeps Reach
pub rows_alike : {R : Type 0} (fresh : R) (rows rows' : List (Row R)) (Reach : Progress R → ℕ → Type 0) (p : Progress R) (at b : ℕ) →
    let row = row_of rows b in
    let row' = row_of rows' b in
    SameRow row row' → is_among p.previous row.follows ≡ is_among p.previous row'.follows
    → (is_among p.previous row.follows ≡ true → (xs : List ℕ) → (refusal (row.checks p.parsed xs) ≡ refusal (row'.checks p.parsed xs)) × Reach (record { previous = b; parsed = row.after p.parsed xs }) (at + size_of row))
    → Alike (part_of fresh rows) (part_of fresh rows') Reach p at b
rows_alike {R} fresh rows rows' Reach p at b s h k = record {
  here = h;
  same = λ t. record { widths = s.widths; checks = λ xs. (k t xs).0; after = λ xs. ap next (s.after p.parsed xs); last = s.last; moves = λ xs q. (k t xs).1 };
}
  where
    next : R → Progress R
    next r = record { previous = b; parsed = r }

-- ---- parts that agree at every byte but one, and at that one where it may not stand

-- reading from a position on does not come to this byte where it may stand
pub record Avoids {S : Type 0} (Q : Part S) (may : S → Bool) (b : ℕ) (s : List ℕ) (read : S) (at : ℕ) : Type 0 where
  pub steps : ℕ
  pub enough : length s ≤ at + steps
  pub none : comes_from Q may b s steps read at ≡ false

-- so it may not stand at the first command; nor does reading come to it from the next one on
module _ {S : Type 0} (Q : Part S) (may : S → Bool) (b : ℕ) (s : List ℕ) (read : S) (at : ℕ) (l : at < length s) where
  avoids_here : Avoids Q may b s read at → (get_or s at 0 ≡ b → may read ≡ false) × (refusal (checks_at Q s read at) ≡ 0 → Q.last (get_or s at 0) ≡ false → Avoids Q may b s (after_at Q s read at) (at + size Q (get_or s at 0)))
  unfolding comes_from passing
  avoids_here a = go a.steps a.enough a.none
    where
      c : ℕ
      c = get_or s at 0

      go : (k : ℕ) → length s ≤ at + k → comes_from Q may b s k read at ≡ false → (c ≡ b → may read ≡ false) × (refusal (checks_at Q s read at) ≡ 0 → Q.last c ≡ false → Avoids Q may b s (after_at Q s read at) (at + size Q c))
      go zero h e = absurd (omega arith)
      go (suc k) h e =
          let past = passing (step Q s read at) (comes_from Q may b s k) in
          let f : ((eqb c b && may read) || past) ≡ false = rw (lt-ltb at (length s) l) at e in
          let (d, n) : ((eqb c b && may read) ≡ false) × (past ≡ false) = or_none (eqb c b && may read) past f in
          (λ q. rw (eq-eqb c b q) at d, λ z t. record { steps = k; enough = omega arith; none = rw (step_goes Q s read at l z t) at n })

-- so where reading from the front does not, both parts read alike
module _ {S : Type 0} (P Q : Part S) (Reach : S → ℕ → Type 0) (may : S → Bool) (b : ℕ) (agree : (read : S) (at c : ℕ) → Reach read at → (c ≡ b → may read ≡ false) → Alike P Q Reach read at c) where
  pub read_without : (s : List ℕ) → (comes_to Q may b s ≡ true → ⊥) → P.start ≡ Q.start → Reach P.start 0 → (read_part P s ≡ read_part Q s) × Ended Reach (read_part P s)
  unfolding read_part comes_to after_at
  read_without s none e r =
      let comes : S → Bool = λ start. comes_from Q may b s (length s) start 0 in
      let avoids : Avoids Q may b s P.start 0 = record { steps = length s; enough = omega arith; none = flag (comes P.start) (λ t. absurd (none (ap comes (sym e) ∙ t))) (λ t. t) } in
      let (k, h) = by_ways P s M ways P.start 0 r avoids in
      (k ∙ ap (λ start. read_from Q s start 0) e, h)
    where
      M : S → ℕ → Reading S → Type 0
      M read at x = Reach read at → Avoids Q may b s read at → (x ≡ read_from Q s read at) × Ended Reach x

      here : (read : S) (at : ℕ) → at < length s → Reach read at → Avoids Q may b s read at → Alike P Q Reach read at (get_or s at 0)
      here read at l r a = agree read at (get_or s at 0) r (avoids_here Q may b s read at l a).0

      onward : (read : S) (at : ℕ) → Alike P Q Reach read at (get_or s at 0) → Passes P s read at → P.last (get_or s at 0) ≡ false → Avoids Q may b s read at → Avoids Q may b s (after_at P s read at) (at + size P (get_or s at 0))
      onward read at h p l a =
          let same = at_same P Q Reach s read at h p in
          let next : Avoids Q may b s (after_at Q s read at) (at + size Q (get_or s at 0)) = (avoids_here Q may b s read at p.inside a).1 (passes P Q Reach s read at h p) (sym same.last ∙ l) in
          rw (after_alike P Q Reach s read at h p, ← same.widths) at next

      ways : Ways P s M
      ways = record {
        missing = λ read at l r a. (sym (read_from_missing Q s read at l), tt);
        refuses = λ read at n l e d r a. (refused_alike P Q Reach s read at (here read at l r a) n l e d, tt);
        goes = λ read at x p l rest r a.
            let h = here read at p.inside r a in
            let (k, g) = rest ((at_same P Q Reach s read at h p).moves _ p.allowed) (onward read at h p l a) in
            (goes_alike P Q Reach s read at h p x l k, g);
        ends = λ read at p l r a.
            let h = here read at p.inside r a in
            (ends_alike P Q Reach s read at h p l, (at_same P Q Reach s read at h p).moves _ p.allowed);
      }
