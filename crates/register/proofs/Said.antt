-- A command that part 1 got: bytes that do not say it are read as before, and an accepted register has what it gives just where its
-- bytes say it, which is where reading as before comes to the command and it may stand there. Said once for all such commands.
use Prim.Native.Nat.{ℕ, zero, suc, ◌+◌, ◌≤◌, ◌<◌}
use native.Mathlib.Omega.{arith}
use native.Mathlib.Decide.{ℕ_discrete}
use mathlib.Core.Path.{◌≡◌, refl, sym, ◌∙◌, ap, subst}
use mathlib.Core.Logic.{◌↔◌, ⊎_elim}
use mathlib.Core.Bool.{Bool, true, false, cond, ◌&&◌, ◌||◌, false≢true, or-true, or-false}
use mathlib.Core.List.{List, [], ◌∷◌}
use lib.Dec.{eqb}
use lib.ListN.{length, get_or}
use borrow.Author.Tests.{eqb-true, eqb-false, ltb-true, lt-ltb, eq-eqb, ne_eqb}
use Rattle.integers.specs.Lists.{All}
use Rattle.integers.proofs.Lists.{flag, or_either, and_both}
use Rattle.wire.specs.Checks.{refusal, command_checks}
use Rattle.wire.specs.Part.{Part, Reading, Step, goes, stops, accepted, operands_at, size, checks_at, after_at, step, read_from, read_part}
use Rattle.wire.specs.Rows.{Progress, Row, no_row, is_among, row_of, part_of}
use Rattle.wire.specs.Walk.{passing, comes_from, comes_to}
use Rattle.wire.proofs.Part.{operands, Passes, Ways, by_ways, checks_at_passed, passed_checks_at, step_refused, step_goes, step_ends, read_from_goes}
use Rattle.wire.proofs.Prefix.{row_of_by}
use Rattle.wire.proofs.Encoding.{by_itself_accepted}
use Rattle.wire.proofs.Alike.{moved_row, rows_alike, Same, Alike, neither}
use Rattle.register.specs.declared.Register.{Register}
use Rattle.register.specs.Register.{fresh}
use Rattle.register.specs.Format.{register_rows, register_part, register_in_job, register_by_itself}
use Rattle.register.specs.Encoding.{HasByte}

-- ---- where reading comes to a byte, it stands

module _ {S : Type 0} (Q : Part S) (may : S → Bool) (b : ℕ) (s : List ℕ) where
  byte_from : (k : ℕ) (read : S) (at : ℕ) → comes_from Q may b s k read at ≡ true → HasByte b s
  unfolding comes_from passing
  byte_from zero read at e = absurd (false≢true e)
  byte_from (suc k) read at e =
      let (l, f) = and_both _ _ e in
      ⊎_elim (λ t. record { at = at; there = ltb-true _ _ l; is = eqb-true _ _ (and_both _ _ t).0 }) (past (step Q s read at) (byte_from k)) (or_either _ _ f)
    where
      past : (x : Step S) → ((read : S) (at : ℕ) → comes_from Q may b s k read at ≡ true → HasByte b s) → passing x (comes_from Q may b s k) ≡ true → HasByte b s
      past (goes read at) later t = later read at t
      past (stops x) later t = absurd (false≢true t)

  pub comes_byte : comes_to Q may b s ≡ true → HasByte b s
  unfolding comes_to
  comes_byte e = byte_from (length s) Q.start 0 e

-- ---- the rows before there was a command

-- without a byte
abbrev without : ℕ → List ℕ → List ℕ
without b [] = []
without b (x ∷ xs) = cond (eqb x b) (without b xs) (x ∷ without b xs)

abbrev older : ℕ → Row Register → Row Register
older b row = record row { follows = without b row.follows }

-- each row but that of the command with byte b, which none of the others follows
abbrev before : ℕ → List (Row Register) → List (Row Register)
before b [] = []
before b (row ∷ rows) = cond (eqb row.byte b) (before b rows) (older b row ∷ before b rows)

among_more : (x y : ℕ) (ys : List ℕ) → is_among x (y ∷ ys) ≡ (eqb x y || is_among x ys)
among_more x y [] = sym (or-false (eqb x y))
among_more x y (z ∷ zs) = refl

among_without : (b x : ℕ) → (x ≡ b → ⊥) → (xs : List ℕ) → is_among x (without b xs) ≡ is_among x xs
among_without b x d [] = refl
among_without b x d (y ∷ ys) =
    flag (eqb y b)
    (λ t. rw (t, among_more x y ys, ne_eqb x y (λ e. d (e ∙ eqb-true y b t))) (among_without b x d ys))
    (λ t. rw (t, among_more x y (without b ys), among_more x y ys, among_without b x d ys))

module _ (b : ℕ) where
  row_before : (rows : List (Row Register)) (c : ℕ) → (c ≡ b → ⊥) → row_of (before b rows) c ≡ older b (row_of rows c)
  unfolding row_of
  row_before [] c d = refl
  row_before (row ∷ rows) c d =
      flag (eqb row.byte b)
      (λ t. rw (t, ne_eqb c row.byte (λ e. d (e ∙ eqb-true row.byte b t))) (row_before rows c d))
      (λ t. rw t (flag (eqb c row.byte) (λ u. rw u) (λ u. rw u (row_before rows c d))))

  row_gone : (rows : List (Row Register)) → row_of (before b rows) b ≡ no_row
  unfolding row_of
  row_gone [] = refl
  row_gone (row ∷ rows) =
      flag (eqb row.byte b)
      (λ t. rw t (row_gone rows))
      (λ t. rw (t, ne_eqb b row.byte (λ e. eqb-false row.byte b t (sym e))) (row_gone rows))

-- ---- parts that agree

-- the command with byte b was not read, and nothing that it gives
pub record Unsaid (b : ℕ) (None : Register → Type 0) (p : Progress Register) (at : ℕ) : Type 0 where
  pub not_read : p.previous ≡ b → ⊥
  pub none : None p.parsed

-- by these rows and by those before it they agree at each command, where it may not stand itself and the others give nothing of what it
-- gives
pub agree_before : (rows : List (Row Register)) (b : ℕ) (None : Register → Type 0) → All (λ row. (row.byte ≡ b → ⊥) → (r : Register) (xs : List ℕ) → None r → None (row.after r xs)) rows
    → (p : Progress Register) (at c : ℕ) → Unsaid b None p at → (c ≡ b → is_among p.previous (row_of rows b).follows ≡ false) → Alike (part_of fresh rows) (part_of fresh (before b rows)) (Unsaid b None) p at c
agree_before rows b None kept p at c r may_not = go (ℕ_discrete c b)
  where
    go : Dec (c ≡ b) → Alike (part_of fresh rows) (part_of fresh (before b rows)) (Unsaid b None) p at c
    go (yes e) = rw e (neither (part_of fresh rows) (part_of fresh (before b rows)) (Unsaid b None) (may_not e) (ap (λ row. is_among p.previous row.follows) (row_gone b rows)))
    go (no d) =
        let same = row_before b rows c d in
        rows_alike fresh rows (before b rows) (Unsaid b None) p at c (rw same (moved_row (row_of rows c))) (rw same (sym (among_without b p.previous r.not_read (row_of rows c).follows)))
        (λ t xs. (rw same, record { not_read = d; none = row_of_by (λ c row. (c ≡ b → ⊥) → (r : Register) (xs : List ℕ) → None r → None (row.after r xs)) rows c (λ d r xs n. n) kept d p.parsed xs r.none }))

-- by way of a third
pub alike_through : {S : Type 0} (P Q T : Part S) (A B : S → ℕ → Type 0) {read : S} {at c : ℕ} → Alike P Q A read at c → Alike Q T B read at c → Alike P T (λ read at. A read at × B read at) read at c
alike_through P Q T A B a b = record {
  here = a.here ∙ b.here;
  same = λ t.
      let x = a.same t in
      let y = b.same (sym a.here ∙ t) in
      record {
        widths = x.widths ∙ y.widths;
        checks = λ xs. x.checks xs ∙ y.checks xs;
        after = λ xs. x.after xs ∙ y.after xs;
        last = x.last ∙ y.last;
        moves = λ xs q. (x.moves xs q, rw (x.after xs, x.widths) (y.moves xs (sym (x.checks xs) ∙ q)));
      };
}

-- ---- a new command with byte b, which is new where `may` has it, and gives Some of what there was not; `rows` are those before it

-- Reach holds of what was read, as far as neither it nor another new command was
pub record New (rows : List (Row Register)) (b : ℕ) (may : Progress Register → Bool) (Some : Register → Type 0) (Reach : Progress Register → ℕ → Type 0) : Type 0 where
  pub starts : Reach register_part.start 0
  pub none : (read : Progress Register) (at : ℕ) → Reach read at → Some read.parsed → ⊥
  -- any other command that may stand as before is what it was
  pub agree : (read : Progress Register) (at c : ℕ) → Reach read at → is_among read.previous (row_of rows c).follows ≡ true → (c ≡ b → may read ≡ false) → Alike register_part (part_of fresh rows) Reach read at c
  -- and any other that may not stand as before, and does now, is one that the new one never follows
  pub other : (s : List ℕ) (read : Progress Register) (at : ℕ) → Reach read at → Passes register_part s read at → is_among read.previous (row_of rows (get_or s at 0)).follows ≡ false
      → (get_or s at 0 ≡ b → may read ≡ false) → (p : Progress Register) (end : ℕ) → read_from register_part s read at ≡ accepted p end → Some p.parsed → ⊥
  -- it gives some, and no command takes any away
  pub some : (read : Progress Register) (at c : ℕ) (xs : List ℕ) → Reach read at → c ≡ b → may read ≡ true → refusal ((row_of register_rows c).checks read.parsed xs) ≡ 0 → Some ((row_of register_rows c).after read.parsed xs)
  pub kept : All (λ row. (r : Register) (xs : List ℕ) → Some r → Some (row.after r xs)) register_rows

module _ (rows : List (Row Register)) (b : ℕ) (may : Progress Register → Bool) (Some : Register → Type 0) (Reach : Progress Register → ℕ → Type 0) (new : New rows b may Some Reach) (s : List ℕ) where
  abbrev P : Part (Progress Register)
  P = register_part

  abbrev Q : Part (Progress Register)
  Q = part_of fresh rows

  -- the new command is here
  abbrev new_here : Progress Register → ℕ → Bool
  new_here read at = eqb (get_or s at 0) b && may read

  not_new : (read : Progress Register) (at : ℕ) → new_here read at ≡ false → get_or s at 0 ≡ b → may read ≡ false
  not_new read at e q = rw (eq-eqb (get_or s at 0) b q) at e

  -- where it is not, and the command may stand as before, both check alike and go on alike
  module _ (read : Progress Register) (at : ℕ) (r : Reach read at) (h : Q.here read (get_or s at 0) ≡ true) (d : new_here read at ≡ false) where
    abbrev c : ℕ
    c = get_or s at 0

    alike : Alike P Q Reach read at c
    alike = new.agree read at c r h (not_new read at d)

    here : P.here read c ≡ true
    here = alike.here ∙ h

    same : Same P Q Reach read at c
    same = alike.same here

    checks_same : refusal (checks_at P s read at) ≡ refusal (checks_at Q s read at)
    unfolding checks_at command_checks refusal
    checks_same = rw (here, h, same.widths, same.checks)

    after_same : after_at Q s read at ≡ after_at P s read at
    unfolding after_at
    after_same = sym (same.after _ ∙ ap (λ ws. Q.after read c (operands_at ws s (at + 1))) same.widths)

    size_same : size Q c ≡ size P c
    size_same = rw same.widths

    onward : at < length s → refusal (checks_at P s read at) ≡ 0 → Reach (after_at P s read at) (at + size P c)
    unfolding after_at
    onward l e = same.moves _ (checks_at_passed P s read at l e).allowed

  module _ (p : Progress Register) (end : ℕ) where
    -- what was given is kept to the end, and the command gives it

    abbrev Grown : Progress Register → ℕ → Type 0
    Grown read at = (Some read.parsed → Some p.parsed) × (Reach read at → new_here read at ≡ true → Some p.parsed)

    grown : (read : Progress Register) (at : ℕ) → read_from P s read at ≡ accepted p end → Grown read at
    unfolding after_at
    grown = by_ways P s (λ read at x. x ≡ accepted p end → Grown read at) ways
      where
        here_grown : (read : Progress Register) (at : ℕ) → Passes P s read at → (Some (after_at P s read at).parsed → Some p.parsed) → Grown read at
        here_grown read at h g = (
          (λ t. g (row_of_by (λ c row. (r : Register) (xs : List ℕ) → Some r → Some (row.after r xs)) register_rows (get_or s at 0) (λ r xs t. t) new.kept read.parsed (operands P s at) t)),
          (λ r t. let (e, m) = and_both _ _ t in g (new.some read at (get_or s at 0) (operands P s at) r (eqb-true _ _ e) m h.allowed)),
        )

        ways : Ways P s (λ read at x. x ≡ accepted p end → Grown read at)
        ways = record {
          missing = λ read at l q. let z : ◌≡◌ {A = ℕ} 0 1 = cc in absurd (omega arith);
          refuses = λ read at n l e d q. let z : ◌≡◌ {A = ℕ} 0 1 = cc in absurd (omega arith);
          goes = λ read at x h l rest q. here_grown read at h (rest q).0;
          ends = λ read at h l q. let z : after_at P s read at ≡ p = cc in here_grown read at h (subst (λ (q : Progress Register). Some q.parsed) z);
        }

    -- so it has some where reading as before comes to the command
    comes : (k : ℕ) (read : Progress Register) (at : ℕ) → Reach read at → read_from P s read at ≡ accepted p end → comes_from Q may b s k read at ≡ true → Some p.parsed
    unfolding comes_from passing
    comes zero read at r a e = absurd (false≢true e)
    comes (suc k) read at r a e =
        let (l, f) = and_both _ _ e in
        flag (new_here read at) (λ t. (grown read at a).1 r t) (λ d. past (comes k) (ltb-true _ _ l) d (rw d at f))
      where
        past : ((read : Progress Register) (at : ℕ) → Reach read at → read_from P s read at ≡ accepted p end → comes_from Q may b s k read at ≡ true → Some p.parsed)
            → at < length s → new_here read at ≡ false → passing (step Q s read at) (comes_from Q may b s k) ≡ true → Some p.parsed
        past later l d t =
            let n = refusal (checks_at Q s read at) in
            flag (eqb n 0)
            (λ z.
            let passed = eqb-true n 0 z in
            let h = (checks_at_passed Q s read at l passed).here in
            let passed' = checks_same read at r h d ∙ passed in
            flag (Q.last (get_or s at 0))
            (λ u. absurd (false≢true (rw (step_ends Q s read at l passed u) at t)))
            (λ u. later _ _ (onward read at r h d l passed') (sym (read_from_goes P s read at l passed' ((same read at r h d).last ∙ u)) ∙ a) (rw (after_same read at r h d, size_same read at r h d) at (rw (step_goes Q s read at l passed u) at t))))
            (λ z. absurd (false≢true (rw (step_refused Q s read at n l refl (eqb-false n 0 z)) at t)))

    -- and where it has some, reading as before comes to the command

    abbrev Comes : Progress Register → ℕ → Reading (Progress Register) → Type 0
    Comes read at x = x ≡ read_from P s read at → Reach read at → (k : ℕ) → length s ≤ at + k → x ≡ accepted p end → Some p.parsed → comes_from Q may b s k read at ≡ true

    comes_here : (read : Progress Register) (at : ℕ) → at < length s → new_here read at ≡ true → (k : ℕ) → length s ≤ at + k → comes_from Q may b s k read at ≡ true
    unfolding comes_from
    comes_here read at l t zero n = absurd (omega arith)
    comes_here read at l t (suc k) n = rw (lt-ltb at (length s) l, t)

    comes_on : (read : Progress Register) (at : ℕ) → Passes P s read at → (r : Reach read at) (h : Q.here read (get_or s at 0) ≡ true) → (d : new_here read at ≡ false) → P.last (get_or s at 0) ≡ false
        → ((k : ℕ) → length s ≤ at + size P (get_or s at 0) + k → comes_from Q may b s k (after_at P s read at) (at + size P (get_or s at 0)) ≡ true)
        → (k : ℕ) → length s ≤ at + k → comes_from Q may b s k read at ≡ true
    unfolding comes_from passing
    comes_on read at g r h d l rest zero n = absurd (omega (arith, g.inside))
    comes_on read at g r h d l rest (suc k) n =
        let passed = sym (checks_same read at r h d) ∙ passed_checks_at P s read at g in
        rw (lt-ltb at (length s) g.inside, step_goes Q s read at g.inside passed (sym (same read at r h d).last ∙ l), after_same read at r h d, size_same read at r h d, rest k (omega arith), or-true)

    -- a command that may not stand as before is followed by no new one
    closed : (read : Progress Register) (at : ℕ) → Reach read at → Passes P s read at → new_here read at ≡ false → Q.here read (get_or s at 0) ≡ false → read_from P s read at ≡ accepted p end → Some p.parsed → ⊥
    closed read at r g d f = new.other s read at r g f (not_new read at d) p end

    found_ways : Ways P s Comes
    found_ways = record {
      missing = λ read at l i r k n q t. let z : ◌≡◌ {A = ℕ} 0 1 = cc in absurd (omega arith);
      refuses = λ read at m l e d i r k n q t. let z : ◌≡◌ {A = ℕ} 0 1 = cc in absurd (omega arith);
      goes = λ read at x g l rest i r k n q t.
          let passed = passed_checks_at P s read at g in
          flag (new_here read at) (λ e. comes_here read at g.inside e k n) λ d.
          flag (Q.here read (get_or s at 0))
          (λ h. comes_on read at g r h d l (λ k n. rest (i ∙ read_from_goes P s read at g.inside passed l) (onward read at r h d g.inside passed) k n q t) k n)
          (λ f. absurd (closed read at r g d f (sym i ∙ q) t));
      ends = λ read at g l i r k n q t.
          let passed = passed_checks_at P s read at g in
          flag (new_here read at) (λ e. comes_here read at g.inside e k n) λ d.
          flag (Q.here read (get_or s at 0))
          (λ h. let z : after_at P s read at ≡ p = cc in absurd (new.none _ _ (onward read at r h d g.inside passed) (subst (λ (q : Progress Register). Some q.parsed) (sym z) t)))
          (λ f. absurd (closed read at r g d f (sym i ∙ q) t));
    }

    pub said_in_job : register_in_job s ≡ accepted p end → (comes_to Q may b s ≡ true) ↔ Some p.parsed
    unfolding register_in_job read_part comes_to
    said_in_job a = (
      comes (length s) P.start 0 new.starts a,
      by_ways P s Comes found_ways P.start 0 refl new.starts (length s) (omega arith) a,
    )

    pub said_by_itself : register_by_itself s ≡ accepted p end → (comes_to Q may b s ≡ true) ↔ Some p.parsed
    unfolding register_by_itself
    said_by_itself a = said_in_job (by_itself_accepted s (register_in_job s) p end a).0
