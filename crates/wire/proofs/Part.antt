-- The laws of reading a part, once for all parts.
use Prim.Native.Nat.{ℕ, zero, suc, ◌+◌, ◌-◌, ◌≤◌, ◌<◌}
use native.Mathlib.Omega.{arith}
use mathlib.Core.Path.{◌≡◌, refl, ◌∙◌, ap}
use mathlib.Core.Bool.{Bool, true, false, not, cond}
use mathlib.Core.List.{List}
use lib.ListN.{length, get_or}
use lib.Dec.{eqb, ltb}
use borrow.Author.Tests.{ltb-true, ltb-false, eqb-true, eqb-false, not-false, lt-ltb, le-ltb, ne_eqb}
use Rattle.integers.proofs.Lists.{flag}
use Rattle.wire.specs.Checks.{Check, refusal, command_checks}
use Rattle.wire.specs.Part.{Part, Reading, refused, accepted, goes, stops, operands_at, size, checks_at, after_at, command, step, follow, run, read_from, read_part, by_itself}

-- The checks of a command.

module _ {S : Type 0} (P : Part S) where
  abbrev pub operands : List ℕ → ℕ → List ℕ
  operands s at = operands_at (P.widths (get_or s at 0)) s (at + 1)

  -- a command's own checks
  abbrev pub own : List ℕ → S → ℕ → List Check
  own s read at = P.checks read (get_or s at 0) (operands s at)

  -- the command at a position is not refused
  pub record Passes (s : List ℕ) (read : S) (at : ℕ) : Type 0 where
    pub inside : at < length s
    pub here : P.here read (get_or s at 0) ≡ true
    pub room : at + size P (get_or s at 0) ≤ length s
    pub allowed : refusal (own s read at) ≡ 0

module _ {S : Type 0} (P : Part S) (s : List ℕ) (read : S) (at : ℕ) where
  -- by the command's byte
  pub own_at : (b : ℕ) → get_or s at 0 ≡ b → own P s read at ≡ P.checks read b (operands_at (P.widths b) s (at + 1))
  own_at b e = ap (λ b. P.checks read b (operands_at (P.widths b) s (at + 1))) e

  pub checks_at_passed : at < length s → refusal (checks_at P s read at) ≡ 0 → Passes P s read at
  unfolding checks_at command_checks refusal
  checks_at_passed l e =
      let b = get_or s at 0 in
      flag (not (P.here read b)) (λ t. absurd (omega (arith, rw t at e))) λ t.
      flag (ltb (length s - at) (size P b)) (λ u. absurd (omega (arith, rw (t, u) at e))) λ u.
      record {
        inside = l;
        here = not-false (P.here read b) t;
        room = omega (arith, ltb-false (length s - at) (size P b) u);
        allowed = rw (t, u) at e;
      }

  pub passed_checks_at : Passes P s read at → refusal (checks_at P s read at) ≡ 0
  unfolding checks_at command_checks refusal
  passed_checks_at p = rw (p.here, le-ltb (length s - at) (size P (get_or s at 0)) (omega (arith, p.room))) p.allowed

  -- One step of the reading.

  pub step_missing : length s ≤ at → step P s read at ≡ stops (refused 2 at)
  unfolding step
  step_missing l = rw (le-ltb at (length s) l)

  pub step_refused : (n : ℕ) → at < length s → refusal (checks_at P s read at) ≡ n → (n ≡ 0 → ⊥) → step P s read at ≡ stops (refused n at)
  unfolding step command
  step_refused n l e h = rw (lt-ltb at (length s) l, e, ne_eqb n 0 h)

  pub step_goes : at < length s → refusal (checks_at P s read at) ≡ 0 → P.last (get_or s at 0) ≡ false → step P s read at ≡ goes (after_at P s read at) (at + size P (get_or s at 0))
  unfolding step command
  step_goes l e f = rw (lt-ltb at (length s) l, e, f)

  pub step_ends : at < length s → refusal (checks_at P s read at) ≡ 0 → P.last (get_or s at 0) ≡ true → step P s read at ≡ stops (accepted (after_at P s read at) (at + size P (get_or s at 0)))
  unfolding step command
  step_ends l e f = rw (lt-ltb at (length s) l, e, f)

  -- what a step does
  data Stepped : Type 0 where
    missing : length s ≤ at → step P s read at ≡ stops (refused 2 at) → Stepped
    refuses : (n : ℕ) → at < length s → refusal (checks_at P s read at) ≡ n → (n ≡ 0 → ⊥) → step P s read at ≡ stops (refused n at) → Stepped
    moves : Passes P s read at → P.last (get_or s at 0) ≡ false → step P s read at ≡ goes (after_at P s read at) (at + size P (get_or s at 0)) → Stepped
    ends : Passes P s read at → P.last (get_or s at 0) ≡ true → step P s read at ≡ stops (accepted (after_at P s read at) (at + size P (get_or s at 0))) → Stepped

  stepped : Stepped
  stepped =
      flag (ltb at (length s)) inside λ t.
      let l = ltb-false at (length s) t in missing l (step_missing l)
    where
      inside : ltb at (length s) ≡ true → Stepped
      inside t =
          let l = ltb-true at (length s) t in
          let n = refusal (checks_at P s read at) in
          flag (eqb n 0)
          (λ u. let e = eqb-true n 0 u in let p = checks_at_passed l e in flag (P.last (get_or s at 0)) (λ f. ends p f (step_ends l e f)) (λ f. moves p f (step_goes l e f)))
          (λ u. let h = eqb-false n 0 u in refuses n l refl h (step_refused n l refl h))

-- a refusal's number is not 0, which says that there is none
abbrev pub NumberedReading : {S : Type 0} → Reading S → Type 0
NumberedReading (refused n at) = n ≡ 0 → ⊥
NumberedReading (accepted read end) = Unit {0}

module _ {S : Type 0} (P : Part S) (s : List ℕ) where
  -- where two continuations agree at every later position, a step followed by either is the same
  follow_same : (read : S) (at : ℕ) (f g : S → ℕ → Reading S) → ((next : S) (to : ℕ) → at < to → to ≤ length s → f next to ≡ g next to) → follow P (step P s read at) f ≡ follow P (step P s read at) g
  unfolding follow
  follow_same read at f g h = by (stepped P s read at)
    where
      by : Stepped P s read at → follow P (step P s read at) f ≡ follow P (step P s read at) g
      by (missing l e) = rw e
      by (refuses n l q h e) = rw e
      by (moves p q e) = rw e (h _ _ (omega arith) p.room)
      by (ends p q e) = rw e

  -- more commands than bytes that are left make no difference
  pub run_enough : (k l : ℕ) (read : S) (at : ℕ) → length s - at < k → length s - at < l → run P k s read at ≡ run P l s read at
  unfolding run
  run_enough zero l read at hk hl = absurd (omega arith)
  run_enough (suc k) zero read at hk hl = absurd (omega arith)
  run_enough (suc k) (suc l) read at hk hl =
      follow_same read at (run P k s) (run P l s) λ next to a b. run_enough k l next to (omega arith) (omega arith)

  pub read_from-step : (read : S) (at : ℕ) → read_from P s read at ≡ follow P (step P s read at) (read_from P s)
  unfolding read_from run
  read_from-step read at =
      follow_same read at (run P (length s - at) s) (read_from P s) λ next to a b. run_enough (length s - at) (suc (length s - to)) next to (omega arith) (omega arith)

  -- The four ways of a reader's loop.

  pub read_from_missing : (read : S) (at : ℕ) → length s ≤ at → read_from P s read at ≡ refused 2 at
  unfolding follow
  read_from_missing read at l = rw (read_from-step read at, step_missing P s read at l)

  pub read_from_refused : (read : S) (at n : ℕ) → at < length s → refusal (checks_at P s read at) ≡ n → (n ≡ 0 → ⊥) → read_from P s read at ≡ refused n at
  unfolding follow
  read_from_refused read at n l e h = rw (read_from-step read at, step_refused P s read at n l e h)

  pub read_from_goes : (read : S) (at : ℕ) → at < length s → refusal (checks_at P s read at) ≡ 0 → P.last (get_or s at 0) ≡ false → read_from P s read at ≡ read_from P s (after_at P s read at) (at + size P (get_or s at 0))
  unfolding follow
  read_from_goes read at l e f = read_from-step read at ∙ rw (step_goes P s read at l e f)

  pub read_from_ends : (read : S) (at : ℕ) → at < length s → refusal (checks_at P s read at) ≡ 0 → P.last (get_or s at 0) ≡ true → read_from P s read at ≡ accepted (after_at P s read at) (at + size P (get_or s at 0))
  unfolding follow
  read_from_ends read at l e f = read_from-step read at ∙ rw (step_ends P s read at l e f)

  -- What holds of every reading, by the last step: where the byte is missing, where the command is refused, where it ends the
  -- part, and where it leads to a reading of which it holds.
  pub record Ways (Q : S → ℕ → Reading S → Type 0) : Type 0 where
    pub missing : (read : S) (at : ℕ) → length s ≤ at → Q read at (refused 2 at)
    pub refuses : (read : S) (at n : ℕ) → at < length s → refusal (checks_at P s read at) ≡ n → (n ≡ 0 → ⊥) → Q read at (refused n at)
    pub goes : (read : S) (at : ℕ) (r : Reading S) → Passes P s read at → P.last (get_or s at 0) ≡ false → Q (after_at P s read at) (at + size P (get_or s at 0)) r → Q read at r
    pub ends : (read : S) (at : ℕ) → Passes P s read at → P.last (get_or s at 0) ≡ true → Q read at (accepted (after_at P s read at) (at + size P (get_or s at 0)))

  run_by : (Q : S → ℕ → Reading S → Type 0) → Ways Q → (k : ℕ) (read : S) (at : ℕ) → length s - at < k → Q read at (run P k s read at)
  unfolding run follow
  run_by Q w zero read at h = absurd (omega arith)
  run_by Q w (suc k) read at h = by (stepped P s read at) (run_by Q w k)
    where
      by : Stepped P s read at → ((next : S) (to : ℕ) → length s - to < k → Q next to (run P k s next to)) → Q read at (follow P (step P s read at) (run P k s))
      by (missing l e) rest = rw e (w.missing read at l)
      by (refuses n l q h e) rest = rw e (w.refuses read at n l q h)
      by (moves p q e) rest = rw e (w.goes read at _ p q (rest _ _ (omega (arith, p.inside))))
      by (ends p q e) rest = rw e (w.ends read at p q)

  pub by_ways : (Q : S → ℕ → Reading S → Type 0) → Ways Q → (read : S) (at : ℕ) → Q read at (read_from P s read at)
  unfolding read_from
  by_ways Q w read at = run_by Q w (suc (length s - at)) read at (omega arith)

  -- a part that is accepted has a byte at least, and ends within the bytes
  pub read_from_end : (read : S) (at : ℕ) {end : S} {e : ℕ} → read_from P s read at ≡ accepted end e → (at < e) × (e ≤ length s)
  read_from_end read at {end} {e} q = by_ways (λ read at r. (end : S) (e : ℕ) → r ≡ accepted end e → (at < e) × (e ≤ length s)) ways read at end e q
    where
      ways : Ways (λ read at r. (end : S) (e : ℕ) → r ≡ accepted end e → (at < e) × (e ≤ length s))
      ways = record {
        missing = λ read at l end e q. let z : ◌≡◌ {A = ℕ} 0 1 = cc in absurd (omega arith);
        refuses = λ read at n l h g end e q. let z : ◌≡◌ {A = ℕ} 0 1 = cc in absurd (omega arith);
        goes = λ read at r p l rest end e q. omega (arith, p.inside, rest end e q);
        ends = λ read at p l end e q. let z : at + size P (get_or s at 0) ≡ e = cc in omega (arith, p.room);
      }

  -- a refusal's position is within the bytes, or just past them
  pub read_from_position : (read : S) (at : ℕ) {n p : ℕ} → at ≤ length s → read_from P s read at ≡ refused n p → (at ≤ p) × (p ≤ length s)
  read_from_position read at {n} {p} l q = by_ways (λ read at r. at ≤ length s → (n p : ℕ) → r ≡ refused n p → (at ≤ p) × (p ≤ length s)) ways read at l n p q
    where
      ways : Ways (λ read at r. at ≤ length s → (n p : ℕ) → r ≡ refused n p → (at ≤ p) × (p ≤ length s))
      ways = record {
        missing = λ read at l a n p q. let z : at ≡ p = cc in omega arith;
        refuses = λ read at m l h g a n p q. let z : at ≡ p = cc in omega arith;
        goes = λ read at r h l rest a n p q. omega (arith, rest h.room n p q);
        ends = λ read at h l a n p q. let z : ◌≡◌ {A = ℕ} 0 1 = cc in absurd (omega arith);
      }

  -- no refusal has the number 0
  pub read_from_numbered : (read : S) (at : ℕ) → NumberedReading (read_from P s read at)
  read_from_numbered = by_ways (λ read at r. NumberedReading r) (record {
    missing = λ read at l e. omega arith;
    refuses = λ read at n l e h. h;
    goes = λ read at r p l rest. rest;
    ends = λ read at p l. tt;
  })

pub read_part_numbered : {S : Type 0} (P : Part S) (s : List ℕ) → NumberedReading (read_part P s)
unfolding read_part
read_part_numbered P s = read_from_numbered P s P.start 0

pub by_itself_numbered : {S : Type 0} (s : List ℕ) (r : Reading S) → NumberedReading r → NumberedReading (by_itself s r)
unfolding by_itself
by_itself_numbered s (refused n at) d = d
by_itself_numbered {S} s (accepted read end) d = by (ltb end (length s))
  where
    by : (t : Bool) → NumberedReading {S = S} (cond t (refused 12 end) (accepted read end))
    by true = λ e. omega arith
    by false = tt
