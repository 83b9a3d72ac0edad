-- The day length that a register's bytes say is the one that it is accepted with, and the one by which its commands are refused 4.
use Prim.Native.Nat.{ℕ, ◌+◌, ◌-◌, ◌^◌, ◌<◌, ◌≤◌}
use native.Mathlib.Omega.{arith}
use native.Mathlib.Decide.{ℕ_discrete}
use mathlib.Core.Path.{◌≡◌, refl, sym, ◌∙◌, ap}
use mathlib.Core.Logic.{◌⊎◌, inl, inr, ⊎_elim}
use mathlib.Core.Bool.{Bool, true, false, false≢true, true≢false, ◌||◌}
use mathlib.Core.List.{List, [], ◌∷◌, ◌++◌, append-nil, append_assoc, flat_map}
use lib.Dec.{eqb, ltb}
use lib.IntN.{ℤ, nat_abs}
use lib.ListN.{length, get_or}
use mir.Syntax.{w32}
use mir.Val.{of_z, to_z, hbits}
use mir.Facts.{Fits-of_z}
use borrow.Author.Tests.{eqb-true, ltb-true, leb-true, eq-eqb, ne_eqb, le-ltb, not-true}
use Rattle.integers.proofs.Lists.{◌▹◌, flag, or_either}
use Rattle.integers.proofs.Machine.{read_signed, fits_signed}
use Rattle.wire.specs.Number.{bytes_of, nat_at}
use Rattle.wire.specs.Checks.{refusal, command_checks}
use Rattle.wire.specs.Part.{Reading, refused, accepted, operands_at, total, size, checks_at, after_at, read_part}
use Rattle.wire.specs.Rows.{Progress, is_among, row_of}
use Rattle.wire.specs.Encoding.{Allowed, encode}
use Rattle.wire.proofs.Number.{nat_at_front}
use Rattle.wire.proofs.Checks.{by_refusal}
use Rattle.wire.proofs.Part.{own, own_at, read_from_refused, Ways, by_ways}
use Rattle.wire.proofs.Lowest.{own_refused}
use Rattle.wire.proofs.Encoding.{reads_through}
use Rattle.wire.proofs.Accepting.{reached}
use Rattle.wire.proofs.Rest.{no_row_lem, by_bytes}
use Rattle.register.specs.declared.Register.{Register}
use Rattle.register.specs.Limits.{max_base, max_tank, usual_day}
use Rattle.register.specs.Register.{fresh, with_base}
use Rattle.register.specs.Format.{choice_checks, window_checks, is_length, length_checks, register_rows, register_part, register_in_job}
use Rattle.register.specs.Valid.{DayLength}
use Rattle.register.specs.Encoding.{base_command, encode_base, encode_length, length_in}
use Rattle.register.specs.Ranges.{TankOut, OutOfRange}
use Rattle.register.proofs.Passes.{base_iff, length_known}
use Rattle.register.proofs.Canonical.{base_bytes}

-- ---- tests of ranges

either : {A B : Type 0} (a b : Bool) → (a ≡ true → A) → (b ≡ true → B) → (a || b) ≡ true → A ⊎ B
either a b f g e = ⊎_elim (λ t. inl (f t)) (λ t. inr (g t)) (or_either a b e)

tank_out : (t : ℕ) → (eqb t 0 || ltb max_tank t) ≡ true → TankOut t
tank_out t = either (eqb t 0) (ltb max_tank t) (eqb-true t 0) (ltb-true max_tank t)

one_of : {A B C D : Type 0} → ((A ⊎ B) ⊎ C) ⊎ D → A ⊎ (B ⊎ (C ⊎ D))
one_of (inl (inl (inl a))) = inl a
one_of (inl (inl (inr b))) = inr (inl b)
one_of (inl (inr c)) = inr (inr (inl c))
one_of (inr d) = inr (inr (inr d))

module _ (s : List ℕ) where
  -- `10` stands at 0 and gives the usual length; what stands after it, at 5, settles the length
  record Reach (p : Progress Register) (at : ℕ) : Type 0 where
    start : p.previous ≡ 0 → at ≡ 0
    base : p.previous ≡ 0x10 → (at ≡ 5) × (p.parsed.day_length ≡ usual_day)
    said : (p.previous ≡ 0 → ⊥) → (p.previous ≡ 0x10 → ⊥) → p.parsed.day_length ≡ length_in s

  later : (b : ℕ) {r : Register} {at : ℕ} → 0x10 < b → r.day_length ≡ length_in s → Reach (record { previous = b; parsed = r }) at
  later b l e = record { start = λ z. absurd (omega arith); base = λ z. absurd (omega arith); said = λ _ _. e }

  module _ (p : Progress Register) (at : ℕ) (r : Reach p at) where
    -- at every command but the first and `18`
    length_here : (p.previous ≡ 0 → ⊥) → (get_or s at 0 ≡ 0x18 → ⊥) → p.parsed.day_length ≡ length_in s
    length_here d other = go (ℕ_discrete p.previous 0x10)
      where
        go : Dec (p.previous ≡ 0x10) → p.parsed.day_length ≡ length_in s
        go (yes e) = let (k, u) = r.base e in rw (ne_eqb (get_or s 5 0) 0x18 (λ f. other (rw k f))) u
        go (no e) = r.said d e

    abbrev Moves : ℕ → Type 0
    Moves b = register_part.here p b ≡ true → Reach (register_part.after p b (operands_at (register_part.widths b) s (at + 1))) (at + size register_part b)

    base_moves : Moves 0x10
    unfolding row_of total
    base_moves h = record { start = λ e. absurd (omega arith); base = λ e. (omega (arith, r.start (eqb-true p.previous 0 h)), refl); said = λ d c. absurd (c refl) }

    length_moves : get_or s at 0 ≡ 0x18 → Moves 0x18
    unfolding row_of operands_at
    length_moves e h = let (k, _) = r.base (eqb-true p.previous 0x10 h) in later 0x18 (omega arith) (rw (k, eq-eqb (get_or s 5 0) 0x18 (rw k at e)))

    -- the others leave the length as it is
    other_moves : (b : ℕ) → 0x10 < b → (b ≡ 0x18 → ⊥) → is_among 0 (row_of register_rows b).follows ≡ false
        → ((xs : List ℕ) → ((row_of register_rows b).after p.parsed xs).day_length ≡ p.parsed.day_length) → get_or s at 0 ≡ b → Moves b
    other_moves b l d first same e h = later b l (same _ ∙ length_here (λ z. false≢true (sym first ∙ rw z at h)) (λ f. d (sym e ∙ f)))

    moves : register_part.here p (get_or s at 0) ≡ true → Reach (after_at register_part s p at) (at + size register_part (get_or s at 0))
    unfolding after_at row_of
    moves =
        by_bytes (λ b. get_or s at 0 ≡ b → Moves b) register_rows (get_or s at 0) (λ n e h. absurd (false≢true (ap (λ row. is_among p.previous row.follows) (sym (no_row_lem register_rows (get_or s at 0) n)) ∙ h)))
        ((λ e. base_moves)
        ▹ other_moves 0x11 (omega arith) (λ z. omega arith) refl (λ xs. refl)
        ▹ other_moves 0x12 (omega arith) (λ z. omega arith) refl (λ xs. refl)
        ▹ other_moves 0x13 (omega arith) (λ z. omega arith) refl (λ xs. refl)
        ▹ other_moves 0x14 (omega arith) (λ z. omega arith) refl (λ xs. refl)
        ▹ other_moves 0x15 (omega arith) (λ z. omega arith) refl (λ xs. refl)
        ▹ other_moves 0x16 (omega arith) (λ z. omega arith) refl (λ xs. refl)
        ▹ length_moves
        ▹ other_moves 0x1F (omega arith) (λ z. omega arith) refl (λ xs. refl)
        ▹ tt) refl

  -- a command that is refused by a check of its own, and what was read before it
  record Refuses (n at : ℕ) : Type 0 where
    read : Progress Register
    reach : Reach read at
    here : register_part.here read (get_or s at 0) ≡ true
    checks : refusal (own register_part s read at) ≡ n

  abbrev Said : Reading (Progress Register) → Type 0
  Said (refused n at) = 2 < n → Refuses n at
  Said (accepted p end) = p.parsed.day_length ≡ length_in s

  said : Said (register_in_job s)
  unfolding register_in_job read_part after_at row_of
  said = by_ways register_part s (λ p at x. Reach p at → Said x) ways register_part.start 0 (record { start = λ e. refl; base = λ e. absurd (omega arith); said = λ d. absurd (d refl) })
    where
      ways : Ways register_part s (λ p at x. Reach p at → Said x)
      ways = record {
        missing = λ p at l r h. absurd (omega arith);
        refuses = λ p at n l e d r h. let (here, checks) = own_refused register_part s p at n h e in record { read = p; reach = r; here = here; checks = checks };
        goes = λ p at x h l rest r. rest (moves p at r h.here);
        ends = λ p at h l r. (moves p at r h.here).said (λ z. false≢true (rw z at l)) (λ z. false≢true (rw z at l));
      }

  -- an accepted register has the length that its bytes say
  pub length_said : {p : Progress Register} {end : ℕ} → register_in_job s ≡ accepted p end → p.parsed.day_length ≡ length_in s
  length_said e = rw e at said

  -- ---- refused 4

  module _ (at : ℕ) (e : register_in_job s ≡ refused 4 at) where
    refuses : Refuses 4 at
    refuses = let h : 2 < 4 → Refuses 4 at = rw e at said in h (omega arith)

    checks_at_lem : (b : ℕ) → get_or s at 0 ≡ b → refusal (register_part.checks refuses.read b (operands_at (register_part.widths b) s (at + 1))) ≡ 4
    checks_at_lem b e = rw (own_at register_part s refuses.read at b e) at refuses.checks

    -- a command that may not come first has the length that is said, unless it is the one that says it
    length_at : (b : ℕ) → is_among 0 (row_of register_rows b).follows ≡ false → (b ≡ 0x18 → ⊥) → get_or s at 0 ≡ b → refuses.read.parsed.day_length ≡ length_in s
    length_at b first d e = length_here refuses.read at refuses.reach (λ z. false≢true (sym first ∙ rw (e, z) at refuses.here)) (λ f. d (sym e ∙ f))

    -- a choice: its tank, or its minute is none of the day
    choice_out : get_or s at 0 ≡ 0x11 → TankOut (nat_at 2 s (at + 1)) ⊎ (length_in s ≤ nat_at 2 s (at + 3))
    unfolding row_of operands_at choice_checks
    choice_out b =
        let minute : at + 1 + 2 ≡ at + 3 = omega arith in
        by_refusal _ 4 (rw (length_at 0x11 refl (λ z. omega arith) b, minute) at (checks_at_lem 0x11 b)) (λ z. omega arith)
        ((λ n t. absurd (omega arith))
        ▹ (λ n. either _ _ (tank_out _) (leb-true _ _))
        ▹ (λ n t. absurd (omega arith))
        ▹ (λ n t. absurd (omega arith))
        ▹ tt)

    -- a window: its tank, its "from" is no minute of the day, its "to" is 0 or past the end of the day
    window_out : get_or s at 0 ≡ 0x13 → TankOut (nat_at 2 s (at + 1)) ⊎ ((length_in s ≤ nat_at 2 s (at + 3)) ⊎ ((nat_at 2 s (at + 5) ≡ 0) ⊎ (length_in s < nat_at 2 s (at + 5))))
    unfolding row_of operands_at window_checks
    window_out b =
        let from : at + 1 + 2 ≡ at + 3 = omega arith in
        let to : at + 3 + 2 ≡ at + 5 = omega arith in
        by_refusal _ 4 (rw (length_at 0x13 refl (λ z. omega arith) b, from, to) at (checks_at_lem 0x13 b)) (λ z. omega arith)
        ((λ n t. absurd (omega arith))
        ▹ (λ n t. one_of (either _ _ (either _ _ (either _ _ (tank_out _) (leb-true _ _)) (eqb-true _ 0)) (ltb-true _ _) t))
        ▹ (λ n t. absurd (omega arith))
        ▹ (λ n t. absurd (omega arith))
        ▹ tt)

    -- `18`: it is none of the three lengths
    length_out : get_or s at 0 ≡ 0x18 → DayLength (nat_at 2 s (at + 1)) → ⊥
    unfolding row_of operands_at length_checks
    length_out b d = by_refusal _ 4 (checks_at_lem 0x18 b) (λ z. omega arith) ((λ n t. true≢false (sym ((length_known (nat_at 2 s (at + 1))).1 d) ∙ not-true _ t)) ▹ tt)

    pub out_of_range : OutOfRange s at
    out_of_range = record { choice = choice_out; window = window_out; length = length_out }

-- ---- a length that is none of the three

module _ (base : ℤ) (n : ℕ) (rest : List ℕ) (within : nat_abs base ≤ max_base) (small : n < 2 ^ 16) (other : DayLength n → ⊥) where
  abbrev bytes : List ℕ
  bytes = encode_base base ++ encode_length n ++ rest

  base_allowed : Allowed register_part register_part.start (base_command base)
  unfolding row_of
  base_allowed =
      let s : nat_abs base < 2 ^ hbits w32 = omega arith in
      record { byte = omega arith; here = refl; operands = ((Fits-of_z (fits_signed w32 base s)).fits, tt); passes = rw (read_signed w32 base s) ((base_iff base).1 within) }

  front_bytes : encode register_part (base_command base ∷ []) ≡ encode_base base
  unfolding encode flat_map
  front_bytes = rw (base_bytes, append-nil)

  -- what has been read before `18`
  abbrev read : Progress Register
  read = reached 0x10 (with_base fresh (to_z w32 (of_z w32 base)))

  length_fails : refusal (checks_at register_part bytes read 5) ≡ 4
  unfolding checks_at command_checks refusal row_of operands_at total length_checks encode_base encode_length bytes_of
  length_fails = rw (le-ltb (length bytes - 5) 3 (omega arith), nat_at_front 2 bytes 6 n rest refl small, flag (is_length n) (λ t. absurd (other ((length_known n).0 t))) (λ t. t))

  pub other_length : register_in_job bytes ≡ refused 4 5
  unfolding register_in_job read_part encode_base encode_length bytes_of row_of
  other_length =
      reads_through register_part (base_command base ∷ []) bytes register_part.start 0 read (encode_length n ++ rest) (base_allowed, (refl, refl)) (append_assoc (encode_base base) (encode_length n) rest ∙ ap (λ x. x ++ (encode_length n ++ rest)) (sym front_bytes))
      ∙ rw front_bytes (read_from_refused register_part bytes read 5 4 (omega arith) length_fails (λ z. omega arith))
