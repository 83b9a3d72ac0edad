-- A register is refused 13 at a position just where a choice stands there that is fed outside the windows of its tank, and all else up
-- to there is right.
use Prim.Native.Nat.{ℕ, ◌+◌, ◌-◌, ◌<◌, ◌≤◌}
use native.Mathlib.Nat.{add-zero}
use native.Mathlib.Omega.{arith}
use mathlib.Core.Path.{◌≡◌, refl, sym, ◌∙◌, ap, subst}
use mathlib.Core.Logic.{inl, inr, ⊎_elim}
use mathlib.Core.Bool.{Bool, true, false, false≢true, not, ◌||◌}
use mathlib.Core.List.{List, [], ◌∷◌, ◌++◌}
use lib.Dec.{eqb, ltb, leb}
use lib.ListN.{length, get_or, drop, length-append, length-drop}
use lib.Seq.{get_or-drop, drop_at}
use borrow.Author.Tests.{eqb-true, ltb-false, eq-eqb}
use Rattle.integers.specs.Lists.{any_below, comes_before}
use Rattle.integers.proofs.Lists.{◌▹◌, flag}
use Rattle.integers.proofs.Any.{any_found, any_at}
use Rattle.wire.specs.Number.{Bytes, nat_at, bytes_of}
use Rattle.wire.proofs.Number.{length-bytes_of}
use Rattle.wire.specs.Checks.{refusal, command_checks}
use Rattle.wire.specs.Part.{Part, Reading, refused, operands_at, total, size, checks_at, read_part}
use Rattle.wire.specs.Rows.{Progress, is_among, row_of}
use Rattle.wire.specs.Encoding.{Command, Fit, encode_command, encode}
use Rattle.wire.proofs.Checks.{by_refusal, refusal_none}
use Rattle.wire.proofs.Part.{own, own_at, Ways, by_ways}
use Rattle.wire.proofs.Rest.{no_row_lem, by_bytes}
use Rattle.wire.proofs.Lowest.{own_refused}
use Rattle.wire.proofs.Encoding.{command_at, command_at_bytes, command_at_reads}
use Rattle.wire.proofs.Grammar.{last_from, kinds_none, kinds_absent, kinds_stand, kinds_said, said_kinds, under_all}
use Rattle.wire.proofs.Accepting.{Midway, read_starts, read_on}
use Rattle.wire.proofs.Refusing.{refused_after}
use Rattle.register.specs.declared.Register.{Register}
use Rattle.register.specs.Limits.{max_choices, max_tank}
use Rattle.register.specs.Register.{tank, minute, window_tank, fresh}
use Rattle.register.specs.Format.{base_checks, may_feed, choice_checks, choice_row, term_checks, window_checks, row_checks, range_checks, length_checks, end_checks, register_rows, register_part, register_in_job}
use Rattle.register.specs.Valid.{DayLength, MayFeed, Within, window_at}
use Rattle.register.specs.Encoding.{Header, choice_command, choice_kind, window_kind, kinds, encode_choice}
use Rattle.register.specs.Outside.{up_to_choices, EncodesChoices, ChoiceOutside}
use Rattle.register.proofs.Passes.{NextChoice, choice_iff, length_within}
use Rattle.register.proofs.MayFeed.{may_iff}
use Rattle.register.proofs.Laws.{Good, Body, HeaderWhere, ToChoices, after_choices, followed, header_stands, laws}
use Rattle.register.proofs.Accept.{header_said, header_says}
use Rattle.register.proofs.Canonical.{choice_bytes, body_after, body_only, body_bytes, body_are, header_with, header_without, header_with_lem, header_without_lem, header_forms, with_bytes, without_bytes}

-- ---- 13 is the number of a choice's last check

choice_13 : (length n tank₀ minute₀ tank minute : ℕ) (may : Bool) → refusal (choice_checks length n tank₀ minute₀ tank minute may) ≡ 13 → NextChoice length n tank₀ minute₀ tank minute × (may ≡ false)
unfolding refusal choice_checks
choice_13 length n tank₀ minute₀ tank minute may e =
    flag (leb max_choices n) (λ a. absurd (omega (arith, rw a at e))) λ a.
    flag (eqb tank 0 || ltb max_tank tank || leb length minute) (λ b. absurd (omega (arith, rw (a, b) at e))) λ b.
    flag (not (eqb n 0 || comes_before (tank₀ ∷ minute₀ ∷ []) (tank ∷ minute ∷ []))) (λ c. absurd (omega (arith, rw (a, b, c) at e))) λ c.
    flag may (λ d. absurd (omega (arith, rw (a, b, c, d) at e))) λ d.
    let z : refusal (choice_checks length n tank₀ minute₀ tank minute true) ≡ 0 = rw (a, b, c) in
    (((choice_iff length n tank₀ minute₀ tank minute true).0 z).0, d)

choice_refused : (length n tank₀ minute₀ tank minute : ℕ) (may : Bool) → NextChoice length n tank₀ minute₀ tank minute → may ≡ false → refusal (choice_checks length n tank₀ minute₀ tank minute may) ≡ 13
unfolding refusal choice_checks
choice_refused length n tank₀ minute₀ tank minute may p d =
    let f = refusal_none (choice_checks length n tank₀ minute₀ tank minute true) (omega arith) ((choice_iff length n tank₀ minute₀ tank minute true).1 (p, refl)) in
    rw (f.0, f.1.0, f.1.1.0, d)

-- ---- what stands where 13 is refused

-- a command that is refused by a check of its own stands whole
room : {S : Type 0} (P : Part S) (s : List ℕ) (read : S) (at n : ℕ) → 2 < n → refusal (checks_at P s read at) ≡ n → size P (get_or s at 0) ≤ length s - at
unfolding checks_at command_checks refusal
room P s read at n l e =
    flag (P.here read (get_or s at 0))
    (λ t. flag (ltb (length s - at) (size P (get_or s at 0))) (λ u. absurd (omega (arith, rw (t, u) at e))) (λ u. ltb-false _ _ u))
    (λ t. absurd (omega (arith, rw t at e)))

module _ (s : List ℕ) (read : Progress Register) (at : ℕ) (l : at < length s) (f : refusal (checks_at register_part s read at) ≡ 13) where
  abbrev r : Register
  r = read.parsed

  abbrev t : ℕ
  t = nat_at 2 s (at + 1)

  abbrev m : ℕ
  m = nat_at 2 s (at + 1 + 2)

  -- a choice's command
  byte_11 : get_or s at 0 ≡ 0x11
  unfolding row_of base_checks term_checks window_checks row_checks range_checks length_checks end_checks
  byte_11 =
      by_bytes (λ c. get_or s at 0 ≡ c → refusal (register_part.checks read c (operands_at (register_part.widths c) s (at + 1))) ≡ 13 → get_or s at 0 ≡ 0x11) register_rows (get_or s at 0)
      (λ n e o. by_refusal [] 13 (ap (λ row. refusal (row.checks r (operands_at row.widths s (at + 1)))) (sym (no_row_lem register_rows (get_or s at 0) n)) ∙ o) (λ z. omega arith) tt)
      ((λ e o. by_refusal _ 13 o (λ z. omega arith) ((λ n t. absurd (omega arith)) ▹ tt))
      ▹ (λ e o. e)
      ▹ (λ e o. by_refusal _ 13 o (λ z. omega arith) ((λ n t. absurd (omega arith)) ▹ (λ n t. absurd (omega arith)) ▹ (λ n t. absurd (omega arith)) ▹ (λ n t. absurd (omega arith)) ▹ tt))
      ▹ (λ e o. by_refusal _ 13 o (λ z. omega arith) ((λ n t. absurd (omega arith)) ▹ (λ n t. absurd (omega arith)) ▹ (λ n t. absurd (omega arith)) ▹ (λ n t. absurd (omega arith)) ▹ tt))
      ▹ (λ e o. by_refusal _ 13 o (λ z. omega arith) ((λ n t. absurd (omega arith)) ▹ (λ n t. absurd (omega arith)) ▹ (λ n t. absurd (omega arith)) ▹ tt))
      ▹ (λ e o. by_refusal _ 13 o (λ z. omega arith) ((λ n t. absurd (omega arith)) ▹ (λ n t. absurd (omega arith)) ▹ (λ n t. absurd (omega arith)) ▹ (λ n t. absurd (omega arith)) ▹ tt))
      ▹ (λ e o. by_refusal _ 13 o (λ z. omega arith) ((λ n t. absurd (omega arith)) ▹ (λ n t. absurd (omega arith)) ▹ (λ n t. absurd (omega arith)) ▹ (λ n t. absurd (omega arith)) ▹ (λ n t. absurd (omega arith)) ▹ tt))
      ▹ (λ e o. by_refusal _ 13 o (λ z. omega arith) ((λ n t. absurd (omega arith)) ▹ tt))
      ▹ (λ e o. by_refusal _ 13 o (λ z. omega arith) ((λ n t. absurd (omega arith)) ▹ tt))
      ▹ tt) refl (own_refused register_part s read at 13 (omega arith) f).1

  command_is : command_at register_part s at ≡ choice_command t m
  unfolding row_of operands_at
  command_is = rw byte_11

  room_5 : at + size register_part (get_or s at 0) ≤ length s
  room_5 = omega (arith, room register_part s read at 13 (omega arith) f)

  -- all its checks but the last pass
  next : NextChoice r.day_length r.choices (tank r (r.choices - 1)) (minute r (r.choices - 1)) t m × (may_feed r.windows r.window_tanks r.window_froms r.window_tos t m ≡ false)
  unfolding row_of operands_at
  next = choice_13 _ _ _ _ _ _ _ (rw (own_at register_part s read at 0x11 byte_11) at (own_refused register_part s read at 13 (omega arith) f).1)

  may_not : MayFeed r.windows (window_at r) t m → ⊥
  may_not may = false≢true (sym next.1 ∙ (may_iff r.window_tanks r.window_froms r.window_tos t m r.windows).1 may)

  record Own : Type 0 where
    window : ℕ
    there : window < r.windows
    own : window_tank r window ≡ t

  own_window : Own
  own_window =
      flag (any_below r.windows own)
      (λ e. let w = any_found r.windows own e in record { window = w.index; there = w.below; own = eqb-true (window_tank r w.index) t w.passes })
      (λ e. absurd (may_not (inl λ j k o. false≢true (sym e ∙ any_at r.windows own j k (eq-eqb (window_tank r j) t o)))))
    where
      own : ℕ → Bool
      own j = eqb (window_tank r j) t

  -- with what has been read before it
  outside_here : Bytes s → Midway fresh register_rows laws s read at → ChoiceOutside s at
  unfolding row_of total
  outside_here b mid =
      let B = Bytes s in
      let cs = mid.commands in
      let here = rw byte_11 at (own_refused register_part s read at 13 (omega arith) f).0 in
      let last : is_among (last_from 0 cs) choice_row.follows ≡ true = rw mid.previous at here in
      let (d, body) = followed choice_row.follows refl last mid.holds in
      let none = kinds_absent r (ToChoices B r) (after_choices B) cs choice_row.follows tt last body in
      let (h, (wide, (x, (fits, q)))) = body_only r (kinds_said r B b (HeaderWhere B r) (Header r) kinds cs (λ ds. header_said B r ds b) body) in
      let front = encode register_part cs in
      let front_is : front ≡ up_to_choices (encode register_part h) r = ap (encode register_part) q ∙ body_bytes r wide h none.0 none.1.0 in
      let w = own_window in
      record {
        before = r;
        within = mid.holds.within;
        day = d;
        no_row = none.0;
        no_term = none.1.0;
        front = front;
        encodes = ⊎_elim (λ e. inl (front_is ∙ ap (λ h. up_to_choices (encode register_part h) r) e ∙ ap (λ x. up_to_choices x r) (with_bytes r)))
            (λ (u, e). inr (u, front_is ∙ ap (λ h. up_to_choices (encode register_part h) r) e ∙ ap (λ x. up_to_choices x r) (without_bytes r))) (header_forms r x);
        t = t;
        m = m;
        rest = drop (at + size register_part (get_or s at 0)) s;
        bytes = mid.bytes b ∙ ap (λ x. front ++ x) (command_at_bytes register_part s at b room_5 ∙ ap (λ x. x ++ drop (at + size register_part (get_or s at 0)) s) (ap (encode_command register_part) command_is ∙ choice_bytes t m));
        position = omega (arith, ap length (mid.bytes b) ∙ length-append front (drop at s), length-drop at s);
        few = next.0.few;
        ranges = next.0.fits;
        rises = next.0.rises;
        window = w.window;
        there = w.there;
        own = w.own;
        outside = λ i. may_not (inr i);
      }

pub only_outside : (s : List ℕ) (at : ℕ) → Bytes s → register_in_job s ≡ refused 13 at → ChoiceOutside s at
unfolding register_in_job read_part
only_outside s at b e = by_ways register_part s Q ways register_part.start 0 (read_starts fresh register_rows laws s) e
  where
    Q : Progress Register → ℕ → Reading (Progress Register) → Type 0
    Q read k x = Midway fresh register_rows laws s read k → x ≡ refused 13 at → ChoiceOutside s at

    ways : Ways register_part s Q
    ways = record {
      missing = λ read k l mid q. let z : ◌≡◌ {A = ℕ} 2 13 = cc in absurd (omega arith);
      refuses = λ read k n l f d mid q.
          let o : n ≡ 13 = cc in
          let i : k ≡ at = cc in
          let g : refusal (checks_at register_part s read k) ≡ 13 = f ∙ o in
          subst (ChoiceOutside s) i (outside_here s read k l g b mid);
      goes = λ read k x p l rest mid q. rest (read_on fresh register_rows laws s read k p mid l) q;
      ends = λ read k p l mid q. let z : ◌≡◌ {A = ℕ} 0 1 = cc in absurd (omega arith);
    }

-- ---- and it is refused there

abbrev U : Type 0
U = Unit {0}

-- the base cost, the day length, windows and choices, all of them right
module _ (r : Register) (within : Within r) (day : DayLength r.day_length) (no_row : r.rows ≡ 0) (no_term : r.terms ≡ 0) (front : List ℕ) (encodes : EncodesChoices r front) where
  record Header_of : Type 0 where
    commands : List Command
    are : Header r commands
    bytes : front ≡ up_to_choices (encode register_part commands) r

  header_of : Header_of
  header_of =
      ⊎_elim
      (λ e. record { commands = header_with r; are = header_with_lem r; bytes = e ∙ ap (λ x. up_to_choices x r) (sym (with_bytes r)) })
      (λ (u, e). record { commands = header_without r; are = header_without_lem r u; bytes = e ∙ ap (λ x. up_to_choices x r) (sym (without_bytes r)) }) encodes

  -- their commands, no term among them

  abbrev wide : ℕ → Bool
  wide t = false

  cs : List Command
  cs = body_after r wide header_of.commands

  body : Body U r cs
  unfolding cs
  body = said_kinds r U (Header r) (HeaderWhere U r) kinds cs (header_says U r) (body_are r wide (λ t l. absurd (omega (arith, no_term))) header_of.commands header_of.are)

  good : Good U r cs
  good = record { within = within; body = inr (day, body) }

  front_is : encode register_part cs ≡ front
  unfolding cs
  front_is = body_bytes r wide header_of.commands no_row no_term ∙ sym header_of.bytes

  after_them : is_among (last_from 0 cs) choice_row.follows ≡ true
  after_them =
      kinds_stand r (HeaderWhere U r) (under_all U (window_kind ∷ choice_kind ∷ [])) cs (0x10 ∷ 0x18 ∷ []) choice_row.follows tt (header_stands U r)
      (kinds_none r (ToChoices U r) (after_choices U) cs (no_row, (no_term, tt)) body)

  -- and after them a choice, which its own checks refuse
  module _ (s : List ℕ) (at t m : ℕ) (rest : List ℕ) (e : s ≡ front ++ (encode_choice t m ++ rest)) (position : at ≡ length front) where
    pub choice_dropped : drop at s ≡ encode_choice t m ++ rest
    choice_dropped = ap (drop at) e ∙ drop_at front (encode_choice t m ++ rest) at (sym position)

    pub choice_byte : get_or s at 0 ≡ 0x11
    unfolding encode_choice
    choice_byte = (rw add-zero at (sym (get_or-drop at s 0 0))) ∙ ap (λ (l : List ℕ). get_or l 0 0) choice_dropped

    choice_long : at + size register_part 0x11 ≤ length s
    unfolding encode_choice row_of total
    choice_long =
        let four : length (bytes_of 2 t ++ bytes_of 2 m) ≡ 4 = length-append (bytes_of 2 t) (bytes_of 2 m) ∙ rw (length-bytes_of, length-bytes_of) in
        omega (arith, ap length choice_dropped ∙ length-append (0x11 ∷ (bytes_of 2 t ++ bytes_of 2 m)) rest, length-drop at s, four)

    pub choice_refused_there : (n : ℕ) → refusal (choice_row.checks r (operands_at choice_row.widths s (at + 1))) ≡ n → (n ≡ 0 → ⊥) → register_in_job s ≡ refused n at
    unfolding register_in_job row_of
    choice_refused_there n own d =
        let a : length (encode register_part cs) ≡ at = ap length front_is ∙ sym position in
        let whole : s ≡ encode register_part cs ++ (encode_choice t m ++ rest) = e ∙ ap (λ x. x ++ (encode_choice t m ++ rest)) (sym front_is) in
        refused_after fresh register_rows laws r cs good s (encode_choice t m ++ rest) whole 0x11 n (rw a choice_byte) after_them (rw a choice_long) (rw a own) d
        ∙ ap (refused n) a

module _ (s : List ℕ) (at : ℕ) (c : ChoiceOutside s at) where
  abbrev reg : Register
  reg = c.before

  dropped : drop at s ≡ encode_command register_part (choice_command c.t c.m) ++ c.rest
  dropped = choice_dropped reg c.within c.day c.no_row c.no_term c.front c.encodes s at c.t c.m c.rest c.bytes c.position ∙ ap (λ x. x ++ c.rest) (sym (choice_bytes c.t c.m))

  fit : Fit (register_part.widths 0x11) (c.t ∷ c.m ∷ [])
  unfolding row_of
  fit = (omega (arith, c.ranges.tank_within), (omega (arith, c.ranges.minute_below, length_within c.day), tt))

  stands : command_at register_part s at ≡ choice_command c.t c.m
  stands = command_at_reads register_part s at (choice_command c.t c.m) c.rest fit dropped

  may_not_here : may_feed reg.windows reg.window_tanks reg.window_froms reg.window_tos c.t c.m ≡ false
  may_not_here =
      flag (may_feed reg.windows reg.window_tanks reg.window_froms reg.window_tos c.t c.m)
      (λ t. absurd (⊎_elim (λ none. none c.window c.there c.own) c.outside ((may_iff reg.window_tanks reg.window_froms reg.window_tos c.t c.m reg.windows).0 t)))
      (λ t. t)

  -- its own checks, of the operands that are read
  own_13 : refusal (choice_row.checks reg (operands_at choice_row.widths s (at + 1))) ≡ 13
  unfolding row_of
  own_13 =
      let byte : get_or s at 0 ≡ 0x11 = ap (λ c. c.byte) stands in
      ap (λ b. refusal (choice_row.checks reg (operands_at (register_part.widths b) s (at + 1)))) (sym byte)
      ∙ ap (λ (k : Command). refusal (choice_row.checks reg k.operands)) stands
      ∙ choice_refused reg.day_length reg.choices (tank reg (reg.choices - 1)) (minute reg (reg.choices - 1)) c.t c.m _ (record { few = c.few; fits = c.ranges; rises = c.rises }) may_not_here

  pub outside : register_in_job s ≡ refused 13 at
  outside = choice_refused_there reg c.within c.day c.no_row c.no_term c.front c.encodes s at c.t c.m c.rest c.bytes c.position 13 own_13 (λ z. omega arith)
