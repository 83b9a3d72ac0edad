-- Where the command of a term stands: a form of the term, in every encoding of the register; and how far from the front, byte by byte.
use Prim.Native.Nat.{ℕ, zero, suc, ◌+◌, ◌*◌, ◌<◌}
use native.Mathlib.Omega.{arith}
use mathlib.Core.Path.{◌≡◌, refl, sym, ◌∙◌, ap}
use mathlib.Core.Logic.{⊎_elim}
use mathlib.Core.Bool.{Bool, true, false, cond, ◌||◌}
use mathlib.Core.List.{List, [], ◌∷◌, ◌++◌, append_assoc, flat_map}
use lib.IntN.{ℤ}
use lib.ListN.{length, get_or, length-append}
use Rattle.integers.specs.Lists.{join_below}
use Rattle.wire.specs.Number.{bytes_of}
use Rattle.wire.specs.Rows.{row_of}
use Rattle.wire.specs.Encoding.{Command, fields, encode_command, encode}
use Rattle.wire.specs.Grammar.{Only, Among}
use Rattle.wire.specs.Walk.{Stands}
use Rattle.wire.proofs.Grammar.{test_among, each_below, each_only}
use Rattle.wire.proofs.Encoding.{encode-append}
use Rattle.wire.proofs.Walk.{counted, counted_append, accepts_sized, position_found, each_counted, each_length, each_around, entry_stands, stands_byte}
use Rattle.register.specs.declared.Register.{Register}
use Rattle.register.specs.Limits.{usual_day}
use Rattle.register.specs.Register.{tank, minute, mask, coefficient, high, is_range, window_tank, window_from, window_to, row_total}
use Rattle.register.specs.Format.{register_part}
use Rattle.register.specs.Valid.{Valid}
use Rattle.register.specs.Encoding.{choice_command, window_command, row_list, row_command, end_command, Header, choice_kind, term_kind, window_kind, row_kind, Encodes, encode_base, encode_length, Sayable, encode_after}
use Rattle.register.specs.Position.{term_position}
use Rattle.register.proofs.Accept.{commands_accepted}
use Rattle.register.proofs.Canonical.{entry_command, entry_among, windows_of, choices_of, rows_of, term_of, terms_of, commands_after, after_are, after_bytes, header_with, header_without, header_with_lem, header_without_lem, header_forms, with_bytes, without_bytes}

-- a command in the middle
around : (p f b e : List Command) (c : Command) → p ++ (f ++ (c ∷ b)) ++ e ≡ p ++ f ++ (c ∷ (b ++ e))
around p f b e c = simp append_assoc

-- ---- in every encoding

-- no command of a header is a term's
header_counted : (r : Register) {h : List Command} → Header r h → counted term_kind.bytes h ≡ 0
header_counted r x = ⊎_elim (λ e. rw e) (λ e. rw e.1) (header_forms r x)

module _ (r : Register) (v : Valid r) (s : List ℕ) (e : Encodes r s) (t : ℕ) (l : t < r.terms) where
  pub term_stands : Stands register_part term_kind r t e.commands (term_position s t)
  unfolding term_position
  term_stands =
      rw e.bytes (entry_stands register_part r (Header r) (Only (λ c. c ≡ end_command)) (window_kind ∷ choice_kind ∷ row_kind ∷ []) [] term_kind tt (λ ds h. header_counted r h) _ _ e.commands (commands_accepted r e.commands v e.are) e.are t l)

  pub term_byte : Among (get_or s (term_position s t) 0) term_kind.bytes
  term_byte = rw e.bytes (stands_byte register_part term_kind r t _ e.commands (rw e.bytes at term_stands))

-- ---- byte by byte: after those of the header, 7 bytes of each window, 5 of each choice, 35 of each row, and of each term before it 13
-- where it is said by `15` or `16` and 9 where it is said by `12`. A header has 8 with `18` and 5 without it

-- how many of the terms before t are said by `15` or `16`
abbrev pub long_before : (wide : ℕ → Bool) → Register → ℕ → ℕ
long_before wide r zero = 0
long_before wide r (suc t) = let n = long_before wide r t in cond (is_range r t || wide t) (suc n) n

entry_counted : (wide ranged : Bool) (m : ℕ) (a b : ℤ) → counted term_kind.bytes (entry_command wide ranged m a b ∷ []) ≡ 1
entry_counted wide true m a b = refl
entry_counted true false m a b = refl
entry_counted false false m a b = refl

entry_length : (wide ranged : Bool) (m : ℕ) (a b : ℤ) → length (encode register_part (entry_command wide ranged m a b ∷ [])) ≡ cond (ranged || wide) 13 9
unfolding encode flat_map encode_command fields row_of bytes_of
entry_length wide true m a b = refl
entry_length true false m a b = refl
entry_length false false m a b = refl

one_more : (long : Bool) (n : ℕ) → cond long 13 9 + 4 * n ≡ 9 + 4 * cond long (suc n) n
one_more true n = omega arith
one_more false n = refl

module _ (r : Register) (v : Valid r) (wide : ℕ → Bool) (fits : Sayable wide r) where
  abbrev window_of : ℕ → Command
  window_of j = window_command (window_tank r j) (window_from r j) (window_to r j)

  abbrev choice_of : ℕ → Command
  choice_of i = choice_command (tank r i) (minute r i)

  abbrev row_command_of : ℕ → Command
  row_command_of k = row_command (row_total r k) (row_list r k)

  row_length : (k : ℕ) (c : Command) → c ≡ row_command_of k → length (encode register_part (c ∷ [])) ≡ 35
  unfolding encode flat_map encode_command fields row_of bytes_of join_below
  row_length k c d = rw d

  terms_length : (t : ℕ) → length (encode register_part (join_below t (λ i. term_of r wide i ∷ []))) ≡ 9 * t + 4 * long_before wide r t
  unfolding encode flat_map join_below
  terms_length zero = refl
  terms_length (suc t) =
      let before = join_below t (λ i. term_of r wide i ∷ []) in
      ap length (encode-append register_part before (term_of r wide t ∷ [])) ∙ length-append (encode register_part before) (encode register_part (term_of r wide t ∷ []))
      ∙ omega (arith, terms_length t, entry_length (wide t) (is_range r t) (mask r t) (coefficient r t) (high r t), one_more (is_range r t || wide t) (long_before wide r t))

  -- the bytes before term t, after those of a header
  abbrev pub bytes_before : ℕ → ℕ
  bytes_before t = 7 * r.windows + 5 * r.choices + 35 * r.rows + (9 * t + 4 * long_before wide r t)

  pub position_after : (h : List Command) → Header r h → (t : ℕ) → t < r.terms → term_position (encode_after wide (encode register_part h) r) t ≡ length (encode register_part h) + bytes_before t
  unfolding term_position encode flat_map encode_command fields row_of bytes_of
  position_after h x t l =
      let windows = each_below (λ j c. c ≡ window_of j) window_of r.windows (λ j l. refl) in
      let choices = each_below (λ i c. c ≡ choice_of i) choice_of r.choices (λ i l. refl) in
      let rows = each_below (λ k c. c ≡ row_command_of k) row_command_of r.rows (λ k l. refl) in
      let m = each_around (λ t c. c ≡ term_of r wide t) r.terms (terms_of r wide) (each_below _ (term_of r wide) r.terms (λ t l. refl)) t l in
      let front = h ++ windows_of r ++ choices_of r ++ rows_of r ++ m.front in
      let whole : commands_after r wide h ≡ front ++ (m.command ∷ (m.back ++ (end_command ∷ []))) = ap (λ x. h ++ windows_of r ++ choices_of r ++ rows_of r ++ x ++ (end_command ∷ [])) m.whole ∙ around (h ++ windows_of r ++ choices_of r ++ rows_of r) m.front m.back (end_command ∷ []) m.command in
      let n : counted term_kind.bytes front ≡ t =
      rw (counted_append, counted_append, counted_append, counted_append, header_counted r x, each_counted term_kind.bytes _ 0 r.windows (windows_of r) (λ i c d. rw d) windows, each_counted term_kind.bytes _ 0 r.choices (choices_of r) (λ i c d. rw d) choices, each_counted term_kind.bytes _ 0 r.rows (rows_of r) (λ i c d. rw d) rows, each_counted term_kind.bytes _ 1 t m.front (λ i c d. rw d (entry_counted (wide i) (is_range r i) (mask r i) (coefficient r i) (high r i))) m.before) (omega arith) in
      let k : length (encode register_part front) ≡ length (encode register_part h) + bytes_before t =
      rw (encode-append register_part (h ++ windows_of r ++ choices_of r ++ rows_of r) m.front, encode-append register_part (h ++ windows_of r ++ choices_of r) (rows_of r), encode-append register_part (h ++ windows_of r) (choices_of r), encode-append register_part h (windows_of r), length-append (encode register_part h ++ encode register_part (windows_of r) ++ encode register_part (choices_of r) ++ encode register_part (rows_of r)) (encode register_part m.front), length-append (encode register_part h ++ encode register_part (windows_of r) ++ encode register_part (choices_of r)) (encode register_part (rows_of r)), length-append (encode register_part h ++ encode register_part (windows_of r)) (encode register_part (choices_of r)), length-append (encode register_part h) (encode register_part (windows_of r)), each_length register_part _ 7 r.windows (windows_of r) (λ i c d. rw d) windows, each_length register_part _ 5 r.choices (choices_of r) (λ i c d. rw d) choices, each_length register_part _ 35 r.rows (rows_of r) row_length rows, each_only (λ i c. c ≡ term_of r wide i) (term_of r wide) t m.front (λ i d f. f) m.before, terms_length t) (omega arith) in
      ap (λ s. term_position s t) (sym (after_bytes r wide h)) ∙ position_found register_part term_kind.bytes (commands_after r wide h) front _ m.command t (accepts_sized register_part (commands_after r wide h) _ _ (commands_accepted r (commands_after r wide h) v (after_are r wide fits h x))) whole n (test_among m.command.byte term_kind.bytes (rw m.form (entry_among (wide t) (is_range r t) (mask r t) (coefficient r t) (high r t)))) ∙ k

  pub position_with : (t : ℕ) → t < r.terms → term_position (encode_after wide (encode_base r.base ++ encode_length r.day_length) r) t ≡ 8 + bytes_before t
  unfolding encode_base encode_length bytes_of
  position_with t l = ap (λ x. term_position (encode_after wide x r) t) (sym (with_bytes r)) ∙ position_after (header_with r) (header_with_lem r) t l ∙ ap (λ x. length x + bytes_before t) (with_bytes r)

  pub position_without : r.day_length ≡ usual_day → (t : ℕ) → t < r.terms → term_position (encode_after wide (encode_base r.base) r) t ≡ 5 + bytes_before t
  unfolding encode_base bytes_of
  position_without u t l = ap (λ x. term_position (encode_after wide x r) t) (sym (without_bytes r)) ∙ position_after (header_without r) (header_without_lem r u) t l ∙ ap (λ x. length x + bytes_before t) (without_bytes r)
