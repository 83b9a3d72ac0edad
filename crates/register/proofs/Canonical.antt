-- The encodings of a register, byte by byte: with `18`, and without it where the day has the usual length; and each term without a range
-- by `15`, or by `12` where its mask is narrow. What a writer makes is one.
use Prim.Native.Nat.{ℕ, ◌<◌, ◌≤◌}
use native.Mathlib.Omega.{arith}
use mathlib.Core.Path.{◌≡◌, refl, sym, ◌∙◌, ap, ap₂}
use mathlib.Core.Logic.{◌⊎◌, inl, inr, ◌↔◌, ⊎_elim}
use mathlib.Core.Bool.{Bool, true, false, cond, not, ◌&&◌, true≢false, false≢true}
use mathlib.Core.List.{List, [], ◌∷◌, ◌++◌, append-nil, flat_map}
use lib.Dec.{eqb}
use lib.IntN.{ℤ}
use lib.ListN.{length}
use lib.Pow.{pow_mono}
use mir.Syntax.{w8}
use borrow.Author.Tests.{eqb-true, leb-false}
use Rattle.integers.specs.Lists.{join_below}
use Rattle.integers.proofs.Lists.{flag}
use Rattle.integers.proofs.Any.{any_at}
use Rattle.integers.proofs.Blocks.{length_ones}
use Rattle.integers.proofs.Join.{join_cong}
use Rattle.wire.specs.Rows.{row_of}
use Rattle.wire.specs.Encoding.{Command, fields, encode_command, encode}
use Rattle.wire.specs.Grammar.{Only, Among, Form, Kinds}
use Rattle.wire.proofs.Encoding.{encode-append, encode_below}
use Rattle.wire.proofs.Many.{fields_signed}
use Rattle.wire.proofs.Grammar.{then_missing, then_present, optional_last, each_below, each_only, each_command}
use Rattle.register.specs.declared.Register.{Register}
use Rattle.register.specs.Limits.{row_entries, usual_day, narrow_choices}
use Rattle.register.specs.Register.{tank, minute, mask, coefficient, high, is_range, has_range, window_tank, window_from, window_to, row_total, row_entry}
use Rattle.register.specs.Format.{register_part}
use Rattle.register.specs.Valid.{Within}
use Rattle.register.specs.Encoding.{base_command, length_command, Header, choice_command, term_command, wide_term_command, range_command, Narrow, MasksNarrow, RangesNarrow, SaysTerm, window_command, row_list, row_command, end_command, choice_kind, term_kind, window_kind, row_kind, kinds, Commands, Encodes, encode_base, encode_choice, encode_term, encode_wide_term, encode_range, encode_entry, encode_window, encode_row, encode_length, Sayable, encode_after, EncodedBy, not_narrow, encode_with_length, encode_without_length, encode_register}
use Rattle.register.specs.Outside.{up_to_choices}

-- ---- the bytes of a command

pub base_bytes : (z : ℤ) → encode_command register_part (base_command z) ≡ encode_base z
unfolding encode_command fields row_of encode_base
base_bytes z = rw append-nil

pub choice_bytes : (t m : ℕ) → encode_command register_part (choice_command t m) ≡ encode_choice t m
unfolding encode_command fields row_of encode_choice
choice_bytes t m = rw append-nil

term_bytes : (m : ℕ) (z : ℤ) → encode_command register_part (term_command m z) ≡ encode_term m z
unfolding encode_command fields row_of encode_term
term_bytes m z = rw append-nil

range_bytes : (m : ℕ) (a b : ℤ) → encode_command register_part (range_command m a b) ≡ encode_range m a b
unfolding encode_command fields row_of encode_range
range_bytes m a b = rw append-nil

wide_term_bytes : (m : ℕ) (z : ℤ) → encode_command register_part (wide_term_command m z) ≡ encode_wide_term m z
unfolding encode_command fields row_of encode_wide_term
wide_term_bytes m z = rw append-nil

window_bytes : (t f o : ℕ) → encode_command register_part (window_command t f o) ≡ encode_window t f o
unfolding encode_command fields row_of encode_window
window_bytes t f o = rw append-nil

row_bytes : (z : ℤ) (es : List ℤ) → length es ≡ row_entries → encode_command register_part (row_command z es) ≡ encode_row z es
unfolding encode_command fields row_of encode_row
row_bytes z es l = rw (fields_signed w8 1 row_entries es l)

length_bytes : (l : ℕ) → encode_command register_part (length_command l) ≡ encode_length l
unfolding encode_command fields row_of encode_length
length_bytes l = rw append-nil

end_bytes : encode_command register_part end_command ≡ 0x1F ∷ []
unfolding encode_command fields row_of
end_bytes = refl

-- ---- the command of a term: `16` where it has a range, and else `15` or `12`

abbrev pub entry_command : (wide ranged : Bool) (m : ℕ) (a b : ℤ) → Command
entry_command wide ranged m a b = cond ranged (range_command m a b) (cond wide (wide_term_command m a) (term_command m a))

entry_bytes : (wide ranged : Bool) (m : ℕ) (a b : ℤ) → encode_command register_part (entry_command wide ranged m a b) ≡ encode_entry wide ranged m a b
entry_bytes wide true m a b = range_bytes m a b
entry_bytes true false m a b = wide_term_bytes m a
entry_bytes false false m a b = term_bytes m a

pub entry_among : (wide ranged : Bool) (m : ℕ) (a b : ℤ) → Among (entry_command wide ranged m a b).byte term_kind.bytes
entry_among wide true m a b = inr (inr (inl refl))
entry_among true false m a b = inr (inl refl)
entry_among false false m a b = inl refl

-- it says the term where `12` and `16` can
entry_says : (wide ranged : Bool) (m : ℕ) (a b : ℤ) → ((wide ≡ false) ⊎ (ranged ≡ true) → Narrow m) → SaysTerm ranged m a b (entry_command wide ranged m a b)
entry_says wide true m a b n = (n (inr refl), refl)
entry_says true false m a b n = inr refl
entry_says false false m a b n = inl (n (inl refl), refl)

-- a `15`
abbrev pub is_wide : Command → Bool
is_wide c = eqb c.byte 0x15

pub entry_wide : (wide ranged : Bool) (m : ℕ) (a b : ℤ) → is_wide (entry_command wide ranged m a b) ≡ (not ranged && wide)
entry_wide wide true m a b = refl
entry_wide true false m a b = refl
entry_wide false false m a b = refl

-- no other command says the term
says_entry : (ranged : Bool) (m : ℕ) (a b : ℤ) (c : Command) → SaysTerm ranged m a b c → (c ≡ entry_command (is_wide c) ranged m a b) × ((is_wide c ≡ false) ⊎ (ranged ≡ true) → Narrow m)
says_entry true m a b c (n, e) = rw e (refl, λ h. n)
says_entry false m a b c (inl (n, e)) = rw e (refl, λ h. n)
says_entry false m a b c (inr e) = rw e (refl, ⊎_elim (λ t. absurd (true≢false t)) (λ t. absurd (false≢true t)))

-- ---- the commands of a register

module _ (r : Register) where
  abbrev pub windows_of : List Command
  windows_of = join_below r.windows (λ j. window_command (window_tank r j) (window_from r j) (window_to r j) ∷ [])

  abbrev pub choices_of : List Command
  choices_of = join_below r.choices (λ i. choice_command (tank r i) (minute r i) ∷ [])

  abbrev pub rows_of : List Command
  rows_of = join_below r.rows (λ k. row_command (row_total r k) (row_list r k) ∷ [])

  module _ (wide : ℕ → Bool) where
    abbrev pub term_of : ℕ → Command
    term_of t = entry_command (wide t) (is_range r t) (mask r t) (coefficient r t) (high r t)

    abbrev pub terms_of : List Command
    terms_of = join_below r.terms (λ t. term_of t ∷ [])

    -- after a header

    abbrev pub body_after : List Command → List Command
    body_after h = h ++ windows_of ++ choices_of ++ rows_of ++ terms_of

    abbrev pub commands_after : List Command → List Command
    commands_after h = body_after h ++ (end_command ∷ [])

    module _ (fits : Sayable wide r) where
      pub body_are : (h : List Command) → Header r h → Kinds r (Header r) kinds (body_after h)
      body_are h x = record {
        first = h ++ windows_of ++ choices_of ++ rows_of;
        second = terms_of;
        is_first = record {
          first = h ++ windows_of ++ choices_of;
          second = rows_of;
          is_first = record {
            first = h ++ windows_of;
            second = choices_of;
            is_first = record {
              first = h;
              second = windows_of;
              is_first = x;
              is_second = each_below (Form window_kind r) (λ j. window_command (window_tank r j) (window_from r j) (window_to r j)) r.windows (λ j l. (inl refl, refl));
              whole = refl;
            };
            is_second = each_below (Form choice_kind r) (λ i. choice_command (tank r i) (minute r i)) r.choices (λ i l. (inl refl, refl));
            whole = refl;
          };
          is_second = each_below (Form row_kind r) (λ k. row_command (row_total r k) (row_list r k)) r.rows (λ k l. (inl refl, refl));
          whole = refl;
        };
        is_second = each_below (Form term_kind r) term_of r.terms (λ t l. (entry_among (wide t) (is_range r t) (mask r t) (coefficient r t) (high r t), entry_says (wide t) (is_range r t) (mask r t) (coefficient r t) (high r t) (fits t l)));
        whole = refl;
      }

      pub after_are : (h : List Command) → Header r h → Commands r (commands_after h)
      after_are h x = record {
        first = body_after h;
        second = end_command ∷ [];
        is_first = body_are h x;
        is_second = record { command = end_command; form = refl; whole = refl };
        whole = refl;
      }

    pub after_bytes : (h : List Command) → encode register_part (commands_after h) ≡ encode_after wide (encode register_part h) r
    unfolding encode flat_map
    after_bytes h =
        rw (
          encode-append register_part (body_after h) (end_command ∷ []),
          encode-append register_part (h ++ windows_of ++ choices_of ++ rows_of) terms_of,
          encode-append register_part (h ++ windows_of ++ choices_of) rows_of,
          encode-append register_part (h ++ windows_of) choices_of,
          encode-append register_part h windows_of,
          encode_below register_part (λ j. window_command (window_tank r j) (window_from r j) (window_to r j)) (λ j. encode_window (window_tank r j) (window_from r j) (window_to r j)) r.windows (λ j. window_bytes (window_tank r j) (window_from r j) (window_to r j)),
          encode_below register_part (λ i. choice_command (tank r i) (minute r i)) (λ i. encode_choice (tank r i) (minute r i)) r.choices (λ i. choice_bytes (tank r i) (minute r i)),
          encode_below register_part (λ k. row_command (row_total r k) (row_list r k)) (λ k. encode_row (row_total r k) (row_list r k)) r.rows (λ k. row_bytes (row_total r k) (row_list r k) (length_ones (row_entry r k) row_entries)),
          encode_below register_part term_of (λ t. encode_entry (wide t) (is_range r t) (mask r t) (coefficient r t) (high r t)) r.terms (λ t. entry_bytes (wide t) (is_range r t) (mask r t) (coefficient r t) (high r t)),
          end_bytes,
          append-nil,
        )

  -- and no others, since each window, choice and row has one form, and each term one or two

  pub body_only : {cs : List Command} → Kinds r (Header r) kinds cs → (h : List Command) × ((wide : ℕ → Bool) × (Header r h × (Sayable wide r × (cs ≡ body_after wide h))))
  body_only body =
      let middle = body.is_first in
      let front = middle.is_first in
      let start = front.is_first in
      let windows = each_only (Form window_kind r) _ r.windows start.second (λ j d f. f.1) start.is_second in
      let choices = each_only (Form choice_kind r) _ r.choices front.second (λ i d f. f.1) front.is_second in
      let rows = each_only (Form row_kind r) _ r.rows middle.second (λ k d f. f.1) middle.is_second in
      let (c, (forms, terms)) = each_command (Form term_kind r) r.terms body.second body.is_second in
      let says = λ (t : ℕ) (l : t < r.terms). says_entry (is_range r t) (mask r t) (coefficient r t) (high r t) (c t) (forms t l).1 in
      let both : List Command → List Command → List Command = λ x y. x ++ y in (
        start.first,
        (
          (λ t. is_wide (c t)),
          (
            start.is_first,
            (
              (λ t l. (says t l).1),
              body.whole ∙ ap₂ both (middle.whole ∙ ap₂ both (front.whole ∙ ap₂ both (start.whole ∙ ap (both start.first) windows) choices) rows) (terms ∙ join_cong r.terms _ _ (λ t l. ap (λ d. d ∷ []) (says t l).0)),
            ),
          ),
        ),
      )

  after_only : {cs : List Command} → Commands r cs → (h : List Command) × ((wide : ℕ → Bool) × (Header r h × (Sayable wide r × (cs ≡ commands_after wide h))))
  after_only t =
      let (h, (wide, (x, (fits, q)))) = body_only t.is_first in
      let end : t.second ≡ end_command ∷ [] = t.is_second.whole ∙ ap (λ c. c ∷ []) t.is_second.form in
      let both : List Command → List Command → List Command = λ x y. x ++ y in
      (h, (wide, (x, (fits, t.whole ∙ ap₂ both q end))))

  -- where there is no row and no term, their bytes are those up to the choices

  no_rows_of : r.rows ≡ 0 → rows_of ≡ []
  unfolding join_below
  no_rows_of e = rw e

  no_terms_of : (wide : ℕ → Bool) → r.terms ≡ 0 → terms_of wide ≡ []
  unfolding join_below
  no_terms_of wide e = rw e

  pub body_bytes : (wide : ℕ → Bool) (h : List Command) → r.rows ≡ 0 → r.terms ≡ 0 → encode register_part (body_after wide h) ≡ up_to_choices (encode register_part h) r
  body_bytes wide h e e' =
      let both : List Command → List Command → List Command = λ x y. x ++ y in
      let front : List Command = h ++ windows_of ++ choices_of in
      ap (encode register_part) (ap₂ both (ap (both front) (no_rows_of e)) (no_terms_of wide e') ∙ append-nil (front ++ []) ∙ append-nil front)
      ∙ rw (
        encode-append register_part (h ++ windows_of) choices_of,
        encode-append register_part h windows_of,
        encode_below register_part (λ j. window_command (window_tank r j) (window_from r j) (window_to r j)) (λ j. encode_window (window_tank r j) (window_from r j) (window_to r j)) r.windows (λ j. window_bytes (window_tank r j) (window_from r j) (window_to r j)),
        encode_below register_part (λ i. choice_command (tank r i) (minute r i)) (λ i. encode_choice (tank r i) (minute r i)) r.choices (λ i. choice_bytes (tank r i) (minute r i)),
      )

  -- ---- the headers: with `18`, and without it where the length is the usual one

  abbrev Base : List Command → Type 0
  Base = Only (λ c. c ≡ base_command r.base)

  abbrev Usual : Type 0
  Usual = r.day_length ≡ usual_day

  abbrev pub header_with : List Command
  header_with = base_command r.base ∷ length_command r.day_length ∷ []

  abbrev pub header_without : List Command
  header_without = base_command r.base ∷ []

  base_only : Base header_without
  base_only = record { command = base_command r.base; form = refl; whole = refl }

  pub header_with_lem : Header r header_with
  header_with_lem = then_present Base Usual (λ c. c ≡ length_command r.day_length) (length_command r.day_length) base_only refl

  pub header_without_lem : Usual → Header r header_without
  header_without_lem u = then_missing Base Usual (λ c. c ≡ length_command r.day_length) u base_only

  base_is : {h : List Command} → Base h → h ≡ header_without
  base_is o = o.whole ∙ ap (λ c. c ∷ []) o.form

  pub header_forms : {h : List Command} → Header r h → (h ≡ header_with) ⊎ (Usual × (h ≡ header_without))
  header_forms x =
      ⊎_elim
      (λ (u, o). inr (u, base_is o))
      (λ l. inl (l.whole ∙ ap₂ (λ a c. a ++ (c ∷ [])) (base_is l.before) l.form))
      (optional_last Base Usual (λ c. c ≡ length_command r.day_length) x)

  pub with_bytes : encode register_part header_with ≡ encode_base r.base ++ encode_length r.day_length
  unfolding encode flat_map
  with_bytes = rw (base_bytes, length_bytes, append-nil)

  pub without_bytes : encode register_part header_without ≡ encode_base r.base
  unfolding encode flat_map
  without_bytes = rw (base_bytes, append-nil)

  -- ---- the encodings, byte by byte

  -- those of a choice of forms

  pub header_by : (wide : ℕ → Bool) (s : List ℕ) → EncodedBy wide r s → (h : List Command) × (Header r h × (s ≡ encode register_part (commands_after wide h)))
  header_by wide s =
      ⊎_elim
      (λ e. (header_with, (header_with_lem, e ∙ ap (λ x. encode_after wide x r) (sym with_bytes) ∙ sym (after_bytes wide header_with))))
      (λ (u, e). (header_without, (header_without_lem u, e ∙ ap (λ x. encode_after wide x r) (sym without_bytes) ∙ sym (after_bytes wide header_without))))

  pub encodes_by : (wide : ℕ → Bool) (s : List ℕ) → Sayable wide r → EncodedBy wide r s → Encodes r s
  encodes_by wide s fits x = let (h, (a, q)) = header_by wide s x in record { commands = commands_after wide h; are = after_are wide fits h a; bytes = q }

  -- and there are no others
  pub encodes_forms : (s : List ℕ) → Encodes r s ↔ ((wide : ℕ → Bool) × (Sayable wide r × EncodedBy wide r s))
  encodes_forms s = (to, λ (wide, (fits, x)). encodes_by wide s fits x)
    where
      to : Encodes r s → (wide : ℕ → Bool) × (Sayable wide r × EncodedBy wide r s)
      to e =
          let (h, (wide, (x, (fits, q)))) = after_only e.are in
          let same : s ≡ encode_after wide (encode register_part h) r = e.bytes ∙ ap (encode register_part) q ∙ after_bytes wide h in (
            wide,
            (
              fits,
              ⊎_elim
                  (λ w. inl (same ∙ ap (λ h. encode_after wide (encode register_part h) r) w ∙ ap (λ x. encode_after wide x r) with_bytes))
                  (λ (u, w). inr (u, same ∙ ap (λ h. encode_after wide (encode register_part h) r) w ∙ ap (λ x. encode_after wide x r) without_bytes))
                  (header_forms x),
            ),
          )

  -- ---- the writer's

  module _ (ranges : RangesNarrow r) where
    pub writer_sayable : Sayable (not_narrow r) r
    writer_sayable t l = ⊎_elim (λ e. leb-false _ _ e) (ranges t l)

    pub encodes_with : Encodes r (encode_with_length r)
    encodes_with = encodes_by (not_narrow r) (encode_with_length r) writer_sayable (inl refl)

    pub encodes_without : Usual → Encodes r (encode_without_length r)
    encodes_without u = encodes_by (not_narrow r) (encode_without_length r) writer_sayable (inr (u, refl))

    pub canonical : Encodes r (encode_register r)
    unfolding encode_register
    canonical = flag (eqb r.day_length usual_day) (λ t. rw t (encodes_without (eqb-true _ _ t))) (λ t. rw t encodes_with)

  -- each register that has an encoding is as the writer needs it, and each without a range; and one of no more choices than four bytes
  -- name has narrow masks alone

  pub encodes_ranges : {s : List ℕ} → Encodes r s → RangesNarrow r
  encodes_ranges {s} e t l ranged = let (wide, (fits, x)) = (encodes_forms s).0 e in fits t l (inr ranged)

  pub unranged_narrow : has_range r ≡ false → RangesNarrow r
  unranged_narrow none t l ranged = absurd (false≢true (sym none ∙ any_at r.terms (is_range r) t l ranged))

  pub few_narrow : Within r → r.choices ≤ narrow_choices → MasksNarrow r
  few_narrow w few t l = omega (arith, (w.terms.each t l).mask_names, pow_mono few)
