-- An encoding of a valid register says a `15` just where one of its commands is one. The encodings that say none are those of before
-- there was `15`: each mask is narrow, and the bytes are the writer's.
use Prim.Native.Nat.{ℕ, ◌<◌}
use mathlib.Core.Path.{◌≡◌, refl, sym, ◌∙◌, ap}
use mathlib.Core.Logic.{inl, inr, ◌↔◌, ⊎_elim}
use mathlib.Core.Bool.{Bool, true, false, not, ◌&&◌, or-false, false≢true}
use mathlib.Core.List.{List, [], ◌++◌, append-nil}
use borrow.Author.Tests.{lt-leb}
use Rattle.integers.specs.Lists.{any_below}
use Rattle.integers.proofs.Lists.{flag}
use Rattle.integers.proofs.Any.{any_at, any_none}
use Rattle.integers.proofs.Join.{join_cong}
use Rattle.wire.specs.Rows.{row_of}
use Rattle.wire.specs.Encoding.{Command, encode}
use Rattle.wire.specs.Walk.{comes_to}
use Rattle.wire.proofs.Comes.{has_command, has_command_append, has_command_below, comes_to_by}
use Rattle.register.specs.declared.Register.{Register}
use Rattle.register.specs.Register.{tank, minute, mask, coefficient, high, is_range, window_tank, window_from, window_to, row_total}
use Rattle.register.specs.Format.{register_part}
use Rattle.register.specs.Valid.{Valid}
use Rattle.register.specs.BeforeWide.{part_without_wide}
use Rattle.register.specs.Encoding.{Header, choice_command, window_command, row_list, row_command, Commands, Encodes, MasksNarrow, Sayable, encode_terms_by, EncodedBy, encode_terms, not_narrow, wide_may_stand, SaysWide}
use Rattle.register.proofs.Accept.{commands_accepted}
use Rattle.register.proofs.Canonical.{entry_wide, term_of, commands_after, after_are, header_forms, header_by, encodes_forms, encodes_by, writer_sayable}
use Rattle.register.proofs.BeforeWide.{Unwide, starts_unwide, agree_unwide}

-- ---- by the commands, whatever stands after them

says_wide : (r : Register) (s rest : List ℕ) (cs : List Command) → Valid r → Commands r cs → s ≡ encode register_part cs ++ rest → comes_to part_without_wide wide_may_stand 0x15 s ≡ has_command 0x15 cs
unfolding row_of
says_wide r s rest cs v a e = comes_to_by register_part part_without_wide Unwide wide_may_stand 0x15 agree_unwide (λ read h. h) s cs _ rest refl starts_unwide (commands_accepted r cs v a) e

-- ---- by the choice of forms

module _ (r : Register) (wide : ℕ → Bool) where
  -- a term without a range is said by `15`
  abbrev pub some_wide : Bool
  some_wide = any_below r.terms (λ t. not (is_range r t) && wide t)

  header_wide : {h : List Command} → Header r h → has_command 0x15 h ≡ false
  header_wide x = ⊎_elim (λ e. rw e) (λ e. rw e.1) (header_forms r x)

  commands_wide : (h : List Command) → Header r h → has_command 0x15 (commands_after r wide h) ≡ some_wide
  commands_wide h x =
      let no = λ (n : ℕ). any_none n (λ i. false) (λ i l. refl) in
      rw (
        has_command_append,
        has_command_append,
        has_command_append,
        has_command_append,
        has_command_append,
        header_wide x,
        has_command_below 0x15 (λ j. window_command (window_tank r j) (window_from r j) (window_to r j)) (λ j. false) r.windows (λ j. refl),
        has_command_below 0x15 (λ i. choice_command (tank r i) (minute r i)) (λ i. false) r.choices (λ i. refl),
        has_command_below 0x15 (λ k. row_command (row_total r k) (row_list r k)) (λ k. false) r.rows (λ k. refl),
        has_command_below 0x15 (term_of r wide) (λ t. not (is_range r t) && wide t) r.terms (λ t. entry_wide (wide t) (is_range r t) (mask r t) (coefficient r t) (high r t)),
        no r.windows,
        no r.choices,
        no r.rows,
        or-false some_wide,
      )

  module _ (v : Valid r) (fits : Sayable wide r) (x rest : List ℕ) (e : EncodedBy wide r x) where
    pub says_wide_by : SaysWide (x ++ rest) ↔ (some_wide ≡ true)
    says_wide_by =
        let (h, (a, q)) = header_by r wide x e in
        let same = says_wide r (x ++ rest) rest (commands_after r wide h) v (after_are r wide fits h a) (ap (λ x. x ++ rest) q) ∙ commands_wide h a in
        (λ t. sym same ∙ t, λ t. same ∙ t)

-- ---- the encodings that say none

module _ (r : Register) where
  module _ (wide : ℕ → Bool) (none : some_wide r wide ≡ false) where
    by_12 : (t : ℕ) → t < r.terms → is_range r t ≡ false → wide t ≡ false
    by_12 t l k = flag (wide t) (λ w. absurd (false≢true (sym none ∙ any_at r.terms (λ t. not (is_range r t) && wide t) t l (rw (k, w))))) (λ w. w)

    sayable_narrow : Sayable wide r → MasksNarrow r
    sayable_narrow fits t l = fits t l (flag (is_range r t) (λ k. inr k) (λ k. inl (by_12 t l k)))

    -- where the masks are narrow, the bytes of the terms are the writer's
    terms_narrow : MasksNarrow r → encode_terms_by wide r ≡ encode_terms r
    terms_narrow narrow = join_cong r.terms _ _ (λ t l. flag (is_range r t) (λ k. rw k) (λ k. rw (k, by_12 t l k, lt-leb _ _ (narrow t l))))

  -- these are each by `12` or `16`
  pub narrow_terms : MasksNarrow r → encode_terms r ≡ encode_terms_by (λ t. false) r
  narrow_terms narrow = sym (terms_narrow (λ t. false) (any_none r.terms _ (λ t l. flag (is_range r t) (λ k. rw k) (λ k. rw k))) narrow)

  -- so the writer says none where the masks are narrow
  writer_none : MasksNarrow r → some_wide r (not_narrow r) ≡ false
  writer_none narrow = any_none r.terms _ (λ t l. rw (lt-leb _ _ (narrow t l)) (flag (is_range r t) (λ k. rw k) (λ k. rw k)))

  module _ (v : Valid r) (x rest : List ℕ) where
    -- in a job
    pub unsaid_in_job : (SaysWide (x ++ rest) → ⊥) → Encodes r x ↔ (MasksNarrow r × EncodedBy (not_narrow r) r x)
    unsaid_in_job unsaid = (to, λ (narrow, e). encodes_by r (not_narrow r) x (writer_sayable r (λ t l k. narrow t l)) e)
      where
        to : Encodes r x → MasksNarrow r × EncodedBy (not_narrow r) r x
        to e =
            let (wide, (fits, q)) = (encodes_forms r x).0 e in
            let none : some_wide r wide ≡ false = flag (some_wide r wide) (λ t. absurd (unsaid ((says_wide_by r wide v fits x rest q).1 t))) (λ f. f) in
            let narrow = sayable_narrow wide none fits in
            (narrow, rw (terms_narrow wide none narrow) at q)

    pub writer_unsaid : MasksNarrow r → EncodedBy (not_narrow r) r x → SaysWide (x ++ rest) → ⊥
    writer_unsaid narrow e t = false≢true (sym (writer_none narrow) ∙ (says_wide_by r (not_narrow r) v (writer_sayable r (λ t l k. narrow t l)) x rest e).0 t)

  -- by itself
  module _ (v : Valid r) (s : List ℕ) where
    pub unsaid_forms : (SaysWide s → ⊥) → Encodes r s ↔ (MasksNarrow r × EncodedBy (not_narrow r) r s)
    unsaid_forms unsaid = unsaid_in_job v s [] (rw append-nil unsaid)
