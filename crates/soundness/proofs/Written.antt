-- The encodings of each register, scheme and plan; which of a register's say a length.
use mathlib.Core.Path.{◌≡◌, refl, sym, ◌∙◌}
use mathlib.Core.Logic.{◌⊎◌, inl, inr, ◌↔◌, ⊎_elim}
use mathlib.Core.Bool.{Bool, true, false}
use mathlib.Core.List.{List, [], ◌∷◌, ◌++◌, append_assoc, append-nil, flat_map}
use native.Mathlib.Omega.{arith}
use lib.IntN.{ℤ}
use Prim.Native.Nat.{ℕ, zero, suc, ◌/◌}
use native.Mathlib.Nat.{zero-lt-suc, mod-lt}
use mir.Val.{of_z}
use mir.Syntax.{w8}
use borrow.Author.Tests.{eq-eqb}
use Rattle.integers.proofs.Lists.{All-append, All-join}
use Rattle.wire.specs.Number.{Bytes, bytes_of}
use Rattle.wire.proofs.Begins.{Other, join_other}
use Rattle.register.specs.declared.Register.{Register}
use Rattle.register.specs.Limits.{usual_day}
use Rattle.register.specs.Register.{tank, minute, mask, coefficient, high, is_range, window_tank, window_from, window_to, row_total}
use Rattle.register.specs.Valid.{Valid}
use Rattle.register.specs.Encoding.{row_list, Encodes, MasksNarrow, EncodedBy, encode_base, encode_window, encode_choice, encode_row, encode_term, encode_wide_term, encode_range, encode_entry, encode_length, encode_after, not_narrow, encode_with_length, encode_without_length, encode_register, SaysLength, SaysWide}
use Rattle.register.proofs.Canonical as R
use Rattle.register.proofs.SaysWide.{unsaid_forms, writer_unsaid}
use Rattle.scheme.proofs.Canonical as S
use Rattle.scheme.proofs.Factors.{unsaid_iff, said_iff}
use Rattle.plan.proofs.Accept as P
use Rattle.soundness.specs.Written.{Written}

-- ---- the two headers, with `18` and without it, and what stands after them

abbrev AfterHeader : Register → (List ℕ → List ℕ) → List ℕ → Type 0
AfterHeader reg after s = (s ≡ after (encode_base reg.base ++ encode_length reg.day_length)) ⊎ ((reg.day_length ≡ usual_day) × (s ≡ after (encode_base reg.base)))

-- said in another way
pub after_same : (reg : Register) {f g : List ℕ → List ℕ} → ((header : List ℕ) → f header ≡ g header) → (s : List ℕ) → AfterHeader reg f s → AfterHeader reg g s
after_same reg same s = ⊎_elim (λ e. inl (e ∙ same _)) (λ (day, e). inr (day, e ∙ same _))

-- ---- without `18` a command of another byte stands where it would

-- in each form of a term
entry_other : (wide ranged : Bool) (m : ℕ) (a b : ℤ) (rest : List ℕ) → Other 0x18 (encode_entry wide ranged m a b ++ rest)
unfolding encode_term encode_wide_term encode_range
entry_other wide true m a b rest z = omega arith
entry_other true false m a b rest z = omega arith
entry_other false false m a b rest z = omega arith

module _ (reg : Register) where
  -- by the forms of the terms

  module _ (wide : ℕ → Bool) where
    abbrev pub with_length : List ℕ
    with_length = encode_after wide (encode_base reg.base ++ encode_length reg.day_length) reg

    abbrev pub without_length : List ℕ
    without_length = encode_after wide (encode_base reg.base) reg

    with_says : SaysLength with_length
    unfolding encode_base encode_length bytes_of
    with_says = (refl, refl)

    without_other : SaysLength without_length → ⊥
    unfolding encode_base encode_window encode_choice encode_row bytes_of
    without_other (_, e) =
        let one : Other 0x18 (0x1F ∷ []) = λ z. omega arith in
        let o =
        join_other 0x18 (λ j. encode_window (window_tank reg j) (window_from reg j) (window_to reg j)) (λ i rest z. omega arith) reg.windows _
        (join_other 0x18 (λ i. encode_choice (tank reg i) (minute reg i)) (λ i rest z. omega arith) reg.choices _
        (join_other 0x18 (λ k. encode_row (row_total reg k) (row_list reg k)) (λ i rest z. omega arith) reg.rows _
        (join_other 0x18 (λ t. encode_entry (wide t) (is_range reg t) (mask reg t) (coefficient reg t) (high reg t)) (λ t. entry_other (wide t) (is_range reg t) (mask reg t) (coefficient reg t) (high reg t)) reg.terms _ one))) in
        o (simp append_assoc at e)

    says_by : (s : List ℕ) → EncodedBy wide reg s → SaysLength s ↔ (s ≡ with_length)
    says_by s x = (λ h. ⊎_elim (λ e. e) (λ (day, e). absurd (without_other (rw e at h))) x, λ e. rw e with_says)

  -- and of each encoding

  module _ (s : List ℕ) where
    pub says_length_iff : Encodes reg s → SaysLength s ↔ ((wide : ℕ → Bool) × (s ≡ with_length wide))
    says_length_iff x = let (wide, (fits, y)) = (R.encodes_forms reg s).0 x in (λ h. (wide, (says_by wide s y).0 h), λ (other, e). rw e (with_says other))

    -- where no `15` is said

    module _ (v : Valid reg) (none : SaysWide s → ⊥) where
      pub says_length_narrow : Encodes reg s → SaysLength s ↔ (s ≡ encode_with_length reg)
      says_length_narrow x = says_by (not_narrow reg) s ((unsaid_forms reg v s none).0 x).1

      -- and no length
      pub unsaid : (SaysLength s → ⊥) → Encodes reg s ↔ (MasksNarrow reg × (reg.day_length ≡ usual_day) × (s ≡ encode_without_length reg))
      unsaid no_length =
          let (to, from) = unsaid_forms reg v s none in (
            (λ x. let (narrow, y) = to x in let (day, e) = ⊎_elim (λ e. absurd (no_length (rw e (with_says (not_narrow reg))))) (λ w. w) y in (narrow, day, e)),
            (λ (narrow, day, e). from (narrow, inr (day, e))),
          )

-- ---- whatever the numbers of a register are, all are bytes

number_bytes : (k n : ℕ) → Bytes (bytes_of k n)
unfolding bytes_of
number_bytes zero n = tt
number_bytes (suc k) n = (mod-lt n (zero-lt-suc 255), number_bytes k (n / 256))

-- two numbers, one after the other
two_bytes : (j k m n : ℕ) → Bytes (bytes_of j m ++ bytes_of k n)
two_bytes j k m n = All-append _ (bytes_of j m) (bytes_of k n) (number_bytes j m) (number_bytes k n)

three_bytes : (i j k l m n : ℕ) → Bytes (bytes_of i l ++ (bytes_of j m ++ bytes_of k n))
three_bytes i j k l m n = All-append _ (bytes_of i l) _ (number_bytes i l) (two_bytes j k m n)

entries_bytes : (es : List ℤ) → Bytes (flat_map (λ a. bytes_of 1 (of_z w8 a)) es)
unfolding flat_map
entries_bytes [] = tt
entries_bytes (a ∷ es) = All-append _ (bytes_of 1 (of_z w8 a)) _ (number_bytes 1 _) (entries_bytes es)

entry_bytes : (wide ranged : Bool) (m : ℕ) (a b : ℤ) → Bytes (encode_entry wide ranged m a b)
unfolding encode_term encode_wide_term encode_range
entry_bytes wide true m a b = (omega arith, three_bytes 4 4 4 m _ _)
entry_bytes true false m a b = (omega arith, two_bytes 8 4 m _)
entry_bytes false false m a b = (omega arith, two_bytes 4 4 m _)

end_byte : Bytes (0x1F ∷ [])
end_byte = (omega arith, tt)

module _ (reg : Register) (wide : ℕ → Bool) where
  after_bytes : (header : List ℕ) → Bytes header → Bytes (encode_after wide header reg)
  unfolding encode_window encode_choice encode_row
  after_bytes header h =
      let windows = All-append _ header _ h (All-join _ reg.windows _ (λ j l. (omega arith, three_bytes 2 2 2 (window_tank reg j) _ _))) in
      let choices = All-append _ _ _ windows (All-join _ reg.choices _ (λ i l. (omega arith, two_bytes 2 2 (tank reg i) _))) in
      let rows = All-append _ _ _ choices (All-join _ reg.rows _ (λ k l. (omega arith, All-append _ (bytes_of 2 _) _ (number_bytes 2 _) (entries_bytes (row_list reg k))))) in
      let terms = All-append _ _ _ rows (All-join _ reg.terms _ (λ t l. entry_bytes (wide t) (is_range reg t) (mask reg t) (coefficient reg t) (high reg t))) in
      All-append _ _ _ terms end_byte

  base_bytes : Bytes (encode_base reg.base)
  unfolding encode_base
  base_bytes = (omega arith, number_bytes 4 _)

  pub with_bytes : Bytes (with_length reg wide)
  unfolding encode_length
  with_bytes = after_bytes _ (All-append _ _ _ base_bytes (omega arith, number_bytes 2 _))

  pub without_bytes : Bytes (without_length reg wide)
  without_bytes = after_bytes _ base_bytes

usual_bytes : (reg : Register) → reg.day_length ≡ usual_day → encode_register reg ≡ encode_without_length reg
unfolding encode_register
usual_bytes reg day = rw (eq-eqb reg.day_length usual_day day)

pub written : Written
written = record {
  of_register = λ reg s. let (to, from) = R.encodes_forms reg s in ((λ x. let (wide, (fits, e)) = to x in (wide, fits, e)), λ (wide, fits, e). from (wide, (fits, e)));
  by_writer = R.canonical;
  ranges_narrow = λ reg s x. R.encodes_ranges reg x;
  masks_narrow = λ reg v. R.few_narrow reg v.within;
  ranges_of_masks = λ reg narrow t l k. narrow t l;
  by_12 = λ reg s narrow. R.encodes_by reg (λ t. false) s (λ t l k. narrow t l);
  writer_says_none = λ reg s v narrow x says. writer_unsaid reg v s [] narrow x (rw append-nil says);
  without_wide = λ reg s v. unsaid_forms reg v s;
  without_length = λ reg s v none no_length.
      let w = unsaid reg s v none no_length in
      ((λ x. let (narrow, day, e) = w.0 x in (narrow, day, e ∙ sym (usual_bytes reg day))), λ (narrow, day, e). w.1 (narrow, day, e ∙ usual_bytes reg day));
  of_scheme = λ reg sch s. S.encodes_forms reg sch s;
  without_factor = unsaid_iff;
  with_factor = said_iff;
  of_plan = P.encodings;
  plan_by_writer = P.canonical;
  narrow_plan = P.narrow_encodings;
}
