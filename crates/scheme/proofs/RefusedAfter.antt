-- A command that is refused behind a header, products and splits, all of them right: by its own checks, and where it may not stand.
use Prim.Native.Nat.{ℕ, suc, ◌+◌, ◌-◌, ◌≤◌}
use native.Mathlib.Nat.{add-zero}
use native.Mathlib.Omega.{arith}
use mathlib.Core.Path.{◌≡◌, sym, ◌∙◌, ap}
use mathlib.Core.Logic.{⊎_elim}
use mathlib.Core.Bool.{true, false}
use mathlib.Core.List.{List, [], ◌∷◌, ◌++◌, append-nil, flat_map}
use lib.ListN.{length, get_or, drop, length-append, length-drop}
use lib.Seq.{get_or-drop, drop_at}
use borrow.Author.Tests.{ne_eqb}
use Rattle.integers.specs.Lists.{join_below}
use Rattle.wire.specs.Number.{bytes_of}
use Rattle.wire.specs.Checks.{refusal, command_checks}
use Rattle.wire.specs.Part.{Part, refused, operands_at, total, size, checks_at}
use Rattle.wire.specs.Rows.{Progress, is_among, row_of}
use Rattle.wire.specs.Encoding.{Command, encode}
use Rattle.wire.proofs.Number.{length-bytes_of}
use Rattle.wire.proofs.Grammar.{last_from, kinds_none, kinds_last, kinds_stand, said_kinds, None, under, under_all}
use Rattle.wire.proofs.Accepting.{reached}
use Rattle.wire.proofs.Refusing.{refused_reached, refused_after}
use Rattle.register.specs.declared.Register.{Register}
use Rattle.register.specs.Valid as R
use Rattle.scheme.specs.declared.Scheme.{Scheme}
use Rattle.scheme.specs.Scheme.{initial}
use Rattle.scheme.specs.Format.{product_row, scheme_rows, scheme_part, scheme_in_job}
use Rattle.scheme.specs.Valid.{Within}
use Rattle.scheme.specs.Encoding.{product_kind, kinds, Header, HeaderBytes, encode_product, encode_products, encode_body}
use Rattle.scheme.proofs.Laws.{Good, laws, HeaderWhere, factor_byte, header_stands, ToProducts, after_products}
use Rattle.scheme.proofs.Accept.{header_says}
use Rattle.scheme.proofs.Canonical.{header_by, body_after, body_are, body_bytes}

module _ (reg : Register) (ok : R.Valid reg) (before : Scheme) (within : Within reg before) (h : List ℕ) (header : HeaderBytes before h) where
  abbrev U : Type 0
  U = Unit {0}

  abbrev P : Part (Progress Scheme)
  P = scheme_part reg

  abbrev hs : List Command
  hs = (header_by reg before h header).0

  abbrev cs : List Command
  cs = body_after reg before hs

  bytes : encode P cs ≡ h ++ encode_body reg.choices before
  bytes = body_bytes reg before hs ∙ ap (λ x. x ++ encode_body reg.choices before) (header_by reg before h header).1.1

  good : Good reg U before cs
  good = record { within = within; body = said_kinds before U (Header before) (HeaderWhere U before) kinds cs (header_says U before) (body_are reg before hs (header_by reg before h header).1.0) }

  module _ (s : List ℕ) (at b : ℕ) (rest : List ℕ) (e : s ≡ h ++ encode_body reg.choices before ++ (b ∷ rest)) (position : at ≡ length (h ++ encode_body reg.choices before)) where
    dropped : drop at s ≡ b ∷ rest
    dropped = ap (drop at) e ∙ drop_at (h ++ encode_body reg.choices before) (b ∷ rest) at (sym position)

    byte : get_or s at 0 ≡ b
    byte = (rw add-zero at (sym (get_or-drop at s 0 0))) ∙ ap (λ (l : List ℕ). get_or l 0 0) dropped

    left : length s - at ≡ suc (length rest)
    left = sym (length-drop at s) ∙ ap length dropped

    stands : length (encode P cs) ≡ at
    stands = ap length bytes ∙ sym position

    whole : s ≡ encode P cs ++ (b ∷ rest)
    whole = e ∙ ap (λ x. x ++ (b ∷ rest)) (sym bytes)

    own_refused_there : (n : ℕ) → is_among (last_from 0 cs) (row_of (scheme_rows reg) b).follows ≡ true → size P b ≤ suc (length rest) →
        refusal ((row_of (scheme_rows reg) b).checks before (operands_at (P.widths b) s (at + 1))) ≡ n → (n ≡ 0 → ⊥) → scheme_in_job reg s ≡ refused n at
    unfolding scheme_in_job
    own_refused_there n here long own d =
        refused_after initial (scheme_rows reg) (laws reg ok) before cs good s (b ∷ rest) whole b n (rw stands byte) here (rw stands (omega (arith, left, long))) (rw stands own) d
        ∙ ap (refused n) stands

    misplaced_there : is_among (last_from 0 cs) (row_of (scheme_rows reg) b).follows ≡ false → scheme_in_job reg s ≡ refused 1 at
    unfolding scheme_in_job checks_at command_checks refusal
    misplaced_there none =
        let f : refusal (checks_at P s (reached (last_from 0 cs) before) at) ≡ 1 = rw (byte, none) in
        refused_reached initial (scheme_rows reg) (laws reg ok) before cs good s (b ∷ rest) whole 1 (rw stands (omega (arith, left))) (rw stands f) (λ z. omega arith) ∙ ap (refused 1) stands

  -- ---- a product, where there is no split

  module _ (no_split : before.splits ≡ 0) where
    to_products : encode_body reg.choices before ≡ encode_products reg.choices before
    unfolding join_below
    to_products = rw (no_split, append-nil)

    after_them : is_among (last_from 0 cs) (product_row reg).follows ≡ true
    after_them =
        kinds_stand before (HeaderWhere U before) (under U product_kind ∷ []) cs (0 ∷ 0x23 ∷ []) (product_row reg).follows tt (header_stands U before)
        (kinds_none before (ToProducts reg ok U before) (after_products reg ok U) cs (no_split, tt) good.body)

    module _ (s : List ℕ) (at l r : ℕ) (rest : List ℕ) (e : s ≡ h ++ encode_products reg.choices before ++ (encode_product l r ++ rest)) (position : at ≡ length (h ++ encode_products reg.choices before)) where
      pub product_refused_there : (n : ℕ) → refusal ((product_row reg).checks before (operands_at (product_row reg).widths s (at + 1))) ≡ n → (n ≡ 0 → ⊥) → scheme_in_job reg s ≡ refused n at
      unfolding encode_product row_of total
      product_refused_there n own d =
          let two : length (bytes_of 1 l ++ bytes_of 1 r ++ rest) ≡ 2 + length rest = rw (length-append, length-append, length-bytes_of, length-bytes_of) in
          own_refused_there s at 0x21 (bytes_of 1 l ++ bytes_of 1 r ++ rest) (rw to_products e) (rw to_products position) n after_them (omega (arith, two)) own d

  -- ---- a `23`, behind one command at least

  last_not_0 : (length (encode P cs) ≡ 0 → ⊥) → last_from 0 cs ≡ 0 → ⊥
  unfolding encode flat_map
  last_not_0 some z =
      ⊎_elim
      (λ (k : HeaderWhere U before cs × None before (under_all U kinds)). ⊎_elim (λ (f, q). some (ap (λ x. length (encode P x)) q)) (λ o. omega (arith, z, factor_byte before o)) k.0)
      (λ k. ⊎_elim (λ e. omega (arith, z, e)) (⊎_elim (λ e. omega (arith, z, e)) (λ k. k)) k)
      (kinds_last before (HeaderWhere U before) (under_all U kinds) cs good.body)

  module _ (s : List ℕ) (at : ℕ) (rest : List ℕ) (e : s ≡ h ++ encode_body reg.choices before ++ (0x23 ∷ rest)) (position : at ≡ length (h ++ encode_body reg.choices before)) where
    pub factor_misplaced_there : (at ≡ 0 → ⊥) → scheme_in_job reg s ≡ refused 1 at
    unfolding row_of
    factor_misplaced_there d = misplaced_there s at 0x23 rest e position (ne_eqb (last_from 0 cs) 0 (last_not_0 (λ z. d (sym (stands s at 0x23 rest e position) ∙ z))))
