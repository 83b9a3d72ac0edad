-- What a writer makes of a scheme is an encoding of it.
use Prim.Native.Nat.{ℕ, ◌+◌}
use mathlib.Core.Path.{◌≡◌, refl, sym, ◌∙◌, ap, ap₂, subst}
use mathlib.Core.Logic.{◌↔◌, inl, inr, ⊎_elim}
use mathlib.Core.List.{List, [], ◌∷◌, ◌++◌, append-nil, append_assoc, flat_map}
use Rattle.integers.specs.Lists.{join_below}
use Rattle.wire.specs.Rows.{row_of}
use Rattle.wire.specs.Encoding.{Command, fields, encode_command, encode}
use Rattle.wire.specs.Grammar.{Form, Kinds}
use Rattle.wire.proofs.Encoding.{encode-append, encode_below}
use Rattle.wire.proofs.Grammar.{each_below, each_only}
use Rattle.register.specs.declared.Register.{Register}
use Rattle.scheme.specs.declared.Scheme.{Scheme}
use Rattle.scheme.specs.Scheme.{product_left, product_right, left, right, split_left, split_right}
use Rattle.scheme.specs.Format.{scheme_part}
use Rattle.scheme.specs.Encoding.{factor_command, product_command, split_command, end_command, product_kind, split_kind, kinds, Header, Commands, Encodes, encode_factor, HeaderBytes, EncodedBy, encode_product, encode_products, encode_split, encode_body, encode_scheme}
use Rattle.scheme.proofs.Sets.{left_at, right_at}

module _ (reg : Register) where
  -- ---- the bytes of a command

  pub factor_bytes : (f : ℕ) → encode_command (scheme_part reg) (factor_command f) ≡ encode_factor f
  unfolding encode_command fields row_of encode_factor
  factor_bytes f = rw append-nil

  product_bytes : (l r : ℕ) → encode_command (scheme_part reg) (product_command l r) ≡ encode_product l r
  unfolding encode_command fields row_of encode_product
  product_bytes l r = rw append-nil

  split_bytes : (l r : ℕ) → encode_command (scheme_part reg) (split_command l r) ≡ encode_split l r
  unfolding encode_command fields row_of encode_split
  split_bytes l r = rw append-nil

  end_bytes : encode_command (scheme_part reg) end_command ≡ 0x2F ∷ []
  unfolding encode_command fields row_of
  end_bytes = refl

  -- ---- the commands that a writer makes

  module _ (s : Scheme) where
    abbrev pub products_of : List Command
    products_of = join_below s.products (λ i. product_command (product_left s i) (product_right s i) ∷ [])

    products_of_are : (h : List Command) → Header s h → Kinds s (Header s) (product_kind ∷ []) (h ++ products_of)
    products_of_are h x = record {
      first = h;
      second = products_of;
      is_first = x;
      is_second = each_below (Form product_kind s) (λ i. product_command (product_left s i) (product_right s i)) s.products (λ i l. (inl refl, refl));
      whole = refl;
    }

    products_of_bytes : encode (scheme_part reg) products_of ≡ encode_products reg.choices s
    products_of_bytes =
        let n = reg.choices in
        encode_below (scheme_part reg) (λ i. product_command (product_left s i) (product_right s i)) (λ i. encode_product (left n s (n + i)) (right n s (n + i))) s.products (λ i. rw (left_at n s i, right_at n s i) (product_bytes (product_left s i) (product_right s i)))

    abbrev pub splits_of : List Command
    splits_of = join_below s.splits (λ t. split_command (split_left s t) (split_right s t) ∷ [])

    -- a header, products and splits

    abbrev pub body_after : List Command → List Command
    body_after h = h ++ products_of ++ splits_of

    pub body_are : (h : List Command) → Header s h → Kinds s (Header s) kinds (body_after h)
    body_are h x = record {
      first = h ++ products_of;
      second = splits_of;
      is_first = products_of_are h x;
      is_second = each_below (Form split_kind s) (λ t. split_command (split_left s t) (split_right s t)) s.splits (λ t l. (inl refl, refl));
      whole = refl;
    }

    pub body_bytes : (h : List Command) → encode (scheme_part reg) (body_after h) ≡ encode (scheme_part reg) h ++ encode_body reg.choices s
    body_bytes h =
        let P = scheme_part reg in
        rw (
          encode-append P (h ++ products_of) splits_of,
          encode-append P h products_of,
          products_of_bytes,
          encode_below P (λ t. split_command (split_left s t) (split_right s t)) (λ t. encode_split (split_left s t) (split_right s t)) s.splits (λ t. split_bytes (split_left s t) (split_right s t)),
          append_assoc,
        )

    -- and the end

    abbrev commands_after : List Command → List Command
    commands_after h = body_after h ++ (end_command ∷ [])

    after_are : (h : List Command) → Header s h → Commands s (commands_after h)
    after_are h x = record {
      first = body_after h;
      second = end_command ∷ [];
      is_first = body_are h x;
      is_second = record { command = end_command; form = refl; whole = refl };
      whole = refl;
    }

    after_bytes : (h : List Command) → encode (scheme_part reg) (commands_after h) ≡ encode (scheme_part reg) h ++ encode_scheme reg.choices s
    unfolding encode flat_map encode_scheme
    after_bytes h = rw (encode-append (scheme_part reg) (body_after h) (end_command ∷ []), body_bytes h, end_bytes, append-nil, append_assoc)

    -- ---- the headers

    abbrev header_with : List Command
    header_with = factor_command s.factor ∷ []

    header_with_are : Header s header_with
    header_with_are = inr (record { command = factor_command s.factor; form = refl; whole = refl })

    with_bytes : encode (scheme_part reg) header_with ≡ encode_factor s.factor
    unfolding encode flat_map
    with_bytes = rw (factor_bytes s.factor, append-nil)

    -- those of a header's bytes
    pub header_by : (h : List ℕ) → HeaderBytes s h → (cs : List Command) × (Header s cs × (encode (scheme_part reg) cs ≡ h))
    unfolding encode flat_map
    header_by h = ⊎_elim (λ e. (header_with, (header_with_are, with_bytes ∙ sym e))) (λ (f, e). ([], (inl (f, refl), sym e)))

    -- ---- the encodings, byte by byte

    encodes_after : (h : List Command) → Header s h → Encodes reg s (encode (scheme_part reg) h ++ encode_scheme reg.choices s)
    encodes_after h x = record { commands = commands_after h; are = after_are h x; bytes = sym (after_bytes h) }

    -- with `23`
    with_factor_encodes : Encodes reg s (encode_factor s.factor ++ encode_scheme reg.choices s)
    with_factor_encodes = subst (λ b. Encodes reg s (b ++ encode_scheme reg.choices s)) with_bytes (encodes_after header_with header_with_are)

    -- and without it, where the factor is 1
    pub canonical : s.factor ≡ 1 → Encodes reg s (encode_scheme reg.choices s)
    unfolding encode flat_map
    canonical f = encodes_after [] (inl (f, refl))

    -- these alone, where each product and each split has one form
    after_only : (cs : List Command) → Commands s cs → (h : List Command) × (Header s h × (cs ≡ commands_after h))
    after_only cs t =
        let body = t.is_first in
        let front = body.is_first in
        let products = each_only (Form product_kind s) _ s.products front.second (λ i d f. f.1) front.is_second in
        let splits = each_only (Form split_kind s) _ s.splits body.second (λ i d f. f.1) body.is_second in
        let end : t.second ≡ end_command ∷ [] = t.is_second.whole ∙ ap (λ c. c ∷ []) t.is_second.form in
        let both : List Command → List Command → List Command = λ x y. x ++ y in
        (front.first, (front.is_first, t.whole ∙ ap₂ both (body.whole ∙ ap₂ both (front.whole ∙ ap (both front.first) products) splits) end))

    header_forms : (h : List Command) → Header s h → HeaderBytes s (encode (scheme_part reg) h)
    unfolding encode flat_map
    header_forms h = ⊎_elim (λ (f, e). inr (f, ap (encode (scheme_part reg)) e)) (λ o. inl (ap (encode (scheme_part reg)) (o.whole ∙ ap (λ c. c ∷ []) o.form) ∙ with_bytes))

    pub encodes_forms : (x : List ℕ) → Encodes reg s x ↔ EncodedBy reg.choices s x
    encodes_forms x = (to, ⊎_elim (λ e. subst (Encodes reg s) (sym e) with_factor_encodes) (λ (f, e). subst (Encodes reg s) (sym e) (canonical f)))
      where
        to : Encodes reg s x → EncodedBy reg.choices s x
        to e =
            let (h, (a, q)) = after_only e.commands e.are in
            let b : x ≡ encode (scheme_part reg) h ++ encode_scheme reg.choices s = e.bytes ∙ ap (encode (scheme_part reg)) q ∙ after_bytes h in
            ⊎_elim (λ w. inl (b ∙ ap (λ y. y ++ encode_scheme reg.choices s) w)) (λ (f, w). inr (f, b ∙ ap (λ y. y ++ encode_scheme reg.choices s) w)) (header_forms h a)
