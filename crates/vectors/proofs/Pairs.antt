-- Pairs of digits taken one by one.
use Rattle.std.proofs.Common.{◌≡◌, ℕ, suc, ◌+◌, ◌<◌, ◌≤◌, List, [], ◌∷◌, ◌++◌, length, drop, take, set, get_or, refl, ap, sym, ◌∙◌, cond, append_assoc, true, false, eqb, arith, ◌/◌, ◌%◌}
use Rattle.std.specs.Prelude.{Option, Some, None, option_and_then, option_map, IfSome, bytes_eq}
use Rattle.std.specs.Simd.{first_chunks}
use Rattle.std.proofs.lemmas.Bool.{lt-leb, le-leb, eq-eqb, ne_eqb}
use Rattle.std.proofs.lemmas.List.{at_drop_more, at_drop_all, take_more_set}
use Rattle.vectors.specs.Said.{byte, bytes_of, paired, bytes, at_most}

one_longer : (l : ℕ) (b : Option ℕ) (bytes : Option (List ℕ)) → IfSome bytes (λ bs. length bs ≡ l)
    → IfSome (option_and_then (λ b. option_map (λ bs. b ∷ bs) bytes) b) (λ bs. length bs ≡ suc l)
one_longer l None bytes e = tt
one_longer l (Some b) None e = tt
one_longer l (Some b) (Some bs) e = ap suc e

-- as many as pairs
length-bytes_of : (pairs : List (List ℕ)) → IfSome (bytes_of pairs) (λ bs. length bs ≡ length pairs)
unfolding bytes_of
length-bytes_of [] = refl
length-bytes_of (pair ∷ pairs) = one_longer (length pairs) (byte (get_or pair 0 0) (get_or pair 1 0)) (bytes_of pairs) (length-bytes_of pairs)

module _ (n l : ℕ) where
  past : (bytes : Option (List ℕ)) → IfSome bytes (λ bs. length bs ≡ l) → n < l → at_most n bytes ≡ None
  past None e h = refl
  past (Some bs) e h = ap (λ t. cond t (Some bs) None) (lt-leb (length bs) n (omega (arith, e)))

  within : (bytes : Option (List ℕ)) → IfSome bytes (λ bs. length bs ≡ l) → l ≤ n → at_most n bytes ≡ bytes
  within None e h = refl
  within (Some bs) e h = ap (λ t. cond t (Some bs) None) (le-leb (length bs) n (omega (arith, e)))

module _ (n : ℕ) (pairs : List (List ℕ)) where
  pub too_many : n < length pairs → at_most n (bytes_of pairs) ≡ None
  too_many = past n (length pairs) (bytes_of pairs) (length-bytes_of pairs)

  pub have_room : length pairs ≤ n → at_most n (bytes_of pairs) ≡ bytes_of pairs
  have_room = within n (length pairs) (bytes_of pairs) (length-bytes_of pairs)

module _ (field : List ℕ) where
  pub no_bytes : (n : ℕ) → true ≡ bytes_eq field (45 ∷ []) → at_most n (bytes field) ≡ Some []
  unfolding bytes
  no_bytes n e = ap (λ t. at_most n (cond t (Some []) (paired field))) (sym e) ∙ ap (λ t. cond t (Some []) None) (le-leb 0 n (omega arith))

  some_bytes : false ≡ bytes_eq field (45 ∷ []) → bytes field ≡ paired field
  unfolding bytes
  some_bytes e = ap (λ t. cond t (Some []) (paired field)) (sym e)

  pub one_left : false ≡ bytes_eq field (45 ∷ []) → 0 < length field % 2 → bytes field ≡ None
  one_left e h = some_bytes e
      ∙ ap (λ t. cond t (cond (eqb (length field) 0) None (bytes_of (first_chunks 2 (length field / 2) field))) None) (ne_eqb (length field % 2) 0 (omega arith))

  pub no_pairs : false ≡ bytes_eq field (45 ∷ []) → length field ≡ 0 → bytes field ≡ None
  no_pairs e h = some_bytes e
      ∙ ap (λ t. cond t (cond (eqb (length field) 0) None (bytes_of (first_chunks 2 (length field / 2) field))) None) (eq-eqb (length field % 2) 0 (rw h refl))
      ∙ ap (λ t. cond t None (bytes_of (first_chunks 2 (length field / 2) field))) (eq-eqb (length field) 0 h)

  pub some_pairs : (pairs : List (List ℕ)) → false ≡ bytes_eq field (45 ∷ []) → pairs ≡ first_chunks 2 (length field / 2) field → length field % 2 ≡ 0 → 0 < length field → bytes field ≡ bytes_of pairs
  some_pairs pairs e p h l = some_bytes e
      ∙ ap (λ t. cond t (cond (eqb (length field) 0) None (bytes_of (first_chunks 2 (length field / 2) field))) None) (eq-eqb (length field % 2) 0 h)
      ∙ ap (λ t. cond t None (bytes_of (first_chunks 2 (length field / 2) field))) (ne_eqb (length field) 0 (omega arith))
      ∙ ap bytes_of (sym p)

-- those of the first pairs stand at the front of the buffer
abbrev pub behind : List ℕ → Option (List ℕ) → Option (List ℕ)
behind front bytes = option_map (λ bs. front ++ bs) bytes

behind_one : (front : List ℕ) (b : ℕ) (bytes : Option (List ℕ)) → behind (front ++ b ∷ []) bytes ≡ behind front (option_map (λ bs. b ∷ bs) bytes)
behind_one front b None = refl
behind_one front b (Some bs) = ap Some (append_assoc front (b ∷ []) bs)

module _ (buffer : List ℕ) (i : ℕ) (pairs : List (List ℕ)) where
  next_pair : i < length pairs → bytes_of (drop i pairs)
      ≡ option_and_then (λ b. option_map (λ bs. b ∷ bs) (bytes_of (drop (i + 1) pairs))) (byte (get_or (get_or pairs i []) 0 0) (get_or (get_or pairs i []) 1 0))
  unfolding bytes_of
  next_pair l = at_drop_more bytes_of pairs i [] l

  pub more_bytes : i < length pairs → i < length buffer → (b : ℕ) → Some b ≡ byte (get_or (get_or pairs i []) 0 0) (get_or (get_or pairs i []) 1 0)
      → behind (take (i + 1) (set buffer i b)) (bytes_of (drop (i + 1) pairs)) ≡ behind (take i buffer) (bytes_of (drop i pairs))
  more_bytes l m b e =
      ap (λ front. behind front (bytes_of (drop (i + 1) pairs))) (take_more_set buffer i b m)
      ∙ behind_one (take i buffer) b (bytes_of (drop (i + 1) pairs))
      ∙ ap (behind (take i buffer)) (sym (next_pair l ∙ ap (option_and_then (λ b. option_map (λ bs. b ∷ bs) (bytes_of (drop (i + 1) pairs)))) (sym e)))

  pub no_byte : i < length pairs → None ≡ byte (get_or (get_or pairs i []) 0 0) (get_or (get_or pairs i []) 1 0)
      → behind (take i buffer) (bytes_of (drop i pairs)) ≡ None
  no_byte l e = ap (behind (take i buffer)) (next_pair l ∙ ap (option_and_then (λ b. option_map (λ bs. b ∷ bs) (bytes_of (drop (i + 1) pairs)))) (sym e))

  pub no_bytes_left : length pairs ≤ i → behind (take i buffer) (bytes_of (drop i pairs)) ≡ Some (take i buffer ++ [])
  unfolding bytes_of
  no_bytes_left l = ap (behind (take i buffer)) (at_drop_all bytes_of pairs i l)
