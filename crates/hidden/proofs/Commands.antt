-- Two runs of bytes that agree but in hidden operands, of any part of a job: what their commands gave is as alike as each command
-- leaves it. Which operands of a command are hidden is said by its byte.
use Prim.Native.Nat.{ℕ, zero, suc, ◌^◌, ◌<◌}
use native.Mathlib.Omega.{arith}
use mathlib.Core.Path.{◌≡◌, refl, sym, ap₂, ◌∙◌}
use mathlib.Core.Bool.{Bool, true, false, cond}
use mathlib.Core.List.{List, [], ◌∷◌, ◌++◌, append_assoc, append-nil, flat_map}
use lib.ListN.{length, get_or, drop, replicate}
use lib.Seq.{ext_get_or}
use Rattle.integers.proofs.Lists.{flag}
use Rattle.wire.specs.Number.{bytes_of}
use Rattle.wire.specs.Part.{Part}
use Rattle.wire.specs.Encoding.{Command, fields, Fit, encode_command, encode, after_command, Accepts}
use Rattle.wire.proofs.Number.{nat_at_front, length-bytes_of}
use Rattle.hidden.specs.Hidden.{operand_marks}

-- equally long, and the same byte stands wherever neither list of marks has it as hidden
pub record Off (m m' : List Bool) (s s' : List ℕ) : Type 0 where
  pub lengths : length s ≡ length s'
  pub bytes : (at : ℕ) → get_or m at false ≡ false → get_or m' at false ≡ false → get_or s at 0 ≡ get_or s' at 0

-- ---- from the front on

off_tail : {a a' : Bool} {m m' : List Bool} {x x' : ℕ} {s s' : List ℕ} → Off (a ∷ m) (a' ∷ m') (x ∷ s) (x' ∷ s') → Off m m' s s'
off_tail o = record { lengths = omega (arith, o.lengths); bytes = λ at h k. o.bytes (suc at) h k }

off_head : {m m' : List Bool} {x x' : ℕ} {s s' : List ℕ} → Off (false ∷ m) (false ∷ m') (x ∷ s) (x' ∷ s') → x ≡ x'
off_head o = o.bytes 0 refl refl

off_cast : {m m' : List Bool} {s t s' t' : List ℕ} (n n' : List Bool) → m ≡ n → m' ≡ n' → s ≡ t → s' ≡ t' → Off m m' s s' → Off n n' t t'
off_cast n n' e f g h o = rw (← e, ← f, ← g, ← h) o

-- past the marks nothing is hidden
off_none : (t t' : List ℕ) → Off [] [] t t' → t ≡ t'
off_none t t' o = ext_get_or 0 t t' o.lengths (λ at l. o.bytes at refl refl)

-- an operand
off_field : (h : Bool) (k : ℕ) (m m' : List Bool) (u u' t t' : List ℕ) → length u ≡ k → length u' ≡ k → Off (replicate k h ++ m) (replicate k h ++ m') (u ++ t) (u' ++ t') → (h ≡ false → u ≡ u') × Off m m' t t'
off_field h zero m m' [] [] t t' l l' o = ((λ e. refl), o)
off_field h zero m m' (x ∷ u) u' t t' l l' o = absurd (omega arith)
off_field h zero m m' [] (x ∷ u') t t' l l' o = absurd (omega arith)
off_field h (suc k) m m' [] u' t t' l l' o = absurd (omega arith)
off_field h (suc k) m m' (x ∷ u) [] t t' l l' o = absurd (omega arith)
off_field h (suc k) m m' (x ∷ u) (x' ∷ u') t t' l l' o =
    let (e, rest) = off_field h k m m' u u' t t' (omega arith) (omega arith) (off_tail o) in
    ((λ f. ap₂ ◌∷◌ (o.bytes 0 f f) (e f)), rest)

-- the number that the bytes of an operand say
bytes_of_determines : (w x y : ℕ) → x < 256 ^ w → y < 256 ^ w → bytes_of w x ≡ bytes_of w y → x ≡ y
bytes_of_determines w x y h k e =
    sym (nat_at_front w (bytes_of w x) 0 x [] (sym (append-nil (bytes_of w x))) h) ∙ nat_at_front w (bytes_of w x) 0 y [] (e ∙ sym (append-nil (bytes_of w y))) k

-- ---- the operands of a command

-- those that are not hidden
abbrev pub shown_operands : List Bool → List ℕ → List ℕ
shown_operands [] xs = xs
shown_operands (h ∷ hs) [] = []
shown_operands (h ∷ hs) (x ∷ xs) = let rest = shown_operands hs xs in cond h rest (x ∷ rest)

-- one operand more
shown_more : (hs : List Bool) (x x' : ℕ) (xs xs' : List ℕ) → (get_or hs 0 false ≡ false → x ≡ x') → shown_operands (drop 1 hs) xs ≡ shown_operands (drop 1 hs) xs' →
    shown_operands hs (x ∷ xs) ≡ shown_operands hs (x' ∷ xs')
shown_more [] x x' xs xs' e es = ap₂ ◌∷◌ (e refl) es
shown_more (true ∷ hs) x x' xs xs' e es = es
shown_more (false ∷ hs) x x' xs xs' e es = ap₂ ◌∷◌ (e refl) es

off_fields : (ws : List ℕ) (hs : List Bool) (xs xs' : List ℕ) (m m' : List Bool) (t t' : List ℕ) → Fit ws xs → Fit ws xs' →
    Off (operand_marks ws hs ++ m) (operand_marks ws hs ++ m') (fields ws xs ++ t) (fields ws xs' ++ t') → (shown_operands hs xs ≡ shown_operands hs xs') × Off m m' t t'
unfolding operand_marks fields
off_fields [] hs [] [] m m' t t' f f' o = (refl, o)
off_fields [] hs (x ∷ xs) xs' m m' t t' f f' o = absurd f
off_fields [] hs [] (x ∷ xs') m m' t t' f f' o = absurd f'
off_fields (w ∷ ws) hs [] xs' m m' t t' f f' o = absurd f
off_fields (w ∷ ws) hs (x ∷ xs) [] m m' t t' f f' o = absurd f'
off_fields (w ∷ ws) hs (x ∷ xs) (x' ∷ xs') m m' t t' f f' o =
    let h = get_or hs 0 false in
    let ms = operand_marks ws (drop 1 hs) in
    let (e, first) = off_field h w (ms ++ m) (ms ++ m') (bytes_of w x) (bytes_of w x') (fields ws xs ++ t) (fields ws xs' ++ t') (length-bytes_of w x) (length-bytes_of w x')
    (off_cast _ _ (append_assoc (replicate w h) ms m) (append_assoc (replicate w h) ms m') (append_assoc (bytes_of w x) (fields ws xs) t) (append_assoc (bytes_of w x') (fields ws xs') t') o) in
    let (es, later) = off_fields ws (drop 1 hs) xs xs' m m' t t' f.1 f'.1 first in
    (shown_more hs x x' xs xs' (λ k. bytes_of_determines w x x' f.0 f'.0 (e k)) es, later)

-- ---- commands

module _ {S : Type 0} (P : Part S) (hides : ℕ → List Bool) where
  -- the bytes of commands one after the other
  unfoldable pub marks : List Command → List Bool
  marks cs = flat_map (λ c. false ∷ operand_marks (P.widths c.byte) (hides c.byte)) cs

  -- at the end of two lists of commands: what was read is alike, what stands after them is the same, and so are the marks
  pub record Ends (Like : S → S → Type 0) (cs cs' : List Command) (end end' : S) (t t' : List ℕ) : Type 0 where
    pub like : Like end end'
    pub after : t ≡ t'
    pub marked : marks cs ≡ marks cs'

  -- what was read is alike, and each command leaves it so, whatever its hidden operands
  module _ (Like : S → S → Type 0) (keeps : (read read' : S) (b : ℕ) (xs xs' : List ℕ) → Like read read' → shown_operands (hides b) xs ≡ shown_operands (hides b) xs' → Like (P.after read b xs) (P.after read' b xs')) where
    pub commands_alike : (cs cs' : List Command) (read read' end end' : S) (t t' : List ℕ) → Like read read' → Accepts P read cs end → Accepts P read' cs' end' →
        Off (marks cs) (marks cs') (encode P cs ++ t) (encode P cs' ++ t') → Ends Like cs cs' end end' t t'
    unfolding marks flat_map encode encode_command
    commands_alike [] cs' read read' end end' t t' k a a' o = absurd a
    commands_alike (c ∷ cs) [] read read' end end' t t' k a a' o = absurd a'
    commands_alike (c ∷ cs) (c' ∷ cs') read read' end end' t t' k a a' o = by (λ r r' l. commands_alike cs cs' r r' end end' t t' l)
      where
        byte : c'.byte ≡ c.byte
        byte = sym (off_head o)

        ws : List ℕ
        ws = P.widths c.byte

        own : List Bool
        own = operand_marks ws (hides c.byte)

        fit : Fit ws c'.operands
        fit = rw byte at a'.0.operands

        first : Off (own ++ marks cs) (own ++ marks cs') ((fields ws c.operands ++ encode P cs) ++ t) ((fields ws c'.operands ++ encode P cs') ++ t')
        first = rw byte at (off_tail o)

        both : (shown_operands (hides c.byte) c.operands ≡ shown_operands (hides c.byte) c'.operands) × Off (marks cs) (marks cs') (encode P cs ++ t) (encode P cs' ++ t')
        both = off_fields ws (hides c.byte) c.operands c'.operands (marks cs) (marks cs') (encode P cs ++ t) (encode P cs' ++ t') a.0.operands fit
            (off_cast _ _ refl refl (append_assoc (fields ws c.operands) (encode P cs) t) (append_assoc (fields ws c'.operands) (encode P cs') t') first)

        like : Like (after_command P read c) (P.after read' c.byte c'.operands)
        like = keeps read read' c.byte c.operands c'.operands k both.0

        by : ((r r' : S) → Like r r' → Accepts P r cs end → Accepts P r' cs' end' → Off (marks cs) (marks cs') (encode P cs ++ t) (encode P cs' ++ t') → Ends Like cs cs' end end' t t') → Ends Like (c ∷ cs) (c' ∷ cs') end end' t t'
        by later =
            flag (P.last c.byte)
            (λ l.
            let (none, done) = rw l at a.1 in
            let (none', done') = rw (byte, l) at a'.1 in
            record { like = rw (done, done') at like; after = off_none t t' (rw (none, none') at both.1); marked = rw (byte, none, none') })
            (λ l.
            let e = later _ _ like (rw l at a.1) (rw (byte, l) at a'.1) both.1 in
            record { like = e.like; after = e.after; marked = rw (byte, e.marked) })
