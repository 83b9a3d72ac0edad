-- The hidden bytes of a job, from the commands of its part 1: which those are, and that the walk over the bytes finds them.
use Prim.Native.Nat.{ℕ, zero, suc, ◌+◌, ◌-◌, ◌≤◌, ◌<◌}
use native.Mathlib.Omega.{arith}
use native.Mathlib.Decide.{ℕ_discrete, dec_lt}
use mathlib.Core.Path.{◌≡◌, refl, sym, ap, ◌∙◌}
use mathlib.Core.Logic.{◌⊎◌, inl, inr, ⊎_elim}
use mathlib.Core.Bool.{Bool, true, false, cond, false≢true}
use mathlib.Core.List.{List, [], ◌∷◌, ◌++◌, append_assoc, flat_map}
use lib.ListN.{length, get_or, drop, replicate, length-append, length-replicate, get_or-append, get_or-replicate}
use lib.Seq.{get_or-append-add, drop_at}
use Rattle.std.proofs.lemmas.List.{replicate-append-replicate}
use borrow.Author.Tests.{ne_eqb}
use Rattle.integers.proofs.Lists.{flag}
use Rattle.integers.proofs.Entries.{replicate_rest}
use Rattle.wire.specs.Part.{total, size}
use Rattle.wire.specs.Rows.{Progress, row_of}
use Rattle.wire.specs.Encoding.{Command, encode_command, encode, Accepts}
use Rattle.wire.proofs.Walk.{Sized}
use Rattle.wire.proofs.Encoding.{length_command}
use Rattle.certificate.specs.Rules.{by_key}
use Rattle.register.specs.declared.Register.{Register}
use Rattle.register.specs.Format.{register_part}
use Rattle.hidden.specs.Hidden.{hides, operand_marks, command_marks, marks_from, InOperand}
use Rattle.hidden.proofs.Commands.{marks}

abbrev pub marks_of : List Command → List Bool
marks_of = marks register_part hides

-- ---- the walk

module _ (rest : List ℕ) where
  pub walk_marks : (cs : List Command) (read end : Progress Register) (k : ℕ) → Accepts register_part read cs end → length (encode register_part cs ++ rest) ≤ k →
      marks_from k (encode register_part cs ++ rest) ≡ marks_of cs
  unfolding marks_from marks encode encode_command flat_map
  walk_marks [] read end k a l = absurd a
  walk_marks (c ∷ cs) read end zero a l = absurd (omega arith)
  walk_marks (c ∷ cs) read end (suc k) a l =
      let n : length (encode_command register_part c) ≡ size register_part c.byte = length_command register_part c a.0.operands in
      let past : drop (size register_part c.byte) ((encode_command register_part c ++ encode register_part cs) ++ rest) ≡ encode register_part cs ++ rest =
      ap (drop (size register_part c.byte)) (append_assoc (encode_command register_part c) (encode register_part cs) rest) ∙ drop_at (encode_command register_part c) (encode register_part cs ++ rest) _ n in
      ap (λ x. command_marks c.byte ++ x) (after past (walk_marks cs))
    where
      after : drop (size register_part c.byte) ((encode_command register_part c ++ encode register_part cs) ++ rest) ≡ encode register_part cs ++ rest →
          ((read end : Progress Register) (k : ℕ) → Accepts register_part read cs end → length (encode register_part cs ++ rest) ≤ k → marks_from k (encode register_part cs ++ rest) ≡ marks_of cs) →
          cond (register_part.last c.byte) [] (marks_from k (drop (size register_part c.byte) ((encode_command register_part c ++ encode register_part cs) ++ rest))) ≡ marks_of cs
      after past later =
          flag (register_part.last c.byte)
          (λ t. let (none, _) = rw t at a.1 in rw (t, none))
          (λ t. rw (t, past) (later _ end k (rw t at a.1) (omega (arith, l, length-append (encode_command register_part c ++ encode register_part cs) rest, length-append (encode_command register_part c) (encode register_part cs), length-append (encode register_part cs) rest))))

-- ---- the bytes of one command

-- a command with hidden operands
abbrev HasHidden : ℕ → Type 0
HasHidden b = (b ≡ 0x11) ⊎ (b ≡ 0x13)

none_hidden : (ws : List ℕ) → operand_marks ws [] ≡ replicate (total ws) false
unfolding operand_marks total
none_hidden [] = refl
none_hidden (w ∷ ws) = rw (none_hidden ws) (replicate-append-replicate w (total ws) false)

-- all operands of `11` and `13` are hidden, and none of another command

abbrev All : Bool → ℕ → Type 0
All h b = operand_marks (register_part.widths b) (hides b) ≡ replicate (total (register_part.widths b)) h

all_hidden : All true 0x11 × All true 0x13
unfolding by_key operand_marks total row_of
all_hidden = (refl, refl)

no_operands : (b : ℕ) → (b ≡ 0x11 → ⊥) → (b ≡ 0x13 → ⊥) → hides b ≡ []
unfolding by_key
no_operands b n m = rw (ne_eqb b 0x11 n, ne_eqb b 0x13 m)

all_or_none : (b : ℕ) → (HasHidden b × All true b) ⊎ ((HasHidden b → ⊥) × All false b)
all_or_none b = by (ℕ_discrete b 0x11) (ℕ_discrete b 0x13)
  where
    by : Dec (b ≡ 0x11) → Dec (b ≡ 0x13) → (HasHidden b × All true b) ⊎ ((HasHidden b → ⊥) × All false b)
    by (yes e) d = inl (inl e, rw e all_hidden.0)
    by (no n) (yes e) = inl (inr e, rw e all_hidden.1)
    by (no n) (no m) = inr (⊎_elim n m, ap (operand_marks (register_part.widths b)) (no_operands b n m) ∙ none_hidden (register_part.widths b))

operands_length : (b : ℕ) → length (operand_marks (register_part.widths b) (hides b)) ≡ total (register_part.widths b)
operands_length b =
    ⊎_elim
    (λ h. ap length h.1 ∙ length-replicate (total (register_part.widths b)) true)
    (λ h. ap length h.1 ∙ length-replicate (total (register_part.widths b)) false)
    (all_or_none b)

-- ---- those of commands

pub marks_length : (cs : List Command) → Sized register_part cs → length (marks_of cs) ≡ length (encode register_part cs)
unfolding marks encode flat_map
marks_length [] h = refl
marks_length (c ∷ cs) h =
    omega (
      arith,
      length-append (command_marks c.byte) (marks_of cs),
      length-append (encode_command register_part c) (encode register_part cs),
      h.0,
      operands_length c.byte,
      marks_length cs h.1,
    )

marks_append : (cs ds : List Command) → marks_of (cs ++ ds) ≡ marks_of cs ++ marks_of ds
unfolding marks flat_map
marks_append [] ds = refl
marks_append (c ∷ cs) ds = rw (marks_append cs ds, append_assoc)

-- byte j of the operands of a command after others
at_operand : (cs : List Command) (c : Command) (ds : List Command) (j : ℕ) → Sized register_part cs → j < total (register_part.widths c.byte) →
    get_or (marks_of (cs ++ (c ∷ ds))) (length (encode register_part cs) + suc j) false ≡ get_or (operand_marks (register_part.widths c.byte) (hides c.byte)) j false
unfolding marks flat_map
at_operand cs c ds j h l =
    ap (λ m. get_or m (length (encode register_part cs) + suc j) false) (marks_append cs (c ∷ ds))
    ∙ ap (λ n. get_or (marks_of cs ++ marks_of (c ∷ ds)) (n + suc j) false) (sym (marks_length cs h))
    ∙ get_or-append-add (marks_of cs) (marks_of (c ∷ ds)) (suc j) false
    ∙ get_or-append (operand_marks (register_part.widths c.byte) (hides c.byte)) (marks_of ds) false j (omega (arith, operands_length c.byte))

-- ---- which bytes these are

pub places_only : (cs : List Command) → Sized register_part cs → (at : ℕ) → get_or (marks_of cs) at false ≡ true → InOperand cs at
unfolding marks encode flat_map
places_only [] h at e = absurd (false≢true e)
places_only (c ∷ cs) h zero e = absurd (false≢true e)
places_only (c ∷ cs) h (suc at) e = by (dec_lt at (total ws)) (places_only cs h.1)
  where
    ws : List ℕ
    ws = register_part.widths c.byte

    own : List Bool
    own = operand_marks ws (hides c.byte)

    by : Dec (at < total ws) → ((at : ℕ) → get_or (marks_of cs) at false ≡ true → InOperand cs at) → InOperand (c ∷ cs) (suc at)
    by (yes l) later =
        let f : get_or own at false ≡ true = sym (get_or-append own (marks_of cs) false at (omega (arith, operands_length c.byte))) ∙ e in
        ⊎_elim
        (λ m. record { front = []; command = c; back = cs; whole = refl; says = m.0; past = omega arith; within = omega arith })
        (λ n. absurd (false≢true (sym (ap (λ x. get_or x at false) n.1 ∙ replicate_rest (total ws) at false) ∙ f)))
        (all_or_none c.byte)
    by (no n) later =
        let j = at - total ws in
        let f : get_or (marks_of cs) j false ≡ true =
        sym (ap (λ n. get_or (own ++ marks_of cs) n false) (omega (arith, operands_length c.byte)) ∙ get_or-append-add own (marks_of cs) j false) ∙ e in
        let o = later j f in
        let n : length (encode register_part (c ∷ o.front)) ≡ suc (total ws) + length (encode register_part o.front) = omega (arith, h.0, length-append (encode_command register_part c) (encode register_part o.front)) in
        record { front = c ∷ o.front; command = o.command; back = o.back; whole = ap (λ ds. c ∷ ds) o.whole; says = o.says; past = omega (arith, n, o.past); within = omega (arith, n, o.within) }

pub places_all : (cs : List Command) → Sized register_part cs → (at : ℕ) → InOperand cs at → get_or (marks_of cs) at false ≡ true
places_all cs h at o =
    let ws = register_part.widths o.command.byte in
    let j = at - suc (length (encode register_part o.front)) in
    let l : j < total ws = omega (arith, o.past, o.within) in
    ap (λ ds. get_or (marks_of ds) at false) o.whole
    ∙ ap (λ n. get_or (marks_of (o.front ++ (o.command ∷ o.back))) n false) (omega (arith, o.past))
    ∙ at_operand o.front o.command o.back j (sized_front o.front _ (rw o.whole at h)) l
    ∙ ⊎_elim
    (λ m. ap (λ x. get_or x j false) m.1 ∙ get_or-replicate (total ws) j true false l)
    (λ n. absurd (n.0 o.says))
    (all_or_none o.command.byte)
  where
    sized_front : (ds es : List Command) → Sized register_part (ds ++ es) → Sized register_part ds
    sized_front [] es k = tt
    sized_front (d ∷ ds) es k = (k.0, sized_front ds es k.1)
