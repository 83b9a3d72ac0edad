-- What is accepted, once for all parts: the runs of bytes that are the bytes of commands which are allowed one after the other.
use Prim.Native.Nat.{ℕ, zero, suc, ◌+◌, ◌-◌, ◌^◌, ◌≤◌, ◌<◌}
use native.Mathlib.Nat.{add_assoc, add-zero, zero-add}
use native.Mathlib.Numerals.{add-one}
use native.Mathlib.Omega.{arith}
use mathlib.Core.Path.{◌≡◌, refl, sym, ap, subst, ◌∙◌}
use mathlib.Core.Logic.{◌↔◌}
use mathlib.Core.Bool.{Bool, true, false, cond}
use mathlib.Core.List.{List, [], ◌∷◌, ◌++◌, append_assoc, append-nil, flat_map}
use lib.ListN.{length, get_or, take, drop, length-drop, length-append, take-append-drop}
use lib.Seq.{get_or-drop, drop-drop, drop-cons, drop_at, take-add, drop-length}
use lib.Dec.{ltb}
use borrow.Author.Tests.{ltb-false, le-ltb}
use Rattle.integers.specs.Lists.{join_below}
use Rattle.wire.specs.Number.{Bytes, bytes_of}
use Rattle.wire.specs.Part.{Part, Reading, refused, accepted, operands_at, total, size, after_at, read_from, read_part, by_itself}
use Rattle.wire.specs.Encoding.{Command, fields, Fit, encode_command, encode, Allowed, Accepts}
use Rattle.wire.specs.Refused.{Reaches}
use Rattle.wire.proofs.Number.{bytes_at, nat_at_below, nat_at_front, bytes_of-nat_at, length-bytes_of}
use Rattle.integers.proofs.Lists.{flag}
use Rattle.wire.proofs.Part.{operands, Passes, Ways, by_ways, passed_checks_at, read_from_goes, read_from_ends, read_from_end}

-- Operands.

pub fit_operands_at : (ws s : List ℕ) (at : ℕ) → Bytes s → Fit ws (operands_at ws s at)
unfolding operands_at
fit_operands_at [] s at b = tt
fit_operands_at (w ∷ ws) s at b = (nat_at_below w s at b, fit_operands_at ws s (at + w) b)

-- operands that fit, by their number

pub fit_none : (xs : List ℕ) → Fit [] xs → xs ≡ []
fit_none [] f = refl
fit_none (x ∷ xs) f = absurd f

pub fit_one : (w : ℕ) (xs : List ℕ) → Fit (w ∷ []) xs → (xs ≡ get_or xs 0 0 ∷ []) × (get_or xs 0 0 < 256 ^ w)
fit_one w [] f = absurd f
fit_one w (x ∷ xs) f = (rw (fit_none xs f.1), f.0)

pub fit_two : (v w : ℕ) (xs : List ℕ) → Fit (v ∷ w ∷ []) xs → (xs ≡ get_or xs 0 0 ∷ get_or xs 1 0 ∷ []) × (get_or xs 0 0 < 256 ^ v) × (get_or xs 1 0 < 256 ^ w)
fit_two v w [] f = absurd f
fit_two v w (x ∷ xs) f = let (e, l) = fit_one w xs f.1 in (ap (λ l. x ∷ l) e, f.0, l)

pub fit_three : (u v w : ℕ) (xs : List ℕ) → Fit (u ∷ v ∷ w ∷ []) xs → xs ≡ get_or xs 0 0 ∷ get_or xs 1 0 ∷ get_or xs 2 0 ∷ []
fit_three u v w [] f = absurd f
fit_three u v w (x ∷ xs) f = ap (λ l. x ∷ l) (fit_two v w xs f.1).0

-- the bytes of the operands that are read are those that were read
fields-operands_at : (ws s : List ℕ) (at : ℕ) → Bytes s → at + total ws ≤ length s → fields ws (operands_at ws s at) ≡ take (total ws) (drop at s)
unfolding operands_at fields total
fields-operands_at [] s at b h = refl
fields-operands_at (w ∷ ws) s at b h =
    rw (bytes_of-nat_at w s at b (omega arith), fields-operands_at ws s (at + w) b (omega arith), take-add, drop-drop)

pub length_fields : (ws xs : List ℕ) → Fit ws xs → length (fields ws xs) ≡ total ws
unfolding fields total
length_fields [] xs f = refl
length_fields (w ∷ ws) [] f = absurd f
length_fields (w ∷ ws) (x ∷ xs) f = rw (length-append, length-bytes_of, length_fields ws xs f.1)

-- what stands after the first of two lists
pub after_first : (s : List ℕ) (at n : ℕ) (xs ys : List ℕ) → length xs ≡ n → drop at s ≡ xs ++ ys → drop (at + n) s ≡ ys
after_first s at n xs ys l e = sym (drop-drop n at s) ∙ ap (drop n) e ∙ drop_at xs ys n l

-- operands whose bytes stand at a position
operands_at-fields : (ws xs : List ℕ) → Fit ws xs → (s : List ℕ) (at : ℕ) (rest : List ℕ) → drop at s ≡ fields ws xs ++ rest → operands_at ws s at ≡ xs
unfolding operands_at fields
operands_at-fields [] [] f s at rest e = refl
operands_at-fields [] (x ∷ xs) f s at rest e = absurd f
operands_at-fields (w ∷ ws) [] f s at rest e = absurd f
operands_at-fields (w ∷ ws) (x ∷ xs) f s at rest e =
    let q : drop at s ≡ bytes_of w x ++ (fields ws xs ++ rest) = e ∙ append_assoc (bytes_of w x) (fields ws xs) rest in
    let t = operands_at-fields ws xs f.1 s (at + w) rest (after_first s at w (bytes_of w x) _ (length-bytes_of w x) q) in
    rw (nat_at_front w s at x (fields ws xs ++ rest) q f.0, t)

module _ {S : Type 0} (P : Part S) where
  -- the command at a position
  abbrev pub command_at : List ℕ → ℕ → Command
  command_at s at = record { byte = get_or s at 0; operands = operands P s at }

  pub allowed : (s : List ℕ) (read : S) (at : ℕ) → Bytes s → Passes P s read at → Allowed P read (command_at s at)
  allowed s read at b p = record {
    byte = bytes_at s b at;
    here = p.here;
    operands = fit_operands_at (P.widths (get_or s at 0)) s (at + 1) b;
    passes = p.allowed;
  }

  -- a command's bytes stand where it was read
  pub command_at_bytes : (s : List ℕ) (at : ℕ) → Bytes s → at + size P (get_or s at 0) ≤ length s → drop at s ≡ encode_command P (command_at s at) ++ drop (at + size P (get_or s at 0)) s
  unfolding encode_command
  command_at_bytes s at b h =
      let ws = P.widths (get_or s at 0) in
      let l : at < length s = omega arith in
      let e : at + 1 + total ws ≡ at + suc (total ws) = omega arith in
      drop-cons s at 0 l ∙ rw (fields-operands_at ws s (at + 1) b (omega arith), ← e, ← drop-drop (total ws) (at + 1) s, take-append-drop (total ws) (drop (at + 1) s), add-one)

  -- and a command whose bytes stand at a position is read there
  pub command_at_reads : (s : List ℕ) (at : ℕ) (c : Command) (rest : List ℕ) → Fit (P.widths c.byte) c.operands → drop at s ≡ encode_command P c ++ rest → command_at s at ≡ c
  unfolding encode_command
  command_at_reads s at c rest f e =
      let b : get_or s at 0 ≡ c.byte = (rw add-zero at (sym (get_or-drop at s 0 0))) ∙ ap (λ (l : List ℕ). get_or l 0 0) e in
      let t = operands_at-fields (P.widths c.byte) c.operands f s (at + 1) rest (after_first s at 1 (c.byte ∷ []) _ refl e) in
      rw (b, t)

  -- What is accepted is the bytes of commands.

  pub sound : (s : List ℕ) (read : S) (at : ℕ) (end : S) (e : ℕ) → Bytes s → read_from P s read at ≡ accepted end e → (cs : List Command) × (Accepts P read cs end × (drop at s ≡ encode P cs ++ drop e s))
  unfolding encode flat_map after_at
  sound s read at end e b q = by_ways P s Commands ways read at q
    where
      Commands : S → ℕ → Reading S → Type 0
      Commands read at r = r ≡ accepted end e → (cs : List Command) × (Accepts P read cs end × (drop at s ≡ encode P cs ++ drop e s))

      ways : Ways P s Commands
      ways = record {
        missing = λ read at l q. let z : ◌≡◌ {A = ℕ} 0 1 = cc in absurd (omega arith);
        refuses = λ read at n l h g q. let z : ◌≡◌ {A = ℕ} 0 1 = cc in absurd (omega arith);
        goes = λ read at r p l rest q.
            let (cs, (a, x)) = rest q in
            (command_at s at ∷ cs, ((allowed s read at b p, rw l a), rw append_assoc (command_at_bytes s at b p.room ∙ ap (λ (t : List ℕ). encode_command P (command_at s at) ++ t) x)));
        ends = λ read at p l q.
            let d : after_at P s read at ≡ end = cc in
            let x : at + size P (get_or s at 0) ≡ e = cc in
            (command_at s at ∷ [], ((allowed s read at b p, rw l (refl, d)), rw append-nil (rw x at (command_at_bytes s at b p.room))));
      }

  -- The bytes of commands one after the other.

  pub encode-append : (cs ds : List Command) → encode P (cs ++ ds) ≡ encode P cs ++ encode P ds
  unfolding encode flat_map
  encode-append [] ds = refl
  encode-append (c ∷ cs) ds = rw (encode-append cs ds, append_assoc)

  pub encode_below : (c : ℕ → Command) (b : ℕ → List ℕ) (n : ℕ) → ((i : ℕ) → encode_command P (c i) ≡ b i) → encode P (join_below n (λ i. c i ∷ [])) ≡ join_below n b
  unfolding encode flat_map join_below
  encode_below c b zero h = refl
  encode_below c b (suc n) h = rw (encode-append (join_below n (λ i. c i ∷ [])) (c n ∷ []), encode_below c b n h, h n, append-nil)

  -- The bytes of commands that are allowed are accepted.

  pub length_command : (c : Command) → Fit (P.widths c.byte) c.operands → length (encode_command P c) ≡ size P c.byte
  unfolding encode_command
  length_command c f = ap suc (length_fields (P.widths c.byte) c.operands f)

  -- a command that is read from its bytes and allowed is not refused
  pub passes : (s : List ℕ) (read : S) (at : ℕ) (rest : List ℕ) → Allowed P read (command_at s at) → drop at s ≡ encode_command P (command_at s at) ++ rest → Passes P s read at
  passes s read at rest a e =
      let long : length s - at ≡ size P (get_or s at 0) + length rest = sym (length-drop at s) ∙ ap length e ∙ rw (length-append, length_command (command_at s at) a.operands) in
      record { inside = omega arith; here = a.here; room = omega arith; allowed = a.passes }

  -- commands that are allowed one after the other are read from their bytes, and reading goes on after them
  pub reads_through : (cs : List Command) (s : List ℕ) (read : S) (at : ℕ) (next : S) (post : List ℕ) → Reaches P read cs next → drop at s ≡ encode P cs ++ post → read_from P s read at ≡ read_from P s next (at + length (encode P cs))
  unfolding encode flat_map after_at
  reads_through [] s read at next post r e = rw (r, add-zero)
  reads_through (c ∷ cs) s read at next post r e =
      let e' : drop at s ≡ encode_command P c ++ (encode P cs ++ post) = e ∙ append_assoc (encode_command P c) (encode P cs) post in
      let q : command_at s at ≡ c = command_at_reads s at c (encode P cs ++ post) r.0.operands e' in
      subst (λ (c : Command). Reaches P read (c ∷ cs) next → drop at s ≡ encode_command P c ++ (encode P cs ++ post) → read_from P s read at ≡ read_from P s next (at + length (encode_command P c ++ encode P cs))) q
      (first (λ read' at' r' x. reads_through cs s read' at' next post r' x)) r e'
    where
      first : ((read : S) (at : ℕ) → Reaches P read cs next → drop at s ≡ encode P cs ++ post → read_from P s read at ≡ read_from P s next (at + length (encode P cs)))
          → Reaches P read (command_at s at ∷ cs) next → drop at s ≡ encode_command P (command_at s at) ++ (encode P cs ++ post)
          → read_from P s read at ≡ read_from P s next (at + length (encode_command P (command_at s at) ++ encode P cs))
      first later r e =
          let p = passes s read at (encode P cs ++ post) r.0 e in
          let n : length (encode_command P (command_at s at)) ≡ size P (get_or s at 0) = length_command (command_at s at) r.0.operands in
          read_from_goes P s read at p.inside (passed_checks_at P s read at p) r.1.0 ∙ later _ _ r.1.1 (after_first s at _ (encode_command P (command_at s at)) _ n e) ∙ rw (length-append, n, add_assoc)

  pub complete_at : (cs : List Command) (s : List ℕ) (read : S) (at : ℕ) (end : S) (post : List ℕ) → Accepts P read cs end → drop at s ≡ encode P cs ++ post → read_from P s read at ≡ accepted end (at + length (encode P cs))
  unfolding encode flat_map after_at
  complete_at [] s read at end post a e = absurd a
  complete_at (c ∷ cs) s read at end post a e =
      let e' : drop at s ≡ encode_command P c ++ (encode P cs ++ post) = e ∙ append_assoc (encode_command P c) (encode P cs) post in
      let q : command_at s at ≡ c = command_at_reads s at c (encode P cs ++ post) a.0.operands e' in
      subst (λ (c : Command). Accepts P read (c ∷ cs) end → drop at s ≡ encode_command P c ++ (encode P cs ++ post) → read_from P s read at ≡ accepted end (at + length (encode_command P c ++ encode P cs))) q
      (first (λ read' at' a' x. complete_at cs s read' at' end post a' x)) a e'
    where
      first : ((read : S) (at : ℕ) → Accepts P read cs end → drop at s ≡ encode P cs ++ post → read_from P s read at ≡ accepted end (at + length (encode P cs)))
          → Accepts P read (command_at s at ∷ cs) end → drop at s ≡ encode_command P (command_at s at) ++ (encode P cs ++ post)
          → read_from P s read at ≡ accepted end (at + length (encode_command P (command_at s at) ++ encode P cs))
      first later a e =
          let p = passes s read at (encode P cs ++ post) a.0 e in
          let z = passed_checks_at P s read at p in
          let n : length (encode_command P (command_at s at)) ≡ size P (get_or s at 0) = length_command (command_at s at) a.0.operands in
          flag (P.last (get_or s at 0))
          (λ l. let (none, done) = rw l at a.1 in read_from_ends P s read at p.inside z l ∙ rw (done, none, append-nil, n))
          (λ l. read_from_goes P s read at p.inside z l ∙ later _ _ (rw l at a.1) (after_first s at _ (encode_command P (command_at s at)) _ n e) ∙ rw (length-append, n, add_assoc))

-- A whole run of bytes.

pub by_itself_accepted : {S : Type 0} (s : List ℕ) (r : Reading S) (end : S) (e : ℕ) → by_itself s r ≡ accepted end e → (r ≡ accepted end e) × (length s ≤ e)
unfolding by_itself
by_itself_accepted s (refused n at) end e q = let z : ◌≡◌ {A = ℕ} 0 1 = cc in absurd (omega arith)
by_itself_accepted {S} s (accepted read at) end e q = by (ltb at (length s)) refl q
  where
    by : (t : Bool) → ltb at (length s) ≡ t → ◌≡◌ {A = Reading S} (cond t (refused 12 at) (accepted read at)) (accepted end e) → (◌≡◌ {A = Reading S} (accepted read at) (accepted end e)) × (length s ≤ e)
    by true u q = let z : ◌≡◌ {A = ℕ} 0 1 = cc in absurd (omega arith)
    by false u q = let x : at ≡ e = cc in (q, omega (arith, ltb-false at (length s) u))

module _ {S : Type 0} (P : Part S) (s : List ℕ) (end : S) where
  -- a whole run that is accepted ends with its last byte
  pub by_itself_end : (e : ℕ) → by_itself s (read_part P s) ≡ accepted end e → (read_part P s ≡ accepted end e) × (e ≡ length s)
  unfolding read_part
  by_itself_end e q =
      let (r, l) = by_itself_accepted s (read_part P s) end e q in
      (r, omega (arith, read_from_end P s P.start 0 r))

  -- a run of bytes is accepted where it is the bytes of commands that are allowed one after the other
  pub accepts_iff : Bytes s → (by_itself s (read_part P s) ≡ accepted end (length s)) ↔ ((cs : List Command) × (Accepts P P.start cs end × (s ≡ encode P cs)))
  unfolding by_itself read_part
  accepts_iff b = (commands, accepts)
    where
      commands : by_itself s (read_part P s) ≡ accepted end (length s) → (cs : List Command) × (Accepts P P.start cs end × (s ≡ encode P cs))
      commands q =
          let (r, _) = by_itself_end (length s) q in
          let (cs, (a, x)) = sound P s P.start 0 end (length s) b r in
          (cs, (a, x ∙ rw (drop-length, append-nil)))

      accepts : (cs : List Command) × (Accepts P P.start cs end × (s ≡ encode P cs)) → by_itself s (read_part P s) ≡ accepted end (length s)
      accepts (cs, (a, x)) =
          let q : read_part P s ≡ accepted end (length s) = complete_at P cs s P.start 0 end [] a (x ∙ sym (append-nil _)) ∙ rw (zero-add, x) in
          rw (q, le-ltb (length s) (length s) (omega arith))
