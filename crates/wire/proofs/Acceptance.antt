-- A part given by rows is accepted just from the encodings of a valid record, once for all parts.
use Prim.Native.Nat.{ℕ, ◌≤◌}
use native.Mathlib.Omega.{arith}
use mathlib.Core.Path.{◌≡◌, refl, sym, ◌∙◌, ap}
use mathlib.Core.Logic.{◌↔◌}
use mathlib.Core.List.{List, [], ◌++◌, append-nil}
use lib.ListN.{length, take}
use lib.Seq.{take_all}
use borrow.Author.Tests.{le-ltb}
use Rattle.wire.specs.Number.{Bytes}
use Rattle.wire.specs.Part.{Part, accepted, read_part, by_itself}
use Rattle.wire.specs.Rows.{Progress, Row, part_of}
use Rattle.wire.specs.Encoding.{Command, Accepts}
use Rattle.wire.specs.Grammar.{Encodes}
use Rattle.wire.proofs.Encoding.{by_itself_end}
use Rattle.wire.proofs.Grammar.{last_from}
use Rattle.wire.proofs.Accepting.{reached, Laws, read_ended, read_encoded, done_accepts, encoded_read}

-- what Done says: the record is valid, the commands say it, and the byte of the last of them is a Last
pub record Means {R : Type 0} (Done : Type 0 → R → List Command → Type 0) (Valid : R → Type 0) (Says : R → List Command → Type 0) (Last : ℕ → Type 0) : Type 1 where
  pub valid : (B : Type 0) (r : R) (cs : List Command) → Done B r cs → Valid r × Last (last_from 0 cs)
  pub said : (B : Type 0) (r : R) (cs : List Command) → B → Done B r cs → Says r cs
  pub done : (r : R) (cs : List Command) → Valid r → Says r cs → Done (Unit {0}) r cs

module _ {R : Type 0} (fresh : R) (rows : List (Row R)) {Good Done : Type 0 → R → List Command → Type 0} (laws : Laws fresh rows Good Done) where
  abbrev part : Part (Progress R)
  part = part_of fresh rows

  module _ {Valid : R → Type 0} {Says : R → List Command → Type 0} {Last : ℕ → Type 0} (means : Means Done Valid Says Last) where
    -- ---- at the front of a run of bytes, as in a job

    module _ (s : List ℕ) (p : Progress R) (end : ℕ) (e : read_part part s ≡ accepted p end) where
      -- validity asks nothing of the run
      pub front_valid : Valid p.parsed × Last p.previous
      front_valid =
          let r = read_ended fresh rows laws s p end e in
          let (v, l) = means.valid _ _ _ r.holds in
          (v, rw r.previous l)

      pub front_encodes : Bytes s → Encodes part Says p.parsed (take end s) × (end ≤ length s)
      front_encodes b =
          let (r, l) = read_encoded fresh rows laws s p end b e in
          (record { commands = r.commands; are = means.said _ _ _ b r.holds; bytes = r.bytes }, l)

    -- commands that say a valid record are accepted
    pub said_accepts : (r : R) (cs : List Command) → Valid r → Says r cs → Accepts part part.start cs (reached (last_from 0 cs) r)
    said_accepts r cs v e = done_accepts fresh rows laws r cs (means.done r cs v e)

    -- every encoding of a valid record is accepted, whatever stands after it; the last byte is that of its last command
    pub front_said : (r : R) (x rest : List ℕ) → Valid r → (e : Encodes part Says r x) → read_part part (x ++ rest) ≡ accepted (reached (last_from 0 e.commands) r) (length x)
    front_said r x rest v e =
        encoded_read fresh rows laws (reached (last_from 0 e.commands) r) x rest (record { commands = e.commands; holds = means.done r e.commands v e.are; previous = refl; bytes = e.bytes })

    pub last_said : (r : R) (x : List ℕ) → Valid r → (e : Encodes part Says r x) → Last (last_from 0 e.commands)
    last_said r x v e = (means.valid _ _ _ (means.done r e.commands v e.are)).1

    -- two valid records with one encoding are one
    pub determines : (r r' : R) (x : List ℕ) → Valid r → Valid r' → Encodes part Says r x → Encodes part Says r' x → r ≡ r'
    determines r r' x v v' e e' =
        let a = front_said r x [] v e in
        let b = front_said r' x [] v' e' in
        let c : reached (last_from 0 e.commands) r ≡ reached (last_from 0 e'.commands) r' = cc in
        ap (λ p. p.parsed) c

    -- ---- by itself

    pub whole_said : (r : R) (s : List ℕ) → Valid r → (e : Encodes part Says r s) → by_itself s (read_part part s) ≡ accepted (reached (last_from 0 e.commands) r) (length s)
    unfolding by_itself
    whole_said r s v e =
        let q : read_part part s ≡ accepted (reached (last_from 0 e.commands) r) (length s) = ap (read_part part) (sym (append-nil s)) ∙ front_said r s [] v e in
        rw (q, le-ltb (length s) (length s) (omega arith))

    module _ (s : List ℕ) (p : Progress R) (end : ℕ) (e : by_itself s (read_part part s) ≡ accepted p end) where
      pub whole_valid : Valid p.parsed × Last p.previous
      whole_valid = front_valid s p end (by_itself_end part s p end e).0

      pub whole_encodes : Bytes s → Encodes part Says p.parsed s
      whole_encodes b =
          let (q, l) = by_itself_end part s p end e in
          rw (take_all end s (omega (arith, l))) at (front_encodes s p end q b).0

  -- ---- where the last command has one byte

  module _ {Valid : R → Type 0} {Says : R → List Command → Type 0} {last : ℕ} (means : Means Done Valid Says (λ b. b ≡ last)) where
    pub front_accepted : (r : R) (x rest : List ℕ) → Valid r → Encodes part Says r x → read_part part (x ++ rest) ≡ accepted (reached last r) (length x)
    front_accepted r x rest v e = rw (last_said means r x v e) at (front_said means r x rest v e)

    pub whole_accepted : (r : R) (s : List ℕ) → Valid r → Encodes part Says r s → by_itself s (read_part part s) ≡ accepted (reached last r) (length s)
    whole_accepted r s v e = rw (last_said means r s v e) at (whole_said means r s v e)

    pub whole_iff : (s : List ℕ) (r : R) → Bytes s → (by_itself s (read_part part s) ≡ accepted (reached last r) (length s)) ↔ (Valid r × Encodes part Says r s)
    whole_iff s r b = ((λ e. ((whole_valid means s _ _ e).0, whole_encodes means s _ _ e b)), λ h. whole_accepted r s h.0 h.1)
