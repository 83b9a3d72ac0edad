-- A part by itself and the same part at the front of a longer run of bytes, once for all parts.
use Prim.Native.Nat.{ℕ}
use mathlib.Core.Path.{◌≡◌, sym, ◌∙◌, ap}
use mathlib.Core.List.{List, [], ◌++◌, append-nil}
use native.Mathlib.Nat.{zero-add}
use native.Mathlib.Omega.{arith}
use lib.ListN.{length, take, drop, length-append, length-drop}
use lib.Seq.{take_at, drop-length}
use Rattle.wire.specs.Number.{Bytes}
use Rattle.wire.specs.Part.{Part, accepted, read_part}
use Rattle.wire.specs.Encoding.{encode}
use Rattle.wire.proofs.Part.{read_from_end}
use Rattle.wire.proofs.Encoding.{sound, complete_at}

module _ {S : Type 0} (P : Part S) where
  -- what is accepted at the front is accepted by itself
  pub front_whole : (s : List ℕ) (read : S) (end : ℕ) → Bytes s → read_part P s ≡ accepted read end → (read_part P (take end s) ≡ accepted read end) × (length (take end s) ≡ end)
  unfolding read_part
  front_whole s read end b q =
      let (cs, (a, x)) = sound P s P.start 0 read end b q in
      let l : length (encode P cs) ≡ end = omega (arith, ap length x ∙ length-append (encode P cs) (drop end s), length-drop end s, read_from_end P s P.start 0 q) in
      let t : take end s ≡ encode P cs = ap (take end) x ∙ take_at (encode P cs) (drop end s) end l in
      let r = complete_at P cs (take end s) P.start 0 read [] a (t ∙ sym (append-nil (encode P cs))) in
      (r ∙ ap (accepted read) (zero-add (length (encode P cs)) ∙ l), ap length t ∙ l)

  -- and what is accepted by itself is accepted at the front
  pub whole_front : (s rest : List ℕ) (read : S) → Bytes s → read_part P s ≡ accepted read (length s) → read_part P (s ++ rest) ≡ accepted read (length s)
  unfolding read_part
  whole_front s rest read b q =
      let (cs, (a, x)) = sound P s P.start 0 read (length s) b q in
      let t : s ≡ encode P cs = x ∙ rw (drop-length, append-nil) in
      let r = complete_at P cs (s ++ rest) P.start 0 read rest a (ap (λ l. l ++ rest) t) in
      r ∙ ap (accepted read) (zero-add (length (encode P cs)) ∙ sym (ap length t))
