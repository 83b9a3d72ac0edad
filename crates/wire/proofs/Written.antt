-- Bytes written into a buffer, one after the other.
use Prim.Native.Nat.{ℕ, ◌+◌, ◌≤◌, ◌<◌}
use native.Mathlib.Nat.{add-zero, zero-add, add_assoc, mod-eq_of_lt}
use native.Mathlib.Numerals.{add-one}
use native.Mathlib.Omega.{arith}
use mathlib.Core.Path.{◌≡◌, refl, sym, ap, ◌∙◌}
use mathlib.Core.List.{List, [], ◌∷◌, ◌++◌, append_assoc}
use lib.ListN.{length, drop, length-append}
use lib.Seq.{sets-eq, length-sets}
use Rattle.integers.specs.Lists.{join_below}
use Rattle.integers.proofs.Entries.{join_longer}
use Rattle.wire.specs.Number.{bytes_of, put_at, written}
use Rattle.wire.proofs.Number.{length-bytes_of, sets_append}

pub put_at-written : (s : List ℕ) (at k x : ℕ) → put_at k s at x ≡ written s at (bytes_of k x)
unfolding put_at written
put_at-written s at k x = refl

module _ (s : List ℕ) (at : ℕ) where
  pub written_none : written s at [] ≡ s
  unfolding written
  written_none = refl

  pub length-written : (a : List ℕ) → length (written s at a) ≡ length s
  unfolding written
  length-written a = length-sets s at a

  -- and others after them
  pub written-append : (a b : List ℕ) → written (written s at a) (at + length a) b ≡ written s at (a ++ b)
  unfolding written
  written-append a b = sym (sets_append s at a b)

  pub written_next : (a : List ℕ) (next : ℕ) (b : List ℕ) → next ≡ at + length a → written (written s at a) next b ≡ written s at (a ++ b)
  written_next a next b e = rw e (written-append a b)

  -- and a number after them
  pub put_at_next : (a : List ℕ) (next k x : ℕ) → next ≡ at + length a → put_at k (written s at a) next x ≡ written s at (a ++ bytes_of k x)
  put_at_next a next k x e = put_at-written (written s at a) next k x ∙ written_next a next (bytes_of k x) e

  -- three numbers
  put_at_three : (j k l x y z second third : ℕ) → second ≡ at + j → third ≡ at + j + k →
      put_at l (put_at k (put_at j s at x) second y) third z ≡ written s at (bytes_of j x ++ (bytes_of k y ++ bytes_of l z))
  put_at_three j k l x y z second third e d =
      rw (
        put_at-written s at j x,
        put_at_next (bytes_of j x) second k y (rw (length-bytes_of j x) e),
        put_at_next (bytes_of j x ++ bytes_of k y) third l z (rw (length-append (bytes_of j x) (bytes_of k y), length-bytes_of j x, length-bytes_of k y, ← (add_assoc at j k)) d),
        append_assoc,
      )

pub written_front : (s a : List ℕ) → length a ≤ length s → written s 0 a ≡ a ++ drop (length a) s
unfolding written
written_front s a h = sets-eq a s 0 (rw zero-add h) ∙ rw zero-add

-- a number of one byte
pub one_byte : (x : ℕ) → x < 256 → bytes_of 1 x ≡ x ∷ []
unfolding bytes_of
one_byte x l = rw (mod-eq_of_lt l)

-- a command's byte and two operands, stored one after the other
module _ (s : List ℕ) (at k l byte y z : ℕ) (few : byte < 256) where
  pub command_stored : {first second out : List ℕ} {next last : ℕ} → first ≡ put_at 1 s at byte → second ≡ put_at k first next y → out ≡ put_at l second last z →
      next ≡ at + 1 → last ≡ at + 1 + k → out ≡ written s at (byte ∷ (bytes_of k y ++ bytes_of l z))
  command_stored {first} {second} {out} {next} {last} a b c e d =
      c
      ∙ ap (λ o. put_at l o last z) (b ∙ ap (λ o. put_at k o next y) a)
      ∙ put_at_three s at 1 k l byte y z next last e d
      ∙ ap (λ o. written s at (o ++ (bytes_of k y ++ bytes_of l z))) (one_byte byte few)

-- ---- writers

-- what a writer ensures: the position after its bytes, and the buffer
abbrev pub Wrote : List ℕ → ℕ → List ℕ → ℕ → List ℕ → Type 0
Wrote s at bytes next out = (next ≡ at + length bytes) × (out ≡ written s at bytes)

module _ (s : List ℕ) (at : ℕ) where
  -- one writer after another
  pub and_then : (a b : List ℕ) {mid next : ℕ} {out₁ out₂ : List ℕ} → Wrote s at a mid out₁ → Wrote out₁ mid b next out₂ → Wrote s at (a ++ b) next out₂
  and_then a b {mid} {next} {out₁} {out₂} v w = (
    w.0 ∙ ap (λ k. k + length b) v.0 ∙ add_assoc at (length a) (length b) ∙ ap (λ k. at + k) (sym (length-append a b)),
    w.1 ∙ ap (λ l. written l mid b) v.1 ∙ ap (λ k. written (written s at a) k b) v.0 ∙ written-append s at a b,
  )

  -- the same bytes
  pub same : {a b : List ℕ} {next : ℕ} {out : List ℕ} → a ≡ b → Wrote s at a next out → Wrote s at b next out
  same {a} {b} {next} {out} e w = (w.0 ∙ ap (λ l. at + length l) e, w.1 ∙ ap (written s at) e)

  -- no bytes
  pub nothing : Wrote s at [] at s
  nothing = (sym (add-zero at), sym (written_none s at))

-- a loop that writes f 0, f 1, .. f (n − 1) one after the other, from a start
module _ (f : ℕ → List ℕ) (n start : ℕ) (s : List ℕ) where
  -- after i turns
  pub record Going (i at : ℕ) (out : List ℕ) : Type 0 where
    pub few : i ≤ n
    pub wrote : Wrote s start (join_below i f) at out

  pub begins : Going 0 start s
  unfolding join_below
  begins = record { few = omega arith; wrote = nothing s start }

  module _ {i at : ℕ} {out : List ℕ} (going : Going i at out) where
    pub length_going : length out ≡ length s
    length_going = ap length going.wrote.1 ∙ length-written s start (join_below i f)

    pub room : i < n → start + length (join_below n f) ≤ length s → at + length (f i) ≤ length out
    room l h = omega (arith, going.wrote.0, join_longer f i n l, length_going)

    pub turn : i < n → {next : ℕ} {out' : List ℕ} → Wrote out at (f i) next out' → Going (i + 1) next out'
    unfolding join_below
    turn l {next} {out'} w = rw add-one (record { few = omega arith; wrote = and_then s start (join_below i f) (f i) going.wrote w })

    pub ends : n ≤ i → Wrote s start (join_below n f) at out
    ends l = let e : i ≡ n = omega (arith, going.few) in same s start (ap (λ k. join_below k f) e) going.wrote
