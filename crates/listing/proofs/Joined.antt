-- Bytes put after others by a loop, some for each number below n.
use Prim.Native.Nat.{ℕ, ◌+◌, ◌≤◌, ◌<◌}
use native.Mathlib.Numerals.{add-one}
use native.Mathlib.Omega.{arith}
use mathlib.Core.Path.{◌≡◌, sym, ap, ◌∙◌}
use mathlib.Core.List.{List, ◌++◌, append_assoc}
use Rattle.std.proofs.lemmas.List.{append-nil}
use lib.ListN.{length, length-append}
use Rattle.integers.specs.Lists.{join_below}
use Rattle.integers.proofs.Entries.{join_longer}

module _ (f : ℕ → List ℕ) (n : ℕ) (before : List ℕ) where
  -- after i turns
  pub record Going (i : ℕ) (out : List ℕ) : Type 0 where
    pub few : i ≤ n
    pub joined : out ≡ before ++ join_below i f

  pub begins : Going 0 before
  unfolding join_below
  begins = record { few = omega arith; joined = sym (append-nil before) }

  module _ {i : ℕ} {out : List ℕ} (going : Going i out) where
    -- the bytes of a turn have room where all have
    pub room : {limit : ℕ} → i < n → length before + length (join_below n f) ≤ limit → length out + length (f i) ≤ limit
    room l h = omega (arith, ap length going.joined, length-append before (join_below i f), join_longer f i n l)

    pub turn : i < n → {out' : List ℕ} → out' ≡ out ++ f i → Going (i + 1) out'
    unfolding join_below
    turn l {out'} e = rw add-one (record { few = omega arith; joined = e ∙ ap (λ l. l ++ f i) going.joined ∙ append_assoc before (join_below i f) (f i) })

    pub ends : n ≤ i → out ≡ before ++ join_below n f
    ends l = let e : i ≡ n = omega (arith, going.few) in going.joined ∙ ap (λ k. before ++ join_below k f) e
