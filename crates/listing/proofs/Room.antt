-- Bytes written after those that stand at the front of an array, and what stands past them.
use Prim.Native.Nat.{ℕ, ◌+◌, ◌-◌, ◌≤◌}
use native.Mathlib.Omega.{arith}
use mathlib.Core.Path.{◌≡◌, ◌∙◌, ap, sym}
use mathlib.Core.List.{List, ◌++◌}
use lib.ListN.{length, take, drop, replicate, length-append}
use lib.Seq.{sets-eq, take_at, drop-append-add}
use Rattle.std.proofs.lemmas.List.{length-take-le, drop-replicate}
use Rattle.wire.specs.Number.{written}
use Rattle.listing.specs.Answer.{listing_room}
use Rattle.listing.specs.Held.{held}

pub written_after : (bytes : List ℕ) (count : ℕ) (more : List ℕ) → count + length more ≤ length bytes → take (count + length more) (written bytes count more) ≡ take count bytes ++ more
unfolding written
written_after bytes count more l =
    let e : length (take count bytes ++ more) ≡ count + length more = omega (arith, length-append (take count bytes) more, length-take-le count bytes (omega arith)) in
    rw (sets-eq more bytes count l) (take_at (take count bytes ++ more) (drop (count + length more) bytes) (count + length more) e)

-- the array past these bytes: where it was 0 past the first ones, it still is
module _ (bytes : List ℕ) (count : ℕ) (more : List ℕ) (fit : count + length more ≤ length bytes) (holds : held (take count bytes) ≡ bytes) where
  rest_after : length (take count bytes) ≡ count → drop (count + length more) bytes ≡ replicate (listing_room - length (take count bytes ++ more)) 0
  rest_after k =
      ap (drop (count + length more)) (sym holds)
      ∙ ap (λ n. drop (n + length more) (held (take count bytes))) (sym k)
      ∙ drop-append-add (take count bytes) (replicate (listing_room - length (take count bytes)) 0) (length more)
      ∙ drop-replicate (length more) (listing_room - length (take count bytes)) 0
      ∙ ap (λ n. replicate n 0) (omega (arith, length-append (take count bytes) more))

  pub held_after : held (take (count + length more) (written bytes count more)) ≡ written bytes count more
  unfolding written
  held_after =
      let k : length (take count bytes) ≡ count = length-take-le count bytes (omega arith) in
      ap held (written_after bytes count more fit)
      ∙ ap (λ r. take count bytes ++ more ++ r) (sym (rest_after k))
      ∙ sym (sets-eq more bytes count fit)
