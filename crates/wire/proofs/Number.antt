-- The laws of little-endian numbers, each once for every width.
use Prim.Native.Nat.{ℕ, zero, suc, ◌+◌, ◌*◌, ◌^◌, ◌≤◌, ◌<◌, ◌/◌, ◌%◌}
use native.Mathlib.Nat.{pow-succ', zero-add, add-zero, one-mul, mod-one, mod-eq_of_lt, mod-lt, suc-add, add-suc, pow-suc, div-one, div-eq_of_lt, one-le-pow, div-div-eq-div-mul, add-mul-div_left, add-mul-mod_self_left, pow-le-pow_right, zero-lt-suc, min-le_left}
use native.Mathlib.Omega.{arith}
use mathlib.Core.Path.{◌≡◌, refl, sym, ap, ◌∙◌}
use mathlib.Core.List.{List, [], ◌∷◌, ◌++◌}
use lib.ListN.{length, take, drop, get_or, set, length-drop, length-take}
use lib.Seq.{take-add, drop-drop, drop-cons, length-take-le, take_at, sets}
use lib.Arith.{mod-mul, digits_div, digits_mod}
use Rattle.wire.specs.Number.{Bytes, little, nat_at, bytes_of, put_at}

-- Lists of bytes.

pub bytes_take : (n : ℕ) (s : List ℕ) → Bytes s → Bytes (take n s)
bytes_take zero s b = tt
bytes_take (suc n) [] b = tt
bytes_take (suc n) (x ∷ s) b = (b.0, bytes_take n s b.1)

pub bytes_drop : (n : ℕ) (s : List ℕ) → Bytes s → Bytes (drop n s)
bytes_drop zero s b = b
bytes_drop (suc n) [] b = tt
bytes_drop (suc n) (x ∷ s) b = bytes_drop n s b.1

-- every element is a byte, and what `get_or` gives past the end is one
pub bytes_at : (s : List ℕ) → Bytes s → (i : ℕ) → get_or s i 0 < 256
bytes_at [] b i = omega arith
bytes_at (x ∷ s) b zero = b.0
bytes_at (x ∷ s) b (suc i) = bytes_at s b.1 i

pub bytes_each : (s : List ℕ) → ((i : ℕ) → i < length s → get_or s i 0 < 256) → Bytes s
bytes_each [] h = tt
bytes_each (x ∷ s) h = (h 0 (omega arith), bytes_each s (λ i l. h (suc i) (omega arith)))

-- The number that a list of bytes says, and the bytes of a number.

little-append : (xs ys : List ℕ) → little (xs ++ ys) ≡ little xs + 256 ^ length xs * little ys
unfolding little
little-append [] ys = rw (zero-add, one-mul)
little-append (b ∷ xs) ys = rw (little-append xs ys, pow-succ') (omega arith)

little_below : (xs : List ℕ) → Bytes xs → little xs < 256 ^ length xs
unfolding little
little_below [] b = omega arith
little_below (x ∷ xs) b = rw pow-succ' (omega (arith, b.0, little_below xs b.1))

pub length-bytes_of : (k n : ℕ) → length (bytes_of k n) ≡ k
unfolding bytes_of
length-bytes_of zero n = refl
length-bytes_of (suc k) n = ap suc (length-bytes_of k (n / 256))

-- n to its low byte and the j bytes above it
byte_digits : (j n : ℕ) → n % 256 ^ suc j ≡ n / 256 % 256 ^ j * 256 + n % 256
byte_digits j n = rw pow-suc (mod-mul n (one-le-pow j 256 (zero-lt-suc 255)) (zero-lt-suc 255))

little-bytes_of : (k n : ℕ) → little (bytes_of k n) ≡ n % 256 ^ k
unfolding little bytes_of
little-bytes_of zero n = sym (mod-one n)
little-bytes_of (suc k) n = rw (little-bytes_of k (n / 256)) (omega (arith, byte_digits k n))

bytes_of-little : (xs : List ℕ) → Bytes xs → bytes_of (length xs) (little xs) ≡ xs
unfolding little bytes_of
bytes_of-little [] b = refl
bytes_of-little (x ∷ xs) b =
    rw (add-mul-mod_self_left x 256 (little xs), mod-eq_of_lt b.0, add-mul-div_left x (little xs) (zero-lt-suc 255), div-eq_of_lt b.0, zero-add, bytes_of-little xs b.1)

bytes_of_mod : (j n : ℕ) → bytes_of j (n % 256 ^ j) ≡ bytes_of j n
unfolding bytes_of
bytes_of_mod zero n = refl
bytes_of_mod (suc j) n =
    rw (byte_digits j n, digits_div (n / 256 % 256 ^ j) (mod-lt n (zero-lt-suc 255)), digits_mod (n / 256 % 256 ^ j) (mod-lt n (zero-lt-suc 255)), bytes_of_mod j (n / 256))

bytes_of_add : (j k n : ℕ) → bytes_of (j + k) n ≡ bytes_of j n ++ bytes_of k (n / 256 ^ j)
unfolding bytes_of
bytes_of_add zero k n = rw (zero-add, div-one)
bytes_of_add (suc j) k n = rw (suc-add, bytes_of_add j k (n / 256), div-div-eq-div-mul, pow-succ')

-- Numbers at a position.

-- the number in j + k bytes, by that in the first j and that in the k after them
pub nat_at_split : (j k : ℕ) (s : List ℕ) (at : ℕ) → at + j ≤ length s → nat_at (j + k) s at ≡ nat_at j s at + 256 ^ j * nat_at k s (at + j)
unfolding nat_at
nat_at_split j k s at h =
    let e : length (take j (drop at s)) ≡ j = length-take-le j (drop at s) (simp length-drop (omega arith)) in
    rw (take-add, little-append, e, drop-drop)

-- the number in one byte
pub nat_at_one : (s : List ℕ) (at : ℕ) → at + 1 ≤ length s → nat_at 1 s at ≡ get_or s at 0
unfolding nat_at little
nat_at_one s at h = let g : at < length s = omega arith in rw (drop-cons s at 0 g) (omega arith)

pub nat_at_below : (k : ℕ) (s : List ℕ) (at : ℕ) → Bytes s → nat_at k s at < 256 ^ k
unfolding nat_at
nat_at_below k s at b =
    let few : length (take k (drop at s)) ≤ k = rw length-take (min-le_left k (length (drop at s))) in
    omega (arith, little_below (take k (drop at s)) (bytes_take k _ (bytes_drop at s b)), pow-le-pow_right (zero-lt-suc 255) few)

-- the bytes of the number that is read are those that were read
pub bytes_of-nat_at : (k : ℕ) (s : List ℕ) (at : ℕ) → Bytes s → at + k ≤ length s → bytes_of k (nat_at k s at) ≡ take k (drop at s)
unfolding nat_at
bytes_of-nat_at k s at b h =
    let xs = take k (drop at s) in
    let e : length xs ≡ k = length-take-le k (drop at s) (simp length-drop (omega arith)) in
    ap (λ (n : ℕ). bytes_of n (little xs)) (sym e) ∙ bytes_of-little xs (bytes_take k _ (bytes_drop at s b))

-- the number whose bytes stand at a position
nat_at-digits : (k : ℕ) (s : List ℕ) (at n : ℕ) (rest : List ℕ) → drop at s ≡ bytes_of k n ++ rest → nat_at k s at ≡ n % 256 ^ k
unfolding nat_at
nat_at-digits k s at n rest e = rw (e, take_at (bytes_of k n) rest k (length-bytes_of k n), little-bytes_of)

pub nat_at_front : (k : ℕ) (s : List ℕ) (at n : ℕ) (rest : List ℕ) → drop at s ≡ bytes_of k n ++ rest → n < 256 ^ k → nat_at k s at ≡ n
nat_at_front k s at n rest e l = nat_at-digits k s at n rest e ∙ mod-eq_of_lt l

-- Numbers written.

pub sets_append : (l : List ℕ) (i : ℕ) (xs ys : List ℕ) → sets l i (xs ++ ys) ≡ sets (sets l i xs) (i + length xs) ys
sets_append l i [] ys = rw add-zero
sets_append l i (x ∷ xs) ys = rw add-suc (rw suc-add at (sets_append (set l i x) (suc i) xs ys))

-- a number's low j bytes, and then the others
pub put_at_split : (j k : ℕ) (s : List ℕ) (at n : ℕ) → put_at k (put_at j s at (n % 256 ^ j)) (at + j) (n / 256 ^ j) ≡ put_at (j + k) s at n
unfolding put_at
put_at_split j k s at n = rw (bytes_of_add, sets_append, bytes_of_mod, length-bytes_of)
