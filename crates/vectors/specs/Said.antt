-- What a field says: a number in decimal, or bytes in hexadecimal.
use Rattle.std.specs.Prelude.{ℕ, ◌+◌, ◌-◌, ◌*◌, ◌/◌, ◌%◌, ◌^◌, ℤ, pos, negsuc, neg_ℤ, cond, ◌&&◌, eqb, ltb, leb, Option, Some, None, option_map, option_and_then, List, [], ◌∷◌, length, take, drop, get_or, bytes_eq}
use Rattle.std.specs.Simd.{first_chunks}

-- a number with one more digit; numbers of 20 digits are not read
unfoldable pub and_digit : ℕ → ℕ → Option ℕ
and_digit value digit = cond (leb 48 digit && leb digit 57 && ltb value 1000000000000000000) (Some (10 * value + (digit - 48))) None

-- a number with more digits
unfoldable pub and_digits : ℕ → List ℕ → Option ℕ
and_digits value [] = Some value
and_digits value (digit ∷ digits) = option_and_then (λ more. and_digits more digits) (and_digit value digit)

unfoldable pub decimal : List ℕ → Option ℕ
decimal digits = cond (eqb (length digits) 0) None (and_digits 0 digits)

-- the number, where it has so many bits
abbrev pub of_bits : ℕ → Option ℕ → Option ℕ
of_bits bits None = None
of_bits bits (Some n) = cond (ltb n (2 ^ bits)) (Some n) None

-- a number with a sign where it is below zero, of 63 bits beside the sign
unfoldable pub integer : List ℕ → Option ℤ
integer field = cond (bytes_eq (take 1 field) (45 ∷ [])) (option_map (λ n. neg_ℤ (pos n)) (of_bits 63 (decimal (drop 1 field)))) (option_map pos (of_bits 63 (decimal field)))

-- the number, where it has so many bits beside the sign, in two's complement
abbrev pub of_signed_bits : ℕ → Option ℤ → Option ℤ
of_signed_bits bits None = None
of_signed_bits bits (Some (pos n)) = cond (ltb n (2 ^ bits)) (Some (pos n)) None
of_signed_bits bits (Some (negsuc n)) = cond (ltb n (2 ^ bits)) (Some (negsuc n)) None

-- the value of a hexadecimal digit
unfoldable pub digit : ℕ → Option ℕ
digit b = cond (leb 48 b && leb b 57) (Some (b - 48)) (cond (leb 65 b && leb b 70) (Some (b - 55)) None)

-- the byte of a pair of digits
unfoldable pub byte : ℕ → ℕ → Option ℕ
byte high low = option_and_then (λ h. option_map (λ l. 16 * h + l) (digit low)) (digit high)

-- the bytes of pairs of digits
unfoldable pub bytes_of : List (List ℕ) → Option (List ℕ)
bytes_of [] = Some []
bytes_of (pair ∷ pairs) = option_and_then (λ b. option_map (λ bytes. b ∷ bytes) (bytes_of pairs)) (byte (get_or pair 0 0) (get_or pair 1 0))

-- at least one pair of digits
abbrev pub paired : List ℕ → Option (List ℕ)
paired field = cond (eqb (length field % 2) 0) (cond (eqb (length field) 0) None (bytes_of (first_chunks 2 (length field / 2) field))) None

-- `-` stands for no bytes
unfoldable pub bytes : List ℕ → Option (List ℕ)
bytes field = cond (bytes_eq field (45 ∷ [])) (Some []) (paired field)

-- at most so many of them
abbrev pub at_most : ℕ → Option (List ℕ) → Option (List ℕ)
at_most limit None = None
at_most limit (Some bytes) = cond (leb (length bytes) limit) (Some bytes) None

-- so many at the front, where they are there
abbrev pub front : {A : Type 0} → List A → Option ℕ → Option (List A)
front xs None = None
front xs (Some n) = cond (leb n (length xs)) (Some (take n xs)) None
