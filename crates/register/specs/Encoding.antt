-- The register's bytes: `10` base cost, `18` day length, which may be missing where it is the usual one, `13` for each window, `11`
-- for each choice, `14` for each row, `12`, `15` or `16` for each term, `1F`. Written without the reader: of the part's rows only the widths of
-- operands are used. `SaysRow`, `SaysRange`, `SaysWide` and `SaysMoreChoices` alone, below, use a reader, as it was before there were rows,
-- ranges, `15` or more than 32 choices, and what such a command may stand after.
use Rattle.std.specs.Prelude.{ℕ, ◌≡◌, ◌⊎◌, ◌<◌, ◌^◌, Bool, true, false, ◌&&◌, cond, map, eqb, leb, ℤ, length, get_or}
use mathlib.Core.List.{List, [], ◌∷◌, ◌++◌, flat_map}
use Rattle.std.specs.Int.{w8, w16, w32}
use Rattle.std.proofs.Common.{of_z}
use Rattle.integers.specs.Lists.{join_below}
use Rattle.wire.specs.Number.{bytes_of, nat_at}
use Rattle.wire.specs.Encoding.{Command}
use Rattle.wire.specs.Grammar.{Only, Optional, Then, Kind, Kinds}
use Rattle.wire.specs.Grammar as G
use Rattle.wire.specs.Walk.{comes_to}
use Rattle.wire.specs.Rows.{Progress, is_among}
use Rattle.register.specs.declared.Register.{Register}
use Rattle.register.specs.Limits.{usual_day, row_entries, narrow_choices}
use Rattle.register.specs.Register.{tank, minute, mask, coefficient, high, is_range, window_tank, window_from, window_to, row_total, row_entry}
use Rattle.register.specs.Format.{choice_row, row_row, wide_term_row, range_row, register_part}
use Rattle.register.specs.BeforeRows.{part_before_rows}
use Rattle.register.specs.BeforeRanges.{part_before_ranges}
use Rattle.register.specs.BeforeWide.{part_without_wide, max_choices_before, part_before_wide}

-- ---- an encoding: header, each window, choice, row and term in one of its forms, end

-- `10` base cost
abbrev pub base_command : ℤ → Command
base_command base = record { byte = 0x10; operands = of_z w32 base ∷ [] }

-- `18` day length
abbrev pub length_command : ℕ → Command
length_command length = record { byte = 0x18; operands = length ∷ [] }

-- `10`, and `18`, which may be missing where the length is the usual one
abbrev pub Header : Register → List Command → Type 0
Header r = Then (Only (λ c. c ≡ base_command r.base)) (Optional (r.day_length ≡ usual_day) (λ c. c ≡ length_command r.day_length))

-- `11` tank, minute
abbrev pub choice_command : (tank minute : ℕ) → Command
choice_command tank minute = record { byte = 0x11; operands = tank ∷ minute ∷ [] }

abbrev pub choice_kind : Kind Register
choice_kind = record { bytes = 0x11 ∷ []; count = λ r. r.choices; says = λ r i c. c ≡ choice_command (tank r i) (minute r i) }

-- `12` mask, coefficient
abbrev pub term_command : (mask : ℕ) → ℤ → Command
term_command mask coefficient = record { byte = 0x12; operands = mask ∷ of_z w32 coefficient ∷ [] }

-- `15` mask, coefficient
abbrev pub wide_term_command : (mask : ℕ) → ℤ → Command
wide_term_command mask coefficient = record { byte = 0x15; operands = mask ∷ of_z w32 coefficient ∷ [] }

-- `16` mask, low, high
abbrev pub range_command : (mask : ℕ) → (low high : ℤ) → Command
range_command mask low high = record { byte = 0x16; operands = mask ∷ of_z w32 low ∷ of_z w32 high ∷ [] }

-- a set of choices 0 to 31, which four bytes name; the bytes of any other set would name fewer choices than it has
abbrev pub Narrow : ℕ → Type 0
Narrow set = set < 2 ^ narrow_choices

-- the mask of every term is such a set, and that of every term with a range

abbrev pub MasksNarrow : Register → Type 0
MasksNarrow r = (t : ℕ) → t < r.terms → Narrow (mask r t)

abbrev pub RangesNarrow : Register → Type 0
RangesNarrow r = (t : ℕ) → t < r.terms → is_range r t ≡ true → Narrow (mask r t)

-- a term without a range: `12`, which names choices 0 to 31 only, or `15`
abbrev pub SaysKnown : (mask : ℕ) → ℤ → Command → Type 0
SaysKnown mask coefficient c = (Narrow mask × (c ≡ term_command mask coefficient)) ⊎ (c ≡ wide_term_command mask coefficient)

-- a term with a range: `16`, which names choices 0 to 31 only
abbrev pub SaysRanged : (mask : ℕ) → (low high : ℤ) → Command → Type 0
SaysRanged mask low high c = Narrow mask × (c ≡ range_command mask low high)

-- a term, by whether it has a range
abbrev pub SaysTerm : Bool → (mask : ℕ) → (low high : ℤ) → Command → Type 0
SaysTerm ranged mask low high c = cond ranged (SaysRanged mask low high c) (SaysKnown mask low c)

abbrev pub term_kind : Kind Register
term_kind = record { bytes = 0x12 ∷ 0x15 ∷ 0x16 ∷ []; count = λ r. r.terms; says = λ r t c. SaysTerm (is_range r t) (mask r t) (coefficient r t) (high r t) c }

-- `13` tank, from, to
abbrev pub window_command : (tank from to : ℕ) → Command
window_command tank from to = record { byte = 0x13; operands = tank ∷ from ∷ to ∷ [] }

abbrev pub window_kind : Kind Register
window_kind = record { bytes = 0x13 ∷ []; count = λ r. r.windows; says = λ r j c. c ≡ window_command (window_tank r j) (window_from r j) (window_to r j) }

-- the entries of row k, that for choice 0 first
abbrev pub row_list : Register → ℕ → List ℤ
row_list r k = join_below row_entries (λ j. row_entry r k j ∷ [])

-- `14` total, entries
abbrev pub row_command : ℤ → List ℤ → Command
row_command total entries = record { byte = 0x14; operands = of_z w16 total ∷ map (of_z w8) entries }

abbrev pub row_kind : Kind Register
row_kind = record { bytes = 0x14 ∷ []; count = λ r. r.rows; says = λ r k c. c ≡ row_command (row_total r k) (row_list r k) }

-- in this order
abbrev pub kinds : List (Kind Register)
kinds = window_kind ∷ choice_kind ∷ row_kind ∷ term_kind ∷ []

-- `1F`
abbrev pub end_command : Command
end_command = record { byte = 0x1F; operands = [] }

-- the commands are those of a register
abbrev pub Commands : Register → List Command → Type 0
Commands r = Then (Kinds r (Header r) kinds) (Only (λ c. c ≡ end_command))

-- a run of bytes is an encoding of a register
abbrev pub Encodes : Register → List ℕ → Type 0
Encodes r s = G.Encodes register_part Commands r s

-- ---- byte by byte. The encodings of a register differ in no more than this: where the length is the usual one `18` may be missing, and
-- a term without a range is said by `15` or, where its mask is narrow, by `12` (`of_register` in `soundness/specs/Written`)

-- `10` base cost i32
unfoldable pub encode_base : ℤ → List ℕ
encode_base base = 0x10 ∷ bytes_of 4 (of_z w32 base)

-- `11` choice: tank u16, minute u16
unfoldable pub encode_choice : (tank minute : ℕ) → List ℕ
encode_choice tank minute = 0x11 ∷ (bytes_of 2 tank ++ bytes_of 2 minute)

-- `12` term: mask u32, coefficient i32
unfoldable pub encode_term : (mask : ℕ) → ℤ → List ℕ
encode_term mask coefficient = 0x12 ∷ (bytes_of 4 mask ++ bytes_of 4 (of_z w32 coefficient))

-- `15` term: mask u64, coefficient i32
unfoldable pub encode_wide_term : (mask : ℕ) → ℤ → List ℕ
encode_wide_term mask coefficient = 0x15 ∷ (bytes_of 8 mask ++ bytes_of 4 (of_z w32 coefficient))

-- `13` window: tank u16, from u16, to u16
unfoldable pub encode_window : (tank from to : ℕ) → List ℕ
encode_window tank from to = 0x13 ∷ (bytes_of 2 tank ++ (bytes_of 2 from ++ bytes_of 2 to))

-- `14` row: total i16, entries i8
unfoldable pub encode_row : ℤ → List ℤ → List ℕ
encode_row total entries = 0x14 ∷ (bytes_of 2 (of_z w16 total) ++ flat_map (λ a. bytes_of 1 (of_z w8 a)) entries)

-- `16` range: mask u32, low i32, high i32
unfoldable pub encode_range : (mask : ℕ) → (low high : ℤ) → List ℕ
encode_range mask low high = 0x16 ∷ (bytes_of 4 mask ++ (bytes_of 4 (of_z w32 low) ++ bytes_of 4 (of_z w32 high)))

-- `18` day length u16
unfoldable pub encode_length : ℕ → List ℕ
encode_length length = 0x18 ∷ bytes_of 2 length

-- the windows, the choices, the rows, and the terms, one after the other

abbrev pub encode_windows : Register → List ℕ
encode_windows r = join_below r.windows (λ j. encode_window (window_tank r j) (window_from r j) (window_to r j))

abbrev pub encode_choices : Register → List ℕ
encode_choices r = join_below r.choices (λ i. encode_choice (tank r i) (minute r i))

abbrev pub encode_rows : Register → List ℕ
encode_rows r = join_below r.rows (λ k. encode_row (row_total r k) (row_list r k))

-- a term without a range, by `15` or by `12`
abbrev pub encode_known : (wide : Bool) (mask : ℕ) → ℤ → List ℕ
encode_known wide mask coefficient = cond wide (encode_wide_term mask coefficient) (encode_term mask coefficient)

abbrev pub encode_entry : (wide ranged : Bool) (mask : ℕ) → (low high : ℤ) → List ℕ
encode_entry wide ranged mask low high = cond ranged (encode_range mask low high) (encode_known wide mask low)

-- `wide` says which of the terms without a range are said by `15`
abbrev pub encode_terms_by : (wide : ℕ → Bool) → Register → List ℕ
encode_terms_by wide r = join_below r.terms (λ t. encode_entry (wide t) (is_range r t) (mask r t) (coefficient r t) (high r t))

-- the terms said by `12` and `16` have narrow masks
abbrev pub Sayable : (wide : ℕ → Bool) → Register → Type 0
Sayable wide r = (t : ℕ) → t < r.terms → (wide t ≡ false) ⊎ (is_range r t ≡ true) → Narrow (mask r t)

-- after the bytes of a header
abbrev pub encode_after : (wide : ℕ → Bool) → List ℕ → Register → List ℕ
encode_after wide header r = header ++ encode_windows r ++ encode_choices r ++ encode_rows r ++ encode_terms_by wide r ++ (0x1F ∷ [])

-- with `18`, which says every length, and without it, where the length is the usual one
abbrev pub EncodedBy : (wide : ℕ → Bool) → Register → List ℕ → Type 0
EncodedBy wide r s = (s ≡ encode_after wide (encode_base r.base ++ encode_length r.day_length) r) ⊎ ((r.day_length ≡ usual_day) × (s ≡ encode_after wide (encode_base r.base) r))

-- ---- as a writer has them: by `15` just the terms without a range that `12` cannot say

abbrev pub not_narrow : Register → ℕ → Bool
not_narrow r t = leb (2 ^ narrow_choices) (mask r t)

abbrev pub encode_terms : Register → List ℕ
encode_terms r = encode_terms_by (not_narrow r) r

abbrev pub encode_with_length : Register → List ℕ
encode_with_length r = encode_after (not_narrow r) (encode_base r.base ++ encode_length r.day_length) r

abbrev pub encode_without_length : Register → List ℕ
encode_without_length r = encode_after (not_narrow r) (encode_base r.base) r

-- what a writer makes: the length is said where it is not the usual one. It is an encoding where each range has a narrow mask, as in every
-- register that has an encoding
unfoldable pub encode_register : Register → List ℕ
encode_register r = cond (eqb r.day_length usual_day) (encode_without_length r) (encode_with_length r)

-- a byte with this value stands in a run of bytes
pub record HasByte (b : ℕ) (s : List ℕ) : Type 0 where
  pub at : ℕ
  pub there : at < length s
  pub is : get_or s at 0 ≡ b

-- ---- the day length in bytes

-- an `18` stands directly after `10`, which takes five bytes
abbrev pub SaysLength : List ℕ → Type 0
SaysLength s = (get_or s 0 0 ≡ 0x10) × (get_or s 5 0 ≡ 0x18)

-- the length that `18` says there, and else the usual one
abbrev pub length_in : List ℕ → ℕ
length_in s = cond (eqb (get_or s 5 0) 0x18) (nat_at 2 s 6) usual_day

-- ---- rows in bytes

-- a `14` may stand directly after what has been read
abbrev pub row_may_stand : Progress Register → Bool
row_may_stand p = is_among p.previous row_row.follows

-- reading as before there were rows, which refuses each `14` with 1, comes to one where it may stand. It comes to none past a byte that
-- is no command, nor past a command that it refuses. Bytes without a byte `14` say none, and an accepted register has rows just where
-- its bytes say one (`row_byte` and `says_row` in soundness/specs/Rows)
abbrev pub SaysRow : List ℕ → Type 0
SaysRow s = comes_to part_before_rows row_may_stand 0x14 s ≡ true

-- ---- ranges in bytes

-- a `16` may stand directly after what has been read
abbrev pub range_may_stand : Progress Register → Bool
range_may_stand p = is_among p.previous range_row.follows

-- reading as before there were ranges, which refuses each `16` with 1, comes to one where it may stand. An accepted register has a range
-- just where its bytes say one (`says_range` in soundness/specs/PriceRanges)
abbrev pub SaysRange : List ℕ → Type 0
SaysRange s = comes_to part_before_ranges range_may_stand 0x16 s ≡ true

-- ---- `15` in bytes

-- a `15` may stand directly after what has been read
abbrev pub wide_may_stand : Progress Register → Bool
wide_may_stand p = is_among p.previous wide_term_row.follows

-- reading as before there was `15`, which refuses each with 1, comes to one where it may stand. In an encoding of a valid register it does
-- just where a term is said by `15` (`says_wide_by` in `register/proofs/SaysWide`)
abbrev pub SaysWide : List ℕ → Type 0
SaysWide s = comes_to part_without_wide wide_may_stand 0x15 s ≡ true

-- ---- more than 32 choices in bytes

-- a `11` may stand directly after what has been read, and is the 33rd choice or a later one
abbrev pub more_may_stand : Progress Register → Bool
more_may_stand p = is_among p.previous choice_row.follows && leb max_choices_before p.parsed.choices

-- reading as before there were forty-eight choices, which refuses each 33rd with 3, comes to one where it may stand. An accepted register
-- has more than 32 choices just where its bytes say one (`said_in_job` in `register/proofs/SaysMoreChoices`)
abbrev pub SaysMoreChoices : List ℕ → Type 0
SaysMoreChoices s = comes_to part_before_wide more_may_stand 0x11 s ≡ true
