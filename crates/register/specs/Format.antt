-- The register's commands: `10` base cost, `11` choice, `12` and `15` term, `13` window, `14` row, `16` range, `18` day length, `1F`
-- end.
use Rattle.std.specs.Prelude.{ℕ, ◌-◌, ◌^◌, Bool, true, false, not, ◌&&◌, ◌||◌, List, [], ◌∷◌, ltb, leb, eqb, ℤ, pos, nat_abs, get_or, map, drop, replicate}
use Rattle.std.specs.Int.{w8, w16, w32}
use Rattle.std.specs.Int.Signed.{lt_z}
use Rattle.std.proofs.Common.{to_z}
use Rattle.integers.specs.Lists.{all_below, any_below, comes_before}
use Rattle.wire.specs.Checks.{Check, check}
use Rattle.wire.specs.Part.{Part, Reading, read_part, by_itself}
use Rattle.wire.specs.Rows.{Progress, Row, part_of, unary, binary, ternary, first_of}
use Rattle.register.specs.declared.Register.{Register}
use Rattle.register.specs.Limits.{max_choices, max_terms, max_windows, max_rows, row_entries, max_row_total, max_base, max_tank, max_coefficient, short_day, usual_day, long_day}
use Rattle.register.specs.Register.{tank, minute, mask, window_tank, window_from, fresh, with_base, with_length, with_choice, with_term, with_window, with_row, with_range}

-- base cost within ±1,000,000,000
unfoldable pub base_checks : ℤ → List Check
base_checks base = check 4 (ltb max_base (nat_abs base)) ∷ []

-- `10` base cost i32, once, first. It gives the usual day length, in whose place `18` puts another
abbrev pub base_row : Row Register
base_row = record {
  byte = 0x10;
  follows = 0 ∷ [];
  widths = 4 ∷ [];
  checks = λ r. unary λ base. base_checks (to_z w32 base);
  after = λ r. unary λ base. with_base r (to_z w32 base);
  last = false;
}

-- a test of whether a tank may be fed at a minute, by n windows with these tanks, "from" and "to": none of them is the tank's, or
-- one of the tank's holds the minute, "from" ≤ minute < "to"
abbrev pub may_feed : (n : ℕ) (tanks froms tos : List ℕ) (tank minute : ℕ) → Bool
may_feed n tanks froms tos tank minute =
    not (any_below n (λ j. eqb (get_or tanks j 0) tank))
    || any_below n (λ j. eqb (get_or tanks j 0) tank && leb (get_or froms j 0) minute && ltb minute (get_or tos j 0))

-- up to 48 choices, in their ranges on a day of this length, rising strictly by tank, then minute, where the tank may be fed:
-- n choices were read, the last with tank₀, minute₀
unfoldable pub choice_checks : (length n tank₀ minute₀ tank minute : ℕ) → (may : Bool) → List Check
choice_checks length n tank₀ minute₀ tank minute may =
    check 3 (leb max_choices n)
    ∷ check 4 (eqb tank 0 || ltb max_tank tank || leb length minute)
    ∷ check 7 (not (eqb n 0 || comes_before (tank₀ ∷ minute₀ ∷ []) (tank ∷ minute ∷ [])))
    ∷ check 13 (not may)
    ∷ []

-- `11` choice: tank u16, minute u16. All `11` come before all `12`, `15` and `16`
abbrev pub choice_row : Row Register
choice_row = record {
  byte = 0x11;
  follows = 0x10 ∷ 0x11 ∷ 0x13 ∷ 0x18 ∷ [];
  widths = 2 ∷ 2 ∷ [];
  checks = λ r. let previous = r.choices - 1 in
      binary λ t m. choice_checks r.day_length r.choices (tank r previous) (minute r previous) t m (may_feed r.windows r.window_tanks r.window_froms r.window_tos t m);
  after = λ r. binary (with_choice r);
  last = false;
}

-- up to 256 terms, coefficients within ±1,000,000 and not 0, masks that name choices, rising strictly: n choices and m terms, with
-- ranges or without, were read, the last term with mask₀
unfoldable pub term_checks : (n m mask₀ mask : ℕ) → ℤ → List Check
term_checks n m mask₀ mask coefficient =
    check 3 (leb max_terms m)
    ∷ check 4 (eqb (nat_abs coefficient) 0 || ltb max_coefficient (nat_abs coefficient))
    ∷ check 5 (eqb mask 0 || leb (2 ^ n) mask)
    ∷ check 7 (not (eqb m 0 || ltb mask₀ mask))
    ∷ []

-- `12` term: mask u32, coefficient i32. So it names choices 0 to 31 only
abbrev pub term_row : Row Register
term_row = record {
  byte = 0x12;
  follows = 0x10 ∷ 0x11 ∷ 0x12 ∷ 0x13 ∷ 0x14 ∷ 0x15 ∷ 0x16 ∷ 0x18 ∷ [];
  widths = 4 ∷ 4 ∷ [];
  checks = λ r. binary λ m c. term_checks r.choices r.terms (mask r (r.terms - 1)) m (to_z w32 c);
  after = λ r. binary λ m c. with_term r m (to_z w32 c);
  last = false;
}

-- `15` term: mask u64, coefficient i32. Among the `12`, and in all else as `12` is
abbrev pub wide_term_row : Row Register
wide_term_row = record term_row { byte = 0x15; widths = 8 ∷ 4 ∷ [] }

-- up to 64 windows, in their ranges on a day of this length, "from" below "to", rising strictly by tank, then "from": k windows
-- were read, the last with tank₀, from₀
unfoldable pub window_checks : (length k tank₀ from₀ tank from to : ℕ) → List Check
window_checks length k tank₀ from₀ tank from to =
    check 3 (leb max_windows k)
    ∷ check 4 (eqb tank 0 || ltb max_tank tank || leb length from || eqb to 0 || ltb length to)
    ∷ check 6 (leb to from)
    ∷ check 7 (not (eqb k 0 || comes_before (tank₀ ∷ from₀ ∷ []) (tank ∷ from ∷ [])))
    ∷ []

-- `13` window: tank u16, from u16, to u16. After `10`, or `18` where there is one, and before the first `11`
abbrev pub window_row : Row Register
window_row = record {
  byte = 0x13;
  follows = 0x10 ∷ 0x13 ∷ 0x18 ∷ [];
  widths = 2 ∷ 2 ∷ 2 ∷ [];
  checks = λ r. let previous = r.windows - 1 in ternary (window_checks r.day_length r.windows (window_tank r previous) (window_from r previous));
  after = λ r. ternary (with_window r);
  last = false;
}

-- a test of a row's entries: those past the n choices are 0
abbrev pub zero_past : ℕ → (ℕ → ℤ) → Bool
zero_past n entry = all_below row_entries (λ j. ltb j n || eqb (nat_abs (entry j)) 0)

-- up to 8 rows, the total within ±4,064, the entries past the choices 0: k rows were read, and `zeros` where these entries are
unfoldable pub row_checks : (k : ℕ) → ℤ → (zeros : Bool) → List Check
row_checks k b zeros =
    check 3 (leb max_rows k)
    ∷ check 4 (ltb max_row_total (nat_abs b))
    ∷ check 5 (not zeros)
    ∷ []

-- the entries in the operands of `14`, after the total
abbrev pub entries_of : List ℕ → List ℤ
entries_of xs = map (to_z w8) (first_of row_entries (drop 1 xs))

-- `14` row: total i16, then 32 entries i8. After all `13` and `11` and before all `12`, `15` and `16`
abbrev pub row_row : Row Register
row_row = record {
  byte = 0x14;
  follows = 0x10 ∷ 0x11 ∷ 0x13 ∷ 0x14 ∷ 0x18 ∷ [];
  widths = 2 ∷ replicate row_entries 1;
  checks = λ r xs. row_checks r.rows (unary (to_z w16) xs) (zero_past r.choices (λ j. get_or (entries_of xs) j (pos 0)));
  after = λ r xs. with_row r (unary (to_z w16) xs) (entries_of xs);
  last = false;
}

-- up to 256 terms, both coefficients within ±1,000,000, masks that name choices, the low coefficient not above the high one, masks
-- rising strictly: n choices and m terms, with ranges or without, were read, the last term with mask₀
unfoldable pub range_checks : (n m mask₀ mask : ℕ) → (low high : ℤ) → List Check
range_checks n m mask₀ mask low high =
    check 3 (leb max_terms m)
    ∷ check 4 (ltb max_coefficient (nat_abs low) || ltb max_coefficient (nat_abs high))
    ∷ check 5 (eqb mask 0 || leb (2 ^ n) mask)
    ∷ check 6 (lt_z high low)
    ∷ check 7 (not (eqb m 0 || ltb mask₀ mask))
    ∷ []

-- `16` range: mask u32, low i32, high i32. Among the `12`; it names choices 0 to 31 only
abbrev pub range_row : Row Register
range_row = record {
  byte = 0x16;
  follows = 0x10 ∷ 0x11 ∷ 0x12 ∷ 0x13 ∷ 0x14 ∷ 0x15 ∷ 0x16 ∷ 0x18 ∷ [];
  widths = 4 ∷ 4 ∷ 4 ∷ [];
  checks = λ r. ternary λ m l h. range_checks r.choices r.terms (mask r (r.terms - 1)) m (to_z w32 l) (to_z w32 h);
  after = λ r. ternary λ m l h. with_range r m (to_z w32 l) (to_z w32 h);
  last = false;
}

-- a test of whether a day can have so many minutes
abbrev pub is_length : ℕ → Bool
is_length length = eqb length short_day || eqb length usual_day || eqb length long_day

-- one of the three lengths
unfoldable pub length_checks : ℕ → List Check
length_checks length = check 4 (not (is_length length)) ∷ []

-- `18` day length u16, at most once, directly after `10`
abbrev pub length_row : Row Register
length_row = record {
  byte = 0x18;
  follows = 0x10 ∷ [];
  widths = 2 ∷ [];
  checks = λ r. unary length_checks;
  after = λ r. unary (with_length r);
  last = false;
}

-- a register has a choice; it needs no term, no window and no row
unfoldable pub end_checks : ℕ → List Check
end_checks n = check 3 (eqb n 0) ∷ []

-- `1F` end
abbrev pub end_row : Row Register
end_row = record {
  byte = 0x1F;
  follows = 0x10 ∷ 0x11 ∷ 0x12 ∷ 0x13 ∷ 0x14 ∷ 0x15 ∷ 0x16 ∷ 0x18 ∷ [];
  widths = [];
  checks = λ r xs. end_checks r.choices;
  after = λ r xs. r;
  last = true;
}

abbrev pub register_rows : List (Row Register)
register_rows = base_row ∷ choice_row ∷ term_row ∷ window_row ∷ row_row ∷ wide_term_row ∷ range_row ∷ length_row ∷ end_row ∷ []

abbrev pub register_part : Part (Progress Register)
register_part = part_of fresh register_rows

-- the register at the front of a run of bytes, as in a job
unfoldable pub register_in_job : List ℕ → Reading (Progress Register)
register_in_job s = read_part register_part s

-- the register as a run of bytes by itself
unfoldable pub register_by_itself : List ℕ → Reading (Progress Register)
register_by_itself s = by_itself s (register_in_job s)
