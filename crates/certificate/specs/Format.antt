-- The certificate's commands, with a register and a scheme: `30` scale and target, `31` to `39` and `3B` multipliers, `3A` square,
-- `3F` end.
use Rattle.std.specs.Prelude.{ℕ, suc, true, false, not, ◌||◌, List, [], ◌∷◌, ◌++◌, map, ltb, leb, eqb, ℤ, pos, nat_abs, length, get_or, drop, replicate}
use Rattle.std.specs.Int.Signed.{lt_z}
use Rattle.std.specs.Int.{w16, w64}
use Rattle.std.proofs.Common.{to_z}
use Rattle.integers.specs.Lists.{all_below}
use Rattle.wire.specs.Checks.{Check, check}
use Rattle.wire.specs.Part.{Part, Reading, total, read_part}
use Rattle.wire.specs.Rows.{Progress, Row, part_of, binary, first_of}
use Rattle.register.specs.declared.Register.{Register}
use Rattle.scheme.specs.declared.Scheme.{Scheme}
use Rattle.scheme.specs.Scheme.{variables}
use Rattle.certificate.specs.Limits.{max_scale, max_target, max_multipliers, max_squares, max_weight, square_entries, max_entry}
use Rattle.certificate.specs.Certificate.{Multiplier, Square, Certificate, fresh, with_multiplier, with_square}
use Rattle.certificate.specs.Rules.{Rule, arity, by_key, rule_of}

-- ---- the widths in bytes of the operands

-- `30`: four bytes for the scale, eight for the target
abbrev pub scale_widths : List ℕ
scale_widths = 4 ∷ 8 ∷ []

-- `31` to `39` and `3B`: a byte for each number named, eight for m
abbrev pub multiplier_widths : ℕ → List ℕ
multiplier_widths kind = replicate (arity kind) 1 ++ (8 ∷ [])

-- `3A`: four bytes for the weight, two for each entry
abbrev pub square_widths : List ℕ
square_widths = 4 ∷ replicate square_entries 2

abbrev pub multiplier_kinds : List ℕ
multiplier_kinds = 0x31 ∷ 0x32 ∷ 0x33 ∷ 0x34 ∷ 0x35 ∷ 0x36 ∷ 0x37 ∷ 0x38 ∷ 0x39 ∷ 0x3B ∷ []

-- by the command's byte: those of its row below, with every register and scheme (`size_is` in proofs/Sizes)
abbrev pub widths_by_byte : List (ℕ × List ℕ)
widths_by_byte =
    (0x30, scale_widths) ∷ (map (λ kind. (kind, multiplier_widths kind)) multiplier_kinds ++ ((0x3A, square_widths) ∷ (0x3F, []) ∷ []))

-- the bytes of the command with this byte, 1 where it is no command
unfoldable pub command_size : ℕ → ℕ
command_size b = suc (total (by_key [] b widths_by_byte))

-- ---- the commands

-- the scale is not 0; scale and target are within their limits
unfoldable pub scale_checks : ℕ → ℤ → List Check
scale_checks s target = check 4 (eqb s 0 || ltb max_scale s || ltb max_target (nat_abs target)) ∷ []

-- `30`: scale and target, at the start of the part only
abbrev pub scale_row : Row Certificate
scale_row = record {
  byte = 0x30;
  follows = 0 ∷ [];
  widths = scale_widths;
  checks = λ cert. binary λ s t. scale_checks s (to_z w64 t);
  after = λ cert. binary λ s t. record cert { scale = s; target = to_z w64 t };
  last = false;
}

-- the multiplier command with this byte and these operands: the numbers named, one byte each, and m
abbrev pub multiplier_of : ℕ → List ℕ → Multiplier
multiplier_of kind xs = record { kind = kind; names = first_of (arity kind) xs; m = to_z w64 (get_or xs (arity kind) 0) }

-- at most 1,024 multiplier commands, each by its rule
unfoldable pub multiplier_checks : ℕ → Rule → ℤ → List Check
multiplier_checks multipliers rule m =
    check 3 (leb max_multipliers multipliers)
    ∷ check 4 (lt_z m rule.least || lt_z rule.most m)
    ∷ check 5 (not rule.there)
    ∷ check 6 (not rule.ordered)
    ∷ check 8 (not rule.fits)
    ∷ []

-- what may stand before any command but the first
abbrev pub any_before : List ℕ
any_before = 0x30 ∷ (multiplier_kinds ++ (0x3A ∷ []))

-- `31` to `39` and `3B`, in any order
abbrev pub multiplier_row : Register → Scheme → ℕ → Row Certificate
multiplier_row reg sch kind = record {
  byte = kind;
  follows = any_before;
  widths = multiplier_widths kind;
  checks = λ cert xs.
      let t = multiplier_of kind xs in
      multiplier_checks (length cert.multipliers) (rule_of reg sch t) t.m;
  after = λ cert xs. with_multiplier cert (multiplier_of kind xs);
  last = false;
}

-- the square with these operands: weight w u32, then 65 entries v i16
abbrev pub square_of : List ℕ → Square
square_of xs = record { w = get_or xs 0 0; v = map (to_z w16) (first_of square_entries (drop 1 xs)) }

-- at most 64 squares: weight 1–1,000,000, entries within ±10,000, those past N zero
unfoldable pub square_checks : (squares N : ℕ) → Square → List Check
square_checks squares N q =
    let v : ℕ → ℤ = λ i. get_or q.v i (pos 0) in
    check 3 (leb max_squares squares)
    ∷ check 4 (eqb q.w 0 || ltb max_weight q.w || not (all_below square_entries (λ i. leb (nat_abs (v i)) max_entry)))
    ∷ check 5 (not (all_below square_entries (λ i. leb i N || eqb (nat_abs (v i)) 0)))
    ∷ []

-- `3A` square
abbrev pub square_row : Register → Scheme → Row Certificate
square_row reg sch = record {
  byte = 0x3A;
  follows = any_before;
  widths = square_widths;
  checks = λ cert xs. square_checks (length cert.squares) (variables reg.choices sch) (square_of xs);
  after = λ cert xs. with_square cert (square_of xs);
  last = false;
}

-- `3F` end
abbrev pub end_row : Row Certificate
end_row = record {
  byte = 0x3F;
  follows = any_before;
  widths = [];
  checks = λ cert xs. [];
  after = λ cert xs. cert;
  last = true;
}

abbrev pub certificate_rows : Register → Scheme → List (Row Certificate)
certificate_rows reg sch = scale_row ∷ (map (multiplier_row reg sch) multiplier_kinds ++ (square_row reg sch ∷ end_row ∷ []))

abbrev pub certificate_part : Register → Scheme → Part (Progress Certificate)
certificate_part reg sch = part_of fresh (certificate_rows reg sch)

-- the commands of a certificate at the front of a run of bytes: `3F` is reached without 1 to 8, or not
unfoldable pub commands_in_job : Register → Scheme → List ℕ → Reading (Progress Certificate)
commands_in_job reg sch s = read_part (certificate_part reg sch) s
