-- The bytes that a register's reading can look at, and the bytes of an accepted one.
use Prim.Native.Nat.{ℕ, ◌+◌, ◌-◌, ◌*◌, ◌<◌, ◌≤◌}
use native.Mathlib.Omega.{arith}
use mathlib.Core.Path.{◌≡◌, refl}
use mathlib.Core.List.{List}
use lib.IntN.{pos}
use lib.ListN.{get_or, take}
use borrow.Author.Tests.{eqb-true}
use Rattle.integers.proofs.Lists.{◌▹◌}
use Rattle.wire.specs.Checks.{refusal}
use Rattle.wire.specs.Part.{accepted, total, size}
use Rattle.wire.specs.Rows.{Progress, size_of}
use Rattle.wire.proofs.Prefix.{Limited, Keeps, limited, read_prefix, end_within}
use Rattle.register.specs.declared.Register.{Register}
use Rattle.register.specs.Limits.{max_choices, max_terms, max_windows, max_rows}
use Rattle.register.specs.Register.{fresh}
use Rattle.register.specs.Format.{base_row, choice_row, term_row, window_row, row_row, entries_of, wide_term_row, range_row, length_row, end_row, register_part, register_in_job}
use Rattle.register.specs.Valid.{window_at}
use Rattle.register.proofs.Entries.{term_at}
use Rattle.register.proofs.Passes.{choice_iff, term_iff, window_iff, row_iff, range_iff}
use Rattle.register.proofs.RowOperands.{entries_read}

-- the position of a command, by what has been read
record Reach (p : Progress Register) (at : ℕ) : Type 0 where
  start : p.previous ≡ 0 → at ≡ 0
  base : p.previous ≡ 0x10 → at ≡ 5
  near : at ≤ 8 + 7 * p.parsed.windows + 5 * p.parsed.choices + 35 * p.parsed.rows + 13 * p.parsed.terms
  choices : p.parsed.choices ≤ max_choices
  terms : p.parsed.terms ≤ max_terms
  windows : p.parsed.windows ≤ max_windows
  rows : p.parsed.rows ≤ max_rows

-- the last position of a command
abbrev far : ℕ
far = 8 + 7 * max_windows + 5 * max_choices + 35 * max_rows + 13 * max_terms

-- the end, which is nearer for each choice that there is not
abbrev ends : Progress Register → ℕ
ends p = far + 1 - 5 * (max_choices - p.parsed.choices)

limits : Limited register_part Reach far 35 ends
unfolding fresh total
limits = limited fresh _ (omega arith) (record { start = λ e. refl; base = λ e. absurd (omega arith); near = omega arith; choices = omega arith; terms = omega arith; windows = omega arith; rows = omega arith }) (λ p at r. omega arith) (base ▹ choice ▹ term ▹ window ▹ row ▹ wide_term ▹ range ▹ day ▹ last ▹ tt)
  where
    base : Keeps Reach 35 ends 0x10 base_row
    base = record {
      small = omega arith;
      moves = λ p at xs r e h. record { start = λ z. absurd (omega arith); base = λ z. omega (arith, r.start (eqb-true p.previous 0 e)); near = omega (arith, r.start (eqb-true p.previous 0 e)); choices = r.choices; terms = r.terms; windows = r.windows; rows = r.rows };
    }

    choice : Keeps Reach 35 ends 0x11 choice_row
    choice = record {
      small = omega arith;
      moves = λ p at xs r e h. record { start = λ z. absurd (omega arith); base = λ z. absurd (omega arith); near = omega (arith, r.near); choices = ((choice_iff _ _ _ _ _ _ _).0 h).0.few; terms = r.terms; windows = r.windows; rows = r.rows };
    }

    -- a term without a range, in so many bytes
    known : (b size : ℕ) → 0x10 < b → size ≤ 13 → (p : Progress Register) (at : ℕ) (xs : List ℕ) → Reach p at → refusal (term_row.checks p.parsed xs) ≡ 0 → Reach (record { previous = b; parsed = term_row.after p.parsed xs }) (at + size)
    known b size l k p at xs r h = record { start = λ z. absurd (omega arith); base = λ z. absurd (omega arith); near = omega (arith, r.near); choices = r.choices; terms = ((term_iff _ _ (term_at p.parsed (p.parsed.terms - 1)) _ _).0 h).few; windows = r.windows; rows = r.rows }

    term : Keeps Reach 35 ends 0x12 term_row
    term = record { small = omega arith; moves = λ p at xs r e h. known 0x12 9 (omega arith) (omega arith) p at xs r h }

    window : Keeps Reach 35 ends 0x13 window_row
    window = record {
      small = omega arith;
      moves = λ p at xs r e h. record { start = λ z. absurd (omega arith); base = λ z. absurd (omega arith); near = omega (arith, r.near); choices = r.choices; terms = r.terms; windows = ((window_iff _ _ (window_at p.parsed (p.parsed.windows - 1)) _ _ _).0 h).few; rows = r.rows };
    }

    row : Keeps Reach 35 ends 0x14 row_row
    row = record {
      small = omega arith;
      moves = λ p at xs r e h. record { start = λ z. absurd (omega arith); base = λ z. absurd (omega arith); near = omega (arith, r.near); choices = r.choices; terms = r.terms; windows = r.windows; rows = ((row_iff p.parsed.choices _ _ (λ j. get_or (entries_of xs) j (pos 0)) (λ j l. entries_read xs j)).0 h).few };
    }

    wide_term : Keeps Reach 35 ends 0x15 wide_term_row
    wide_term = record { small = omega arith; moves = λ p at xs r e h. known 0x15 13 (omega arith) (omega arith) p at xs r h }

    range : Keeps Reach 35 ends 0x16 range_row
    range = record {
      small = omega arith;
      moves = λ p at xs r e h. record { start = λ z. absurd (omega arith); base = λ z. absurd (omega arith); near = omega (arith, r.near); choices = r.choices; terms = ((range_iff _ _ (term_at p.parsed (p.parsed.terms - 1)) _ _ _).0 h).few; windows = r.windows; rows = r.rows };
    }

    day : Keeps Reach 35 ends 0x18 length_row
    day = record {
      small = omega arith;
      moves = λ p at xs r e h. record { start = λ z. absurd (omega arith); base = λ z. absurd (omega arith); near = omega (arith, r.base (eqb-true p.previous 0x10 e)); choices = r.choices; terms = r.terms; windows = r.windows; rows = r.rows };
    }

    last : Keeps Reach 35 ends 0x1F end_row
    last = record { small = omega arith; moves = λ p at xs r e h. omega (arith, r.near, r.choices, r.terms, r.windows, r.rows) }

-- no command takes more bytes than a row's
pub size_within : (b : ℕ) → size register_part b ≤ 35
size_within = limits.small

-- the longest register: `10`, `18`, every window, choice, row and term that there may be, each term by `15` or `16`, which take as many
-- bytes, and `1F`
unfoldable pub register_longest : ℕ
register_longest = size_of base_row + size_of length_row + size_of window_row * max_windows + size_of choice_row * max_choices + size_of row_row * max_rows + size_of range_row * max_terms + size_of end_row

-- no bytes after these can matter: the longest command in place of `1F`
unfoldable pub register_reach : ℕ
register_reach = size_of base_row + size_of length_row + size_of window_row * max_windows + size_of choice_row * max_choices + size_of row_row * max_rows + size_of range_row * max_terms + size_of row_row

pub register_prefix : (K : ℕ) (s : List ℕ) → register_reach ≤ K → register_in_job (take K s) ≡ register_in_job s
unfolding register_in_job register_reach total
register_prefix K s k = read_prefix register_part limits K s (omega arith)

-- an accepted register is shorter by each choice that it could have more
pub register_end : (s : List ℕ) {p : Progress Register} {end : ℕ} → register_in_job s ≡ accepted p end → end + size_of choice_row * (max_choices - p.parsed.choices) ≤ register_longest
unfolding register_in_job register_longest total
register_end s e = omega (arith, end_within register_part limits s e)
