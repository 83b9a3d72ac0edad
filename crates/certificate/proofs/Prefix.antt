-- The bytes that reading the commands can look at, and the bytes of accepted ones.
use Prim.Native.Nat.{ℕ, ◌+◌, ◌*◌, ◌≤◌}
use native.Mathlib.Omega.{arith}
use mathlib.Core.Path.{◌≡◌, refl}
use mathlib.Core.List.{List, [], ◌∷◌, map}
use lib.ListN.{length, take, length-append}
use borrow.Author.Tests.{eqb-true}
use Rattle.integers.specs.Lists.{All}
use Rattle.integers.proofs.Lists.{◌▹◌, All-append}
use Rattle.wire.specs.Part.{accepted, total}
use Rattle.wire.specs.Rows.{Progress, Row}
use Rattle.wire.proofs.Prefix.{Limited, Keeps, limited, read_prefix, end_within}
use Rattle.register.specs.declared.Register.{Register}
use Rattle.scheme.specs.declared.Scheme.{Scheme}
use Rattle.certificate.specs.Limits.{max_multipliers, max_squares}
use Rattle.certificate.specs.Certificate.{Certificate, fresh}
use Rattle.certificate.specs.Rules.{arity, by_key}
use Rattle.certificate.specs.Format.{command_size, scale_row, multiplier_of, multiplier_row, multiplier_kinds, square_of, square_row, end_row, certificate_part, commands_in_job}
use Rattle.certificate.proofs.Operands.{total_multiplier}
use Rattle.certificate.proofs.Passes.{multiplier_passes, square_iff}
use Rattle.certificate.proofs.Readback.{entries_long}

-- the position of a command, by what has been read
record Reach (p : Progress Certificate) (at : ℕ) : Type 0 where
  start : p.previous ≡ 0 → at ≡ 0
  near : at ≤ 13 + 13 * length p.parsed.multipliers + 135 * length p.parsed.squares
  multipliers : length p.parsed.multipliers ≤ max_multipliers
  squares : length p.parsed.squares ≤ max_squares

-- the longest certificate: `30`, every multiplier that there may be, each naming four variables, every square, and `3F`
unfoldable pub certificate_longest : ℕ
certificate_longest = command_size 0x30 + command_size 0x34 * max_multipliers + command_size 0x3A * max_squares + command_size 0x3F

-- the bytes that can matter: a square too many in place of `3F`
unfoldable pub certificate_reach : ℕ
certificate_reach = command_size 0x30 + command_size 0x34 * max_multipliers + command_size 0x3A * max_squares + command_size 0x3A

-- the last position of a command
abbrev far : ℕ
far = 13 + 13 * max_multipliers + 135 * max_squares

abbrev Kept : Row Certificate → Type 0
Kept row = Keeps Reach 135 (λ p. far + 1) row.byte row

module _ (reg : Register) (sch : Scheme) where
  -- a multiplier command takes at most 13 bytes
  multiplier : (kind : ℕ) → (1 ≤ kind) × (arity kind ≤ 4) → Kept (multiplier_row reg sch kind)
  multiplier kind k =
      let size = total_multiplier (arity kind) in
      record {
        small = omega arith;
        moves = λ p at xs r e h.
            let more = length-append p.parsed.multipliers (multiplier_of kind xs ∷ []) in
            record { start = λ z. absurd (omega arith); near = omega (arith, r.near); multipliers = omega (arith, (multiplier_passes _ _ _ h).0); squares = r.squares };
      }

  limits : Limited (certificate_part reg sch) Reach far 135 (λ p. far + 1)
  unfolding total arity by_key
  limits =
      limited fresh _ (omega arith) (record { start = λ e. refl; near = omega arith; multipliers = omega arith; squares = omega arith }) (λ p at r. omega (arith, r.near, r.multipliers, r.squares))
      (scale ▹ All-append Kept (map (multiplier_row reg sch) multiplier_kinds) (square_row reg sch ∷ end_row ∷ []) (each multiplier_kinds (omega arith)) (square ▹ last ▹ tt))
    where
      scale : Kept scale_row
      scale = record {
        small = omega arith;
        moves = λ p at xs r e h. record { start = λ z. absurd (omega arith); near = omega (arith, r.start (eqb-true p.previous 0 e)); multipliers = r.multipliers; squares = r.squares };
      }

      square : Kept (square_row reg sch)
      square = record {
        small = omega arith;
        moves = λ p at xs r e h.
            let more = length-append p.parsed.squares (square_of xs ∷ []) in
            record { start = λ z. absurd (omega arith); near = omega (arith, r.near); multipliers = r.multipliers; squares = omega (arith, ((square_iff _ _ sch (square_of xs) (entries_long xs)).0 h).0) };
      }

      last : Kept end_row
      last = record { small = omega arith; moves = λ p at xs r e h. omega (arith, r.near, r.multipliers, r.squares) }

      each : (kinds : List ℕ) → All (λ kind. (1 ≤ kind) × (arity kind ≤ 4)) kinds → All Kept (map (multiplier_row reg sch) kinds)
      each [] h = tt
      each (kind ∷ kinds) h = (multiplier kind h.0, each kinds h.1)

  pub commands_prefix : (K : ℕ) (s : List ℕ) → certificate_reach ≤ K → commands_in_job reg sch (take K s) ≡ commands_in_job reg sch s
  unfolding commands_in_job certificate_reach command_size total arity by_key
  commands_prefix K s k = read_prefix (certificate_part reg sch) limits K s (omega arith)

  pub commands_end : (s : List ℕ) {p : Progress Certificate} {end : ℕ} → commands_in_job reg sch s ≡ accepted p end → end ≤ certificate_longest
  unfolding commands_in_job certificate_longest command_size total arity by_key
  commands_end s e = omega (arith, end_within (certificate_part reg sch) limits s e)
