-- The reader's loop: what is read from here on is what the whole is, by the command that stands here.
use mathlib.Core.Path.{◌≡◌, refl, ap}
use mathlib.Core.Logic.{⊎_elim}
use mathlib.Core.List.{List}
use Prim.Native.Nat.{ℕ, ◌+◌, ◌<◌, ◌≤◌}
use native.Mathlib.Omega.{arith}
use lib.ListN.{length, get_or, length-append}
use mir.Syntax.{w64}
use Rattle.wire.specs.Number.{nat_at, int_at}
use Rattle.wire.specs.Checks.{refusal}
use Rattle.wire.specs.Part.{accepted, operands_at, total, checks_at}
use Rattle.wire.specs.Rows.{Row, row_of}
use Rattle.wire.proofs.Accepting.{reached}
use Rattle.wire.proofs.Loop as L
use Rattle.wire.proofs.Loop.{Here, here_at, going_starts, going_on, going_ends}
use Rattle.register.specs.declared.Register.{Register}
use Rattle.scheme.specs.declared.Scheme.{Scheme}
use Rattle.scheme.specs.Scheme.{variables}
use Rattle.certificate.specs.declared.Certificate.{Certificate as Counts}
use Rattle.certificate.specs.Limits.{max_multipliers, max_squares}
use Rattle.certificate.specs.Certificate.{Certificate, fresh, with_multiplier, with_square}
use Rattle.certificate.specs.Rules.{by_key}
use Rattle.certificate.specs.Format.{command_size, certificate_rows, certificate_part, commands_in_job}
use Rattle.certificate.specs.Answer.{IsMultiplier, counts_of, fresh_counts, multiplier_at, square_read, seen_of}
use Rattle.certificate.proofs.Sizes.{size_is}
use Rattle.certificate.proofs.Rows.{row_multiplier, only_end}
use Rattle.certificate.proofs.Laws.{Good, laws}

module _ (reg : Register) (sch : Scheme) where
  abbrev rows : List (Row Certificate)
  rows = certificate_rows reg sch

  abbrev pub Going : List ℕ → ℕ → Certificate → ℕ → Type 0
  Going s previous k at = L.Going fresh rows (Good reg sch) s (reached previous k) at

  module _ {s : List ℕ} {previous : ℕ} {k : Certificate} {at : ℕ} (g : Going s previous k at) where
    -- there is room for what has been read
    pub few : (length k.multipliers ≤ max_multipliers) × (length k.squares ≤ max_squares)
    few = ⊎_elim (λ h. rw h.0 (omega arith, omega arith)) (λ b. (b.within.multipliers_within, b.within.squares_within)) g.so_far.holds

    -- the command here is not refused
    module _ (l : at < length s) (q : refusal (checks_at (certificate_part reg sch) s (reached previous k) at) ≡ 0) where
      abbrev b : ℕ
      b = get_or s at 0

      pub here : Here fresh rows s (reached previous k) at b
      here = here_at fresh rows s (reached previous k) at b refl l q

      pub room : at + command_size b ≤ length s
      room = rw (size_is reg sch) at here.room

      pub scale_on : b ≡ 0x30 → Going s b (record { scale = nat_at 4 s (at + 1); target = int_at w64 s (at + 1 + 4); multipliers = k.multipliers; squares = k.squares }) (at + command_size b)
      unfolding row_of total operands_at int_at command_size by_key
      scale_on e = rw e (going_on fresh rows (laws reg sch) g l q 0x30 e refl)

      pub multiplier_on : IsMultiplier b → Going s b (with_multiplier k (multiplier_at s at)) (at + command_size b)
      unfolding multiplier_at
      multiplier_on x =
          rw (size_is reg sch b, row_multiplier reg sch b x) at (going_on fresh rows (laws reg sch) g l q b refl (ap (λ (r : Row Certificate). r.last) (row_multiplier reg sch b x)))

      pub square_on : b ≡ 0x3A → Going s b (with_square k (square_read s at)) (at + command_size b)
      unfolding row_of total square_read command_size by_key
      square_on e = rw e (going_on fresh rows (laws reg sch) g l q 0x3A e refl)

      -- no other byte is left than the end's
      pub ends : (0x30 ≤ b → b ≤ 0x3B → ⊥) → commands_in_job reg sch s ≡ accepted (reached 0x3F k) (at + command_size b)
      unfolding commands_in_job row_of total command_size by_key
      ends x =
          let e : b ≡ 0x3F = only_end reg sch b previous here.place x in
          rw e (going_ends fresh rows (laws reg sch) g l q 0x3F e refl)

  -- ---- as the code keeps it: by the counts

  pub record Counted (s : List ℕ) (previous : ℕ) (counts : Counts) (at : ℕ) : Type 0 where
    pub parsed : Certificate
    pub counts_are : counts ≡ counts_of parsed
    pub going : Going s previous parsed at

  pub counted_starts : (s : List ℕ) → Counted s 0 fresh_counts 0
  counted_starts s = record { parsed = fresh; counts_are = refl; going = going_starts fresh rows (laws reg sch) s }

  module _ {s : List ℕ} {previous : ℕ} {counts : Counts} {at : ℕ} (g : Counted s previous counts at) where
    -- what the checks look at
    pub seen : seen_of reg sch (reached previous g.parsed)
        ≡ record { previous = previous; multipliers = counts.multipliers; squares = counts.squares; choices = reg.choices; variables = variables reg.choices sch; rows = reg.rows }
    seen = rw g.counts_are

    pub few_counts : (counts.multipliers ≤ max_multipliers) × (counts.squares ≤ max_squares)
    few_counts = rw g.counts_are (few g.going)

    module _ (l : at < length s) (q : refusal (checks_at (certificate_part reg sch) s (reached previous g.parsed) at) ≡ 0) where
      pub scale_counted : get_or s at 0 ≡ 0x30 → Counted s (get_or s at 0) (record { scale = nat_at 4 s (at + 1); target = int_at w64 s (at + 1 + 4); multipliers = counts.multipliers; squares = counts.squares }) (at + command_size (get_or s at 0))
      scale_counted e = record { parsed = record { scale = nat_at 4 s (at + 1); target = int_at w64 s (at + 1 + 4); multipliers = g.parsed.multipliers; squares = g.parsed.squares }; counts_are = rw g.counts_are; going = scale_on g.going l q e }

      pub multiplier_counted : IsMultiplier (get_or s at 0) →
          Counted s (get_or s at 0) (record { scale = counts.scale; target = counts.target; multipliers = counts.multipliers + 1; squares = counts.squares }) (at + command_size (get_or s at 0))
      multiplier_counted x = record { parsed = with_multiplier g.parsed (multiplier_at s at); counts_are = rw (g.counts_are, length-append); going = multiplier_on g.going l q x }

      pub square_counted : get_or s at 0 ≡ 0x3A →
          Counted s (get_or s at 0) (record { scale = counts.scale; target = counts.target; multipliers = counts.multipliers; squares = counts.squares + 1 }) (at + command_size (get_or s at 0))
      square_counted e = record { parsed = with_square g.parsed (square_read s at); counts_are = rw (g.counts_are, length-append); going = square_on g.going l q e }
