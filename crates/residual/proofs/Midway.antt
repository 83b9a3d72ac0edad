-- Reading commands that are accepted: none is refused, so each is known by its byte, and what was read stays within the limits.
use Prim.Native.Nat.{ℕ, ◌+◌, ◌≤◌, ◌<◌}
use mathlib.Core.Path.{◌≡◌, refl, ◌∙◌}
use mathlib.Core.Logic.{⊎_elim}
use mathlib.Core.List.{List}
use native.Mathlib.Omega.{arith}
use native.Mathlib.Decide.{ℕ_discrete, dec_lt}
use lib.ListN.{length, get_or}
use borrow.Author.Tests.{eqb-true}
use Rattle.wire.specs.Checks.{refusal}
use Rattle.wire.specs.Part.{refused, accepted, total, checks_at}
use Rattle.wire.specs.Rows.{row_of}
use Rattle.wire.proofs.Accepting.{reached}
use Rattle.wire.proofs.Loop.{going_starts, going_missing, going_refused}
use Rattle.register.specs.declared.Register.{Register}
use Rattle.scheme.specs.declared.Scheme.{Scheme}
use Rattle.certificate.specs.Certificate.{Certificate, fresh, with_multiplier, with_square}
use Rattle.certificate.specs.Rules.{by_key}
use Rattle.certificate.specs.Format.{command_size, certificate_rows, certificate_part, commands_in_job}
use Rattle.certificate.specs.Within.{Allowed, SquareAllowed, Within}
use Rattle.certificate.specs.Answer.{IsMultiplier, multiplier_at, square_read}
use Rattle.certificate.proofs.Rows.{kinds_between, only_first}
use Rattle.certificate.proofs.Entries.{all_less}
use Rattle.certificate.proofs.Laws.{laws}
use Rattle.certificate.proofs.Going as C
use Rattle.certificate.proofs.Going.{Going, here, room}
use Rattle.residual.specs.Built.{with_scale_in, Reads}

module _ (reg : Register) (sch : Scheme) (s : List ℕ) where
  -- read up to a position, the first command and some after it
  pub record Midway (k : Certificate) (at : ℕ) : Type 0 where
    pub previous : ℕ
    pub after_first : previous ≡ 0 → ⊥
    pub within : Within reg sch k
    pub going : Going reg sch s previous k at

  midway : {previous : ℕ} {k : Certificate} {at : ℕ} → (previous ≡ 0 → ⊥) → Going reg sch s previous k at → Midway k at
  midway d g = record { previous = _; after_first = d; within = ⊎_elim (λ h. absurd (d (g.so_far.previous ∙ rw h.1))) (λ b. b.within) g.so_far.holds; going = g }

  module _ (r : Reads reg sch s) where
    -- a command of commands that are accepted is not refused

    clash : {n at : ℕ} → commands_in_job reg sch s ≡ refused n at → ⊥
    clash f =
        let e = r.reads in
        let z : ◌≡◌ {A = ℕ} 0 1 = cc in
        omega arith

    module _ {previous : ℕ} {k : Certificate} {at : ℕ} (g : Going reg sch s previous k at) where
      inside : at < length s
      unfolding commands_in_job
      inside = by (dec_lt at (length s))
        where
          by : Dec (at < length s) → at < length s
          by (yes l) = l
          by (no l) = absurd (clash (going_missing fresh (certificate_rows reg sch) (laws reg sch) g (omega arith)))

      unrefused : refusal (checks_at (certificate_part reg sch) s (reached previous k) at) ≡ 0
      unfolding commands_in_job
      unrefused = by (ℕ_discrete _ 0)
        where
          by : Dec (refusal (checks_at (certificate_part reg sch) s (reached previous k) at) ≡ 0) → refusal (checks_at (certificate_part reg sch) s (reached previous k) at) ≡ 0
          by (yes e) = e
          by (no d) = absurd (clash (going_refused fresh (certificate_rows reg sch) (laws reg sch) g _ inside refl d))

    -- the first command
    pub record Started : Type 0 where
      pub room : command_size 0x30 ≤ length s
      pub midway : Midway (with_scale_in s) (command_size 0x30)

    pub started : Started
    unfolding command_size by_key total
    started =
        let g : Going reg sch s 0 fresh 0 = going_starts fresh (certificate_rows reg sch) (laws reg sch) s in
        let l = inside g in
        let q = unrefused g in
        let e : get_or s 0 0 ≡ 0x30 = only_first reg sch (get_or s 0 0) (here reg sch g l q).place in
        record {
          room = rw e at (room reg sch g l q);
          midway = midway (λ z. omega arith) (rw e at (C.scale_on reg sch g l q e));
        }

    module _ {k : Certificate} {at : ℕ} (g : Midway k at) where
      pub reads_on : at < length s
      reads_on = inside g.going

      pub command_room : at + command_size (get_or s at 0) ≤ length s
      command_room = room reg sch g.going (inside g.going) (unrefused g.going)

      -- a multiplier command
      module _ (x : IsMultiplier (get_or s at 0)) where
        pub multiplier_on : Midway (with_multiplier k (multiplier_at s at)) (at + command_size (get_or s at 0))
        multiplier_on = midway (λ z. omega arith) (C.multiplier_on reg sch g.going (inside g.going) (unrefused g.going) x)

        pub multiplier_allowed : Allowed reg sch (multiplier_at s at)
        multiplier_allowed = (all_less (Allowed reg sch) k.multipliers (multiplier_at s at) multiplier_on.within.multipliers).1

      -- a square
      module _ (e : get_or s at 0 ≡ 0x3A) where
        pub square_on : Midway (with_square k (square_read s at)) (at + command_size (get_or s at 0))
        square_on = midway (λ z. omega arith) (C.square_on reg sch g.going (inside g.going) (unrefused g.going) e)

        pub square_allowed : SquareAllowed reg.choices sch (square_read s at)
        square_allowed = (all_less (SquareAllowed reg.choices sch) k.squares (square_read s at) square_on.within.squares).1

      -- no other byte is left than the end's
      pub ends_here : (IsMultiplier (get_or s at 0) → ⊥) → (get_or s at 0 ≡ 0x3A → ⊥) → commands_in_job reg sch s ≡ accepted (reached 0x3F k) (at + command_size (get_or s at 0))
      unfolding row_of
      ends_here x y = C.ends reg sch g.going (inside g.going) (unrefused g.going) (λ l u. none (ℕ_discrete (get_or s at 0) 0x30) (ℕ_discrete (get_or s at 0) 0x3A) l u)
        where
          none : Dec (get_or s at 0 ≡ 0x30) → Dec (get_or s at 0 ≡ 0x3A) → 0x30 ≤ get_or s at 0 → get_or s at 0 ≤ 0x3B → ⊥
          none (yes e) f l u = g.after_first (eqb-true g.previous 0 (rw e at (here reg sch g.going (inside g.going) (unrefused g.going)).place))
          none (no e) (yes f) l u = y f
          none (no e) (no f) l u = x (kinds_between _ (omega arith) u f)
