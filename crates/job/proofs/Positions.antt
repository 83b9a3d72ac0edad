-- Where the position that a part's reader answers lies.
use Prim.Native.Nat.{ℕ, ◌-◌, ◌≤◌}
use mathlib.Core.Path.{◌≡◌, refl}
use mathlib.Core.Bool.{Bool, true, false, cond}
use mathlib.Core.List.{List}
use native.Mathlib.Omega.{arith}
use lib.IntN.{ℤ}
use lib.ListN.{length}
use Rattle.wire.specs.Part.{Part, Reading, refused, accepted, read_part}
use Rattle.wire.specs.Rows.{Progress}
use Rattle.wire.proofs.Part.{read_from_end, read_from_position}
use Rattle.wire.proofs.Outcome.{position_of}
use Rattle.register.specs.declared.Register.{Register}
use Rattle.scheme.specs.declared.Scheme.{Scheme}
use Rattle.certificate.specs.Certificate.{Certificate}
use Rattle.bound.specs.Bound.{carries}
use Rattle.certificate.specs.Format.{certificate_part, commands_in_job}
use Rattle.bound.specs.Format.{dominance_checked, certificate_in_job}

-- the position is within the bytes, or just past them

pub part_within : {S : Type 0} (P : Part S) (s : List ℕ) → position_of (read_part P s) ≤ length s
unfolding read_part
part_within {S} P s = go (read_part P s) refl
  where
    go : (x : Reading S) → read_part P s ≡ x → position_of x ≤ length s
    go (refused number at) e = (read_from_position P s P.start 0 (omega arith) e).1
    go (accepted read end) e = (read_from_end P s P.start 0 e).1

pub certificate_within : (c : ℕ → ℤ) (reg : Register) (sch : Scheme) (s : List ℕ) → position_of (certificate_in_job c reg sch s) ≤ length s
unfolding certificate_in_job commands_in_job dominance_checked
certificate_within c reg sch s = go (commands_in_job reg sch s) (part_within (certificate_part reg sch) s)
  where
    by : (p : Progress Certificate) (end : ℕ) (b : Bool) → end ≤ length s → position_of {S = Progress Certificate} (cond b (accepted p end) (refused 9 (end - 1))) ≤ length s
    by p end true l = l
    by p end false l = omega arith

    go : (x : Reading (Progress Certificate)) → position_of x ≤ length s → position_of (dominance_checked c reg sch x) ≤ length s
    go (refused number at) l = l
    go (accepted p end) l = by p end (carries c reg sch p.parsed) l
