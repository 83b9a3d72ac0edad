-- A byte is its own remainder.
use native.Mathlib.Nat.{mod-eq_of_lt}
use Rattle.wire.specs.Number.{put_at, bytes_of}
use Rattle.wire.proofs.endian.U8ToBytes.write.Goals as goal

pub returns : goal.returns
unfolding put_at bytes_of
returns c = rw (mod-eq_of_lt c.ranges.self.fits)
