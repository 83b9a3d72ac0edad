use Rattle.std.proofs.Common.{◌≡◌, take, drop}
use Rattle.vectors.specs.Said.{bytes_of}
use Rattle.vectors.proofs.Pairs.{behind}
use Rattle.vectors.proofs.bytes.decode.Given as goal

abbrev pub invariant-loop-i : goal.invariant-loop-i
invariant-loop-i l = behind (take l.i l.buffer) (bytes_of (drop l.i l.pairs)) ≡ bytes_of l.pairs
