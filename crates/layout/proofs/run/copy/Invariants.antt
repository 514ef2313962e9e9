-- So far `i` bytes are put.
use Rattle.std.proofs.Common.{◌≡◌, take, drop}
use Rattle.layout.specs.Code.{put}
use Rattle.layout.proofs.run.copy.Given as goal

abbrev pub invariant-loop-i : goal.invariant-loop-i
invariant-loop-i l = l.bytes ≡ put l.at l.i (take l.i (drop l.start l.from)) l.fn.bytes
