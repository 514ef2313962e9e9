-- An output that no switch has is past the end.
use Rattle.std.proofs.Common.{◌≤◌, length, sym, arith}
use Rattle.std.proofs.Math.ListN.{get_or-eq_default}
use Rattle.layout.specs.Memory.{memory_of}
use Rattle.fair_ranks.proofs.Remembering.{length-left}
use Rattle.fair_ranks.proofs.last_left.Goals as goal

pub returns-else-output-lt-PORTS : goal.returns-else-output-lt-PORTS
returns-else-output-lt-PORTS c =
    let bytes = c.args.memory.now in
    let past : length (memory_of bytes).left ≤ c.args.output = omega (arith, length-left bytes) in
    sym (get_or-eq_default (memory_of bytes).left 0 past)
