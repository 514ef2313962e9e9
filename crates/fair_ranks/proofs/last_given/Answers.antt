-- A flow that no switch has is past the end.
use Rattle.std.proofs.Common.{◌≤◌, length, sym, arith}
use Rattle.std.proofs.Math.ListN.{get_or-eq_default}
use Rattle.model.specs.Fair.{flow_index}
use Rattle.layout.specs.Memory.{memory_of}
use Rattle.fair_ranks.proofs.Remembering.{length-given}
use Rattle.fair_ranks.proofs.last_given.Goals as goal

pub returns-else-index-lt-FLOWS : goal.returns-else-index-lt-FLOWS
returns-else-index-lt-FLOWS c =
    let bytes = c.args.memory.now in
    let past : length (memory_of bytes).given ≤ flow_index c.args.a =
    omega (arith, length-given bytes, c.flow_index-index.ensures) in
    sym (get_or-eq_default (memory_of bytes).given 0 past)
