-- Input by input, the sets have the entries passed (proofs/Loaded).
use Rattle.std.proofs.Common.{◌≡◌, ◌≤◌}
use Rattle.cell.specs.Limits.{port_limit}
use Rattle.layout.specs.Code.{ports_in}
use Rattle.slot_loading.specs.Code.{SetsBelow}
use Rattle.slot_loading.proofs.fill_sets.Given as goal

abbrev pub invariant-loop-input : goal.invariant-loop-input
invariant-loop-input l =
    record {
      ends : l.input-end ≡ ports_in l.table;
      few : l.input-end ≤ port_limit;
      passed : SetsBelow l.table l.input l.sets.listed l.sets.heads l.sets.crossed l.sets.buffered;
    }
