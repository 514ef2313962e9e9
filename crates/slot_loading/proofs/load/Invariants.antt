-- Input by input, the crosspoints and the buffers have the entries passed (proofs/Loaded).
use Rattle.std.proofs.Common.{◌≡◌, ◌≤◌}
use Rattle.cell.specs.Limits.{port_limit}
use Rattle.layout.specs.Code.{ports_in}
use Rattle.slot_loading.specs.Code.{LoadedBelow}
use Rattle.slot_loading.proofs.load.Given as goal

abbrev pub invariant-loop-input : goal.invariant-loop-input
invariant-loop-input l =
    record {
      ends : l.input-end ≡ ports_in l.table;
      few : l.input-end ≤ port_limit;
      passed : LoadedBelow l.table l.input l.cross l.keys l.best l.rivals;
    }
