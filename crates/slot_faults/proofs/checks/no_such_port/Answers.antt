-- The input decides, and else the output.
use Rattle.std.proofs.Common.{◌∙◌, le-leb}
use Rattle.slot_faults.proofs.Stored.{table-length}
use Rattle.slot_faults.proofs.Faults.{port-by-input, port-by-output}
use Rattle.slot_faults.proofs.checks.no_such_port.Goals as goal

pub ports_of-ports-requires : goal.ports_of-ports-requires
ports_of-ports-requires c = table-length _ c.requires

pub returns-then-ports-c : goal.returns-then-ports-c
returns-then-ports-c c =
    le-leb _ _ c.if-ports-c.true ∙ port-by-input _ _ _ c.ports_of-ports.ensures c.if-ports-c.true

pub returns-else-ports-c : goal.returns-else-ports-c
returns-else-ports-c c = port-by-output _ _ _ c.ports_of-ports.ensures c.if-ports-c.false
