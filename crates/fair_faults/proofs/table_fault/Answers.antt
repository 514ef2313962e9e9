-- The cells and the memory are parts of the table.
use Rattle.std.proofs.Common.{ap, ◌∙◌}
use Rattle.layout.specs.Fair.{core_in, memory_start}
use Rattle.layout.specs.Memory.{memory_of}
use Rattle.layout.specs.Table.{state_of}
use Rattle.layout.proofs.Parts.{part-behind}
use Rattle.fair_faults.specs.CodeFairFault.{fair_fault_in}
use Rattle.fair_faults.proofs.table_fault.Goals as goal

pub returns : goal.returns
returns c =
    let a = c.args in
    c.fair_fault.ensures
    ∙ ap (λ l. fair_fault_in (state_of (core_in a.table.now)) (memory_of l) a.records.now)
    (part-behind a.table.now memory_start)
