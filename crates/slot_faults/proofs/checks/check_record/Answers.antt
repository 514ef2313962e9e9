-- The ports decide, and else the waiting cells.
use Rattle.std.proofs.Common.{sym, ◌∙◌, ap, []}
use Rattle.cell.proofs.Checked.{handed_on}
use Rattle.slot_faults.specs.CodeFault.{fault_at}
use Rattle.slot_faults.proofs.Faults.{port-clear, port-found, port-passed}
use Rattle.slot_faults.proofs.checks.check_record.Goals as goal

pub returns-in_err-port_fault : goal.returns-in_err-port_fault
returns-in_err-port_fault c before e =
    handed_on _ _ c.from_residual.ensures.1
    ∙ sym c.in_err-port_fault.was
    ∙ port-found _ _ _ _ _ _ c.port_fault.ensures c.in_err-port_fault.was before e

pub waiting_fault-requires-clause-in_ports : goal.waiting_fault-requires-clause-in_ports
waiting_fault-requires-clause-in_ports c = port-clear _ [] _ _ _ _ c.port_fault.ensures c.in_ok-port_fault.was

pub returns : goal.returns
returns c before e =
    c.waiting_fault.ensures
    ∙ ap (fault_at _) (sym (port-passed _ _ _ _ _ _ c.port_fault.ensures c.in_ok-port_fault.was before e))
