-- The checks in their order. No cell waits.
use Rattle.std.proofs.Common.{sym, ◌∙◌, ap}
use Rattle.model.proofs.CheckOrder.{fault-port, fault-flow, fault-turn}
use Rattle.slot_faults.specs.CodeFault.{fault_at}
use Rattle.slot_faults.proofs.Faults.{port-none}
use Rattle.slot_faults.proofs.checks.port_fault.Goals as goal

pub returns-then-no_such_port : goal.returns-then-no_such_port
unfolding fault_at
returns-then-no_such_port c before e =
    sym (ap (fault_at _) (fault-port _ _ before _ (sym c.no_such_port.ensures ∙ c.if-no_such_port.true)))

pub returns-then-no_such_flow : goal.returns-then-no_such_flow
unfolding fault_at
returns-then-no_such_flow c before e =
    sym (ap (fault_at _) (fault-flow _ _ before _ (sym c.no_such_port.ensures ∙ c.if-no_such_port.false)
    (sym c.no_such_flow.ensures ∙ c.if-no_such_flow.true)))

pub returns-then-out_of_turn : goal.returns-then-out_of_turn
unfolding fault_at
returns-then-out_of_turn c before e =
    sym (ap (fault_at _) (fault-turn _ _ before _ (sym c.no_such_port.ensures ∙ c.if-no_such_port.false)
    (sym c.no_such_flow.ensures ∙ c.if-no_such_flow.false)
    (sym (c.out_of_turn.ensures before e) ∙ c.if-out_of_turn.true)))

pub returns : goal.returns
unfolding fault_at
returns c before e =
    sym (ap (fault_at _) (port-none _ before _ (sym c.no_such_port.ensures ∙ c.if-no_such_port.false)
    (sym c.no_such_flow.ensures ∙ c.if-no_such_flow.false)
    (sym (c.out_of_turn.ensures before e) ∙ c.if-out_of_turn.false)))
