-- 4 to 6, then 14 and 15, then 7 and 8 by the rank made.
use Rattle.std.proofs.Common.{ℕ, true, ◌≡◌, ◌+◌, [], sym, ◌∙◌, ap, ap₂, subst}
use Rattle.cell.specs.Checked.{Checked, no_fault}
use Rattle.cell.specs.declared.Arrival.{Arrival}
use Rattle.cell.specs.declared.Cell.{Cell}
use Rattle.cell.specs.Cell.{accepted}
use Rattle.cell.proofs.Checked.{handed_on}
use Rattle.model.specs.CodeFair.{rankable}
use Rattle.model.specs.Fair.{Memory, make}
use Rattle.model.specs.State.{Switch, cells}
use Rattle.layout.specs.Code.{ports_in}
use Rattle.layout.specs.Memory.{memory_of}
use Rattle.layout.specs.Table.{state_of}
use Rattle.slot_faults.specs.CodeFault.{InPorts, fault_at, waiting_fault}
use Rattle.slot_faults.proofs.Faults.{PortSays, port-clear}
use Rattle.slot_faults.proofs.Stored.{table-length, table-ports, table-clock}
use Rattle.fair_faults.specs.CodeFairFault.{rank_fault}
use Rattle.fair_faults.proofs.Records.{made, made-says, next-port, next-rank, next-rankable, next-waits}
use Rattle.fair_faults.proofs.check_next.Goals as goal
use Rattle.fair_faults.proofs.check_next.Goals.{After-port_fault}

module _ (c : After-port_fault) where
  abbrev s : Switch
  s = state_of c.args.table.now

  abbrev m : Memory
  m = memory_of c.args.memory.now

  abbrev a : Arrival
  a = c.args.a

  abbrev clock : ℕ
  clock = c.clock_of-clock.result

  clock-is : clock ≡ s.clock
  clock-is = c.clock_of-clock.ensures ∙ sym (table-clock _ c.requires.table)

  -- what was found, of the cell with the rank made
  says : PortSays s.ports c.args.turn (c.args.n + 1) (made s m a) c.port_fault.result
  says =
      made-says s m _ _ a _ _ clock _ (sym (table-ports _ c.requires.table)) clock-is c.cell_of.ensures
      c.port_fault.ensures

  -- the cell with the rank made, where no fault was found and the rank has none
  module _ (clear : c.port_fault.result ≡ no_fault) (ranked : Checked)
      (rank : ranked ≡ fault_at (c.args.n + 1) (rank_fault m a)) (passes : ranked ≡ no_fault) where
    cell-is : (given : Arrival) (cell : Cell) → (rankable m a ≡ true → given ≡ make m a) → cell ≡ accepted clock given
        → cell ≡ made s m a
    cell-is given cell makes e =
        e ∙ ap₂ accepted clock-is (makes (next-rankable s m _ _ a _ says clear ranked rank passes))

    inside : (cell : Cell) → cell ≡ made s m a → InPorts (ports_in c.args.table.now) cell
    inside cell e =
        subst (InPorts (ports_in c.args.table.now)) (sym e)
        (subst (λ ports. InPorts ports (made s m a)) (table-ports _ c.requires.table)
        (port-clear _ [] _ _ _ _ says clear))

pub clock_of-clock-requires : goal.clock_of-clock-requires
clock_of-clock-requires c = table-length _ c.requires.table

pub returns-in_err-port_fault : goal.returns-in_err-port_fault
returns-in_err-port_fault c before e =
    let at = (goal.at.returns-in_err-port_fault c).After-port_fault in
    let was = c.in_err-port_fault.was in
    handed_on _ _ c.from_residual.ensures.1
    ∙ sym was
    ∙ next-port (s at) (m at) _ _ (a at) _ (says at) was before e

pub returns-in_err-rank_fault : goal.returns-in_err-rank_fault
returns-in_err-rank_fault c before e =
    let at = (goal.at.returns-in_err-rank_fault c).After-port_fault in
    let was = c.in_err-rank_fault.was in
    handed_on _ _ c.from_residual-in_err-rank_fault.ensures.1
    ∙ sym was
    ∙ next-rank (s at) (m at) _ _ (a at) _ (says at) c.in_ok-port_fault.was _ c.rank_fault.ensures was before e

pub waiting_fault-requires-clause-in_ports : goal.waiting_fault-requires-clause-in_ports
waiting_fault-requires-clause-in_ports c =
    let at = (goal.at.waiting_fault-requires-clause-in_ports c).After-port_fault in
    let clear = c.in_ok-port_fault.was in
    let passes = c.in_ok-rank_fault.was in
    inside at clear _ c.rank_fault.ensures passes _
    (cell-is at clear _ c.rank_fault.ensures passes _ _ c.make-made.ensures c.cell_of-2.ensures)

pub returns : goal.returns
returns c before e =
    let at = (goal.at.returns c).After-port_fault in
    let clear = c.in_ok-port_fault.was in
    let passes = c.in_ok-rank_fault.was in
    next-waits (s at) (m at) _ _ (a at) _ (says at) clear _ c.rank_fault.ensures passes _
    (c.waiting_fault.ensures
    ∙ ap (λ d. fault_at (c.args.n + 1) (waiting_fault (cells (s at)) d))
    (cell-is at clear _ c.rank_fault.ensures passes _ _ c.make-made.ensures c.cell_of-2.ensures))
    before e
