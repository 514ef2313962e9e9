-- The best of each output, then the walks, then what is matched.
use Rattle.layout_table.proofs.Places.{known_bytes}
use Rattle.slot_leaders.proofs.Keys.{leading-bests}
use Rattle.slot_choice.proofs.Known.{leading-known}
use Rattle.slot_choice.proofs.Choice.{chosen_none, chosen-some}
use Rattle.slot_choice.proofs.choose.Goals as goal

pub scan_each-urgent-requires-clause-best_known : goal.scan_each-urgent-requires-clause-best_known
scan_each-urgent-requires-clause-best_known c =
    leading-known _ c.requires.readable (known_bytes _ c.type_inv.table) c.ports_of.ensures c.requires.square.2
    c.best_of_each.ensures c.requires.square.1

pub returns-then-urgent : goal.returns-then-urgent
returns-then-urgent c =
    let bytes = known_bytes _ c.type_inv.table in
    let bests =
    leading-bests _ c.requires.readable bytes c.ports_of.ensures c.requires.square.2 c.best_of_each.ensures in
    chosen-some _ c.requires.readable bests c.scan_each-urgent.ensures c.requires.lists_of c.if-urgent.true
    c.enter_scheduled.ensures

pub returns-else-urgent : goal.returns-else-urgent
returns-else-urgent c =
    let bytes = known_bytes _ c.type_inv.table in
    let bests =
    leading-bests _ c.requires.readable bytes c.ports_of.ensures c.requires.square.2 c.best_of_each.ensures in
    chosen_none _ c.requires.readable bests c.scan_each-urgent.ensures c.if-urgent.false
