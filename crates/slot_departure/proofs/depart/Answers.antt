-- The answer, and the table without the cells that leave.
use Rattle.std.proofs.Common.{◌∙◌, ap, arith}
use Rattle.layout.specs.Host.{filled}
use Rattle.slot_view.proofs.Own.{table-readable}
use Rattle.slot_departure.proofs.Sending.{departures-chosen}
use Rattle.slot_departure.proofs.depart.Goals as goal

pub send-requires : goal.send-requires
send-requires c =
    let (good, best) = c.requires.table in
    ((table-readable _ good).size, best.size, omega (arith, c.requires.departures_size_in_bounds))

pub returns-clause-answer_after : goal.returns-clause-answer_after
returns-clause-answer_after c =
    c.send.ensures
    ∙ ap (λ bs. filled bs c.args.answer.now) (departures-chosen _ c.requires.table.0 c.requires.table.1)
