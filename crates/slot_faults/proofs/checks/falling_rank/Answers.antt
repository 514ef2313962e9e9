use Rattle.std.proofs.Common.{arith}
use Rattle.slot_faults.proofs.Stored.{table-length, ports-below, count-below}
use Rattle.slot_faults.proofs.Faults.{fallen-next, fallen-end}
use Rattle.slot_faults.proofs.checks.falling_rank.Goals as goal

pub end_of-end-requires : goal.end_of-end-requires
end_of-end-requires c =
    (table-length _ c.requires.table, omega (arith, ports-below _ c.requires.table, c.requires.input_bound))

pub outranked-falling-requires-clause-has_entry : goal.outranked-falling-requires-clause-has_entry
outranked-falling-requires-clause-has_entry c =
    let within = c.requires.input_bound in
    let ports = ports-below _ c.requires.table in
    let few = count-below _ c.requires.table _ within in
    (table-length _ c.requires.table, omega (arith, within, c.end_of-end.ensures))

pub outranked-falling-requires-clause-section_room_value :
    goal.outranked-falling-requires-clause-section_room_value
outranked-falling-requires-clause-section_room_value c =
    let within = c.requires.input_bound in
    let few = count-below _ c.requires.table _ within in
    let low = c.loop-k.invariant.start in
    (omega (arith, within, c.end_of-end.ensures), c.flow_word-flow.ensures, c.requires.output_bound.0)

pub loop-k-preserved : goal.loop-k-preserved
loop-k-preserved c =
    fallen-next _ c.requires.table _ c.requires.input_bound c.loop-k.k c.loop-k.falling c.outranked-falling.result
    (omega (arith, c.end_of-end.ensures)) c.outranked-falling.ensures c.loop-k.invariant

pub returns : goal.returns
returns c =
    fallen-end _ c.requires.table _ c.requires.input_bound c.loop-k.k c.loop-k.falling
    (omega (arith, c.end_of-end.ensures)) c.loop-k.invariant
