-- Output by output, the number at the crosspoint of the input that leads.
use Rattle.std.proofs.Common.{[], get_or}
use Rattle.slot_view.specs.CodeView.{crosspoint_at}
use Rattle.slot_leaders.proofs.Leaders.{inputs-some, turn-position, leads}
use Rattle.slot_leaders.proofs.Keys.{leading-more}
use Rattle.slot_leaders.proofs.best_of_each.Goals as goal

pub first_in_round-input-requires : goal.first_in_round-input-requires
first_in_round-input-requires c =
    let row = get_or c.args.keys.now c.loop-output.output [] in
    let found = c.least_of_each.ensures.each c.loop-output.output c.loop-output-test.true in
    let turn = c.first_in_turn.ensures in
    let ports = c.requires.ports_nonzero in (
      inputs-some c.args.ports row found.0 found.1 turn,
      turn-position c.args.ports row found.0 found.1 turn ports.0 ports.1,
    )

pub bounds-cross-input : goal.bounds-cross-input
bounds-cross-input c =
    let row = get_or c.args.keys.now c.loop-output.output [] in
    let found = c.least_of_each.ensures.each c.loop-output.output c.loop-output-test.true in
    (leads c.args.ports row found.0 found.1 c.first_in_turn.ensures c.first_in_round-input.ensures).inside

pub loop-output-preserved : goal.loop-output-preserved
unfolding crosspoint_at
loop-output-preserved c =
    let output = c.loop-output.output in
    let row = get_or c.args.keys.now output [] in
    let in-loop = c.loop-output-test.true in
    let found = c.least_of_each.ensures.each output in-loop in
    leading-more _ _ _ output c.min.result in-loop
    (record {
      least = found.0;
      holder = c.first_in_round-input.result;
      holds = leads c.args.ports row found.0 found.1 c.first_in_turn.ensures c.first_in_round-input.ensures;
      number_is = c.min.ensures;
    })
    c.loop-output.invariant
