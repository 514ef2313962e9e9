-- Input by input, the scheduled and the urgent cells of those passed are written down.
use Rattle.std.proofs.Common.{◌≡◌, ◌<◌, arith}
use Rattle.layout.specs.Code.{ports_in}
use Rattle.slot_choice.proofs.Choice.{scanned-none, scanned-more, scanned-all}
use Rattle.slot_choice.proofs.scan_each.Goals as goal

pub loop-input-init : goal.loop-input-init
loop-input-init c = scanned-none _ c.requires.scheduled_value.0 c.requires.scheduled_value.1

pub loop-input-preserved : goal.loop-input-preserved
loop-input-preserved c =
    let l = c.loop-input in
    let inside : l.input < 16 = omega (arith, c.loop-input-test.true, c.ports_of-input-end.ensures, c.requires.best_known.known.readable.ports) in
    scanned-more _ l.input _ _ inside c.scan-found.ensures l.invariant

pub returns : goal.returns
returns c =
    let l = c.loop-input in
    let end : l.input ≡ ports_in c.args.table.now = omega (arith, c.ports_of-input-end.ensures) in
    scanned-all _ c.requires.best_known.known.readable end l.invariant
