-- Input by input, the sections passed are without the cells that leave.
use Rattle.std.proofs.Common.{◌≡◌, ◌<◌, ◌∙◌, ap, arith}
use Rattle.layout.specs.Table.{encode}
use Rattle.layout.specs.Code.{ports_in}
use Rattle.slot_view.proofs.Own.{table-readable}
use Rattle.slot_departure.proofs.Departing.{partly, partly_none, partly-all, removable, partly-next}
use Rattle.slot_departure.proofs.remove.Goals as goal

pub ports_of-input-end-requires : goal.ports_of-input-end-requires
ports_of-input-end-requires c = (table-readable _ c.requires.0).size

pub loop-input-init : goal.loop-input-init
loop-input-init c = partly_none _ c.requires.0

pub offset_bounds-firsts-input : goal.offset_bounds-firsts-input
offset_bounds-firsts-input c =
    omega (arith, c.loop-input-test.true, c.ports_of-input-end.ensures, (table-readable _ c.requires.0).ports)

pub bounds-firsts-input : goal.bounds-firsts-input
bounds-firsts-input c =
    omega (arith, c.loop-input-test.true, c.ports_of-input-end.ensures, (table-readable _ c.requires.0).ports)

pub remove_from-requires : goal.remove_from-requires
remove_from-requires c =
    let loop = c.loop-input in
    let port : loop.input < ports_in c.args.table.now = omega (arith, c.loop-input-test.true, c.ports_of-input-end.ensures) in
    removable _ c.requires.0 c.requires.1 loop.input port loop.table loop.invariant
    (loop.auto.table ∙ (table-readable _ c.requires.0).size) c.first_leaving-firsts.ensures

pub loop-input-preserved : goal.loop-input-preserved
loop-input-preserved c =
    let loop = c.loop-input in
    let port : loop.input < ports_in c.args.table.now = omega (arith, c.loop-input-test.true, c.ports_of-input-end.ensures) in
    partly-next _ c.requires.0 c.requires.1 loop.input port loop.table loop.invariant c.remove_from.new.table
    c.remove_from.ensures

pub returns : goal.returns
returns c =
    let loop = c.loop-input in
    let table = c.args.table.now in
    let last : loop.input ≡ ports_in table = omega (arith, c.ports_of-input-end.ensures) in
    loop.invariant ∙ ap (λ n. encode (partly table n)) last ∙ partly-all table c.requires.0
