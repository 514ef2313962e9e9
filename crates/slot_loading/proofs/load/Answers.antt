use Rattle.std.proofs.Common.{◌≡◌, ◌<◌, arith, subst}
use Rattle.cell.specs.Limits.{port_limit}
use Rattle.layout.specs.Code.{ports_in}
use Rattle.slot_view.proofs.Own.{table-readable}
use Rattle.slot_loading.specs.Code.{LoadedBelow}
use Rattle.slot_loading.proofs.Loaded.{loaded-start, loaded-end}
use Rattle.slot_loading.proofs.load.Goals as goal

pub ports_of-input-end-requires : goal.ports_of-input-end-requires
ports_of-input-end-requires c = (table-readable _ c.requires.table).size

pub loop-input-init : goal.loop-input-init
loop-input-init c =
    let a = c.args in
    record {
      ends = c.ports_of-input-end.ensures;
      few = omega (arith, c.ports_of-input-end.ensures, (table-readable _ c.requires.table).ports);
      passed = loaded-start a.table.now a.cross.now a.keys.now a.best.now c.requires.blank;
    }

pub load_crossed-requires-clause-crossed_value : goal.load_crossed-requires-clause-crossed_value
load_crossed-requires-clause-crossed_value c =
    let l = c.loop-input in
    let low : l.input < port_limit = omega (arith, l.invariant.few) in
    c.requires.by_index l.input low

pub load_buffered-requires-clause-buffered_value : goal.load_buffered-requires-clause-buffered_value
load_buffered-requires-clause-buffered_value c =
    let l = c.loop-input in
    let low : l.input < port_limit = omega (arith, l.invariant.few) in
    c.requires.by_index_2 l.input low

pub returns : goal.returns
returns c =
    let table = c.args.table.now in
    let l = c.loop-input in
    let all : l.input ≡ ports_in table = omega (arith, l.invariant.ends) in
    loaded-end table c.requires.table l.cross l.keys l.best l.rivals
    (subst (λ n. LoadedBelow table n l.cross l.keys l.best l.rivals) all l.invariant.passed)
