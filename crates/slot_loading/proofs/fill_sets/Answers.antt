use Rattle.std.proofs.Common.{◌≡◌, refl, arith, subst}
use Rattle.layout.specs.Code.{ports_in}
use Rattle.slot_view.proofs.Own.{table-readable}
use Rattle.slot_loading.specs.Code.{SetsBelow}
use Rattle.slot_loading.proofs.Loaded.{sets-start, sets-put, sets_end}
use Rattle.slot_loading.proofs.fill_sets.Goals as goal

pub ports_of-input-end-requires : goal.ports_of-input-end-requires
ports_of-input-end-requires c = (table-readable _ c.requires).size

pub loop-input-init : goal.loop-input-init
loop-input-init c =
    record {
      ends = c.ports_of-input-end.ensures;
      few = omega (arith, c.ports_of-input-end.ensures, (table-readable _ c.requires).ports);
      passed =
          sets-start c.args.table.now _ _ _ _
          (record { no-lists = refl; no-heads = refl; no-crossed = refl; no-buffered = refl });
    }

pub loop-input-preserved : goal.loop-input-preserved
loop-input-preserved c =
    let l = c.loop-input in
    let r = c.sort-places.result in
    record {
      ends = l.invariant.ends;
      few = l.invariant.few;
      passed =
          sets-put c.args.table.now l.input l.sets.listed l.sets.heads l.sets.crossed l.sets.buffered r.listed
          c.heads_of.result r.crossed r.buffered (omega (arith, l.invariant.few)) c.sort-places.ensures c.heads_of.ensures
          l.invariant.passed;
    }

pub returns : goal.returns
returns c =
    let table = c.args.table.now in
    let l = c.loop-input in
    let all : l.input ≡ ports_in table = omega (arith, l.invariant.ends) in
    sets_end table c.requires l.sets.listed l.sets.heads l.sets.crossed l.sets.buffered
    (subst (λ n. SetsBelow table n l.sets.listed l.sets.heads l.sets.crossed l.sets.buffered) all l.invariant.passed)
