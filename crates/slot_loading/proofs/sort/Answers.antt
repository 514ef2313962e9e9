use Rattle.std.proofs.Common.{◌≡◌, ◌+◌, ◌*◌, ◌^◌, ◌<◌, arith}
use Rattle.slot_view.specs.CodeScan.{Readable}
use Rattle.slot_view.proofs.Own.{table-readable}
use Rattle.slot_loading.proofs.Sorting.{section-few, sorting_start, sorting-room, sorting-next, sorting-end}
use Rattle.slot_loading.proofs.sort.Goals as goal
use Rattle.slot_loading.proofs.sort.Goals.{Start, In-loop-k}

readable : (c : Start) → Readable c.args.table.now
readable c = table-readable c.args.table.now c.requires.table

port : (c : Start) → c.args.input < 16
port c = omega (arith, c.requires.input_bound, (readable c).ports)

-- the sets have room for one position more
room : (c : In-loop-k) → (c.loop-k.low < 2 ^ 63) × (c.loop-k.high < 2 ^ 63)
room c =
    let a = c.args in
    let l = c.loop-k in
    sorting-room a.table.now (64 * a.input) _ l.low l.high l.k l.invariant.passed c.loop-k-test.true
    (omega (arith, l.invariant.ends, section-few a.table.now c.requires.table a.input c.requires.input_bound))

pub overflow_mul-first : goal.overflow_mul-first
overflow_mul-first c = omega (arith, port (goal.at.overflow_mul-first c).Start)

pub end_of-k-requires : goal.end_of-k-requires
end_of-k-requires c =
    let here = (goal.at.end_of-k-requires c).Start in
    ((readable here).size, port here)

pub loop-k-init : goal.loop-k-init
loop-k-init c =
    record {
      ends = c.end_of-k.ensures;
      passed = sorting_start c.args.table.now _ _ (omega (arith, c.end_of-k.ensures));
    }

pub place_of-place-requires : goal.place_of-place-requires
place_of-place-requires c =
    let l = c.loop-k in
    let here = (goal.at.place_of-place-requires c).Start in
    let few = section-few c.args.table.now c.requires.table c.args.input c.requires.input_bound in
    ((readable here).size, omega (arith, c.loop-k-test.true, l.invariant.ends, l.invariant.passed.limit, port here))

pub push-low-requires : goal.push-low-requires
push-low-requires c = (room (goal.at.push-low-requires c).In-loop-k).0

pub push-high-requires : goal.push-high-requires
push-high-requires c = (room (goal.at.push-high-requires c).In-loop-k).1

pub loop-k-preserved : goal.loop-k-preserved
loop-k-preserved c =
    let a = c.args in
    let l = c.loop-k in
    record {
      ends = l.invariant.ends;
      passed =
          rw (c.push-low.ensures, c.push-high.ensures)
          (sorting-next a.table.now (64 * a.input) _ l.low l.high l.k l.invariant.passed c.loop-k-test.true
          c.place_of-place.result c.place_of-place.ensures.0);
    }

pub returns : goal.returns
returns c =
    let a = c.args in
    let l = c.loop-k in
    rw (c.minus.ensures, c.minus-2.ensures, c.both.ensures)
    (sorting-end a.table.now c.requires.table a.input c.requires.input_bound _ l.low l.high l.k l.invariant.ends
    l.invariant.passed c.loop-k-test.false)
