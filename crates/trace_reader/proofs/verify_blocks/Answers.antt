-- One block further, the end, or a line at fault.
use Rattle.std.proofs.Common.{◌≡◌, ◌+◌, sym, ◌∙◌, arith, true, length}
use borrow.Author.Tests.{eqb-true}
use Rattle.std.proofs.lemmas.Result.{err_from_is_err_and}
use Rattle.trace_reader.proofs.Whole.{verified-start, verified-within, verified-less, verified-more}
use Rattle.trace_reader.proofs.Whole.{verified-clock-end, verified-end, verified-bad, verified-missing, clock-ok, clock-err, whole-decided}
use Rattle.trace_reader.proofs.Answered.{answer-more-e}
use Rattle.trace_reader.proofs.verify_blocks.Goals as goal

pub loop-rest-init : goal.loop-rest-init
loop-rest-init c = verified-start _ _ (omega (arith, c.ranges))

pub returns-in_err-clock-in-Slot : goal.returns-in_err-clock-in-Slot
returns-in_err-clock-in-Slot c =
    let v = c.loop-rest.invariant in
    let p = err_from_is_err_and c.from_residual.result c.from_residual.ensures.1 in
    let (e, f) = clock-err c.loop-rest.clock c.checked_add.result (c.loop-rest.line + c.in-Slot.lines) c.checked_add.ensures c.ok_or.ensures.value c.in_err-clock-in-Slot.was in
    rw (p.1, p.2, e) (verified-clock-end v c.read_block.ensures.value c.in-Slot.is (omega (arith, f, v.fits)))

pub slice_bounds-rest-count : goal.slice_bounds-rest-count
slice_bounds-rest-count c = verified-within c.loop-rest.invariant c.read_block.ensures.value c.in-Slot.is

pub slice_bounds-rest-start : goal.slice_bounds-rest-start
slice_bounds-rest-start c = verified-within c.loop-rest.invariant c.read_block.ensures.value c.in-Slot.is

pub loop-rest-smaller : goal.loop-rest-smaller
loop-rest-smaller c = verified-less c.loop-rest.invariant c.read_block.ensures.value c.in-Slot.is

pub loop-rest-preserved : goal.loop-rest-preserved
loop-rest-preserved c =
    let (e, f) = clock-ok c.loop-rest.clock c.checked_add.result (c.loop-rest.line + c.in-Slot.lines) c.checked_add.ensures c.ok_or.ensures.value c.in_ok-clock-in-Slot.was in
    verified-more c.loop-rest.invariant c.read_block.ensures.value c.in-Slot.is e f

pub returns-in-End : goal.returns-in-End
returns-in-End c = verified-end c.loop-rest.invariant c.read_block.ensures.value c.in-End.is

pub returns-in-Bad : goal.returns-in-Bad
returns-in-Bad c = verified-bad c.loop-rest.invariant c.read_block.ensures.value c.in-Bad.is

pub returns-in-More : goal.returns-in-More
returns-in-More c = whole-decided _ (answer-more-e true _ _ c.read_block.ensures.value c.in-More.is)

pub returns : goal.returns
returns c =
    let e : length c.loop-rest.rest.now ≡ 0 = eqb-true _ _ (sym c.is_empty.ensures ∙ c.loop-rest-test.false) in
    verified-missing c.loop-rest.invariant (omega arith)
