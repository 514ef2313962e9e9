-- An arrival is its five lines, each behind the one before; a line that is missing ends it.
use Rattle.std.proofs.Common.{◌≡◌, ◌+◌, sym, ap, ◌∙◌, arith, Err}
use Rattle.std.proofs.lemmas.Result.{err_from_is_err_and}
use Rattle.trace.specs.declared.Key.TheVariants.{In, Out, Flow, Rank, Tag}
use Rattle.trace_line_reader.proofs.Lines.{taken-ok, bad-err}
use Rattle.trace_reader.proofs.Arrivals.{came_of-bad, came_of-whole, arrival-bad-in, arrival-bad-out}
use Rattle.trace_reader.proofs.Arrivals.{arrival-bad-flow, arrival-bad-rank, arrival-bad-tag, arrival-whole}
use Rattle.trace_reader.proofs.read_arrival.Goals as goal

pub returns-in_err-input : goal.returns-in_err-input
returns-in_err-input c =
    let p = err_from_is_err_and c.from_residual.result c.from_residual.ensures.1 in
    let (b, e) = bad-err In c.args.line _ _ c.read_line.ensures c.ok_or.ensures.value c.in_err-input.was in
    let y : c.in_err-input.field-0.0 ≡ c.args.line = omega (arith, e) in
    rw (p.1, p.2) (ap Err y ∙ sym (came_of-bad _ (arrival-bad-in _ b)))

pub slice_bounds-after_in-count : goal.slice_bounds-after_in-count
slice_bounds-after_in-count c =
    (taken-ok In c.args.line _ _ c.read_line.ensures c.ok_or.ensures.value c.in_ok-input.was).within

pub slice_bounds-after_in-start : goal.slice_bounds-after_in-start
slice_bounds-after_in-start c =
    (taken-ok In c.args.line _ _ c.read_line.ensures c.ok_or.ensures.value c.in_ok-input.was).within

pub returns-in_err-output : goal.returns-in_err-output
returns-in_err-output c =
    let p = err_from_is_err_and c.from_residual-in_err-output.result c.from_residual-in_err-output.ensures.1 in
    let input = taken-ok In c.args.line _ _ c.read_line.ensures c.ok_or.ensures.value c.in_ok-input.was in
    let (b, e) = bad-err Out (c.args.line + 1) _ _ c.read_line-2.ensures c.ok_or-2.ensures.value c.in_err-output.was in
    let y : c.in_err-output.field-0.0 ≡ c.args.line + 1 = omega (arith, e) in
    rw (p.1, p.2) (ap Err y ∙ sym (came_of-bad _ (arrival-bad-out _ input.read b)))

pub slice_bounds-after_out-count : goal.slice_bounds-after_out-count
slice_bounds-after_out-count c =
    (taken-ok Out (c.args.line + 1) _ _ c.read_line-2.ensures c.ok_or-2.ensures.value c.in_ok-output.was).within

pub slice_bounds-after_out-start : goal.slice_bounds-after_out-start
slice_bounds-after_out-start c =
    (taken-ok Out (c.args.line + 1) _ _ c.read_line-2.ensures c.ok_or-2.ensures.value c.in_ok-output.was).within

pub returns-in_err-flow : goal.returns-in_err-flow
returns-in_err-flow c =
    let p = err_from_is_err_and c.from_residual-in_err-flow.result c.from_residual-in_err-flow.ensures.1 in
    let input = taken-ok In c.args.line _ _ c.read_line.ensures c.ok_or.ensures.value c.in_ok-input.was in
    let output = taken-ok Out (c.args.line + 1) _ _ c.read_line-2.ensures c.ok_or-2.ensures.value c.in_ok-output.was in
    let (b, e) = bad-err Flow (c.args.line + 1 + 1) _ _ c.read_line-3.ensures c.ok_or-3.ensures.value c.in_err-flow.was in
    let y : c.in_err-flow.field-0.0 ≡ c.args.line + 1 + 1 = omega (arith, e) in
    rw (p.1, p.2) (ap Err y ∙ sym (came_of-bad _ (arrival-bad-flow _ input.read output.read b)))

pub slice_bounds-after_flow-count : goal.slice_bounds-after_flow-count
slice_bounds-after_flow-count c =
    (taken-ok Flow (c.args.line + 1 + 1) _ _ c.read_line-3.ensures c.ok_or-3.ensures.value c.in_ok-flow.was).within

pub slice_bounds-after_flow-start : goal.slice_bounds-after_flow-start
slice_bounds-after_flow-start c =
    (taken-ok Flow (c.args.line + 1 + 1) _ _ c.read_line-3.ensures c.ok_or-3.ensures.value c.in_ok-flow.was).within

pub returns-in_err-rank : goal.returns-in_err-rank
returns-in_err-rank c =
    let p = err_from_is_err_and c.from_residual-in_err-rank.result c.from_residual-in_err-rank.ensures.1 in
    let input = taken-ok In c.args.line _ _ c.read_line.ensures c.ok_or.ensures.value c.in_ok-input.was in
    let output = taken-ok Out (c.args.line + 1) _ _ c.read_line-2.ensures c.ok_or-2.ensures.value c.in_ok-output.was in
    let flow = taken-ok Flow (c.args.line + 1 + 1) _ _ c.read_line-3.ensures c.ok_or-3.ensures.value c.in_ok-flow.was in
    let (b, e) = bad-err Rank (c.args.line + 1 + 1 + 1) _ _ c.read_line-4.ensures c.ok_or-4.ensures.value c.in_err-rank.was in
    let y : c.in_err-rank.field-0.0 ≡ c.args.line + 1 + 1 + 1 = omega (arith, e) in
    rw (p.1, p.2) (ap Err y ∙ sym (came_of-bad _ (arrival-bad-rank _ input.read output.read flow.read b)))

pub slice_bounds-after_rank-count : goal.slice_bounds-after_rank-count
slice_bounds-after_rank-count c =
    (taken-ok Rank (c.args.line + 1 + 1 + 1) _ _ c.read_line-4.ensures c.ok_or-4.ensures.value c.in_ok-rank.was).within

pub slice_bounds-after_rank-start : goal.slice_bounds-after_rank-start
slice_bounds-after_rank-start c =
    (taken-ok Rank (c.args.line + 1 + 1 + 1) _ _ c.read_line-4.ensures c.ok_or-4.ensures.value c.in_ok-rank.was).within

pub returns-in_err-tag : goal.returns-in_err-tag
returns-in_err-tag c =
    let p = err_from_is_err_and c.from_residual-in_err-tag.result c.from_residual-in_err-tag.ensures.1 in
    let input = taken-ok In c.args.line _ _ c.read_line.ensures c.ok_or.ensures.value c.in_ok-input.was in
    let output = taken-ok Out (c.args.line + 1) _ _ c.read_line-2.ensures c.ok_or-2.ensures.value c.in_ok-output.was in
    let flow = taken-ok Flow (c.args.line + 1 + 1) _ _ c.read_line-3.ensures c.ok_or-3.ensures.value c.in_ok-flow.was in
    let rank = taken-ok Rank (c.args.line + 1 + 1 + 1) _ _ c.read_line-4.ensures c.ok_or-4.ensures.value c.in_ok-rank.was in
    let (b, e) = bad-err Tag (c.args.line + 1 + 1 + 1 + 1) _ _ c.read_line-5.ensures c.ok_or-5.ensures.value c.in_err-tag.was in
    let y : c.in_err-tag.field-0.0 ≡ c.args.line + 1 + 1 + 1 + 1 = omega (arith, e) in
    rw (p.1, p.2) (ap Err y ∙ sym (came_of-bad _ (arrival-bad-tag _ input.read output.read flow.read rank.read b)))

pub overflow_add-length : goal.overflow_add-length
overflow_add-length c =
    let input = taken-ok In c.args.line _ _ c.read_line.ensures c.ok_or.ensures.value c.in_ok-input.was in
    let output = taken-ok Out (c.args.line + 1) _ _ c.read_line-2.ensures c.ok_or-2.ensures.value c.in_ok-output.was in
    let flow = taken-ok Flow (c.args.line + 1 + 1) _ _ c.read_line-3.ensures c.ok_or-3.ensures.value c.in_ok-flow.was in
    let rank = taken-ok Rank (c.args.line + 1 + 1 + 1) _ _ c.read_line-4.ensures c.ok_or-4.ensures.value c.in_ok-rank.was in
    let tag = taken-ok Tag (c.args.line + 1 + 1 + 1 + 1) _ _ c.read_line-5.ensures c.ok_or-5.ensures.value c.in_ok-tag.was in
    omega (arith, input, output, flow, rank, tag)

pub overflow_add-length-2 : goal.overflow_add-length-2
overflow_add-length-2 c =
    let input = taken-ok In c.args.line _ _ c.read_line.ensures c.ok_or.ensures.value c.in_ok-input.was in
    let output = taken-ok Out (c.args.line + 1) _ _ c.read_line-2.ensures c.ok_or-2.ensures.value c.in_ok-output.was in
    let flow = taken-ok Flow (c.args.line + 1 + 1) _ _ c.read_line-3.ensures c.ok_or-3.ensures.value c.in_ok-flow.was in
    let rank = taken-ok Rank (c.args.line + 1 + 1 + 1) _ _ c.read_line-4.ensures c.ok_or-4.ensures.value c.in_ok-rank.was in
    let tag = taken-ok Tag (c.args.line + 1 + 1 + 1 + 1) _ _ c.read_line-5.ensures c.ok_or-5.ensures.value c.in_ok-tag.was in
    omega (arith, input, output, flow, rank, tag)

pub overflow_add-length-3 : goal.overflow_add-length-3
overflow_add-length-3 c =
    let input = taken-ok In c.args.line _ _ c.read_line.ensures c.ok_or.ensures.value c.in_ok-input.was in
    let output = taken-ok Out (c.args.line + 1) _ _ c.read_line-2.ensures c.ok_or-2.ensures.value c.in_ok-output.was in
    let flow = taken-ok Flow (c.args.line + 1 + 1) _ _ c.read_line-3.ensures c.ok_or-3.ensures.value c.in_ok-flow.was in
    let rank = taken-ok Rank (c.args.line + 1 + 1 + 1) _ _ c.read_line-4.ensures c.ok_or-4.ensures.value c.in_ok-rank.was in
    let tag = taken-ok Tag (c.args.line + 1 + 1 + 1 + 1) _ _ c.read_line-5.ensures c.ok_or-5.ensures.value c.in_ok-tag.was in
    omega (arith, input, output, flow, rank, tag)

pub overflow_add-length-4 : goal.overflow_add-length-4
overflow_add-length-4 c =
    let input = taken-ok In c.args.line _ _ c.read_line.ensures c.ok_or.ensures.value c.in_ok-input.was in
    let output = taken-ok Out (c.args.line + 1) _ _ c.read_line-2.ensures c.ok_or-2.ensures.value c.in_ok-output.was in
    let flow = taken-ok Flow (c.args.line + 1 + 1) _ _ c.read_line-3.ensures c.ok_or-3.ensures.value c.in_ok-flow.was in
    let rank = taken-ok Rank (c.args.line + 1 + 1 + 1) _ _ c.read_line-4.ensures c.ok_or-4.ensures.value c.in_ok-rank.was in
    let tag = taken-ok Tag (c.args.line + 1 + 1 + 1 + 1) _ _ c.read_line-5.ensures c.ok_or-5.ensures.value c.in_ok-tag.was in
    omega (arith, input, output, flow, rank, tag)

pub returns : goal.returns
returns c =
    let input = taken-ok In c.args.line _ _ c.read_line.ensures c.ok_or.ensures.value c.in_ok-input.was in
    let output = taken-ok Out (c.args.line + 1) _ _ c.read_line-2.ensures c.ok_or-2.ensures.value c.in_ok-output.was in
    let flow = taken-ok Flow (c.args.line + 1 + 1) _ _ c.read_line-3.ensures c.ok_or-3.ensures.value c.in_ok-flow.was in
    let rank = taken-ok Rank (c.args.line + 1 + 1 + 1) _ _ c.read_line-4.ensures c.ok_or-4.ensures.value c.in_ok-rank.was in
    let tag = taken-ok Tag (c.args.line + 1 + 1 + 1 + 1) _ _ c.read_line-5.ensures c.ok_or-5.ensures.value c.in_ok-tag.was in
    sym
    (came_of-whole _ (arrival-whole _ input.read output.read flow.read rank.read tag.read)
    (omega (arith, input, output, flow, rank, tag)))
