use Rattle.std.proofs.Common.{sym, ◌∙◌}
use Rattle.trace_writer.proofs.Flat.{fit_together-start, fit_left-more, fit_left-short, fit_left-end}
use Rattle.trace_writer.proofs.fit_together.Goals as goal

pub loop-count-init : goal.loop-count-init
loop-count-init c = fit_together-start _ _

pub returns-then-left-five : goal.returns-then-left-five
returns-then-left-five c =
    let l = c.loop-count in
    sym (l.invariant ∙ fit_left-short c.args.counts.now l.left l.count-index c.loop-count-test.true c.if-left-five.true)

pub loop-count-preserved : goal.loop-count-preserved
loop-count-preserved c =
    let l = c.loop-count in
    l.invariant ∙ fit_left-more c.args.counts.now l.left l.count-index c.loop-count-test.true c.if-left-five.false

pub returns : goal.returns
returns c =
    let l = c.loop-count in
    sym (l.invariant ∙ fit_left-end c.args.counts.now l.left l.count-index c.loop-count-test.false)
