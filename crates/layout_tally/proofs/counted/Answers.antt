-- The counts are raised one by one.
use Rattle.model.specs.Tally.{raise}
use Rattle.layout_tally.proofs.Counts.{made-run, made-refused}
use Rattle.layout_tally.proofs.counted.Goals as goal

pub returns-then-ran : goal.returns-then-ran
unfolding raise
returns-then-ran c =
    let a = c.args in
    made-run a.ran a.arrivals a.departures a.t _ _ _ c.if-ran.true c.saturating_add.ensures
    c.saturating_add-then-ran.ensures c.saturating_add-then-ran-2.ensures

pub returns-else-ran : goal.returns-else-ran
unfolding raise
returns-else-ran c =
    let a = c.args in
    made-refused a.ran a.arrivals a.departures a.t _ c.if-ran.false c.saturating_add-else-ran.ensures
