-- One more record gets its rank.
use Rattle.fair_ranks.proofs.Ranks.{made-next}
use Rattle.fair_ranks.proofs.make_ranks.Goals as goal

pub loop-a-preserved : goal.loop-a-preserved
loop-a-preserved c =
    made-next _ c.args.records.now c.loop-a.records c.loop-a.a-index _ c.make.result c.loop-a-test.true
    c.requires.all_rankable c.loop-a.invariant c.make.ensures
