-- The records, then the departures.
use Rattle.fair_ranks.proofs.Remembering.{remember-all}
use Rattle.fair_ranks.proofs.remember.Goals as goal

pub returns : goal.returns
returns c list e =
    remember-all _ _ _ c.args.made.now list _ c.remember_records.ensures c.remember_departures.ensures e
