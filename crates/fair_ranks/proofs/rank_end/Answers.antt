-- The rank is compared with the largest.
use Rattle.std.proofs.Common.{arith}
use Rattle.fair_ranks.proofs.Ranks.{end-past}
use Rattle.fair_ranks.proofs.rank_end.Goals as goal

pub returns : goal.returns
returns c good = end-past _ c.args.a c.made_rank.result (omega arith) (c.made_rank.ensures good)
