-- A rank that can be made has 32 bits.
use Rattle.std.proofs.Common.{arith}
use Rattle.fair_ranks.proofs.Ranks.{made-record}
use Rattle.fair_ranks.proofs.make.Goals as goal

pub returns : goal.returns
returns c = made-record _ c.args.a c.made_rank.result (omega arith) c.made_rank.ensures
