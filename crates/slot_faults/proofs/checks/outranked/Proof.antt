-- The flow and the rank decide.
use borrow.Author.Rules.{rules}
use Rattle.slot_faults.proofs.Faults.{own-flow, outranks-by}
use Rattle.slot_faults.proofs.checks.outranked.Statement.{statement}
use Rattle.slot_faults.proofs.checks.outranked.Tie as tie

flow-word-of-requires : tie.Need-flow_word_of-requires
flow-word-of-requires c κs = search rules

rank-of-requires : tie.Need-rank_of-requires
rank-of-requires c κs = search rules

returns : tie.Need-returns
returns c =
    let word = c.flow_word_of in
    let own = c.requires.1 in
    outranks-by _ _ _ _ (own-flow _ _ _ _ _ own.0 own.2 word.ensures.1 word.ensures.0 own.1)
    c.rank_of.ensures

pub outranked_spec : {M : Type 1} → statement M
outranked_spec = tie.close (tie.spec flow-word-of-requires rank-of-requires returns)
