use Rattle.trace.specs.Piece.{decided}
use Rattle.trace_reader.proofs.decided.Goals as goal

pub returns-then-last : goal.returns-then-last
unfolding decided
returns-then-last c = rw c.if-last.true

pub returns-else-last : goal.returns-else-last
unfolding decided
returns-else-last c = rw c.if-last.false
