-- The slot's line, or the first of the record's.
use Rattle.player_lines.proofs.Lines.{line-slot, line-record}
use Rattle.player_lines.proofs.line_of.Goals as goal

pub returns-then-place-eq0 : goal.returns-then-place-eq0
returns-then-place-eq0 c = line-slot _ _ c.if-place-eq0.true

pub returns : goal.returns
returns c = line-record _ _ c.if-place-eq0.false
