-- The line of the cell, or nothing.
use Rattle.std.proofs.Common.{arith}
use Rattle.trace.specs.Lines.{departure_text}
use Rattle.player_lines.proofs.Lines.{put-nothing}
use Rattle.player_lines.proofs.put_sent.Goals as goal

pub returns-in-None : goal.returns-in-None
unfolding departure_text
returns-in-None c = rw (← c.in-None.ensures) (put-nothing c.args.out.now c.args.at (omega arith) (omega arith))

pub returns-in-Some : goal.returns-in-Some
returns-in-Some c = rw (← c.in-Some.ensures) c.put_departure.ensures
