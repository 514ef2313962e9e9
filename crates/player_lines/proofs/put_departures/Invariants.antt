-- Output by output, the departures of those passed are put.
use Rattle.trace.specs.Lines.{departures_text}
use Rattle.trace_line_writer.specs.Writing.{Put}
use Rattle.layout.specs.Answer.{departures_in}
use Rattle.player_lines.proofs.put_departures.Given as goal

abbrev pub invariant-loop-output : goal.invariant-loop-output
invariant-loop-output l = Put l.fn.out l.at (departures_text (departures_in l.output l.answer)) l.out l.place
