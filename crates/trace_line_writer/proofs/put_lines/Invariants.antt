-- The place after the lines that are left is the place after all of them; then those behind them stand before the end.
use Rattle.std.proofs.Common.{◌≡◌, ◌≤◌, length, drop}
use Rattle.trace_line_writer.specs.Writing.{last_place, lines_text, place_after}
use Rattle.trace_line_writer.proofs.Lines.{Back}
use Rattle.trace_line_writer.proofs.put_lines.Given as goal

abbrev pub invariant-loop-l : goal.invariant-loop-l
invariant-loop-l l =
    (l.end ≤ last_place)
    × (place_after l.end (length (lines_text (drop l.l-index l.lines))) ≡ place_after l.at (length (lines_text l.lines)))

abbrev pub invariant-loop-l-2 : goal.invariant-loop-l-2
invariant-loop-l-2 l =
    (goal.iterator-loop-l-2).can_next l.l-iterator
    × (goal.iterator-loop-l-2).is_finite l.l-iterator
    × Back l.fn.out l.end l.lines l.l-iterator.iter.rest.now l.out l.start
