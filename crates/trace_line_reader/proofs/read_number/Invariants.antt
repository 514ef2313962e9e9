-- What is read from the start is what is read where the digits of the number stand before the rest of the text.
use Rattle.std.proofs.Common.{◌≡◌, ◌≤◌}
use lib.ListN.{drop}
use Rattle.cell.specs.Limits.{clock_end}
use Rattle.trace_line_reader.specs.Code.{read_body}
use Rattle.trace_line_reader.proofs.Numbers.{continued}
use Rattle.trace_line_reader.proofs.read_number.Given as goal

abbrev pub invariant-loop-at : goal.invariant-loop-at
invariant-loop-at l = record {
  small : l.number ≤ clock_end;
  here : read_body (drop l.start l.text) ≡ continued l.number (drop l.at l.text);
}
