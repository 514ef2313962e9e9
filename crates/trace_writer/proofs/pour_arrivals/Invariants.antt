-- Pouring the arrivals that are left gives what pouring all of them gives.
use Rattle.std.proofs.Common.{◌-◌}
use Rattle.trace.specs.Contents.{arrivals_text}
use Rattle.trace.specs.Flat.{arrivals_from}
use Rattle.trace_line_writer.proofs.Pour.{Rest}
use Rattle.trace_writer.proofs.pour_arrivals.Given as goal

abbrev pub invariant-loop : goal.invariant-loop
invariant-loop l =
    Rest l.fn.out l.at (arrivals_text (arrivals_from l.count l.numbers)) l.out l.place
    (arrivals_text (arrivals_from (l.count - l.counter) l.left))
