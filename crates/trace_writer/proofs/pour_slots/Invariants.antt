-- Pouring the slots that are left gives what pouring all of them gives.
use Rattle.std.proofs.Common.{◌+◌, drop}
use Rattle.trace.specs.Contents.{slots_text}
use Rattle.trace.specs.Flat.{slots_from}
use Rattle.trace_line_writer.proofs.Pour.{Rest}
use Rattle.trace_writer.proofs.pour_slots.Given as goal

abbrev pub invariant-loop-i : goal.invariant-loop-i
invariant-loop-i l =
    Rest l.fn.out l.at (slots_text l.first (slots_from l.counts l.numbers)) l.out l.place
    (slots_text (l.first + l.i) (slots_from (drop l.i l.counts) l.left))
