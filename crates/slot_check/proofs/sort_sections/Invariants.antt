-- What is left to be looked at has the answer of the whole, and the sets of those passed are handed on.
use Rattle.std.proofs.Common.{◌≡◌, ◌+◌, ◌*◌}
use Rattle.laws.specs.Lists.{all?, between}
use Rattle.slot_section.specs.Code.{MarksBelow}
use Rattle.slot_check.specs.Code.{is_section}
use Rattle.slot_check.proofs.Handed.{Handing}
use Rattle.slot_check.proofs.sort_sections.Given as goal

abbrev pub invariant-loop-input : goal.invariant-loop-input
invariant-loop-input l =
    record {
      rest : all? (is_section l.ports l.clock l.bytes) (between 0 16)
          ≡ all? (is_section l.ports l.clock l.bytes) (between l.input 16);
      marked : MarksBelow (2 * l.input + 1) l.marks;
      handing : Handing l.bytes l.sets.listed l.sets.heads l.sets.crossed l.sets.buffered l.input;
    }
