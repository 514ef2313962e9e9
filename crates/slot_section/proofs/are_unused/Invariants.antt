-- The last block, and the records passed, have no bit set that is not gathered.
use Rattle.std.proofs.Common.{◌≡◌, eqb, ◌-◌, ◌≤◌, ◌&&◌}
use Rattle.laws.specs.Lists.{all?, between}
use Rattle.slot_section.specs.Code.{is_unused}
use Rattle.slot_section.proofs.are_unused.Given as goal

abbrev pub invariant-loop-k : goal.invariant-loop-k
invariant-loop-k l =
    record {
      begun : l.from ≤ l.k;
      within : l.k ≤ l.to;
      gathered : eqb l.bits 0
          ≡ (all? (is_unused l.bytes) (between (l.to - 8) l.to) && all? (is_unused l.bytes) (between l.from l.k));
    }
