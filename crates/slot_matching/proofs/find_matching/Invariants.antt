-- Between two inputs nobody is to propose; in between one is. A proposal is made once, so there are 1,024 at most.
use Rattle.std.proofs.Common.{ℕ, ◌+◌, ◌-◌, ◌≤◌}
use Rattle.layout.specs.Table.{entry_limit}
use Rattle.layout_table.specs.CodeEntries.{nowhere}
use Rattle.slot_matching.proofs.Asking.{Asking}
use Rattle.slot_matching.proofs.find_matching.Given as goal

abbrev pub invariant-loop-input : goal.invariant-loop-input
invariant-loop-input l =
    (k : ℕ) × Asking l.table l.fn.candidates l.left l.held l.input k l.proposals × (nowhere ≤ k)

abbrev pub invariant-loop-asked : goal.invariant-loop-asked
invariant-loop-asked l = Asking l.table l.fn.candidates l.left l.held (l.input + 1) l.asked l.proposals

abbrev pub decreases-loop-asked : goal.decreases-loop-asked
decreases-loop-asked l = entry_limit - l.proposals
