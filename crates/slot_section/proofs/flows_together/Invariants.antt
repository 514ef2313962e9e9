-- The entries passed stand together unless a flow is broken, the first of each flow are gathered, and their flows are
-- marked (proofs/Grouping).
use Rattle.slot_section.proofs.Grouping.{Flows}
use Rattle.slot_section.proofs.flows_together.Given as goal

abbrev pub invariant-loop-left : goal.invariant-loop-left
invariant-loop-left l = Flows l.bytes l.first l.listed l.mark l.marks l.broken l.heads l.last l.last_key l.left

abbrev pub decreases-loop-left : goal.decreases-loop-left
decreases-loop-left l = l.left
