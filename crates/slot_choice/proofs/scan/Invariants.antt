-- Up to the first ready head none is scheduled, and from there on that one is; the positions of the urgent heads so far
-- are gathered. Both loops go down the set of the heads that are left.
use Rattle.slot_choice.proofs.Walked.{Walked, Early}
use Rattle.slot_choice.proofs.scan.Given as goal

abbrev pub invariant-loop-left : goal.invariant-loop-left
invariant-loop-left l = Early l.table l.input l.urgent l.left

abbrev pub decreases-loop-left : goal.decreases-loop-left
decreases-loop-left l = l.left

abbrev pub invariant-loop-left-2 : goal.invariant-loop-left-2
invariant-loop-left-2 l = Walked l.table l.input l.urgent l.left

abbrev pub decreases-loop-left-2 : goal.decreases-loop-left-2
decreases-loop-left-2 l = l.left
