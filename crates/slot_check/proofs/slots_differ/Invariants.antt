-- No two of the entries passed have one slot, and they are kept by the low bytes of their slots (proofs/Slots).
use Rattle.slot_check.proofs.Slots.{Met}
use Rattle.slot_check.proofs.slots_differ.Given as goal

abbrev pub invariant-loop-k : goal.invariant-loop-k
invariant-loop-k l = Met l.bytes l.first l.k l.met
