-- The records passed are in reach; their first words, places and slots are collected (proofs/Collecting).
use Rattle.slot_section.proofs.Collecting.{Collecting}
use Rattle.slot_section.proofs.collect.Given as goal

abbrev pub invariant-loop-k : goal.invariant-loop-k
invariant-loop-k l = Collecting l.ports l.clock l.bytes l.from l.to l.mark l.marks l.again l.bits l.low l.high l.k
