-- Of the entries of the section that were passed one outranks the record, or none does (proofs/Faults).
use Rattle.slot_faults.proofs.Faults.{Fallen}
use Rattle.slot_faults.proofs.checks.falling_rank.Given as goal

abbrev pub invariant-loop-k : goal.invariant-loop-k
invariant-loop-k l = Fallen l.table l.c l.k l.falling
