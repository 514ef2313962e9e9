-- What is read, what is stored and what is left.
use Rattle.trace_reader.proofs.Records.{Walked}
use Rattle.trace_reader.proofs.read_arrivals.Given as goal

abbrev pub invariant-loop-k : goal.invariant-loop-k
invariant-loop-k l = Walked l.text l.start l.initial.numbers l.numbers l.at l.k
