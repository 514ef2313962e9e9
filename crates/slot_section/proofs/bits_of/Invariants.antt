-- The records passed have no bit set that is not gathered.
use Rattle.std.proofs.Common.{◌≡◌, eqb}
use Rattle.laws.specs.Lists.{all?, between}
use Rattle.slot_section.specs.Code.{is_unused}
use Rattle.slot_section.proofs.bits_of.Given as goal

abbrev pub invariant-loop-k : goal.invariant-loop-k
invariant-loop-k l = eqb l.bits 0 ≡ all? (is_unused l.bytes) (between l.from l.k)
