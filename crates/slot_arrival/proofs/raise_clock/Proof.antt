-- The clock that is read is written again, one higher.
use native.Mathlib.Omega.{arith}
use borrow.Author.Rules.{rules}
use Rattle.slot_faults.proofs.Stored.{table-length}
use Rattle.slot_arrival.proofs.OneByOne.{clock-raised}
use Rattle.slot_arrival.proofs.raise_clock.Statement.{statement}
use Rattle.slot_arrival.proofs.raise_clock.Tie as tie

clock-of-requires : tie.Need-clock_of-clock-requires
clock-of-requires c κs = table-length _ c.requires.0

add-write-clock : tie.Need-overflow_add-clock
add-write-clock c =
    omega (arith, c.clock_of-clock.ensures, c.requires.1)

write-clock-requires : tie.Need-write_clock-requires
write-clock-requires c κs = table-length _ c.requires.0

same_length : tie.Need-shape_of-table
same_length c = search rules

returns : tie.Need-returns
returns c =
    clock-raised _ c.requires.0 c.clock_of-clock.result _ c.clock_of-clock.ensures
    c.write_clock.ensures

pub raise_clock_spec : {M : Type 1} → statement M
raise_clock_spec = tie.close (tie.spec clock-of-requires add-write-clock write-clock-requires same_length returns)
