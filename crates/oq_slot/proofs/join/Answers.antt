-- The cell of the record, of the slot before the clock, is written behind the last entry of its input, and the count is
-- raised.
use Rattle.std.proofs.Common.{◌≡◌, ◌-◌, ◌<◌, ap, ◌∙◌, arith}
use Rattle.cell.specs.Cell.{accepted}
use Rattle.layout.specs.Entry.{clock_in}
use Rattle.slot_faults.proofs.Stored.{table-length, ports-below}
use Rattle.oq_slot.proofs.Joining.{joined_bytes}
use Rattle.oq_slot.proofs.join.Goals as goal
use Rattle.oq_slot.proofs.join.Goals.{After-cell_of, Start}

-- the input of the record is one of the sixteen
port : (c : Start) → c.args.a.input < 16
port c = omega (arith, c.requires.input, ports-below c.args.table.now c.requires.sound)

-- the cell that joins
cell-is : (c : After-cell_of)
    → let a = c.args in
    c.cell_of.result ≡ accepted (clock_in a.table.now - 1) a.a
cell-is c = c.cell_of.ensures ∙ ap (λ k. accepted (k - 1) c.args.a) c.clock_of-clock.ensures

pub clock_of-clock-requires : goal.clock_of-clock-requires
clock_of-clock-requires c = table-length _ c.requires.sound

pub count_of-count-requires : goal.count_of-count-requires
count_of-count-requires c = (table-length _ c.requires.sound, port (goal.at.count_of-count-requires c).Start)

pub write_entry-requires-clause-has_entry : goal.write_entry-requires-clause-has_entry
write_entry-requires-clause-has_entry c =
    let low = port (goal.at.write_entry-requires-clause-has_entry c).Start in
    (table-length _ c.requires.sound, omega (arith, low, c.requires.room, c.count_of-count.ensures))

pub write_entry-requires-clause-output_bound : goal.write_entry-requires-clause-output_bound
unfolding accepted
write_entry-requires-clause-output_bound c =
    rw (cell-is (goal.at.write_entry-requires-clause-output_bound c).After-cell_of)
    (c.requires.output, c.requires.flow, omega arith, omega arith)

pub write_count-requires : goal.write_count-requires
write_count-requires c = (
  c.write_entry.auto.bytes ∙ table-length _ c.requires.sound,
  port (goal.at.write_count-requires c).Start,
  omega (arith, c.count_of-count.ensures, c.requires.room),
)

pub returns-clause-table_after : goal.returns-clause-table_after
unfolding accepted
returns-clause-table_after c =
    let a = c.args in
    let may = c.requires in
    c.write_count.ensures
    ∙ joined_bytes a.table.now may.sound (accepted (clock_in a.table.now - 1) a.a) may.input may.room
    c.count_of-count.result c.write_entry.new.bytes c.count_of-count.ensures
    (rw (cell-is (goal.at.returns-clause-table_after c).After-cell_of) at c.write_entry.ensures)
