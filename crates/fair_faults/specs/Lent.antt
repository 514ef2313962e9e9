-- What turns a slot back by what is lent to it, before its records are looked at.
use Rattle.std.specs.Prelude.{ℕ, ◌%◌, Bool, cond, ◌&&◌, ltb, eqb}
use Rattle.cell.specs.Checked.{Checked, no_fault, fault_with}
use Rattle.cell.specs.declared.Refusal.TheVariants.{BrokenTable, ShortBuffer}
use Rattle.layout.specs.Arrivals.{arrival_size}

-- what turns a slot back before its records are looked at: the table is broken or so many bytes are no whole records,
-- then the room is less than the answer's size
unfoldable pub lent_fault : Bool → ℕ → ℕ → ℕ → Checked
lent_fault is_table arrivals room size =
    cond (is_table && eqb (arrivals % arrival_size) 0)
    (cond (ltb room size) (fault_with ShortBuffer 0) no_fault)
    (fault_with BrokenTable 0)
