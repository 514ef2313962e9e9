-- A slot of the output-queued switch on the bytes of a table.
--     joined, joined_all          a cell has joined the buffer of its output, and all cells of a slot have
--     MayJoin                    when one may
--     table_served, ServedLeaves  what a slot leaves
use Rattle.std.specs.Prelude.{ℕ, ◌+◌, ◌<◌, List, ◌≡◌}
use Rattle.laws.specs.Lists.{update}
use Rattle.cell.specs.declared.Arrival.{Arrival}
use Rattle.cell.specs.declared.Cell.{Cell}
use Rattle.cell.specs.Checked.{Checked}
use Rattle.cell.specs.Limits.{section_room}
use Rattle.model.specs.Checks.{Outcome, done, refused, refusal_of}
use Rattle.model.specs.Oq.{Served, join_buffer, join_buffers}
use Rattle.model.specs.State.{Switch}
use Rattle.layout.specs.Code.{ports_in}
use Rattle.layout.specs.Entry.{clock_in, count_in}
use Rattle.layout.specs.CodeOq.{oq_answer_after}
use Rattle.layout.specs.Table.{encode, IsTable}
use Rattle.slot_faults.specs.CodeFault.{coming}

-- the switch when a cell has joined the buffer of its output
unfoldable pub joined : Cell → Switch → Switch
joined c s = record { ports = s.ports; clock = s.clock; sections = update c.input (join_buffer c) s.sections }

-- the switch when the cells of a slot's records have joined, with the clock of the next slot
unfoldable pub joined_all : Switch → List Arrival → Switch
joined_all s records =
    record { ports = s.ports; clock = s.clock + 1; sections = join_buffers (coming s records) s.sections }

-- the cell of a record may join a table whose clock has risen: its input has room for it, and the record fits an entry
pub record MayJoin (a : Arrival) (table : List ℕ) : Type 0 where
  pub sound : IsTable table
  pub risen : 0 < clock_in table
  pub input : a.input < ports_in table
  pub room : count_in table a.input < section_room
  pub output : a.output < 256
  pub flow : a.flow < 256

-- the table after a slot: that of its switch, or as it was
unfoldable pub table_served : List ℕ → Outcome Served → List ℕ
table_served table (done d) = encode d.switch
table_served table (refused r place) = table

-- what a slot leaves: its refusal, the table and the answer's buffer
abbrev pub ServedLeaves : Outcome Served → List ℕ → List ℕ → Checked → List ℕ → List ℕ → Type 0
ServedLeaves o table answer checked table' answer' =
    (checked ≡ refusal_of o) × ((table' ≡ table_served table o) × (answer' ≡ oq_answer_after answer o))
