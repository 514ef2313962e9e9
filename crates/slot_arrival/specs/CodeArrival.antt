-- Scope 3.1: the arrival of a slot's records on the bytes of its table.
use Rattle.std.specs.Prelude.{ℕ, suc, ◌+◌, ◌-◌, ◌<◌, Bool, true, false, cond, List, [], ◌∷◌, ◌++◌, ◌≡◌, take, drop, set, get_or}
use Rattle.std.proofs.Math.Option.{none}
use Rattle.laws.specs.Lists.{some?, update}
use Rattle.sets.specs.Code.{with_one, opened}
use Rattle.cell.specs.declared.Arrival.{Arrival}
use Rattle.cell.specs.declared.Cell.{Cell}
use Rattle.cell.specs.Cell.{accepted, arrival_fits}
use Rattle.cell.specs.Limits.{section_room, clock_end}
use Rattle.model.specs.State.{Entry, Switch, cells}
use Rattle.model.specs.Sound.{sound as sound_switch}
use Rattle.model.specs.Checks.{first_fault}
use Rattle.model.specs.Crossbar.{in_list_of, enter, arrive}
use Rattle.layout.specs.Entry.{clock_in, count_in}
use Rattle.layout.specs.Table.{state_of, IsTable}
use Rattle.layout.specs.Code.{ports_in}
use Rattle.slot_faults.specs.CodeFault.{coming}

-- the switch when a cell has entered the list of its input
unfoldable pub entered : Cell → Switch → Switch
entered c s = record { ports = s.ports; clock = s.clock; sections = update c.input (enter c) s.sections }

-- the switch with the clock of the next slot
unfoldable pub raised : Switch → Switch
raised s = record { ports = s.ports; clock = s.clock + 1; sections = s.sections }

-- the switch when the records of a slot have come, with the clock of the next slot
unfoldable pub arrived : Switch → List Arrival → Switch
arrived s records =
    record { ports = s.ports; clock = s.clock + 1; sections = arrive (coming s records) s.sections }

-- the records of a slot may come: the table is sound, the clock is not at its end, and no record has a fault
pub record Arriving (table : List ℕ) (records : List Arrival) : Type 0 where
  pub sound : IsTable table
  pub early : clock_in table < clock_end
  pub clear : first_fault (ports_in table) (cells (state_of table)) (coming (state_of table) records) ≡ none

-- the cell of a record may enter a table whose clock has risen: its input has room for it, the record fits an entry, and
-- the switch is sound then, as the record's numbers have 32 bits
pub record MayEnter (a : Arrival) (table : List ℕ) : Type 0 where
  pub sound : IsTable table
  pub risen : 0 < clock_in table
  pub input : a.input < ports_in table
  pub room : count_in table a.input < section_room
  pub output : a.output < 256
  pub flow : a.flow < 256
  pub next : arrival_fits a ≡ true → sound_switch (entered (accepted (clock_in table - 1) a) (state_of table)) ≡ true

-- how many entries of a section stand before a new cell
unfoldable pub enter_place : Cell → List Entry → ℕ
enter_place c [] = 0
enter_place c (e ∷ es) = elim (some? (in_list_of c) (e ∷ es)) [ true ↦ suc (enter_place c es) | false ↦ 0 ]

-- the bytes from `at` up to `end` copied so many places up
unfoldable pub moved_up : ℕ → ℕ → ℕ → List ℕ → List ℕ
moved_up at end size bs = take (at + size) bs ++ (take (end - at) (drop at bs) ++ drop (end + size) bs)

-- the sets of an array, that of an input opened at a position, which is then a member or not
abbrev pub opened_with : Bool → List ℕ → ℕ → ℕ → List ℕ
opened_with member sets input j =
    let freed = opened (get_or sets input 0) j in
    set sets input (cond member (with_one freed j) freed)
