-- The sections of a table whose places stand in a column of their own, as they do during the phases.
use Rattle.std.specs.Prelude.{ℕ, ◌*◌, List, map, get_or}
use Rattle.laws.specs.Lists.{numbers_from, up_to}
use Rattle.cell.specs.Limits.{section_room}
use Rattle.model.specs.State.{Entry}
use Rattle.layout.specs.Entry.{entry_at, count_in}
use Rattle.layout.specs.Table.{place_of}
use Rattle.layout.specs.Code.{ports_in}

unfoldable pub entry_placed : List ℕ → List ℕ → ℕ → Entry
entry_placed table places k = record { cell = (entry_at table k).cell; place = place_of (get_or places k 0) }

unfoldable pub section_placed : List ℕ → List ℕ → ℕ → List Entry
section_placed table places input =
    map (entry_placed table places) (numbers_from (section_room * input) (count_in table input))

unfoldable pub sections_placed : List ℕ → List ℕ → List (List Entry)
sections_placed table places = map (section_placed table places) (up_to (ports_in table))
