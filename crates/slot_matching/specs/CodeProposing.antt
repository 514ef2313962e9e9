-- What one proposal changes.
--     left    for each input the set of its candidates that were not refused
--     held    for each output the number of the cell that it holds, 1,024 for none
use Rattle.std.specs.Prelude.{ℕ, ◌/◌, ◌%◌, ◌≤◌, ◌<◌, true, false, ◌≡◌, List, get_or, set}
use Rattle.sets.specs.Sets.{head_or}
use Rattle.sets.specs.Code.{without_one}
use Rattle.cell.specs.Limits.{section_room}
use Rattle.cell.specs.Order.{over}
use Rattle.layout.specs.Code.{ports_in}
use Rattle.layout_table.specs.CodeEntries.{nowhere}
use Rattle.slot_matching.specs.CodeFound.{numbers_in, cell_at, output_at}

-- the first candidate of input i
unfoldable pub next_in : ℕ → ℕ → ℕ
next_in set i = head_or nowhere (numbers_in set i)

-- the candidates of its input without number k, and all candidates without it
unfoldable pub rest : List ℕ → ℕ → ℕ
rest left k = without_one (get_or left (k / section_room) 0) (k % section_room)

unfoldable pub without : List ℕ → ℕ → List ℕ
without left k = set left (k / section_room) (rest left k)

-- k is refused, and its input goes on
pub record Refused (left : List ℕ) (k : ℕ) (left' : List ℕ) (next : ℕ) : Type 0 where
  pub others : left' ≡ without left k
  pub goes_on : next ≡ next_in (rest left k) (k / section_room)

-- k is proposed to its output
module _ (table left held : List ℕ) (k : ℕ) where
  abbrev pub holder : ℕ
  holder = get_or held (output_at table k) 0

  abbrev pub taken : List ℕ
  taken = set held (output_at table k) k

  pub data Proposed (left' held' : List ℕ) (next : ℕ) : Type 0 where
    kept : nowhere ≤ holder → left' ≡ left → held' ≡ taken → next ≡ nowhere → Proposed left' held' next
    wins : holder < nowhere → over (ports_in table) (cell_at table k) (cell_at table holder) ≡ true
        → held' ≡ taken → Refused left holder left' next → Proposed left' held' next
    loses : holder < nowhere → over (ports_in table) (cell_at table k) (cell_at table holder) ≡ false
        → held' ≡ held → Refused left k left' next → Proposed left' held' next
