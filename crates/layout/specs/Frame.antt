-- Whether bytes are the table of a switch with its memory. Its frame is looked at apart: the length, the number, N and the
-- marks. Then come the cells; the ranks remembered may be any.
use Rattle.std.specs.Prelude.{ℕ, ◌+◌, Bool, true, false, ◌&&◌, List, eqb, length}
use Rattle.std.proofs.Math.Option.{none, some}
use Rattle.cell.specs.Limits.{ports_in_range}
use Rattle.model.specs.State.{Switch}
use Rattle.model.specs.Sound.{sound}
use Rattle.model.specs.Fair.{marks_in_range}
use Rattle.layout.specs.Fair.{fair_number, core_start, memory_start, fair_size, decode_with}
use Rattle.layout.specs.Number.{word}

-- where N stands
abbrev pub ports_start : ℕ
ports_start = core_start + 4

unfoldable pub is_framed : ℕ → List ℕ → Bool
is_framed number bs =
    eqb (length bs) fair_size
    && (eqb (word bs 0) number
    && (ports_in_range (word bs ports_start) && marks_in_range (word bs ports_start) (word bs memory_start)))

-- whether bytes are the table, with this number, of a sound state
unfoldable pub is_table_with : ℕ → (Switch → Bool) → List ℕ → Bool
is_table_with number sound_core bs = elim (decode_with number sound_core bs) [ some x ↦ true | none ↦ false ]

abbrev pub is_fair_table : List ℕ → Bool
is_fair_table = is_table_with fair_number sound
