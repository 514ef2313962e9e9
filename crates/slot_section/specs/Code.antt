-- What is asked of the records of one input's section, as the code asks it.
use Rattle.std.specs.Prelude.{ℕ, ◌+◌, ◌-◌, ◌/◌, ◌%◌, ◌<◌, Bool, true, false, cond, not, ◌&&◌, ◌≡◌, List, map, ltb, eqb, length, get_or, replicate}
use Rattle.laws.specs.Lists.{pairwise, none?, up_to}
use Rattle.sets.specs.Sets.{set_from, members, has, set_of}
use Rattle.cell.specs.Flow.{same_flow}
use Rattle.cell.specs.Limits.{port_limit, section_room, flow_in_range}
use Rattle.model.specs.State.{Entry}
use Rattle.model.specs.Sound.{sound_entry, other_slot}
use Rattle.layout.specs.Number.{same_bytes}
use Rattle.layout.specs.Table.{entry_size, entry_bytes}
use Rattle.layout.specs.Entry.{entry_at}
use Rattle.layout.specs.Code.{record_at, place_byte_at, entries_between}

-- a record is the bytes of its entry, and the entry is sound
unfoldable pub is_entry : ℕ → ℕ → List ℕ → ℕ → Bool
is_entry ports clock bs k =
    same_bytes (entry_bytes (entry_at bs k)) (record_at bs k) && sound_entry ports clock (k / section_room) (entry_at bs k)

-- a record is not used
unfoldable pub is_unused : List ℕ → ℕ → Bool
is_unused bs k = same_bytes (replicate entry_size 0) (record_at bs k)

-- an entry goes to an output and is of a flow that there can be
unfoldable pub in_range : Entry → Bool
in_range e = ltb e.cell.output port_limit && flow_in_range e.cell.flow

-- an entry goes to an output of the switch and came before the clock
unfoldable pub in_reach : ℕ → ℕ → Entry → Bool
in_reach ports clock e = ltb e.cell.output ports && ltb e.cell.slot clock

------------------------------------------------------------------------
-- one pass over a section

-- the two digits of a record's place
unfoldable pub low_place : List ℕ → ℕ → Bool
low_place bs k = eqb (place_byte_at bs k % 2) 1

unfoldable pub high_place : List ℕ → ℕ → Bool
high_place bs k = eqb (place_byte_at bs k / 2 % 2) 1

-- what a pass over the records from one up to another finds, where each is an entry: the sets of their places' digits,
-- and no two entries of one slot unless `again`
pub record Collected (bs : List ℕ) (from to : ℕ) (again : Bool) (low high : ℕ) : Type 0 where
  pub lows : low ≡ set_from (low_place bs) from (to - from)
  pub highs : high ≡ set_from (high_place bs) from (to - from)
  pub slots : again ≡ false → pairwise other_slot (entries_between bs from to) ≡ true

-- the marks, one for each byte, are all below this one
pub record MarksBelow (mark : ℕ) (marks : List ℕ) : Type 0 where
  pub size : length marks ≡ 256
  pub each : (n : ℕ) → get_or marks n 0 < mark

------------------------------------------------------------------------
-- what is asked of the entries at a set of positions together

-- the entries at a set of positions of a section
unfoldable pub entries_in : List ℕ → ℕ → ℕ → List Entry
entries_in bs first set = map (λ j. entry_at bs (first + j)) (members set)

-- two entries go to different outputs
unfoldable pub other_output : Entry → Entry → Bool
other_output e f = not (eqb e.cell.output f.cell.output)

-- an entry breaks its flow: the one before it is of its flow and does not go first, or its flow was met before
unfoldable pub breaks_flow : Bool → Bool → Bool → Bool
breaks_flow same early met = cond same early met

-- of the entries at a set of positions of a section: one that none of its flow stands before
unfoldable pub is_first_of_flow : List ℕ → ℕ → ℕ → ℕ → Bool
is_first_of_flow bs first set j =
    has set j
    && none? (λ a. has set a && same_flow (entry_at bs (first + a)).cell (entry_at bs (first + j)).cell) (up_to j)

unfoldable pub heads_in : List ℕ → ℕ → ℕ → ℕ
heads_in bs first set = set_of (is_first_of_flow bs first set)
