-- Rules 5 and 6 on numbers, one cell at a time: what the code writes when a cell moves. 1,024 stands for no cell; its
-- input would be 16 and its record past the end of the table, so that it changes no place, no list and no crosspoint.
--     left, left_heads           the lists and the heads without a head
--     entered table best k      the best of each output, where k may be a better one
--     straight_to, send_of, take_of     the cell that moves
--     Straight, Crossed, Taken       what its move leaves
use Rattle.std.specs.Prelude.{ℕ, ◌+◌, ◌*◌, ◌/◌, ◌%◌, ◌<◌, Bool, true, false, cond, ◌&&◌, ◌||◌, List, ◌≡◌, ltb, leb, eqb, get_or, set}
use Rattle.sets.specs.Sets.{positions, first_of}
use Rattle.sets.specs.Code.{with_one, without_one, from}
use Rattle.cell.specs.Limits.{section_room, port_limit}
use Rattle.layout.specs.Entry.{entry_at}
use Rattle.layout.specs.Code.{record_start}
use Rattle.layout_table.specs.CodeEntries.{flow_word, nowhere, better_of}
use Rattle.slot_view.specs.CodeView.{cross_with}
use Rattle.slot_view.specs.CodeViewed.{no_key, key_at}

-- where the byte of an entry's place stands
abbrev pub place_at : ℕ → ℕ
place_at k = record_start k + 2

------------------------------------------------------------------------
-- lists

unfoldable pub left : List ℕ → ℕ → List ℕ
left listed k = set listed (k / section_room) (without_one (get_or listed (k / section_room) 0) (k % section_room))

-- the position behind j in a list
unfoldable pub next_of : ℕ → ℕ → ℕ
next_of list j = first_of (from (without_one list j) j)

-- the heads of a list that a head leaves: the next cell of the list is one, if it is of that head's flow
unfoldable pub heads_left : List ℕ → ℕ → ℕ → ℕ → ℕ
heads_left table list heads k =
    let others = without_one heads (k % section_room) in
    let next = next_of list (k % section_room) in
    cond
    (ltb next positions
    && eqb (flow_word (entry_at table (section_room * (k / section_room) + next)).cell) (flow_word (entry_at table k).cell))
    (with_one others next)
    others

unfoldable pub left_heads : List ℕ → List ℕ → List ℕ → ℕ → List ℕ
left_heads table listed heads k =
    set heads (k / section_room) (heads_left table (get_or listed (k / section_room) 0) (get_or heads (k / section_room) 0) k)

------------------------------------------------------------------------
-- the best of each output

unfoldable pub entered : List ℕ → List ℕ → ℕ → List ℕ
entered table best k =
    let output = (entry_at table k).cell.output in
    set best output (better_of table (get_or best output 0) k)

------------------------------------------------------------------------
-- what moves, as the code finds it

-- 5. what goes straight to an output: the match that it holds, unless that is the scheduled cell of its input
unfoldable pub straight_to : List ℕ → List ℕ → ℕ → ℕ
straight_to scheduled held output =
    let k = get_or held output 0 in
    cond (leb nowhere k || eqb k (get_or scheduled (k / section_room) 0)) nowhere k

-- the output that a straight cell marks
unfoldable pub mark_of : ℕ → ℕ → ℕ
mark_of k output = cond (ltb k nowhere) output port_limit

-- 5. what an input sends: its scheduled cell, unless one of its cells went straight
unfoldable pub send_of : List Bool → List ℕ → ℕ → ℕ
send_of straight scheduled input = cond (get_or straight input false) nowhere (get_or scheduled input 0)

-- 6. what an output takes: its best, unless a straight cell came to it
unfoldable pub take_of : List Bool → List ℕ → ℕ → ℕ
take_of straight best output = cond (get_or straight output false) nowhere (get_or best output 0)

-- a cell that moves goes to an output of the switch
abbrev pub Bound : List ℕ → ℕ → Type 0
Bound table k = k < nowhere → (entry_at table k).cell.output < port_limit

------------------------------------------------------------------------
-- one cell moves

-- to the buffer of its output
pub record Straight (table : List ℕ) (k output : ℕ) (table' listed listed' heads heads' best best' : List ℕ)
    (inputs inputs' outputs outputs' : List Bool) : Type 0 where
  pub to-buffer : table' ≡ set table (place_at k) 3
  pub left-list : listed' ≡ left listed k
  pub left-heads : heads' ≡ left_heads table listed heads k
  pub best-in : best' ≡ entered table best k
  pub from-input : inputs' ≡ set inputs (k / section_room) true
  pub to-output : outputs' ≡ set outputs (mark_of k output) true

-- to its crosspoint
pub record Crossed (table : List ℕ) (k : ℕ) (table' listed listed' heads heads' : List ℕ)
    (cross cross' keys keys' : List (List ℕ)) (best best' : List ℕ) : Type 0 where
  pub to-crosspoint : table' ≡ set table (place_at k) 2
  pub left-list : listed' ≡ left listed k
  pub left-heads : heads' ≡ left_heads table listed heads k
  pub filled : cross' ≡ cross_with cross (k / section_room) (entry_at table k).cell.output k
  pub keyed : keys' ≡ cross_with keys (entry_at table k).cell.output (k / section_room) (key_at table k)
  pub best-in : best' ≡ entered table best k

-- from its crosspoint to the buffer of its output
pub record Taken (table : List ℕ) (k output : ℕ) (table' : List ℕ) (cross cross' keys keys' : List (List ℕ))
    (best best' : List ℕ) : Type 0 where
  pub to-buffer : table' ≡ set table (place_at k) 3
  pub emptied : cross' ≡ cross_with cross (k / section_room) output nowhere
  pub unkeyed : keys' ≡ cross_with keys output (k / section_room) no_key
  pub best-in : best' ≡ entered table best k
