-- The view of a table, which a slot makes once and keeps through its phases.
--     listed      for each input the positions of the cells in its list, as a set
--     heads       for each input those of its head cells
--     cross       the crosspoints, as View has them
--     keys        for each output and input the key of the cell at their crosspoint
--     best        for each output the best cell in its buffer
use Rattle.std.specs.Prelude.{ℕ, ◌+◌, ◌*◌, ◌<◌, Bool, true, cond, ◌&&◌, ◌≡◌, List, [], map, ltb, length, get_or, replicate}
use Rattle.laws.specs.Lists.{none?}
use Rattle.sets.specs.Sets.{set_from, members}
use Rattle.cell.specs.Flow.{same_flow}
use Rattle.cell.specs.Limits.{port_limit, section_room}
use Rattle.cell.specs.Order.{key}
use Rattle.model.specs.State.{is_listed, is_crossed, is_buffered}
use Rattle.model.specs.Phase.{Waiting, ahead, lists, phase}
use Rattle.layout.specs.Entry.{entry_at, count_in}
use Rattle.layout.specs.Table.{place_of}
use Rattle.layout_table.specs.CodeEntries.{nowhere}
use Rattle.slot_view.specs.CodeChoices.{BestAmong, candidates_of}
use Rattle.slot_view.specs.CodeScan.{some_urgent, Scheduled, Bests}
use Rattle.layout.specs.Code.{ports_in}
use Rattle.slot_view.specs.CodeView.{waiting_at, in_table, InTable, crosspoint_at, Square, Agrees, places_in, waiting_in}

------------------------------------------------------------------------
-- the lists

-- rule 1: a head is the first of its flow in an input's list
unfoldable pub is_head : List Waiting → Waiting → Bool
is_head all e = is_listed e.place && none? (λ f. same_flow f.cell e.cell && ahead f e) (lists all)

-- the positions of the cells in the list of an input, and of its heads
unfoldable pub listed_set : List ℕ → List ℕ → ℕ → ℕ
listed_set table places input =
    set_from (λ k. is_listed (place_of (get_or places k 0))) (section_room * input) (count_in table input)

unfoldable pub head_set : List ℕ → List ℕ → ℕ → ℕ
head_set table places input =
    set_from (λ k. is_head (in_table table places) (waiting_at table places k)) (section_room * input) (count_in table input)

pub record ListsOf (table places listed heads : List ℕ) : Type 0 where
  pub listed-size : length listed ≡ port_limit
  pub heads-size : length heads ≡ port_limit
  pub listed-at : (input : ℕ) → input < port_limit → get_or listed input 0 ≡ listed_set table places input
  pub heads-at : (input : ℕ) → input < port_limit → get_or heads input 0 ≡ head_set table places input

-- the positions of the cells of an input at crosspoints, and of those in buffers
unfoldable pub crossed_set : List ℕ → List ℕ → ℕ → ℕ
crossed_set table places input =
    set_from (λ k. is_crossed (place_of (get_or places k 0))) (section_room * input) (count_in table input)

unfoldable pub buffered_set : List ℕ → List ℕ → ℕ → ℕ
buffered_set table places input =
    set_from (λ k. is_buffered (place_of (get_or places k 0))) (section_room * input) (count_in table input)

-- the cells of each input by their places
pub record SetsOf (table places listed heads crossed buffered : List ℕ) : Type 0 where
  pub lists : ListsOf table places listed heads
  pub crossed-size : length crossed ≡ port_limit
  pub buffered-size : length buffered ≡ port_limit
  pub crossed-at : (input : ℕ) → input < port_limit → get_or crossed input 0 ≡ crossed_set table places input
  pub buffered-at : (input : ℕ) → input < port_limit → get_or buffered input 0 ≡ buffered_set table places input

------------------------------------------------------------------------
-- the crosspoints

-- above the key of every cell
abbrev pub no_key : ℕ
no_key = 18446744073709551615

-- the key of the cell with a number
unfoldable pub key_at : List ℕ → ℕ → ℕ
key_at table k = cond (ltb k nowhere) (key (entry_at table k).cell) no_key

-- output by output, the keys of the cells at the crosspoints
pub record Keyed (table : List ℕ) (cross keys : List (List ℕ)) : Type 0 where
  pub square : Square keys
  pub at : (input output : ℕ) → input < port_limit → output < port_limit
      → get_or (get_or keys output []) input 0 ≡ key_at table (crosspoint_at cross input output)

------------------------------------------------------------------------
-- the buffers

-- the entry with a number is a buffered cell that goes to an output
pub record Buffered (table places : List ℕ) (output k : ℕ) : Type 0 where
  pub entry : InTable table k
  pub place : is_buffered (place_of (get_or places k 0)) ≡ true
  pub goes : (entry_at table k).cell.output ≡ output

-- the best of them, output by output
pub record BestBuffered (table places best : List ℕ) : Type 0 where
  pub size : length best ≡ port_limit
  pub each : (output : ℕ) → output < port_limit → BestAmong table (Buffered table places output) (get_or best output 0)

------------------------------------------------------------------------
-- the view

-- what it is made of, on the places of a column
pub record ViewOf (table places listed heads : List ℕ) (cross keys : List (List ℕ)) (best : List ℕ) : Type 0 where
  pub lists : ListsOf table places listed heads
  pub square : Square cross
  pub agrees : Agrees table places cross
  pub keyed : Keyed table cross keys
  pub bests : BestBuffered table places best

-- the view of a table
abbrev pub Viewed : List ℕ → List ℕ → List ℕ → List (List ℕ) → List (List ℕ) → List ℕ → Type 0
Viewed table listed heads cross keys best = ViewOf table (places_in table) listed heads cross keys best

-- the part of it that is of crosspoints and buffers
pub record Occupied (table : List ℕ) (cross keys : List (List ℕ)) (best : List ℕ) : Type 0 where
  pub square : Square cross
  pub agrees : Agrees table (places_in table) cross
  pub keyed : Keyed table cross keys
  pub bests : BestBuffered table (places_in table) best

-- no cell is in the sets, and none at the crosspoints and in the buffers
pub record NoSets (listed heads crossed buffered : List ℕ) : Type 0 where
  pub no-lists : listed ≡ replicate port_limit 0
  pub no-heads : heads ≡ replicate port_limit 0
  pub no-crossed : crossed ≡ replicate port_limit 0
  pub no-buffered : buffered ≡ replicate port_limit 0

pub record Blank (cross keys : List (List ℕ)) (best : List ℕ) : Type 0 where
  pub no-crosspoints : cross ≡ replicate port_limit (replicate port_limit nowhere)
  pub no_keys : keys ≡ replicate port_limit (replicate port_limit no_key)
  pub no-buffers : best ≡ replicate port_limit nowhere

------------------------------------------------------------------------
-- the choices of a phase

-- whether a cell is urgent; the scheduled cell of each input; the candidates of each input, as a set of positions; and the
-- best crosspoint cell of each output
pub record Chosen (table : List ℕ) (cross : List (List ℕ)) (urgent : Bool) (scheduled candidates best : List ℕ) : Type 0 where
  pub urgent-is : urgent ≡ some_urgent (phase (ports_in table) (waiting_in table))
  pub scheduled-size : length scheduled ≡ port_limit
  pub schedules : Scheduled (phase (ports_in table) (waiting_in table)) port_limit scheduled
  pub candidates-size : length candidates ≡ port_limit
  pub candidates-are : (input : ℕ) → input < port_limit
      → map (λ j. section_room * input + j) (members (get_or candidates input 0))
      ≡ candidates_of (phase (ports_in table) (waiting_in table)) input
  pub bests : Bests table cross best
