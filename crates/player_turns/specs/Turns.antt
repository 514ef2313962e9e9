-- The player as code: which switch plays, where the player stands, what a turn asks, and what it leaves.
--     machine_of                      the switch of an engine, as the player sees it
--     TableOf                         the tables that the code keeps of it
--     standing                        where the player stands, by its stage, the number of the next line and the bytes of the table
--     line_at                         the number of the next line, as it is kept between turns
--     Stands                          what a turn asks of these
--     table_then, table_after_turns   the table after a turn, and after turns
--     Left, Took                      what a turn leaves, and what turns leave
use Rattle.std.specs.Prelude.{ℕ, zero, suc, ◌+◌, ◌*◌, ◌-◌, ◌≤◌, ◌<◌, List, [], ◌∷◌, Bool, true, ◌⊎◌, ◌≡◌, length, drop}
use Rattle.model.specs.Oq.{all_buffered}
use Rattle.model.specs.State.{Switch}
use Rattle.trace.specs.Contents.{block_lines}
use Rattle.layout.specs.Entry.{clock_in}
use Rattle.layout.specs.Table.{IsTable, encode, state_of, table_size}
use Rattle.player_turns.specs.declared.Engine.{Engine}
use Rattle.player_turns.specs.declared.Engine.TheVariants.{Crossbar, Oq}
use Rattle.player_turns.specs.declared.Stage.{Stage}
use Rattle.player_turns.specs.declared.Stage.TheVariants.{Opening, Playing, Ended, TurnedBack}
use Rattle.player_text.specs.Player.{Machine, crossbar, oq}
use Rattle.player_lines.specs.Writing.{turn_room, Wrote}
use Rattle.player_text.specs.Turn.{Standing, opening, playing, ended, turned_back, Turn, turn, turns}

unfoldable pub machine_of : Engine → Machine Switch
machine_of Crossbar = crossbar
machine_of Oq = oq

-- both keep the table of a sound switch; the cells of the output-queued switch all wait in buffers
unfoldable pub TableOf : Engine → List ℕ → Type 0
TableOf Crossbar table = IsTable table
TableOf Oq table = IsTable table × (all_buffered (state_of table) ≡ true)

unfoldable pub standing : Stage → ℕ → List ℕ → Standing
standing Opening l table = opening
standing Playing l table = playing l (state_of table)
standing Ended l table = ended
standing TurnedBack l table = turned_back

-- the number of the next line, where the player stands; at an end there is none, and 0 stands for it
unfoldable pub line_at : Standing → ℕ
line_at opening = 1
line_at (playing l s) = l
line_at ended = 0
line_at turned_back = 0

-- The table has its size, and while the player plays it is a table of the engine. A block has at most 81 lines
-- and moves the clock on by one: so a line's number stays far below the largest of 64 bits.
pub record Stands (engine : Engine) (stage : Stage) (l : ℕ) (table : List ℕ) : Type 0 where
  pub size : length table ≡ table_size
  pub number : l ≡ line_at (standing stage l table)
  pub good : stage ≡ Playing → TableOf engine table
  pub few : stage ≡ Playing → l ≤ 3 + block_lines * clock_in table

-- the table once the player stands there: that of its switch; before the header and at the end it is kept
unfoldable pub table_then : Standing → List ℕ → List ℕ
table_then opening table = table
table_then (playing l s) table = encode s
table_then ended table = table
table_then turned_back table = table

-- the same after turns
unfoldable pub table_after_turns : Engine → ℕ → Bool → Standing → List ℕ → List ℕ → List ℕ
table_after_turns engine zero last s t table = table
table_after_turns engine (suc most) last s t table =
    let x = turn (machine_of engine) last s t in
    elim x.written [
      | [] ↦ table
      | b ∷ w ↦ table_after_turns engine most last x.after x.left (table_then x.after table)
    ]

-- What is left after `turn`, with the table `then`: what was written, how much of the text was taken, where the player
-- stands.
pub record Left (engine : Engine) (turn : Turn) (then text buffer table' buffer' : List ℕ) (stage : Stage) (l taken n : ℕ)
    : Type 0 where
  pub wrote : Wrote turn.written buffer buffer' n
  pub used : taken ≡ length text - length turn.left
  pub left : turn.left ≡ drop taken text
  pub after : standing stage l table' ≡ turn.after
  pub stands : Stands engine stage l table'
  pub table : table' ≡ then

-- What turns leave, one after the other. How many they are is the program's choice, but it may stop only where the next
-- one would write nothing, or where the buffer may be too short for it.
pub record Took (engine : Engine) (last : Bool) (s : Standing) (text table buffer table' buffer' : List ℕ) (stage : Stage)
    (l taken n : ℕ) : Type 0 where
  pub many : ℕ
  pub left : Left engine (turns (machine_of engine) many last s text) (table_after_turns engine many last s text table) text
      buffer table' buffer' stage l taken n
  pub stopped : ((turn (machine_of engine) last (turns (machine_of engine) many last s text).after
      (turns (machine_of engine) many last s text).left).written ≡ [])
      ⊎ (length buffer - n < turn_room)
