-- The turns of the player, step by step.
--     Turned                             what one turn leaves
--     Closed                             what the last turn answers
--     table_taken, SlotLeft              what a slot leaves
--     slot_text, played_of, SlotPlayed   what a block's slot writes and answers
use Rattle.std.specs.Prelude.{ℕ, List, ◌++◌, ◌≡◌, length, take}
use Rattle.std.proofs.Math.Option.{Option}
use Rattle.cell.specs.declared.Cell.{Cell}
use Rattle.cell.specs.Checked.{Checked}
use Rattle.cell.specs.Limits.{port_limit}
use Rattle.model.specs.Checks.{Outcome, done, refused, refusal_of}
use Rattle.model.specs.State.{Switch}
use Rattle.trace.specs.declared.Key.TheVariants.{Slot}
use Rattle.trace.specs.Line.{line}
use Rattle.trace.specs.Lines.{departures_text, refusal_text}
use Rattle.layout.specs.Answer.{departures_bytes, departures_size}
use Rattle.layout.specs.Host.{filled}
use Rattle.layout.specs.Table.{encode}
use Rattle.player_turns.specs.declared.Engine.{Engine}
use Rattle.player_turns.specs.declared.Stage.{Stage}
use Rattle.player_turns.specs.declared.Played.{Played}
use Rattle.player_turns.specs.declared.Played.TheVariants.{Ran, Stopped}
use Rattle.player_text.specs.Player.{line_of}
use Rattle.player_text.specs.Turn.{Turn}
use Rattle.player_turns.specs.Turns.{table_then, Left}

-- what one turn leaves
abbrev pub Turned : Engine → Turn → List ℕ → List ℕ → List ℕ → List ℕ → List ℕ → Stage → ℕ → ℕ → ℕ → Type 0
Turned engine turn text table buffer table' buffer' stage l taken n =
    Left engine turn (table_then turn.after table) text buffer table' buffer' stage l taken n

-- The last turn, and each after it, answers the stage with the number of bytes written; no line is next.
pub record Closed (end : Stage) (w : ℕ) (stage : Stage) (l taken n : ℕ) : Type 0 where
  pub there : stage ≡ end
  pub none : l ≡ 0
  pub kept : taken ≡ 0
  pub count : n ≡ w

-- the table after a slot: that of its switch, or as it was
unfoldable pub table_taken : List ℕ → Outcome (List (Option Cell) × Switch) → List ℕ
table_taken table (done x) = encode x.1
table_taken table (refused r place) = table

-- what a slot leaves: its refusal, the table, and where it ran the departures, at the start of the answer
pub record SlotLeft (o : Outcome (List (Option Cell) × Switch)) (table : List ℕ) (checked : Checked) (table' answer' : List ℕ)
    : Type 0 where
  pub refusal : checked ≡ refusal_of o
  pub switch : table' ≡ table_taken table o
  pub departures : (x : List (Option Cell) × Switch) → o ≡ done x
      → take departures_size answer' ≡ departures_bytes port_limit x.0

-- what the slot of the block at line l comes to, as text
unfoldable pub slot_text : ℕ → ℕ → Outcome (List (Option Cell) × Switch) → List ℕ
slot_text clock l (refused r place) = refusal_text r (line_of l place)
slot_text clock l (done x) = line Slot clock ++ departures_text x.0

unfoldable pub played_of : ℕ → ℕ → Outcome (List (Option Cell) × Switch) → Played
played_of clock l (refused r place) = Stopped (length (slot_text clock l (refused r place)))
played_of clock l (done x) = Ran (length (slot_text clock l (done x)))

pub record SlotPlayed (o : Outcome (List (Option Cell) × Switch)) (clock l : ℕ) (table buffer table' buffer' : List ℕ)
    (r : Played) : Type 0 where
  pub result : r ≡ played_of clock l o
  pub bytes : buffer' ≡ filled (slot_text clock l o) buffer
  pub switch : table' ≡ table_taken table o
