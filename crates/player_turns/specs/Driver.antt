-- A driver of the player: whoever reads a trace, has turns taken on it and writes out what they wrote. It is said by what
-- `take_turns` promises, `Took`, alone, and so for either engine.
--     Held     what a driver keeps between its rounds
--     Round    one round
--     Run      rounds one after the other, up to the one that writes nothing
use Rattle.std.specs.Prelude.{ℕ, ◌≤◌, Bool, true, ◌⊎◌, ◌≢◌, ◌≡◌, length, take, drop}
use mathlib.Core.List.{List, [], ◌∷◌, ◌++◌, flatten}
use Rattle.trace.specs.Piece.{enough}
use Rattle.player_text.specs.Turn.{Standing}
use Rattle.player_turns.specs.declared.Engine.{Engine}
use Rattle.player_turns.specs.declared.Stage.{Stage}
use Rattle.player_turns.specs.declared.Stage.TheVariants.{Opening}
use Rattle.player_lines.specs.Writing.{turn_room}
use Rattle.player_turns.specs.Turns.{standing, Took}

-- the stage, the number of the next line, the table, and the text that is left
pub record Held : Type 0 where
  pub stage : Stage
  pub line : ℕ
  pub table : List ℕ
  pub text : List ℕ

-- before the first round
unfoldable pub fresh : List ℕ → Held
fresh table = record { stage = Opening; line = 1; table = table; text = [] }

-- where the player stands
unfoldable pub place : Held → Standing
place h = standing h.stage h.line h.table

-- A round: a piece of text comes behind that which is left; `last` says that no more will come. Text, table and a buffer
-- are lent, and turns are taken. The bytes that they wrote go out, and the text that they left is kept.
pub record Round (engine : Engine) (last : Bool) (piece : List ℕ) (h h' : Held) (out : List ℕ) : Type 0 where
  pub buffer : List ℕ
  pub buffer' : List ℕ
  pub taken : ℕ
  pub written : ℕ
  pub took : Took engine last (place h) (h.text ++ piece) h.table buffer h'.table buffer' h'.stage h'.line
      taken written
  pub goes_out : out ≡ take written buffer'
  pub kept : h'.text ≡ drop taken (h.text ++ piece)
  -- the buffer has room for a turn, and the text is the last or is enough for one
  pub room : turn_room ≤ length buffer
  pub there : (last ≡ true) ⊎ (enough ≤ length (h.text ++ piece))

-- A run: what is held before it, the pieces that come, what it writes and what is held after it.
pub data Run (engine : Engine) : Held → List (List ℕ) → List ℕ → Held → Type 0 where
  -- a round that writes nothing ends it, whatever would still come
  stops : {last : Bool} {piece : List ℕ} {ps : List (List ℕ)} {h h' : Held} → Round engine last piece h h' []
      → Run engine h (piece ∷ ps) [] h'
  -- a round that writes something, and the run from there; after the last of the text nothing comes
  goes : {last : Bool} {piece out w : List ℕ} {ps : List (List ℕ)} {h h' e : Held} → Round engine last piece h h' out
      → out ≢ [] → (last ≡ true → flatten ps ≡ []) → Run engine h' ps w e → Run engine h (piece ∷ ps) (out ++ w) e
