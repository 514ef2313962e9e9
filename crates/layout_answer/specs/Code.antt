-- What the code of the answer's bytes writes and counts.
use Rattle.std.specs.Prelude.{ℕ, List}
use Rattle.laws.specs.Lists.{count}
use Rattle.cell.specs.declared.Cell.{Cell}
use Rattle.cell.specs.Limits.{port_limit}
use Rattle.model.specs.Tally.{is_sent}
use Rattle.layout.specs.Answer.{departures_in}

-- the cell whose fields stand where none is sent
unfoldable pub no_cell : Cell
no_cell = record { input = 0; output = 0; flow = 0; rank = 0; tag = 0; slot = 0 }

-- how many of the sixteen outputs send a cell
unfoldable pub sent_in : List ℕ → ℕ
sent_in answer = count is_sent (departures_in port_limit answer)
