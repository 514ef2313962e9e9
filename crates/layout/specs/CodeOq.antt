-- What the code asks and leaves of the output-queued switch's bytes.
use Rattle.std.specs.Prelude.{ℕ, ◌+◌, Bool, true, false, List}
use Rattle.std.proofs.Math.Option.{none, some}
use Rattle.cell.specs.Limits.{port_limit}
use Rattle.model.specs.Checks.{Outcome, done, refused}
use Rattle.model.specs.Oq.{Served}
use Rattle.layout.specs.Answer.{departures_bytes}
use Rattle.layout.specs.Host.{filled}
use Rattle.layout.specs.Oq.{oq_number_size, decode_oq}
use Rattle.layout.specs.Table.{table_size}

-- an older table
abbrev pub oq_table_size : ℕ
oq_table_size = oq_number_size + table_size

unfoldable pub is_oq_table : List ℕ → Bool
is_oq_table bs = elim (decode_oq bs) [ some s ↦ true | none ↦ false ]

-- the answer's buffer after a slot: the departures alone, or as it was
unfoldable pub oq_answer_after : List ℕ → Outcome Served → List ℕ
oq_answer_after answer (done d) = filled (departures_bytes port_limit d.departures) answer
oq_answer_after answer (refused r place) = answer
