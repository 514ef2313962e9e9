-- What proofs say of records whose ranks can be made, and of the PIFO switch below, whose ranks stand.
use Rattle.std.specs.Prelude.{Bool, not, ◌&&◌}
use Rattle.cell.specs.declared.Arrival.{Arrival}
use Rattle.model.specs.Checks.{Outcome, done, refused}
use Rattle.model.specs.Fair.{Memory, bad_weight, rank_end}
use Rattle.model.specs.Pifo.{Pifo, Sent}

-- neither 14 nor 15 stands against it
unfoldable pub rankable : Memory → Arrival → Bool
rankable m a = not (bad_weight m a) && not (rank_end m a)

-- a refused slot leaves clock and queues as they were
unfoldable pub pifo_after : Pifo → Outcome Sent → Pifo
pifo_after s (done r) = r.pifo
pifo_after s (refused r place) = s
