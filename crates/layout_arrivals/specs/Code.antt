-- A record of lent arrivals by its place.
use Rattle.std.specs.Prelude.{ℕ, ◌*◌, List, take, drop}
use Rattle.cell.specs.declared.Arrival.{Arrival}
use Rattle.layout.specs.Arrivals.{arrival_size, arrival_of}

-- record k of the arrivals
unfoldable pub arrival_at : List ℕ → ℕ → Arrival
arrival_at arrivals k = arrival_of (take arrival_size (drop (arrival_size * k) arrivals))
