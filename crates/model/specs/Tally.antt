-- Scope 2.8: the tally, changed in place by each slot call.
use Rattle.std.specs.Prelude.{ℕ, ◌+◌, min, Bool, true, false, List, length}
use Rattle.std.proofs.Math.Option.{Option, none, some}
use Rattle.laws.specs.Lists.{count}
use Rattle.cell.specs.declared.Arrival.{Arrival}
use Rattle.cell.specs.declared.Cell.{Cell}
use Rattle.cell.specs.declared.Tally.{Tally}
use Rattle.model.specs.Checks.{Outcome, done, refused}
use Rattle.model.specs.Crossbar.{Course}

unfoldable pub no_tally : Tally
no_tally = record { run = 0; refused = 0; arrived = 0; departed = 0 }

-- each count is 64 bits wide; a count at its top stays there
abbrev pub count_top : ℕ
count_top = 18446744073709551615

unfoldable pub raise : ℕ → ℕ → ℕ
raise by n = min (n + by) count_top

unfoldable pub is_sent : Option Cell → Bool
is_sent none = false
is_sent (some c) = true

-- an accepted slot counts itself, its arrivals and its departures
unfoldable pub after_run : ℕ → ℕ → Tally → Tally
after_run arrivals departures t =
    record {
      run = raise 1 t.run;
      refused = t.refused;
      arrived = raise arrivals t.arrived;
      departed = raise departures t.departed;
    }

-- a refused one counts only itself
unfoldable pub after_refused : Tally → Tally
after_refused t =
    record { run = t.run; refused = raise 1 t.refused; arrived = t.arrived; departed = t.departed }

unfoldable pub tally_after : ℕ → Outcome Course → Tally → Tally
tally_after arrivals (done c) t = after_run arrivals (count is_sent c.departures) t
tally_after arrivals (refused r place) t = after_refused t

unfoldable pub arrival_count : Option (List Arrival) → ℕ
arrival_count none = 0
arrival_count (some records) = length records
