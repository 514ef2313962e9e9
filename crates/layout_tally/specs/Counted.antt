-- Scope 2.8: what a slot call makes of the tally, as the code says what came of the slot.
use Rattle.std.specs.Prelude.{ℕ, Bool, true, false}
use Rattle.cell.specs.declared.Tally.{Tally}
use Rattle.model.specs.Tally.{after_run, after_refused}

unfoldable pub counted_as : Bool → ℕ → ℕ → Tally → Tally
counted_as true arrivals departures t = after_run arrivals departures t
counted_as false arrivals departures t = after_refused t
