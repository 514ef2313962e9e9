-- The choices of a phase and of a departure as numbers of entries, input by input and output by output; 1,024 where
-- there is none.
use Rattle.std.specs.Prelude.{ℕ, ◌<◌, true, ◌≡◌, ◌⊎◌, List, map, eqb}
use Rattle.std.proofs.Math.Option.{Option, none, some}
use Rattle.laws.specs.Lists.{keep, first?}
use Rattle.cell.specs.Order.{over}
use Rattle.model.specs.Phase.{Waiting, best_for, Phase}
use Rattle.layout.specs.Entry.{entry_at}
use Rattle.layout.specs.Code.{ports_in}
use Rattle.layout_table.specs.CodeEntries.{nowhere}

unfoldable pub number_of : Option Waiting → ℕ
number_of none = nowhere
number_of (some e) = e.at

unfoldable pub of_input : ℕ → List Waiting → List Waiting
of_input input l = keep (λ e. eqb e.cell.input input) l

unfoldable pub to_output : ℕ → List Waiting → List Waiting
to_output output l = keep (λ e. eqb e.cell.output output) l

-- the scheduled cell of an input
unfoldable pub scheduled_of : Phase → ℕ → ℕ
scheduled_of p input = number_of (first? (of_input input p.scheduled))

-- the candidates of an input, in list order
unfoldable pub candidates_of : Phase → ℕ → List ℕ
candidates_of p input = map (λ e. e.at) (of_input input p.candidates)

-- the best of some crosspoint cells of an output
unfoldable pub best_of : ℕ → List Waiting → ℕ → ℕ
best_of ports crosspoints output = number_of (best_for ports crosspoints output)

------------------------------------------------------------------------
-- the choice of an output, cell by cell

-- one of some cells is over every other
pub record Best (table : List ℕ) (Among : ℕ → Type 0) (n : ℕ) : Type 0 where
  pub own : Among n
  pub upper : (k : ℕ) → Among k
      → (k ≡ n) ⊎ (over (ports_in table) (entry_at table n).cell (entry_at table k).cell ≡ true)

-- the choice among some cells: the best of them, or none where there are none
pub data BestAmong (table : List ℕ) (Among : ℕ → Type 0) (n : ℕ) : Type 0 where
  empty : n ≡ nowhere → ((k : ℕ) → Among k → ⊥) → BestAmong table Among n
  best : n < nowhere → Best table Among n → BestAmong table Among n
