-- What a phase asks of its choices, and what it leaves of the switch.
--     after_phase      the switch after a phase
--     Settled         the choices of the phase stand in the columns
--     OccupanciesOf   how crowded each output was in it
use Rattle.std.specs.Prelude.{ℕ, ◌<◌, ◌≡◌, List, length, get_or}
use Rattle.cell.specs.Limits.{port_limit}
use Rattle.model.specs.State.{Switch}
use Rattle.model.specs.Phase.{waiting, phase, moved}
use Rattle.model.specs.Crossbar.{occupancies}
use Rattle.slot_view.specs.CodeChoices.{scheduled_of}
use Rattle.slot_view.specs.CodeView.{waiting_in}
use Rattle.layout.specs.Code.{ports_in}
use Rattle.slot_steps.specs.CodeSteps.{straight_to}
use Rattle.slot_moves.specs.CodeMoves.{straight_of}

unfoldable pub after_phase : Switch → Switch
after_phase s =
    record { ports = s.ports; clock = s.clock; sections = moved (phase s.ports (waiting s.sections)) s.sections }

-- the scheduled cell of each input, and for each output the number of its match
pub record Settled (table scheduled held : List ℕ) : Type 0 where
  pub scheduled-size : length scheduled ≡ port_limit
  pub held-size : length held ≡ port_limit
  pub scheduled-is : (input : ℕ) → input < port_limit
      → get_or scheduled input 0 ≡ scheduled_of (phase (ports_in table) (waiting_in table)) input
  pub straight-is : (output : ℕ) → output < port_limit
      → straight_to scheduled held output ≡ straight_of (phase (ports_in table) (waiting_in table)) output

-- how many crosspoints of each output held a cell when it chose; 0 for an output that the switch does not have
abbrev pub OccupanciesOf : Switch → List ℕ → Type 0
OccupanciesOf s held =
    (output : ℕ) → output < port_limit
    → get_or held output 0 ≡ get_or (occupancies s.ports (phase s.ports (waiting s.sections))) output 0
