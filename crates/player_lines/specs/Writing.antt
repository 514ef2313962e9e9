-- What the player writes in a turn: how much at most, and where it stands.
use Rattle.std.specs.Prelude.{ℕ, ◌+◌, ◌*◌, List, ◌≡◌, length}
use Rattle.cell.specs.Limits.{port_limit}
use Rattle.layout.specs.Host.{filled}

-- what one turn can write: the line of a slot, 16 bytes, and sixteen departures of five lines, 76 bytes each
abbrev pub departure_room : ℕ
departure_room = 76

abbrev pub turn_room : ℕ
turn_room = 16 + port_limit * departure_room

-- a text at the start of a buffer, and how long it is
pub record Wrote (t buffer after : List ℕ) (n : ℕ) : Type 0 where
  pub bytes : after ≡ filled t buffer
  pub count : n ≡ length t
