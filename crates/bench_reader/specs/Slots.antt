-- The number of slots of a text that the grammar accepts, or another number.
use Rattle.std.specs.Prelude.{ℕ, length}
use Rattle.trace.specs.Reader.{Outcome, accepted, refused}

abbrev pub slots_or : ℕ → Outcome → ℕ
slots_or other (accepted c) = length c.slots
slots_or other (refused r line) = other
