-- The text in the window is not longer than it, and the player stands where the next turn takes it up.
use Rattle.std.proofs.Common.{◌≡◌, ◌≤◌, length}
use Rattle.player_turns.specs.Turns.{Stands}
use Rattle.player.proofs.Player.take_rounds.Given as goal

abbrev pub invariant-rounds : goal.invariant-rounds
invariant-rounds l =
    (l.filled ≤ 65536) × (length l.window ≡ 65536) × (length l.out ≡ 65536)
    × Stands l.self.engine l.stage l.line l.table
