-- The text that was there stays at the front, and the text that was read stands behind it.
use Rattle.std.proofs.Common.{◌≡◌, ◌≤◌, ◌-◌, length, take}
use Rattle.player.proofs.fill.Given as goal

abbrev pub invariant-loop-filled : goal.invariant-loop-filled
invariant-loop-filled l =
    (l.fn.filled ≤ l.filled) × (l.filled ≤ length l.initial.window) × (length l.window ≡ length l.initial.window)
    × (take l.fn.filled l.window ≡ take l.fn.filled l.initial.window)

abbrev pub decreases-loop-filled : goal.decreases-loop-filled
decreases-loop-filled l = length l.initial.window - l.filled
