-- `show_apart::rehearsal::show_made` is safe: there are at most as many returns as calls.
use Rattle.std.proofs.Common.{◌≤◌}
use Rattle.show_apart.proofs.rehearsal.show_made.Given as goal

abbrev pub invariant-loop-number : goal.invariant-loop-number
invariant-loop-number l = l.returns ≤ l.number
