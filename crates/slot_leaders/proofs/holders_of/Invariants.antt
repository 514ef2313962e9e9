-- The inputs from here on that have the key, counted from this one.
use Rattle.std.proofs.Common.{◌≡◌, ◌-◌}
use Rattle.sets.specs.Sets.{set_from}
use Rattle.slot_leaders.specs.CodeKeys.{has_key}
use Rattle.slot_leaders.proofs.holders_of.Given as goal

abbrev pub invariant-loop-input : goal.invariant-loop-input
invariant-loop-input l = l.holders ≡ set_from (has_key l.row l.key) l.input (16 - l.input)
