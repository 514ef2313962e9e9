-- No entry from k on is in the list and of the flow.
use Rattle.std.proofs.Common.{◌≡◌, ℕ, false, ◌+◌, ◌*◌, ◌≤◌, ◌<◌}
use Rattle.model.specs.Crossbar.{in_list_of}
use Rattle.layout.specs.Entry.{entry_at, count_in}
use Rattle.slot_arrival.proofs.new_place.Given as goal

abbrev pub invariant-loop-k : goal.invariant-loop-k
invariant-loop-k l =
    record {
      within : l.k ≤ 64 * l.c.input + count_in l.table l.c.input;
      none_behind : (j : ℕ) → l.k ≤ j → j < 64 * l.c.input + count_in l.table l.c.input
          → in_list_of l.c (entry_at l.table j) ≡ false;
    }
