-- The entries passed are in the sets of their places' digits (proofs/Sorting).
use Rattle.std.proofs.Common.{◌≡◌, ◌+◌, ◌*◌}
use Rattle.layout.specs.Entry.{count_in}
use Rattle.slot_loading.proofs.Sorting.{Sorting}
use Rattle.slot_loading.proofs.sort.Given as goal

abbrev pub invariant-loop-k : goal.invariant-loop-k
invariant-loop-k l =
    record {
      ends : l.initial.k ≡ 64 * l.input + count_in l.table l.input;
      passed : Sorting l.table (64 * l.input) l.initial.k l.low l.high l.k;
    }
