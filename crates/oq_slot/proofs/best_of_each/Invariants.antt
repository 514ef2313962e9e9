-- Input by input, the cells passed are looked at for their outputs.
use Rattle.std.proofs.Common.{◌*◌}
use Rattle.slot_loading.specs.Code.{BestBelow}
use Rattle.slot_view.specs.CodeView.{places_in}
use Rattle.oq_slot.proofs.best_of_each.Given as goal

abbrev pub invariant-loop-input : goal.invariant-loop-input
invariant-loop-input l = BestBelow l.table (places_in l.table) (64 * l.input) l.best l.rivals
