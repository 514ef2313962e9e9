-- Entry by entry, those passed are looked at for their outputs (proofs/Choosing).
use Rattle.slot_loading.specs.Code.{BestBelow}
use Rattle.slot_view.specs.CodeView.{places_in}
use Rattle.oq_slot.proofs.choose_from.Given as goal

abbrev pub invariant-loop-k : goal.invariant-loop-k
invariant-loop-k l = BestBelow l.table (places_in l.table) l.k l.best l.rivals
