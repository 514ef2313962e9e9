-- Of none at first.
use Rattle.slot_loading.proofs.Buffers.{best_none}
use Rattle.slot_view.specs.CodeView.{places_in}
use Rattle.slot_view.proofs.Own.{table-readable}
use Rattle.oq_slot.proofs.best_of_each.Goals as goal

pub ports_of-ports-requires : goal.ports_of-ports-requires
ports_of-ports-requires c = (table-readable _ c.requires.0).size

pub loop-input-init : goal.loop-input-init
loop-input-init c = best_none c.args.table.now (places_in c.args.table.now)
