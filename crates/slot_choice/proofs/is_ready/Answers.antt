-- The crosspoint of a head is empty, by the key there.
use Rattle.slot_choice.proofs.Walk.{ready-is}
use Rattle.slot_choice.proofs.is_ready.Goals as goal

pub returns : goal.returns
returns c = ready-is c.requires.keys_known c.requires.cell_at c.output_of-output.ensures
