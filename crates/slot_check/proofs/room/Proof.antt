-- An input of the switch has room for 64 entries, another for none.
use mathlib.Core.Path.{sym}
use Rattle.slot_check.proofs.Parts.{room_of-port, room_of-none}
use Rattle.slot_check.proofs.room.Statement.{statement}
use Rattle.slot_check.proofs.room.Tie as tie

returns : tie.Need-returns-then-input-ports
returns c = sym (room_of-port c.args.ports c.args.input c.if-input-ports.true)

returns-2 : tie.Need-returns-else-input-ports
returns-2 c = sym (room_of-none c.args.ports c.args.input c.if-input-ports.false)

pub room_spec : {M : Type 1} → statement M
room_spec = tie.close (tie.spec returns returns-2)
