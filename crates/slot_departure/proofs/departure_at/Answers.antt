-- None, or the cell of the entry.
use Rattle.std.proofs.Common.{◌∙◌, ap, sym}
use Rattle.std.proofs.Math.Option.{some}
use Rattle.slot_departure.proofs.Sending.{departure_at-none, departure_at-some}
use Rattle.slot_departure.proofs.departure_at.Goals as goal

pub returns-then-number-ge-NOWHERE : goal.returns-then-number-ge-NOWHERE
returns-then-number-ge-NOWHERE c =
    sym (departure_at-none c.args.table.now c.args.number c.if-number-ge-NOWHERE.true)

pub returns : goal.returns
returns c =
    ap some c.cell_of.ensures ∙ sym (departure_at-some c.args.table.now c.args.number c.if-number-ge-NOWHERE.false)
