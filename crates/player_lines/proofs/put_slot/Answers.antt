-- The line of the slot, and the departures behind it.
use Rattle.std.proofs.Common.{arith}
use Rattle.trace.specs.declared.Key.TheVariants.{Slot}
use Rattle.trace.specs.Ascii.{ascii}
use Rattle.trace.specs.Line.{key_name, key_text}
use Rattle.trace.proofs.Lengths.{length-line-le}
use Rattle.trace.proofs.Tests.{fits32-i}
use Rattle.layout.proofs.Number.{bytes?-i}
use Rattle.player_lines.proofs.Lines.{wrote-two}
use Rattle.player_lines.proofs.Sent.{departures-le}
use Rattle.player_lines.proofs.put_slot.Goals as goal

pub put_departures-requires : goal.put_departures-requires
unfolding key_text key_name ascii
put_departures-requires c =
    let size = length-line-le Slot c.args.clock (fits32-i _ (omega arith)) in
    (omega (arith, size, c.put_line-at.auto.out, c.put_line-at.ensures.ends.place), c.requires.1)

pub returns : goal.returns
unfolding key_text key_name ascii
returns c =
    let bytes = bytes?-i c.args.answer.now (λ i. (c.type_inv.answer i).fits) in
    let size = length-line-le Slot c.args.clock (fits32-i _ (omega arith)) in
    let few = departures-le 16 c.args.answer.now bytes c.requires.1 in
    wrote-two (omega (arith, size, few, c.requires.0)) (omega arith) c.put_line-at.ensures c.put_departures.ensures
