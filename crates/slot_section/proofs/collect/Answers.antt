use Rattle.std.proofs.Common.{◌^◌, ◌<◌, sym, ◌∙◌, ap, arith}
use Rattle.layout.specs.Number.{word}
use Rattle.slot_section.proofs.Collecting.{collecting-start, collecting-room, collecting-stop, collecting-all, collecting-next}
use Rattle.slot_section.proofs.collect.Goals as goal
use Rattle.slot_section.proofs.collect.Goals.{In-loop-k}

-- the sets have room for one position more
room : (c : In-loop-k) → (c.loop-k.low < 2 ^ 63) × (c.loop-k.high < 2 ^ 63)
room c =
    collecting-room _ _ _ _ _ _ _ _ _ _ _ _ c.loop-k.invariant c.loop-k-test.true c.requires.bytes_len.3

pub loop-k-init : goal.loop-k-init
loop-k-init c =
    let a = c.args in
    collecting-start a.ports a.clock a.bytes.now a.from a.to a.mark a.marks.now c.requires.bytes_len.1
    c.requires.ports_le_port_limit.1

pub returns-then-not-in_reach-clause-entries : goal.returns-then-not-in_reach-clause-entries
returns-then-not-in_reach-clause-entries c =
    let pre = c.requires.bytes_len in
    collecting-stop _ _ _ _ _ _ _ c.type_inv.bytes pre.0 c.requires.ports_le_port_limit.0 pre.2 _ _ _ _ _
    c.loop-k.invariant c.loop-k-test.true (sym c.in_reach.ensures ∙ c.if-not-in_reach.true)

pub push-low-requires : goal.push-low-requires
push-low-requires c = (room (goal.at.push-low-requires c).In-loop-k).0

pub push-high-requires : goal.push-high-requires
push-high-requires c = (room (goal.at.push-high-requires c).In-loop-k).1

pub loop-k-preserved : goal.loop-k-preserved
loop-k-preserved c =
    rw (c.push-low.ensures, c.push-high.ensures)
    (collecting-next _ _ _ _ _ _ _ _ _ _ _ _ c.loop-k.invariant c.loop-k-test.true
    (sym c.in_reach.ensures ∙ c.if-not-in_reach.false) c.read_u32-bits.result
    (c.read_u32-bits.ensures ∙ ap (word c.args.bytes.now) c.start_of.ensures) c.slot_byte_of-byte.result
    c.slot_byte_of-byte.ensures (omega arith) c.place_of-place.result c.place_of-place.ensures.0)

pub returns-then-not-plain-placed-clause-entries : goal.returns-then-not-plain-placed-clause-entries
returns-then-not-plain-placed-clause-entries c =
    let a = c.args in
    let pre = c.requires.bytes_len in
    sym (rw (c.size.ensures, c.either.ensures) at c.if-not-plain-placed.true)
    ∙ collecting-all _ _ _ _ _ _ _ c.type_inv.bytes pre.0 c.requires.ports_le_port_limit.0 pre.2 _ _ _ _ _
    c.loop-k.invariant pre.3 c.loop-k-test.false

pub returns-clause-entries : goal.returns-clause-entries
returns-clause-entries c =
    let a = c.args in
    let pre = c.requires.bytes_len in
    sym (rw (c.size.ensures, c.either.ensures) at c.if-not-plain-placed.false)
    ∙ collecting-all _ _ _ _ _ _ _ c.type_inv.bytes pre.0 c.requires.ports_le_port_limit.0 pre.2 _ _ _ _ _
    c.loop-k.invariant pre.3 c.loop-k-test.false
