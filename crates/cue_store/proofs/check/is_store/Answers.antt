-- Each rule in turn: one that is broken, or none.
use Rattle.std.proofs.Common.{◌∙◌, sym, arith}
use Rattle.model.specs.Cues.{cue_limit}
use Rattle.layout.specs.Cues.{is_store}
use Rattle.layout_table.proofs.Places.{known_bytes}
use Rattle.slot_section.proofs.Walks.{each-stop, each_next, each-end}
use Rattle.cue_store.specs.Code.{is_place}
use Rattle.cue_store.proofs.Accepted.{other-size, other-header, places-left}
use Rattle.cue_store.proofs.check.is_store.Goals as goal

pub returns-then-store-ne-STORE_BYTES : goal.returns-then-store-ne-STORE_BYTES
returns-then-store-ne-STORE_BYTES c = sym (other-size c.args.store.now c.if-store-ne-STORE_BYTES.true)

pub returns-then-not-is_header : goal.returns-then-not-is_header
returns-then-not-is_header c =
    sym (other-header c.args.store.now (sym c.is_header.ensures ∙ c.if-not-is_header.true))

pub loop-k-init : goal.loop-k-init
loop-k-init c =
    let store = c.args.store.now in
    places-left store (known_bytes store c.type_inv.store) c.if-store-ne-STORE_BYTES.false
    (sym c.is_header.ensures ∙ c.if-not-is_header.false)

pub returns-then-not-is_place : goal.returns-then-not-is_place
returns-then-not-is_place c =
    let store = c.args.store.now in
    each-stop (is_place store) c.loop-k.k cue_limit (is_store store) c.loop-k.invariant (omega arith)
    (sym c.is_place.ensures ∙ c.if-not-is_place.true)

pub loop-k-preserved : goal.loop-k-preserved
loop-k-preserved c =
    let store = c.args.store.now in
    each_next (is_place store) c.loop-k.k cue_limit (is_store store) c.loop-k.invariant (omega arith)
    (sym c.is_place.ensures ∙ c.if-not-is_place.false)

pub returns : goal.returns
returns c =
    let store = c.args.store.now in
    each-end (is_place store) c.loop-k.k cue_limit (is_store store) c.loop-k.invariant (omega arith)
