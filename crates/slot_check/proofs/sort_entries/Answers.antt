-- Each question in turn: one that is not answered, or all of them.
use Rattle.std.proofs.Common.{◌≡◌, is_some, sym, ◌∙◌, ap}
use Rattle.std.proofs.lemmas.Bool.{not-true, not-false}
use Rattle.laws.specs.Lists.{pairwise}
use Rattle.model.specs.Sound.{together, other_slot, other_crosspoint}
use Rattle.layout.specs.Code.{entries_between}
use Rattle.layout_table.proofs.Places.{known_bytes}
use Rattle.slot_section.specs.Code.{entries_in, other_output}
use Rattle.slot_check.proofs.Sections.{Found, found, asked-if, unsound-entry, unsound-slots, unsound-crosspoints, sound-flows}
use Rattle.slot_check.proofs.sort_entries.Goals as goal
use Rattle.slot_check.proofs.sort_entries.Goals.{In_ok-places, After-slots_differ, After-crosspoints_differ}

-- what the pass over the entries found
found-there : (c : In_ok-places)
    → let p = c.in_ok-places.places in
    Found c.args.bytes.now c.args.first c.args.end p.low p.high
found-there c =
    let pass = c.in_ok-places in
    let a = c.args in
    let pre = c.requires in
    found a.ports a.clock a.bytes.now (known_bytes a.bytes.now c.type_inv.bytes) pre.bytes_len.0 pre.bytes_len.1 a.first
    a.end pre.section_room_bound.0 pre.first_le_end.0 pre.first_le_end.1 pass.places.again pass.places.low
    pass.places.high pass.ensures.collected (sym pass.ensures.entries)

-- no two entries have one slot
slots : (c : After-slots_differ)
    → c.slots_differ.result ≡ pairwise other_slot (entries_between c.args.bytes.now c.args.first c.args.end)
slots c =
    c.slots_differ.ensures ∙ asked-if c.in_ok-places.places.again _ c.in_ok-places.ensures.collected.slots

-- no crosspoint holds two cells
crosspoints : (c : After-crosspoints_differ)
    → let p = c.in_ok-places.places in
    Found c.args.bytes.now c.args.first c.args.end p.low p.high
    → c.crosspoints_differ.result ≡ pairwise other_crosspoint (entries_between c.args.bytes.now c.args.first c.args.end)
crosspoints c there =
    c.crosspoints_differ.ensures
    ∙ ap (λ s. pairwise other_output (entries_in c.args.bytes.now c.args.first s)) c.minus-crossed.ensures
    ∙ there.crossed

pub returns-in_err-places-clause-sound_value : goal.returns-in_err-places-clause-sound_value
returns-in_err-places-clause-sound_value c =
    let a = c.args in
    ap is_some c.from_residual.ensures
    ∙ unsound-entry a.ports a.clock a.bytes.now a.first a.end (sym c.in_err-places.ensures.entries)

pub returns-then-not-slots_differ-clause-sound_value : goal.returns-then-not-slots_differ-clause-sound_value
returns-then-not-slots_differ-clause-sound_value c =
    let a = c.args in
    let at = goal.at.returns-then-not-slots_differ-clause-sound_value c in
    unsound-slots a.ports a.clock a.bytes.now a.first a.end
    (sym (slots at.After-slots_differ) ∙ c.if-not-slots_differ.true)

pub crosspoints_differ-requires-clause-crossed_value : goal.crosspoints_differ-requires-clause-crossed_value
crosspoints_differ-requires-clause-crossed_value c =
    let at = goal.at.crosspoints_differ-requires-clause-crossed_value c in
    rw c.minus-crossed.ensures (found-there at.In_ok-places).crossed-range

pub returns-then-not-crosspoints_differ-clause-sound_value : goal.returns-then-not-crosspoints_differ-clause-sound_value
returns-then-not-crosspoints_differ-clause-sound_value c =
    let a = c.args in
    let at = goal.at.returns-then-not-crosspoints_differ-clause-sound_value c in
    unsound-crosspoints a.ports a.clock a.bytes.now a.first a.end
    (sym (crosspoints at.After-crosspoints_differ (found-there at.In_ok-places)) ∙ c.if-not-crosspoints_differ.true)

pub flows_together-flows-requires-clause-listed_value : goal.flows_together-flows-requires-clause-listed_value
flows_together-flows-requires-clause-listed_value c =
    let at = goal.at.flows_together-flows-requires-clause-listed_value c in
    rw c.minus-listed.ensures (found-there at.In_ok-places).listed-range

pub returns-then-not-flows-clause-sound_value : goal.returns-then-not-flows-clause-sound_value
returns-then-not-flows-clause-sound_value c =
    let a = c.args in
    let at = goal.at.returns-then-not-flows-clause-sound_value c in
    let there = found-there at.In_ok-places in
    sym (not-true _ c.if-not-flows.true)
    ∙ c.flows_together-flows.ensures.by_index a.ports
    ∙ ap (λ s. together a.ports (entries_in a.bytes.now a.first s)) c.minus-listed.ensures
    ∙ ap (together a.ports) there.listed
    ∙ sound-flows a.ports a.clock a.bytes.now a.first a.end (sym c.in_ok-places.ensures.entries)
    (sym (slots at.After-slots_differ) ∙ c.if-not-slots_differ.false)
    (sym (crosspoints at.After-crosspoints_differ there) ∙ c.if-not-crosspoints_differ.false)

pub returns-clause-sound_value : goal.returns-clause-sound_value
returns-clause-sound_value c =
    let a = c.args in
    let at = goal.at.returns-clause-sound_value c in
    let there = found-there at.In_ok-places in
    sym (not-false _ c.if-not-flows.false)
    ∙ c.flows_together-flows.ensures.by_index a.ports
    ∙ ap (λ s. together a.ports (entries_in a.bytes.now a.first s)) c.minus-listed.ensures
    ∙ ap (together a.ports) there.listed
    ∙ sound-flows a.ports a.clock a.bytes.now a.first a.end (sym c.in_ok-places.ensures.entries)
    (sym (slots at.After-slots_differ) ∙ c.if-not-slots_differ.false)
    (sym (crosspoints at.After-crosspoints_differ there) ∙ c.if-not-crosspoints_differ.false)

pub returns-clause-sorts : goal.returns-clause-sorts
returns-clause-sorts c =
    let at = goal.at.returns-clause-sorts c in
    rw (c.flows_together-flows.ensures.heads_value, c.minus-listed.ensures, c.minus-crossed.ensures, c.both.ensures)
    ((found-there at.In_ok-places).sorts c.requires.section_room_bound.1)
