use Rattle.std.proofs.Common.{◌≡◌, ◌+◌, ◌*◌, ◌-◌, sym, ◌∙◌, arith}
use Rattle.slot_view.proofs.Placed.{decode-record, in_table-number}
use Rattle.slot_faults.proofs.Stored.{table-length, ports-below, count-below}
use Rattle.slot_arrival.proofs.Arriving.{place_none, place_found, above_more}
use Rattle.slot_arrival.proofs.new_place.Goals as goal

pub end_of-end-requires : goal.end_of-end-requires
end_of-end-requires c =
    (table-length _ c.requires.table, omega (arith, c.requires.input_bound, ports-below _ c.requires.table))

pub in_list-requires-clause-has_entry : goal.in_list-requires-clause-has_entry
in_list-requires-clause-has_entry c =
    let ports = ports-below _ c.requires.table in
    let few = count-below _ c.requires.table _ c.requires.input_bound in
    (table-length _ c.requires.table, omega (arith, c.requires.input_bound))

pub in_list-requires-clause-k_value : goal.in_list-requires-clause-k_value
in_list-requires-clause-k_value c =
    let few = count-below _ c.requires.table _ c.requires.input_bound in
    decode-record _ _ c.requires.table _
    (in_table-number _ _ c.requires.table _ _ c.requires.input_bound (omega arith)
    (omega (arith, c.loop-k.invariant.within)))

pub in_list-requires-clause-section_room_value : goal.in_list-requires-clause-section_room_value
in_list-requires-clause-section_room_value c =
    let few = count-below _ c.requires.table _ c.requires.input_bound in
    (omega (arith, c.loop-k.invariant.within), c.flow_word-flow.ensures, c.requires.output_bound.0)

pub returns-then-in_list : goal.returns-then-in_list
returns-then-in_list c =
    let back : c.loop-k.k ≡ c.loop-k.k - 1 + 1 = omega arith in
    sym back ∙ place_found _ c.requires.table _ c.requires.input_bound c.loop-k.k c.loop-k-test.true c.loop-k.invariant.within
    (sym c.in_list.ensures ∙ c.if-in_list.true) c.loop-k.invariant.none_behind

pub returns : goal.returns
returns c =
    place_none _ c.requires.table _ c.requires.input_bound
    (λ j a b. c.loop-k.invariant.none_behind j (omega arith) b)
