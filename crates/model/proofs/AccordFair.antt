-- The definitions give the histories with fair outputs that were worked out by hand: before any law, as in Accord.
-- Assumes nothing.
use mathlib.Core.Bool.{true}
use mathlib.Core.List.{flatten}
use mathlib.Core.Path.{◌≡◌, refl}
use Rattle.laws.specs.Lists.{keep, some?, none?, all?, count, least, pairwise, update, first?, numbers_from, up_to}
use Rattle.laws.specs.Lists.{same_list}
use Rattle.cell.specs.Flow.{same_flow}
use Rattle.cell.specs.Limits.{fits32, ports_in_range}
use Rattle.cell.specs.Order.{in_turn, over}
use Rattle.cell.specs.Cell.{accepted, same_cell}
use Rattle.matching.specs.Matching.{proposed, round, rounds, settled, matched, proposals}
use Rattle.model.specs.State.{fresh, is_listed, is_crossed, is_buffered, cells}
use Rattle.model.specs.Checks.{no_such_port, no_such_flow, out_of_turn, falling_rank, full, fault}
use Rattle.model.specs.Phase.{number_from, number_sections, numbered, waiting, lists, crosspoints, same_input}
use Rattle.model.specs.Phase.{same_output, ahead, beats, among, same_crosspoint, heads, blocked, crosspoint_empty}
use Rattle.model.specs.Phase.{ready, scheduled, is_urgent, urgent, takes_part, candidates, straight, sent, pulled}
use Rattle.model.specs.Phase.{at_crosspoint, occupancy, output_choice, phase, place_sent, place_after, placed_by, moved}
use Rattle.model.specs.Crossbar.{in_list_of, new_entry, enter_after, enter, arrive, leaving, departures_of, without}
use Rattle.model.specs.Crossbar.{run}
use Rattle.model.specs.Cues.{no_cues, is_letter, well_named, first_place, is_free, is_named, set_cue, return_to}
use Rattle.model.specs.Fair.{weight_in_range, stride, flow_index, no_memory, is_fair, marks_in_range, sound_memory}
use Rattle.model.specs.Fair.{made_rank, make, bad_weight, rank_end, record_fault, record_fault_from, given_after}
use Rattle.model.specs.Fair.{left_after, remembered, marked, slot_of, after_of}
use Rattle.model.specs.Oq.{join_buffer, join_buffers, all_buffered, sound_oq, run_oq}
use Rattle.model.specs.Pifo.{fresh_pifo, queued, join, best, rest, run_pifo}
use Rattle.model.specs.Rehearsal.{begun, left, next}
use Rattle.model.specs.Rehearsals.{answers_with, same_held, held_name, holds, plays?, rehearsed_marked, free_places, a}
use Rattle.model.specs.Sound.{sound_entry, together, other_slot, other_crosspoint, sound_section, sound_sections, sound}
use Rattle.model.specs.Calls.{same_departure, crossbar_answers, departures_answer, pifo_answers, oq_answers}
use Rattle.model.specs.Calls.{crossbar_runs, pifo_runs, oq_runs, all_run_marked, enter_at, sections_from, switch_with}
use Rattle.model.specs.Calls.{arrival, cell, call, tables}
use Rattle.model.specs.FairRows.{first, second, two_inputs, weights, refused_forgets, two_flows, flow_of_output}
use Rattle.model.specs.FairRows.{all_run_from, remembering, left_at_end, given_past_end, given_to_end, near_end, below_waiting}
use Rattle.model.specs.FairRows.{full_input, wound_back, same_memory, other_words_stay, climbing, climb}

pub fair-rows-given :
    (two_inputs ≡ true)
    × (weights ≡ true)
    × (refused_forgets ≡ true)
    × (two_flows ≡ true)
    × (flow_of_output ≡ true)
    × (left_at_end ≡ true)
    × (given_past_end ≡ true)
    × (given_to_end ≡ true)
    × (near_end ≡ true)
    × (below_waiting ≡ true)
    × (full_input ≡ true)
    × (wound_back ≡ true)
    × (other_words_stay ≡ true)
unfolding flatten keep some? none? all? count least pairwise update first? numbers_from up_to same_list same_flow fits32 ports_in_range in_turn over accepted same_cell proposed
    round rounds settled matched proposals fresh is_listed is_crossed is_buffered cells no_such_port no_such_flow out_of_turn falling_rank full fault
    number_from number_sections numbered waiting lists crosspoints same_input same_output ahead beats among same_crosspoint heads blocked
    crosspoint_empty ready scheduled is_urgent urgent takes_part candidates straight sent pulled at_crosspoint occupancy output_choice phase place_sent place_after placed_by moved in_list_of new_entry
    enter_after enter arrive leaving departures_of without run no_cues is_letter well_named first_place is_free is_named set_cue return_to
    weight_in_range stride flow_index no_memory is_fair marks_in_range sound_memory made_rank make bad_weight rank_end record_fault record_fault_from given_after left_after remembered
    marked slot_of after_of join_buffer join_buffers all_buffered sound_oq run_oq fresh_pifo queued join best rest run_pifo begun left next
    answers_with same_held held_name holds plays? rehearsed_marked free_places a sound_entry together other_slot other_crosspoint sound_section sound_sections sound
    same_departure crossbar_answers departures_answer pifo_answers oq_answers crossbar_runs pifo_runs oq_runs all_run_marked enter_at sections_from switch_with arrival cell
    call tables first second two_inputs weights refused_forgets two_flows flow_of_output all_run_from remembering left_at_end given_past_end given_to_end near_end below_waiting
    full_input wound_back same_memory other_words_stay
fair-rows-given = (refl, refl, refl, refl, refl, refl, refl, refl, refl, refl, refl, refl, refl)

pub climb-given : climb ≡ true
unfolding keep some? none? count least update first? numbers_from up_to flatten same_list same_flow fits32 in_turn over accepted same_cell no_such_port
    no_such_flow out_of_turn falling_rank full fault weight_in_range stride flow_index no_memory is_fair made_rank make bad_weight rank_end record_fault record_fault_from
    given_after left_after remembered marked slot_of after_of fresh_pifo queued join best rest run_pifo same_departure departures_answer pifo_answers pifo_runs arrival
    cell call climbing climb
climb-given = refl
