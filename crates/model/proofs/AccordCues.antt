-- The definitions give every rehearsal that was worked out by hand, and tell sound stores: before any law, as in Accord.
-- Assumes nothing.
use mathlib.Core.Bool.{true}
use mathlib.Core.List.{flatten}
use mathlib.Core.Path.{◌≡◌, refl}
use Rattle.laws.specs.Lists.{keep, some?, none?, all?, count, least, pairwise, update, first?, numbers_from, up_to}
use Rattle.laws.specs.Lists.{same_list}
use Rattle.cell.specs.Flow.{same_flow}
use Rattle.cell.specs.Order.{in_turn, over}
use Rattle.cell.specs.Cell.{accepted, same_cell}
use Rattle.matching.specs.Matching.{proposed, round, rounds, settled, matched, proposals}
use Rattle.model.specs.State.{fresh, is_listed, is_crossed, is_buffered, cells}
use Rattle.model.specs.Checks.{no_such_port, no_such_flow, out_of_turn, falling_rank, full, fault}
use Rattle.model.specs.Phase.{number_from, number_sections, numbered, waiting, lists, crosspoints, same_input}
use Rattle.model.specs.Phase.{same_output, ahead, beats, among, same_crosspoint, heads, blocked, crosspoint_empty}
use Rattle.model.specs.Phase.{ready, scheduled, is_urgent, urgent, takes_part, candidates, straight, sent, pulled}
use Rattle.model.specs.Phase.{at_crosspoint, occupancy, output_choice, phase, place_sent, place_after, placed_by, moved}
use Rattle.model.specs.Crossbar.{in_list_of, new_entry, enter_after, enter, arrive, leaving, departures_of, without}
use Rattle.model.specs.Crossbar.{run}
use Rattle.model.specs.Cues.{no_cues, is_letter, well_named, first_place, is_free, is_named, set_cue, drop_cue, return_to}
use Rattle.model.specs.Cues.{sound_cue, other_name, sound_cues}
use Rattle.model.specs.Fair.{no_memory, is_fair, made_rank, make, bad_weight, rank_end, record_fault, record_fault_from}
use Rattle.model.specs.Fair.{given_after, left_after, remembered, marked, slot_of, after_of}
use Rattle.model.specs.Pifo.{fresh_pifo, queued, join, best, rest, run_pifo}
use Rattle.model.specs.Rehearsal.{begun, left, next}
use Rattle.model.specs.Calls.{same_departure, crossbar_answers, departures_answer, pifo_answers, arrival, cell, call}
use Rattle.model.specs.Rehearsals.{answers_with, same_held, held_name, holds, plays?, rehearsed, rehearsed_marked, free_places, a, b, c, d}
use Rattle.model.specs.Rehearsals.{e}
use Rattle.model.specs.Rehearsals.{comes_back, set_again, four_held, lowest_free, names, sound_stores}

pub rehearsals-given :
    (comes_back ≡ true)
    × (set_again ≡ true)
    × (four_held ≡ true)
    × (lowest_free ≡ true)
    × (names ≡ true)
    × (sound_stores ≡ true)
unfolding flatten keep some? none? all? count least update first? numbers_from up_to same_list same_flow in_turn over accepted same_cell proposed
    round rounds settled matched proposals fresh is_listed is_crossed is_buffered cells no_such_port no_such_flow out_of_turn falling_rank full fault no_memory is_fair made_rank make bad_weight rank_end record_fault
    record_fault_from given_after left_after remembered marked slot_of after_of number_from number_sections numbered waiting lists crosspoints same_input same_output ahead beats among same_crosspoint heads blocked
    crosspoint_empty ready scheduled is_urgent urgent takes_part candidates straight sent pulled at_crosspoint occupancy output_choice phase place_sent place_after placed_by moved in_list_of new_entry
    enter_after enter arrive leaving departures_of without run no_cues is_letter well_named first_place is_free is_named set_cue drop_cue return_to
    fresh_pifo queued join best rest run_pifo begun left next same_departure crossbar_answers departures_answer pifo_answers arrival cell call
    answers_with same_held held_name holds plays? rehearsed_marked rehearsed free_places a b c d e comes_back set_again four_held lowest_free names pairwise sound_cue other_name sound_cues
    sound_stores
rehearsals-given = (refl, refl, refl, refl, refl, refl)
