-- The definitions give every history that was worked out by hand. A check goes through the files by name: here, before
-- any law, a wrong definition is refused at the rows that it gets wrong. Assumes nothing.
use mathlib.Core.Bool.{true}
use mathlib.Core.List.{flatten}
use mathlib.Core.Path.{◌≡◌, refl}
use Rattle.laws.specs.Lists.{keep, some?, none?, all?, count, least, pairwise, update, first?, numbers_from}
use Rattle.laws.specs.Lists.{up_to, same_list}
use Rattle.cell.specs.Flow.{same_flow}
use Rattle.cell.specs.Limits.{fits32, ports_in_range}
use Rattle.cell.specs.Order.{in_turn, over}
use Rattle.cell.specs.Cell.{accepted, same_cell}
use Rattle.matching.specs.Matching.{proposed, round, rounds, settled, matched, proposals}
use Rattle.model.specs.State.{fresh, is_listed, is_crossed, is_buffered, cells}
use Rattle.model.specs.Checks.{no_such_port, no_such_flow, out_of_turn, falling_rank, full, fault}
use Rattle.model.specs.Phase.{number_from, number_sections, numbered, waiting, lists, crosspoints, same_input}
use Rattle.model.specs.Phase.{same_output, ahead, beats, among, same_crosspoint, heads, blocked, crosspoint_empty}
use Rattle.model.specs.Phase.{ready, scheduled, is_urgent, urgent, takes_part, candidates, straight, sent, pulled}
use Rattle.model.specs.Phase.{at_crosspoint, occupancy, output_choice, phase, place_sent, place_after, placed_by, moved}
use Rattle.model.specs.Crossbar.{in_list_of, new_entry, enter_after, enter, arrive, leaving, departures_of, without}
use Rattle.model.specs.Crossbar.{run, occupancies, answer_of}
use Rattle.model.specs.Emulation.{cells_at}
use Rattle.model.specs.Pifo.{fresh_pifo, queued, join, best, rest, run_pifo}
use Rattle.model.specs.Sound.{sound_entry, together, other_slot, other_crosspoint, sound_section, sound_sections}
use Rattle.model.specs.Sound.{sound}
use Rattle.model.specs.Fair.{no_memory, is_fair, made_rank, make, bad_weight, rank_end, record_fault, record_fault_from}
use Rattle.model.specs.Fair.{given_after, left_after, remembered, marked, slot_of, after_of}
use Rattle.model.specs.Oq.{join_buffer, join_buffers, run_oq}
use Rattle.model.specs.Calls.{same_departure, same_cells, stand, course_passes, course_occupies, crossbar_answers}
use Rattle.model.specs.Calls.{departures_answer, pifo_answers, oq_answers, crossbar_runs, pifo_runs, oq_runs, all_run}
use Rattle.model.specs.Calls.{all_run_marked}
use Rattle.model.specs.Calls.{enter_at, sections_from, switch_with, arrival, cell, call, tables}
use Rattle.model.specs.Histories.{given, record_of, runs, crowded, three_inputs, two_of_pair, behind_scheduled, list_order}
use Rattle.model.specs.Histories.{not_over_all, scheduled_matched, full_crosspoint, straight_alone, arrivals}
use Rattle.model.specs.Histories.{tie_of_inputs, turn_of_each, turn_of_the_last_input, tie_of_slots, tie_of_urgent, falling_ranks}
use Rattle.model.specs.Histories.{full_input, order_of_checks, last_slot, turn_of_the_last_slot}

pub histories-given :
    (given three_inputs ≡ true)
    × (given two_of_pair ≡ true)
    × (given behind_scheduled ≡ true)
    × (given list_order ≡ true)
    × (given not_over_all ≡ true)
    × (given scheduled_matched ≡ true)
    × (given full_crosspoint ≡ true)
    × (given straight_alone ≡ true)
    × (given arrivals ≡ true)
    × (given tie_of_inputs ≡ true)
    × (given turn_of_each ≡ true)
    × (given turn_of_the_last_input ≡ true)
    × (given tie_of_slots ≡ true)
    × (given tie_of_urgent ≡ true)
    × (given falling_ranks ≡ true)
    × (given full_input ≡ true)
    × (given order_of_checks ≡ true)
    × (given last_slot ≡ true)
    × (given turn_of_the_last_slot ≡ true)
unfolding flatten keep some? none? all? count least pairwise update first? numbers_from up_to same_flow fits32 ports_in_range in_turn over accepted same_cell proposed
    round rounds settled matched proposals fresh is_listed is_crossed is_buffered cells no_such_port no_such_flow out_of_turn falling_rank full fault no_memory is_fair made_rank make bad_weight rank_end record_fault
    record_fault_from given_after left_after remembered marked slot_of after_of number_from number_sections numbered waiting lists crosspoints same_input same_output ahead beats among same_crosspoint heads blocked
    crosspoint_empty ready scheduled is_urgent urgent takes_part candidates straight sent pulled at_crosspoint occupancy output_choice phase place_sent place_after placed_by moved in_list_of new_entry
    enter_after enter arrive leaving departures_of without run occupancies answer_of cells_at fresh_pifo queued join best rest run_pifo sound_entry
    together other_slot other_crosspoint sound_section sound_sections sound same_departure same_list same_cells stand course_passes course_occupies crossbar_answers departures_answer pifo_answers
    oq_answers crossbar_runs pifo_runs oq_runs all_run_marked all_run join_buffer join_buffers run_oq enter_at sections_from switch_with arrival cell call tables given record_of runs crowded three_inputs two_of_pair behind_scheduled
    list_order not_over_all scheduled_matched full_crosspoint straight_alone arrivals tie_of_inputs turn_of_each turn_of_the_last_input tie_of_slots tie_of_urgent falling_ranks full_input order_of_checks
    last_slot turn_of_the_last_slot
histories-given =
    (refl, refl, refl, refl, refl, refl, refl, refl, refl, refl, refl, refl, refl, refl, refl, refl, refl, refl, refl)
