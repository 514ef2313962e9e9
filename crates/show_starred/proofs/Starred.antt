-- The definitions give every starred show of scope 9, for the crossbar and, where they can answer, the PIFO switch and
-- the output-queued switch. Assumes nothing.
use mathlib.Core.Bool.{true}
use mathlib.Core.List.{flatten}
use mathlib.Core.Option.{bind}
use mathlib.Core.Path.{◌≡◌, refl}
use Rattle.laws.specs.Lists.{keep, some?, none?, all?, count, least, pairwise, update, first?, numbers_from}
use Rattle.laws.specs.Lists.{up_to, same_list}
use Rattle.cell.specs.Flow.{same_flow}
use Rattle.cell.specs.Limits.{fits32, ports_in_range}
use Rattle.cell.specs.Order.{in_turn, over}
use Rattle.cell.specs.Cell.{accepted, same_cell}
use Rattle.matching.specs.Matching.{proposed, round, rounds, settled, matched, proposals}
use Rattle.model.specs.State.{fresh, is_listed, is_crossed, is_buffered, cells}
use Rattle.model.specs.Checks.{no_such_port, no_such_flow, out_of_turn, falling_rank, full, fault, fault_from}
use Rattle.model.specs.Checks.{first_fault}
use Rattle.model.specs.Phase.{number_from, number_sections, numbered, waiting, lists, crosspoints, same_input}
use Rattle.model.specs.Phase.{same_output, ahead}
use Rattle.model.specs.Phase.{beats, among, same_crosspoint, heads, blocked, crosspoint_empty, ready, scheduled}
use Rattle.model.specs.Phase.{is_urgent, urgent, takes_part, candidates, straight, sent, pulled, at_crosspoint, occupancy, output_choice, phase}
use Rattle.model.specs.Phase.{place_sent, place_after, placed_by, moved}
use Rattle.model.specs.Crossbar.{in_list_of, new_entry, enter_after, enter, arrive, leaving, departures_of, without}
use Rattle.model.specs.Crossbar.{occupancies, answer_of, run, slot, switch_after}
use Rattle.model.specs.Pifo.{fresh_pifo, queued, join, best, rest, run_pifo, slot_pifo}
use Rattle.model.specs.CodeFair.{pifo_after}
use Rattle.layout.specs.Number.{same_bytes}
use Rattle.trace.specs.Ascii.{ascii}
use Rattle.trace.specs.Line.{key_name, key_text, digits_within, decimal, line, after, up_to_line_feed, is_digit}
use Rattle.trace.specs.Line.{value_after, no_leading_zero, read_number, read_line}
use Rattle.trace.specs.Reader.{give, ◌>>=◌, number, exactly, begins, arrival as read-arrival}
use Rattle.trace.specs.Reader.{arrivals as read-arrivals, block, after_end, next, header}
use Rattle.trace.specs.Lines.{departure_text, departures_text, refusal_text}
use Rattle.player_text.specs.Player.{line_of, play_from, play, crossbar}
use Rattle.player_text.specs.Player.{pifo, play_crossbar, play_pifo}
use Rattle.model.specs.Fair.{no_memory, is_fair, made_rank, make, bad_weight, rank_end, record_fault, record_fault_from}
use Rattle.model.specs.Fair.{given_after, left_after, remembered, marked, marks_in_range, start_fair, slot_of, after_of}
use Rattle.model.specs.Oq.{join_buffer, join_buffers, run_oq}
use Rattle.model.specs.Calls.{same_departure, course_occupies, crossbar_answers, departures_answer, pifo_answers, oq_answers}
use Rattle.model.specs.Calls.{crossbar_runs, pifo_runs, oq_runs, all_run_marked, all_run, arrival, cell, call}
use Rattle.show_starred.specs.Shows.{start_answers, given, only, at_five, starred}

pub starred-shows : all? given starred ≡ true
unfolding bind flatten keep some? none? all? count least pairwise update first? numbers_from up_to same_flow fits32 ports_in_range in_turn over accepted same_cell
    proposed round rounds settled matched proposals fresh is_listed is_crossed is_buffered cells no_such_port no_such_flow out_of_turn falling_rank full fault
    fault_from first_fault number_from number_sections numbered waiting lists crosspoints same_input same_output ahead beats among same_crosspoint heads blocked
    crosspoint_empty ready scheduled is_urgent urgent takes_part candidates straight sent pulled at_crosspoint occupancy output_choice phase place_sent place_after placed_by moved in_list_of new_entry
    enter_after enter arrive leaving departures_of without occupancies answer_of run slot switch_after start_fair marks_in_range fresh_pifo queued join best rest run_pifo slot_pifo pifo_after same_bytes
    ascii key_name key_text digits_within decimal line after up_to_line_feed is_digit value_after no_leading_zero read_number read_line give ◌>>=◌ number exactly
    begins read-arrival read-arrivals block after_end next header departure_text departures_text refusal_text line_of play_from play crossbar pifo play_crossbar
    play_pifo join_buffer join_buffers run_oq no_memory is_fair made_rank make bad_weight rank_end record_fault record_fault_from given_after left_after
    remembered marked slot_of after_of same_departure same_list course_occupies crossbar_answers departures_answer pifo_answers oq_answers crossbar_runs pifo_runs oq_runs
    all_run_marked all_run arrival cell call start_answers given only at_five starred
starred-shows = refl
