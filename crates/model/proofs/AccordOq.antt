-- The definitions give the histories of the output-queued switch that were worked out by hand, with its tables: before
-- any law, as in Accord. Assumes nothing.
use mathlib.Core.Bool.{true}
use mathlib.Core.List.{flatten}
use mathlib.Core.Path.{◌≡◌, refl}
use Rattle.laws.specs.Lists.{keep, some?, none?, count, least, update, first?, numbers_from, up_to, same_list}
use Rattle.cell.specs.Flow.{same_flow}
use Rattle.cell.specs.Order.{in_turn, over}
use Rattle.cell.specs.Cell.{accepted, same_cell}
use Rattle.model.specs.State.{fresh, is_listed, is_crossed, is_buffered, cells}
use Rattle.model.specs.Checks.{no_such_port, no_such_flow, out_of_turn, falling_rank, full, fault, fault_from}
use Rattle.model.specs.Checks.{first_fault}
use Rattle.model.specs.Phase.{number_from, number_sections, numbered, waiting, same_output, beats, among}
use Rattle.model.specs.Crossbar.{leaving, departures_of, without}
use Rattle.model.specs.Oq.{join_buffer, join_buffers, run_oq, slot_oq, oq_after}
use Rattle.model.specs.Calls.{same_departure, departures_answer, oq_answers, arrival, cell, call}
use Rattle.model.specs.Histories.{record_of}
use Rattle.model.specs.OqRows.{same_place, same_entry, oq_leaves, leaves, two_outputs, last_in_section}

pub oq-rows-given : (two_outputs ≡ true) × (last_in_section ≡ true)
unfolding flatten keep some? none? count least update first? numbers_from up_to same_list same_flow in_turn over accepted same_cell fresh is_listed
    is_crossed is_buffered cells no_such_port no_such_flow out_of_turn falling_rank full fault fault_from first_fault number_from number_sections numbered
    waiting same_output beats among leaving departures_of without join_buffer join_buffers run_oq slot_oq oq_after same_departure departures_answer
    oq_answers arrival cell call record_of same_place same_entry oq_leaves leaves two_outputs last_in_section
oq-rows-given = (refl, refl)
