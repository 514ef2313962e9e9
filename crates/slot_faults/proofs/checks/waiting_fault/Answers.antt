-- The rank, and then the room.
use Rattle.std.proofs.Common.{sym, ◌∙◌, arith}
use Rattle.slot_faults.specs.CodeFault.{fault_at, waiting_fault}
use Rattle.slot_faults.proofs.Stored.{ports-below}
use Rattle.slot_faults.proofs.checks.waiting_fault.Goals as goal

pub falling_rank-requires : goal.falling_rank-requires
falling_rank-requires c =
    let ports = ports-below _ c.requires.table in
    let there = c.requires.in_ports in record {
      table = c.requires.table;
      input_bound = there.input;
      output_bound = (omega (arith, there.output), omega (arith, there.flow));
    }

pub returns-then-falling_rank : goal.returns-then-falling_rank
unfolding fault_at waiting_fault
returns-then-falling_rank c = rw (sym c.falling_rank.ensures ∙ c.if-falling_rank.true)

pub returns-then-input_full : goal.returns-then-input_full
unfolding fault_at waiting_fault
returns-then-input_full c =
    let holds = sym c.falling_rank.ensures ∙ c.if-falling_rank.false in
    let none_left = sym c.input_full.ensures ∙ c.if-input_full.true in
    rw (holds, none_left)

pub returns : goal.returns
unfolding fault_at waiting_fault
returns c =
    let holds = sym c.falling_rank.ensures ∙ c.if-falling_rank.false in
    let room = sym c.input_full.ensures ∙ c.if-input_full.false in
    rw (holds, room)
