-- Each of the entries is in the buffer of its output (proofs/Choosing).
use Rattle.std.proofs.Common.{◌≡◌, ◌+◌, ◌*◌, subst, arith}
use Rattle.layout.specs.Entry.{count_in}
use Rattle.slot_loading.specs.Code.{BestBelow}
use Rattle.slot_view.specs.CodeView.{places_in}
use Rattle.slot_view.proofs.Own.{table-readable}
use Rattle.slot_view.proofs.Window.{in_table-section}
use Rattle.oq_slot.proofs.Choosing.{in_buffer_lem, best-section}
use Rattle.oq_slot.proofs.choose_from.Goals as goal

pub end_of-end-requires : goal.end_of-end-requires
end_of-end-requires c =
    let read = table-readable _ c.requires.table.0 in
    (read.size, omega (arith, c.requires.input_bound, read.ports))

pub choose_cell-requires-clause-buffered : goal.choose_cell-requires-clause-buffered
choose_cell-requires-clause-buffered c =
    let table = c.args.table.now in
    let good = c.requires.table.0 in
    in_buffer_lem table good c.requires.table.1 c.loop-k.k
    (in_table-section (table-readable table good) c.args.input c.loop-k.k c.requires.input_bound
    c.loop-k.auto.k (omega (arith, c.loop-k-test.true, c.end_of-end.ensures)))

pub returns : goal.returns
returns c =
    let table = c.args.table.now in
    let all : c.loop-k.k ≡ 64 * c.args.input + count_in table c.args.input = omega (arith, c.end_of-end.ensures) in
    best-section table c.requires.table.0 c.args.input c.requires.input_bound c.loop-k.best c.loop-k.rivals
    (subst (λ k. BestBelow table (places_in table) k c.loop-k.best c.loop-k.rivals) all c.loop-k.invariant)
