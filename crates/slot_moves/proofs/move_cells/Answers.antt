-- What each of the three rounds finds is what the one before left.
use Rattle.std.proofs.Common.{◌∙◌}
use Rattle.slot_view.proofs.Own.{table-readable}
use Rattle.slot_moves.proofs.Moved.{can-go, can-send, can-take, told-occupancies, moved-table, moved_view, moved-good}
use Rattle.slot_moves.proofs.Rounds.{kept-straightened, length-straight-lists, length-straight-heads, length-straight-best}
use Rattle.slot_moves.proofs.Rounds.{kept-sent, square-sent, square-sent-keys}
use Rattle.slot_moves.proofs.move_cells.Goals as goal

pub go_straight-requires-clause-table_len : goal.go_straight-requires-clause-table_len
go_straight-requires-clause-table_len c =
    let (good, view) = c.requires.table in
    ((table-readable c.args.table.now good).size, view.lists.listed-size, view.lists.heads-size, view.bests.size)

pub go_straight-requires-clause-all_bound : goal.go_straight-requires-clause-all_bound
go_straight-requires-clause-all_bound c = can-go c.requires.table.0 c.requires.table.1 c.requires.settled.0

pub send_scheduled-requires-clause-table_len : goal.send_scheduled-requires-clause-table_len
send_scheduled-requires-clause-table_len c =
    let (good, view) = c.requires.table in
    let g = c.go_straight.ensures in (
      (kept-straightened g).size ∙ (table-readable c.args.table.now good).size,
      length-straight-lists g ∙ view.lists.listed-size,
      length-straight-heads g ∙ view.lists.heads-size,
      c.requires.settled.1.size,
      view.square,
      view.keyed.square,
    )

pub send_scheduled-requires-clause-all_bound : goal.send_scheduled-requires-clause-all_bound
send_scheduled-requires-clause-all_bound c =
    can-send c.requires.table.0 c.requires.table.1 c.requires.settled.0 c.go_straight.ensures

pub pull_best-requires-clause-table_len : goal.pull_best-requires-clause-table_len
pull_best-requires-clause-table_len c =
    let (good, view) = c.requires.table in
    let g = c.go_straight.ensures in
    let t = c.send_scheduled.ensures in (
      (kept-sent t).size ∙ (kept-straightened g).size ∙ (table-readable c.args.table.now good).size,
      length-straight-best g ∙ view.bests.size,
      square-sent t view.square,
      square-sent-keys t view.keyed.square,
    )

pub pull_best-requires-clause-all_bound : goal.pull_best-requires-clause-all_bound
pull_best-requires-clause-all_bound c =
    rw c.choose_crossed-output_choice.ensures.0
    (can-take c.requires.table.0 c.requires.table.1 c.requires.settled.0 c.go_straight.ensures c.requires.settled.1
    c.send_scheduled.ensures)

pub returns-clause-table_after : goal.returns-clause-table_after
returns-clause-table_after c =
    let u = rw c.choose_crossed-output_choice.ensures.0 at c.pull_best.ensures in
    moved-table c.requires.table.0 c.requires.table.1 c.requires.settled.0 c.go_straight.ensures c.requires.settled.1
    c.send_scheduled.ensures u

pub returns-clause-viewed : goal.returns-clause-viewed
returns-clause-viewed c =
    let u = rw c.choose_crossed-output_choice.ensures.0 at c.pull_best.ensures in
    moved_view c.requires.table.0 c.requires.table.1 c.requires.settled.0 c.go_straight.ensures c.requires.settled.1
    c.send_scheduled.ensures u

pub returns-clause-table_2 : goal.returns-clause-table_2
returns-clause-table_2 c =
    let u = rw c.choose_crossed-output_choice.ensures.0 at c.pull_best.ensures in
    moved-good c.requires.table.0 c.requires.table.1 c.requires.settled.0 c.go_straight.ensures c.requires.settled.1
    c.send_scheduled.ensures u

pub returns-clause-occupancies_of : goal.returns-clause-occupancies_of
returns-clause-occupancies_of c =
    told-occupancies c.requires.table.0 c.requires.table.1 c.requires.settled.0 c.go_straight.ensures c.requires.settled.1
    c.send_scheduled.ensures c.choose_crossed-output_choice.ensures.1
