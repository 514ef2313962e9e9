-- The keys decide, or the tie.
use native.Mathlib.Omega.{arith}
use mathlib.Core.Path.{sym, ◌∙◌, ap, ap₂}
use lib.Dec.{ltb}
use borrow.Author.Rules.{rules}
use Rattle.cell.specs.Order.{wins_tie}
use Rattle.layout.specs.Code.{ports_in}
use Rattle.layout_table.proofs.Places.{known_bytes}
use Rattle.layout_table.proofs.Keys.{slot-below, ports-below, over-keys, over-tie}
use Rattle.layout_table.proofs.priority.goes_first.Statement.{statement}
use Rattle.layout_table.proofs.priority.goes_first.Tie as tie

returns : tie.Need-returns-then-key-rival
returns c =
    let start = c.before.before in
    let p = start.requires in
    let bytes = known_bytes _ c.before.shared_slice_known-1.given in
    let below = slot-below _ p.0.0 bytes in
    ap₂ ltb p.1.0 p.1.1
    ∙ over-keys _ _ _ (below _ p.0.1) (below _ p.0.2) (λ e. c.if-key-rival.true (p.1.0 ∙ e ∙ sym p.1.1))

ports-of-requires : tie.Need-ports_of-requires
ports-of-requires c κs = search rules

cast-wins-tie : tie.Need-overflow_cast-ports_of
cast-wins-tie c =
    let known = c.before.before in
    let table = known.before.args.table.now in
    let bytes = known_bytes table known.shared_slice_known-1.given in
    omega (arith, c.ports_of.ensures, ports-below table known.before.requires.0.0 bytes)

cell-of-requires : tie.Need-cell_of-requires
cell-of-requires c κs = search rules

cell-of-requires-2 : tie.Need-cell_of-requires-2
cell-of-requires-2 c κs = search rules

wins-tie-requires : tie.Need-wins_tie-requires
wins-tie-requires c κs = search rules

returns-2 : tie.Need-returns
returns-2 c =
    let two = c.before in
    let one = two.before in
    let ports = one.before in
    let test = ports.before in
    let start = test.before.before in
    let p = start.requires in
    let bytes = known_bytes _ test.before.shared_slice_known-1.given in
    let below = slot-below _ p.0.0 bytes in
    c.wins_tie.ensures
    ∙ ap (λ n. wins_tie n one.cell_of.result two.cell_of-2.result) ports.ports_of.ensures
    ∙ ap₂ (wins_tie (ports_in start.args.table.now)) one.cell_of.ensures two.cell_of-2.ensures
    ∙ over-tie _ _ _ (below _ p.0.1) (below _ p.0.2) (sym p.1.0 ∙ test.if-key-rival.false ∙ p.1.1)

pub goes_first_spec : {M : Type 1} → statement M
goes_first_spec =
    tie.close
    (tie.spec
    returns
    ports-of-requires
    cast-wins-tie
    cell-of-requires
    cell-of-requires-2
    wins-tie-requires
    returns-2)
