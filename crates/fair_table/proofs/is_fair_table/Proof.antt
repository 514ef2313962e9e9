-- `fair_table::is_fair_table` meets its contract: the frame, then the cells.
-- Assumes nothing.
use native.Mathlib.Omega.{arith}
use mathlib.Core.Path.{sym, ◌∙◌}
use borrow.Author.Rules.{rules}
use Rattle.layout.proofs.Fair.{framed-size}
use Rattle.layout_table.proofs.Places.{known_bytes}
use Rattle.fair_table.proofs.Frame.{other-frame, by-core}
use Rattle.fair_table.proofs.is_fair_table.Statement.{statement}
use Rattle.fair_table.proofs.is_fair_table.Tie as tie

is-framed-requires : tie.Need-is_framed-requires
is-framed-requires c κs = search rules

returns : tie.Need-returns-then-not-is_framed
returns c =
    other-frame _ (known_bytes _ c.shared_slice_known-1.given)
    (sym c.is_framed.ensures ∙ c.if-not-is_framed.true)

sub-is-table : tie.Need-slice_bounds-is_table-count
sub-is-table c = search rules

part-is-table-start : tie.Need-slice_bounds-is_table-start
part-is-table-start c = search rules

part-is-table-end : tie.Need-slice_bounds-is_table-end
part-is-table-end c =
    let size = framed-size _ _ (sym c.is_framed.ensures ∙ c.if-not-is_framed.false) in
    omega arith

is-table-requires : tie.Need-is_table-requires
is-table-requires c κs = search rules

returns-2 : tie.Need-returns
returns-2 c =
    c.is_table.ensures
    ∙ by-core _ (known_bytes _ c.shared_slice_known-1.given)
    (sym c.is_framed.ensures ∙ c.if-not-is_framed.false)

pub is_fair_table_spec : {M : Type 1} → statement M
is_fair_table_spec =
    tie.close
    (tie.spec
    is-framed-requires
    returns
    sub-is-table
    part-is-table-start
    part-is-table-end
    is-table-requires
    returns-2)
