-- The frame, then the cells.
use Rattle.std.proofs.Common.{sym, ◌∙◌, arith}
use Rattle.layout.proofs.Fair.{framed-size}
use Rattle.layout_table.proofs.Places.{known_bytes}
use Rattle.oq.proofs.Checked.{other-frame, by-core}
use Rattle.oq.proofs.check.is_fair_oq_table.Goals as goal

pub slice_bounds-is_buffered-end : goal.slice_bounds-is_buffered-end
slice_bounds-is_buffered-end c =
    let size = framed-size _ _ (sym c.is_framed.ensures ∙ c.if-is_framed.true) in omega arith

pub returns-then-is_framed : goal.returns-then-is_framed
returns-then-is_framed c =
    c.is_buffered.ensures
    ∙ by-core _ (known_bytes _ c.type_inv.table) (sym c.is_framed.ensures ∙ c.if-is_framed.true)

pub returns-else-is_framed : goal.returns-else-is_framed
returns-else-is_framed c =
    c.if-is_framed.false
    ∙ other-frame _ (known_bytes _ c.type_inv.table) (sym c.is_framed.ensures ∙ c.if-is_framed.false)
