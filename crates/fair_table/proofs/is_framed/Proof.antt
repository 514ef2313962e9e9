-- `fair_table::is_framed` meets its contract: each test in turn.
-- Assumes nothing.
use mathlib.Core.Path.{sym, ap, ap₂, ◌∙◌}
use borrow.Author.Rules.{rules}
use Rattle.cell.specs.Limits.{ports_in_range}
use Rattle.model.specs.Fair.{marks_in_range}
use Rattle.fair_table.proofs.Frame.{few-ports, other-size, other-number, other-ports, by-marks}
use Rattle.fair_table.proofs.is_framed.Statement.{statement}
use Rattle.fair_table.proofs.is_framed.Tie as tie

returns : tie.Need-returns-then-table-ne-FAIR_BYTES
returns c = other-size _ _ c.if-table-ne-FAIR_BYTES.true

read-u32-requires : tie.Need-read_u32-requires
read-u32-requires c κs = search rules

returns-2 : tie.Need-returns-then-read_u32-number
returns-2 c =
    other-number _ _ c.if-table-ne-FAIR_BYTES.false (λ e. c.if-read_u32-number.true (c.read_u32.ensures ∙ e))

add-read-u32 : tie.Need-overflow_add-read_u32
add-read-u32 c = search rules

read-u32-requires-2 : tie.Need-read_u32-ports-requires
read-u32-requires-2 c κs = search rules

ports-in-range-requires : tie.Need-ports_in_range-requires
ports-in-range-requires c κs = search rules

returns-3 : tie.Need-returns-then-not-ports_in_range
returns-3 c =
    other-ports _ _ c.if-table-ne-FAIR_BYTES.false (sym c.read_u32.ensures ∙ c.if-read_u32-number.false)
    (ap ports_in_range (sym c.read_u32-ports.ensures) ∙ sym c.ports_in_range.ensures ∙ c.if-not-ports_in_range.true)

read-u32-requires-3 : tie.Need-read_u32-requires-2
read-u32-requires-3 c κs = search rules

marks-in-range-requires : tie.Need-marks_in_range-requires
marks-in-range-requires c κs =
    few-ports _ (sym c.ports_in_range.ensures ∙ c.if-not-ports_in_range.false)

returns-4 : tie.Need-returns
returns-4 c =
    c.marks_in_range.ensures
    ∙ ap₂ marks_in_range c.read_u32-ports.ensures c.read_u32-2.ensures
    ∙ by-marks _ _ c.if-table-ne-FAIR_BYTES.false (sym c.read_u32.ensures ∙ c.if-read_u32-number.false)
    (ap ports_in_range (sym c.read_u32-ports.ensures) ∙ sym c.ports_in_range.ensures ∙ c.if-not-ports_in_range.false)

pub is_framed_spec : {M : Type 1} → statement M
is_framed_spec =
    tie.close
    (tie.spec
    returns
    read-u32-requires
    returns-2
    add-read-u32
    read-u32-requires-2
    ports-in-range-requires
    returns-3
    read-u32-requires-3
    marks-in-range-requires
    returns-4)
