-- 1, then 4, then 10, else the table of a fresh switch.
use Rattle.std.proofs.Common.{◌∙◌, sym, refl}
use Rattle.cell.specs.declared.Refusal.TheVariants.{BadSize, NoSuchPort, ShortBuffer}
use Rattle.layout.proofs.Engine.{start_call-size, start_call-marks, start_call-short, start_call-done}
use Rattle.fair_table.proofs.Calls.{refuses, writes}
use Rattle.fair_table.proofs.Frame.{few-ports}
use Rattle.fair_table.proofs.start.write.Goals as goal

pub returns-then-not-ports_in_range : goal.returns-then-not-ports_in_range
returns-then-not-ports_in_range c =
    let a = c.args in
    let call = refuses a.number a.table.now _ BadSize _
    (start_call-size a.ports a.first a.marks a.table.now
    (sym c.ports_in_range.ensures ∙ c.if-not-ports_in_range.true))
    refl in
    record { value = call.0; table_after = call.1 }

pub marks_in_range-requires : goal.marks_in_range-requires
marks_in_range-requires c = few-ports _ (sym c.ports_in_range.ensures ∙ c.if-not-ports_in_range.false)

pub returns-then-not-marks_in_range : goal.returns-then-not-marks_in_range
returns-then-not-marks_in_range c =
    let a = c.args in
    let call = refuses a.number a.table.now _ NoSuchPort _
    (start_call-marks a.ports a.first a.marks a.table.now
    (sym c.ports_in_range.ensures ∙ c.if-not-ports_in_range.false)
    (sym c.marks_in_range.ensures ∙ c.if-not-marks_in_range.true))
    refl in
    record { value = call.0; table_after = call.1 }

pub returns-then-table-lt-FAIR_BYTES : goal.returns-then-table-lt-FAIR_BYTES
returns-then-table-lt-FAIR_BYTES c =
    let a = c.args in
    let call = refuses a.number a.table.now _ ShortBuffer _
    (start_call-short a.ports a.first a.marks a.table.now
    (sym c.ports_in_range.ensures ∙ c.if-not-ports_in_range.false)
    (sym c.marks_in_range.ensures ∙ c.if-not-marks_in_range.false) c.if-table-lt-FAIR_BYTES.true)
    refl in
    record { value = call.0; table_after = call.1 }

pub returns : goal.returns
returns c =
    let a = c.args in
    let call = writes a.number a.table.now _ _ _
    (start_call-done a.ports a.first a.marks a.table.now
    (sym c.ports_in_range.ensures ∙ c.if-not-ports_in_range.false)
    (sym c.marks_in_range.ensures ∙ c.if-not-marks_in_range.false) c.if-table-lt-FAIR_BYTES.false)
    c.write_fresh.ensures in
    record { value = call.0; table_after = call.1 }
