-- 2, then 10, else the cells of the older table.
use Rattle.std.proofs.Common.{◌∙◌, sym, refl}
use Rattle.cell.specs.declared.Refusal.TheVariants.{BrokenTable, ShortBuffer}
use Rattle.layout.specs.Fair.{fair_number}
use Rattle.layout.specs.Table.{decode}
use Rattle.layout.proofs.Older.{convert_call-broken, convert_call-short, convert_call-done}
use Rattle.layout.proofs.Table.{is-table}
use Rattle.fair_table.proofs.Calls.{refuses, writes}
use Rattle.crossbar.proofs.Calls.{older-none}
use Rattle.crossbar.proofs.convert.write.Goals as goal

pub returns-then-not-is_table : goal.returns-then-not-is_table
returns-then-not-is_table c =
    let a = c.args in
    let call = refuses fair_number a.table.now _ BrokenTable _
    (convert_call-broken decode a.old.now a.table.now
    (older-none a.old.now (sym c.is_table.ensures ∙ c.if-not-is_table.true)))
    refl in
    record { value = call.0; table_after = call.1 }

pub returns-then-table-lt-FAIR_BYTES : goal.returns-then-table-lt-FAIR_BYTES
returns-then-table-lt-FAIR_BYTES c =
    let a = c.args in
    let call = refuses fair_number a.table.now _ ShortBuffer _
    (convert_call-short decode a.old.now a.table.now _
    (is-table a.old.now (sym c.is_table.ensures ∙ c.if-not-is_table.false)) c.if-table-lt-FAIR_BYTES.true)
    refl in
    record { value = call.0; table_after = call.1 }

pub returns : goal.returns
returns c =
    let a = c.args in
    let call = writes fair_number a.table.now _ _ _
    (convert_call-done decode a.old.now a.table.now _
    (is-table a.old.now (sym c.is_table.ensures ∙ c.if-not-is_table.false)) c.if-table-lt-FAIR_BYTES.false)
    c.write_older.ensures in
    record { value = call.0; table_after = call.1 }
