-- 2, then 10, else the cells of the older table.
use Rattle.std.proofs.Common.{◌≡◌, ◌∙◌, sym, refl, ap, true, arith}
use Rattle.cell.specs.declared.Refusal.TheVariants.{BrokenTable, ShortBuffer}
use Rattle.model.specs.Fair.{marked}
use Rattle.layout.specs.CodeOq.{is_oq_table}
use Rattle.layout.specs.Fair.{fair_number_oq, fair_bytes}
use Rattle.layout.specs.Host.{filled}
use Rattle.layout.specs.Oq.{decode_oq}
use Rattle.layout.proofs.Older.{convert_call-broken, convert_call-short, convert_call-done}
use Rattle.layout.proofs.Oq.{decode_oq-length, is-oq-table}
use Rattle.fair_table.proofs.Calls.{refuses, writes}
use Rattle.oq.proofs.Older.{older-none, older-core, older-state}
use Rattle.oq.proofs.convert.write.Goals as goal

pub returns-then-not-is_oq_table : goal.returns-then-not-is_oq_table
returns-then-not-is_oq_table c =
    let a = c.args in
    let call = refuses fair_number_oq a.table.now _ BrokenTable _
    (convert_call-broken decode_oq a.old.now a.table.now
    (older-none a.old.now (sym c.is_oq_table.ensures ∙ c.if-not-is_oq_table.true)))
    refl in
    record { value = call.0; table_after = call.1 }

pub returns-then-table-lt-FAIR_BYTES : goal.returns-then-table-lt-FAIR_BYTES
returns-then-table-lt-FAIR_BYTES c =
    let a = c.args in
    let older = is-oq-table a.old.now (sym c.is_oq_table.ensures ∙ c.if-not-is_oq_table.false) in
    let call = refuses fair_number_oq a.table.now _ ShortBuffer _
    (convert_call-short decode_oq a.old.now a.table.now _ older c.if-table-lt-FAIR_BYTES.true)
    refl in
    record { value = call.0; table_after = call.1 }

pub slice_bounds-write_older-count : goal.slice_bounds-write_older-count
slice_bounds-write_older-count c =
    let older = is-oq-table c.args.old.now (sym c.is_oq_table.ensures ∙ c.if-not-is_oq_table.false) in
    omega (arith, decode_oq-length _ _ older)

pub slice_bounds-write_older-start : goal.slice_bounds-write_older-start
slice_bounds-write_older-start c =
    let older = is-oq-table c.args.old.now (sym c.is_oq_table.ensures ∙ c.if-not-is_oq_table.false) in
    omega (arith, decode_oq-length _ _ older)

pub write_older-requires : goal.write_older-requires
write_older-requires c =
    (older-core _ (sym c.is_oq_table.ensures ∙ c.if-not-is_oq_table.false), c.if-table-lt-FAIR_BYTES.false)

pub returns : goal.returns
returns c =
    let a = c.args in
    let older : is_oq_table a.old.now ≡ true = sym c.is_oq_table.ensures ∙ c.if-not-is_oq_table.false in
    let call = writes fair_number_oq a.table.now _ _ _
    (convert_call-done decode_oq a.old.now a.table.now _ (is-oq-table a.old.now older) c.if-table-lt-FAIR_BYTES.false)
    (c.write_older.ensures
    ∙ ap (λ s. filled (fair_bytes fair_number_oq (marked 0 s)) a.table.now) (older-state a.old.now older)) in
    record { value = call.0; table_after = call.1 }
