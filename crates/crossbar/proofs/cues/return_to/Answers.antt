-- 2, then what the look for the place found, else the table is the one that the cue holds.
use Rattle.std.proofs.Common.{◌∙◌, sym, refl}
use Rattle.std.proofs.lemmas.Result.{err_from_is_err_and}
use Rattle.crossbar.proofs.CueCalls.{return-broken-table, return-nowhere, return-done, store_length, table-length}
use Rattle.crossbar.proofs.cues.return_to.Goals as goal

pub returns-then-not-is_fair_table : goal.returns-then-not-is_fair_table
returns-then-not-is_fair_table c =
    let call = return-broken-table c.args.table.now c.args.store.now c.args.name.now
    (sym c.is_fair_table.ensures ∙ c.if-not-is_fair_table.true) _ refl in
    record { value = call.0; table_after = call.1 }

pub returns-in_err-place : goal.returns-in_err-place
returns-in_err-place c =
    let p = err_from_is_err_and c.from_residual.result c.from_residual.ensures.1 in
    let call = return-nowhere c.args.store.now c.args.name.now c.args.table.now
    (sym c.is_fair_table.ensures ∙ c.if-not-is_fair_table.false) c.in_err-place.field-0.0 _ c.in_err-place.ensures refl in
    rw (p.1, p.2) (record { value = call.0; table_after = call.1 })

pub read_cue-requires : goal.read_cue-requires
read_cue-requires c = (
  store_length _ c.in_ok-place.ensures.sound,
  c.in_ok-place.ensures.inside,
  table-length _ (sym c.is_fair_table.ensures ∙ c.if-not-is_fair_table.false),
)

pub returns : goal.returns
returns c =
    let call = return-done c.args.store.now c.args.name.now _ c.in_ok-place.ensures c.args.table.now
    (sym c.is_fair_table.ensures ∙ c.if-not-is_fair_table.false) _ c.read_cue.ensures in
    record { value = call.0; table_after = call.1 }
