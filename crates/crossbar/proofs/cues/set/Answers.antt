-- 2, then 11, then 12, else the cue is put at its place.
use Rattle.std.proofs.Common.{◌∙◌, sym, refl, arith}
use Rattle.crossbar.proofs.CueCalls.{set-broken-table, set-broken-store, set-badly-named, set-no-room, set-done}
use Rattle.crossbar.proofs.CueCalls.{store_length, table-length}
use Rattle.crossbar.proofs.cues.set.Goals as goal

pub returns-then-not-is_fair_table : goal.returns-then-not-is_fair_table
returns-then-not-is_fair_table c =
    let call = set-broken-table c.args.table.now c.args.store.now c.args.name.now (sym c.is_fair_table.ensures ∙ c.if-not-is_fair_table.true) _ refl in
    record { value = call.0; store_after = call.1 }

pub returns-then-not-is_store : goal.returns-then-not-is_store
returns-then-not-is_store c =
    let call = set-broken-store c.args.table.now c.args.store.now c.args.name.now (sym c.is_store.ensures ∙ c.if-not-is_store.true) _ refl in
    record { value = call.0; store_after = call.1 }

pub returns-in_default : goal.returns-in_default
returns-in_default c =
    let call = set-badly-named c.args.table.now c.args.store.now c.args.name.now (sym c.is_fair_table.ensures ∙ c.if-not-is_fair_table.false)
    (sym c.is_store.ensures ∙ c.if-not-is_store.false) _ refl c.in_default.ensures _ refl in
    record { value = call.0; store_after = call.1 }

pub place_for-requires : goal.place_for-requires
place_for-requires c = store_length _ (sym c.is_store.ensures ∙ c.if-not-is_store.false)

pub returns-in_default-place_for : goal.returns-in_default-place_for
returns-in_default-place_for c =
    let number = c.in-Some.ensures in
    let call = set-no-room c.args.table.now c.args.store.now c.args.name.now (sym c.is_fair_table.ensures ∙ c.if-not-is_fair_table.false)
    (sym c.is_store.ensures ∙ c.if-not-is_store.false) _ number.0 number.1 _ refl c.in_default-place_for.ensures _ refl in
    record { value = call.0; store_after = call.1 }

pub write_cue-requires : goal.write_cue-requires
write_cue-requires c = (
  store_length _ (sym c.is_store.ensures ∙ c.if-not-is_store.false),
  c.in-Some-place_for.ensures.1,
  table-length _ (sym c.is_fair_table.ensures ∙ c.if-not-is_fair_table.false),
)

pub returns : goal.returns
returns c =
    let number = c.in-Some.ensures in
    let place = c.in-Some-place_for.ensures in
    let call = set-done c.args.table.now c.args.store.now c.args.name.now (sym c.is_fair_table.ensures ∙ c.if-not-is_fair_table.false)
    (sym c.is_store.ensures ∙ c.if-not-is_store.false)
    _ number.0 number.1 _ place.0 (λ z. omega (arith, z, place.1)) _ c.write_cue.ensures in
    record { value = call.0; store_after = call.1 }
