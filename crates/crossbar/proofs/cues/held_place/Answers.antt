-- 2, then 11, then 13, else the place.
use Rattle.std.proofs.Common.{◌∙◌, sym}
use Rattle.crossbar.proofs.CueCalls.{held-broken, held-badly-named, held-nowhere, held-at, store_length}
use Rattle.crossbar.proofs.cues.held_place.Goals as goal

pub returns-then-not-is_store : goal.returns-then-not-is_store
returns-then-not-is_store c =
    held-broken c.args.store.now c.args.name.now (sym c.is_store.ensures ∙ c.if-not-is_store.true)

pub returns-in_default : goal.returns-in_default
returns-in_default c =
    held-badly-named c.args.store.now c.args.name.now (sym c.is_store.ensures ∙ c.if-not-is_store.false) c.in_default.ensures

pub place_of-requires : goal.place_of-requires
place_of-requires c = store_length _ (sym c.is_store.ensures ∙ c.if-not-is_store.false)

pub returns-in_default-place_of : goal.returns-in_default-place_of
returns-in_default-place_of c =
    let number = c.in-Some.ensures in
    held-nowhere c.args.store.now c.args.name.now (sym c.is_store.ensures ∙ c.if-not-is_store.false)
    _ number.0 number.1 c.in_default-place_of.ensures

pub returns : goal.returns
returns c =
    let number = c.in-Some.ensures in
    let place = c.in-Some-place_of.ensures in
    held-at c.args.store.now c.args.name.now (sym c.is_store.ensures ∙ c.if-not-is_store.false)
    _ number.0 number.1 _ place.0 place.1
