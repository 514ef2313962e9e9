-- What the look for the place found, else the cue's place is freed.
use Rattle.std.proofs.Common.{refl}
use Rattle.std.proofs.lemmas.Result.{err_from_is_err_and}
use Rattle.crossbar.proofs.CueCalls.{drop-nowhere, drop-done, store_length}
use Rattle.crossbar.proofs.cues.drop.Goals as goal

pub clear_cue-requires : goal.clear_cue-requires
clear_cue-requires c = (store_length _ c.in_ok-place.ensures.sound, c.in_ok-place.ensures.inside)

pub returns : goal.returns
returns c =
    let call = drop-done c.args.store.now c.args.name.now _ c.in_ok-place.ensures _ c.clear_cue.ensures in
    record { value = call.0; store_after = call.1 }

pub returns-in_err-place : goal.returns-in_err-place
returns-in_err-place c =
    let p = err_from_is_err_and c.from_residual.result c.from_residual.ensures.1 in
    let call = drop-nowhere c.args.store.now c.args.name.now c.in_err-place.field-0.0 _ c.in_err-place.ensures refl in
    rw (p.1, p.2) (record { value = call.0; store_after = call.1 })
