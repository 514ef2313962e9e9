-- The place that has the name, or the first free one.
use Rattle.std.proofs.Common.{◌≡◌, ◌∙◌, sym, refl, arith}
use Rattle.cue_store.specs.Code.{place_of, place_for}
use Rattle.cue_store.proofs.PlaceLoops.{for-held, for-new}
use Rattle.cue_store.proofs.place.place_for.Goals as goal

pub returns-in-Some : goal.returns-in-Some
returns-in-Some c =
    let held = c.in-Some.ensures in
    (held.0 ∙ sym (for-held _ _ _ held.0 held.1), held.1)

pub returns-in-None : goal.returns-in-None
returns-in-None c =
    let a = c.args in
    let free : place_for a.store.now a.number ≡ place_of a.store.now 0 =
    for-new _ _ _ refl (omega (arith, c.in-None.ensures)) in
    rw free c.place_of-in-None.ensures
