-- The answer is that for the places not yet looked at.
use Rattle.std.proofs.Common.{◌≡◌}
use Rattle.cue_store.specs.Code.{place_of}
use Rattle.cue_store.proofs.PlaceLoops.{place_from}
use Rattle.cue_store.proofs.place.place_of.Given as goal

abbrev pub invariant-loop-k : goal.invariant-loop-k
invariant-loop-k l = place_of l.store l.number ≡ place_from l.store l.number l.k
