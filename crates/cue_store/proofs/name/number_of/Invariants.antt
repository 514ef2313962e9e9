-- So far the letters behind those that are left have this number.
use Rattle.std.proofs.Common.{◌≤◌, length}
use Rattle.model.specs.Cues.{name_limit}
use Rattle.cue_store.proofs.NameLoops.{Behind}
use Rattle.cue_store.proofs.name.number_of.Given as goal

abbrev pub invariant-loop-letter : goal.invariant-loop-letter
invariant-loop-letter l =
    (goal.iterator-loop-letter).can_next l.letter-iterator
    × (goal.iterator-loop-letter).is_finite l.letter-iterator
    × (length l.fn.name ≤ name_limit)
    × Behind l.fn.name l.letter-iterator.iter.rest.now l.number
