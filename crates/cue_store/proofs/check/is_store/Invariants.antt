-- The places not yet looked at have the answer of the whole.
use Rattle.std.proofs.Common.{◌≡◌}
use Rattle.laws.specs.Lists.{all?, between}
use Rattle.model.specs.Cues.{cue_limit}
use Rattle.layout.specs.Cues.{is_store}
use Rattle.cue_store.specs.Code.{is_place}
use Rattle.cue_store.proofs.check.is_store.Given as goal

abbrev pub invariant-loop-k : goal.invariant-loop-k
invariant-loop-k l = is_store l.store ≡ all? (is_place l.store) (between l.k cue_limit)
