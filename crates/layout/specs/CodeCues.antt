-- The cues of a store and their bytes, as the code's proofs name them.
use Rattle.std.specs.Prelude.{ℕ, List}
use Rattle.std.proofs.Math.Option.{Option}
use Rattle.model.specs.Cues.{Cue, Cues}
use Rattle.model.specs.Fair.{Fair}
use Rattle.model.specs.State.{Switch}
use Rattle.layout.specs.Cues.{fair_cues, older_cues}
use Rattle.layout.specs.Stores.{place_size_by, cue_bytes_by, cues_by}

abbrev pub cue_bytes : Option (Cue (Fair Switch)) → List ℕ
cue_bytes = cue_bytes_by fair_cues

abbrev pub cues_of : List ℕ → Cues (Fair Switch)
cues_of = cues_by fair_cues

-- a place of an older store
abbrev pub old_place_size : ℕ
old_place_size = place_size_by older_cues
