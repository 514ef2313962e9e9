-- So far the header and the first `k` places stand in the new layout.
use Rattle.std.proofs.Common.{◌≡◌, length, take}
use Rattle.layout.specs.Cues.{store_size}
use Rattle.cue_store.specs.Code.{place_start}
use Rattle.cue_store.specs.CodeOlder.{new_up_to}
use Rattle.cue_store.proofs.older.write_new.Given as goal

abbrev pub invariant-loop-k : goal.invariant-loop-k
invariant-loop-k l = (length l.store ≡ store_size) × (take (place_start l.k) l.store ≡ new_up_to l.k l.old)
