-- The definitions of a cue store's bytes, computed on rows worked out by hand. Assumes nothing.
use mathlib.Core.List.{[], ◌∷◌}
use mathlib.Core.Option.{none}
use mathlib.Core.Path.{◌≡◌, refl}
use lib.ListN.{replicate}
use Rattle.layout.specs.Cues.{place_size, store_size, old_store_size, cue_of}
use Rattle.layout.specs.Number.{bytes_of}
use Rattle.layout.specs.Stores.{name_bytes, name_of, cue_by, pieces, store_header}

-- the name ab in eight bytes, and read back; a byte behind a zero is no part of a name; a place that begins with zeros is free
pub names-stored :
    (name_bytes (97 ∷ 98 ∷ []) ≡ 97 ∷ 98 ∷ 0 ∷ 0 ∷ 0 ∷ 0 ∷ 0 ∷ 0 ∷ [])
    × (name_bytes (replicate 8 122) ≡ replicate 8 122)
    × (name_of (97 ∷ 98 ∷ 0 ∷ 0 ∷ 0 ∷ 0 ∷ 0 ∷ 0 ∷ []) ≡ 97 ∷ 98 ∷ [])
    × (name_of (97 ∷ 0 ∷ 98 ∷ []) ≡ 97 ∷ [])
    × (cue_of (replicate 12 0) ≡ none)
unfolding name_bytes name_of cue_by
names-stored = (refl, refl, refl, refl, refl)

-- the header, the sizes, and pieces one after the other
pub store-parts :
    (store_header 2 ≡ 2 ∷ replicate 15 0)
    × (place_size ≡ 24688)
    × (store_size ≡ 98768)
    × (old_store_size ≡ 65712)
    × (pieces 2 3 (1 ∷ 2 ∷ 3 ∷ 4 ∷ 5 ∷ 6 ∷ []) ≡ (1 ∷ 2 ∷ []) ∷ (3 ∷ 4 ∷ []) ∷ (5 ∷ 6 ∷ []) ∷ [])
unfolding store_header bytes_of pieces
store-parts = (refl, refl, refl, refl, refl)
