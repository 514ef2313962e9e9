-- The numbers of names, computed on rows worked out by hand. Assumes nothing.
use mathlib.Core.Bool.{true, false}
use mathlib.Core.List.{[], ◌∷◌}
use mathlib.Core.Path.{◌≡◌, refl}
use lib.ListN.{replicate}
use Rattle.laws.specs.Lists.{all?}
use Rattle.model.specs.Cues.{is_letter, well_named}
use Rattle.layout.specs.Number.{bytes_of, number_of, same_bytes}
use Rattle.layout.specs.Stores.{name_bytes, name_of}
use Rattle.cue_store.specs.Names.{name_number, is_name}

-- ab is 97 + 256 · 98; no letter, nine letters and a zero behind a letter are 0. A letter behind a zero is no name's number.
pub numbers-given :
    (name_number (97 ∷ 98 ∷ []) ≡ 25185)
    × (name_number [] ≡ 0)
    × (name_number (replicate 9 97) ≡ 0)
    × (name_number (97 ∷ 0 ∷ []) ≡ 0)
    × (is_name 25185 ≡ true)
    × (is_name 0 ≡ false)
    × (is_name 6422625 ≡ false)
unfolding all? is_letter well_named name_bytes name_of bytes_of number_of same_bytes name_number is_name
numbers-given = (refl, refl, refl, refl, refl, refl, refl)
