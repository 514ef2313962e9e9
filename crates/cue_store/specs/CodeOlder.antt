-- What the code makes of an older cue store: its places in the new layout. They are those of a store exactly if the older
-- bytes are an older store.
use Rattle.std.specs.Prelude.{ℕ, ◌+◌, ◌*◌, Bool, true, false, cond, ◌≡◌, eqb, take, drop, replicate}
use mathlib.Core.List.{List, ◌++◌, map, flatten}
use Rattle.std.proofs.Math.Option.{none, some}
use Rattle.laws.specs.Lists.{up_to}
use Rattle.model.specs.Cues.{cue_limit, name_limit, Cues}
use Rattle.model.specs.State.{Switch}
use Rattle.layout.specs.Cues.{store_bytes, decode_old_store, converted}
use Rattle.layout.specs.CodeCues.{old_place_size}
use Rattle.layout.specs.Fair.{fair_number}
use Rattle.layout.specs.Memory.{word_size, memory_size}
use Rattle.layout.specs.Number.{bytes_of, number_of}
use Rattle.layout.specs.Stores.{store_header_size}

-- the first byte of an older place, and its bytes
abbrev pub old_place_start : ℕ → ℕ
old_place_start k = store_header_size + old_place_size * k

unfoldable pub old_place_at : List ℕ → ℕ → List ℕ
old_place_at old k = take old_place_size (drop (old_place_start k) old)

-- the number of the table at a place whose name has this number: a free place is zeros
unfoldable pub number_for : ℕ → ℕ
number_for n = cond (eqb n 0) 0 fair_number

-- a place in the new layout: the name, the table's number, the older table and no memory
unfoldable pub new_place : List ℕ → List ℕ
new_place p =
    let name = take name_limit p in
    name ++ (bytes_of word_size (number_for (number_of name)) ++ (drop name_limit p ++ replicate memory_size 0))

-- the layout's number and what stood behind the older one's, then so many places
unfoldable pub new_up_to : ℕ → List ℕ → List ℕ
new_up_to k old =
    bytes_of word_size fair_number
    ++ (take 12 (drop word_size old) ++ flatten (map (λ j. new_place (old_place_at old j)) (up_to k)))

abbrev pub new_store : List ℕ → List ℕ
new_store old = new_up_to cue_limit old

-- whether bytes are an older store
unfoldable pub is_old_store : List ℕ → Bool
is_old_store bs = elim (decode_old_store bs) [ some cues ↦ true | none ↦ false ]

-- bytes are the new store of an older one, where that is one
abbrev pub Converted : List ℕ → List ℕ → Type 0
Converted old store = (cues : Cues Switch) → decode_old_store old ≡ some cues → store ≡ store_bytes (converted cues)
