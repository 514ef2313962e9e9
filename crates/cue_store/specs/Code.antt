-- What the code asks of a cue store's bytes: its four places by number.
use Rattle.std.specs.Prelude.{ℕ, ◌+◌, ◌*◌, Bool, true, false, ◌&&◌, List, eqb, ltb, take, drop, replicate}
use Rattle.laws.specs.Lists.{up_to}
use Rattle.model.specs.Cues.{cue_limit, name_limit, first_place}
use Rattle.layout.specs.Frame.{is_fair_table}
use Rattle.layout.specs.Cues.{place_size}
use Rattle.layout.specs.Fair.{fair_number, fair_size}
use Rattle.layout.specs.Number.{number_at, same_bytes, word}
use Rattle.layout.specs.Stores.{store_header_size}
use Rattle.cue_store.specs.Names.{is_name}

-- the first byte of a place
abbrev pub place_start : ℕ → ℕ
place_start k = store_header_size + place_size * k

-- the number that the bytes of its name stand for, and the bytes of its table
unfoldable pub name_at : List ℕ → ℕ → ℕ
name_at store k = number_at 8 (place_start k) store

unfoldable pub table_at : List ℕ → ℕ → List ℕ
table_at store k = take fair_size (drop (place_start k + name_limit) store)

-- the first place with a name of this number, which is 0 for a free place; 4 if there is none
unfoldable pub place_of : List ℕ → ℕ → ℕ
place_of store n = first_place (λ k. eqb (name_at store k) n) (up_to cue_limit)

-- the place for a cue whose name has this number: the one that has it, else the first free one
unfoldable pub place_for : List ℕ → ℕ → ℕ
place_for store n = elim (ltb (place_of store n) cue_limit) [ true ↦ place_of store n | false ↦ place_of store 0 ]

-- a free place is zeros; any other has a name, which no place before it has, and a table
unfoldable pub is_place : List ℕ → ℕ → Bool
is_place store k =
    elim (eqb (name_at store k) 0) [
      | true ↦ same_bytes (replicate fair_size 0) (table_at store k)
      | false ↦ is_name (name_at store k) && (eqb (place_of store (name_at store k)) k && is_fair_table (table_at store k))
    ]

-- the layout's number, then zeros
unfoldable pub is_header : List ℕ → Bool
is_header store = eqb (word store 0) fair_number && same_bytes (replicate 12 0) (take 12 (drop 4 store))
