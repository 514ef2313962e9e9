-- Names of cues as numbers of 64 bits: eight bytes, the first the least significant, filled up with zeros.
use Rattle.std.specs.Prelude.{ℕ, Bool, cond, ◌&&◌, List}
use Rattle.model.specs.Cues.{well_named}
use Rattle.layout.specs.Number.{bytes_of, number_of, same_bytes}
use Rattle.layout.specs.Stores.{name_bytes, name_of}

-- the number of a name: that of its bytes, and 0 where it is not well formed
unfoldable pub name_number : List ℕ → ℕ
name_number name = cond (well_named name) (number_of name) 0

-- whether a number is that of a name
unfoldable pub is_name : ℕ → Bool
is_name n = let name = name_of (bytes_of 8 n) in well_named name && same_bytes (name_bytes name) (bytes_of 8 n)
