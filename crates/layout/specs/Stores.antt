-- The bytes of a cue store, whichever table its cues hold. A header of 16 bytes, the layout's number and zeros, then four
-- places, each the name in eight bytes, padded with zeros, and the table of the switch that the cue holds; a free place is
-- zeros. A store is the bytes of one sound store of cues, and each of these has one.
use Rattle.std.specs.Prelude.{ℕ, zero, suc, ◌+◌, ◌*◌, ◌-◌, Bool, true, false, cond, ◌&&◌, eqb, length, take, drop, replicate}
use mathlib.Core.List.{List, [], ◌∷◌, ◌++◌, map, flatten}
use Rattle.std.proofs.Math.Option.{Option, none, some}
use Rattle.model.specs.Cues.{cue_limit, name_limit, Cue, Cues, sound_cues}
use Rattle.layout.specs.Number.{bytes_of, same_bytes}

-- A store's layout: its number, and of the tables in it the size, the bytes of a switch, the switch that bytes would stand
-- for, whatever they are, and which switches are sound.
pub record Layout (S : Type 0) : Type 0 where
  pub number : ℕ
  pub size : ℕ
  pub bytes : S → List ℕ
  pub state : List ℕ → S
  pub sound : S → Bool

abbrev pub store_header_size : ℕ
store_header_size = 16

-- a name, then zeros
unfoldable pub name_bytes : List ℕ → List ℕ
name_bytes name = name ++ replicate (name_limit - length name) 0

-- the bytes before the first zero
unfoldable pub name_of : List ℕ → List ℕ
name_of [] = []
name_of (b ∷ bs) = cond (eqb b 0) [] (b ∷ name_of bs)

-- so many pieces of a size, one after the other
unfoldable pub pieces : ℕ → ℕ → List ℕ → List (List ℕ)
pieces size zero bs = []
pieces size (suc n) bs = take size bs ∷ pieces size n (drop size bs)

-- a layout's number, then zeros
unfoldable pub store_header : ℕ → List ℕ
store_header number = bytes_of 4 number ++ replicate 12 0

module _ {S : Type 0} (l : Layout S) where
  abbrev pub place_size_by : ℕ
  place_size_by = name_limit + l.size

  abbrev pub store_size_by : ℕ
  store_size_by = store_header_size + cue_limit * place_size_by

  unfoldable pub cue_bytes_by : Option (Cue S) → List ℕ
  cue_bytes_by none = replicate place_size_by 0
  cue_bytes_by (some c) = name_bytes c.name ++ l.bytes c.switch

  unfoldable pub store_bytes_by : Cues S → List ℕ
  store_bytes_by cues = store_header l.number ++ flatten (map cue_bytes_by cues)

  -- the cue that the bytes of a place would stand for, whatever they are: none without a name
  unfoldable pub cue_by : List ℕ → Option (Cue S)
  cue_by bs =
      let name = name_of (take name_limit bs) in
      elim (eqb (length name) 0) [ true ↦ none | false ↦ some (record { name = name; switch = l.state (drop name_limit bs) }) ]

  -- the cues that bytes would stand for, whatever they are
  unfoldable pub cues_by : List ℕ → Cues S
  cues_by bs = map cue_by (pieces place_size_by cue_limit (drop store_header_size bs))

  -- the cues of a store; none if the bytes are no store of sound cues
  unfoldable pub decode_by : List ℕ → Option (Cues S)
  decode_by bs =
      let cues = cues_by bs in
      elim (sound_cues l.sound cues && same_bytes (store_bytes_by cues) bs) [ true ↦ some cues | false ↦ none ]
