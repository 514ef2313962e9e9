-- What the bytes of a table hold.
--     table-sound, -encode, -length, -ports, -clock    what it is to be a table
--     section-length, section-entry                    a section, its entries by their numbers
use Prim.Native.Nat.{ℕ, ◌+◌, ◌*◌, ◌≤◌, ◌<◌}
use mathlib.Core.Bool.{true}
use mathlib.Core.Path.{◌≡◌, refl, sym, ◌∙◌}
use mathlib.Core.List.{List}
use native.Mathlib.Omega.{arith}
use lib.ListN.{length, get_or}
use Rattle.cell.specs.Limits.{section_room, port_limit}
use Rattle.model.specs.State.{Entry}
use Rattle.model.specs.Sound.{sound}
use Rattle.model.proofs.SoundLaws.{SoundSection, sound-e, sections-e}
use Rattle.layout.specs.Entry.{entry_at, clock_in, count_in}
use Rattle.layout.specs.Number.{word}
use Rattle.layout.specs.Table.{state_of, encode, table_size, IsTable}
use Rattle.layout.proofs.Records.{state_of-entry}
use Rattle.layout.proofs.Table.{decode-sound, encode-decode, decode-length, sound-ports, sound-length}
use Rattle.layout.specs.Code.{ports_in}
use Rattle.slot_faults.specs.CodeFault.{section_in}
use Rattle.slot_view.proofs.Placed.{decode-count, decode-count-few}

------------------------------------------------------------------------
-- a table

module _ (bs : List ℕ) (t : IsTable bs) where
  pub table-sound : sound (state_of bs) ≡ true
  table-sound = decode-sound bs (state_of bs) t

  pub table-encode : encode (state_of bs) ≡ bs
  table-encode = encode-decode bs (state_of bs) t

  pub table-length : length bs ≡ table_size
  table-length = decode-length bs (state_of bs) t

  pub table-ports : (state_of bs).ports ≡ ports_in bs
  unfolding state_of ports_in
  table-ports = refl

  pub table-clock : (state_of bs).clock ≡ clock_in bs
  unfolding state_of clock_in
  table-clock = refl

  pub ports-below : ports_in bs ≤ port_limit
  ports-below = omega (arith, sound-ports (state_of bs) table-sound, table-ports)

  pub sections-number : length (state_of bs).sections ≡ ports_in bs
  sections-number = sound-length (state_of bs) table-sound ∙ table-ports

  pub section-sound : (i : ℕ) → SoundSection (state_of bs).ports (state_of bs).clock i (section_in bs i)
  section-sound i = sections-e _ _ (state_of bs).sections (sound-e (state_of bs) table-sound).sections i

  module _ (i : ℕ) (within : i < ports_in bs) where
    -- it has as many entries as the header says
    pub section-length : length (section_in bs i) ≡ count_in bs i
    section-length =
        let few : ports_in bs ≤ port_limit = ports-below in
        sym (decode-count bs (state_of bs) t i (omega arith))

    pub count-below : count_in bs i ≤ section_room
    count-below =
        let few : ports_in bs ≤ port_limit = ports-below in
        decode-count-few bs (state_of bs) t i (omega arith)

    -- and its entry j is the table's entry 64 i + j
    pub section-entry : (j : ℕ) (d : Entry) → j < count_in bs i
        → get_or (section_in bs i) j d ≡ entry_at bs (section_room * i + j)
    unfolding ports_in
    section-entry j d h =
        let few : word bs 4 ≤ port_limit = ports-below in
        state_of-entry bs i j d (λ i b. decode-count-few bs (state_of bs) t i (omega arith)) within h
