-- The table of the output-queued switch, computed on one worked out by hand. Assumes nothing.
use mathlib.Core.List.{[], ◌∷◌, flatten}
use mathlib.Core.Option.{none, some}
use mathlib.Core.Path.{◌≡◌, refl}
use lib.ListN.{take, drop, set}
use Rattle.laws.specs.Lists.{keep, all?, pairwise}
use Rattle.cell.specs.Limits.{fits32, ports_in_range}
use Rattle.model.specs.Oq.{all_buffered, sound_oq}
use Rattle.model.specs.Sound.{other_crosspoint, other_slot, sound, sound_entry, sound_section, sound_sections, together}
use Rattle.model.specs.State.{buffered, Switch, is_listed, is_crossed, is_buffered}
use Rattle.layout.specs.Number.{bytes_of, number_of, number_at, word, same_bytes}
use Rattle.layout.specs.Oq.{encode_oq, state_of_oq, decode_oq}
use Rattle.layout.specs.Table.{place_byte, place_of, entry_bytes, entry_of, entries_bytes, entries_of, section_bytes}
use Rattle.layout.specs.Table.{sections_bytes, counts_bytes, sections_of, encode, state_of}
use Rattle.layout.proofs.Oq.{decode_oq-encode_oq}

-- N = 2, the next slot is 7, and one cell waits in the buffer of output 0: of input 1, flow 5, rank 258, tag 9, slot 6
abbrev pub one : Switch
one =
    record {
      ports = 2;
      clock = 7;
      sections =
          []
          ∷ (record {
            cell = record { input = 1; output = 0; flow = 5; rank = 258; tag = 9; slot = 6 };
            place = buffered;
          }
          ∷ [])
          ∷ [];
    }

-- The first bytes: the number 101, then a table: its layout 1, N, the clock, four zeros, and the counts of sixteen
-- inputs. The section of input 1 begins behind these and the 1024 bytes of input 0's: the output, the flow, the place 3
-- (a buffer), a zero, then the rank, the tag and the slot in four bytes each.
pub table-bytes :
    (take 36 (encode_oq one)
    ≡ 101 ∷ 0 ∷ 0 ∷ 0 ∷ 1 ∷ 0 ∷ 0 ∷ 0 ∷ 2 ∷ 0 ∷ 0 ∷ 0 ∷ 7 ∷ 0 ∷ 0 ∷ 0 ∷ 0 ∷ 0 ∷ 0 ∷ 0
    ∷ 0 ∷ 1 ∷ 0 ∷ 0 ∷ 0 ∷ 0 ∷ 0 ∷ 0 ∷ 0 ∷ 0 ∷ 0 ∷ 0 ∷ 0 ∷ 0 ∷ 0 ∷ 0 ∷ [])
    × (take 16 (drop 1060 (encode_oq one)) ≡ 0 ∷ 5 ∷ 3 ∷ 0 ∷ 2 ∷ 1 ∷ 0 ∷ 0 ∷ 9 ∷ 0 ∷ 0 ∷ 0 ∷ 6 ∷ 0 ∷ 0 ∷ 0 ∷ [])
unfolding encode_oq encode bytes_of counts_bytes sections_bytes section_bytes entries_bytes entry_bytes place_byte
table-bytes = (refl, refl)

-- It is the table of that state. With another number it is none, and so it is with the cell in its list or at its
-- crosspoint.
pub table-read :
    (decode_oq (encode_oq one) ≡ some one)
    × (decode_oq (set (encode_oq one) 0 100) ≡ none)
    × (decode_oq (set (encode_oq one) 1062 1) ≡ none)
    × (decode_oq (set (encode_oq one) 1062 2) ≡ none)
unfolding encode_oq encode bytes_of counts_bytes sections_bytes section_bytes entries_bytes entry_bytes place_byte decode_oq
    state_of_oq state_of word number_at number_of sections_of entries_of entry_of place_of same_bytes sound_oq sound all_buffered
    sound_sections sound_section sound_entry ports_in_range fits32 together other_slot other_crosspoint is_listed is_crossed is_buffered
    keep all? pairwise flatten
table-read = (decode_oq-encode_oq one refl, refl, refl, refl)
