-- The places that a table itself has, and what is known of its waiting cells.
--     places_in-       the column of them
--     waiting_in-      the waiting cells of a table are those of its state
use Prim.Native.Nat.{ℕ, ◌<◌, ◌≤◌}
use native.Mathlib.Omega.{arith}
use mathlib.Core.Bool.{true}
use mathlib.Core.Path.{◌≡◌, sym, ◌∙◌, ap, subst}
use mathlib.Core.List.{List}
use lib.ListN.{length, get_or}
use Rattle.laws.proofs.Numbers.{numbers_from-at}
use Rattle.model.specs.State.{Switch}
use Rattle.model.specs.Phase.{waiting}
use Rattle.model.specs.CodeSlackness.{Orderly, OneCrosspoint}
use Rattle.model.specs.Sound.{sound_sections}
use Rattle.model.proofs.SoundOrderly.{sound-orderly, sound-one-crosspoint}
use Rattle.layout.specs.Entry.{entry_at}
use Rattle.layout.specs.Code.{ports_in, place_byte_at}
use Rattle.layout.specs.Table.{place_of, state_of, IsTable, entry_limit}
use Rattle.layout.proofs.Records.{entry_at-place}
use Rattle.layout.proofs.Table.{place_byte-range, decode-sound, sound-sections}
use Rattle.slot_view.specs.CodeView.{InTable, InPlace, places_in, waiting_in}
use Rattle.slot_view.specs.CodeScan.{Readable}
use Rattle.slot_view.specs.CodeSections.{sections_placed}
use Rattle.slot_view.proofs.Placed.{length-numbers, decode-readable, decode-place, sections_placed-same, in_table-same}
use Rattle.slot_view.proofs.Window.{in_table-below}

pub length-places_in : (table : List ℕ) → length (places_in table) ≡ entry_limit
unfolding places_in
length-places_in table = length-numbers (place_byte_at table) 0 entry_limit

pub places_in-at : (table : List ℕ) (k : ℕ) → k < entry_limit → get_or (places_in table) k 0 ≡ place_byte_at table k
unfolding places_in
places_in-at table k h =
    numbers_from-at (place_byte_at table) 0 entry_limit k 0 h ∙ ap (place_byte_at table) (omega arith)

module _ (table : List ℕ) (good : IsTable table) where
  abbrev s : Switch
  s = state_of table

  pub table-readable : Readable table
  table-readable = decode-readable table s good

  pub own-place : (k : ℕ) → InTable table k → get_or (places_in table) k 0 ≡ place_byte_at table k
  own-place k t = places_in-at table k (in_table-below table-readable t)

  pub own-kind : (k : ℕ) → InTable table k → place_of (get_or (places_in table) k 0) ≡ (entry_at table k).place
  own-kind k t = ap place_of (own-place k t) ∙ sym (entry_at-place table k)

  pub own-in-place : InPlace table (places_in table)
  own-in-place k t =
      subst (λ b. (1 ≤ b) × (b ≤ 3)) (sym (own-place k t ∙ decode-place table s good k t)) (place_byte-range (entry_at table k).place)

  pub own-sections : sections_placed table (places_in table) ≡ s.sections
  own-sections = sections_placed-same table s good (places_in table) own-place

  pub waiting_in-state : waiting_in table ≡ waiting s.sections
  waiting_in-state = in_table-same table s good (places_in table) own-place

  sound : sound_sections s.ports s.clock 0 s.sections ≡ true
  sound = sound-sections s (decode-sound table s good)

  pub waiting_in-orderly : Orderly (ports_in table) (waiting_in table)
  unfolding ports_in state_of
  waiting_in-orderly =
      subst (Orderly (ports_in table)) (sym waiting_in-state) (sound-orderly s.ports s.clock s.sections sound)

  pub waiting_in-single : OneCrosspoint (waiting_in table)
  waiting_in-single =
      subst OneCrosspoint (sym waiting_in-state) (sound-one-crosspoint s.ports s.clock s.sections sound)
