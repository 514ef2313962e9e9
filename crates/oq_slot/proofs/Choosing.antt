-- The cells of a table that all wait in buffers, input by input.
--     in_buffer_lem       each entry is in the buffer of its output
--     best-section    behind the entries of an input comes no cell before the next input's
use Prim.Native.Nat.{ℕ, ◌+◌, ◌*◌, ◌/◌, ◌<◌}
use native.Mathlib.Omega.{arith}
use mathlib.Core.Bool.{true}
use mathlib.Core.List.Memᴰ
use mathlib.Core.List.{List, map, flatten, Memᴰ}
use mathlib.Core.Path.{◌≡◌, refl, ap, ◌∙◌, subst}
use Rattle.cell.specs.Limits.{section_room}
use Rattle.model.specs.Oq.{all_buffered}
use Rattle.model.specs.State.{Entry}
use Rattle.model.proofs.Numbering.{entry_of, waiting-cells}
use Rattle.model.proofs.OqSound.{all-buffered-mem}
use Rattle.layout.specs.Code.{ports_in}
use Rattle.layout.specs.Entry.{entry_at, count_in}
use Rattle.layout.specs.Table.{state_of, IsTable}
use Rattle.slot_loading.specs.Code.{BestBelow}
use Rattle.slot_loading.proofs.Buffers.{best-wider}
use Rattle.slot_view.specs.CodeView.{InTable, waiting_at, places_in}
use Rattle.slot_view.specs.CodeViewed.{Buffered}
use Rattle.slot_view.proofs.Own.{table-readable, waiting_in-state}
use Rattle.slot_view.proofs.Window.{in_table-i}

module _ (table : List ℕ) (good : IsTable table) where
  pub in_buffer_lem : all_buffered (state_of table) ≡ true → (k : ℕ) → InTable table k
      → Buffered table (places_in table) (entry_at table k).cell.output k
  unfolding waiting_at
  in_buffer_lem all k t = record { entry = t; place = all-buffered-mem (state_of table) all own mem; goes = refl }
    where
      own : Entry
      own = entry_of (waiting_at table (places_in table) k)

      mem : Memᴰ own (flatten (state_of table).sections)
      mem =
          subst (Memᴰ own)
          (ap (map entry_of) (waiting_in-state table good) ∙ waiting-cells (state_of table).sections)
          (Memᴰ.map entry_of (in_table-i table (places_in table) (table-readable table good) k t))

  pub best-section : (input : ℕ) → input < ports_in table → (best rivals : List ℕ)
      → BestBelow table (places_in table) (section_room * input + count_in table input) best rivals
      → BestBelow table (places_in table) (section_room * (input + 1)) best rivals
  best-section input port best rivals w =
      let r = table-readable table good in
      let few = r.counts input (omega (arith, r.ports)) in
      best-wider (omega arith)
      (λ o k low high b.
      let own : k / section_room ≡ input = omega arith in
      let last : k < section_room * input + count_in table input = rw own at b.entry.position in
      omega arith)
      w
