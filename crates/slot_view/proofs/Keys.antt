-- The key of a number: that of its cell, and for no cell the highest.
--     key_at-cell, key_at-none    the key of a cell's number, and of none
--     key_below                 a cell's key is below that of none
use Prim.Native.Nat.{ℕ, ◌+◌, ◌^◌, ◌≤◌, ◌<◌}
use native.Mathlib.Omega.{arith}
use mathlib.Core.Bool.{true}
use mathlib.Core.List.{List}
use mathlib.Core.Path.{◌≡◌, ◌∙◌, ap}
use borrow.Author.Tests.{lt-ltb, le-ltb}
use Rattle.cell.specs.Limits.{fits32}
use Rattle.cell.specs.Order.{key}
use Rattle.layout.specs.Code.{record_start}
use Rattle.layout.specs.Entry.{entry_at}
use Rattle.layout.proofs.Number.{bytes?, word_fits, fits32-below}
use Rattle.layout.proofs.Records.{entry_at-rank}
use Rattle.layout_table.specs.CodeEntries.{nowhere}
use Rattle.slot_view.specs.CodeScan.{Readable}
use Rattle.slot_view.specs.CodeView.{InTable}
use Rattle.slot_view.specs.CodeViewed.{no_key, key_at}
use Rattle.slot_view.proofs.Window.{in_table-below}

module _ (table : List ℕ) where
  pub key_at-cell : (k : ℕ) → k < nowhere → key_at table k ≡ key (entry_at table k).cell
  unfolding key_at
  key_at-cell k h = rw (lt-ltb k nowhere h)

  pub key_at-none : (k : ℕ) → nowhere ≤ k → key_at table k ≡ no_key
  unfolding key_at
  key_at-none k h = rw (le-ltb k nowhere h)

  pub key_below : Readable table → bytes? table ≡ true → (k : ℕ) → InTable table k → key (entry_at table k).cell < no_key
  key_below r bytes k t =
      let small = in_table-below r t in
      let rank : (entry_at table k).cell.rank < 2 ^ 32 =
      fits32-below (entry_at table k).cell.rank
      (ap fits32 (entry_at-rank table k) ∙ word_fits table (record_start k + 4) bytes (omega (arith, r.size))) in
      omega (arith, r.early k t)
