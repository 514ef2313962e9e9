-- Output priority between the entries of a table, by their keys.
use Prim.Native.Nat.{ℕ, ◌+◌, ◌<◌, ◌^◌}
use native.Mathlib.Omega.{arith}
use mathlib.Core.Bool.{true, ◌&&◌, ◌||◌}
use mathlib.Core.Path.{◌≡◌, sym, ◌∙◌, ap, ap₂}
use mathlib.Core.Logic.{◌≢◌}
use mathlib.Core.List.{List}
use borrow.Author.Tests.{eq-eqb, ne_eqb, le-ltb}
use lib.Dec.{ltb, eqb}
use lib.ListN.{length}
use Rattle.cell.specs.declared.Cell.{Cell}
use Rattle.cell.specs.Order.{over, key, wins_tie}
use Rattle.cell.proofs.Keys.{over-key}
use Rattle.laws.proofs.Tests.{and-false-l}
use Rattle.layout.specs.Entry.{entry_at}
use Rattle.layout.specs.Code.{record_start, ports_in}
use Rattle.layout.specs.Table.{table_size, entry_limit}
use Rattle.layout.proofs.Number.{bytes?, word_fits, fits32-below}
use Rattle.layout.proofs.Records.{entry_at-slot}
use mathlib.Core.Bool.{or-false}
use Rattle.cell.specs.Limits.{fits32}

-- a slot fits its four bytes
pub slot-below : (table : List ℕ) → length table ≡ table_size → bytes? table ≡ true → (k : ℕ) → k < entry_limit
    → (entry_at table k).cell.slot < 2 ^ 32
slot-below table size bytes k h =
    fits32-below (entry_at table k).cell.slot
    (ap fits32 (entry_at-slot table k) ∙ word_fits table (record_start k + 12) bytes (omega arith))

-- and so does the number of ports
pub ports-below : (table : List ℕ) → length table ≡ table_size → bytes? table ≡ true → ports_in table < 2 ^ 32
unfolding ports_in
ports-below table size bytes = fits32-below (ports_in table) (word_fits table 4 bytes (omega arith))

module _ (ports : ℕ) (c d : Cell) (slot : c.slot < 2 ^ 32) (other : d.slot < 2 ^ 32) where
  -- different keys decide
  pub over-keys : key c ≢ key d → ltb (key c) (key d) ≡ over ports c d
  over-keys h =
      sym (over-key ports c d slot other
      ∙ ap (λ b. ltb (key c) (key d) || b) (and-false-l (eqb (key c) (key d)) (wins_tie ports c d) (ne_eqb _ _ h))
      ∙ or-false (ltb (key c) (key d)))

  -- between equal ones the tie does
  pub over-tie : key c ≡ key d → wins_tie ports c d ≡ over ports c d
  over-tie h =
      sym (over-key ports c d slot other
      ∙ ap₂ (λ a b. a || (b && wins_tie ports c d)) (le-ltb (key c) (key d) (omega arith)) (eq-eqb _ _ h))
