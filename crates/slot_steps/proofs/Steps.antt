-- One move: where there is no cell, nothing changes; and what a move takes from a table is the same in one that keeps it.
use Prim.Native.Nat.{ℕ, ◌/◌, ◌≤◌}
use native.Mathlib.Omega.{arith}
use mathlib.Core.Bool.{Bool, true, false}
use mathlib.Core.Path.{◌≡◌, sym, ◌∙◌, ap}
use mathlib.Core.Logic.{◌⊎◌, inl, inr}
use mathlib.Core.List.{List, []}
use borrow.Author.Tests.{ltb-true, ltb-false}
use lib.Dec.{ltb}
use lib.ListN.{length, get_or, set}
use lib.Seq.{set_out, set-get_or}
use Rattle.laws.proofs.Tests.{either}
use Rattle.cell.specs.Limits.{section_room}
use Rattle.layout.specs.Entry.{entry_at}
use Rattle.layout.specs.Table.{table_size}
use Rattle.layout_table.specs.CodeEntries.{nowhere, better_of}
use Rattle.layout_table.proofs.Better.{better-none}
use Rattle.slot_view.specs.CodeView.{cross_with, Square}
use Rattle.slot_view.specs.CodeViewed.{no_key, key_at}
use Rattle.slot_view.proofs.Placing.{Kept, placed_past}
use Rattle.slot_steps.specs.CodeSteps.{left, heads_left, left_heads, entered, mark_of, Straight, Crossed, Taken}
use Rattle.slot_steps.proofs.Rules.{mark-none}

------------------------------------------------------------------------
-- no cell

module _ (cross : List (List ℕ)) (square : Square cross) where
  -- a number that no entry has changes nothing
  pub cross-nowhere : (i o k : ℕ) → 16 ≤ i → cross_with cross i o k ≡ cross
  unfolding cross_with
  cross-nowhere i o k h = set_out cross i (set (get_or cross i []) o k) (let s = square.rows in omega arith)

  pub cross-past : (i o k : ℕ) → 16 ≤ o → cross_with cross i o k ≡ cross
  unfolding cross_with
  cross-past i o k h = go (either (ltb i 16))
    where
      go : (ltb i 16 ≡ true) ⊎ (ltb i 16 ≡ false) → set cross i (set (get_or cross i []) o k) ≡ cross
      go (inl t) =
          let row : length (get_or cross i []) ≡ 16 = square.columns i (ltb-true _ _ t) in
          ap (set cross i) (set_out (get_or cross i []) o k (omega arith)) ∙ set-get_or cross i []
      go (inr t) =
          let past : 16 ≤ i = ltb-false _ _ t in
          set_out cross i (set (get_or cross i []) o k) (omega (arith, square.rows))

pub entered-none : (table best : List ℕ) (k : ℕ) → nowhere ≤ k → entered table best k ≡ best
unfolding entered
entered-none table best k h =
    let output = (entry_at table k).cell.output in
    ap (set best output) (better-none table (get_or best output 0) k h) ∙ set-get_or best output 0

module _ (k : ℕ) (none : nowhere ≤ k) where
  pub left-none : (listed : List ℕ) → length listed ≡ 16 → left listed k ≡ listed
  unfolding left
  left-none listed size = set_out listed (k / section_room) _ (omega arith)

  pub left_heads-none : (table listed heads : List ℕ) → length heads ≡ 16 → left_heads table listed heads k ≡ heads
  unfolding left_heads
  left_heads-none table listed heads size = set_out heads (k / section_room) _ (omega arith)

  mark-past : (marks : List Bool) (output : ℕ) → length marks ≡ 16 → set marks (mark_of k output) true ≡ marks
  mark-past marks output size =
      ap (λ o. set marks o true) (mark-none k output none) ∙ set_out marks 16 true (omega arith)

  module _ (table best : List ℕ) (size : length table ≡ table_size) where
    pub straight_none : (output : ℕ) (listed heads : List ℕ) (inputs outputs : List Bool) → length listed ≡ 16
        → length heads ≡ 16 → length inputs ≡ 16 → length outputs ≡ 16
        → Straight table k output table listed listed heads heads best best inputs inputs outputs outputs
    straight_none output listed heads inputs outputs l h i o =
        record {
          to-buffer = sym (placed_past table k 3 size none);
          left-list = sym (left-none listed l);
          left-heads = sym (left_heads-none table listed heads h);
          best-in = sym (entered-none table best k none);
          from-input = sym (set_out inputs (k / section_room) true (omega arith));
          to-output = sym (mark-past outputs output o);
        }

    module _ (cross keys : List (List ℕ)) (square : Square cross) (keyed : Square keys) where
      pub crossed-none : (listed heads : List ℕ) → length listed ≡ 16 → length heads ≡ 16
          → Crossed table k table listed listed heads heads cross cross keys keys best best
      crossed-none listed heads l h =
          record {
            to-crosspoint = sym (placed_past table k 2 size none);
            left-list = sym (left-none listed l);
            left-heads = sym (left_heads-none table listed heads h);
            filled = sym (cross-nowhere cross square (k / section_room) _ k (omega arith));
            keyed = sym (cross-past keys keyed _ (k / section_room) (key_at table k) (omega arith));
            best-in = sym (entered-none table best k none);
          }

      pub taken_none : (output : ℕ) → Taken table k output table cross cross keys keys best best
      taken_none output =
          record {
            to-buffer = sym (placed_past table k 3 size none);
            emptied = sym (cross-nowhere cross square (k / section_room) output nowhere (omega arith));
            unkeyed = sym (cross-past keys keyed output (k / section_room) no_key (omega arith));
            best-in = sym (entered-none table best k none);
          }

------------------------------------------------------------------------
-- the same cells

module _ {old new : List ℕ} (kept : Kept old new) where
  better-kept : (held k : ℕ) → better_of new held k ≡ better_of old held k
  unfolding better_of
  better-kept held k = rw (kept.ports, kept.cells k, kept.cells held)

  pub entered-kept : (best : List ℕ) (k : ℕ) → entered new best k ≡ entered old best k
  unfolding entered
  entered-kept best k =
      ap (λ c. set best c.output (better_of new (get_or best c.output 0) k)) (kept.cells k)
      ∙ ap (set best (entry_at old k).cell.output) (better-kept (get_or best (entry_at old k).cell.output 0) k)

  pub left_heads-kept : (listed heads : List ℕ) (k : ℕ) → left_heads new listed heads k ≡ left_heads old listed heads k
  unfolding left_heads heads_left
  left_heads-kept listed heads k = simp kept.cells
