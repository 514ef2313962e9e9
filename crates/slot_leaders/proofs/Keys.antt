-- The best crosspoint cell of an output by its row of keys.
--     leading-keys             the least keys are those of the cells whose numbers are held
--     leading-bests            and these cells are the best
--     leading-more             output by output
use Prim.Native.Nat.{ℕ, ◌+◌, ◌%◌, ◌<◌, ◌≤◌, ◌^◌}
use native.Mathlib.Nat.{min-eq_left, min-eq_right}
use native.Mathlib.Omega.{arith}
use mathlib.Core.Bool.{true}
use mathlib.Core.Path.{◌≡◌, refl, sym, ◌∙◌, ap, ap₂, subst}
use mathlib.Core.Logic.{◌⊎◌, inl, inr}
use mathlib.Core.List.{List, [], Memᴰ}
use borrow.Author.Tests.{lt-ltb}
use lib.ListN.{length, get_or, set, length-set}
use Rattle.cell.specs.Order.{first_in_turn, in_turn, over, key}
use Rattle.laws.proofs.Compared.{Compared, below, equal, above, compare}
use Rattle.model.specs.Phase.{Waiting}
use Rattle.layout.specs.Entry.{entry_at}
use Rattle.layout.specs.Code.{ports_in}
use Rattle.layout.proofs.Number.{bytes?}
use Rattle.layout_table.specs.CodeEntries.{nowhere}
use Rattle.layout_table.proofs.Keys.{over-keys, over-tie}
use Rattle.slot_view.specs.CodeView.{crosspoint_at, InTable}
use Rattle.slot_view.specs.CodeChoices.{best_of, empty, best}
use Rattle.slot_view.specs.CodeScan.{Readable, Holds, Bests}
use Rattle.slot_view.specs.CodeViewed.{key_at, Keyed}
use Rattle.slot_view.proofs.Keys.{key_at-cell, key_at-none, key_below}
use Rattle.slot_leaders.specs.CodeKeys.{Leading, LeadingTo}
use Rattle.slot_leaders.proofs.Columns.{set_both}
use Rattle.slot_leaders.proofs.Leaders.{LeastIn, least-all}
use Rattle.slot_leaders.proofs.Best.{Crossed, BestUpTo, held-input, port, best_of_lem}

module _ (table : List ℕ) (r : Readable table) (bytes : bytes? table ≡ true) where
  slot_of : (k : ℕ) → InTable table k → (entry_at table k).cell.slot < 2 ^ 32
  slot_of k t = omega (arith, r.early k t)

  ------------------------------------------------------------------------
  -- the best of an output

  module _ (cross keys : List (List ℕ)) (keyed : Keyed table cross keys) {output number least : ℕ} (o : output < 16)
      (leading : Leading (ports_in table) cross keys output number least) where
    abbrev row : List ℕ
    row = get_or keys output []

    row_at : (i : ℕ) → i < 16 → get_or row i 0 ≡ key_at table (crosspoint_at cross i output)
    row_at i h = keyed.at i output h o

    -- what stands at the crosspoint
    abbrev held : ℕ
    held = crosspoint_at cross leading.holder output

    smallest : LeastIn row 0 16 least
    smallest = subst (LeastIn row 0 16) (sym leading.least) (least-all row)

    least-held : least ≡ key_at table held
    least-held =
        sym leading.holds.held ∙ row_at leading.holder leading.holds.inside

    number-cell : held < nowhere → number ≡ held
    number-cell h = leading.number_is ∙ min-eq_left (omega arith)

    number-none : nowhere ≤ held → number ≡ nowhere
    number-none h = leading.number_is ∙ min-eq_right h

    leading-key : least ≡ key_at table number
    leading-key = least-held ∙ go (compare held nowhere)
      where
        none : nowhere ≤ held → key_at table held ≡ key_at table number
        none h = key_at-none table held h ∙ sym (key_at-none table number (omega (arith, number-none h)))

        go : Compared held nowhere → key_at table held ≡ key_at table number
        go (below h) = ap (key_at table) (sym (number-cell h))
        go (equal h) = none (omega arith)
        go (above h) = none (omega arith)

    module _ {cells : List Waiting} (h : Holds table cross cells) where
      inside : (i : ℕ) → i < 16 → crosspoint_at cross i output < nowhere → InTable table (crosspoint_at cross i output)
      inside i l s = let w = h.real i output l o s in subst (InTable table) w.2 (h.inside w.0 w.1)

      -- the key of a cell at a crosspoint is no less
      no_less : {k : ℕ} (c : Crossed cross output (ports_in table) k)
          → (least ≤ key (entry_at table k).cell) × InTable table k × (c.holder < 16)
          × (get_or row c.holder 0 ≡ key (entry_at table k).cell)
      no_less {k} c =
          let port : c.holder < 16 = omega (arith, c.early, r.ports) in
          let full : crosspoint_at cross c.holder output < nowhere = omega (arith, c.held, c.some) in
          let own : get_or row c.holder 0 ≡ key (entry_at table k).cell =
          row_at c.holder port ∙ ap (key_at table) c.held ∙ key_at-cell table k c.some in (
            omega (arith, smallest.under c.holder (omega arith) port),
            subst (InTable table) c.held (inside c.holder port full),
            port,
            own,
          )

      none : nowhere ≤ held → BestUpTo table cross output (ports_in table) number
      none s =
          empty (number-none s) (λ k c.
          let w = no_less c in omega (arith, key_below table r bytes k w.1, least-held, key_at-none table held s))

      one : held < nowhere → BestUpTo table cross output (ports_in table) held
      one s = best s (record { own = own; upper = λ k c. upper k c (no_less c) })
        where
          here : InTable table held
          here = inside leading.holder leading.holds.inside s

          w : (e : Waiting) × Memᴰ e cells × (e.at ≡ held) × (e.cell.input ≡ leading.holder)
              × (e.cell.output ≡ output)
          w = h.real leading.holder output leading.holds.inside o s

          own : Crossed cross output (ports_in table) held
          own = record {
            some = s;
            holder = leading.holder;
            early = subst (λ i. i < ports_in table) w.3 (port table cross output h o w.1);
            held = refl;
          }

          upper : (k : ℕ) (c : Crossed cross output (ports_in table) k)
              → (least ≤ key (entry_at table k).cell) × InTable table k × (c.holder < 16)
              × (get_or row c.holder 0 ≡ key (entry_at table k).cell)
              → (k ≡ held) ⊎ (over (ports_in table) (entry_at table held).cell (entry_at table k).cell ≡ true)
          upper k c (low, t, small, own_key) = go (compare least (key (entry_at table k).cell))
            where
              mine : least ≡ key (entry_at table held).cell
              mine = least-held ∙ key_at-cell table held s

              go : Compared least (key (entry_at table k).cell)
                  → (k ≡ held) ⊎ (over (ports_in table) (entry_at table held).cell (entry_at table k).cell ≡ true)
              go (below l) =
                  inr (sym
                  (over-keys (ports_in table) (entry_at table held).cell (entry_at table k).cell (slot_of held here) (slot_of k t)
                  (λ e. omega (arith, mine)))
                  ∙ lt-ltb (key (entry_at table held).cell) (key (entry_at table k).cell) (omega (arith, mine)))
              go (above l) = absurd (omega arith)
              go (equal e) = tie (leading.holds.first c.holder small (own_key ∙ sym e))
                where
                  start : ℕ → ℕ
                  start slot = first_in_turn (ports_in table) slot

                  -- the key of the cells has their slot
                  slot-in : least % 2 ^ 32 ≡ (entry_at table held).cell.slot
                  slot-in = omega (arith, mine, slot_of held here)

                  tie : (c.holder ≡ leading.holder)
                      ⊎ (in_turn (start (least % 2 ^ 32)) leading.holder c.holder ≡ true)
                      → (k ≡ held) ⊎ (over (ports_in table) (entry_at table held).cell (entry_at table k).cell ≡ true)
                  tie (inl q) = inl (sym c.held ∙ ap (λ i. crosspoint_at cross i output) q)
                  tie (inr first) =
                      inr (sym
                      (over-tie (ports_in table) (entry_at table held).cell (entry_at table k).cell (slot_of held here)
                      (slot_of k t) (sym mine ∙ e))
                      ∙ ap (λ n. in_turn (start n) (entry_at table held).cell.input (entry_at table k).cell.input) (sym slot-in)
                      ∙ ap₂ (in_turn (start (least % 2 ^ 32)))
                      (held-input table cross output h o held leading.holder leading.holds.inside s refl)
                      (held-input table cross output h o k c.holder small c.some c.held)
                      ∙ first)

      leading-best : number ≡ best_of (ports_in table) cells output
      leading-best = best_of_lem table cross output h o number r.ports (go (compare held nowhere))
        where
          go : Compared held nowhere → BestUpTo table cross output (ports_in table) number
          go (below s) = subst (BestUpTo table cross output (ports_in table)) (sym (number-cell s)) (one s)
          go (equal s) = none (omega arith)
          go (above s) = none (omega arith)

  -- of every output
  module _ {ports : ℕ} {cross keys : List (List ℕ)} {best least : List ℕ} (is : ports ≡ ports_in table)
      (keyed : Keyed table cross keys) (found : LeadingTo ports cross keys 16 best least) where
    leading : LeadingTo (ports_in table) cross keys 16 best least
    leading = subst (λ n. LeadingTo n cross keys 16 best least) is found

    pub leading-bests : Bests table cross best
    leading-bests = record {
      size = leading.best-size;
      at = λ cells h o l. leading-best cross keys keyed l (leading.each o l) h;
    }

    pub leading-keys : (o : ℕ) → o < 16 → get_or least o 0 ≡ key_at table (get_or best o 0)
    leading-keys o l = leading-key cross keys keyed l (leading.each o l)

------------------------------------------------------------------------
-- output by output

module _ (ports : ℕ) (cross keys : List (List ℕ)) where
  pub leading-more : (n number : ℕ) {numbers least : List ℕ} → n < 16 → Leading ports cross keys n number (get_or least n 0)
      → LeadingTo ports cross keys n numbers least → LeadingTo ports cross keys (n + 1) (set numbers n number) least
  leading-more n number {numbers} {least} l f w =
      let inside : n < length numbers = omega (arith, w.best-size) in
      record {
        best-size = length-set numbers n number ∙ w.best-size;
        each = set_both (λ o x y. Leading ports cross keys o x (get_or least o 0)) numbers numbers n number number inside inside
            w.each f;
      }
