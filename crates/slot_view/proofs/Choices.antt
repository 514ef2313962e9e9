-- The choice of an output, cell by cell.
--     best-same, best-more   the best of the same cells, and of one cell more
use Prim.Native.Nat.{ℕ, ◌<◌}
use native.Mathlib.Omega.{arith}
use mathlib.Core.Bool.{Bool, true, false}
use mathlib.Core.Path.{◌≡◌, refl, sym, ◌∙◌, subst}
use mathlib.Core.Logic.{◌⊎◌, inl, inr}
use mathlib.Core.List.{List}
use Rattle.laws.proofs.Tests.{clash}
use Rattle.cell.specs.Order.{over}
use Rattle.cell.proofs.Order.{over-trans}
use Rattle.layout.specs.Entry.{entry_at}
use Rattle.slot_view.specs.CodeChoices.{BestAmong, empty, best}
use Rattle.layout_table.proofs.Better.{better-first, better-over, better-under}
use Rattle.layout.specs.Code.{ports_in}
use Rattle.layout_table.specs.CodeEntries.{nowhere, better_of}

------------------------------------------------------------------------
-- the best of some cells

module _ (table : List ℕ) where
  -- they are one cell, or one of them is over the other
  abbrev pub Ordered : ℕ → ℕ → Type 0
  Ordered k n =
      (k ≡ n)
      ⊎ ((over (ports_in table) (entry_at table k).cell (entry_at table n).cell ≡ true)
      ⊎ (over (ports_in table) (entry_at table n).cell (entry_at table k).cell ≡ true))

  module _ {Old New : ℕ → Type 0} (more : (k : ℕ) → Old k → New k) where
    pub best-same : (n : ℕ) → ((k : ℕ) → New k → Old k) → BestAmong table Old n → BestAmong table New n
    best-same n back (empty e f) = empty e (λ k m. f k (back k m))
    best-same n back (best s b) = best s (record { own = more n b.own; upper = λ k m. b.upper k (back k m) })

    -- the next cell goes first, or the one that is held does
    pub best-more : (held n : ℕ) → n < nowhere → New n → ((k : ℕ) → New k → Old k ⊎ (k ≡ n))
        → (Old held → Ordered n held) → BestAmong table Old held → BestAmong table New (better_of table held n)
    best-more held n small new back total (empty e f) =
        subst (BestAmong table New) (sym (better-first table held n small (omega arith)))
        (best small (record { own = new; upper = λ k m. inl (only k (back k m)) }))
      where
        only : (k : ℕ) → Old k ⊎ (k ≡ n) → k ≡ n
        only k (inl m) = absurd (f k m)
        only k (inr q) = q
    best-more held n small new back total (best s b) =
        go (over (ports_in table) (entry_at table n).cell (entry_at table held).cell) refl
      where
        wins : over (ports_in table) (entry_at table n).cell (entry_at table held).cell ≡ true → (k : ℕ)
            → Old k ⊎ (k ≡ n)
            → (k ≡ n) ⊎ (over (ports_in table) (entry_at table n).cell (entry_at table k).cell ≡ true)
        wins o k (inl m) = past (b.upper k m)
          where
            past : (k ≡ held) ⊎ (over (ports_in table) (entry_at table held).cell (entry_at table k).cell ≡ true)
                → (k ≡ n) ⊎ (over (ports_in table) (entry_at table n).cell (entry_at table k).cell ≡ true)
            past (inl e) = inr (rw e o)
            past (inr u) =
                inr (over-trans (ports_in table) (entry_at table n).cell (entry_at table held).cell (entry_at table k).cell o u)
        wins o k (inr q) = inl q

        holds : over (ports_in table) (entry_at table n).cell (entry_at table held).cell ≡ false → (k : ℕ)
            → Old k ⊎ (k ≡ n)
            → (k ≡ held) ⊎ (over (ports_in table) (entry_at table held).cell (entry_at table k).cell ≡ true)
        holds o k (inl m) = b.upper k m
        holds o k (inr q) = past (total b.own)
          where
            past : Ordered n held
                → (k ≡ held) ⊎ (over (ports_in table) (entry_at table held).cell (entry_at table k).cell ≡ true)
            past (inl e) = inl (q ∙ e)
            past (inr (inl u)) = absurd (clash u o)
            past (inr (inr u)) = inr (rw q u)

        go : (t : Bool) → over (ports_in table) (entry_at table n).cell (entry_at table held).cell ≡ t
            → BestAmong table New (better_of table held n)
        go true o =
            subst (BestAmong table New) (sym (better-over table held n small s o))
            (best small (record { own = new; upper = λ k m. wins o k (back k m) }))
        go false o =
            subst (BestAmong table New) (sym (better-under table held n small s o))
            (best s (record { own = more held b.own; upper = λ k m. holds o k (back k m) }))
