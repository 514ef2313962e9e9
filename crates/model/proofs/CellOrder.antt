-- Cells among the cells of all outputs: which goes first, and when two are the same.
--     beats_cell           both go to one output, and the one has the higher output priority
--     beats-cell-i, -output, -alike, -total
--     same-cell-refl, same-cell-path
use Prim.Native.Nat.{ℕ}
use mathlib.Core.Bool.{Bool, true, ◌&&◌}
use mathlib.Core.Path.{◌≡◌, sym, ap}
use mathlib.Core.Logic.{◌⊎◌, inl, inr, ◌≢◌}
use borrow.Author.Tests.{eqb-true, eq-eqb}
use lib.Dec.{eqb}
use Rattle.laws.proofs.Tests.{and_i, and_l, and_r}
use Rattle.cell.specs.declared.Cell.{Cell}
use Rattle.cell.specs.Cell.{same_cell}
use Rattle.cell.specs.Order.{over}
use Rattle.cell.proofs.Order.{over-total}

-- those of an output
abbrev pub goes_to : ℕ → Cell → Bool
goes_to o c = eqb c.output o

------------------------------------------------------------------------
-- output priority

-- both go to one output, and c has the higher output priority
unfoldable pub beats_cell : ℕ → Cell → Cell → Bool
beats_cell ports c d = eqb c.output d.output && over ports c d

pub beats-cell-i : (ports : ℕ) (c d : Cell) → c.output ≡ d.output → over ports c d ≡ true → beats_cell ports c d ≡ true
unfolding beats_cell
beats-cell-i ports c d e h = and_i (eqb c.output d.output) (over ports c d) (eq-eqb c.output d.output e) h

pub beats-cell-output : (ports : ℕ) (c d : Cell) → beats_cell ports c d ≡ true → c.output ≡ d.output
unfolding beats_cell
beats-cell-output ports c d h =
    eqb-true c.output d.output (and_l (eqb c.output d.output) (over ports c d) h)

-- among the cells of one output it is output priority
pub beats-cell-alike : (ports : ℕ) (c d : Cell) → c.output ≡ d.output → beats_cell ports c d ≡ over ports c d
unfolding beats_cell
beats-cell-alike ports c d e = ap (λ b. b && over ports c d) (eq-eqb c.output d.output e)

-- of two cells of one output that differ in input or slot, one goes first
pub beats-cell-total : (ports : ℕ) (c d : Cell) → c.output ≡ d.output → (c.input ≢ d.input) ⊎ (c.slot ≢ d.slot)
    → (beats_cell ports c d ≡ true) ⊎ (beats_cell ports d c ≡ true)
beats-cell-total ports c d e h = go (over-total ports c d h)
  where
    go : (over ports c d ≡ true) ⊎ (over ports d c ≡ true) → (beats_cell ports c d ≡ true) ⊎ (beats_cell ports d c ≡ true)
    go (inl k) = inl (beats-cell-i ports c d e k)
    go (inr k) = inr (beats-cell-i ports d c (sym e) k)

------------------------------------------------------------------------
-- the same cell

pub same-cell-refl : (c : Cell) → same_cell c c ≡ true
unfolding same_cell
same-cell-refl c = simp eq-eqb

-- cells that are the same are equal
pub same-cell-path : (c d : Cell) → same_cell c d ≡ true → c ≡ d
unfolding same_cell
same-cell-path c d h =
    let input : c.input ≡ d.input = search (and_l, eqb-true) in
    let output : c.output ≡ d.output = search (and_l, and_r, eqb-true) depth 9 in
    let flow : c.flow ≡ d.flow = search (and_l, and_r, eqb-true) depth 9 in
    let rank : c.rank ≡ d.rank = search (and_l, and_r, eqb-true) depth 9 in
    let tag : c.tag ≡ d.tag = search (and_l, and_r, eqb-true) depth 9 in
    let slot : c.slot ≡ d.slot = search (and_l, and_r, eqb-true) depth 9 in
    λ i. record { input = input i; output = output i; flow = flow i; rank = rank i; tag = tag i; slot = slot i }
