-- Output priority gives the rounds that were worked out by hand. A check goes through the files by name: here, before
-- the laws, a wrong definition is refused at the rows that it gets wrong. Assumes nothing.
use Rattle.std.proofs.Common.{◌≡◌, ℕ, Bool, true, not, ◌&&◌, List, [], ◌∷◌, refl}
use Rattle.laws.specs.Lists.{all?, pairwise, numbers_from, up_to}
use Rattle.cell.specs.declared.Cell.{Cell}
use Rattle.cell.specs.Order.{in_turn, over}

-- a cell of this slot and input, of the rank that all have
abbrev cell : ℕ → ℕ → Cell
cell slot input = record { input = input; output = 0; flow = 0; rank = 7; tag = 0; slot = slot }

-- the cells of these inputs in the order in which an output sends them: each before all later ones, and none of those
-- before it
abbrev sent : ℕ → ℕ → List ℕ → Bool
sent ports slot inputs =
    pairwise (λ i j.
    over ports (cell slot i) (cell slot j) && not (over ports (cell slot j) (cell slot i))) inputs

-- N, the slot, the inputs
pub turns-given :
    (sent 3 0 (0 ∷ 1 ∷ 2 ∷ []) ≡ true)
    × (sent 3 1 (1 ∷ 2 ∷ 0 ∷ []) ≡ true)
    × (sent 3 2 (2 ∷ 0 ∷ 1 ∷ []) ≡ true)
    × (sent 3 3 (0 ∷ 1 ∷ 2 ∷ []) ≡ true)
    × (sent 3 4 (1 ∷ 2 ∷ 0 ∷ []) ≡ true)
    × (sent 3 5 (2 ∷ 0 ∷ 1 ∷ []) ≡ true)
    × (sent 3 6 (0 ∷ 1 ∷ 2 ∷ []) ≡ true)
    × (sent 3 7 (1 ∷ 2 ∷ 0 ∷ []) ≡ true)
    × (sent 3 8 (2 ∷ 0 ∷ 1 ∷ []) ≡ true)
    × (sent 3 4294967294 (2 ∷ 0 ∷ 1 ∷ []) ≡ true)
    × (sent 16 15 (15 ∷ up_to 15) ≡ true)
unfolding all? pairwise numbers_from up_to in_turn over
turns-given = (refl, refl, refl, refl, refl, refl, refl, refl, refl, refl, refl)
