-- Sixteen rows of sixteen numbers, with one of them written.
use Prim.Native.Nat.{ℕ, ◌<◌}
use native.Mathlib.Omega.{arith}
use mathlib.Core.Path.{◌≡◌, refl, sym, ◌∙◌, ap}
use mathlib.Core.Logic.{◌≢◌}
use mathlib.Core.List.{List, []}
use lib.ListN.{length, get_or, set, replicate, length-set, get_or-replicate}
use lib.Seq.{get_or-set_same, get_or-set_other}
use Rattle.laws.proofs.Compared.{Compared, below, equal, above, compare}
use Rattle.slot_view.specs.CodeView.{crosspoint_at, cross_with, Square}

-- one number everywhere
module _ (n : ℕ) where
  pub uniform-square : Square (replicate 16 (replicate 16 n))
  uniform-square = record { rows = refl; columns = λ i l. ap length (get_or-replicate 16 i (replicate 16 n) [] l) }

  pub uniform-at : (i o : ℕ) → i < 16 → o < 16 → crosspoint_at (replicate 16 (replicate 16 n)) i o ≡ n
  unfolding crosspoint_at
  uniform-at i o l m =
      ap (λ row. get_or row o 0) (get_or-replicate 16 i (replicate 16 n) [] l) ∙ get_or-replicate 16 o n 0 m

module _ (rows : List (List ℕ)) (square : Square rows) (i o n : ℕ) where
  row_same : i < 16 → get_or (cross_with rows i o n) i [] ≡ set (get_or rows i []) o n
  unfolding cross_with
  row_same row = get_or-set_same rows i (set (get_or rows i []) o n) [] (omega (arith, square.rows))

  row_other : (j : ℕ) → j ≢ i → get_or (cross_with rows i o n) j [] ≡ get_or rows j []
  unfolding cross_with
  row_other j d = get_or-set_other rows i j (set (get_or rows i []) o n) [] d

  pub square-with : Square (cross_with rows i o n)
  unfolding cross_with
  square-with =
      record {
        rows = length-set rows i (set (get_or rows i []) o n) ∙ square.rows;
        columns = λ j l. go j l (compare j i);
      }
    where
      other : (j : ℕ) → j < 16 → j ≢ i → length (get_or (cross_with rows i o n) j []) ≡ 16
      other j l d = ap length (row_other j d) ∙ square.columns j l

      go : (j : ℕ) → j < 16 → Compared j i → length (get_or (cross_with rows i o n) j []) ≡ 16
      go j l (below d) = other j l (omega arith)
      go j l (equal d) =
          ap (λ j. length (get_or (cross_with rows i o n) j [])) d
          ∙ ap length (row_same (omega arith))
          ∙ length-set (get_or rows i []) o n
          ∙ square.columns i (omega arith)
      go j l (above d) = other j l (omega arith)

  pub cross-same : i < 16 → o < 16 → crosspoint_at (cross_with rows i o n) i o ≡ n
  unfolding crosspoint_at
  cross-same row column =
      ap (λ r. get_or r o 0) (row_same row)
      ∙ get_or-set_same (get_or rows i []) o n 0 (omega (arith, square.columns i row))

  pub cross-row : (j p : ℕ) → j ≢ i → crosspoint_at (cross_with rows i o n) j p ≡ crosspoint_at rows j p
  unfolding crosspoint_at
  cross-row j p d = ap (λ r. get_or r p 0) (row_other j d)

  pub cross-other : (j p : ℕ) → i < 16 → (j ≡ i → p ≡ o → ⊥) → crosspoint_at (cross_with rows i o n) j p ≡ crosspoint_at rows j p
  unfolding crosspoint_at
  cross-other j p row d = go (compare j i)
    where
      go : Compared j i → get_or (get_or (cross_with rows i o n) j []) p 0 ≡ get_or (get_or rows j []) p 0
      go (below l) = cross-row j p (omega arith)
      go (equal l) =
          ap (λ j. get_or (get_or (cross_with rows i o n) j []) p 0) l
          ∙ ap (λ r. get_or r p 0) (row_same row)
          ∙ get_or-set_other (get_or rows i []) o p n 0 (d l)
          ∙ ap (λ j. get_or (get_or rows j []) p 0) (sym l)
      go (above l) = cross-row j p (omega arith)
