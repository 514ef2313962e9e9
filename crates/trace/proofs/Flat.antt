-- The numbers of arrivals, and numbers stored one after the other:
--     numbers_of-append, length-numbers_of   of several arrivals
--     sets-append                          stores of two lists
use Prim.Native.Nat.{ℕ, suc, ◌+◌, ◌*◌}
use native.Mathlib.Omega.{arith}
use native.Mathlib.Nat.{add-zero, add-suc, suc-add}
use mathlib.Core.List.{List, [], ◌∷◌, ◌++◌}
use mathlib.Core.Path.{◌≡◌, refl, ◌∙◌}
use lib.ListN.{length, set}
use lib.Seq.{sets}
use Rattle.cell.specs.declared.Arrival.{Arrival}
use Rattle.trace.specs.Piece.{numbers_of}

pub numbers_of-append : (rs ss : List Arrival) → numbers_of (rs ++ ss) ≡ numbers_of rs ++ numbers_of ss
unfolding numbers_of
numbers_of-append [] ss = refl
numbers_of-append (a ∷ rs) ss = rw (numbers_of-append rs ss)

pub length-numbers_of : (rs : List Arrival) → length (numbers_of rs) ≡ 5 * length rs
unfolding numbers_of
length-numbers_of [] = refl
length-numbers_of (a ∷ rs) = omega (arith, length-numbers_of rs)

pub sets-append : (l : List ℕ) (i : ℕ) (s t : List ℕ) → sets l i (s ++ t) ≡ sets (sets l i s) (i + length s) t
sets-append l i [] t = rw add-zero
sets-append l i (a ∷ s) t = sets-append (set l i a) (suc i) s t ∙ rw (suc-add, add-suc)
