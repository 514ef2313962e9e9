-- Two columns that a loop fills place by place.
use Prim.Native.Nat.{ℕ, ◌+◌, ◌<◌}
use native.Mathlib.Omega.{arith}
use mathlib.Core.List.{List}
use lib.ListN.{length, get_or, set}
use lib.Seq.{get_or-set_same, get_or-set_other}
use Rattle.laws.proofs.Compared.{Compared, below, equal, above, compare}

-- what holds of the first n places holds of one more
pub set_both : (P : ℕ → ℕ → ℕ → Type 0) (a b : List ℕ) (n x y : ℕ) → n < length a → n < length b
    → ((i : ℕ) → i < n → P i (get_or a i 0) (get_or b i 0)) → P n x y
    → (i : ℕ) → i < n + 1 → P i (get_or (set a n x) i 0) (get_or (set b n y) i 0)
set_both P a b n x y p q h new i l = go (compare i n)
  where
    go : Compared i n → P i (get_or (set a n x) i 0) (get_or (set b n y) i 0)
    go (below c) = rw (get_or-set_other a n i x 0 (λ e. omega arith), get_or-set_other b n i y 0 (λ e. omega arith)) (h i c)
    go (equal c) = rw (c, get_or-set_same a n x 0 p, get_or-set_same b n y 0 q) new
    go (above c) = absurd (omega arith)
