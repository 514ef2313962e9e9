-- The stride of a weight, by the table.
--     stride-in     the entry of a weight
--     stride-out    a number that is no weight
use Prim.Native.Nat.{ℕ, ◌+◌, ◌-◌, ◌≤◌}
use mathlib.Core.Bool.{cond}
use mathlib.Core.List.{List, map}
use mathlib.Core.Path.{◌≡◌, ap, sym, ◌∙◌}
use native.Mathlib.Omega.{arith}
use borrow.Author.Tests.{leb-true, le-leb}
use lib.Dec.{leb}
use lib.ListN.{get_or}
use Rattle.laws.specs.Lists.{numbers_from}
use Rattle.laws.proofs.Numbers.{numbers_from-at}
use Rattle.laws.proofs.Tests.{and_i, and_l, and_r, by-fail, cond-pass, cond-fail}
use Rattle.model.specs.Fair.{weight_limit, weight_in_range, stride}

-- the quotients from w = 1: the check of `stride` computes them and finds the constant table
abbrev pub strides : List ℕ
strides = map stride (numbers_from 1 weight_limit)

module _ (w : ℕ) where
  pub stride-in : 1 ≤ w → w ≤ weight_limit → get_or strides (w - 1) 0 ≡ cond (weight_in_range w) (stride w) 0
  unfolding weight_in_range
  stride-in low high =
      let place : 1 + (w - 1) ≡ w = omega arith in
      numbers_from-at stride 1 weight_limit (w - 1) 0 (omega arith)
      ∙ ap stride place
      ∙ sym
      (cond-pass (weight_in_range w) (stride w) 0
      (and_i (leb 1 w) (leb w weight_limit) (le-leb 1 w low) (le-leb w weight_limit high)))

  pub stride-out : (1 ≤ w → w ≤ weight_limit → ⊥) → 0 ≡ cond (weight_in_range w) (stride w) 0
  unfolding weight_in_range
  stride-out out =
      sym
      (cond-fail (weight_in_range w) (stride w) 0
      (by-fail (weight_in_range w)
      (λ e. out (leb-true 1 w (and_l (leb 1 w) (leb w weight_limit) e))
      (leb-true w weight_limit (and_r (leb 1 w) (leb w weight_limit) e)))))
