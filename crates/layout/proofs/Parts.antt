-- A byte string whose bytes behind a place are lent.
--     part-behind     what is lent
--     put-behind      the string when they come back
use Prim.Native.Nat.{ℕ, ◌-◌, ◌≤◌}
use native.Mathlib.Omega.{arith}
use mathlib.Core.List.{List, [], ◌++◌, append-nil}
use mathlib.Core.Path.{◌≡◌, ap, ◌∙◌}
use lib.ListN.{length, take, drop, length-drop, drop_of_length-le}
use lib.Seq.{take_all}

module _ (bs : List ℕ) (at : ℕ) where
  pub part-behind : take (length bs - at) (drop at bs) ≡ drop at bs
  part-behind = take_all (length bs - at) (drop at bs) (omega (arith, length-drop at bs))

  pub put-behind : (new : List ℕ) → take at bs ++ (new ++ drop (length bs - at) (drop at bs)) ≡ take at bs ++ new
  put-behind new =
      let end : length (drop at bs) ≤ length bs - at = omega (arith, length-drop at bs) in
      let past : drop (length bs - at) (drop at bs) ≡ [] = drop_of_length-le (drop at bs) end in
      ap (λ l. take at bs ++ (new ++ l)) past ∙ ap (λ l. take at bs ++ l) (append-nil new)
