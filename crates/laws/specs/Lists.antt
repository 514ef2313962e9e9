-- Sets as lists with tests. Every definition of the switch is made of these.
--     keep p l          those of l that pass p, in their order
--     some? none? all?  whether some, none, all of l pass
--     count p l         how many of l pass
--     least lt l        those of l that no other of l is before
--     pairwise r l      every one of l stands in r to every later one
--     same_list same l m as many in l as in m, each the same as the one at its place
--     update i f l      l with f applied to its element i; l itself where it has none
--     up_to n            0, 1, .. n - 1
--     between k n       k, k + 1, .. n - 1
--     first? l          the first of l, if it has one
use Rattle.std.specs.Prelude.{ℕ, zero, suc, ◌+◌, ◌-◌, Bool, true, false, cond, not, ◌&&◌, ◌||◌, List, [], ◌∷◌}
use Rattle.std.proofs.Math.Option.{Option, none, some}

module _ {A : Type 0} where
  unfoldable pub keep : (A → Bool) → List A → List A
  keep p [] = []
  keep p (x ∷ l) = let rest = keep p l in cond (p x) (x ∷ rest) rest

  unfoldable pub some? : (A → Bool) → List A → Bool
  some? p [] = false
  some? p (x ∷ l) = p x || some? p l

  unfoldable pub none? : (A → Bool) → List A → Bool
  none? p [] = true
  none? p (x ∷ l) = not (p x) && none? p l

  unfoldable pub all? : (A → Bool) → List A → Bool
  all? p [] = true
  all? p (x ∷ l) = p x && all? p l

  unfoldable pub count : (A → Bool) → List A → ℕ
  count p [] = 0
  count p (x ∷ l) = cond (p x) 1 0 + count p l

  unfoldable pub least : (A → A → Bool) → List A → List A
  least lt l = keep (λ x. none? (λ y. lt y x) l) l

  unfoldable pub pairwise : (A → A → Bool) → List A → Bool
  pairwise r [] = true
  pairwise r (x ∷ l) = all? (r x) l && pairwise r l

  unfoldable pub same_list : (A → A → Bool) → List A → List A → Bool
  same_list same [] [] = true
  same_list same [] (y ∷ m) = false
  same_list same (x ∷ l) [] = false
  same_list same (x ∷ l) (y ∷ m) = same x y && same_list same l m

  unfoldable pub update : ℕ → (A → A) → List A → List A
  update i f [] = []
  update zero f (x ∷ l) = f x ∷ l
  update (suc i) f (x ∷ l) = x ∷ update i f l

  unfoldable pub first? : List A → Option A
  first? [] = none
  first? (x ∷ l) = some x

-- k, k + 1, .. with n numbers in all
unfoldable pub numbers_from : ℕ → ℕ → List ℕ
numbers_from k zero = []
numbers_from k (suc n) = k ∷ numbers_from (k + 1) n

unfoldable pub up_to : ℕ → List ℕ
up_to n = numbers_from 0 n

-- the numbers from one up to another, which is not among them
unfoldable pub between : ℕ → ℕ → List ℕ
between from to = numbers_from from (to - from)
