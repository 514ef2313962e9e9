-- Tests as the reader and the writer make them: all of a list, element by element, and a number of 32 bits.
use Prim.Native.Nat.{ℕ, ◌≤◌}
use mathlib.Core.Bool.{Bool, true}
use mathlib.Core.List.{List, ◌∷◌}
use mathlib.Core.Path.{◌≡◌, sym, ◌∙◌}
use borrow.Author.Tests.{leb-true, le-leb}
use Rattle.laws.specs.Lists.{all?}
use Rattle.laws.proofs.Tests.{and_i, and_l, and_r}
use Rattle.laws.proofs.Lists.{all?-cons}
use Rattle.cell.specs.Limits.{fits32, clock_end}

module _ {A : Type 0} (p : A → Bool) (x : A) (l : List A) where
  pub all?-both : p x ≡ true → all? p l ≡ true → all? p (x ∷ l) ≡ true
  all?-both h k = all?-cons p x l ∙ and_i _ _ h k

  pub all?-head : all? p (x ∷ l) ≡ true → p x ≡ true
  all?-head h = and_l (p x) (all? p l) (sym (all?-cons p x l) ∙ h)

  pub all?-tail : all? p (x ∷ l) ≡ true → all? p l ≡ true
  all?-tail h = and_r (p x) (all? p l) (sym (all?-cons p x l) ∙ h)

pub fits32-i : (n : ℕ) → n ≤ clock_end → fits32 n ≡ true
unfolding fits32
fits32-i n h = le-leb n clock_end h

pub fits32-e : (n : ℕ) → fits32 n ≡ true → n ≤ clock_end
unfolding fits32
fits32-e n h = leb-true n clock_end h
