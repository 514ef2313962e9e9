-- What the arguments ask for, case by case.
use Prim.Native.Nat.{ℕ, zero, suc, ◌<◌}
use native.Mathlib.Omega.{arith}
use mathlib.Core.Bool.{Bool, true, false}
use mathlib.Core.List.{List}
use mathlib.Core.Logic.{◌≢◌}
use mathlib.Core.Path.{◌≡◌, refl, sym, ap, ◌∙◌}
use Rattle.trace.specs.Ascii.{ascii}
use Rattle.layout.specs.Number.{same_bytes}
use Rattle.layout.proofs.Number.{same_bytes-refl, same_bytes-exact}
use Rattle.player.specs.declared.Request.TheVariants.{Play, Help, Version, Unknown}
use Rattle.player.specs.Program.{request_of}

pub asks_nothing : (n : ℕ) (word : List ℕ) → n ≡ 0 → Play ≡ request_of n word
unfolding request_of
asks_nothing zero word h = refl
asks_nothing (suc n) word h = absurd (omega arith)

pub asks_much : (n : ℕ) (word : List ℕ) → 1 < n → Unknown ≡ request_of n word
unfolding request_of
asks_much zero word h = absurd (omega arith)
asks_much (suc zero) word h = absurd (omega arith)
asks_much (suc (suc n)) word h = refl

same : (a b : List ℕ) → a ≡ b → same_bytes a b ≡ true
same a b h = ap (same_bytes a) (sym h) ∙ same_bytes-refl a

other : (a b : List ℕ) → a ≢ b → same_bytes a b ≡ false
other a b h = go (same_bytes a b) refl
  where
    go : (t : Bool) → same_bytes a b ≡ t → same_bytes a b ≡ false
    go true e = absurd (h (same_bytes-exact a b e))
    go false e = e

-- one word

abbrev help : List ℕ
help = ascii "--help"

abbrev version : List ℕ
version = ascii "--version"

module _ (n : ℕ) (word : List ℕ) (one : n ≡ 1) where
  pub asks-help : word ≡ help → Help ≡ request_of n word
  unfolding request_of
  asks-help h = sym (ap (λ k. request_of k word) one ∙ rw (same word help h))

  pub asks-version : word ≢ help → word ≡ version → Version ≡ request_of n word
  unfolding request_of
  asks-version h k =
      sym (ap (λ k. request_of k word) one ∙ rw (other word help h, same word version k))

  pub asks-other : word ≢ help → word ≢ version → Unknown ≡ request_of n word
  unfolding request_of
  asks-other h k =
      sym (ap (λ k. request_of k word) one ∙ rw (other word help h, other word version k))
