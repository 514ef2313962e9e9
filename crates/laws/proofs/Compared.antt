-- Two numbers compared: one is below the other, equal to it, or above it.
use Prim.Native.Nat.{ℕ, ◌≤◌, ◌<◌}
use mathlib.Core.Bool.{Bool, true, false}
use mathlib.Core.Logic.{◌≢◌}
use mathlib.Core.Path.{◌≡◌, refl}
use native.Mathlib.Omega.{arith}
use borrow.Author.Tests.{ltb-true, ltb-false, eqb-true, eqb-false}
use lib.Dec.{ltb, eqb}

pub data Compared (a b : ℕ) : Type 0 where
  below : a < b → Compared a b
  equal : a ≡ b → Compared a b
  above : b < a → Compared a b

pub compare : (a b : ℕ) → Compared a b
compare a b = go (ltb a b) refl (eqb a b) refl
  where
    go : (s : Bool) → ltb a b ≡ s → (t : Bool) → eqb a b ≡ t → Compared a b
    go true e t f = below (ltb-true a b e)
    go false e true f = equal (eqb-true a b f)
    go false e false f =
        let h : b ≤ a = ltb-false a b e in
        let k : a ≢ b = eqb-false a b f in
        above (omega arith)
