-- Laws of least: those of a list that no other of it is before.
--     least-mem, mem-least-in, mem-least-none   its members
--     least-below, least-before                 under a strict order each member is at or after a least one
--     least-part, keep-least                    of a part of the list
--     least-ext, least-map                      by another order, under map
use Prim.Native.Nat.{ℕ, zero, suc, ◌<◌}
use native.Mathlib.Omega.{arith}
use mathlib.Core.Bool.{Bool, true, false, ◌&&◌, and-true, and-false}
use mathlib.Core.Path.{◌≡◌, refl, sym, ◌∙◌, ap}
use mathlib.Core.Logic.{◌⊎◌, inl, inr}
use mathlib.Core.List.{List, [], map, Memᴰ}
use Rattle.laws.specs.Lists.{keep, none?, count, least}
use Rattle.laws.specs.Order.{Strict}
use Rattle.laws.proofs.Tests.{by-fail, same}
use Rattle.laws.proofs.Lists.{Passing, find, none?-e, none?-i, none?-clash, none?-ext, none?-within, none?-map}
use Rattle.laws.proofs.Lists.{keep-mem, mem-keep-in, mem-keep-passes, keep-ext}
use Rattle.laws.proofs.Lists.{keep-keep, keep-map}
use Rattle.laws.proofs.Count.{count-lt}

module _ {A : Type 0} where
  ------------------------------------------------------------------------
  -- members

  pub least-keeps : (lt : A → A → Bool) (l : List A) → least lt l ≡ keep (λ x. none? (λ y. lt y x) l) l
  unfolding least
  least-keeps lt l = refl

  pub least-mem : (lt : A → A → Bool) {x : A} {l : List A} → Memᴰ x l → none? (λ y. lt y x) l ≡ true
      → Memᴰ x (least lt l)
  unfolding least
  least-mem lt {x} {l} m n = keep-mem (λ x. none? (λ y. lt y x) l) m n

  pub mem-least-in : (lt : A → A → Bool) (l : List A) {x : A} → Memᴰ x (least lt l) → Memᴰ x l
  unfolding least
  mem-least-in lt l m = mem-keep-in (λ x. none? (λ y. lt y x) l) l m

  pub mem-least-none : (lt : A → A → Bool) (l : List A) {x : A} → Memᴰ x (least lt l)
      → none? (λ y. lt y x) l ≡ true
  unfolding least
  mem-least-none lt l m = mem-keep-passes (λ x. none? (λ y. lt y x) l) l m

  -- no member is before a least one
  pub mem-least-first : (lt : A → A → Bool) (l : List A) {x y : A} → Memᴰ x (least lt l) → Memᴰ y l
      → lt y x ≡ false
  mem-least-first lt l {x} m k = none?-e (λ y. lt y x) (mem-least-none lt l m) k

  pub least-nil : (lt : A → A → Bool) → least lt [] ≡ []
  unfolding least keep
  least-nil lt = refl

  ------------------------------------------------------------------------
  -- each member is at or after a least one

  -- a least one at or before x
  abbrev pub Below : (A → A → Bool) → List A → A → Type 0
  Below lt l x = (y : A) × Memᴰ y (least lt l) × ((y ≡ x) ⊎ (lt y x ≡ true))

  module _ (lt : A → A → Bool) (strict : Strict lt) (l : List A) where
    -- a least one at or before z is before all that z is before
    below-before : {x z : A} → lt z x ≡ true → Below lt l z → Passing (λ y. lt y x) (least lt l)
    below-before {x} {z} h w = (w.0, w.1, go w.2)
      where
        go : (w.0 ≡ z) ⊎ (lt w.0 z ≡ true) → lt w.0 x ≡ true
        go (inl e) = ap (λ y. lt y x) e ∙ h
        go (inr k) = strict.transitive w.0 z x k h

    -- fewer are before z than before all that z is before
    before-fewer : {x z : A} → Memᴰ z l → lt z x ≡ true → count (λ y. lt y z) l < count (λ y. lt y x) l
    before-fewer {x} {z} k h =
        count-lt (λ y. lt y z) (λ y. lt y x) (λ y i t. strict.transitive y z x t h) k (strict.irreflexive z) h

    below : (n : ℕ) {x : A} → Memᴰ x l → count (λ y. lt y x) l < n → Below lt l x
    below zero m b = absurd (omega arith)
    below (suc n) {x} m b = go (find (λ y. lt y x) l) (λ z k c. below n k c)
      where
        before : Passing (λ y. lt y x) (least lt l) → Below lt l x
        before w = (w.0, w.1, inr w.2)

        go : Passing (λ y. lt y x) l ⊎ (none? (λ y. lt y x) l ≡ true)
            → ((z : A) → Memᴰ z l → count (λ y. lt y z) l < n → Below lt l z) → Below lt l x
        go (inl w) rec =
            before (below-before w.2 (rec w.0 w.1 (omega (arith, before-fewer {x = x} w.1 w.2))))
        go (inr f) rec = (x, least-mem lt m f, inl refl)

    pub least-below : {x : A} → Memᴰ x l → Below lt l x
    least-below {x} m = below (suc (count (λ y. lt y x) l)) m (omega arith)

    -- where a member is before x, a least one is
    pub least-before : {x z : A} → Memᴰ z l → lt z x ≡ true → Passing (λ y. lt y x) (least lt l)
    least-before m h = below-before h (least-below m)

    pub none?-least : (x : A) → none? (λ y. lt y x) (least lt l) ≡ none? (λ y. lt y x) l
    none?-least x =
        same (none? before (least lt l)) (none? before l)
        (λ n. none?-i before l (λ y m. by-fail (lt y x) (λ t. clash n (least-before m t))))
        (none?-within before (least lt l) l (λ y m t. mem-least-in lt l m))
      where
        before : A → Bool
        before y = lt y x

        clash : none? before (least lt l) ≡ true → Passing before (least lt l) → ⊥
        clash n w = none?-clash before n w.1 w.2

  ------------------------------------------------------------------------
  -- of another list, or by another order

  -- a least one that is in a part is least there
  pub least-part : (lt : A → A → Bool) (l k : List A) {x : A} → ((y : A) → Memᴰ y k → Memᴰ y l)
      → Memᴰ x (least lt l) → Memᴰ x k → Memᴰ x (least lt k)
  least-part lt l k {x} h m i =
      least-mem lt i (none?-within (λ y. lt y x) k l (λ y j t. h y j) (mem-least-none lt l m))

  -- where all that is before a passing member passes
  pub keep-least : (lt : A → A → Bool) (q : A → Bool) (l : List A)
      → ((x y : A) → Memᴰ x l → Memᴰ y l → q x ≡ true → lt y x ≡ true → q y ≡ true)
      → keep q (least lt l) ≡ least lt (keep q l)
  unfolding least
  keep-least lt q l h =
      keep-keep first q l
      ∙ keep-ext (λ x. first x && q x) (λ x. q x && kept-first x) l agree
      ∙ sym (keep-keep q kept-first l)
    where
      first : A → Bool
      first x = none? (λ y. lt y x) l

      kept-first : A → Bool
      kept-first x = none? (λ y. lt y x) (keep q l)

      first-kept : (x : A) → first x ≡ true → kept-first x ≡ true
      first-kept x = none?-within (λ y. lt y x) (keep q l) l (λ y k b. mem-keep-in q l k)

      kept-is-first : (x : A) → Memᴰ x l → q x ≡ true → kept-first x ≡ true → first x ≡ true
      kept-is-first x m t = none?-within (λ y. lt y x) l (keep q l) (λ y k b. keep-mem q k (h x y m k t b))

      agree : (x : A) → Memᴰ x l → (first x && q x) ≡ (q x && kept-first x)
      agree x m = go (q x) refl
        where
          go : (b : Bool) → q x ≡ b → (first x && b) ≡ (b && kept-first x)
          go true t = and-true (first x) ∙ same (first x) (kept-first x) (first-kept x) (kept-is-first x m t)
          go false t = and-false (first x)

  pub least-ext : (lt gt : A → A → Bool) (l : List A) → ((x y : A) → Memᴰ x l → Memᴰ y l → lt x y ≡ gt x y)
      → least lt l ≡ least gt l
  unfolding least
  least-ext lt gt l h =
      keep-ext (λ x. none? (λ y. lt y x) l) (λ x. none? (λ y. gt y x) l) l
      (λ x m. none?-ext (λ y. lt y x) (λ y. gt y x) l (λ y k. h y x k m))

  pub least-map : {B : Type 0} (lt : B → B → Bool) (f : A → B) (l : List A)
      → least lt (map f l) ≡ map f (least (λ x y. lt (f x) (f y)) l)
  unfolding least
  least-map {B} lt f l =
      keep-map first f l ∙ ap (map f) (keep-ext (λ x. first (f x)) (λ x. none? (λ y. lt (f y) (f x)) l) l go)
    where
      first : B → Bool
      first x = none? (λ y. lt y x) (map f l)

      go : (x : A) → Memᴰ x l → first (f x) ≡ none? (λ y. lt (f y) (f x)) l
      go x m = none?-map (λ y. lt y (f x)) f l
