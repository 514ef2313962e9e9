-- Laws of pairwise: every one of a list stands in r to every later one.
--     pairwise-head, pairwise-tail, pairwise_cons    one more at the front
--     pairwise_append, pairwise-split                two lists one after the other
--     pairwise-snoc                                  one more at the end
--     pairwise-mono, pairwise-keep, pairwise_map
--     pairwise-both                                  a relation that is asked only of those that pass
--     pairwise-le-one                                no two pass: at most one passes
--     pairwise-set                                   another one at a place
use Prim.Native.Nat.{ℕ, zero, suc, ◌≤◌, ◌<◌}
use native.Mathlib.Omega.{arith}
use mathlib.Core.Bool.{Bool, true, false, cond, not, ◌&&◌}
use mathlib.Core.Path.{◌≡◌, refl, sym, ◌∙◌, ap, ap₂}
use mathlib.Core.Logic.{◌⊎◌, inl, inr}
use mathlib.Core.List.Memᴰ
use mathlib.Core.List.{List, [], ◌∷◌, ◌++◌, map, Memᴰ}
use borrow.Author.Tests.{not-true}
use lib.ListN.{length, get_or, set}
use Rattle.laws.specs.Lists.{keep, none?, all?, count, pairwise}
use Rattle.laws.proofs.Tests.{and_i, and_l, and_r, and_false_r}
use Rattle.laws.proofs.Lists.{all?-e, all?-i, all?-map, all?-append, none?-i, keep-pass, keep-fail, keep-nil}
use Rattle.laws.proofs.Lists.{mem-keep-in, get_or-mem, all?-set}
use Rattle.laws.proofs.Count.{count-nil, count-pass, count-fail, count-zero}

module _ {A : Type 0} where
  ------------------------------------------------------------------------
  -- clauses

  pub pairwise-nil : (r : A → A → Bool) → pairwise r [] ≡ true
  unfolding pairwise
  pairwise-nil r = refl

  -- the first stands in r to each later one
  pub pairwise-head : (r : A → A → Bool) {x y : A} {l : List A} → pairwise r (x ∷ l) ≡ true → Memᴰ y l
      → r x y ≡ true
  unfolding pairwise
  pairwise-head r {x} {y} {l} h m = all?-e (r x) (and_l (all? (r x) l) (pairwise r l) h) m

  pub pairwise-tail : (r : A → A → Bool) (x : A) (l : List A) → pairwise r (x ∷ l) ≡ true → pairwise r l ≡ true
  unfolding pairwise
  pairwise-tail r x l h = and_r (all? (r x) l) (pairwise r l) h

  pub pairwise_cons : (r : A → A → Bool) (x : A) (l : List A) → ((y : A) → Memᴰ y l → r x y ≡ true)
      → pairwise r l ≡ true → pairwise r (x ∷ l) ≡ true
  unfolding pairwise
  pairwise_cons r x l h t = and_i (all? (r x) l) (pairwise r l) (all?-i (r x) l h) t

  -- two members are the same, or one stands in r to the other
  pub pairwise-e : (r : A → A → Bool) (l : List A) {x y : A} → pairwise r l ≡ true → Memᴰ x l → Memᴰ y l
      → (x ≡ y) ⊎ ((r x y ≡ true) ⊎ (r y x ≡ true))
  pairwise-e r [] h m k = absurd (Memᴰ.not-nil m)
  pairwise-e r (z ∷ l) {x} {y} h m k =
      go (Memᴰ.cases_cons m) (Memᴰ.cases_cons k) (pairwise-e r l (pairwise-tail r z l h))
    where
      go : (x ≡ z) ⊎ Memᴰ x l → (y ≡ z) ⊎ Memᴰ y l
          → (Memᴰ x l → Memᴰ y l → (x ≡ y) ⊎ ((r x y ≡ true) ⊎ (r y x ≡ true)))
          → (x ≡ y) ⊎ ((r x y ≡ true) ⊎ (r y x ≡ true))
      go (inl e) (inl f) rec = inl (e ∙ sym f)
      go (inl e) (inr j) rec = inr (inl (ap (λ w. r w y) e ∙ pairwise-head r h j))
      go (inr i) (inl f) rec = inr (inr (ap (λ w. r w x) f ∙ pairwise-head r h i))
      go (inr i) (inr j) rec = rec i j

  ------------------------------------------------------------------------
  -- two lists one after the other

  -- each of the first list stands in r to each of the second
  pub pairwise-split : (r : A → A → Bool) {x y : A} {l m : List A} → Memᴰ x l → Memᴰ y m
      → pairwise r (l ++ m) ≡ true → r x y ≡ true
  pairwise-split r {y} (Memᴰ.head {xs = k} e) j h =
      ap (λ w. r w y) e ∙ pairwise-head r h (Memᴰ.append_right k j)
  pairwise-split r {m} (Memᴰ.tail {x = z} {xs = k} i) j h = pairwise-split r i j (pairwise-tail r z (k ++ m) h)

  pub pairwise-append-l : (r : A → A → Bool) (l m : List A) → pairwise r (l ++ m) ≡ true → pairwise r l ≡ true
  pairwise-append-l r [] m h = pairwise-nil r
  pairwise-append-l r (x ∷ l) m h =
      pairwise_cons r x l (λ y i. pairwise-head r h (Memᴰ.append_left m i))
      (pairwise-append-l r l m (pairwise-tail r x (l ++ m) h))

  pub pairwise-append-r : (r : A → A → Bool) (l m : List A) → pairwise r (l ++ m) ≡ true → pairwise r m ≡ true
  pairwise-append-r r [] m h = h
  pairwise-append-r r (x ∷ l) m h = pairwise-append-r r l m (pairwise-tail r x (l ++ m) h)

  pub pairwise_append : (r : A → A → Bool) (l m : List A) → pairwise r l ≡ true → pairwise r m ≡ true
      → ((x y : A) → Memᴰ x l → Memᴰ y m → r x y ≡ true) → pairwise r (l ++ m) ≡ true
  pairwise_append r [] m h k c = k
  pairwise_append r (x ∷ l) m h k c =
      pairwise_cons r x (l ++ m) (λ y i. go y (Memᴰ.append_cases l i))
      (pairwise_append r l m (pairwise-tail r x l h) k (λ y z i j. c y z (Memᴰ.tail i) j))
    where
      go : (y : A) → Memᴰ y l ⊎ Memᴰ y m → r x y ≡ true
      go y (inl i) = pairwise-head r h i
      go y (inr j) = c x y (Memᴰ.head refl) j

  pub pairwise-snoc : (r : A → A → Bool) (l : List A) (y : A)
      → pairwise r (l ++ (y ∷ [])) ≡ (pairwise r l && all? (λ x. r x y) l)
  unfolding pairwise all?
  pairwise-snoc r [] y = refl
  pairwise-snoc r (x ∷ l) y =
      ap₂ ◌&&◌ (all?-append (r x) l (y ∷ [])) (pairwise-snoc r l y)
      ∙ regroup (all? (r x) l) (r x y) (pairwise r l) (all? (λ x. r x y) l)
    where
      regroup : (a b c d : Bool) → ((a && (b && true)) && (c && d)) ≡ ((a && c) && (b && d))
      regroup true true c d = refl
      regroup true false c d = sym (and_false_r c false refl)
      regroup false b c d = refl

  ------------------------------------------------------------------------
  -- another relation, another list

  pub pairwise-mono : (r s : A → A → Bool) (l : List A)
      → ((x y : A) → Memᴰ x l → Memᴰ y l → r x y ≡ true → s x y ≡ true)
      → pairwise r l ≡ true → pairwise s l ≡ true
  pairwise-mono r s [] h p = pairwise-nil s
  pairwise-mono r s (x ∷ l) h p =
      pairwise_cons s x l
      (λ y m. h x y (Memᴰ.head refl) (Memᴰ.tail m) (pairwise-head r p m))
      (pairwise-mono r s l (λ y z m k. h y z (Memᴰ.tail m) (Memᴰ.tail k)) (pairwise-tail r x l p))

  pub pairwise-keep : (r : A → A → Bool) (p : A → Bool) (l : List A) → pairwise r l ≡ true
      → pairwise r (keep p l) ≡ true
  pairwise-keep r p [] h = rw (keep-nil p) h
  pairwise-keep r p (x ∷ l) h = go (p x) refl (pairwise-keep r p l (pairwise-tail r x l h))
    where
      go : (b : Bool) → p x ≡ b → pairwise r (keep p l) ≡ true → pairwise r (keep p (x ∷ l)) ≡ true
      go true e rec =
          rw (keep-pass p x l e) (pairwise_cons r x (keep p l) (λ y m. pairwise-head r h (mem-keep-in p l m)) rec)
      go false e rec = rw (keep-fail p x l e) rec

  all?-kept : (t p : A → Bool) (l : List A) → all? (λ y. not (p y && t y)) l ≡ all? (λ y. not (t y)) (keep p l)
  unfolding all? keep
  all?-kept t p [] = refl
  all?-kept t p (x ∷ l) = go (p x) (all?-kept t p l)
    where
      go : (b : Bool) → all? (λ y. not (p y && t y)) l ≡ all? (λ y. not (t y)) (keep p l)
          → (not (b && t x) && all? (λ y. not (p y && t y)) l)
          ≡ all? (λ y. not (t y)) (cond b (x ∷ keep p l) (keep p l))
      go true rec = ap (λ c. not (t x) && c) rec
      go false rec = rec

  pub pairwise-both : (q : A → A → Bool) (p : A → Bool) (l : List A)
      → pairwise (λ x y. not (p x && (p y && q x y))) l ≡ pairwise (λ x y. not (q x y)) (keep p l)
  unfolding pairwise keep
  pairwise-both q p [] = refl
  pairwise-both q p (x ∷ l) = go (p x) (pairwise-both q p l)
    where
      go : (b : Bool)
          → pairwise (λ x y. not (p x && (p y && q x y))) l ≡ pairwise (λ x y. not (q x y)) (keep p l)
          → (all? (λ y. not (b && (p y && q x y))) l && pairwise (λ x y. not (p x && (p y && q x y))) l)
          ≡ pairwise (λ x y. not (q x y)) (cond b (x ∷ keep p l) (keep p l))
      go true rec = ap₂ ◌&&◌ (all?-kept (q x) p l) rec
      go false rec =
          ap (λ c. c && pairwise (λ x y. not (p x && (p y && q x y))) l) (all?-i (λ y. true) l (λ y m. refl)) ∙ rec

  ------------------------------------------------------------------------
  -- counts

  -- where no two pass, at most one passes
  pub pairwise-le-one : (p : A → Bool) (l : List A) → pairwise (λ x y. not (p x && p y)) l ≡ true → count p l ≤ 1
  pairwise-le-one p [] h = omega (arith, count-nil p)
  pairwise-le-one p (x ∷ l) h = go (p x) refl (pairwise-le-one p l (pairwise-tail two x l h))
    where
      two : A → A → Bool
      two x y = not (p x && p y)

      others : p x ≡ true → none? p l ≡ true
      others e = none?-i p l (λ y m. not-true (p y) (ap (λ b. not (b && p y)) (sym e) ∙ pairwise-head two h m))

      go : (b : Bool) → p x ≡ b → count p l ≤ 1 → count p (x ∷ l) ≤ 1
      go true e rec = omega (arith, count-pass p x l e, count-zero p l (others e))
      go false e rec = omega (arith, count-fail p x l e)

module _ {A B : Type 0} (r : B → B → Bool) (f : A → B) where
  pub pairwise_map : (l : List A) → pairwise r (map f l) ≡ pairwise (λ x y. r (f x) (f y)) l
  unfolding pairwise
  pairwise_map [] = refl
  pairwise_map (x ∷ l) = rw (all?-map (r (f x)) f l, pairwise_map l)

-- what is put in stands in r to all others if what was there did
pub pairwise-set : {A : Type 0} (r : A → A → Bool) (l : List A) (k : ℕ) (d x : A) → k < length l → pairwise r l ≡ true
    → ((y : A) → Memᴰ y l → r (get_or l k d) y ≡ true → r x y ≡ true)
    → ((y : A) → Memᴰ y l → r y (get_or l k d) ≡ true → r y x ≡ true)
    → pairwise r (set l k x) ≡ true
unfolding pairwise
pairwise-set r [] k d x b h f g = h
pairwise-set r (y ∷ l) zero d x b h f g =
    pairwise_cons r x l (λ z m. f z (Memᴰ.tail m) (pairwise-head r h m)) (pairwise-tail r y l h)
pairwise-set r (y ∷ l) (suc k) d x b h f g =
    and_i (all? (r y) (set l k x)) (pairwise r (set l k x))
    (all?-set (r y) l k x (and_l (all? (r y) l) (pairwise r l) h)
    (g y (Memᴰ.head refl) (pairwise-head r h (get_or-mem l k d (omega arith)))))
    (pairwise-set r l k d x (omega arith) (pairwise-tail r y l h)
    (λ z m. f z (Memᴰ.tail m)) (λ z m. g z (Memᴰ.tail m)))
