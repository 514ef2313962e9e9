-- Lists as bags: two lists are the same bag when every test passes as often in the one as in the other. A list of
-- lists is taken as the bag of all their members.
--     bag-trans, bag-of-path
--     bag-keep, bag-least, bag-passed               what makes the same bags of the same bags
--     bag-some?, bag-none?                          the same tests pass
--     bag-mem, bag-first?                           the same members; the same first, where all members are equal
--     flatten, update, map                          their laws as far as the queues need them
use Prim.Native.Nat.{ℕ, zero, suc, ◌+◌, ◌<◌}
use native.Mathlib.Omega.{arith}
use mathlib.Core.Bool.{Bool, true, not}
use mathlib.Core.Path.{◌≡◌, refl, sym, ◌∙◌, ap, ap₂}
use mathlib.Core.Logic.{◌⊎◌, inl, inr, ◌≢◌}
use mathlib.Core.List.{List, [], ◌∷◌, ◌++◌, map, flatten}
use mathlib.Core.List.Memᴰ
use mathlib.Core.List.{Memᴰ}
use mathlib.Core.Option
use mathlib.Core.Option.{Option, some}
use lib.ListN.{length, get_or}
use Rattle.laws.specs.Lists.{keep, some?, none?, count, least, update, first?, numbers_from, up_to}
use Rattle.laws.proofs.Tests.{same}
use Rattle.laws.proofs.Lists.{Passing, some?-e, some?-i, none?-not-some?, keep-ext, keep_append}
use Rattle.laws.proofs.Lists.{keep-nil}
use Rattle.laws.proofs.Count.{count-append, count-keep, count-pos, count-find}
use Rattle.laws.proofs.Least.{least-keeps}

module _ {A : Type 0} where
  abbrev pub SameBag : List A → List A → Type 0
  SameBag xs ys = (p : A → Bool) → count p xs ≡ count p ys

  pub bag-trans : (xs ys zs : List A) → SameBag xs ys → SameBag ys zs → SameBag xs zs
  bag-trans xs ys zs h k p = h p ∙ k p

  pub bag-of-path : {xs ys : List A} → xs ≡ ys → SameBag xs ys
  bag-of-path e p = ap (count p) e

  module _ (xs ys : List A) (bag : SameBag xs ys) where
    ------------------------------------------------------------------------
    -- the same tests pass

    pub bag-some? : (p : A → Bool) → some? p xs ≡ some? p ys
    bag-some? p = same (some? p xs) (some? p ys) (go xs ys (bag p)) (go ys xs (sym (bag p)))
      where
        go : (l m : List A) → count p l ≡ count p m → some? p l ≡ true → some? p m ≡ true
        go l m e s =
            let w : Passing p l = some?-e p l s in
            let c : 0 < count p m = omega (arith, count-pos p w.1 w.2) in
            let v : Passing p m = count-find p m c in
            some?-i p v.1 v.2

    pub bag-none? : (p : A → Bool) → none? p xs ≡ none? p ys
    bag-none? p = none?-not-some? p xs ∙ ap not (bag-some? p) ∙ sym (none?-not-some? p ys)

    ------------------------------------------------------------------------
    -- parts

    pub bag-keep : (p : A → Bool) → SameBag (keep p xs) (keep p ys)
    bag-keep p q = count-keep p q xs ∙ bag _ ∙ sym (count-keep p q ys)

    -- those that no other is before
    pub bag-least : (lt : A → A → Bool) → SameBag (least lt xs) (least lt ys)
    bag-least lt p =
        ap (count p) (least-keeps lt xs)
        ∙ ap (count p) (keep-ext (first xs) (first ys) xs (λ x m. bag-none? (λ y. lt y x)))
        ∙ bag-keep (first ys) p
        ∙ sym (ap (count p) (least-keeps lt ys))
      where
        first : List A → A → Bool
        first l x = none? (λ y. lt y x) l

    -- those that some other is before
    pub bag-passed : (lt : A → A → Bool)
        → SameBag (keep (λ x. some? (λ y. lt y x) xs) xs) (keep (λ x. some? (λ y. lt y x) ys) ys)
    bag-passed lt p =
        ap (count p) (keep-ext (later xs) (later ys) xs (λ x m. bag-some? (λ y. lt y x))) ∙ bag-keep (later ys) p
      where
        later : List A → A → Bool
        later l x = some? (λ y. lt y x) l

  ------------------------------------------------------------------------
  -- members, where equality is a test

  module _ (eq : A → A → Bool) (eq_refl : (x : A) → eq x x ≡ true) (eq-path : (x y : A) → eq x y ≡ true → x ≡ y) where
    pub bag-mem : (xs ys : List A) → SameBag xs ys → {x : A} → Memᴰ x xs → Memᴰ x ys
    bag-mem xs ys bag {x} m =
        let c : 0 < count (eq x) ys = omega (arith, bag (eq x), count-pos (eq x) m (eq_refl x)) in
        let w : Passing (eq x) ys = count-find (eq x) ys c in
        Memᴰ.cast (eq-path x w.0 w.2) w.1

    pub bag-first? : (xs ys : List A) → SameBag xs ys
        → ((x y : A) → Memᴰ x xs → Memᴰ y xs → x ≡ y) → first? xs ≡ first? ys
    unfolding first?
    bag-first? [] [] bag h = refl
    bag-first? [] (y ∷ ys) bag h =
        absurd (Memᴰ.not-nil (bag-mem (y ∷ ys) [] (λ p. sym (bag p)) {x = y} (Memᴰ.head refl)))
    bag-first? (x ∷ xs) [] bag h = absurd (Memᴰ.not-nil (bag-mem (x ∷ xs) [] bag {x = x} (Memᴰ.head refl)))
    bag-first? (x ∷ xs) (y ∷ ys) bag h =
        ap {B = Option A} some
        (h x y (Memᴰ.head refl) (bag-mem (y ∷ ys) (x ∷ xs) (λ p. sym (bag p)) (Memᴰ.head refl)))

module _ {A : Type 0} where
  ------------------------------------------------------------------------
  -- flatten

  pub flatten-cons : (l : List A) (ls : List (List A)) → flatten (l ∷ ls) ≡ l ++ flatten ls
  unfolding flatten
  flatten-cons l ls = refl

  pub count-flatten : (p : A → Bool) (l : List A) (ls : List (List A))
      → count p (flatten (l ∷ ls)) ≡ count p l + count p (flatten ls)
  count-flatten p l ls = ap (count p) (flatten-cons l ls) ∙ count-append p l (flatten ls)

  pub keep-flatten : (p : A → Bool) (ls : List (List A)) → keep p (flatten ls) ≡ flatten (map (keep p) ls)
  unfolding flatten
  keep-flatten p [] = keep-nil p
  keep-flatten p (l ∷ ls) = keep_append p l (flatten ls) ∙ ap (λ k. keep p l ++ k) (keep-flatten p ls)

  -- each of the lists is within
  pub flatten-mem : (ls : List (List A)) (i : ℕ) {x : A} → Memᴰ x (get_or ls i []) → Memᴰ x (flatten ls)
  unfolding flatten
  flatten-mem [] i m = absurd (Memᴰ.not-nil m)
  flatten-mem (l ∷ ls) zero m = Memᴰ.append_left (flatten ls) m
  flatten-mem (l ∷ ls) (suc i) m = Memᴰ.append_right l (flatten-mem ls i m)

  -- and each member is in one of them
  pub mem-flatten : (ls : List (List A)) {x : A} → Memᴰ x (flatten ls)
      → (i : ℕ) × (i < length ls) × Memᴰ x (get_or ls i [])
  unfolding flatten
  mem-flatten [] m = absurd (Memᴰ.not-nil m)
  mem-flatten (l ∷ ls) {x} m = go (mem-flatten ls) (Memᴰ.append_cases l m)
    where
      go : (Memᴰ x (flatten ls) → (i : ℕ) × (i < length ls) × Memᴰ x (get_or ls i []))
          → Memᴰ x l ⊎ Memᴰ x (flatten ls)
          → (i : ℕ) × (i < length (l ∷ ls)) × Memᴰ x (get_or (l ∷ ls) i [])
      go rec (inl k) = (zero, omega arith, k)
      go rec (inr k) =
          let w : (i : ℕ) × (i < length ls) × Memᴰ x (get_or ls i []) = rec k in
          (suc w.0, omega arith, w.2)

  ------------------------------------------------------------------------
  -- update

  pub length-update : (i : ℕ) (f : A → A) (l : List A) → length (update i f l) ≡ length l
  unfolding update
  length-update i f [] = refl
  length-update zero f (x ∷ l) = refl
  length-update (suc i) f (x ∷ l) = ap suc (length-update i f l)

  pub get_or-update-same : (i : ℕ) (f : A → A) (l : List A) (d : A) → i < length l
      → get_or (update i f l) i d ≡ f (get_or l i d)
  unfolding update
  get_or-update-same i f [] d h = absurd (omega arith)
  get_or-update-same zero f (x ∷ l) d h = refl
  get_or-update-same (suc i) f (x ∷ l) d h = get_or-update-same i f l d (omega arith)

  pub get_or-update-other : (i j : ℕ) (f : A → A) (l : List A) (d : A) → j ≢ i → get_or (update i f l) j d ≡ get_or l j d
  unfolding update
  get_or-update-other i j f [] d h = refl
  get_or-update-other zero zero f (x ∷ l) d h = absurd (h refl)
  get_or-update-other zero (suc j) f (x ∷ l) d h = refl
  get_or-update-other (suc i) zero f (x ∷ l) d h = refl
  get_or-update-other (suc i) (suc j) f (x ∷ l) d h = get_or-update-other i j f l d (λ e. h (ap suc e))

  -- what is in the changed list or in one of the others
  pub mem-update : (i j : ℕ) (f : List A → List A) (ls : List (List A)) {x : A}
      → Memᴰ x (get_or (update i f ls) j [])
      → ((j ≡ i) × Memᴰ x (f (get_or ls i []))) ⊎ Memᴰ x (get_or ls j [])
  unfolding update
  mem-update i j f [] m = inr m
  mem-update zero zero f (l ∷ ls) m = inl (refl, m)
  mem-update zero (suc j) f (l ∷ ls) m = inr m
  mem-update (suc i) zero f (l ∷ ls) m = inr m
  mem-update (suc i) (suc j) f (l ∷ ls) {x} m = go (mem-update i j f ls m)
    where
      go : ((j ≡ i) × Memᴰ x (f (get_or ls i []))) ⊎ Memᴰ x (get_or ls j [])
          → ((suc j ≡ suc i) × Memᴰ x (f (get_or ls i []))) ⊎ Memᴰ x (get_or ls j [])
      go (inl w) = inl (ap suc w.0, w.1)
      go (inr k) = inr k

  pub count-update : (p : A → Bool) (i : ℕ) (f : List A → List A) (ls : List (List A)) → i < length ls
      → count p (flatten (update i f ls)) + count p (get_or ls i [])
      ≡ count p (f (get_or ls i [])) + count p (flatten ls)
  unfolding update
  count-update p i f [] h = absurd (omega arith)
  count-update p zero f (l ∷ ls) h = omega (arith, count-flatten p l ls, count-flatten p (f l) ls)
  count-update p (suc i) f (l ∷ ls) h =
      let rec : count p (flatten (update i f ls)) + count p (get_or ls i [])
      ≡ count p (f (get_or ls i [])) + count p (flatten ls) = count-update p i f ls (omega arith) in
      omega (arith, count-flatten p l ls, count-flatten p l (update i f ls))

------------------------------------------------------------------------
-- map

module _ {A B : Type 0} where
  -- two functions that agree at each place
  pub map-ext : (f g : A → B) (d : A) (l : List A) → ((i : ℕ) → i < length l → f (get_or l i d) ≡ g (get_or l i d))
      → map f l ≡ map g l
  map-ext f g d [] h = refl
  map-ext f g d (x ∷ l) h =
      ap₂ ◌∷◌ (h zero (omega arith)) (map-ext f g d l (λ i b. h (suc i) (omega arith)))

  map-numbers : (f : A → B) (g : ℕ → B) (d : A) (k : ℕ) (l : List A)
      → ((i : ℕ) → i < length l → f (get_or l i d) ≡ g (k + i)) → map f l ≡ map g (numbers_from k (length l))
  unfolding numbers_from
  map-numbers f g d k [] h = refl
  map-numbers f g d k (x ∷ l) h =
      ap₂ ◌∷◌
      (h zero (omega arith) ∙ ap g (omega arith))
      (map-numbers f g d (k + 1) l
      (λ i b. h (suc i) (omega arith) ∙ ap g (omega arith)))

  -- a list made place by place
  pub map-up_to : (f : A → B) (g : ℕ → B) (d : A) (l : List A) → ((i : ℕ) → i < length l → f (get_or l i d) ≡ g i)
      → map f l ≡ map g (up_to (length l))
  unfolding up_to
  map-up_to f g d l h = map-numbers f g d 0 l (λ i b. h i b ∙ ap g (omega arith))

  pub first?-map : (f : A → B) (l : List A) → Option.map f (first? l) ≡ first? (map f l)
  unfolding first?
  first?-map f [] = refl
  first?-map f (x ∷ l) = refl
