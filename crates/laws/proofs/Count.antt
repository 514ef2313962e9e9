-- Laws of count, in this order:
--     its clauses; ++, map, keep, the length of a kept list
--     count-zero, count-pos, count-find                when it is 0 and when it is not
--     count-le, count-lt, count-ext                    two tests compared on the members
--     count-split, count-or, count-not, count-all      a test taken apart by another
use Prim.Native.Nat.{ℕ, suc, ◌+◌, ◌≤◌, ◌<◌}
use native.Mathlib.Omega.{arith}
use mathlib.Core.Bool.{Bool, true, false, cond, not, ◌&&◌, ◌||◌}
use mathlib.Core.Path.{◌≡◌, refl, sym, ◌∙◌, ap, ap₂}
use mathlib.Core.Logic.{◌⊎◌, inl, inr}
use mathlib.Core.List.{List, [], ◌∷◌, ◌++◌, map, Memᴰ}
use lib.ListN.{length}
use Rattle.laws.specs.Lists.{keep, none?, all?, count}
use Rattle.laws.proofs.Tests.{clash, and_r}
use Rattle.laws.proofs.Lists.{Passing, find, keep-pass, keep-fail, keep-nil, keep_all, keep-none}

module _ {A : Type 0} where
  ------------------------------------------------------------------------
  -- clauses

  pub count-nil : (p : A → Bool) → count p [] ≡ 0
  unfolding count
  count-nil p = refl

  pub count-cons : (p : A → Bool) (x : A) (l : List A) → count p (x ∷ l) ≡ cond (p x) 1 0 + count p l
  unfolding count
  count-cons p x l = refl

  pub count-pass : (p : A → Bool) (x : A) (l : List A) → p x ≡ true → count p (x ∷ l) ≡ 1 + count p l
  unfolding count
  count-pass p x l h = rw h

  pub count-fail : (p : A → Bool) (x : A) (l : List A) → p x ≡ false → count p (x ∷ l) ≡ count p l
  unfolding count
  count-fail p x l h = rw h (omega arith)

  ------------------------------------------------------------------------
  -- of a list made of others

  pub count-append : (p : A → Bool) (l m : List A) → count p (l ++ m) ≡ count p l + count p m
  unfolding count
  count-append p [] m = omega arith
  count-append p (x ∷ l) m = omega (arith, count-append p l m)

  pub length-keep : (p : A → Bool) (l : List A) → length (keep p l) ≡ count p l
  length-keep p [] = rw (keep-nil p, count-nil p)
  length-keep p (x ∷ l) = go (p x) refl (length-keep p l)
    where
      go : (b : Bool) → p x ≡ b → length (keep p l) ≡ count p l → length (keep p (x ∷ l)) ≡ count p (x ∷ l)
      go true e rec = rw (keep-pass p x l e, count-pass p x l e) (omega arith)
      go false e rec = rw (keep-fail p x l e, count-fail p x l e) rec

  pub count-keep : (p q : A → Bool) (l : List A) → count q (keep p l) ≡ count (λ x. p x && q x) l
  unfolding count keep
  count-keep p q [] = refl
  count-keep p q (x ∷ l) = go (p x) (count-keep p q l)
    where
      both : ℕ
      both = count (λ x. p x && q x) l

      go : (b : Bool) → count q (keep p l) ≡ both
          → count q (cond b (x ∷ keep p l) (keep p l)) ≡ cond (b && q x) 1 0 + both
      go true rec = ap (λ n. cond (q x) 1 0 + n) rec
      go false rec = omega arith

  ------------------------------------------------------------------------
  -- two tests compared on the members

  pub count-le : (p q : A → Bool) (l : List A) → ((x : A) → Memᴰ x l → p x ≡ true → q x ≡ true)
      → count p l ≤ count q l
  count-le p q [] h = rw (count-nil p, count-nil q) (omega arith)
  count-le p q (y ∷ l) h = go (p y) (q y) refl refl (count-le p q l (λ x m. h x (Memᴰ.tail m)))
    where
      go : (a b : Bool) → p y ≡ a → q y ≡ b → count p l ≤ count q l → count p (y ∷ l) ≤ count q (y ∷ l)
      go true true e f rec = omega (arith, count-pass p y l e, count-pass q y l f)
      go true false e f rec = absurd (clash (h y (Memᴰ.head refl) e) f)
      go false true e f rec = omega (arith, count-fail p y l e, count-pass q y l f)
      go false false e f rec = omega (arith, count-fail p y l e, count-fail q y l f)

  -- and one member passes only the second
  pub count-lt : (p q : A → Bool) {x : A} {l : List A} → ((y : A) → Memᴰ y l → p y ≡ true → q y ≡ true)
      → Memᴰ x l → p x ≡ false → q x ≡ true → count p l < count q l
  count-lt p q h (Memᴰ.head {x = y} {xs = l} e) f t =
      let le : count p l ≤ count q l = count-le p q l (λ x m. h x (Memᴰ.tail m)) in
      omega (arith, count-fail p y l (ap p (sym e) ∙ f), count-pass q y l (ap q (sym e) ∙ t))
  count-lt p q h (Memᴰ.tail {x = y} {xs = l} m) f t =
      go (p y) (q y) refl refl (count-lt p q (λ x k. h x (Memᴰ.tail k)) m f t)
    where
      go : (a b : Bool) → p y ≡ a → q y ≡ b → count p l < count q l → count p (y ∷ l) < count q (y ∷ l)
      go true true e f rec = omega (arith, count-pass p y l e, count-pass q y l f)
      go true false e f rec = absurd (clash (h y (Memᴰ.head refl) e) f)
      go false true e f rec = omega (arith, count-fail p y l e, count-pass q y l f)
      go false false e f rec = omega (arith, count-fail p y l e, count-fail q y l f)

  pub count-ext : (p q : A → Bool) (l : List A) → ((x : A) → Memᴰ x l → p x ≡ q x) → count p l ≡ count q l
  unfolding count
  count-ext p q [] h = refl
  count-ext p q (y ∷ l) h =
      ap₂ (λ b n. cond b 1 0 + n) (h y (Memᴰ.head refl)) (count-ext p q l (λ x m. h x (Memᴰ.tail m)))

  pub count-keep-le : (p q : A → Bool) (l : List A) → count q (keep p l) ≤ count q l
  count-keep-le p q l =
      rw (count-keep p q l) (count-le (λ x. p x && q x) q l (λ x m h. and_r (p x) (q x) h))

  ------------------------------------------------------------------------
  -- none, some, all

  pub count-zero : (p : A → Bool) (l : List A) → none? p l ≡ true → ◌≡◌ {A = ℕ} (count p l) 0
  count-zero p l n = sym (length-keep p l) ∙ ap length (keep-none p l n)

  pub count-pos : (p : A → Bool) {x : A} {l : List A} → Memᴰ x l → p x ≡ true → 0 < count p l
  count-pos p (Memᴰ.head {x = y} {xs = l} e) h = omega (arith, count-pass p y l (ap p (sym e) ∙ h))
  count-pos p (Memᴰ.tail {x = y} {xs = l} m) h = omega (arith, count-cons p y l, count-pos p m h)

  pub count-find : (p : A → Bool) (l : List A) → 0 < count p l → Passing p l
  count-find p l z = go (find p l)
    where
      go : Passing p l ⊎ (none? p l ≡ true) → Passing p l
      go (inl w) = w
      go (inr n) = absurd (omega (arith, count-zero p l n))

  pub count-le-length : (p : A → Bool) (l : List A) → count p l ≤ length l
  count-le-length p [] = rw (count-nil p) (omega arith)
  count-le-length p (x ∷ l) = go (p x) refl (count-le-length p l)
    where
      go : (b : Bool) → p x ≡ b → count p l ≤ length l → count p (x ∷ l) ≤ length (x ∷ l)
      go true e rec = omega (arith, count-pass p x l e)
      go false e rec = omega (arith, count-fail p x l e)

  pub count-all : (p : A → Bool) (l : List A) → all? p l ≡ true → count p l ≡ length l
  count-all p l h = sym (length-keep p l) ∙ ap length (keep_all p l h)

  -- a member that fails is missing from the kept list
  pub length-keep-lt : (p : A → Bool) {x : A} {l : List A} → Memᴰ x l → p x ≡ false → length (keep p l) < length l
  length-keep-lt p {x} {l} m f =
      omega (arith, length-keep p l, count-lt p (λ y. true) (λ y k t. refl) m f refl, count-le-length (λ y. true) l)

  ------------------------------------------------------------------------
  -- at most one

  ------------------------------------------------------------------------
  -- a test taken apart by another

  pub count-split : (p q : A → Bool) (l : List A)
      → count p l ≡ count (λ x. p x && q x) l + count (λ x. p x && not (q x)) l
  unfolding count
  count-split p q [] = refl
  count-split p q (x ∷ l) = go (p x) (q x) (count-split p q l)
    where
      go : (a b : Bool)
          → count p l ≡ count (λ x. p x && q x) l + count (λ x. p x && not (q x)) l
          → cond a 1 0 + count p l ≡
          (cond (a && b) 1 0 + count (λ x. p x && q x) l) + (cond (a && not b) 1 0 + count (λ x. p x && not (q x)) l)
      go true true rec = omega arith
      go true false rec = omega arith
      go false b rec = omega arith

  pub count-not : (p : A → Bool) (l : List A) → count p l + count (λ x. not (p x)) l ≡ length l
  unfolding count
  count-not p [] = refl
  count-not p (x ∷ l) = go (p x) (count-not p l)
    where
      go : (b : Bool) → count p l + count (λ x. not (p x)) l ≡ length l
          → (cond b 1 0 + count p l) + (cond (not b) 1 0 + count (λ x. not (p x)) l) ≡ suc (length l)
      go true rec = omega arith
      go false rec = omega arith

  pub count-or : (p q : A → Bool) (l : List A)
      → count (λ x. p x || q x) l + count (λ x. p x && q x) l ≡ count p l + count q l
  unfolding count
  count-or p q [] = refl
  count-or p q (x ∷ l) = go (p x) (q x) (count-or p q l)
    where
      go : (a b : Bool)
          → count (λ x. p x || q x) l + count (λ x. p x && q x) l ≡ count p l + count q l
          → (cond (a || b) 1 0 + count (λ x. p x || q x) l) + (cond (a && b) 1 0 + count (λ x. p x && q x) l)
          ≡ (cond a 1 0 + count p l) + (cond b 1 0 + count q l)
      go true true rec = omega arith
      go true false rec = omega arith
      go false true rec = omega arith
      go false false rec = omega arith

module _ {A B : Type 0} (p : B → Bool) (f : A → B) where
  pub count_map : (l : List A) → count p (map f l) ≡ count (λ x. p (f x)) l
  unfolding count
  count_map [] = refl
  count_map (x ∷ l) = rw (count_map l)
