-- Laws of the tests over lists, a section for each: some?, none?, all?, then keep. Counts are in Count, least in
-- Least, pairwise in Pairwise, numbers in Numbers; membership in ++ and map is the library's (mathlib.Core.List).
--     -nil, -cons, -pass, -fail   the clauses
--     -i, -e                      how to build it from the members, and what it says of them
--     -mono, -ext, -within        another test that the members pass, the same test, another list
--     -append, -map, -keep        of l ++ m, map f l, keep p l
--     find                        some member passes, or none does
--     keep-mem, mem-keep          the members of a kept list
--     first-mem, first_of         the first element
--     get_or-mem, get_d_any          the element at a place
--     all?-set, -at, -places      all pass, by their places
--     same_list-                   two lists of numbers that are the same
use Prim.Native.Nat.{ℕ, zero, suc, ◌<◌}
use native.Mathlib.Omega.{arith}
use mathlib.Core.Bool.{Bool, true, false, cond, not, ◌&&◌, ◌||◌, and_assoc, or_assoc, and_comm, false≢true}
use mathlib.Core.Path.{◌≡◌, refl, sym, ◌∙◌, ap, ap₂}
use mathlib.Core.Logic.{◌⊎◌, inl, inr}
use mathlib.Core.List.Memᴰ
use mathlib.Core.List.{List, [], ◌∷◌, ◌++◌, map, Memᴰ}
use mathlib.Core.List.{flatten, append_assoc}
use mathlib.Core.Option.{some}
use borrow.Author.Tests.{not-true, not-false, eqb-true, eq-eqb}
use lib.Dec.{eqb}
use lib.ListN.{length, get_or, set}
use Rattle.laws.specs.Lists.{keep, some?, none?, all?, same_list, first?}
use Rattle.laws.proofs.Tests.{clash, by-fail, same, and_i, and_l, and_r, or_l, or_r, or_cases}
use Rattle.laws.proofs.Tests.{not-i, not-or, eqb-turned}

module _ {A : Type 0} where
  -- a member that passes
  abbrev pub Passing : (A → Bool) → List A → Type 0
  Passing p l = (x : A) × Memᴰ x l × (p x ≡ true)

  ------------------------------------------------------------------------
  -- some?

  pub some?-nil : (p : A → Bool) → some? p [] ≡ false
  unfolding some?
  some?-nil p = refl

  pub some?-cons : (p : A → Bool) (x : A) (l : List A) → some? p (x ∷ l) ≡ p x || some? p l
  unfolding some?
  some?-cons p x l = refl

  pub some?-i : (p : A → Bool) {x : A} {l : List A} → Memᴰ x l → p x ≡ true → some? p l ≡ true
  unfolding some?
  some?-i p (Memᴰ.head {x = y} {xs = l} e) h = or_l (p y) (some? p l) (ap p (sym e) ∙ h)
  some?-i p (Memᴰ.tail {x = y} {xs = l} m) h = or_r (p y) (some? p l) (some?-i p m h)

  pub some?-e : (p : A → Bool) (l : List A) → some? p l ≡ true → Passing p l
  unfolding some?
  some?-e p [] h = absurd (false≢true h)
  some?-e p (y ∷ l) h = go (some?-e p l) (or_cases (p y) (some? p l) h)
    where
      go : (some? p l ≡ true → Passing p l) → (p y ≡ true) ⊎ (some? p l ≡ true) → Passing p (y ∷ l)
      go rec (inl py) = (y, Memᴰ.head refl, py)
      go rec (inr s) = let w : Passing p l = rec s in (w.0, Memᴰ.tail w.1, w.2)

  pub some?-append : (p : A → Bool) (l m : List A) → some? p (l ++ m) ≡ some? p l || some? p m
  unfolding some?
  some?-append p [] m = refl
  some?-append p (x ∷ l) m = rw (some?-append p l m) (sym (or_assoc (p x) (some? p l) (some? p m)))

  -- a test that passes at least where the other does, on the members
  pub some?-mono : (p q : A → Bool) (l : List A) → ((x : A) → Memᴰ x l → p x ≡ true → q x ≡ true)
      → some? p l ≡ true → some? q l ≡ true
  some?-mono p q l h s = let w : Passing p l = some?-e p l s in some?-i q w.1 (h w.0 w.1 w.2)

  pub some?-ext : (p q : A → Bool) (l : List A) → ((x : A) → Memᴰ x l → p x ≡ q x) → some? p l ≡ some? q l
  unfolding some?
  some?-ext p q [] h = refl
  some?-ext p q (y ∷ l) h =
      ap₂ ◌||◌ (h y (Memᴰ.head refl)) (some?-ext p q l (λ x m. h x (Memᴰ.tail m)))

  ------------------------------------------------------------------------
  -- none?

  pub none?-cons : (p : A → Bool) (x : A) (l : List A) → none? p (x ∷ l) ≡ not (p x) && none? p l
  unfolding none?
  none?-cons p x l = refl

  pub none?-e : (p : A → Bool) {x : A} {l : List A} → none? p l ≡ true → Memᴰ x l → p x ≡ false
  unfolding none?
  none?-e p h (Memᴰ.head {x = y} {xs = l} e) = ap p e ∙ not-true (p y) (and_l (not (p y)) (none? p l) h)
  none?-e p h (Memᴰ.tail {x = y} {xs = l} m) = none?-e p (and_r (not (p y)) (none? p l) h) m

  pub none?-i : (p : A → Bool) (l : List A) → ((x : A) → Memᴰ x l → p x ≡ false) → none? p l ≡ true
  unfolding none?
  none?-i p [] h = refl
  none?-i p (y ∷ l) h =
      and_i (not (p y)) (none? p l)
      (not-i (p y) (h y (Memᴰ.head refl)))
      (none?-i p l (λ x m. h x (Memᴰ.tail m)))

  pub none?-not-some? : (p : A → Bool) (l : List A) → none? p l ≡ not (some? p l)
  unfolding none? some?
  none?-not-some? p [] = refl
  none?-not-some? p (x ∷ l) = rw (none?-not-some? p l) (sym (not-or (p x) (some? p l)))

  -- a passing member, and none that passes
  pub none?-clash : (p : A → Bool) {x : A} {l : List A} → none? p l ≡ true → Memᴰ x l → p x ≡ true → ⊥
  none?-clash p n m h = clash h (none?-e p n m)

  pub some?-clash : (p : A → Bool) (l : List A) → some? p l ≡ true → none? p l ≡ true → ⊥
  some?-clash p l s n = let w : Passing p l = some?-e p l s in none?-clash p n w.1 w.2

  pub some?-false : (p : A → Bool) (l : List A) → none? p l ≡ true → some? p l ≡ false
  some?-false p l n = by-fail (some? p l) (λ s. some?-clash p l s n)

  pub none?-false : (p : A → Bool) (l : List A) → some? p l ≡ true → none? p l ≡ false
  none?-false p l s = by-fail (none? p l) (some?-clash p l s)

  pub none?-by-some? : (p : A → Bool) (l : List A) → some? p l ≡ false → none? p l ≡ true
  none?-by-some? p l f = none?-not-some? p l ∙ ap not f

  pub some?-by-none? : (p : A → Bool) (l : List A) → none? p l ≡ false → some? p l ≡ true
  some?-by-none? p l f = not-false (some? p l) (sym (none?-not-some? p l) ∙ f)

  -- some member passes, or none does
  pub find : (p : A → Bool) (l : List A) → Passing p l ⊎ (none? p l ≡ true)
  find p l = go (some? p l) refl
    where
      go : (b : Bool) → some? p l ≡ b → Passing p l ⊎ (none? p l ≡ true)
      go true s = inl (some?-e p l s)
      go false s = inr (none?-by-some? p l s)

  pub none?-append : (p : A → Bool) (l m : List A) → none? p (l ++ m) ≡ none? p l && none? p m
  unfolding none?
  none?-append p [] m = refl
  none?-append p (x ∷ l) m = rw (none?-append p l m) (sym (and_assoc (not (p x)) (none? p l) (none? p m)))

  -- a test that passes at most where the other does, on the members
  pub none?-mono : (p q : A → Bool) (l : List A) → ((x : A) → Memᴰ x l → q x ≡ true → p x ≡ true)
      → none? p l ≡ true → none? q l ≡ true
  none?-mono p q l h n = none?-i q l (λ x m. by-fail (q x) (λ t. none?-clash p n m (h x m t)))

  pub none?-ext : (p q : A → Bool) (l : List A) → ((x : A) → Memᴰ x l → p x ≡ q x) → none? p l ≡ none? q l
  unfolding none?
  none?-ext p q [] h = refl
  none?-ext p q (y ∷ l) h =
      ap₂ (λ a b. not a && b) (h y (Memᴰ.head refl)) (none?-ext p q l (λ x m. h x (Memᴰ.tail m)))

  -- a list with fewer members
  pub none?-within : (p : A → Bool) (l m : List A) → ((x : A) → Memᴰ x l → p x ≡ true → Memᴰ x m)
      → none? p m ≡ true → none? p l ≡ true
  none?-within p l m h n = none?-i p l (λ x i. by-fail (p x) (λ t. none?-clash p n (h x i t) t))

  ------------------------------------------------------------------------
  -- all?

  pub all?-nil : (p : A → Bool) → all? p [] ≡ true
  unfolding all?
  all?-nil p = refl

  pub all?-cons : (p : A → Bool) (x : A) (l : List A) → all? p (x ∷ l) ≡ p x && all? p l
  unfolding all?
  all?-cons p x l = refl

  pub all?-e : (p : A → Bool) {x : A} {l : List A} → all? p l ≡ true → Memᴰ x l → p x ≡ true
  unfolding all?
  all?-e p h (Memᴰ.head {x = y} {xs = l} e) = ap p e ∙ and_l (p y) (all? p l) h
  all?-e p h (Memᴰ.tail {x = y} {xs = l} m) = all?-e p (and_r (p y) (all? p l) h) m

  pub all?-i : (p : A → Bool) (l : List A) → ((x : A) → Memᴰ x l → p x ≡ true) → all? p l ≡ true
  unfolding all?
  all?-i p [] h = refl
  all?-i p (y ∷ l) h =
      and_i (p y) (all? p l) (h y (Memᴰ.head refl)) (all?-i p l (λ x m. h x (Memᴰ.tail m)))

  pub all?-none? : (p : A → Bool) (l : List A) → all? p l ≡ none? (λ x. not (p x)) l
  all?-none? p l =
      same (all? p l) (none? (λ x. not (p x)) l)
      (λ h. none?-i (λ x. not (p x)) l (λ x m. ap not (all?-e p h m)))
      (λ h. all?-i p l (λ x m. not-false (p x) (none?-e (λ x. not (p x)) h m)))

  pub all?-append : (p : A → Bool) (l m : List A) → all? p (l ++ m) ≡ all? p l && all? p m
  unfolding all?
  all?-append p [] m = refl
  all?-append p (x ∷ l) m = rw (all?-append p l m) (sym (and_assoc (p x) (all? p l) (all? p m)))

  pub all?-mono : (p q : A → Bool) (l : List A) → ((x : A) → Memᴰ x l → p x ≡ true → q x ≡ true)
      → all? p l ≡ true → all? q l ≡ true
  all?-mono p q l h a = all?-i q l (λ x m. h x m (all?-e p a m))

  ------------------------------------------------------------------------
  -- keep: its clauses and its members

  pub keep-nil : (p : A → Bool) → keep p [] ≡ []
  unfolding keep
  keep-nil p = refl

  pub keep-pass : (p : A → Bool) (x : A) (l : List A) → p x ≡ true → keep p (x ∷ l) ≡ x ∷ keep p l
  unfolding keep
  keep-pass p x l h = rw h

  pub keep-fail : (p : A → Bool) (x : A) (l : List A) → p x ≡ false → keep p (x ∷ l) ≡ keep p l
  unfolding keep
  keep-fail p x l h = rw h

  pub keep-mem : (p : A → Bool) {x : A} {l : List A} → Memᴰ x l → p x ≡ true → Memᴰ x (keep p l)
  keep-mem p (Memᴰ.head {x = y} {xs = l} e) h = rw (keep-pass p y l (ap p (sym e) ∙ h)) (Memᴰ.head e)
  keep-mem p {x} (Memᴰ.tail {x = y} {xs = l} m) h = go (p y) refl (keep-mem p m h)
    where
      go : (b : Bool) → p y ≡ b → Memᴰ x (keep p l) → Memᴰ x (keep p (y ∷ l))
      go true e k = rw (keep-pass p y l e) (Memᴰ.tail k)
      go false e k = rw (keep-fail p y l e) k

  pub mem-keep : (p : A → Bool) (l : List A) {x : A} → Memᴰ x (keep p l) → Memᴰ x l × (p x ≡ true)
  mem-keep p [] {x} m = absurd (Memᴰ.not-nil (rw (keep-nil p) at m))
  mem-keep p (y ∷ l) {x} m = go (p y) refl (mem-keep p l)
    where
      there : Memᴰ x l × (p x ≡ true) → Memᴰ x (y ∷ l) × (p x ≡ true)
      there w = (Memᴰ.tail w.0, w.1)

      here : p y ≡ true → (x ≡ y) ⊎ Memᴰ x (keep p l) → (Memᴰ x (keep p l) → Memᴰ x l × (p x ≡ true))
          → Memᴰ x (y ∷ l) × (p x ≡ true)
      here e (inl q) rec = (Memᴰ.head q, ap p q ∙ e)
      here e (inr k) rec = there (rec k)

      go : (b : Bool) → p y ≡ b → (Memᴰ x (keep p l) → Memᴰ x l × (p x ≡ true))
          → Memᴰ x (y ∷ l) × (p x ≡ true)
      go true e rec = here e (Memᴰ.cases_cons (rw (keep-pass p y l e) at m)) rec
      go false e rec = there (rec (rw (keep-fail p y l e) at m))

  pub mem-keep-in : (p : A → Bool) (l : List A) {x : A} → Memᴰ x (keep p l) → Memᴰ x l
  mem-keep-in p l m = (mem-keep p l m).0

  pub mem-keep-passes : (p : A → Bool) (l : List A) {x : A} → Memᴰ x (keep p l) → p x ≡ true
  mem-keep-passes p l m = (mem-keep p l m).1

  ------------------------------------------------------------------------
  -- keep: of other lists and by other tests

  pub keep_append : (p : A → Bool) (l m : List A) → keep p (l ++ m) ≡ keep p l ++ keep p m
  unfolding keep
  keep_append p [] m = refl
  keep_append p (x ∷ l) m = rw (keep_append p l m) (go (p x))
    where
      go : (b : Bool)
          → cond b (x ∷ (keep p l ++ keep p m)) (keep p l ++ keep p m) ≡ cond b (x ∷ keep p l) (keep p l) ++ keep p m
      go true = refl
      go false = refl

  pub keep-ext : (p q : A → Bool) (l : List A) → ((x : A) → Memᴰ x l → p x ≡ q x) → keep p l ≡ keep q l
  unfolding keep
  keep-ext p q [] h = refl
  keep-ext p q (y ∷ l) h =
      ap₂ (λ b k. cond b (y ∷ k) k) (h y (Memᴰ.head refl)) (keep-ext p q l (λ x m. h x (Memᴰ.tail m)))

  -- two parts of a list with the same members are equal
  pub keep-members : (p q : A → Bool) (l : List A) → ((x : A) → Memᴰ x (keep p l) → Memᴰ x (keep q l))
      → ((x : A) → Memᴰ x (keep q l) → Memᴰ x (keep p l)) → keep p l ≡ keep q l
  keep-members p q l f g =
      keep-ext p q l (λ x m.
      same (p x) (q x)
      (λ t. mem-keep-passes q l (f x (keep-mem p m t)))
      (λ t. mem-keep-passes p l (g x (keep-mem q m t))))

  pub keep-keep : (p q : A → Bool) (l : List A) → keep q (keep p l) ≡ keep (λ x. p x && q x) l
  unfolding keep
  keep-keep p q [] = refl
  keep-keep p q (x ∷ l) = go (p x) (keep-keep p q l)
    where
      both : List A
      both = keep (λ x. p x && q x) l

      go : (b : Bool) → keep q (keep p l) ≡ both
          → keep q (cond b (x ∷ keep p l) (keep p l)) ≡ cond (b && q x) (x ∷ both) both
      go true rec = ap (λ k. cond (q x) (x ∷ k) k) rec
      go false rec = rec

  pub keep-comm : (p q : A → Bool) (l : List A) → keep q (keep p l) ≡ keep p (keep q l)
  keep-comm p q l =
      keep-keep p q l
      ∙ keep-ext (λ x. p x && q x) (λ x. q x && p x) l (λ x m. and_comm (p x) (q x))
      ∙ sym (keep-keep q p l)

  pub keep_all : (p : A → Bool) (l : List A) → all? p l ≡ true → keep p l ≡ l
  unfolding keep all?
  keep_all p [] h = refl
  keep_all p (x ∷ l) h =
      keep-pass p x l (and_l (p x) (all? p l) h) ∙ ap (λ k. x ∷ k) (keep_all p l (and_r (p x) (all? p l) h))

  pub keep-none : (p : A → Bool) (l : List A) → none? p l ≡ true → keep p l ≡ []
  unfolding keep none?
  keep-none p [] h = refl
  keep-none p (x ∷ l) h =
      keep-fail p x l (not-true (p x) (and_l (not (p x)) (none? p l) h)) ∙ keep-none p l (and_r (not (p x)) (none? p l) h)

  ------------------------------------------------------------------------
  -- the tests of a kept list

  pub some?-keep : (p q : A → Bool) (l : List A) → some? q (keep p l) ≡ some? (λ x. p x && q x) l
  some?-keep p q l = same (some? q (keep p l)) (some? both l) out into
    where
      both : A → Bool
      both x = p x && q x

      out : some? q (keep p l) ≡ true → some? both l ≡ true
      out s =
          let w : Passing q (keep p l) = some?-e q (keep p l) s in
          some?-i both (mem-keep-in p l w.1) (and_i (p w.0) (q w.0) (mem-keep-passes p l w.1) w.2)

      into : some? both l ≡ true → some? q (keep p l) ≡ true
      into s =
          let w : Passing both l = some?-e both l s in
          some?-i q (keep-mem p w.1 (and_l (p w.0) (q w.0) w.2)) (and_r (p w.0) (q w.0) w.2)

------------------------------------------------------------------------
-- under map

module _ {A B : Type 0} (p : B → Bool) (f : A → B) where
  pub some?-map : (l : List A) → some? p (map f l) ≡ some? (λ x. p (f x)) l
  unfolding some?
  some?-map [] = refl
  some?-map (x ∷ l) = rw (some?-map l)

  pub none?-map : (l : List A) → none? p (map f l) ≡ none? (λ x. p (f x)) l
  unfolding none?
  none?-map [] = refl
  none?-map (x ∷ l) = rw (none?-map l)

  pub all?-map : (l : List A) → all? p (map f l) ≡ all? (λ x. p (f x)) l
  unfolding all?
  all?-map [] = refl
  all?-map (x ∷ l) = rw (all?-map l)

  pub keep-map : (l : List A) → keep p (map f l) ≡ map f (keep (λ x. p (f x)) l)
  unfolding keep
  keep-map [] = refl
  keep-map (x ∷ l) = rw (keep-map l) (go (p (f x)))
    where
      k : List A
      k = keep (λ x. p (f x)) l

      go : (b : Bool) → cond b (f x ∷ map f k) (map f k) ≡ map f (cond b (x ∷ k) k)
      go true = refl
      go false = refl

------------------------------------------------------------------------
-- the first

pub first-mem : {A : Type 0} (l : List A) (b : A) → first? l ≡ some b → Memᴰ b l
unfolding first?
first-mem [] b h = absurd (let z : ◌≡◌ {A = ℕ} 0 1 = cc in omega arith)
first-mem (x ∷ l) b h = let e : b ≡ x = cc in Memᴰ.head e

-- where all members are one, it is the first
pub first_of : {A : Type 0} (l : List A) {e : A} → Memᴰ e l → ((f : A) → Memᴰ f l → f ≡ e) → first? l ≡ some e
unfolding first?
first_of [] m h = absurd (Memᴰ.not-nil m)
first_of (x ∷ l) m h = ap some (h x (Memᴰ.head refl))

------------------------------------------------------------------------
-- elements by their places

pub get_or-mem : {A : Type 0} (l : List A) (i : ℕ) (d : A) → i < length l → Memᴰ (get_or l i d) l
get_or-mem [] i d h = absurd (omega arith)
get_or-mem (x ∷ l) zero d h = Memᴰ.head refl
get_or-mem (x ∷ l) (suc i) d h = Memᴰ.tail (get_or-mem l i d (omega arith))

-- within a list what stands past its end does not matter
pub get_d_any : {A : Type 0} (l : List A) (i : ℕ) (d e : A) → i < length l → get_or l i d ≡ get_or l i e
get_d_any [] i d e h = absurd (omega arith)
get_d_any (x ∷ l) zero d e h = refl
get_d_any (x ∷ l) (suc i) d e h = get_d_any l i d e (omega arith)

module _ {A : Type 0} (p : A → Bool) where
  pub all?-set : (l : List A) (k : ℕ) (x : A) → all? p l ≡ true → p x ≡ true → all? p (set l k x) ≡ true
  unfolding all?
  all?-set [] k x h e = h
  all?-set (y ∷ l) zero x h e = and_i (p x) (all? p l) e (and_r (p y) (all? p l) h)
  all?-set (y ∷ l) (suc k) x h e =
      and_i (p y) (all? p (set l k x)) (and_l (p y) (all? p l) h) (all?-set l k x (and_r (p y) (all? p l) h) e)

  pub all?-at : (l : List A) (k : ℕ) (d : A) → all? p l ≡ true → p d ≡ true → p (get_or l k d) ≡ true
  unfolding all?
  all?-at [] k d h e = e
  all?-at (y ∷ l) zero d h e = and_l (p y) (all? p l) h
  all?-at (y ∷ l) (suc k) d h e = all?-at l k d (and_r (p y) (all? p l) h) e

  pub all?-places : (d : A) (l : List A) → ((k : ℕ) → k < length l → p (get_or l k d) ≡ true) → all? p l ≡ true
  unfolding all?
  all?-places d [] h = refl
  all?-places d (x ∷ l) h =
      and_i (p x) (all? p l) (h 0 (omega arith)) (all?-places d l (λ k m. h (suc k) (omega arith)))

------------------------------------------------------------------------
-- lists of numbers

pub same_list-refl : (l : List ℕ) → same_list eqb l l ≡ true
unfolding same_list
same_list-refl [] = refl
same_list-refl (x ∷ l) = and_i (eqb x x) (same_list eqb l l) (eq-eqb x x refl) (same_list-refl l)

pub same_list-exact : (l m : List ℕ) → same_list eqb l m ≡ true → l ≡ m
unfolding same_list
same_list-exact [] [] h = refl
same_list-exact [] (y ∷ m) h = absurd (false≢true h)
same_list-exact (x ∷ l) [] h = absurd (false≢true h)
same_list-exact (x ∷ l) (y ∷ m) h =
    ap₂ ◌∷◌ (eqb-true x y (and_l (eqb x y) (same_list eqb l m) h))
    (same_list-exact l m (and_r (eqb x y) (same_list eqb l m) h))

pub same_list-turned : (l m : List ℕ) → same_list eqb l m ≡ same_list eqb m l
unfolding same_list
same_list-turned [] [] = refl
same_list-turned [] (y ∷ m) = refl
same_list-turned (x ∷ l) [] = refl
same_list-turned (x ∷ l) (y ∷ m) = ap₂ ◌&&◌ (eqb-turned x y) (same_list-turned l m)

------------------------------------------------------------------------
-- lists one after the other

pub flatten-map-append : {A B : Type 0} (f : A → List B) (l m : List A)
    → flatten (map f (l ++ m)) ≡ flatten (map f l) ++ flatten (map f m)
unfolding flatten
flatten-map-append f [] m = refl
flatten-map-append f (x ∷ l) m =
    ap (λ k. f x ++ k) (flatten-map-append f l m) ∙ sym (append_assoc (f x) (flatten (map f l)) (flatten (map f m)))
