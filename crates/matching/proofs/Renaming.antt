-- The matching of candidates under other names, and by other tests.
--     matched-map, proposals-map   candidates f x, compared through f
--     matched-ext, proposals-ext   tests that agree on the candidates
use Prim.Native.Nat.{ℕ, zero, suc}
use mathlib.Core.Bool.{Bool, ◌||◌}
use mathlib.Core.Path.{◌≡◌, refl, ◌∙◌, ap, ap₂}
use mathlib.Core.List.{List, map, Memᴰ}
use lib.ListN.{length, length-map}
use Rattle.laws.specs.Lists.{none?}
use Rattle.laws.proofs.Lists.{some?-map, some?-ext, none?-map, none?-ext, keep-map, keep-ext, mem-keep-in}
use Rattle.laws.proofs.Count.{count_map, count-ext}
use Rattle.laws.proofs.Least.{least-map, least-ext}
use Rattle.matching.specs.Matching.{proposed, round, rounds, settled, matched, proposals}
use Rattle.matching.proofs.Proposed.{mem-proposed-in}
use Rattle.matching.proofs.Refusing.{refusing-part}
use Rattle.matching.proofs.Rounds.{settled-refusing}

------------------------------------------------------------------------
-- under map

module _ {A B : Type 0} (ahead over : B → B → Bool) (f : A → B) where
  -- the tests of B, asked of what f gives
  abbrev ahead_by : A → A → Bool
  ahead_by x y = ahead (f x) (f y)

  abbrev over_by : A → A → Bool
  over_by x y = over (f x) (f y)

  pub proposed-map : (l : List A) → proposed ahead over (map f l) ≡ map f (proposed ahead_by over_by l)
  unfolding proposed
  proposed-map l = least-map ahead f l

  pub round-map : (l : List A) → round ahead over (map f l) ≡ map f (round ahead_by over_by l)
  unfolding round
  round-map l =
      keep-map _ f l
      ∙ ap (map f) (keep-ext _ _ l (λ x m.
      ap₂ ◌||◌ (some?-map (λ y. ahead y (f x)) f l)
      (ap (none? (λ y. over y (f x))) (proposed-map l) ∙ none?-map (λ y. over y (f x)) f (proposed ahead_by over_by l))))

  pub rounds-map : (n : ℕ) (l : List A) → rounds ahead over n (map f l) ≡ map f (rounds ahead_by over_by n l)
  unfolding rounds
  rounds-map zero l = refl
  rounds-map (suc n) l = ap (rounds ahead over n) (round-map l) ∙ rounds-map n (round ahead_by over_by l)

  pub settled-map : (l : List A) → settled ahead over (map f l) ≡ map f (settled ahead_by over_by l)
  unfolding settled
  settled-map l = ap (λ n. rounds ahead over n (map f l)) (length-map l f) ∙ rounds-map (length l) l

  pub matched-map : (l : List A)
      → matched ahead over (map f l) ≡ map f (matched (λ x y. ahead (f x) (f y)) (λ x y. over (f x) (f y)) l)
  unfolding matched
  matched-map l = ap (proposed ahead over) (settled-map l) ∙ proposed-map (settled ahead_by over_by l)

  pub proposals-map : (l : List A)
      → proposals ahead over (map f l) ≡ proposals (λ x y. ahead (f x) (f y)) (λ x y. over (f x) (f y)) l
  unfolding proposals
  proposals-map l =
      count_map _ f l
      ∙ count-ext _ _ l (λ x m.
      ap (none? (λ y. ahead y (f x))) (matched-map l) ∙ none?-map (λ y. ahead y (f x)) f (matched ahead_by over_by l))

------------------------------------------------------------------------
-- by other tests

module _ {A : Type 0} (ahead over ahead' over' : A → A → Bool) where
  -- the tests agree on the members
  pub record Agree (l : List A) : Type 0 where
    pub on-ahead : (x y : A) → Memᴰ x l → Memᴰ y l → ahead x y ≡ ahead' x y
    pub on-over : (x y : A) → Memᴰ x l → Memᴰ y l → over x y ≡ over' x y

  agree-part : (l k : List A) → ((x : A) → Memᴰ x k → Memᴰ x l) → Agree l → Agree k
  agree-part l k part h =
      record {
        on-ahead = λ x y i j. h.on-ahead x y (part x i) (part y j);
        on-over = λ x y i j. h.on-over x y (part x i) (part y j);
      }

  pub proposed-ext : (l : List A) → Agree l → proposed ahead over l ≡ proposed ahead' over' l
  unfolding proposed
  proposed-ext l h = least-ext ahead ahead' l h.on-ahead

  pub round-ext : (l : List A) → Agree l → round ahead over l ≡ round ahead' over' l
  unfolding round
  round-ext l h =
      keep-ext _ _ l (λ x m.
      ap₂ ◌||◌
      (some?-ext (λ y. ahead y x) (λ y. ahead' y x) l (λ y k. h.on-ahead y x k m))
      (none?-ext (λ y. over y x) (λ y. over' y x) (proposed ahead over l)
      (λ y k. h.on-over y x (mem-proposed-in ahead over l k) m)
      ∙ ap (none? (λ y. over' y x)) (proposed-ext l h)))

  mem-round-in : (l : List A) (x : A) → Memᴰ x (round ahead over l) → Memᴰ x l
  unfolding round
  mem-round-in l x m = mem-keep-in _ l m

  pub rounds-ext : (n : ℕ) (l : List A) → Agree l → rounds ahead over n l ≡ rounds ahead' over' n l
  unfolding rounds
  rounds-ext zero l h = refl
  rounds-ext (suc n) l h =
      rounds-ext n (round ahead over l) (agree-part l (round ahead over l) (mem-round-in l) h)
      ∙ ap (rounds ahead' over' n) (round-ext l h)

  pub settled-ext : (l : List A) → Agree l → settled ahead over l ≡ settled ahead' over' l
  unfolding settled
  settled-ext l h = rounds-ext (length l) l h

  pub matched-ext : (l : List A) → Agree l → matched ahead over l ≡ matched ahead' over' l
  unfolding matched
  matched-ext l h =
      proposed-ext (settled ahead over l)
      (agree-part l (settled ahead over l) (refusing-part ahead over (settled-refusing ahead over l)) h)
      ∙ ap (proposed ahead' over') (settled-ext l h)

  mem-matched-in : (l : List A) {x : A} → Memᴰ x (matched ahead over l) → Memᴰ x l
  unfolding matched
  mem-matched-in l {x} m =
      refusing-part ahead over (settled-refusing ahead over l) x (mem-proposed-in ahead over (settled ahead over l) m)

  pub proposals-ext : (l : List A) → Agree l → proposals ahead over l ≡ proposals ahead' over' l
  unfolding proposals
  proposals-ext l h =
      count-ext _ _ l (λ x m.
      none?-ext (λ y. ahead y x) (λ y. ahead' y x) (matched ahead over l)
      (λ y k. h.on-ahead y x (mem-matched-in l k) m)
      ∙ ap (none? (λ y. ahead' y x)) (matched-ext l h))
