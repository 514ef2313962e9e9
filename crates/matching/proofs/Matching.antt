-- What is proved of the matching, for any two strict orders:
--     matched-stable, matched-best      it is stable, and no stable matching is better for an input
--     matched-any-order                 refusing in any other order ends at it
--     matched-per-input, -per-output    at most one match of those that one order compares
--     matched-keep, matched-nil         it is a part of the list, in the order of the list
--     proposals-made                    each refused candidate and each match is proposed once
--     proposals-bound                   there are no more proposals than candidates
-- That the rounds end is settled-fixed, in Rounds.
use Prim.Native.Nat.{ℕ, ◌+◌, ◌≤◌}
use native.Mathlib.Omega.{arith}
use mathlib.Core.Bool.{Bool, true, false, not, ◌&&◌, ◌||◌}
use mathlib.Core.Path.{◌≡◌, refl, sym, ◌∙◌, ap}
use mathlib.Core.Logic.{◌⊎◌, inl, inr}
use mathlib.Core.List.{List, [], Memᴰ}
use lib.ListN.{length}
use Rattle.laws.specs.Lists.{keep, none?, count, pairwise}
use Rattle.laws.specs.Order.{Strict}
use Rattle.laws.proofs.Tests.{clash, or_l, or_r, or_cases, or-false}
use Rattle.laws.proofs.Lists.{all?-i, mem-keep-passes}
use Rattle.laws.proofs.Count.{count-keep, count-ext, count-or, count-all, count-le-length, length-keep}
use Rattle.laws.proofs.Pairwise.{pairwise-keep, pairwise-mono, pairwise-le-one}
use Rattle.matching.specs.Matching.{proposed, rounds, settled, matched, proposals}
use Rattle.matching.specs.Stable.{Stable, BestForInputs, Refusing, AtRest}
use Rattle.matching.proofs.Proposed.{proposed-nil, proposed-keeps, none?-proposed}
use Rattle.matching.proofs.Refusing.{refusing-keep, refusing-proposed}
use Rattle.matching.proofs.Refusing.{rest_stable, rest-best, rest-same}
use Rattle.matching.proofs.Rounds.{settled-refusing, settled-rest, settled-proposed}

module _ {A : Type 0} (ahead over : A → A → Bool) where
  ------------------------------------------------------------------------
  -- a part of the list

  -- the matching is a part of the list, in the order of the list
  pub matched-keep : (l : List A) → (p : A → Bool) × (matched ahead over l ≡ keep p l)
  unfolding matched
  matched-keep l = refusing-proposed ahead over (settled-refusing ahead over l)

  pub matched-nil : matched ahead over [] ≡ []
  unfolding matched settled rounds
  matched-nil = proposed-nil ahead over

  pub proposals-nil : ◌≡◌ {A = ℕ} (proposals ahead over []) 0
  unfolding proposals count
  proposals-nil = refl

  pub proposals-bound : (l : List A) → proposals ahead over l ≤ length l
  unfolding proposals
  proposals-bound l = count-le-length _ l

  settled-keep : (l : List A) → (p : A → Bool) × (settled ahead over l ≡ keep p l)
  settled-keep l = refusing-keep ahead over (settled-refusing ahead over l)

  module _ (by-input : Strict ahead) (by-output : Strict over) where
    ------------------------------------------------------------------------
    -- stable, and best for the inputs

    pub matched-stable : (l : List A) → Stable ahead over l (matched ahead over l)
    unfolding matched
    matched-stable l =
        rest_stable ahead over by-input by-output (settled-refusing ahead over l) (settled-rest ahead over l)

    pub matched-best : (l : List A) → BestForInputs ahead over l (matched ahead over l)
    unfolding matched
    matched-best l = rest-best ahead over by-input by-output (settled-refusing ahead over l)

    ------------------------------------------------------------------------
    -- refusing in any order

    pub matched-any-order : {l l' : List A} → Refusing ahead over l l' → AtRest ahead over l'
        → proposed ahead over l' ≡ matched ahead over l
    unfolding matched
    matched-any-order {l} r rest =
        rest-same ahead over by-input by-output r rest (settled-refusing ahead over l) (settled-rest ahead over l)

    ------------------------------------------------------------------------
    -- at most one match

    -- of candidates that an order compares with one another, at most one stands in a part where none is before another
    at_most_one : (lt : A → A → Bool) (p : A → Bool) (l m : List A) → (q : A → Bool) × (m ≡ keep q l)
        → ((c d : A) → Memᴰ c m → Memᴰ d m → lt c d ≡ false)
        → pairwise (λ c d. not (p c && p d) || (lt c d || lt d c)) l ≡ true → count p m ≤ 1
    at_most_one lt p l m part apart h =
        pairwise-le-one p m (pairwise-mono compared (λ c d. not (p c && p d)) m go
        (rw part.1 (pairwise-keep compared part.0 l h)))
      where
        compared : A → A → Bool
        compared c d = not (p c && p d) || (lt c d || lt d c)

        go : (c d : A) → Memᴰ c m → Memᴰ d m → compared c d ≡ true → not (p c && p d) ≡ true
        go c d i j t = cases (or_cases (not (p c && p d)) (lt c d || lt d c) t)
          where
            cases : (not (p c && p d) ≡ true) ⊎ ((lt c d || lt d c) ≡ true) → not (p c && p d) ≡ true
            cases (inl n) = n
            cases (inr o) = absurd (clash o (or-false (lt c d) (lt d c) (apart c d i j) (apart d c j i)))

    pub matched-per-input : (p : A → Bool) (l : List A)
        → pairwise (λ c d. not (p c && p d) || (ahead c d || ahead d c)) l ≡ true
        → count p (matched ahead over l) ≤ 1
    matched-per-input p l =
        at_most_one ahead p l (matched ahead over l) (matched-keep l) (matched-stable l).matching.per-input

    pub matched-per-output : (p : A → Bool) (l : List A)
        → pairwise (λ c d. not (p c && p d) || (over c d || over d c)) l ≡ true
        → count p (matched ahead over l) ≤ 1
    matched-per-output p l =
        at_most_one over p l (matched ahead over l) (matched-keep l) (matched-stable l).matching.per-output

    ------------------------------------------------------------------------
    -- the number of proposals

    -- each refused candidate and each match was proposed once
    pub proposals-made : (l : List A)
        → proposals ahead over l + length (settled ahead over l) ≡ length l + length (matched ahead over l)
    unfolding proposals matched
    proposals-made l =
        omega (arith, count-or left made l, all-counted, both-counted, settled-counted, matched-counted)
      where
        k : List A
        k = settled ahead over l

        part : (p : A → Bool) × (k ≡ keep p l)
        part = settled-keep l

        left : A → Bool
        left = part.0

        made : A → Bool
        made c = none? (λ m. ahead m c) (proposed ahead over k)

        first : A → Bool
        first c = none? (λ d. ahead d c) k

        settled-counted : length k ≡ count left l
        settled-counted = ap length part.1 ∙ length-keep left l

        matched-counted : length (proposed ahead over k) ≡ count made k
        matched-counted =
            ap length (proposed-keeps ahead over k)
            ∙ length-keep first k
            ∙ count-ext first made k (λ c m. sym (none?-proposed ahead over by-input k c))

        both-counted : count (λ c. left c && made c) l ≡ count made k
        both-counted = sym (ap (count made) part.1 ∙ count-keep left made l)

        -- what is not left was proposed
        all-counted : count (λ c. left c || made c) l ≡ length l
        all-counted =
            count-all (λ c. left c || made c) l
            (all?-i (λ c. left c || made c) l (λ c m. go c (settled-proposed ahead over l c m)))
          where
            go : (c : A) → Memᴰ c k ⊎ (first c ≡ true) → (left c || made c) ≡ true
            go c (inl i) = or_l (left c) (made c) (mem-keep-passes left l (rw part.1 at i))
            go c (inr f) = or_r (left c) (made c) (none?-proposed ahead over by-input k c ∙ f)
