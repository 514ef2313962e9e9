-- The places of a store, one by one, until a name is found; and the place for a cue.
use Prim.Native.Nat.{ℕ, ◌+◌, ◌≤◌, ◌<◌}
use mathlib.Core.Path.{◌≡◌, sym, ap, ◌∙◌}
use mathlib.Core.List.{List, map}
use native.Mathlib.Nat.{zero-add}
use native.Mathlib.Omega.{arith}
use borrow.Author.Tests.{lt-ltb, le-ltb, eq-eqb, ne_eqb}
use lib.Dec.{eqb}
use lib.ListN.{length, get_or, length-map}
use Rattle.laws.specs.Lists.{numbers_from, up_to, between}
use Rattle.laws.proofs.Numbers.{length-numbers_from, numbers_from-at}
use Rattle.model.specs.Cues.{cue_limit, first_place}
use Rattle.model.proofs.FirstPlace.{first-map, first-before}
use Rattle.layout.proofs.Records.{between-nil, between_cons}
use Rattle.cue_store.specs.Code.{name_at, place_of, place_for}

-- the place of the name, if it is not before k
unfoldable pub place_from : List ℕ → ℕ → ℕ → ℕ
place_from store n k = k + first_place (λ j. eqb (name_at store j) n) (between k cue_limit)

pub place-first : (store : List ℕ) (n : ℕ) → place_of store n ≡ place_from store n 0
unfolding place_of place_from up_to between
place-first store n = sym (zero-add _)

pub place_end : (store : List ℕ) (n k : ℕ) → k ≤ cue_limit → cue_limit ≤ k → place_from store n k ≡ cue_limit
unfolding place_from first_place
place_end store n k low high = rw (between-nil k cue_limit high) (omega arith)

module _ (store : List ℕ) (n k : ℕ) (more : k < cue_limit) where
  pub place_here : name_at store k ≡ n → place_from store n k ≡ k
  unfolding place_from first_place
  place_here h = rw (between_cons k cue_limit more, eq-eqb (name_at store k) n h) (omega arith)

  pub place-next : (name_at store k ≡ n → ⊥) → place_from store n k ≡ place_from store n (k + 1)
  unfolding place_from first_place
  place-next h = rw (between_cons k cue_limit more, ne_eqb (name_at store k) n h) (omega arith)

-- a name stands first at its place or before it
pub place-before : (store : List ℕ) (k : ℕ) → k < cue_limit → place_of store (name_at store k) ≤ k
unfolding place_of up_to
place-before store k more =
    let names : List ℕ = map (name_at store) (numbers_from 0 cue_limit) in
    let size : length names ≡ cue_limit =
    length-map (numbers_from 0 cue_limit) (name_at store) ∙ length-numbers_from 0 cue_limit in
    let here : get_or names k 0 ≡ name_at store k =
    numbers_from-at (name_at store) 0 cue_limit k 0 more ∙ ap (name_at store) (zero-add k) in
    omega (
      arith,
      first-map (λ n. eqb n (name_at store k)) (name_at store) (numbers_from 0 cue_limit),
      first-before (λ n. eqb n (name_at store k)) names k 0 (omega (arith, size)) (eq-eqb (get_or names k 0) (name_at store k) here),
    )

-- the place for a cue: where its name is held, or else the first free one
module _ (store : List ℕ) (n k : ℕ) (found : k ≡ place_of store n) where
  pub for-held : k < cue_limit → place_for store n ≡ place_of store n
  unfolding place_for
  for-held h = rw (lt-ltb (place_of store n) cue_limit (omega (arith, found)), place_for)

  pub for-new : cue_limit ≤ k → place_for store n ≡ place_of store 0
  unfolding place_for
  for-new h = rw (le-ltb (place_of store n) cue_limit (omega (arith, found)), place_for)
