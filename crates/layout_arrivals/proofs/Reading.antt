-- Records read from bytes.
--     arrival_at-fields         the record at a place, by its fields
--     read_none, read_next     the records read so far
--     first-records            those that are looked at
use Prim.Native.Nat.{ℕ, zero, suc, ◌+◌, ◌*◌, ◌≤◌, ◌<◌, min}
use native.Mathlib.Omega.{arith}
use native.Mathlib.Numerals.{add-one}
use mathlib.Core.Bool.{Bool, true, false}
use mathlib.Core.List.{List, [], ◌∷◌, ◌++◌}
use mathlib.Core.Path.{◌≡◌, refl, sym, ap, ap₂, ◌∙◌}
use borrow.Author.Tests.{ltb-true, ltb-false}
use lib.Dec.{ltb}
use lib.ListN.{length, take, drop, set}
use lib.Seq.{take_all, take-suc-set, drop-drop}
use Rattle.cell.specs.declared.Arrival.{Arrival}
use Rattle.layout.specs.Arrivals.{arrival_size, arrival_of, arrivals_of, held_limit}
use Rattle.layout.specs.Number.{word}
use Rattle.layout.proofs.Arrivals.{length-arrivals_of}
use Rattle.layout.proofs.Records.{number_at-part}
use Rattle.layout_arrivals.specs.Code.{arrival_at}

module _ (bs : List ℕ) (k : ℕ) where
  arrival_at-word : (at : ℕ) → at + 4 ≤ arrival_size
      → word bs (arrival_size * k + at) ≡ word (take arrival_size (drop (arrival_size * k) bs)) at
  unfolding word
  arrival_at-word at h = sym (number_at-part 4 at arrival_size (arrival_size * k) bs h)

  -- the record whose fields are read
  pub arrival_at-fields : (a : Arrival) → a.input ≡ word bs (arrival_size * k) → a.output ≡ word bs (arrival_size * k + 4)
      → a.flow ≡ word bs (arrival_size * k + 8) → a.rank ≡ word bs (arrival_size * k + 12) → a.tag ≡ word bs (arrival_size * k + 16)
      → a ≡ arrival_at bs k
  unfolding arrival_at arrival_of
  arrival_at-fields a i o f r t =
      let first : arrival_size * k ≡ arrival_size * k + 0 = omega arith in
      λ x. record {
        input = (i ∙ ap (word bs) first ∙ arrival_at-word 0 (omega arith)) x;
        output = (o ∙ arrival_at-word 4 (omega arith)) x;
        flow = (f ∙ arrival_at-word 8 (omega arith)) x;
        rank = (r ∙ arrival_at-word 12 (omega arith)) x;
        tag = (t ∙ arrival_at-word 16 (omega arith)) x;
      }

-- one more
arrivals_of-more : (n : ℕ) (bs : List ℕ)
    → arrivals_of (suc n) bs ≡ arrivals_of n bs ++ (arrival_of (take arrival_size (drop (arrival_size * n) bs)) ∷ [])
unfolding arrivals_of
arrivals_of-more zero bs = refl
arrivals_of-more (suc n) bs =
    let next : arrival_size + arrival_size * n ≡ arrival_size * suc n = omega arith in
    ap (λ l. arrival_of (take arrival_size bs) ∷ l)
    (arrivals_of-more n (drop arrival_size bs)
    ∙ ap (λ l. arrivals_of n (drop arrival_size bs) ++ (arrival_of (take arrival_size l) ∷ []))
    (drop-drop (arrival_size * n) arrival_size bs ∙ ap (λ k. drop k bs) next))

pub read_none : (bs : List ℕ) → [] ≡ arrivals_of 0 bs
unfolding arrivals_of
read_none bs = refl

pub read_next : (records : List Arrival) (bs : List ℕ) (n : ℕ) (a : Arrival) → n < length records
    → take n records ≡ arrivals_of n bs → a ≡ arrival_at bs n → take (n + 1) (set records n a) ≡ arrivals_of (n + 1) bs
unfolding arrival_at
read_next records bs n a inside sofar e =
    ap (λ k. take k (set records n a)) (add-one n)
    ∙ take-suc-set records n a inside
    ∙ ap₂ (λ l r. l ++ (r ∷ [])) sofar e
    ∙ sym (ap (λ k. arrivals_of k bs) (add-one n) ∙ arrivals_of-more n bs)

------------------------------------------------------------------------
-- the first seventeen

arrivals_of-take : (k n : ℕ) (bs : List ℕ) → k ≤ n → arrivals_of k bs ≡ take k (arrivals_of n bs)
unfolding arrivals_of
arrivals_of-take zero n bs h = refl
arrivals_of-take (suc k) zero bs h = absurd (omega arith)
arrivals_of-take (suc k) (suc n) bs h =
    ap (λ l. arrival_of (take arrival_size bs) ∷ l) (arrivals_of-take k n (drop arrival_size bs) (omega arith))

pub first-records : (n : ℕ) (bs : List ℕ) → arrivals_of (min n held_limit) bs ≡ take held_limit (arrivals_of n bs)
first-records n bs = go (ltb n held_limit) refl
  where
    go : (b : Bool) → ltb n held_limit ≡ b → arrivals_of (min n held_limit) bs ≡ take held_limit (arrivals_of n bs)
    go true e =
        let few : n < held_limit = ltb-true n held_limit e in
        let all : min n held_limit ≡ n = omega arith in
        ap (λ k. arrivals_of k bs) all
        ∙ sym (take_all held_limit (arrivals_of n bs) (omega (arith, length-arrivals_of n bs)))
    go false e =
        let many : held_limit ≤ n = ltb-false n held_limit e in
        let end : min n held_limit ≡ held_limit = omega arith in
        ap (λ k. arrivals_of k bs) end ∙ arrivals_of-take held_limit n bs many
