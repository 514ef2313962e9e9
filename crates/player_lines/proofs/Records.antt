-- The records of a block, from its numbers.
--     records-none, records-next  the records read so far
use Prim.Native.Nat.{ℕ, zero, suc, ◌+◌, ◌*◌, ◌<◌}
use native.Mathlib.Numerals.{add-one}
use native.Mathlib.Omega.{arith}
use mathlib.Core.List.{List, [], ◌∷◌, ◌++◌}
use mathlib.Core.Path.{◌≡◌, refl, sym, ap, ap₂, ◌∙◌}
use lib.ListN.{length, take, drop, set}
use lib.Seq.{drop-drop, take-suc-set}
use Rattle.cell.specs.declared.Arrival.{Arrival}
use Rattle.trace.specs.Flat.{arrival_at, arrivals_from}

pub records-none : (ns : List ℕ) → [] ≡ arrivals_from 0 ns
unfolding arrivals_from
records-none ns = refl

-- one more
arrivals_from-more : (n : ℕ) (ns : List ℕ) → arrivals_from (suc n) ns ≡ arrivals_from n ns ++ (arrival_at (drop (5 * n) ns) ∷ [])
unfolding arrivals_from
arrivals_from-more zero ns = refl
arrivals_from-more (suc n) ns =
    let next : 5 + 5 * n ≡ 5 * suc n = omega arith in
    ap (λ l. arrival_at ns ∷ l)
    (arrivals_from-more n (drop 5 ns)
    ∙ ap (λ l. arrivals_from n (drop 5 ns) ++ (arrival_at l ∷ [])) (drop-drop (5 * n) 5 ns ∙ ap (λ k. drop k ns) next))

pub records-next : (records : List Arrival) (ns : List ℕ) (n : ℕ) (a : Arrival) → n < length records
    → take n records ≡ arrivals_from n ns → a ≡ arrival_at (drop (5 * n) ns)
    → take (n + 1) (set records n a) ≡ arrivals_from (n + 1) ns
records-next records ns n a inside sofar e =
    ap (λ k. take k (set records n a)) (add-one n)
    ∙ take-suc-set records n a inside
    ∙ ap₂ (λ l r. l ++ (r ∷ [])) sofar e
    ∙ sym (ap (λ k. arrivals_from k ns) (add-one n) ∙ arrivals_from-more n ns)
