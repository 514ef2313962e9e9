-- Runs of bytes.
--     put-more, put_whole     one byte more of a run that is put, and a run as long as the string
--     put-zeros               a run put where zeros begin
--     zeros-all               whether bytes are zeros, one by one
use Prim.Native.Nat.{ℕ, zero, suc, ◌+◌, ◌≤◌, ◌<◌}
use native.Mathlib.Nat.{zero-add, suc-add}
use native.Mathlib.Numerals.{add-one}
use native.Mathlib.Omega.{arith}
use mathlib.Core.Bool.{◌&&◌}
use mathlib.Core.List.{List, [], ◌∷◌, ◌++◌, append_assoc, append-nil}
use mathlib.Core.Path.{◌≡◌, refl, sym, ◌∙◌, ap, ap₂}
use lib.Dec.{eqb}
use lib.ListN.{length, take, drop, get_or, set, replicate, length-replicate, drop_of_length-le}
use lib.Seq.{paste, paste-suc, take_at, drop_at, drop-drop, drop-append-le}
use Rattle.std.specs.List.{list_all}
use Rattle.layout.specs.Code.{put}
use Rattle.layout.specs.Number.{same_bytes}

-- one byte more of a run that is put
pub put-more : (at i b : ℕ) (xs old mid : List ℕ) → at + i < length old → i < length xs → mid ≡ put at i (take i xs) old
    → b ≡ get_or xs i 0 → set mid (at + i) b ≡ put at (i + 1) (take (i + 1) xs) old
put-more at i b xs old mid room more so_far byte =
    ap₂ (λ l x. set l (at + i) x) (so_far ∙ sym (pasted i)) byte
    ∙ paste-suc old at xs i 0 room more
    ∙ rw add-one (pasted (suc i))
  where
    pasted : (n : ℕ) → paste old at xs n ≡ put at n (take n xs) old
    pasted n = append_assoc (take at old) (take n xs) (drop (at + n) old)

-- a run as long as the string
pub put_whole : (n : ℕ) (xs old : List ℕ) → length old ≡ n → put 0 n xs old ≡ xs
put_whole n xs old size =
    let end : length old ≤ 0 + n = omega arith in
    ap (λ l. xs ++ l) (drop_of_length-le old end) ∙ append-nil xs

------------------------------------------------------------------------
-- zeros

drop-zeros : (k n : ℕ) → drop k (replicate {A = ℕ} (k + n) 0) ≡ replicate n 0
drop-zeros zero n = rw zero-add
drop-zeros (suc k) n = rw suc-add (drop-zeros k n)

-- a run put where zeros begin
pub put-zeros : (p xs : List ℕ) (w m : ℕ) (rest : List ℕ) (at : ℕ) → length p ≡ at
    → put at w xs (p ++ (replicate (w + m) 0 ++ rest)) ≡ p ++ (xs ++ (replicate m 0 ++ rest))
put-zeros p xs w m rest at h =
    let zeros : List ℕ = replicate (w + m) 0 in
    let long : w ≤ length zeros = omega (arith, length-replicate {A = ℕ} (w + m) 0) in
    ap₂ (λ before after. before ++ (xs ++ after)) (take_at p (zeros ++ rest) at h)
    (sym (drop-drop w at (p ++ (zeros ++ rest)))
    ∙ ap (drop w) (drop_at p (zeros ++ rest) at h)
    ∙ drop-append-le w zeros rest long
    ∙ ap (λ l. l ++ rest) (drop-zeros w m))

-- whether bytes are zeros, one by one
pub zeros-all : (n : ℕ) (bs : List ℕ) → length bs ≡ n → list_all (eqb 0) bs ≡ same_bytes (replicate n 0) bs
unfolding same_bytes
zeros-all zero [] size = refl
zeros-all (suc n) [] size = absurd (omega arith)
zeros-all zero (b ∷ bs) size = absurd (omega arith)
zeros-all (suc n) (b ∷ bs) size = ap (λ t. eqb 0 b && t) (zeros-all n bs (omega arith))
