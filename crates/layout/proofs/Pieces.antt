-- Laws of equal pieces of a byte string.
--     sized                          all pieces have this size
--     flatten-pieces, pieces-flatten a string cut into pieces, and pieces put together
--     piece_of, count-pieces         one of them by its number, and how many there are
--     length-flatten                 how long they are together
--     piece-at, put-piece            one of them read, and one of them written, behind any front
--     flatten-zeros                  pieces of zeros
use Prim.Native.Nat.{ℕ, zero, suc, ◌+◌, ◌*◌, ◌<◌}
use mathlib.Core.Bool.{Bool, true}
use mathlib.Core.Path.{◌≡◌, refl, sym, ◌∙◌, ap, ap₂}
use mathlib.Core.List.{List, [], ◌∷◌, ◌++◌, flatten, append_assoc}
use native.Mathlib.Nat.{mul-zero, mul-suc, zero-add, add_assoc}
use native.Mathlib.Omega.{arith}
use borrow.Author.Tests.{eqb-true}
use lib.Dec.{eqb}
use lib.ListN.{length, take, drop, get_or, set, replicate, length-append, length-drop, take-append-drop}
use lib.ListN.{replicate-append-replicate}
use lib.Seq.{take_at, drop_at, drop-drop, take-append-add, drop-append-add}
use Rattle.laws.specs.Lists.{all?}
use Rattle.laws.proofs.Tests.{and_l, and_r}
use Rattle.layout.specs.Code.{put}
use Rattle.layout.specs.Stores.{pieces}

unfoldable pub sized : ℕ → List (List ℕ) → Bool
sized size xs = all? (λ x. eqb (length x) size) xs

-- what it says of the first and of the others
module _ (size : ℕ) (x : List ℕ) (xs : List (List ℕ)) (h : sized size (x ∷ xs) ≡ true) where
  sized-first : length x ≡ size
  unfolding sized all?
  sized-first = eqb-true (length x) size (and_l (eqb (length x) size) (sized size xs) h)

  sized-others : sized size xs ≡ true
  unfolding sized all?
  sized-others = and_r (eqb (length x) size) (sized size xs) h

  -- the place of a later piece
  later : (k : ℕ) → size * suc k ≡ length x + size * k
  later k = omega (arith, mul-suc size k, sized-first)

pub length-flatten : (size : ℕ) (xs : List (List ℕ)) → sized size xs ≡ true → length (flatten xs) ≡ size * length xs
unfolding flatten
length-flatten size [] h = sym (mul-zero size)
length-flatten size (x ∷ xs) h =
    length-append x (flatten xs)
    ∙ ap (λ n. length x + n) (length-flatten size xs (sized-others size x xs h))
    ∙ sym (later size x xs h (length xs))

pub flatten-pieces : (size n : ℕ) (bs : List ℕ) → length bs ≡ size * n → flatten (pieces size n bs) ≡ bs
unfolding flatten pieces
flatten-pieces size zero [] h = refl
flatten-pieces size zero (b ∷ bs) h = absurd (omega (arith, mul-zero size))
flatten-pieces size (suc n) bs h =
    let rest : length (drop size bs) ≡ size * n = length-drop size bs ∙ omega (arith, mul-suc size n) in
    ap (λ cs. take size bs ++ cs) (flatten-pieces size n (drop size bs) rest) ∙ take-append-drop size bs

pub pieces-flatten : (size : ℕ) (xs : List (List ℕ)) → sized size xs ≡ true
    → pieces size (length xs) (flatten xs) ≡ xs
unfolding flatten pieces
pieces-flatten size [] h = refl
pieces-flatten size (x ∷ xs) h =
    let first : length x ≡ size = sized-first size x xs h in
    ap₂ ◌∷◌ (take_at x (flatten xs) size first)
    (ap (pieces size (length xs)) (drop_at x (flatten xs) size first)
    ∙ pieces-flatten size xs (sized-others size x xs h))

-- the pieces by their numbers
pub piece_of : (size n : ℕ) (bs d : List ℕ) (k : ℕ) → k < n → get_or (pieces size n bs) k d ≡ take size (drop (size * k) bs)
unfolding pieces
piece_of size zero bs d k few = absurd (omega arith)
piece_of size (suc n) bs d zero few = ap (λ m. take size (drop m bs)) (sym (mul-zero size))
piece_of size (suc n) bs d (suc k) few =
    let next : size + size * k ≡ size * suc k = omega (arith, mul-suc size k) in
    piece_of size n (drop size bs) d k (omega arith)
    ∙ ap (take size) (drop-drop (size * k) size bs ∙ ap (λ m. drop m bs) next)

pub count-pieces : (size n : ℕ) (bs : List ℕ) → length (pieces size n bs) ≡ n
unfolding pieces
count-pieces size zero bs = refl
count-pieces size (suc n) bs = ap suc (count-pieces size n (drop size bs))

pub piece-at : (size : ℕ) (xs : List (List ℕ)) (k : ℕ) → sized size xs ≡ true → k < length xs
    → take size (drop (size * k) (flatten xs)) ≡ get_or xs k []
unfolding flatten
piece-at size [] k h inside = absurd (omega arith)
piece-at size (x ∷ xs) zero h inside =
    rw (mul-zero size) (take_at x (flatten xs) size (sized-first size x xs h))
piece-at size (x ∷ xs) (suc k) h inside =
    rw (later size x xs h k, drop-append-add) (piece-at size xs k (sized-others size x xs h) (omega arith))

-- one written, with no front
put-flatten : (size : ℕ) (xs : List (List ℕ)) (k : ℕ) (x : List ℕ) → sized size xs ≡ true → k < length xs
    → put (size * k) size x (flatten xs) ≡ flatten (set xs k x)
unfolding flatten
put-flatten size [] k x h inside = absurd (omega arith)
put-flatten size (y ∷ xs) zero x h inside =
    rw (mul-zero size, zero-add size) (ap (λ bs. x ++ bs) (drop_at y (flatten xs) size (sized-first size y xs h)))
put-flatten size (y ∷ xs) (suc k) x h inside =
    rw (later size y xs h k, add_assoc, take-append-add, drop-append-add, append_assoc)
    (ap (λ bs. y ++ bs) (put-flatten size xs k x (sized-others size y xs h) (omega arith)))

pub put-piece : (size : ℕ) (xs : List (List ℕ)) (k : ℕ) (x front : List ℕ) → sized size xs ≡ true → k < length xs
    → put (length front + size * k) size x (front ++ flatten xs) ≡ front ++ flatten (set xs k x)
put-piece size xs k x front h inside =
    rw (add_assoc, take-append-add, drop-append-add, append_assoc)
    (ap (λ bs. front ++ bs) (put-flatten size xs k x h inside))

pub flatten-zeros : (size n : ℕ) → flatten {A = ℕ} (replicate n (replicate size 0)) ≡ replicate (size * n) 0
unfolding flatten
flatten-zeros size zero = ap (λ k. replicate k 0) (sym (mul-zero size))
flatten-zeros size (suc n) =
    let longer : size + size * n ≡ size * suc n = omega (arith, mul-suc size n) in
    ap (λ bs. replicate size 0 ++ bs) (flatten-zeros size n)
    ∙ replicate-append-replicate size (size * n) 0
    ∙ ap (λ k. replicate k 0) longer
