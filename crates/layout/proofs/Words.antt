-- The bytes of a number as the library reads and writes them.
--     le-read      what is read of so many bytes
--     le-written   what is written
use Prim.Native.Nat.{ℕ, zero, suc, ◌+◌, ◌*◌, ◌^◌, ◌/◌, ◌%◌}
use mathlib.Core.Path.{◌≡◌, refl, sym, ◌∙◌, ap}
use mathlib.Core.List.{List, [], ◌∷◌}
use native.Mathlib.Nat.{pow-suc, pow-succ', div-div-eq-div-mul}
use native.Mathlib.Omega.{arith}
use lib.ListN.{take, get_or}
use Rattle.std.specs.Int.{sum_through, byte_worth, bytes_low_first}
use Rattle.layout.specs.Number.{bytes_of, number_of}

-- the first byte, and 256 times what the others stand for
worth-first : (f : ℕ → ℕ) (k : ℕ)
    → sum_through (λ i. byte_worth i (f i)) (suc k) ≡ f 0 + 256 * sum_through (λ i. byte_worth i (f (suc i))) k
worth-first f zero = omega arith
worth-first f (suc k) =
    let power : 256 ^ suc (suc k) ≡ 256 * 256 ^ suc k = pow-succ' 256 (suc k) in
    let last : f (suc (suc k)) * 256 ^ suc (suc k) ≡ 256 * (f (suc (suc k)) * 256 ^ suc k) = rw power (omega arith) in
    omega (arith, worth-first f k)

no_worth : (k : ℕ) → sum_through (λ i. byte_worth i 0) k ≡ 0
no_worth zero = refl
no_worth (suc k) = omega (arith, no_worth k)

pub le-read : (k : ℕ) (bs : List ℕ)
    → sum_through (λ i. byte_worth i (get_or (take (suc k) bs) i 0)) k ≡ number_of (take (suc k) bs)
unfolding number_of
le-read k [] = no_worth k
le-read zero (b ∷ bs) = omega arith
le-read (suc k) (b ∷ bs) =
    worth-first (λ i. get_or (b ∷ take (suc k) bs) i 0) k ∙ ap (λ n. b + 256 * n) (le-read k bs)

low_first : (i k n : ℕ) → bytes_low_first (suc i) k n ≡ bytes_of k (n / 256 ^ suc i)
unfolding bytes_of
low_first i zero n = refl
low_first i (suc k) n =
    ap (λ bs. n / 256 ^ suc i % 256 ∷ bs)
    (low_first (suc i) k n
    ∙ ap (bytes_of k) (ap (λ m. n / m) (pow-suc 256 (suc i)) ∙ sym (div-div-eq-div-mul n (256 ^ suc i) 256)))

pub le-written : (k n : ℕ) → bytes_low_first 0 (suc k) n ≡ bytes_of (suc k) n
unfolding bytes_of
le-written k n = ap (λ bs. n % 256 ∷ bs) (low_first 0 k n)
