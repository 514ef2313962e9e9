-- A number's bytes in two halves: what is read from the halves, and what stands after both have been written.
use Prim.Native.Nat.{ℕ, zero, suc, ◌+◌, ◌*◌, ◌^◌, ◌/◌, ◌%◌, ◌≤◌, ◌<◌}
use mathlib.Core.Path.{◌≡◌, refl, sym, ◌∙◌, ap, ap₂}
use mathlib.Core.List.{List, [], ◌∷◌, ◌++◌}
use native.Mathlib.Nat.{zero-add, one-mul, mul_assoc, pow-zero, pow-succ', suc-add}
use native.Mathlib.Omega.{arith}
use lib.ListN.{length, take, drop, get_or, length-drop}
use lib.Seq.{drop-drop, take-add, length-take-le}
use Rattle.layout.specs.Number.{bytes_of, number_of, number_at}
use Rattle.layout.proofs.Number.{length-bytes_of}
use Rattle.layout.proofs.Put.{put_next}
use Rattle.layout.specs.Code.{put}

------------------------------------------------------------------------
-- read

number_of-append : (bs cs : List ℕ) → number_of (bs ++ cs) ≡ number_of bs + 256 ^ length bs * number_of cs
unfolding number_of
number_of-append [] cs = sym (ap (λ n. 0 + n * number_of cs) (pow-zero 256) ∙ omega arith)
number_of-append (b ∷ bs) cs =
    let power : 256 ^ suc (length bs) * number_of cs ≡ 256 * (256 ^ length bs * number_of cs) =
    rw pow-succ' (mul_assoc 256 (256 ^ length bs) (number_of cs)) in
    omega (arith, number_of-append bs cs)

-- a number of v bytes and, behind it, one of w bytes
pub number_at-halves : (v w at : ℕ) (bs : List ℕ) → at + v ≤ length bs
    → number_at (v + w) at bs ≡ number_at v at bs + 256 ^ v * number_at w (at + v) bs
unfolding number_at
number_at-halves v w at bs room =
    let some : v ≤ length (drop at bs) = simp length-drop (omega arith) in
    ap number_of (take-add v w (drop at bs))
    ∙ number_of-append (take v (drop at bs)) (take w (drop v (drop at bs)))
    ∙ rw (length-take-le v (drop at bs) some, drop-drop)

-- a number read half by half
pub read-halves : (w at low high : ℕ) (bs : List ℕ) → at + (w + w) ≤ length bs → low ≡ number_at w at bs
    → high ≡ number_at w (at + w) bs → low + 256 ^ w * high ≡ number_at (w + w) at bs
read-halves w at low high bs room first second =
    ap₂ (λ x y. x + 256 ^ w * y) first second ∙ sym (number_at-halves w w at bs (omega arith))

-- a byte is its number
pub number_at-byte : (at : ℕ) (bs : List ℕ) → number_at 1 at bs ≡ get_or bs at 0
unfolding number_at number_of
number_at-byte zero [] = refl
number_at-byte zero (b ∷ bs) = omega arith
number_at-byte (suc at) [] = refl
number_at-byte (suc at) (b ∷ bs) = number_at-byte at bs

------------------------------------------------------------------------
-- write

pub bytes_of-halves : (v w low high : ℕ) → low < 256 ^ v
    → bytes_of (v + w) (low + 256 ^ v * high) ≡ bytes_of v low ++ bytes_of w high
unfolding bytes_of
bytes_of-halves zero w low high small =
    let one : 256 ^ zero ≡ 1 = pow-zero 256 in
    let rest : 256 ^ zero * high ≡ high = ap (λ n. n * high) one ∙ one-mul high in
    let all : low + 256 ^ zero * high ≡ high = omega arith in
    rw zero-add (ap (bytes_of w) all)
bytes_of-halves (suc v) w low high small =
    let power : 256 ^ suc v ≡ 256 * 256 ^ v = pow-succ' 256 v in
    let part = ap (λ n. n * high) power ∙ mul_assoc 256 (256 ^ v) high in
    let first : (low + 256 ^ suc v * high) % 256 ≡ low % 256 = omega (arith, part) in
    let others : (low + 256 ^ suc v * high) / 256 ≡ low / 256 + 256 ^ v * high = omega (arith, part) in
    let less : low / 256 < 256 ^ v = omega arith in
    rw suc-add (ap₂ ◌∷◌ first (ap (bytes_of (v + w)) others ∙ bytes_of-halves v w (low / 256) high less))

-- a number written half by half
pub put-halves : (w at low high n : ℕ) (old mid new : List ℕ) → at + (w + w) ≤ length old
    → mid ≡ take at old ++ (bytes_of w low ++ drop (at + w) old)
    → new ≡ take (at + w) mid ++ (bytes_of w high ++ drop (at + w + w) mid) → low < 256 ^ w → n ≡ low + 256 ^ w * high
    → new ≡ take at old ++ (bytes_of (w + w) n ++ drop (at + (w + w)) old)
put-halves w at low high n old mid new room first second small whole =
    put_next at w w (bytes_of w low) (bytes_of w high) old mid new (length-bytes_of w low) (length-bytes_of w high) room first second
    ∙ ap (λ bs. put at (w + w) bs old) (sym (bytes_of-halves w w low high small) ∙ ap (bytes_of (w + w)) (sym whole))
