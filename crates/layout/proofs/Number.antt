-- Laws of numbers as bytes, a section for each of bytes_of, number_of, number_at, same_bytes. A byte is below 256.
--     bytes?                 every one is below 256; -bytes: every byte of it is
--     number_at-here, -past   the number at the front of an append, and one behind its first part
--     bytes_of-at, -last      a number that is read from its place and written again
--     take-first, drop-first the first of three parts, and the others
use Prim.Native.Nat.{ℕ, zero, suc, ◌+◌, ◌*◌, ◌^◌, ◌/◌, ◌%◌, ◌≤◌, ◌<◌}
use mathlib.Core.Bool.{Bool, true, false≢true}
use mathlib.Core.Path.{◌≡◌, refl, sym, ◌∙◌, ap, ap₂}
use mathlib.Core.List.{List, [], ◌∷◌, ◌++◌, append_assoc, append-nil}
use native.Mathlib.Nat.{pow-zero, pow-suc}
use native.Mathlib.Omega.{arith}
use borrow.Author.Tests.{ltb-true, lt-ltb, leb-true, le-leb, eqb-true, eq-eqb}
use lib.Dec.{ltb, eqb}
use lib.ListN.{length, take, drop, get_or, replicate, take-append-drop, length-drop, drop_of_length-le}
use lib.Seq.{take_at, drop_at, drop-append-add, drop-drop, length-take-le}
use Rattle.laws.specs.Lists.{all?}
use Rattle.laws.proofs.Tests.{and_i, and_l, and_r}
use Rattle.laws.proofs.Lists.{all?-append}
use Rattle.cell.specs.Limits.{fits32}
use Rattle.layout.specs.Number.{bytes_of, number_of, number_at, word, same_bytes}

------------------------------------------------------------------------
-- bytes

unfoldable pub is_byte : ℕ → Bool
is_byte b = ltb b 256

-- every one of them is below 256
unfoldable pub bytes? : List ℕ → Bool
bytes? bs = all? is_byte bs

pub bytes?-append : (bs cs : List ℕ) → bytes? bs ≡ true → bytes? cs ≡ true → bytes? (bs ++ cs) ≡ true
unfolding bytes?
bytes?-append bs cs h k = all?-append is_byte bs cs ∙ and_i (all? is_byte bs) (all? is_byte cs) h k

pub bytes?-take : (n : ℕ) (bs : List ℕ) → bytes? bs ≡ true → bytes? (take n bs) ≡ true
unfolding bytes? all?
bytes?-take zero bs h = refl
bytes?-take (suc n) [] h = refl
bytes?-take (suc n) (b ∷ bs) h =
    and_i (is_byte b) (bytes? (take n bs)) (and_l (is_byte b) (bytes? bs) h)
    (bytes?-take n bs (and_r (is_byte b) (bytes? bs) h))

pub bytes?-drop : (n : ℕ) (bs : List ℕ) → bytes? bs ≡ true → bytes? (drop n bs) ≡ true
unfolding bytes? all?
bytes?-drop zero bs h = h
bytes?-drop (suc n) [] h = refl
bytes?-drop (suc n) (b ∷ bs) h = bytes?-drop n bs (and_r (is_byte b) (bytes? bs) h)

-- by places: what makes it so, and what it says
pub bytes?-i : (bs : List ℕ) → ((i : ℕ) → get_or bs i 0 < 256) → bytes? bs ≡ true
unfolding bytes? all? is_byte
bytes?-i [] h = refl
bytes?-i (b ∷ bs) h = and_i (ltb b 256) (bytes? bs) (lt-ltb b 256 (h 0)) (bytes?-i bs (λ i. h (suc i)))

pub zeros-bytes : (n : ℕ) → bytes? (replicate n 0) ≡ true
unfolding bytes? all? is_byte
zeros-bytes zero = refl
zeros-bytes (suc n) = zeros-bytes n

------------------------------------------------------------------------
-- the first of three parts

module _ (p q r : List ℕ) (n : ℕ) (size : length p ≡ n) where
  pub take-first : take n (p ++ q ++ r) ≡ p
  take-first = rw (append_assoc p q r) (take_at p (q ++ r) n size)

  pub drop-first : drop n (p ++ q ++ r) ≡ q ++ r
  drop-first = rw (append_assoc p q r) (drop_at p (q ++ r) n size)

------------------------------------------------------------------------
-- bytes_of

pub length-bytes_of : (w n : ℕ) → length (bytes_of w n) ≡ w
unfolding bytes_of
length-bytes_of zero n = refl
length-bytes_of (suc w) n = ap suc (length-bytes_of w (n / 256))

pub bytes_of-bytes : (w n : ℕ) → bytes? (bytes_of w n) ≡ true
unfolding bytes_of bytes? all? is_byte
bytes_of-bytes zero n = refl
bytes_of-bytes (suc w) n =
    and_i (ltb (n % 256) 256) (bytes? (bytes_of w (n / 256)))
    (lt-ltb (n % 256) 256 (omega arith))
    (bytes_of-bytes w (n / 256))

------------------------------------------------------------------------
-- number_of

pub number_of-bytes_of : (w n : ℕ) → n < 256 ^ w → number_of (bytes_of w n) ≡ n
unfolding bytes_of number_of
number_of-bytes_of zero n h = omega (arith, pow-zero 256)
number_of-bytes_of (suc w) n h =
    let small : n / 256 < 256 ^ w = omega (arith, pow-suc 256 w) in
    let rest : number_of (bytes_of w (n / 256)) ≡ n / 256 = number_of-bytes_of w (n / 256) small in
    omega arith

bytes_of-length : (bs : List ℕ) → bytes? bs ≡ true → bytes_of (length bs) (number_of bs) ≡ bs
unfolding bytes_of number_of bytes? all? is_byte
bytes_of-length [] h = refl
bytes_of-length (b ∷ bs) h =
    let small : b < 256 = ltb-true b 256 (and_l (ltb b 256) (bytes? bs) h) in
    let first : (b + 256 * number_of bs) % 256 ≡ b = omega arith in
    let others : (b + 256 * number_of bs) / 256 ≡ number_of bs = omega arith in
    let rest : bytes_of (length bs) (number_of bs) ≡ bs = bytes_of-length bs (and_r (ltb b 256) (bytes? bs) h) in
    ap₂ ◌∷◌ first (ap (bytes_of (length bs)) others ∙ rest)

pub bytes_of-number_of : (w : ℕ) (bs : List ℕ) → bytes? bs ≡ true → length bs ≡ w → bytes_of w (number_of bs) ≡ bs
bytes_of-number_of w bs h size = rw size at (bytes_of-length bs h)

below_length : (bs : List ℕ) → bytes? bs ≡ true → number_of bs < 256 ^ length bs
unfolding number_of bytes? all? is_byte
below_length [] h = omega (arith, pow-zero 256)
below_length (b ∷ bs) h =
    let small : b < 256 = ltb-true b 256 (and_l (ltb b 256) (bytes? bs) h) in
    let rest : number_of bs < 256 ^ length bs = below_length bs (and_r (ltb b 256) (bytes? bs) h) in
    omega (arith, pow-suc 256 (length bs))

pub number_of-below : (w : ℕ) (bs : List ℕ) → bytes? bs ≡ true → length bs ≡ w → number_of bs < 256 ^ w
number_of-below w bs h size = rw size at (below_length bs h)

-- numbers of 32 bits
pub fits32-below : (n : ℕ) → fits32 n ≡ true → n < 256 ^ 4
unfolding fits32
fits32-below n h = omega (arith, leb-true)

pub below-fits32 : (n : ℕ) → n < 256 ^ 4 → fits32 n ≡ true
unfolding fits32
below-fits32 n h = le-leb n 4294967295 (omega arith)

pub number_of-word : (n : ℕ) → fits32 n ≡ true → number_of (bytes_of 4 n) ≡ n
number_of-word n h = number_of-bytes_of 4 n (fits32-below n h)

------------------------------------------------------------------------
-- number_at, and word, which has 32 bits

pub number_at-past : (w at : ℕ) (p q : List ℕ) (n : ℕ) → length p ≡ n
    → number_at w (n + at) (p ++ q) ≡ number_at w at q
unfolding number_at
number_at-past w at p q n h = rw (← h, drop-append-add)

pub number_at-here : (w n : ℕ) (q : List ℕ) → n < 256 ^ w → number_at w 0 (bytes_of w n ++ q) ≡ n
unfolding number_at
number_at-here w n q h = ap number_of (take_at (bytes_of w n) q w (length-bytes_of w n)) ∙ number_of-bytes_of w n h

pub word-past : (bs cs : List ℕ) (n at : ℕ) → length bs ≡ n → word (bs ++ cs) (n + at) ≡ word cs at
unfolding word
word-past bs cs n at h = number_at-past 4 at bs cs n h

pub word-here : (n : ℕ) (bs : List ℕ) → fits32 n ≡ true → word (bytes_of 4 n ++ bs) 0 ≡ n
unfolding word
word-here n bs h = number_at-here 4 n bs (fits32-below n h)

-- so many bytes at a place
module _ (w at : ℕ) (bs : List ℕ) (h : bytes? bs ≡ true) (room : at + w ≤ length bs) where
  part_bytes : bytes? (take w (drop at bs)) ≡ true
  part_bytes = bytes?-take w (drop at bs) (bytes?-drop at bs h)

  length_part : length (take w (drop at bs)) ≡ w
  length_part = length-take-le w (drop at bs) (simp length-drop (omega arith))

  -- their number fits their width
  pub number_at-below : number_at w at bs < 256 ^ w
  unfolding number_at
  number_at-below = number_of-below w (take w (drop at bs)) part_bytes length_part

  -- and written again, before what follows there, it gives them back
  pub bytes_of-at : (rest : List ℕ) → rest ≡ drop (at + w) bs → bytes_of w (number_at w at bs) ++ rest ≡ drop at bs
  unfolding number_at
  bytes_of-at rest e =
      ap₂ ◌++◌ (bytes_of-number_of w (take w (drop at bs)) part_bytes length_part) (e ∙ sym (drop-drop w at bs))
      ∙ take-append-drop w (drop at bs)

pub bytes_of-last : (w at : ℕ) (bs : List ℕ) → bytes? bs ≡ true → length bs ≡ at + w
    → bytes_of w (number_at w at bs) ≡ drop at bs
bytes_of-last w at bs h size =
    let room : at + w ≤ length bs = omega arith in
    let end : length bs ≤ at + w = omega arith in
    sym (append-nil (bytes_of w (number_at w at bs))) ∙ bytes_of-at w at bs h room [] (sym (drop_of_length-le bs end))

pub word_fits : (bs : List ℕ) (at : ℕ) → bytes? bs ≡ true → at + 4 ≤ length bs → fits32 (word bs at) ≡ true
unfolding word
word_fits bs at h room = below-fits32 (number_at 4 at bs) (number_at-below 4 at bs h room)

------------------------------------------------------------------------
-- same_bytes

pub same_bytes-refl : (bs : List ℕ) → same_bytes bs bs ≡ true
unfolding same_bytes
same_bytes-refl [] = refl
same_bytes-refl (b ∷ bs) = and_i (eqb b b) (same_bytes bs bs) (eq-eqb b b refl) (same_bytes-refl bs)

pub same_bytes-exact : (bs cs : List ℕ) → same_bytes bs cs ≡ true → bs ≡ cs
unfolding same_bytes
same_bytes-exact [] [] h = refl
same_bytes-exact [] (c ∷ cs) h = absurd (false≢true h)
same_bytes-exact (b ∷ bs) [] h = absurd (false≢true h)
same_bytes-exact (b ∷ bs) (c ∷ cs) h =
    ap₂ ◌∷◌ (eqb-true b c (and_l (eqb b c) (same_bytes bs cs) h))
    (same_bytes-exact bs cs (and_r (eqb b c) (same_bytes bs cs) h))
