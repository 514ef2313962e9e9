-- How long a key, the digits of a number and a line are:
--     length-key_text-le                         a key and its `=`, at most
--     decimal-tens                              the last digit stands behind those of the tenth part
--     length-decimal-small, length-decimal-tens how many digits there are
--     length-decimal-below                      at most so many
--     length-line, length-line-le               the key's text, the digits and the line feed
use Prim.Native.Nat.{ℕ, zero, suc, ◌+◌, ◌*◌, ◌-◌, ◌/◌, ◌%◌, ◌^◌, ◌≤◌, ◌<◌}
use native.Mathlib.Omega.{arith}
use mathlib.Core.Bool.{Bool, true, false}
use mathlib.Core.List.{[], ◌∷◌, ◌++◌}
use mathlib.Core.Path.{◌≡◌, refl, ap, ◌∙◌}
use borrow.Author.Tests.{ltb-true, ltb-false}
use lib.Dec.{ltb, lit≤}
use lib.ListN.{length, length-append}
use Rattle.cell.specs.Limits.{fits32}
use Rattle.trace.specs.Ascii.{ascii}
use Rattle.trace.specs.declared.Key.{Key}
use Rattle.trace.specs.declared.Key.TheVariants.{Ports, First, Slot, In, Out, Flow, Rank, Tag, End, Refused, Line}
use Rattle.trace.specs.Line.{key_name, key_text, decimal, line}
use Rattle.trace.proofs.Line.{is_digit-i, decimal-small, decimal-large}
use Rattle.trace.proofs.Tests.{fits32-e}

pub length-key_text-le : (k : Key) → length (key_text k) ≤ 8
unfolding key_text key_name ascii
length-key_text-le Ports = lit≤ tt
length-key_text-le First = lit≤ tt
length-key_text-le Slot = lit≤ tt
length-key_text-le In = lit≤ tt
length-key_text-le Out = lit≤ tt
length-key_text-le Flow = lit≤ tt
length-key_text-le Rank = lit≤ tt
length-key_text-le Tag = lit≤ tt
length-key_text-le End = lit≤ tt
length-key_text-le Refused = lit≤ tt
length-key_text-le Line = lit≤ tt

pub decimal-tens : (n : ℕ) → 10 ≤ n → decimal n ≡ decimal (n / 10) ++ ((48 + n % 10) ∷ [])
decimal-tens n h =
    let p : 0 < n / 10 = omega arith in
    let i : 48 ≤ 48 + n % 10 = omega arith in
    let j : 48 + n % 10 ≤ 57 = omega arith in
    let e : n ≡ 10 * (n / 10) + (48 + n % 10 - 48) = omega arith in
    ap decimal e ∙ decimal-large (n / 10) (48 + n % 10) p (is_digit-i _ i j)

pub length-decimal-small : (n : ℕ) → n < 10 → length (decimal n) ≡ 1
length-decimal-small n h = ap length (decimal-small n h)

pub length-decimal-tens : (n : ℕ) → 10 ≤ n → length (decimal n) ≡ length (decimal (n / 10)) + 1
length-decimal-tens n h = ap length (decimal-tens n h) ∙ length-append (decimal (n / 10)) ((48 + n % 10) ∷ [])

pub length-decimal-below : (d n : ℕ) → n < 10 ^ suc d → length (decimal n) ≤ suc d
length-decimal-below zero n h = omega (arith, length-decimal-small n h)
length-decimal-below (suc d) n h = go (ltb n 10) refl (length-decimal-below d (n / 10))
  where
    go : (b : Bool) → ltb n 10 ≡ b → (n / 10 < 10 ^ suc d → length (decimal (n / 10)) ≤ suc d)
        → length (decimal n) ≤ suc (suc d)
    go true e fewer = omega (arith, length-decimal-small n (ltb-true n 10 e))
    go false e fewer =
        let f : n / 10 < 10 ^ suc d = omega arith in
        omega (arith, length-decimal-tens n (ltb-false n 10 e), fewer f)

pub length-line : (k : Key) (n : ℕ) → length (line k n) ≡ length (key_text k) + length (decimal n) + 1
unfolding line
length-line k n = simp length-append (omega arith)

-- a number of 32 bits has at most ten digits
pub length-line-le : (k : Key) (n : ℕ) → fits32 n ≡ true → length (line k n) ≤ length (key_text k) + 11
length-line-le k n h =
    let l : length (decimal n) ≤ 10 = length-decimal-below 9 n (omega (arith, fits32-e n h)) in
    omega (arith, length-line k n)
