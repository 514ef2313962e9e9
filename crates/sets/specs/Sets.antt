-- Sets of positions below 64, as the bits of a number.
--     has set j       position j is a member
--     set_from p k n   those of the first n positions, counted from k, at which the test holds
--     set_of p         the positions at which the test holds
--     members set     the members, rising
--     first_of set     the first member; 64 where there is none
use Rattle.std.specs.Prelude.{ℕ, zero, suc, ◌+◌, ◌*◌, ◌/◌, ◌%◌, ◌^◌, Bool, cond, not, ◌&&◌, ◌||◌, List, [], ◌∷◌, eqb, length}
use Rattle.laws.specs.Lists.{keep, up_to}

abbrev pub positions : ℕ
positions = 64

unfoldable pub has : ℕ → ℕ → Bool
has set j = eqb (set / 2 ^ j % 2) 1

-- a set with each member one position later, and position 0 a member or not
abbrev pub pushed : ℕ → Bool → ℕ
pushed set member = 2 * set + cond member 1 0

-- position j is a member if j is below n and the test holds of k + j
unfoldable pub set_from : (ℕ → Bool) → ℕ → ℕ → ℕ
set_from p k zero = 0
set_from p k (suc n) = pushed (set_from p (k + 1) n) (p k)

unfoldable pub set_of : (ℕ → Bool) → ℕ
set_of p = set_from p 0 positions

-- the members of one set that another does not have
unfoldable pub minus : ℕ → ℕ → ℕ
minus a b = set_of (λ j. has a j && not (has b j))

-- the members that both sets have
unfoldable pub both : ℕ → ℕ → ℕ
both a b = set_of (λ j. has a j && has b j)

-- the members that either set has
unfoldable pub either : ℕ → ℕ → ℕ
either a b = set_of (λ j. has a j || has b j)

unfoldable pub members : ℕ → List ℕ
members set = keep (has set) (up_to positions)

-- the first of a list, or another number where it is empty
abbrev pub head_or : ℕ → List ℕ → ℕ
head_or n [] = n
head_or n (x ∷ l) = x

unfoldable pub first_of : ℕ → ℕ
first_of set = head_or positions (members set)

unfoldable pub size_of : ℕ → ℕ
size_of set = length (members set)
