-- Sets as the code changes them and goes through them.
use Rattle.std.specs.Prelude.{ℕ, ◌-◌, not, ◌&&◌, ◌||◌, eqb, ltb}
use Rattle.sets.specs.Sets.{has, set_of, first_of}

-- with one position more, and with one less
unfoldable pub with_one : ℕ → ℕ → ℕ
with_one set k = set_of (λ j. has set j || eqb j k)

unfoldable pub without_one : ℕ → ℕ → ℕ
without_one set k = set_of (λ j. has set j && not (eqb j k))

-- the members before a position, and those from it on
unfoldable pub below : ℕ → ℕ → ℕ
below set k = set_of (λ j. has set j && ltb j k)

unfoldable pub from : ℕ → ℕ → ℕ
from set k = set_of (λ j. has set j && not (ltb j k))

-- a set whose members from a position on stand one later, so that the position is free
unfoldable pub opened : ℕ → ℕ → ℕ
opened set k = set_of (λ j. (has set j && ltb j k) || (ltb k j && has set (j - 1)))

unfoldable pub rest_of : ℕ → ℕ
rest_of set = without_one set (first_of set)
