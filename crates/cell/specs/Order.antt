-- Scope 2.3: output priority, and the number that most of it comes down to. N, the number of ports, is `ports`.
use Rattle.std.specs.Prelude.{ℕ, ◌+◌, ◌-◌, ◌*◌, ◌%◌, ◌^◌, Bool, cond, ◌&&◌, ◌||◌, ◌==◌, nat_lt}
use Rattle.cell.specs.declared.Cell.{Cell}

-- in slot s input s mod N goes first
abbrev pub first_in_turn : ℕ → ℕ → ℕ
first_in_turn ports slot = slot % ports

-- of two inputs, i comes before j in the round that begins at `start`: from there up, then from 0 up
unfoldable pub in_turn : ℕ → ℕ → ℕ → Bool
in_turn start i j = cond (nat_lt i start) (nat_lt j start && nat_lt i j) (nat_lt j start || nat_lt i j)

-- the place of an input in the round of slot s, from 0: (input - s) mod N
abbrev pub turn : ℕ → ℕ → ℕ → ℕ
turn ports slot input = (input + ports - slot % ports) % ports

-- of two cells of equal rank and slot, c goes first: its input comes first in the round of that slot
abbrev pub wins_tie : ℕ → Cell → Cell → Bool
wins_tie ports c d = in_turn (first_in_turn ports c.slot) c.input d.input

-- c has higher output priority than d: smaller rank first; for equal ranks the smaller slot; then the input whose turn
-- is first in that slot
unfoldable pub over : ℕ → Cell → Cell → Bool
over ports c d =
    nat_lt c.rank d.rank
    || (c.rank == d.rank
    && (nat_lt c.slot d.slot
    || (c.slot == d.slot
    && wins_tie ports c d)))

-- rank and slot as one number: the smaller one goes first, and only cells of different inputs have the same
abbrev pub key : Cell → ℕ
key c = c.rank * 2 ^ 32 + c.slot
