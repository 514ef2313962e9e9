-- The bytes of a switch's memory: the marks of its fair outputs, the rank of the last cell that left each output, and
-- the last rank given to each flow, numbers of 32 bits. Any bytes of this length are those of a memory.
use Rattle.std.specs.Prelude.{ℕ, ◌+◌, ◌*◌, List, [], ◌∷◌, ◌++◌, drop}
use Rattle.cell.specs.Limits.{port_limit}
use Rattle.model.specs.Fair.{Memory, flow_count}
use Rattle.layout.specs.Number.{bytes_of, word, words_in}

abbrev pub word_size : ℕ
word_size = 4

-- where the ranks that left stand, and those given
abbrev pub left_start : ℕ
left_start = word_size

abbrev pub given_start : ℕ
given_start = left_start + word_size * port_limit

abbrev pub memory_size : ℕ
memory_size = given_start + word_size * flow_count

unfoldable pub words_bytes : List ℕ → List ℕ
words_bytes [] = []
words_bytes (w ∷ ws) = bytes_of word_size w ++ words_bytes ws

unfoldable pub memory_bytes : Memory → List ℕ
memory_bytes m = bytes_of word_size m.fair ++ (words_bytes m.left ++ words_bytes m.given)

-- the memory that bytes would stand for, whatever they are
unfoldable pub memory_of : List ℕ → Memory
memory_of bs =
    record {
      fair = word bs 0;
      left = words_in port_limit (drop left_start bs);
      given = words_in flow_count (drop given_start bs);
    }
