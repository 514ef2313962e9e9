-- The bytes of a slot's answer: for each of sixteen outputs 1 and its departure's six fields, or seven zeros where it
-- sends none; then the proposals of the first phase and of the second; then for each of sixteen outputs how many of its
-- crosspoints held a cell in the first phase, and the same for the second, 0 at the outputs that the switch does not have.
-- Every number has 32 bits.
use Rattle.std.specs.Prelude.{ℕ, zero, suc, ◌+◌, ◌*◌, List, [], ◌∷◌, ◌++◌, eqb, true, false, take, drop, replicate}
use Rattle.std.proofs.Math.Option.{Option, none, some}
use Rattle.cell.specs.declared.Cell.{Cell}
use Rattle.cell.specs.Limits.{port_limit}
use Rattle.model.specs.Crossbar.{Answer, refused_answer}
use Rattle.layout.specs.Number.{bytes_of, word, words_in}

abbrev pub departure_size : ℕ
departure_size = 28

abbrev pub departures_size : ℕ
departures_size = port_limit * departure_size

-- where the occupancies of the first phase stand and where those of the second
abbrev pub first_occupancy : ℕ
first_occupancy = departures_size + 8

abbrev pub occupancies_size : ℕ
occupancies_size = port_limit * 4

abbrev pub second_occupancy : ℕ
second_occupancy = first_occupancy + occupancies_size

abbrev pub answer_size : ℕ
answer_size = second_occupancy + occupancies_size

-- a number and the six fields of a cell
abbrev pub seven_bytes : ℕ → Cell → List ℕ
seven_bytes sent c =
    bytes_of 4 sent
    ++ (bytes_of 4 c.input
    ++ (bytes_of 4 c.output
    ++ (bytes_of 4 c.flow ++ (bytes_of 4 c.rank ++ (bytes_of 4 c.tag ++ bytes_of 4 c.slot)))))

unfoldable pub departure_bytes : Option Cell → List ℕ
departure_bytes none = replicate departure_size 0
departure_bytes (some c) = seven_bytes 1 c

-- so many departures, none at the outputs that the switch does not have
unfoldable pub departures_bytes : ℕ → List (Option Cell) → List ℕ
departures_bytes zero ds = []
departures_bytes (suc n) [] = departure_bytes none ++ departures_bytes n []
departures_bytes (suc n) (d ∷ ds) = departure_bytes d ++ departures_bytes n ds

-- so many numbers, 0 at the outputs that the switch does not have
unfoldable pub words_bytes : ℕ → List ℕ → List ℕ
words_bytes zero ns = []
words_bytes (suc n) [] = bytes_of 4 0 ++ words_bytes n []
words_bytes (suc n) (k ∷ ns) = bytes_of 4 k ++ words_bytes n ns

unfoldable pub answer_bytes : Answer → List ℕ
answer_bytes a =
    departures_bytes port_limit a.departures
    ++ ((bytes_of 4 a.first ++ bytes_of 4 a.second)
    ++ (words_bytes port_limit a.occupancy_one ++ words_bytes port_limit a.occupancy_two))

-- the cell of a departure
abbrev pub cell_in : List ℕ → Cell
cell_in bs =
    record {
      input = word bs 4;
      output = word bs 8;
      flow = word bs 12;
      rank = word bs 16;
      tag = word bs 20;
      slot = word bs 24;
    }

unfoldable pub departure_in : List ℕ → Option Cell
departure_in bs = elim (eqb (word bs 0) 0) [ true ↦ none | false ↦ some (cell_in bs) ]

unfoldable pub departures_in : ℕ → List ℕ → List (Option Cell)
departures_in zero bs = []
departures_in (suc n) bs = departure_in (take departure_size bs) ∷ departures_in n (drop departure_size bs)

-- the answer of a switch of so many ports that bytes stand for
unfoldable pub answer_in : ℕ → List ℕ → Answer
answer_in ports bs =
    record {
      departures = departures_in ports bs;
      first = word bs departures_size;
      second = word bs (departures_size + 4);
      occupancy_one = words_in ports (drop first_occupancy bs);
      occupancy_two = words_in ports (drop second_occupancy bs);
    }

-- the answer that a host reads by the result of its slot call: from the bytes where it is 0; a refused slot's is not
-- written
unfoldable pub answer_read : ℕ → ℕ → List ℕ → Answer
answer_read ports result bs = elim (eqb result 0) [ true ↦ answer_in ports bs | false ↦ refused_answer ports ]
