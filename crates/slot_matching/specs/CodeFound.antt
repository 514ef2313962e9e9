-- The matching that the code finds among candidates in the table. The cell at position j of input i has the number
-- 64 × i + j, and the candidates of each input are a set of positions, in list order.
use Rattle.std.specs.Prelude.{ℕ, ◌+◌, ◌*◌, ◌/◌, ◌≤◌, ◌<◌, Bool, ◌&&◌, ◌≡◌, ltb, eqb, length, get_or}
use mathlib.Core.List.{List, map, flatten, Memᴰ}
use Rattle.laws.specs.Lists.{keep, up_to}
use Rattle.sets.specs.Sets.{members}
use Rattle.cell.specs.declared.Cell.{Cell}
use Rattle.cell.specs.Limits.{port_limit, section_room}
use Rattle.cell.specs.Order.{over}
use Rattle.matching.specs.Matching.{matched, proposals}
use Rattle.layout.specs.Code.{ports_in}
use Rattle.layout.specs.Entry.{entry_at}
use Rattle.layout_table.specs.CodeEntries.{nowhere}

-- the numbers of a set of positions of input i
unfoldable pub numbers_in : ℕ → ℕ → List ℕ
numbers_in set i = map (λ j. section_room * i + j) (members set)

-- all candidates, input by input
unfoldable pub numbers_of : List ℕ → List ℕ
numbers_of candidates = flatten (map (λ i. numbers_in (get_or candidates i 0) i) (up_to port_limit))

-- both are of one input, and k stands before l in its list
unfoldable pub ahead_at : ℕ → ℕ → Bool
ahead_at k l = eqb (k / section_room) (l / section_room) && ltb k l

module _ (table : List ℕ) where
  abbrev pub cell_at : ℕ → Cell
  cell_at k = (entry_at table k).cell

  abbrev pub output_at : ℕ → ℕ
  output_at k = (cell_at k).output

  -- both go to one output, and k has the higher output priority
  unfoldable pub over_at : ℕ → ℕ → Bool
  over_at k l = eqb (output_at k) (output_at l) && over (ports_in table) (cell_at k) (cell_at l)

  -- each candidate goes to one of sixteen outputs
  pub record ToOutputs (numbers : List ℕ) : Type 0 where
    pub small : (k : ℕ) → Memᴰ k numbers → output_at k < port_limit

  -- the cells that the outputs hold are the matching, and so many proposals were made
  pub record Found (candidates held : List ℕ) (made : ℕ) : Type 0 where
    -- a candidate is matched exactly if its output holds it
    pub matching : matched ahead_at over_at (numbers_of candidates)
        ≡ keep (λ k. eqb (get_or held (output_at k) nowhere) k) (numbers_of candidates)
    pub counted : made ≡ proposals ahead_at over_at (numbers_of candidates)
    pub made-le : made ≤ length (numbers_of candidates)
    pub size : length held ≡ port_limit
    -- an output holds a candidate that goes to it, or none
    pub held_in : (o : ℕ) → o < port_limit → get_or held o 0 < nowhere
        → Memᴰ (get_or held o 0) (numbers_of candidates) × (output_at (get_or held o 0) ≡ o)
    pub held-le : (o : ℕ) → get_or held o nowhere ≤ nowhere
