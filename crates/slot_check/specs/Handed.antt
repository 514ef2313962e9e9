-- What the check hands on of a table: the cells of each input by their places, as sets of positions, and the heads of
-- its list.
use Rattle.std.specs.Prelude.{ℕ, ◌*◌, ◌<◌, Bool, ◌&&◌, ◌≡◌, List, length, get_or}
use Rattle.laws.specs.Lists.{none?, between}
use Rattle.sets.specs.Sets.{set_from}
use Rattle.cell.specs.Flow.{same_flow}
use Rattle.cell.specs.Limits.{section_room, port_limit}
use Rattle.model.specs.State.{is_listed, is_crossed, is_buffered}
use Rattle.layout.specs.Entry.{entry_at, count_in}

-- an entry is in the list of an input, and none of its flow stands before it there: a head (rule 1)
unfoldable pub is_first : List ℕ → ℕ → ℕ → Bool
is_first bs input k =
    is_listed (entry_at bs k).place
    && none? (λ a. is_listed (entry_at bs a).place && same_flow (entry_at bs a).cell (entry_at bs k).cell)
    (between (section_room * input) k)

-- each input's sets
pub record Handed (bs listed heads crossed buffered : List ℕ) : Type 0 where
  pub listed-size : length listed ≡ port_limit
  pub heads-size : length heads ≡ port_limit
  pub crossed-size : length crossed ≡ port_limit
  pub buffered-size : length buffered ≡ port_limit
  pub listed-at : (input : ℕ) → input < port_limit
      → get_or listed input 0 ≡ set_from (λ k. is_listed (entry_at bs k).place) (section_room * input) (count_in bs input)
  pub heads-at : (input : ℕ) → input < port_limit
      → get_or heads input 0 ≡ set_from (is_first bs input) (section_room * input) (count_in bs input)
  pub crossed-at : (input : ℕ) → input < port_limit
      → get_or crossed input 0 ≡ set_from (λ k. is_crossed (entry_at bs k).place) (section_room * input) (count_in bs input)
  pub buffered-at : (input : ℕ) → input < port_limit
      → get_or buffered input 0 ≡ set_from (λ k. is_buffered (entry_at bs k).place) (section_room * input) (count_in bs input)

------------------------------------------------------------------------
-- as the code makes them
