-- The measures of the emulation proof, after the source's section 4. A phase is looked at on the numbered list of all
-- waiting cells, which it relocates and does not reorder.
--     thread all e      how many cells of its input stand before e in the list; 0 at a crosspoint
--     cushion N all e   how many cells in the buffer of its output have higher output priority than e
--     Slack N a b all   every cell outside the buffers has thread + a ≤ cushion + b
--     Orderly N all     what a phase needs of the waiting cells
--     OneCrosspoint all no crosspoint holds two cells
use Rattle.std.specs.Prelude.{ℕ, ◌+◌, ◌≤◌, Bool, true, false, cond, not, ◌&&◌, ◌≡◌, eqb}
use mathlib.Core.List.{List, Memᴰ, map}
use Rattle.laws.specs.Lists.{count, pairwise}
use Rattle.cell.specs.Flow.{same_flow}
use Rattle.cell.specs.Order.{over}
use Rattle.model.specs.State.{is_listed, is_crossed, is_buffered}
use Rattle.model.specs.Phase.{Waiting, ahead, beats, same_crosspoint, Phase, place_after}

unfoldable pub thread : List Waiting → Waiting → ℕ
thread all e = cond (is_listed e.place) (count (λ f. is_listed f.place && ahead f e) all) 0

unfoldable pub cushion : ℕ → List Waiting → Waiting → ℕ
cushion ports all e = count (λ f. is_buffered f.place && beats ports f e) all

abbrev pub Slack : ℕ → ℕ → ℕ → List Waiting → Type 0
Slack ports a b all =
    (e : Waiting) → Memᴰ e all → is_buffered e.place ≡ false → thread all e + a ≤ cushion ports all e + b

-- the cells where a phase has put them
unfoldable pub relocate : Phase → Waiting → Waiting
relocate p e = record { at = e.at; cell = e.cell; place = place_after p e }

unfoldable pub relocated : Phase → List Waiting → List Waiting
relocated p all = map (relocate p) all

unfoldable pub other_number : Waiting → Waiting → Bool
other_number e f = not (eqb e.at f.at)

unfoldable pub other_arrival : Waiting → Waiting → Bool
other_arrival e f = not (eqb e.cell.input f.cell.input && eqb e.cell.slot f.cell.slot)

-- no two cells have one number, no two share input and slot, and in a list the cells of a flow stand in output priority
pub record Orderly (ports : ℕ) (all : List Waiting) : Type 0 where
  pub numbers : pairwise other_number all ≡ true
  pub arrivals : pairwise other_arrival all ≡ true
  pub flows : (e f : Waiting) → Memᴰ e all → Memᴰ f all
      → is_listed e.place ≡ true → is_listed f.place ≡ true
      → same_flow e.cell f.cell ≡ true → ahead e f ≡ true → over ports e.cell f.cell ≡ true

unfoldable pub apart : Waiting → Waiting → Bool
apart e f = not (is_crossed e.place && (is_crossed f.place && same_crosspoint e f))

abbrev pub OneCrosspoint : List Waiting → Type 0
OneCrosspoint all = pairwise apart all ≡ true
