-- Rules 5 and 6 on numbers: what the code writes when the cells move. 1,024 stands for no cell; its input would be 16 and
-- its record past the end of the table, so that it changes no place, no list and no crosspoint.
--     written f v n l           the column l with v at f 0, f 1, .. f (n - 1); a number past its end changes nothing
--     leaving, leaving_heads     the lists and the heads without the heads f 0, .. f (n - 1)
--     sending, keying           the crosspoints and their keys after f 0, .. f (n - 1) were sent to theirs
--     filled_at, Counted         how many crosspoints of each output hold a cell
--     entering table f n best   the best of each output, where f 0, .. f (n - 1) may be better ones
--     pulling, unkeying         the crosspoints and their keys after output 0 took f 0, .. output n - 1 took f (n - 1)
use Rattle.std.specs.Prelude.{ℕ, zero, suc, ◌/◌, ◌<◌, Bool, true, false, List, ◌≡◌, ltb, length, get_or, set, replicate}
use Rattle.laws.specs.Lists.{count, first?, up_to}
use Rattle.cell.specs.Limits.{section_room, port_limit}
use Rattle.model.specs.Phase.{Phase}
use Rattle.layout.specs.Entry.{entry_at}
use Rattle.layout_table.specs.CodeEntries.{nowhere}
use Rattle.slot_steps.specs.CodeSteps.{place_at, left, left_heads, entered, mark_of, Bound}
use Rattle.slot_view.specs.CodeView.{crosspoint_at, cross_with}
use Rattle.slot_view.specs.CodeChoices.{number_of, of_input, to_output}
use Rattle.slot_view.specs.CodeViewed.{no_key, key_at}

------------------------------------------------------------------------
-- columns, and the bytes of places

unfoldable pub written : {A : Type 0} → (ℕ → ℕ) → A → ℕ → List A → List A
written f v zero l = l
written f v (suc n) l = set (written f v n l) (f n) v

-- the table after f 0, .. f (n - 1) went to a place
abbrev pub placing : (ℕ → ℕ) → ℕ → ℕ → List ℕ → List ℕ
placing f place n table = written (λ i. place_at (f i)) place n table

------------------------------------------------------------------------
-- lists

unfoldable pub leaving : (ℕ → ℕ) → ℕ → List ℕ → List ℕ
leaving f zero listed = listed
leaving f (suc n) listed = left (leaving f n listed) (f n)

unfoldable pub leaving_heads : List ℕ → (ℕ → ℕ) → ℕ → List ℕ → List ℕ → List ℕ
leaving_heads table f zero listed heads = heads
leaving_heads table f (suc n) listed heads =
    left_heads table (leaving f n listed) (leaving_heads table f n listed heads) (f n)

------------------------------------------------------------------------
-- crosspoints

unfoldable pub sending : List ℕ → (ℕ → ℕ) → ℕ → List (List ℕ) → List (List ℕ)
sending table f zero cross = cross
sending table f (suc n) cross = cross_with (sending table f n cross) (f n / section_room) (entry_at table (f n)).cell.output (f n)

unfoldable pub keying : List ℕ → (ℕ → ℕ) → ℕ → List (List ℕ) → List (List ℕ)
keying table f zero keys = keys
keying table f (suc n) keys =
    cross_with (keying table f n keys) (entry_at table (f n)).cell.output (f n / section_room) (key_at table (f n))

unfoldable pub pulling : (ℕ → ℕ) → ℕ → List (List ℕ) → List (List ℕ)
pulling f zero cross = cross
pulling f (suc n) cross = cross_with (pulling f n cross) (f n / section_room) n nowhere

unfoldable pub unkeying : (ℕ → ℕ) → ℕ → List (List ℕ) → List (List ℕ)
unkeying f zero keys = keys
unkeying f (suc n) keys = cross_with (unkeying f n keys) n (f n / section_room) no_key

-- how many of the first n inputs have a cell at their crosspoint of an output
unfoldable pub filled_at : List (List ℕ) → ℕ → ℕ → ℕ
filled_at cross n output = count (λ input. ltb (crosspoint_at cross input output) nowhere) (up_to n)

-- counted for the first n outputs
pub record Counted (cross : List (List ℕ)) (n : ℕ) (occupancy : List ℕ) : Type 0 where
  pub size : length occupancy ≡ port_limit
  pub at : (output : ℕ) → output < n → get_or occupancy output 0 ≡ filled_at cross port_limit output

------------------------------------------------------------------------
-- the best of each output

unfoldable pub entering : List ℕ → (ℕ → ℕ) → ℕ → List ℕ → List ℕ
entering table f zero best = best
entering table f (suc n) best = entered table (entering table f n best) (f n)

------------------------------------------------------------------------
-- what moves, by the definitions

-- the cell that goes straight to an output
unfoldable pub straight_of : Phase → ℕ → ℕ
straight_of p output = number_of (first? (to_output output p.straight))

-- the cell that an input sends
unfoldable pub sent_of : Phase → ℕ → ℕ
sent_of p input = number_of (first? (of_input input p.sent))

-- the cell that an output takes
unfoldable pub pulled_of : Phase → ℕ → ℕ
pulled_of p output = number_of (first? (to_output output p.pulled))

------------------------------------------------------------------------
-- the rounds over the ports, after the first n of them

-- every cell that moves goes to an output of the switch
abbrev pub AllBound : List ℕ → (ℕ → ℕ) → Type 0
AllBound table f = (port : ℕ) → port < port_limit → Bound table (f port)

-- every straight cell is in its buffer, and its ports are marked
pub record Straightened (f : ℕ → ℕ) (n : ℕ) (table table' listed listed' heads heads' best best' : List ℕ)
    (inputs outputs : List Bool) : Type 0 where
  pub to-buffers : table' ≡ placing f 3 n table
  pub lists : listed' ≡ leaving f n listed
  pub list-heads : heads' ≡ leaving_heads table f n listed heads
  pub bests : best' ≡ entering table f n best
  pub from-inputs : inputs ≡ written (λ o. f o / section_room) true n (replicate port_limit false)
  pub to-outputs : outputs ≡ written (λ o. mark_of (f o) o) true n (replicate port_limit false)

-- every input has sent its cell to the crosspoint
pub record Sent (f : ℕ → ℕ) (n : ℕ) (table table' listed listed' heads heads' : List ℕ)
    (cross cross' keys keys' : List (List ℕ)) (best best' : List ℕ) : Type 0 where
  pub to-crosspoints : table' ≡ placing f 2 n table
  pub lists : listed' ≡ leaving f n listed
  pub list-heads : heads' ≡ leaving_heads table f n listed heads
  pub filled : cross' ≡ sending table f n cross
  pub keyed : keys' ≡ keying table f n keys
  pub bests : best' ≡ entering table f n best

-- every output has taken its cell from the crosspoints
pub record Pulled (f : ℕ → ℕ) (n : ℕ) (table table' : List ℕ) (cross cross' keys keys' : List (List ℕ))
    (best best' : List ℕ) : Type 0 where
  pub to-buffers : table' ≡ placing f 3 n table
  pub emptied : cross' ≡ pulling f n cross
  pub unkeyed : keys' ≡ unkeying f n keys
  pub bests : best' ≡ entering table f n best
