-- The relation between a switch and the PIFO switch, and that every slot call keeps it: equal N, equal clocks, the same
-- bag of waiting cells. An accepted slot is looked at as it stands before the departures, so that its laws hold of the
-- crossbar (Demand3) and of the output-queued switch (OqAlike).
--     related-fresh          two fresh switches
--     related-refused        a call is refused by both, alike, or by neither
--     Settled                what an accepted slot is to have come to
--     related-departures     then its departures are equal
--     related-run            and the relation holds after it
--     related-same-waiting   the same cells wait in both, output by output
use Prim.Native.Nat.{ℕ, zero, suc, ◌+◌, ◌<◌}
use mathlib.Core.Bool.{Bool, true, false, not}
use mathlib.Core.Path.{◌≡◌, refl, sym, ◌∙◌, ap, ap₂}
use mathlib.Core.List.{List, [], ◌++◌, map, flatten, Memᴰ}
use mathlib.Core.Option.{Option, none, some}
use lib.Dec.{eqb}
use lib.ListN.{length, replicate}
use Rattle.laws.specs.Lists.{keep, some?, count, least, pairwise, first?, up_to}
use Rattle.laws.proofs.Count.{count-append}
use Rattle.cell.specs.declared.Arrival.{Arrival}
use Rattle.cell.specs.declared.Cell.{Cell}
use Rattle.cell.specs.declared.Refusal.{Refusal}
use Rattle.cell.specs.declared.Refusal.TheVariants.{BrokenTable, ClockEnd}
use Rattle.cell.specs.Cell.{accepted, same_cell}
use Rattle.cell.specs.Limits.{clock_end}
use Rattle.model.specs.State.{Entry, Switch, fresh, cells}
use Rattle.model.specs.Checks.{done, refused, first_fault}
use Rattle.model.specs.Phase.{Waiting, among}
use Rattle.model.specs.Crossbar.{leaving, departures_of, run, slot}
use Rattle.model.specs.Pifo.{Pifo, fresh_pifo, queued, join, run_pifo, slot_pifo}
use Rattle.model.specs.CodeSlackness.{other_number, other_arrival}
use Rattle.model.specs.Emulation.{SameWaiting}
use Rattle.model.proofs.Admitted.{same-faults, admitted}
use Rattle.model.proofs.Bags.{SameBag, bag-of-path, bag-keep}
use Rattle.model.proofs.CellOrder.{goes_to, beats_cell}
use Rattle.model.proofs.PifoLaws.{Queues, queues-fresh, queues-join, queues-rest, join-count, queue-of}
use Rattle.model.proofs.PifoLaws.{best-queues, rest-queues}
use Rattle.model.proofs.SameDeparture.{cells_of, Best, departures-bag, staying-bag}

pub record Related (s : Switch) (q : Pifo) : Type 0 where
  pub ports : s.ports ≡ q.ports
  pub clock : s.clock ≡ q.clock
  pub bag : SameBag (cells s) (queued q)
  pub queues : Queues q.ports q.queues

------------------------------------------------------------------------
-- fresh switches

pub flatten-empty : {A : Type 0} (n : ℕ) → flatten {A = A} (replicate n []) ≡ []
unfolding flatten
flatten-empty zero = refl
flatten-empty (suc n) = flatten-empty n

pub related-fresh : (ports first : ℕ) → Related (fresh ports first) (fresh_pifo ports first)
unfolding fresh fresh_pifo cells queued
related-fresh ports first =
    record {
      ports = refl;
      clock = refl;
      bag = bag-of-path (ap (map (λ e. e.cell)) (flatten-empty {A = Entry} ports) ∙ sym (flatten-empty {A = Cell} ports));
      queues = queues-fresh ports;
    }

------------------------------------------------------------------------
-- a call is refused by both or by neither

-- the cells that the records of a call would become
abbrev pub arriving : Switch → List Arrival → List Cell
arriving s records = map (accepted s.clock) records

-- Both refuse, with the same number and place; or both run.
pub data SameCall (s : Switch) (q : Pifo) (a : Option (List Arrival)) : Type 0 where
  both-refuse : (r : Refusal) (place : ℕ) → slot s a ≡ refused r place → slot_pifo q a ≡ refused r place → SameCall s q a
  both_run : (records : List Arrival) → a ≡ some records → eqb s.clock clock_end ≡ false
      → first_fault s.ports (cells s) (arriving s records) ≡ none
      → slot s a ≡ done (run s (arriving s records)) → slot_pifo q a ≡ done (run_pifo q (arriving s records)) → SameCall s q a

module _ (s : Switch) (records : List Arrival) where
  slot-end : eqb s.clock clock_end ≡ true → slot s (some records) ≡ refused ClockEnd 0
  unfolding slot
  slot-end h = rw (h, slot)

  slot-fault : eqb s.clock clock_end ≡ false → (f : Refusal × ℕ)
      → first_fault s.ports (cells s) (arriving s records) ≡ some f → slot s (some records) ≡ refused f.0 f.1
  unfolding slot
  slot-fault h f k = rw (h, k, slot)

  slot-runs : eqb s.clock clock_end ≡ false → first_fault s.ports (cells s) (arriving s records) ≡ none
      → slot s (some records) ≡ done (run s (arriving s records))
  unfolding slot
  slot-runs h k = rw (h, k, slot)

module _ (q : Pifo) (records : List Arrival) where
  pub pifo-end : eqb q.clock clock_end ≡ true → slot_pifo q (some records) ≡ refused ClockEnd 0
  unfolding slot_pifo
  pifo-end h = rw (h, slot_pifo)

  pub pifo-fault : eqb q.clock clock_end ≡ false → (f : Refusal × ℕ)
      → first_fault q.ports (queued q) (map (accepted q.clock) records) ≡ some f
      → slot_pifo q (some records) ≡ refused f.0 f.1
  unfolding slot_pifo
  pifo-fault h f k = rw (h, k, slot_pifo)

  pub pifo-runs : eqb q.clock clock_end ≡ false
      → first_fault q.ports (queued q) (map (accepted q.clock) records) ≡ none
      → slot_pifo q (some records) ≡ done (run_pifo q (map (accepted q.clock) records))
  unfolding slot_pifo
  pifo-runs h k = rw (h, k, slot_pifo)

module _ (s : Switch) (q : Pifo) (rel : Related s q) where
  -- the same cells would arrive, and the same fault is found
  same-arriving : (records : List Arrival) → map (accepted q.clock) records ≡ arriving s records
  same-arriving records = ap (λ n. map (accepted n) records) (sym rel.clock)

  same-clock-end : eqb q.clock clock_end ≡ eqb s.clock clock_end
  same-clock-end = ap (λ n. eqb n clock_end) (sym rel.clock)

  same-first-fault : (records : List Arrival)
      → first_fault q.ports (queued q) (map (accepted q.clock) records)
      ≡ first_fault s.ports (cells s) (arriving s records)
  same-first-fault records =
      ap₂ (λ n cs. first_fault n (queued q) cs) (sym rel.ports) (same-arriving records)
      ∙ sym (same-faults s.ports (cells s) (queued q) rel.bag (arriving s records))

  pub related-refused : (a : Option (List Arrival)) → SameCall s q a
  unfolding slot slot_pifo
  related-refused none = both-refuse BrokenTable 0 refl refl
  related-refused (some records) =
      go (eqb s.clock clock_end) refl (first_fault s.ports (cells s) (arriving s records)) refl
    where
      go : (b : Bool) → eqb s.clock clock_end ≡ b
          → (o : Option (Refusal × ℕ)) → first_fault s.ports (cells s) (arriving s records) ≡ o
          → SameCall s q (some records)
      go true h o k = both-refuse ClockEnd 0 (slot-end s records h) (pifo-end q records (same-clock-end ∙ h))
      go false h (some f) k =
          both-refuse f.0 f.1 (slot-fault s records h f k)
          (pifo-fault q records (same-clock-end ∙ h) f (same-first-fault records ∙ k))
      go false h none k =
          both_run records refl h k (slot-runs s records h k)
          (pifo-runs q records (same-clock-end ∙ h) (same-first-fault records ∙ k)
          ∙ ap (λ cs. done (run_pifo q cs)) (same-arriving records))

  ------------------------------------------------------------------------
  -- the same cells wait in both

  pub related-same-waiting : SameWaiting s q
  unfolding queued
  related-same-waiting =
      record {
        clock = rel.clock;
        waiting = λ o c.
            bag-keep (cells s) (queued q) rel.bag (goes_to o) (same_cell c)
            ∙ ap (count (same_cell c)) (queue-of q.ports q.queues rel.queues o);
      }

------------------------------------------------------------------------
-- an accepted slot

-- the queues of the PIFO switch when the new cells have joined
abbrev joined_in : Pifo → List Cell → List (List Cell)
joined_in q cs = join cs q.queues

-- What an accepted slot is to have come to, with these cells before the departures and this switch after them. Each
-- output is to send the cell of highest output priority in its buffer, and every other cell stays.
pub record Settled (s : Switch) (cs : List Cell) (settled : List Waiting) (after : Switch) : Type 0 where
  pub numbers : pairwise other_number settled ≡ true
  pub arrivals : pairwise other_arrival settled ≡ true
  pub best : Best s.ports settled
  pub all : SameBag (cells_of settled) (cs ++ cells s)
  pub ports : after.ports ≡ s.ports
  pub clock : after.clock ≡ s.clock + 1
  pub stay : cells after ≡ cells_of (keep (λ e. not (among (leaving s.ports settled) e)) settled)

module _ (s : Switch) (q : Pifo) (rel : Related s q) (cs : List Cell)
    (fine : first_fault s.ports (cells s) cs ≡ none)
    {settled : List Waiting} {after : Switch} (course : Settled s cs settled after) where
  queues-right : Queues q.ports (joined_in q cs)
  queues-right = queues-join q.ports cs q.queues rel.queues

  outputs-exist : (c : Cell) → Memᴰ c cs → c.output < length q.queues
  outputs-exist c m =
      rw (rel.queues.size, ← rel.ports) ((admitted s.ports (cells s) cs fine).outputs c m)

  -- after arrival the same cells wait in both
  same-cells : SameBag (cells_of settled) (flatten (joined_in q cs))
  unfolding queued
  same-cells p =
      course.all p
      ∙ count-append p cs (cells s)
      ∙ ap (λ n. count p cs + n) (rel.bag p)
      ∙ sym (join-count p cs q.queues outputs-exist)

  pub related-departures : departures_of s.ports (leaving s.ports settled) ≡ (run_pifo q cs).departures
  unfolding run_pifo
  related-departures =
      departures-bag s.ports settled course.arrivals course.best (flatten (joined_in q cs)) same-cells
      ∙ ap (λ n. map (λ o. first? (keep (goes_to o) (least (beats_cell n) (flatten (joined_in q cs))))) (up_to n))
      rel.ports
      ∙ sym (best-queues q.ports (joined_in q cs) queues-right)

  pub related-run : Related after (run_pifo q cs).pifo
  unfolding run_pifo queued
  related-run =
      record {
        ports = course.ports ∙ rel.ports;
        clock = course.clock ∙ ap (λ n. n + 1) rel.clock;
        bag = λ p.
            ap (count p) course.stay
            ∙ staying-bag s.ports settled course.numbers course.best
            (flatten (joined_in q cs)) same-cells p
            ∙ ap (λ n. count p (keep (λ c. some? (λ d. beats_cell n d c) (flatten (joined_in q cs))) (flatten (joined_in q cs))))
            rel.ports
            ∙ ap (count p) (sym (rest-queues q.ports (joined_in q cs) queues-right));
        queues = queues-rest q.ports (joined_in q cs) queues-right;
      }
