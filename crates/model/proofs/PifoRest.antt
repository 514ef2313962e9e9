-- What leaves a queue of the PIFO switch. On the queues that occur no two cells share input and slot, and so just the
-- best cell goes.
--     JustBest          a queue without its best cell is its rest; a queue that has none is empty
--     just-best         so it is where no two cells share input and slot
--     rest-just-best    so it is in every slot that a PIFO switch accepts, from a fresh one on, cues returned to or not
use Prim.Native.Nat.{ℕ, ◌+◌, ◌≤◌}
use native.Mathlib.Omega.{arith}
use mathlib.Core.Bool.{Bool, true, false, not, ◌&&◌}
use mathlib.Core.Path.{◌≡◌, refl, sym, ◌∙◌, ap}
use mathlib.Core.Logic.{◌⊎◌, inl, inr, ◌≢◌}
use mathlib.Core.List.Memᴰ
use mathlib.Core.List.{List, [], ◌∷◌, map, flatten, Memᴰ}
use mathlib.Core.Option.{Option, none, some}
use lib.Dec.{eqb, ltb}
use lib.ListN.{get_or}
use borrow.Author.Tests.{eqb-true, eqb-false, eq-eqb, ne_eqb, ltb-true, not-true}
use Rattle.laws.specs.Lists.{keep, some?, count, least, first?}
use Rattle.laws.specs.Order.{Strict}
use Rattle.laws.proofs.Tests.{clash, either, same, by-fail, and_i, and_l, and_r, and_false_r, not-i}
use Rattle.laws.proofs.Lists.{some?-i, some?-e, none?-i, all?-i, keep-ext, first-mem}
use Rattle.laws.proofs.Count.{count-nil, count-le, count-lt, count-pos, count-zero, count-keep-le}
use Rattle.laws.proofs.Least.{least-below, mem-least-in, mem-least-first}
use Rattle.laws.proofs.Pairwise.{pairwise-mono, pairwise-le-one}
use Rattle.cell.specs.declared.Arrival.{Arrival}
use Rattle.cell.specs.declared.Cell.{Cell}
use Rattle.cell.specs.Cell.{accepted, same_cell}
use Rattle.cell.specs.Order.{over}
use Rattle.cell.proofs.Order.{over-irrefl, over-trans, over-total}
use Rattle.model.specs.Checks.{done, first_fault}
use Rattle.model.specs.Pifo.{Pifo, fresh_pifo, queued, join, best, rest, Sent, run_pifo}
use Rattle.model.specs.Fair.{make, record_fault_from, Fair, marked, slot_of, after_of, fair_slot_pifo}
use Rattle.model.specs.Rehearsal.{begun, Call, next_all, shadow_after}
use Rattle.model.proofs.Admitted.{admitted}
use Rattle.model.proofs.CellOrder.{same-cell-refl, same-cell-path}
use Rattle.model.proofs.CueLaws.{agree-all, both-begun}
use Rattle.model.proofs.FairChecks.{becoming-made, record-clear-first, FairCalled, fair-run, fair-refusal}
use Rattle.model.proofs.FairChecks.{fair-called}
use Rattle.model.proofs.PifoLaws.{Queues, queues-fresh, queues-join, queues-rest, join-count, queue-of}
use Rattle.model.proofs.PifoLaws.{rest-queues}
use Rattle.model.proofs.Related.{flatten-empty}
use Rattle.model.proofs.SoundArrival.{accepted-slot}

-- Just the best cell of a queue leaves it: it is over all others, the queue holds it once, and the rest is all but it.
-- A queue that has no best cell is empty.
pub record JustBest (ports : ℕ) (q : List Cell) : Type 0 where
  pub highest : (b c : Cell) → best ports q ≡ some b → Memᴰ c q → (b ≡ c) ⊎ (over ports b c ≡ true)
  pub once : (b : Cell) → best ports q ≡ some b → count (same_cell b) q ≡ 1
  pub others : (b : Cell) → best ports q ≡ some b → rest ports q ≡ keep (λ c. not (same_cell b c)) q
  pub empty : best ports q ≡ none → q ≡ []

-- came in at this input in this slot
unfoldable pub came_in : ℕ → ℕ → Cell → Bool
came_in input slot c = eqb c.input input && eqb c.slot slot

-- no two cells share input and slot
abbrev pub Distinct : List Cell → Type 0
Distinct q = (input slot : ℕ) → count (came_in input slot) q ≤ 1

------------------------------------------------------------------------
-- a queue in which no two cells share input and slot

first-none : {A : Type 0} (l : List A) → first? l ≡ none → l ≡ []
unfolding first?
first-none [] h = refl
first-none (x ∷ l) h = absurd (let z : ◌≡◌ {A = ℕ} 0 1 = cc in omega arith)

over-strict : (ports : ℕ) → Strict (over ports)
over-strict ports = record { irreflexive = over-irrefl ports; transitive = over-trans ports }

module _ (ports : ℕ) (q : List Cell) where
  best-least : (b : Cell) → best ports q ≡ some b → Memᴰ b (least (over ports) q)
  unfolding best
  best-least b h = first-mem (least (over ports) q) b h

  best-in : (b : Cell) → best ports q ≡ some b → Memᴰ b q
  best-in b h = mem-least-in (over ports) q (best-least b h)

  module _ (distinct : Distinct q) (b : Cell) (h : best ports q ≡ some b) where
    same-came : (c : Cell) → same_cell b c ≡ true → came_in b.input b.slot c ≡ true
    unfolding came_in
    same-came c s =
        let e = same-cell-path b c s in
        and_i (eqb c.input b.input) (eqb c.slot b.slot)
        (eq-eqb c.input b.input (ap (λ x. x.input) (sym e)))
        (eq-eqb c.slot b.slot (ap (λ x. x.slot) (sym e)))

    best-once : count (same_cell b) q ≡ 1
    best-once =
        omega (
          arith,
          count-pos (same_cell b) (best-in b h) (same-cell-refl b),
          count-le (same_cell b) (came_in b.input b.slot) q (λ c m s. same-came c s),
          distinct b.input b.slot,
        )

    -- another cell came in at another input or in another slot
    others-differ : (c : Cell) → Memᴰ c q → same_cell b c ≡ false → (b.input ≢ c.input) ⊎ (b.slot ≢ c.slot)
    unfolding came_in
    others-differ c m s = go (either (eqb c.input b.input)) (either (eqb c.slot b.slot))
      where
        go : (eqb c.input b.input ≡ true) ⊎ (eqb c.input b.input ≡ false)
            → (eqb c.slot b.slot ≡ true) ⊎ (eqb c.slot b.slot ≡ false)
            → (b.input ≢ c.input) ⊎ (b.slot ≢ c.slot)
        go (inr i) k = inl (λ e. eqb-false c.input b.input i (sym e))
        go (inl i) (inr k) = inr (λ e. eqb-false c.slot b.slot k (sym e))
        go (inl i) (inl k) =
            absurd
            (omega (
              arith,
              best-once,
              count-lt (same_cell b) (came_in b.input b.slot) (λ d n t. same-came d t) m s
                  (and_i (eqb c.input b.input) (eqb c.slot b.slot) i k),
              distinct b.input b.slot,
            ))

    best-over : (c : Cell) → Memᴰ c q → same_cell b c ≡ false → over ports b c ≡ true
    best-over c m s = go (over-total ports b c (others-differ c m s))
      where
        go : (over ports b c ≡ true) ⊎ (over ports c b ≡ true) → over ports b c ≡ true
        go (inl o) = o
        go (inr o) = absurd (clash o (mem-least-first (over ports) q (best-least b h) m))

    best-highest : (c : Cell) → Memᴰ c q → (b ≡ c) ⊎ (over ports b c ≡ true)
    best-highest c m = go (either (same_cell b c))
      where
        go : (same_cell b c ≡ true) ⊎ (same_cell b c ≡ false) → (b ≡ c) ⊎ (over ports b c ≡ true)
        go (inl s) = inl (same-cell-path b c s)
        go (inr s) = inr (best-over c m s)

    rest-others : rest ports q ≡ keep (λ c. not (same_cell b c)) q
    unfolding rest
    rest-others =
        keep-ext (λ c. some? (λ d. over ports d c) q) (λ c. not (same_cell b c)) q
        (λ c m. same (some? (λ d. over ports d c) q) (not (same_cell b c)) (stays c)
        (λ n. some?-i (λ d. over ports d c) (best-in b h) (best-over c m (not-true (same_cell b c) n))))
      where
        stays : (c : Cell) → some? (λ d. over ports d c) q ≡ true → not (same_cell b c) ≡ true
        stays c o =
            let w = some?-e (λ d. over ports d c) q o in
            not-i (same_cell b c) (by-fail (same_cell b c) (λ s.
            clash (ap (over ports w.0) (same-cell-path b c s) ∙ w.2)
            (mem-least-first (over ports) q (best-least b h) w.1)))

no-best : (ports : ℕ) (q : List Cell) → best ports q ≡ none → q ≡ []
unfolding best
no-best ports [] h = refl
no-best ports (c ∷ q) h =
    let w = least-below (over ports) (over-strict ports) (c ∷ q) (Memᴰ.head refl) in
    absurd (Memᴰ.not-nil (rw (first-none (least (over ports) (c ∷ q)) h) at w.1))

pub just-best : (ports : ℕ) (q : List Cell) → Distinct q → JustBest ports q
just-best ports q distinct =
    record {
      highest = λ b c h m. best-highest ports q distinct b h c m;
      once = λ b h. best-once ports q distinct b h;
      others = λ b h. rest-others ports q distinct b h;
      empty = λ h. no-best ports q h;
    }

------------------------------------------------------------------------
-- the queues that occur

-- What is kept between calls: the cells came in before, no two at one input in one slot.
record Kept (s : Pifo) : Type 0 where
  queues : Queues s.ports s.queues
  past : (input slot : ℕ) → s.clock ≤ slot → ◌≡◌ {A = ℕ} (count (came_in input slot) (queued s)) 0
  distinct : Distinct (queued s)

kept_fresh : (ports first : ℕ) → Kept (fresh_pifo ports first)
unfolding fresh_pifo queued
kept_fresh ports first =
    record {
      queues = queues-fresh ports;
      past = λ input slot h.
          ap (count (came_in input slot)) (flatten-empty {A = Cell} ports) ∙ count-nil (came_in input slot);
      distinct = λ input slot.
          rw (flatten-empty {A = Cell} ports) (omega (arith, count-nil (came_in input slot)));
    }

-- the cells that the records of a call become
abbrev coming : Pifo → List Arrival → List Cell
coming s records = map (accepted s.clock) records

-- the queues of a slot once these have joined
abbrev pub joined_queues : Pifo → List Arrival → List (List Cell)
joined_queues s records = join (coming s records) s.queues

-- an accepted slot
module _ (s : Pifo) (kept : Kept s) (records : List Arrival)
    (clear : first_fault s.ports (queued s) (coming s records) ≡ none) where
  abbrev cs : List Cell
  cs = coming s records

  abbrev joined : List (List Cell)
  joined = joined_queues s records

  joined-queues : Queues s.ports joined
  joined-queues = queues-join s.ports cs s.queues kept.queues

  -- at most one comes in at an input, and none in another slot
  coming-one : (input slot : ℕ) → count (came_in input slot) cs ≤ 1
  unfolding came_in
  coming-one input slot =
      pairwise-le-one (came_in input slot) cs
      (pairwise-mono (λ c d. ltb c.input d.input) (λ c d. not (came_in input slot c && came_in input slot d)) cs go
      (admitted s.ports (queued s) cs clear).turns)
    where
      at : (c : Cell) → came_in input slot c ≡ true → c.input ≡ input
      at c h = eqb-true c.input input (and_l (eqb c.input input) (eqb c.slot slot) h)

      go : (c d : Cell) → Memᴰ c cs → Memᴰ d cs → ltb c.input d.input ≡ true
          → not (came_in input slot c && came_in input slot d) ≡ true
      go c d m k l =
          not-i (came_in input slot c && came_in input slot d) (by-fail (came_in input slot c && came_in input slot d) (λ t.
          omega (
            arith,
            ltb-true c.input d.input l,
            at c (and_l (came_in input slot c) (came_in input slot d) t),
            at d (and_r (came_in input slot c) (came_in input slot d) t),
          )))

  coming-none : (input slot : ℕ) → slot ≢ s.clock → ◌≡◌ {A = ℕ} (count (came_in input slot) cs) 0
  unfolding came_in
  coming-none input slot h =
      count-zero (came_in input slot) cs
      (none?-i (came_in input slot) cs (λ c m.
      and_false_r (eqb c.input input) (eqb c.slot slot)
      (ne_eqb c.slot slot (λ e. h (sym e ∙ accepted-slot s.clock records c m)))))

  joined-count : (input slot : ℕ)
      → count (came_in input slot) (flatten joined) ≡ count (came_in input slot) cs + count (came_in input slot) (queued s)
  unfolding queued
  joined-count input slot =
      join-count (came_in input slot) cs s.queues
      (λ c m. rw kept.queues.size ((admitted s.ports (queued s) cs clear).outputs c m))

  joined-distinct : Distinct (flatten joined)
  joined-distinct input slot = go (either (eqb slot s.clock))
    where
      go : (eqb slot s.clock ≡ true) ⊎ (eqb slot s.clock ≡ false) → count (came_in input slot) (flatten joined) ≤ 1
      go (inl e) =
          let now : slot ≡ s.clock = eqb-true slot s.clock e in
          omega (arith, joined-count input slot, coming-one input slot, kept.past input slot (omega arith))
      go (inr e) =
          omega (
            arith,
            joined-count input slot,
            coming-none input slot (eqb-false slot s.clock e),
            kept.distinct input slot,
          )

  -- each queue from which the slot sends
  queue-distinct : (output : ℕ) → Distinct (get_or joined output [])
  queue-distinct output input slot =
      rw (← queue-of s.ports joined joined-queues output)
      (omega (
        arith,
        count-keep-le (λ c. eqb c.output output) (came_in input slot) (flatten joined),
        joined-distinct input slot,
      ))

  stays-le : (input slot : ℕ)
      → count (came_in input slot) (flatten (map (rest s.ports) joined)) ≤ count (came_in input slot) (flatten joined)
  stays-le input slot =
      rw (rest-queues s.ports joined joined-queues) (count-keep-le _ (came_in input slot) (flatten joined))

  kept_run : Kept (run_pifo s cs).pifo
  unfolding run_pifo queued
  kept_run =
      record {
        queues = queues-rest s.ports joined joined-queues;
        past = λ input slot h.
            let other : slot ≢ s.clock = omega arith in
            omega (
              arith,
              stays-le input slot,
              joined-count input slot,
              coming-none input slot other,
              kept.past input slot (omega arith),
            );
        distinct = λ input slot. omega (arith, stays-le input slot, joined-distinct input slot);
      }

-- the records of a call, with the ranks made
abbrev pub made_in : Fair Pifo → List Arrival → List Arrival
made_in y records = map (make y.memory) records

abbrev called_pifo : (y : Fair Pifo) (records : List Arrival)
    → FairCalled (λ s. s.ports) (λ s. s.clock) queued run_pifo y records
called_pifo = fair-called (λ s. s.ports) (λ s. s.clock) queued run_pifo

made-clear : (y : Fair Pifo) (records : List Arrival)
    → record_fault_from y.core.ports y.core.clock (queued y.core) y.memory 1 none records ≡ none
    → first_fault y.core.ports (queued y.core) (coming y.core (made_in y records)) ≡ none
made-clear y records clear =
    ap (first_fault y.core.ports (queued y.core)) (becoming-made y.core.clock y.memory records)
    ∙ record-clear-first y.core.ports y.core.clock (queued y.core) y.memory records clear

kept-after : (y : Fair Pifo) (a : Option (List Arrival)) → Kept y.core → Kept (shadow_after y a).core
unfolding slot_of after_of
kept-after y none kept = kept
kept-after y (some records) kept = go (called_pifo y records)
  where
    go : FairCalled (λ s. s.ports) (λ s. s.clock) queued run_pifo y records → Kept (shadow_after y (some records)).core
    go (fair-run ticks clear e) = rw e (kept_run y.core kept (made_in y records) (made-clear y records clear))
    go (fair-refusal r place e) = rw e kept

-- a PIFO switch after a list of calls from a fresh one with these outputs fair, with no cue held at first
abbrev pub reached : ℕ → ℕ → ℕ → List Call → Fair Pifo
reached ports first marks calls = (next_all shadow_after (begun (marked marks (fresh_pifo ports first))) calls).switch

-- each slot keeps it, so each cue holds a switch that has it
kept-reached : (ports first marks : ℕ) (calls : List Call) → Kept (reached ports first marks calls).core
unfolding marked
kept-reached ports first marks calls =
    let y = marked marks (fresh_pifo ports first) in
    (agree-all (λ s t. Kept s.core) (λ call. true) shadow_after shadow_after (λ s t a h kept. kept-after s a kept)
    (begun y) (begun y) calls (all?-i (λ call. true) calls (λ call m. refl))
    (both-begun (λ s t. Kept s.core) y y (kept_fresh ports first))).switches

-- in every slot that it accepts just the best cell leaves each queue
pub rest-just-best : (ports first marks : ℕ) (calls : List Call) (records : List Arrival) (r : Sent)
    → (let y = reached ports first marks calls in
    fair_slot_pifo y (some records) ≡ done r
    → (output : ℕ) → JustBest ports (get_or (joined_queues y.core (made_in y records)) output []))
rest-just-best ports first marks calls records r d output = go (called_pifo y records)
  where
    y : Fair Pifo
    y = reached ports first marks calls

    go : FairCalled (λ s. s.ports) (λ s. s.clock) queued run_pifo y records
        → JustBest ports (get_or (joined_queues y.core (made_in y records)) output [])
    go (fair-run ticks clear e) =
        just-best ports (get_or (joined_queues y.core (made_in y records)) output [])
        (queue-distinct y.core (kept-reached ports first marks calls) (made_in y records)
        (made-clear y records clear) output)
    go (fair-refusal r' place e) = absurd (let z : ◌≡◌ {A = ℕ} 0 1 = cc in omega arith)
