-- The limits of a slot: at most two cells are taken from each input and two brought to each output, one in each phase,
-- and at most one is at each crosspoint, within a phase too. They hold from any sound table.
use Prim.Native.Nat.{ℕ, ◌+◌, ◌≤◌}
use native.Mathlib.Omega.{arith}
use mathlib.Core.Bool.{Bool, true, false, not, ◌&&◌, ◌||◌}
use mathlib.Core.List.Memᴰ
use mathlib.Core.List.{List, Memᴰ, map, map-map, flatten}
use mathlib.Core.Path.{◌≡◌, refl, sym, ap, ◌∙◌}
use mathlib.Core.Option.{none}
use lib.Dec.{eqb}
use borrow.Author.Tests.{eqb-true, not-true}
use Rattle.laws.specs.Lists.{keep, none?, all?, count}
use Rattle.laws.proofs.Count.{count-le, count-keep, count_map, count-or}
use Rattle.laws.proofs.Lists.{keep-mem, none?-e}
use Rattle.laws.proofs.Pairwise.{pairwise-le-one, pairwise-mono}
use Rattle.laws.proofs.Tests.{and_i, and_l, and_r, clash, not-i, by-fail}
use Rattle.cell.specs.declared.Arrival.{Arrival}
use Rattle.cell.specs.declared.Cell.{Cell}
use Rattle.cell.specs.Cell.{same_cell, accepted, arrival_fits}
use Rattle.cell.specs.Limits.{clock_end}
use Rattle.model.specs.State.{Place, Entry, Switch, cells, is_listed, is_crossed, is_buffered}
use Rattle.model.specs.Checks.{first_fault}
use Rattle.model.specs.Sound.{sound, sound_sections}
use Rattle.model.specs.Phase.{Waiting, waiting, same_crosspoint, Phase, phase, place_sent, place_after, placed_by}
use Rattle.model.specs.Phase.{after_sending, moved}
use Rattle.model.specs.Crossbar.{Course, run}
use Rattle.model.specs.Emulation.{cells_at, taken, brought, at_crosspoint, WithinLimits}
use Rattle.model.specs.CodeSlackness.{Orderly, OneCrosspoint, apart, relocate, relocated}
use Rattle.model.proofs.SoundOrderly.{sound-orderly, sound-one-crosspoint}
use Rattle.model.proofs.SoundSlot.{arrived-sound, between-sound, settled-sound}
use Rattle.model.proofs.PhaseLimits.{phase-taken, phase-brought, sent-crosspoint}
use Rattle.model.proofs.WaitingOrder.{crosspoint-i}
use Rattle.model.proofs.CellOrder.{same-cell-refl}
use Rattle.model.proofs.Numbering.{entry_of, waiting-cells, count-waiting, waiting-placed, waiting-moved}

-- counts over the cells at some places are counts over the waiting cells
cells_count : (p : Place → Bool) (q : Cell → Bool) (sections : List (List Entry))
    → count q (cells_at p sections) ≡ count (λ w. p w.place && q w.cell) (waiting sections)
unfolding cells_at
cells_count p q sections =
    count_map q (λ e. e.cell) (keep (λ e. p e.place) (flatten sections))
    ∙ count-keep (λ e. p e.place) (λ e. q e.cell) (flatten sections)
    ∙ sym (count-waiting (λ e. p e.place && q e.cell) sections)

cells-mem : (p : Place → Bool) (sections : List (List Entry)) {w : Waiting} → Memᴰ w (waiting sections)
    → p w.place ≡ true → Memᴰ w.cell (cells_at p sections)
unfolding cells_at
cells-mem p sections {w} m h =
    Memᴰ.map (λ e. e.cell)
    (keep-mem (λ e. p e.place) (rw (waiting-cells sections) at (Memᴰ.map entry_of m)) h)

-- a crosspoint holds one cell
crosspoint-one : (sections : List (List Entry)) → OneCrosspoint (waiting sections) → (input output : ℕ)
    → at_crosspoint input output sections ≤ 1
unfolding at_crosspoint apart
crosspoint-one sections one input output =
    rw (cells_count is_crossed here sections)
    (pairwise-le-one (λ w. is_crossed w.place && here w.cell) (waiting sections)
    (pairwise-mono apart (λ v w. not ((is_crossed v.place && here v.cell) && (is_crossed w.place && here w.cell)))
    (waiting sections) single one))
  where
    here : Cell → Bool
    here d = eqb d.input input && eqb d.output output

    at : (d : Cell) → here d ≡ true → (d.input ≡ input) × (d.output ≡ output)
    at d h = (
      eqb-true d.input input (and_l (eqb d.input input) (eqb d.output output) h),
      eqb-true d.output output (and_r (eqb d.input input) (eqb d.output output) h),
    )

    both : (v w : Waiting) → apart v w ≡ true → (is_crossed v.place && here v.cell) ≡ true
        → (is_crossed w.place && here w.cell) ≡ true → ⊥
    both v w h a b =
        let i = at v.cell (and_r (is_crossed v.place) (here v.cell) a) in
        let j = at w.cell (and_r (is_crossed w.place) (here w.cell) b) in
        clash
        (and_i (is_crossed v.place) (is_crossed w.place && same_crosspoint v w)
        (and_l (is_crossed v.place) (here v.cell) a)
        (and_i (is_crossed w.place) (same_crosspoint v w) (and_l (is_crossed w.place) (here w.cell) b)
        (crosspoint-i v w (i.0 ∙ sym j.0) (i.1 ∙ sym j.1))))
        (not-true (is_crossed v.place && (is_crossed w.place && same_crosspoint v w)) h)

    single : (v w : Waiting) → Memᴰ v (waiting sections) → Memᴰ w (waiting sections) → apart v w ≡ true
        → not ((is_crossed v.place && here v.cell) && (is_crossed w.place && here w.cell)) ≡ true
    single v w m n h =
        not-i ((is_crossed v.place && here v.cell) && (is_crossed w.place && here w.cell))
        (by-fail ((is_crossed v.place && here v.cell) && (is_crossed w.place && here w.cell)) (λ t.
        both v w h
        (and_l (is_crossed v.place && here v.cell) (is_crossed w.place && here w.cell) t)
        (and_r (is_crossed v.place && here v.cell) (is_crossed w.place && here w.cell) t)))

-- and within a phase, once the scheduled cells are sent
sent-one : {ports : ℕ} (sections : List (List Entry)) → Orderly ports (waiting sections)
    → OneCrosspoint (waiting sections)
    → (input output : ℕ) → at_crosspoint input output (after_sending (phase ports (waiting sections)) sections) ≤ 1
unfolding after_sending
sent-one {ports} sections o one =
    crosspoint-one (placed_by (place_sent (phase ports (waiting sections))) sections)
    (rw (waiting-placed (place_sent (phase ports (waiting sections))) sections) (sent-crosspoint (waiting sections) o one))

-- Two phases, one after the other, on sections that are orderly before each.
module _ {ports : ℕ} (arrived : List (List Entry)) (o : Orderly ports (waiting arrived))
    (o' : Orderly ports (waiting (moved (phase ports (waiting arrived)) arrived))) where
  start : List Waiting
  start = waiting arrived

  one : Phase
  one = phase ports start

  between : List (List Entry)
  between = moved one arrived

  two : Phase
  two = phase ports (waiting between)

  settled : List (List Entry)
  settled = moved two between

  middle : waiting between ≡ relocated one start
  unfolding between start
  middle = waiting-moved one arrived

  final : waiting settled ≡ map (λ w. relocate two (relocate one w)) start
  unfolding settled relocated
  final = waiting-moved two between ∙ ap (relocated two) middle ∙ map-map (relocate two) (relocate one) start

  -- two tests of which each passes once in its phase pass at most twice together
  two-phases : (p q r : Waiting → Bool)
      → ((w : Waiting) → Memᴰ w start → p w ≡ true → (q w || r (relocate one w)) ≡ true)
      → count q start ≤ 1 → count r (waiting between) ≤ 1 → count p start ≤ 2
  unfolding relocated
  two-phases p q r split a b =
      let c : count r (waiting between) ≡ count (λ w. r (relocate one w)) start =
      ap (count r) middle ∙ count_map r (relocate one) start in
      omega (
        arith,
        count-le p (λ w. q w || r (relocate one w)) start split,
        count-or q (λ w. r (relocate one w)) start,
      )

  final-mem : {w : Waiting} → Memᴰ w start → Memᴰ (relocate two (relocate one w)) (waiting settled)
  final-mem m = rw final (Memᴰ.map (λ w. relocate two (relocate one w)) m)

  leaves-two : (input : ℕ)
      → count (λ d. eqb d.input input && none? (same_cell d) (cells_at is_listed settled)) (cells_at is_listed arrived) ≤ 2
  unfolding start one between two settled relocate
  leaves-two input =
      rw (cells_count is_listed gone arrived)
      (two-phases (λ w. is_listed w.place && gone w.cell) (left one) (left two) split
      (phase-taken start o input) (phase-taken (waiting between) o' input))
    where
      gone : Cell → Bool
      gone d = eqb d.input input && none? (same_cell d) (cells_at is_listed settled)

      left : Phase → Waiting → Bool
      left p w = eqb w.cell.input input && (is_listed w.place && not (is_listed (place_after p w)))

      split : (w : Waiting) → Memᴰ w start → (is_listed w.place && gone w.cell) ≡ true
          → (left one w || left two (relocate one w)) ≡ true
      split w m h = go (is_listed (place_after one w)) refl (is_listed (place_after two (relocate one w))) refl
        where
          l : is_listed w.place ≡ true
          l = and_l (is_listed w.place) (gone w.cell) h

          i : eqb w.cell.input input ≡ true
          i =
              and_l (eqb w.cell.input input) (none? (same_cell w.cell) (cells_at is_listed settled))
              (and_r (is_listed w.place) (gone w.cell) h)

          n : none? (same_cell w.cell) (cells_at is_listed settled) ≡ true
          n =
              and_r (eqb w.cell.input input) (none? (same_cell w.cell) (cells_at is_listed settled))
              (and_r (is_listed w.place) (gone w.cell) h)

          go : (b : Bool) → is_listed (place_after one w) ≡ b → (c : Bool) → is_listed (place_after two (relocate one w)) ≡ c
              → (left one w || left two (relocate one w)) ≡ true
          go false e c f = simp (i, l, e)
          go true e false f = simp (i, l, e, f)
          go true e true f =
              absurd
              (clash (same-cell-refl w.cell)
              (none?-e (same_cell w.cell) n (cells-mem is_listed settled (final-mem m) f)))

  enters-two : (output : ℕ)
      → count (λ d. eqb d.output output && none? (same_cell d) (cells_at is_buffered arrived)) (cells_at is_buffered settled)
      ≤ 2
  unfolding start one between two settled relocate
  enters-two output =
      rw (
        cells_count is_buffered new settled,
        final,
        count_map (λ v. is_buffered v.place && new v.cell) (λ w. relocate two (relocate one w)) start,
      )
      (two-phases (λ w. is_buffered (place_after two (relocate one w)) && new w.cell) (came one) (came two) split
      (phase-brought start o output) (phase-brought (waiting between) o' output))
    where
      new : Cell → Bool
      new d = eqb d.output output && none? (same_cell d) (cells_at is_buffered arrived)

      came : Phase → Waiting → Bool
      came p w = eqb w.cell.output output && (not (is_buffered w.place) && is_buffered (place_after p w))

      split : (w : Waiting) → Memᴰ w start → (is_buffered (place_after two (relocate one w)) && new w.cell) ≡ true
          → (came one w || came two (relocate one w)) ≡ true
      split w m h = go (is_buffered w.place) refl (is_buffered (place_after one w)) refl
        where
          f : is_buffered (place_after two (relocate one w)) ≡ true
          f = and_l (is_buffered (place_after two (relocate one w))) (new w.cell) h

          i : eqb w.cell.output output ≡ true
          i =
              and_l (eqb w.cell.output output) (none? (same_cell w.cell) (cells_at is_buffered arrived))
              (and_r (is_buffered (place_after two (relocate one w))) (new w.cell) h)

          n : none? (same_cell w.cell) (cells_at is_buffered arrived) ≡ true
          n =
              and_r (eqb w.cell.output output) (none? (same_cell w.cell) (cells_at is_buffered arrived))
              (and_r (is_buffered (place_after two (relocate one w))) (new w.cell) h)

          go : (b : Bool) → is_buffered w.place ≡ b → (c : Bool) → is_buffered (place_after one w) ≡ c
              → (came one w || came two (relocate one w)) ≡ true
          go true e c k =
              absurd
              (clash (same-cell-refl w.cell) (none?-e (same_cell w.cell) n (cells-mem is_buffered arrived m e)))
          go false e true k = simp (i, e, k)
          go false e false k = simp (i, e, k, f)

-- the limits of an accepted slot
pub within-limits : (s : Switch) (records : List Arrival) → sound s ≡ true → all? arrival_fits records ≡ true
    → eqb s.clock clock_end ≡ false
    → first_fault s.ports (cells s) (map (accepted s.clock) records) ≡ none
    → WithinLimits (run s (map (accepted s.clock) records))
unfolding run taken brought one two between settled start
within-limits s records h fits ticks clear =
    record {
      taken-two = leaves-two arrived (orderly arrived a) (orderly between b);
      brought-two = enters-two arrived (orderly arrived a) (orderly between b);
      crosspoint-arrived = crosspoint-one arrived (apart-all arrived a);
      crosspoint-sent-one = sent-one arrived (orderly arrived a) (apart-all arrived a);
      crosspoint-between = crosspoint-one between (apart-all between b);
      crosspoint-sent-two = sent-one between (orderly between b) (apart-all between b);
      crosspoint-settled = crosspoint-one c.settled (apart-all c.settled (settled-sound s records h fits ticks clear));
    }
  where
    c : Course
    c = run s (map (accepted s.clock) records)

    arrived : List (List Entry)
    arrived = c.arrived

    between : List (List Entry)
    between = c.between

    a : sound_sections s.ports (s.clock + 1) 0 arrived ≡ true
    a = arrived-sound s records h fits ticks clear

    b : sound_sections s.ports (s.clock + 1) 0 between ≡ true
    b = between-sound s records h fits ticks clear

    orderly : (sections : List (List Entry)) → sound_sections s.ports (s.clock + 1) 0 sections ≡ true
        → Orderly s.ports (waiting sections)
    orderly sections = sound-orderly s.ports (s.clock + 1) sections

    apart-all : (sections : List (List Entry)) → sound_sections s.ports (s.clock + 1) 0 sections ≡ true
        → OneCrosspoint (waiting sections)
    apart-all sections = sound-one-crosspoint s.ports (s.clock + 1) sections
