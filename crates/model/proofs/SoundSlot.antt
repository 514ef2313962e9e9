-- Every slot keeps the table sound, from any sound table.
--     sound-fresh      a fresh switch is sound
--     Called, called   an accepted slot runs, any other is refused
--     run-cells, settled-cells, settled-count   the cells of an accepted slot
--     arrived-, between-, settled-, run_sound   its stages
--     after-sound, slot-sound   of a call
use Prim.Native.Nat.{ℕ, ◌+◌, ◌≤◌}
use native.Mathlib.Omega.{arith}
use mathlib.Core.Bool.{Bool, true, false, not}
use mathlib.Core.Path.{◌≡◌, refl, sym, ◌∙◌, ap, subst}
use mathlib.Core.Logic.{◌≢◌}
use mathlib.Core.List.{List, [], ◌++◌, map, flatten}
use mathlib.Core.Option.{Option, none, some}
use lib.Dec.{eqb}
use lib.ListN.{length, replicate, length-replicate}
use borrow.Author.Tests.{leb-true, le-leb, eqb-false}
use Rattle.laws.specs.Lists.{keep, all?, count}
use Rattle.laws.proofs.Count.{count-append}
use Rattle.cell.specs.declared.Arrival.{Arrival}
use Rattle.cell.specs.declared.Cell.{Cell}
use Rattle.cell.specs.declared.Refusal.{Refusal}
use Rattle.cell.specs.declared.Refusal.TheVariants.{ClockEnd}
use Rattle.cell.specs.Cell.{accepted, arrival_fits}
use Rattle.cell.specs.Limits.{clock_end, ports_in_range, fits32}
use Rattle.model.specs.State.{Switch, fresh, cells}
use Rattle.model.specs.Checks.{done, refused, first_fault}
use Rattle.model.specs.Crossbar.{leaving, Course, run, slot, switch_after}
use Rattle.model.specs.Emulation.{lent}
use Rattle.model.specs.Phase.{Waiting, waiting, among}
use Rattle.model.specs.CodeSlackness.{Orderly}
use Rattle.model.specs.Sound.{sound_sections, sound}
use Rattle.model.proofs.CheckOrder.{slot-broken}
use Rattle.model.proofs.Numbering.{cells-waiting, length_moved, moved-cells, without-cells, length_without}
use Rattle.model.proofs.Sections.{empty-at}
use Rattle.model.proofs.SoundArrival.{length-arrive, arrive-count, arrival-inputs, arrival-sound}
use Rattle.model.proofs.SoundDeparture.{without-sound}
use Rattle.model.proofs.SoundLaws.{section-e, section-nil, sections-i, SoundTable, sound-e, sound-i}
use Rattle.model.proofs.SoundOrderly.{sound-orderly}
use Rattle.model.proofs.SoundPhase.{phase-sound}

------------------------------------------------------------------------
-- a fresh switch

pub sound-fresh : (n first : ℕ) → ports_in_range n ≡ true → fits32 first ≡ true → sound (fresh n first) ≡ true
unfolding fresh
sound-fresh n first p f =
    sound-i (fresh n first)
    (record {
      ports = p;
      clock = f;
      inputs = length-replicate n [];
      sections =
          sections-i n first (replicate n []) (λ k. rw (empty-at n k) (section-e n first k [] (section-nil n first k)));
    })

------------------------------------------------------------------------
-- an accepted slot

-- the clock of the next slot still fits
pub next-clock : (clock : ℕ) → fits32 clock ≡ true → eqb clock clock_end ≡ false → fits32 (clock + 1) ≡ true
unfolding fits32
next-clock clock f e =
    let a : clock ≤ 4294967295 = leb-true clock 4294967295 f in
    let b : clock ≢ 4294967295 = eqb-false clock 4294967295 e in
    le-leb (clock + 1) 4294967295 (omega arith)

-- an accepted slot runs; any other is refused
pub data Called (s : Switch) (records : List Arrival) : Type 0 where
  runs : eqb s.clock clock_end ≡ false → first_fault s.ports (cells s) (map (accepted s.clock) records) ≡ none
      → slot s (some records) ≡ done (run s (map (accepted s.clock) records)) → Called s records
  refuses : (r : Refusal) (place : ℕ) → slot s (some records) ≡ refused r place → Called s records

pub called : (s : Switch) (records : List Arrival) → Called s records
unfolding slot
called s records = go (eqb s.clock clock_end) refl (first_fault s.ports (cells s) cs) refl
  where
    cs : List Cell
    cs = map (accepted s.clock) records

    go : (b : Bool) → eqb s.clock clock_end ≡ b → (f : Option (Refusal × ℕ))
        → first_fault s.ports (cells s) cs ≡ f → Called s records
    go true e f q = refuses ClockEnd 0 (rw (e, slot))
    go false e (some f) q = refuses f.0 f.1 (rw (e, q, slot))
    go false e none q = runs e q (rw (e, q, slot))

-- the cells that the records of a slot become
abbrev pub came : Switch → List Arrival → List Cell
came s records = map (accepted s.clock) records

-- the cells that stay
pub run-cells : (s : Switch) (cs : List Cell) → cells (run s cs).switch
    ≡ map (λ w. w.cell)
    (keep (λ e. not (among (leaving s.ports (waiting (run s cs).settled)) e)) (waiting (run s cs).settled))
unfolding run cells
run-cells s cs = without-cells (leaving s.ports (waiting (run s cs).settled)) (run s cs).settled

-- the phases move the cells that have come and lose none
pub settled-cells : (s : Switch) (cs : List Cell)
    → map (λ w. w.cell) (waiting (run s cs).settled) ≡ map (λ e. e.cell) (flatten (run s cs).arrived)
unfolding run
settled-cells s cs =
    cells-waiting (run s cs).settled
    ∙ moved-cells (run s cs).two (run s cs).between
    ∙ moved-cells (run s cs).one (run s cs).arrived

-- an accepted slot, stage by stage
module _ (s : Switch) (records : List Arrival) (h : sound s ≡ true) (fits : all? arrival_fits records ≡ true)
    (ticks : eqb s.clock clock_end ≡ false)
    (clear : first_fault s.ports (cells s) (came s records) ≡ none) where
  pub arrived-sound : sound_sections s.ports (s.clock + 1) 0 (run s (came s records)).arrived ≡ true
  unfolding run
  arrived-sound = arrival-sound s records h clear fits

  pub between-sound : sound_sections s.ports (s.clock + 1) 0 (run s (came s records)).between ≡ true
  unfolding run
  between-sound = phase-sound s.ports (s.clock + 1) (run s (came s records)).arrived arrived-sound

  pub settled-sound : sound_sections s.ports (s.clock + 1) 0 (run s (came s records)).settled ≡ true
  unfolding run
  settled-sound = phase-sound s.ports (s.clock + 1) (run s (came s records)).between between-sound

  pub settled-orderly : Orderly s.ports (waiting (run s (came s records)).settled)
  settled-orderly =
      sound-orderly s.ports (s.clock + 1) (run s (came s records)).settled settled-sound

  -- they are those that were there and those that came
  pub settled-count : (p : Cell → Bool)
      → count p (map (λ w. w.cell) (waiting (run s (came s records)).settled))
      ≡ count p (came s records ++ cells s)
  unfolding run cells
  settled-count p =
      ap (count p) (settled-cells s (came s records))
      ∙ arrive-count p (came s records) s.sections (arrival-inputs s records h clear)
      ∙ sym (count-append p (came s records) (cells s))

  length-settled : length (run s (came s records)).settled ≡ length s.sections
  unfolding run
  length-settled =
      length_moved (run s (came s records)).two (run s (came s records)).between
      ∙ length_moved (run s (came s records)).one (run s (came s records)).arrived
      ∙ length-arrive (came s records) s.sections

  pub run_sound : sound (run s (came s records)).switch ≡ true
  unfolding run
  run_sound =
      sound-i (run s (came s records)).switch
      (record {
        ports = table.ports;
        clock = next-clock s.clock table.clock ticks;
        inputs = length_without out (run s (came s records)).settled ∙ length-settled ∙ table.inputs;
        sections = without-sound s.ports (s.clock + 1) out (run s (came s records)).settled settled-sound;
      })
    where
      table : SoundTable s
      table = sound-e s h

      out : List Waiting
      out = leaving s.ports (waiting (run s (came s records)).settled)

-- the switch after a call, whatever its outcome
pub after-sound : (s : Switch) (a : Option (List Arrival)) → sound s ≡ true → lent a ≡ true
    → sound (switch_after s (slot s a)) ≡ true
unfolding lent switch_after
after-sound s none h l = rw (slot-broken s) h
after-sound s (some records) h l = go (called s records)
  where
    go : Called s records → sound (switch_after s (slot s (some records))) ≡ true
    go (runs t f e) = rw e (run_sound s records h l t f)
    go (refuses r place e) = rw e h

pub slot-sound : (s : Switch) (records : List Arrival) (c : Course) → sound s ≡ true
    → all? arrival_fits records ≡ true → slot s (some records) ≡ done c → sound c.switch ≡ true
unfolding lent switch_after
slot-sound s records c h fits d =
    subst (λ o. sound (switch_after s o) ≡ true) d (after-sound s (some records) h fits)
