-- The course of a slot that runs: a departure for each output, of numbers of 32 bits, proposals of 32 bits, for each
-- output and phase an occupancy of 32 bits, and a sound switch one slot on.
use Prim.Native.Nat.{ℕ, ◌+◌, ◌≤◌, ◌<◌}
use native.Mathlib.Omega.{arith}
use mathlib.Core.Bool.{true, false}
use mathlib.Core.List.{List, [], ◌∷◌, map, Memᴰ}
use mathlib.Core.Option
use mathlib.Core.Option.{none, some}
use mathlib.Core.Path.{◌≡◌, refl, sym, ◌∙◌}
use borrow.Author.Tests.{leb-true, ltb-true}
use lib.Dec.{eqb, leb}
use lib.ListN.{length, length-map}
use Rattle.cell.specs.declared.Arrival.{Arrival}
use Rattle.cell.specs.Cell.{accepted, arrival_fits}
use Rattle.cell.specs.Limits.{clock_end, fits32, flow_limit, port_limit}
use Rattle.laws.specs.Lists.{keep, all?, first?, up_to}
use Rattle.laws.proofs.Least.{mem-least-in}
use Rattle.laws.proofs.Lists.{all?-i, all?-map, all?-mono, mem-keep-in}
use Rattle.laws.proofs.Tests.{and_i}
use Rattle.model.specs.State.{Switch, cells, Entry}
use Rattle.model.specs.Checks.{done, first_fault}
use Rattle.model.specs.Crossbar.{Course, run, slot, leaving, departures_of, occupancies}
use Rattle.model.specs.Phase.{Waiting, waiting, Phase, phase}
use Rattle.model.specs.Sound.{sound, sound_sections}
use Rattle.model.proofs.Numbering.{entry_of, length_moved, length_without, mem-waiting, stands-entry, waiting_few}
use Rattle.model.proofs.OutputChoice.{length-occupancies, occupancies-few}
use Rattle.model.proofs.PhaseMatching.{candidates-few, phase-proposals}
use Rattle.model.proofs.SoundLaws.{SoundEntry}
use Rattle.model.proofs.SoundOrderly.{sound-section, sound-short}
use Rattle.model.proofs.SoundSlot.{Called, runs, refuses, called, arrived-sound, between-sound, settled-sound}
use Rattle.model.proofs.SoundSlot.{run_sound}
use Rattle.layout.proofs.Answer.{cell_fits, departure_fits}
use Rattle.layout.proofs.Number.{fits32-below, below-fits32}
use Rattle.layout.proofs.Records.{length-numbers_from}
use Rattle.layout.proofs.Table.{sound-clock, sound-length, sound-ports}

pub record Goes (s : Switch) (c : Course) : Type 0 where
  pub outputs : length c.departures ≡ s.ports
  pub few : length c.departures ≤ port_limit
  pub fit : all? departure_fits c.departures ≡ true
  pub first : fits32 c.one.proposals ≡ true
  pub second : fits32 c.two.proposals ≡ true
  pub outputs_one : length (occupancies c.switch.ports c.one) ≡ length c.departures
  pub held_one : all? fits32 (occupancies c.switch.ports c.one) ≡ true
  pub outputs_two : length (occupancies c.switch.ports c.two) ≡ length c.departures
  pub held_two : all? fits32 (occupancies c.switch.ports c.two) ≡ true
  pub good : sound c.switch ≡ true
  pub clock : c.switch.clock ≡ s.clock + 1

-- one departure for each output
pub length-departures : (ports : ℕ) (out : List Waiting) → length (departures_of ports out) ≡ ports
unfolding departures_of up_to
length-departures ports out = length-map (up_to ports) _ ∙ length-numbers_from 0 ports

-- the cells of sound sections
entry-fits : (ports clock k : ℕ) (e : Entry) → ports ≤ port_limit → k < port_limit → clock ≤ clock_end + 1
    → SoundEntry ports clock k e → cell_fits e.cell ≡ true
unfolding cell_fits
entry-fits ports clock k e p b t h =
    let i : fits32 e.cell.input ≡ true = below-fits32 _ (omega (arith, h.input)) in
    let o : fits32 e.cell.output ≡ true = below-fits32 _ (omega (arith, h.output)) in
    let small : e.cell.flow < flow_limit = ltb-true e.cell.flow flow_limit h.flow in
    let f : fits32 e.cell.flow ≡ true = below-fits32 _ (omega arith) in
    let s : fits32 e.cell.slot ≡ true = below-fits32 _ (omega (arith, h.slot)) in
    and_i _ _ i (and_i _ _ o (and_i _ _ f (and_i _ _ h.rank (and_i _ _ h.tag s))))

module _ (ports clock : ℕ) (sections : List (List Entry)) (h : sound_sections ports clock 0 sections ≡ true)
    (p : ports ≤ port_limit) (n : length sections ≡ ports) (t : clock ≤ clock_end + 1) where
  waiting-fits : (w : Waiting) → Memᴰ w (waiting sections) → cell_fits w.cell ≡ true
  waiting-fits w m =
      let s = mem-waiting sections m in
      entry-fits ports clock s.input (entry_of w) p (omega (arith, s.within)) t
      ((sound-section ports clock sections h s.input).entries (entry_of w) (stands-entry sections w s))

  leaving-fits : (w : Waiting) → Memᴰ w (leaving ports (waiting sections)) → cell_fits w.cell ≡ true
  unfolding leaving
  leaving-fits w m = waiting-fits w (mem-keep-in _ (waiting sections) (mem-least-in _ _ m))

  departure-fits : (l : List Waiting) → ((w : Waiting) → Memᴰ w l → cell_fits w.cell ≡ true)
      → departure_fits (Option.map (λ e. e.cell) (first? l)) ≡ true
  unfolding departure_fits first?
  departure-fits [] f = refl
  departure-fits (w ∷ l) f = f w (Memᴰ.head refl)

  pub departures-fit : all? departure_fits (departures_of ports (leaving ports (waiting sections))) ≡ true
  unfolding departures_of
  departures-fit =
      all?-map departure_fits _ (up_to ports)
      ∙ all?-i _ (up_to ports)
      (λ o _. departure-fits (keep (λ e. eqb e.cell.output o) (leaving ports (waiting sections)))
      (λ w m. leaving-fits w (mem-keep-in _ (leaving ports (waiting sections)) m)))

  -- a phase proposes no more cells than wait, 64 for each input at most
  proposals-fit : fits32 (phase ports (waiting sections)).proposals ≡ true
  proposals-fit =
      below-fits32 _
      (omega (
        arith,
        phase-proposals ports (waiting sections),
        candidates-few ports (waiting sections),
        waiting_few sections (sound-short ports clock sections h),
      ))

-- an output has a crosspoint for each input
occupancies-fit : (ports : ℕ) (p : Phase) → ports ≤ port_limit → all? fits32 (occupancies ports p) ≡ true
occupancies-fit ports p few =
    all?-mono (λ n. leb n ports) fits32 (occupancies ports p)
    (λ n _ h. below-fits32 n (omega (arith, leb-true n ports h))) (occupancies-few ports p)

module _ (s : Switch) (records : List Arrival) (h : sound s ≡ true) (fits : all? arrival_fits records ≡ true) where
  abbrev ran : Course
  ran = run s (map (accepted s.clock) records)

  run-goes : eqb s.clock clock_end ≡ false
      → first_fault s.ports (cells s) (map (accepted s.clock) records) ≡ none
      → Goes s ran
  unfolding run
  run-goes t f =
      let good : sound ran.switch ≡ true = run_sound s records h fits t f in
      let inputs : length ran.settled ≡ s.ports =
      sym (length_without (leaving s.ports (waiting ran.settled)) ran.settled)
      ∙ sound-length ran.switch good in
      let between : length ran.between ≡ s.ports = sym (length_moved ran.two ran.between) ∙ inputs in
      let arrived : length ran.arrived ≡ s.ports = sym (length_moved ran.one ran.arrived) ∙ between in
      let outputs = length-departures s.ports (leaving s.ports (waiting ran.settled)) in
      let clock : s.clock + 1 ≤ clock_end + 1 = omega (arith, fits32-below s.clock (sound-clock s h)) in
      record {
        outputs = outputs;
        few = omega (arith, sound-ports s h);
        fit =
            departures-fit s.ports (s.clock + 1) ran.settled (settled-sound s records h fits t f)
            (sound-ports s h) inputs clock;
        first =
            proposals-fit s.ports (s.clock + 1) ran.arrived (arrived-sound s records h fits t f)
            (sound-ports s h) arrived clock;
        second =
            proposals-fit s.ports (s.clock + 1) ran.between (between-sound s records h fits t f)
            (sound-ports s h) between clock;
        outputs_one = length-occupancies s.ports ran.one ∙ sym outputs;
        held_one = occupancies-fit s.ports ran.one (sound-ports s h);
        outputs_two = length-occupancies s.ports ran.two ∙ sym outputs;
        held_two = occupancies-fit s.ports ran.two (sound-ports s h);
        good = good;
        clock = refl;
      }

  pub goes : (c : Course) → slot s (some records) ≡ done c → Goes s c
  goes c e = go (called s records)
    where
      go : Called s records → Goes s c
      go (runs t f r) =
          let same : ran ≡ c = cc in
          rw same at (run-goes t f)
      go (refuses r place f) =
          let never : ◌≡◌ {A = ℕ} 0 1 = cc in
          absurd (omega arith)
