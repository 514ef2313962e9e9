-- Slackness over a slot: none to spare in a fresh switch and between slots, and after the second phase two but one.
--     fresh-slack        a fresh switch
--     arrival-slack      arrival costs each cell at most one
--     moved-slack        each phase gives each cell one
--     arrived-slack, between-slack, settled-slack, run-slack    the stages of an accepted slot
--     settled-best       so before departure the buffers hold the best cell of each output
use Prim.Native.Nat.{ℕ, suc, ◌+◌, ◌≤◌, ◌<◌}
use native.Mathlib.Omega.{arith}
use mathlib.Core.Bool.{true, false}
use mathlib.Core.Path.{◌≡◌}
use mathlib.Core.List.Memᴰ
use mathlib.Core.List.{List, map, flatten, Memᴰ}
use mathlib.Core.Option.{none}
use lib.Dec.{ltb, eqb}
use lib.ListN.{length}
use Rattle.laws.specs.Lists.{all?, pairwise}
use Rattle.cell.specs.declared.Arrival.{Arrival}
use Rattle.cell.specs.declared.Cell.{Cell}
use Rattle.cell.specs.Cell.{accepted, arrival_fits}
use Rattle.cell.specs.Limits.{clock_end}
use Rattle.model.specs.State.{Entry, Switch, fresh, cells}
use Rattle.model.specs.Checks.{first_fault}
use Rattle.model.specs.Phase.{waiting, phase, moved}
use Rattle.model.specs.Crossbar.{arrive, Course, run}
use Rattle.model.specs.CodeSlackness.{Slack, Orderly}
use Rattle.model.specs.Sound.{sound_sections, sound}
use Rattle.model.proofs.Bags.{flatten-mem}
use Rattle.model.proofs.Numbering.{Housed, waiting-moved}
use Rattle.model.proofs.PhaseSlack.{phase-slack}
use Rattle.model.proofs.SameDeparture.{Best}
use Rattle.model.proofs.Sections.{empty-at}
use Rattle.model.proofs.SlackArrival.{FollowAll, enter-slack}
use Rattle.model.proofs.SlackDeparture.{departure-slack, best-buffered}
use Rattle.model.proofs.SlackSections.{behind-nil, thread_at, cushion_at, shields, SlackAt, slack-at, at-slack}
use Rattle.model.proofs.SoundArrival.{Arrived, kept, entered, arrive-at, arrival-inputs, arrival-turns}
use Rattle.model.proofs.SoundArrival.{arrive-entries, arrival-follow-all}
use Rattle.model.proofs.SoundLaws.{sound-e}
use Rattle.model.proofs.SoundOrderly.{sound-housed, sound-orderly}
use Rattle.model.proofs.SoundSlot.{arrived-sound, between-sound, settled-sound, settled-orderly, run_sound}

------------------------------------------------------------------------
-- a fresh switch

fresh-housed : (ports first : ℕ) → Housed (fresh ports first).sections
unfolding fresh
fresh-housed ports first k e m = absurd (Memᴰ.not-nil (rw (empty-at ports k) at m))

fresh_at : (ports first : ℕ) → SlackAt ports 0 0 (fresh ports first).sections
unfolding fresh
fresh_at ports first k pre e s b = absurd (behind-nil (rw (empty-at ports k) at s))

pub fresh-slack : (ports first : ℕ) → Slack ports 0 0 (waiting (fresh ports first).sections)
fresh-slack ports first =
    at-slack ports (fresh ports first).sections (fresh-housed ports first) 0 0 (fresh_at ports first)

------------------------------------------------------------------------
-- arrival

pub arrival-slack : (ports : ℕ) (cs : List Cell) (sections : List (List Entry))
    → ((c : Cell) → Memᴰ c cs → c.input < length sections)
    → pairwise (λ c d. ltb c.input d.input) cs ≡ true → FollowAll ports (flatten sections) cs
    → SlackAt ports 0 0 sections → SlackAt ports 0 1 (arrive cs sections)
unfolding cushion_at
arrival-slack ports cs sections within turns follow slack k pre e s b = go (arrive-at cs sections within turns k)
  where
    -- nothing goes
    more : cushion_at ports sections e ≤ cushion_at ports (arrive cs sections) e
    more = omega (arith, arrive-entries (shields ports e.cell) cs sections within)

    go : Arrived cs sections k → thread_at pre e + 0 ≤ cushion_at ports (arrive cs sections) e + 1
    go (kept q) = omega (arith, slack k pre e (rw q at s) b, more)
    go (entered c m i q) =
        omega (
          arith,
          enter-slack ports sections k c (λ d n. follow c m d (flatten-mem sections k n)) slack pre e (rw q at s) b,
          more,
        )

------------------------------------------------------------------------
-- the phases

pub moved-slack : {ports : ℕ} (sections : List (List Entry)) → Orderly ports (waiting sections) → (a b : ℕ)
    → Slack ports a b (waiting sections)
    → Slack ports (suc a) b (waiting (moved (phase ports (waiting sections)) sections))
moved-slack {ports} sections orderly a b slack =
    rw (waiting-moved (phase ports (waiting sections)) sections)
    (phase-slack ports (waiting sections) orderly a b slack)

------------------------------------------------------------------------
-- a slot

module _ (s : Switch) (records : List Arrival) (h : sound s ≡ true) (fits : all? arrival_fits records ≡ true)
    (ticks : eqb s.clock clock_end ≡ false)
    (clear : first_fault s.ports (cells s) (map (accepted s.clock) records) ≡ none)
    (slack : Slack s.ports 0 0 (waiting s.sections)) where
  abbrev course : Course
  course = run s (map (accepted s.clock) records)

  -- what soundness says of a stage
  stage-housed : (sections : List (List Entry)) → sound_sections s.ports (s.clock + 1) 0 sections ≡ true
      → Housed sections
  stage-housed = sound-housed s.ports (s.clock + 1)

  stage-orderly : (sections : List (List Entry)) → sound_sections s.ports (s.clock + 1) 0 sections ≡ true
      → Orderly s.ports (waiting sections)
  stage-orderly = sound-orderly s.ports (s.clock + 1)

  pub arrived-slack : Slack s.ports 0 1 (waiting course.arrived)
  unfolding run
  arrived-slack =
      at-slack s.ports course.arrived
      (stage-housed course.arrived (arrived-sound s records h fits ticks clear)) 0 1
      (arrival-slack s.ports (map (accepted s.clock) records) s.sections (arrival-inputs s records h clear)
      (arrival-turns s records h clear) (arrival-follow-all s records h clear)
      (slack-at s.ports s.sections (sound-housed s.ports s.clock s.sections (sound-e s h).sections) 0 0 slack))

  pub between-slack : Slack s.ports 1 1 (waiting course.between)
  unfolding run
  between-slack =
      moved-slack course.arrived (stage-orderly course.arrived (arrived-sound s records h fits ticks clear)) 0 1
      arrived-slack

  pub settled-slack : Slack s.ports 2 1 (waiting course.settled)
  unfolding run
  settled-slack =
      moved-slack course.between (stage-orderly course.between (between-sound s records h fits ticks clear)) 1 1
      between-slack

  -- every cell outside the buffers is beaten by a buffered one
  pub settled-best : Best s.ports (waiting course.settled)
  settled-best = best-buffered s.ports (waiting course.settled) settled-slack

  pub run-slack : Slack s.ports 0 0 (waiting course.switch.sections)
  unfolding run
  run-slack =
      let o = settled-orderly s records h fits ticks clear in
      at-slack s.ports course.switch.sections
      (stage-housed course.switch.sections
      (sound-e course.switch (run_sound s records h fits ticks clear)).sections) 0 0
      (departure-slack s.ports course.settled o.numbers o.arrivals
      (slack-at s.ports course.settled (stage-housed course.settled (settled-sound s records h fits ticks clear)) 2 1
      settled-slack))
