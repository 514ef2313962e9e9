-- The player's clock is that of the switch.
--     crossbar-ticks    of the crossbar
--     oq-ticks          of the output-queued switch
use Prim.Native.Nat.{◌+◌}
use mathlib.Core.List.{List}
use mathlib.Core.Option.{Option}
use mathlib.Core.Path.{◌≡◌, refl, sym, ap, ◌∙◌}
use Rattle.cell.specs.declared.Arrival.{Arrival}
use Rattle.cell.specs.declared.Cell.{Cell}
use Rattle.model.specs.Checks.{done}
use Rattle.model.specs.Crossbar.{run}
use Rattle.model.specs.Oq.{run_oq}
use Rattle.model.specs.State.{Switch, fresh}
use Rattle.model.proofs.OqSound.{CalledOq, runs as ran, refuses as turns_down, called-oq}
use Rattle.model.proofs.SoundSlot.{Called, runs, refuses, called, came}
use Rattle.player_text.specs.Player.{crossbar, oq}
use Rattle.player_text.specs.Turn.{Ticks}

run-clock : (s : Switch) (cs : List Cell) → (run s cs).switch.clock ≡ s.clock + 1
unfolding run
run-clock s cs = refl

slot-clock : (s : Switch) (records : List Arrival) {x : List (Option Cell) × Switch} → crossbar.slot s records ≡ done x
    → x.1.clock ≡ s.clock + 1
unfolding crossbar
slot-clock s records {x} h = go (called s records)
  where
    go : Called s records → x.1.clock ≡ s.clock + 1
    go (runs _ _ f) =
        let g : (run s (came s records)).switch ≡ x.1 = cc (rw (f, crossbar) at h) in
        ap (λ s. s.clock) (sym g) ∙ run-clock s (came s records)
    go (refuses r place f) = cc (rw (f, crossbar) at h)

pub crossbar-ticks : Ticks crossbar
unfolding crossbar fresh
crossbar-ticks = record { starts = λ ports first. refl; rises = slot-clock }

run-oq-clock : (s : Switch) (cs : List Cell) → (run_oq s cs).switch.clock ≡ s.clock + 1
unfolding run_oq
run-oq-clock s cs = refl

slot-oq-clock : (s : Switch) (records : List Arrival) {x : List (Option Cell) × Switch} → oq.slot s records ≡ done x
    → x.1.clock ≡ s.clock + 1
unfolding oq
slot-oq-clock s records {x} h = go (called-oq s records)
  where
    go : CalledOq s records → x.1.clock ≡ s.clock + 1
    go (ran _ _ f) =
        let g : (run_oq s (came s records)).switch ≡ x.1 = cc (rw (f, oq) at h) in
        ap (λ s. s.clock) (sym g) ∙ run-oq-clock s (came s records)
    go (turns_down r place f) = cc (rw (f, oq) at h)

pub oq-ticks : Ticks oq
unfolding oq fresh
oq-ticks = record { starts = λ ports first. refl; rises = slot-oq-clock }
