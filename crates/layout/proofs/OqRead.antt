-- What a host reads after a slot call that ran, on the table of a sound output-queued switch.
--     served-outputs    a departure for each output,
--     served-fits       of numbers of 32 bits
--     outputs-served    all sixteen departures: none at the outputs that the switch does not have
--     bytes-served      the answer's bytes are those of the departures
use Prim.Native.Nat.{ℕ, ◌+◌, ◌-◌, ◌≤◌}
use native.Mathlib.Omega.{arith}
use mathlib.Core.Bool.{true}
use mathlib.Core.List.{List, ◌++◌}
use mathlib.Core.Option.{Option, none, some}
use mathlib.Core.Path.{◌≡◌, refl, sym, ap, ◌∙◌, subst}
use lib.ListN.{length, take}
use lib.Seq.{take_at}
use Rattle.laws.specs.Lists.{all?}
use Rattle.cell.specs.declared.Arrival.{Arrival}
use Rattle.cell.specs.declared.Cell.{Cell}
use Rattle.cell.specs.Cell.{arrival_fits}
use Rattle.cell.specs.Limits.{clock_end, port_limit}
use Rattle.model.specs.Checks.{done, no_departures, first_fault}
use Rattle.model.specs.Crossbar.{leaving}
use Rattle.model.specs.Emulation.{lent}
use Rattle.model.specs.Oq.{join_buffers, sound_oq, Served, run_oq, slot_oq}
use Rattle.model.specs.Phase.{waiting}
use Rattle.model.specs.Sound.{sound}
use Rattle.model.specs.State.{Entry, Switch, cells}
use Rattle.model.proofs.OqSound.{sound-oq-table, joined_length, joined-sound, slot-oq-broken, CalledOq, runs, refuses}
use Rattle.model.proofs.OqSound.{called-oq}
use Rattle.model.proofs.SoundSlot.{came}
use Rattle.layout.specs.Answer.{departures_bytes, departures_in, departures_size}
use Rattle.layout.specs.Host.{filled}
use Rattle.layout.specs.CodeOq.{oq_answer_after}
use Rattle.layout.proofs.Answer.{departure_fits, length-departures_bytes, departures_in-all}
use Rattle.layout.proofs.Limits.{length-departures, departures-fit}
use Rattle.layout.proofs.Number.{fits32-below}
use Rattle.layout.proofs.Table.{sound-clock, sound-length, sound-ports}

-- a slot that ran was lent whole records, without a fault
record Ran (s : Switch) (a : Option (List Arrival)) (d : Served) : Type 0 where
  records : List Arrival
  whole : a ≡ some records
  clear : first_fault s.ports (cells s) (came s records) ≡ none
  comes : run_oq s (came s records) ≡ d

ran : (s : Switch) (a : Option (List Arrival)) (d : Served) → slot_oq s a ≡ done d → Ran s a d
ran s none d e =
    let never : ◌≡◌ {A = ℕ} 0 1 = cc (slot-oq-broken s) in
    absurd (omega arith)
ran s (some records) d e = go (called-oq s records)
  where
    go : CalledOq s records → Ran s (some records) d
    go (runs t f r) = record { records = records; whole = refl; clear = f; comes = cc }
    go (refuses r place f) =
        let never : ◌≡◌ {A = ℕ} 0 1 = cc in
        absurd (omega arith)

run-outputs : (s : Switch) (cs : List Cell) → length (run_oq s cs).departures ≡ s.ports
unfolding run_oq
run-outputs s cs = length-departures s.ports (leaving s.ports (waiting (join_buffers cs s.sections)))

-- a departure for each output
pub served-outputs : (s : Switch) (a : Option (List Arrival)) (d : Served) → slot_oq s a ≡ done d
    → length d.departures ≡ s.ports
served-outputs s a d e =
    let r = ran s a d e in
    ap (λ x. length x.departures) (sym r.comes) ∙ run-outputs s (came s r.records)

module _ (s : Switch) (h : sound_oq s ≡ true) where
  few : s.ports ≤ port_limit
  few = sound-ports s (sound-oq-table s h)

  -- of numbers of 32 bits
  pub served-fits : (a : Option (List Arrival)) → lent a ≡ true → (d : Served) → slot_oq s a ≡ done d
      → all? departure_fits d.departures ≡ true
  unfolding lent run_oq
  served-fits a l d e =
      let r = ran s a d e in
      let table : sound s ≡ true = sound-oq-table s h in
      let fits : all? arrival_fits r.records ≡ true = sym (ap lent r.whole) ∙ l in
      let joined : List (List Entry) = join_buffers (came s r.records) s.sections in
      let inputs : length joined ≡ s.ports =
      joined_length (came s r.records) s.sections ∙ sound-length s table in
      let clock : s.clock + 1 ≤ clock_end + 1 = omega (arith, fits32-below s.clock (sound-clock s table)) in
      subst (λ x. all? departure_fits x.departures ≡ true) r.comes
      (departures-fit s.ports (s.clock + 1) joined (joined-sound s r.records table r.clear fits) few inputs
      clock)

  pub outputs-served : (a : Option (List Arrival)) → lent a ≡ true
      → (buffer : List ℕ) (d : Served) → slot_oq s a ≡ done d
      → departures_in port_limit (oq_answer_after buffer (done d)) ≡ d.departures ++ no_departures (port_limit - s.ports)
  unfolding oq_answer_after filled
  outputs-served a l buffer d e =
      let all : port_limit ≡ length d.departures + (port_limit - s.ports) =
      omega (arith, few, served-outputs s a d e) in
      departures_in-all port_limit d.departures (port_limit - s.ports) _ (served-fits a l d e) all

pub bytes-served : (buffer : List ℕ) (d : Served)
    → take departures_size (oq_answer_after buffer (done d)) ≡ departures_bytes port_limit d.departures
unfolding oq_answer_after filled
bytes-served buffer d =
    take_at (departures_bytes port_limit d.departures) _ departures_size
    (length-departures_bytes port_limit d.departures)
