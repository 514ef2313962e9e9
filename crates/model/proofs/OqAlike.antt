-- The output-queued switch answers a slot call as the PIFO switch does, where the ranks of the records stand, with what
-- is kept between calls: both hold the same cells (`Related`), and the table is sound, with all cells in buffers. For
-- fair outputs see OqFair.
--     kept-oq-fresh     two fresh switches
--     same-departures, kept_run     an accepted slot
--     oq-step           a call
use Prim.Native.Nat.{ℕ, ◌+◌}
use mathlib.Core.Bool.{true, false}
use mathlib.Core.List.{List}
use mathlib.Core.Option.{Option, none}
use mathlib.Core.Path.{◌≡◌, refl, ◌∙◌, ap, subst}
use lib.Dec.{eqb}
use Rattle.laws.specs.Lists.{all?}
use Rattle.laws.proofs.Tests.{clash}
use Rattle.cell.specs.declared.Arrival.{Arrival}
use Rattle.cell.specs.Cell.{arrival_fits}
use Rattle.cell.specs.Limits.{ports_in_range, fits32, clock_end}
use Rattle.model.specs.State.{Switch, fresh, cells}
use Rattle.model.specs.Checks.{Outcome, refusal, first_fault}
use Rattle.model.specs.Emulation.{lent}
use Rattle.model.specs.Oq.{join_buffers, sound_oq, Served, run_oq, slot_oq, served_departures, oq_after}
use Rattle.model.specs.OqEmulation.{AnsweredAs}
use Rattle.model.specs.Phase.{waiting}
use Rattle.model.specs.Pifo.{Pifo, fresh_pifo, Sent, sent_departures, run_pifo, slot_pifo}
use Rattle.model.specs.CodeFair.{pifo_after}
use Rattle.model.proofs.OqSound.{sound-oq-table, sound-oq-buffered, sound-oq-fresh, joined-sound, joined-count}
use Rattle.model.proofs.OqSound.{joined-buffered, slot-oq-refused, slot-oq-runs, run-oq-cells, run-oq-sound}
use Rattle.model.proofs.Related.{Related, Settled, SameCall, both-refuse, both_run, arriving, related-fresh}
use Rattle.model.proofs.Related.{related-refused, related-departures, related-run}
use Rattle.model.proofs.SoundOrderly.{sound-orderly}

-- What is kept between calls.
pub record KeptOq (s : Switch) (q : Pifo) : Type 0 where
  pub related : Related s q
  pub table : sound_oq s ≡ true

pub kept-oq-fresh : (ports first : ℕ) → ports_in_range ports ≡ true → fits32 first ≡ true
    → KeptOq (fresh ports first) (fresh_pifo ports first)
kept-oq-fresh ports first p f =
    record { related = related-fresh ports first; table = sound-oq-fresh ports first p f }

-- an accepted slot, from switches so kept
module _ (s : Switch) (q : Pifo) (kept : KeptOq s q) (records : List Arrival) (fits : all? arrival_fits records ≡ true)
    (ticks : eqb s.clock clock_end ≡ false)
    (clear : first_fault s.ports (cells s) (arriving s records) ≡ none) where
  abbrev pub served : Served
  served = run_oq s (arriving s records)

  -- when the new cells have joined, none waits outside the buffers
  settled : Settled s (arriving s records) (waiting (join_buffers (arriving s records) s.sections)) served.switch
  unfolding run_oq
  settled =
      let table = sound-oq-table s kept.table in
      let o = sound-orderly s.ports (s.clock + 1) (join_buffers (arriving s records) s.sections)
      (joined-sound s records table clear fits) in
      record {
        numbers = o.numbers;
        arrivals = o.arrivals;
        best = λ e m b. absurd (clash (joined-buffered s (arriving s records) (sound-oq-buffered s kept.table) e m) b);
        all = joined-count s records table clear;
        ports = refl;
        clock = refl;
        stay = run-oq-cells s (arriving s records);
      }

  pub same-departures : served.departures ≡ (run_pifo q (arriving s records)).departures
  unfolding run_oq
  same-departures = related-departures s q kept.related (arriving s records) clear settled

  pub kept_run : KeptOq served.switch (run_pifo q (arriving s records)).pifo
  kept_run =
      record {
        related = related-run s q kept.related (arriving s records) clear settled;
        table = run-oq-sound s records kept.table fits ticks clear;
      }

-- What a call comes to: it is answered as the PIFO switch does, and the switches stay so related.
pub record OqStep (s : Switch) (q : Pifo) (o : Outcome Served) (o' : Outcome Sent) : Type 0 where
  pub answers : (ports : ℕ) → AnsweredAs ports o o' (sent_departures ports o')
  pub kept : KeptOq (oq_after s o) (pifo_after q o')

pub oq-step : (s : Switch) (q : Pifo) → KeptOq s q → (a : Option (List Arrival)) → lent a ≡ true
    → OqStep s q (slot_oq s a) (slot_pifo q a)
unfolding oq_after pifo_after lent refusal served_departures sent_departures
oq-step s q kept a fits = go (related-refused s q kept.related a)
  where
    go : SameCall s q a → OqStep s q (slot_oq s a) (slot_pifo q a)
    go (both-refuse r place e f) =
        rw (slot-oq-refused s a e, f) (record { answers = λ ports. (refl, refl); kept = kept })
    go (both_run records p ticks clear e f) =
        let fit : all? arrival_fits records ≡ true = subst (λ x. lent x ≡ true) p fits in
        rw (ap (slot_oq s) p ∙ slot-oq-runs s records ticks clear, f)
        (record {
          answers = λ ports. (refl, same-departures s q kept records fit ticks clear);
          kept = kept_run s q kept records fit ticks clear;
        })
