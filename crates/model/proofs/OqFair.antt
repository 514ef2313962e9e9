-- The output-queued switch answers every list of slot calls as the PIFO switch does, and so as the crossbar, whatever
-- outputs are fair. By induction over the list: what the switches keep without memories (OqAlike, Demand3), and equal
-- memories.
--     oq-alike          any list, from any two switches so kept
--     oq-as-crossbar    and from a crossbar that holds the same cells and remembers the same
--     oq-emulates       from fresh switches
use Prim.Native.Nat.{ℕ}
use mathlib.Core.Bool.{true}
use mathlib.Core.List.{List, [], ◌∷◌}
use mathlib.Core.Option.{Option}
use mathlib.Core.Path.{◌≡◌, refl, sym, ◌∙◌}
use Rattle.laws.specs.Lists.{all?}
use Rattle.laws.proofs.Lists.{all?-cons}
use Rattle.laws.proofs.Tests.{and_l, and_r}
use Rattle.cell.specs.declared.Arrival.{Arrival}
use Rattle.cell.specs.Cell.{same_cell}
use Rattle.model.specs.State.{Switch, fresh}
use Rattle.model.specs.Crossbar.{slot_answer, run}
use Rattle.model.specs.Emulation.{lent}
use Rattle.model.specs.Fair.{Fair, marked, fair_slot, fair_after, fair_slot_pifo, fair_after_pifo, fair_slot_oq, fair_after_oq}
use Rattle.model.specs.Oq.{run_oq, served_departures}
use Rattle.model.specs.OqEmulation.{OqAsPifo, OqAsCrossbar, OqEmulates}
use Rattle.model.specs.Pifo.{Pifo, fresh_pifo}
use Rattle.model.proofs.Demand3.{Kept, kept_fresh, crossbar-follows}
use Rattle.model.proofs.FairRelated.{KeptFair, Follows, FairStep, fair-step}
use Rattle.model.proofs.OqAlike.{KeptOq, kept-oq-fresh, same-departures, kept_run}
use Rattle.model.proofs.Related.{related-same-waiting}

pub oq-follows : Follows run_oq (λ c. c.departures) (λ c. c.switch) served_departures KeptOq
unfolding served_departures
oq-follows =
    record {
      related = λ s q kept. kept.related;
      sends = same-departures;
      keeps = kept_run;
      read_done = λ ports c. refl;
      read-refused = λ ports r place. refl;
    }

-- a call of the output-queued switch
pub oq-step : (x : Fair Switch) (y : Fair Pifo) → KeptFair KeptOq x y → (a : Option (List Arrival)) → lent a ≡ true
    → FairStep run_oq (λ c. c.departures) (λ c. c.switch) served_departures KeptOq oq-follows x y a (fair_slot_oq x a)
    (fair_slot_pifo y a)
oq-step = fair-step run_oq (λ c. c.departures) (λ c. c.switch) served_departures KeptOq oq-follows

-- a call of the crossbar
crossbar-step : (x : Fair Switch) (y : Fair Pifo) → KeptFair Kept x y → (a : Option (List Arrival)) → lent a ≡ true
    → FairStep run (λ c. c.departures) (λ c. c.switch) (λ ports o. (slot_answer ports o).departures) Kept
    crossbar-follows x y a (fair_slot x a) (fair_slot_pifo y a)
crossbar-step =
    fair-step run (λ c. c.departures) (λ c. c.switch) (λ ports o. (slot_answer ports o).departures) Kept crossbar-follows

pub oq-alike : (ports : ℕ) (x : Fair Switch) (y : Fair Pifo) → KeptFair KeptOq x y → (calls : List (Option (List Arrival)))
    → all? lent calls ≡ true → OqAsPifo ports x y calls
oq-alike ports x y kept [] h = (related-same-waiting x.core y.core kept.cores.related, kept.memories)
oq-alike ports x y kept (a ∷ calls) h =
    let fits = rw (all?-cons lent a calls) at h in
    let t = oq-step x y kept a (and_l (lent a) (all? lent calls) fits) in (
      (t.refusals, t.sent ports),
      oq-alike ports (fair_after_oq x a (fair_slot_oq x a)) (fair_after_pifo y a (fair_slot_pifo y a)) t.kept calls
          (and_r (lent a) (all? lent calls) fits),
    )

-- through the PIFO switch
pub oq-as-crossbar : (ports : ℕ) (x z : Fair Switch) (y : Fair Pifo) → KeptFair KeptOq x y → KeptFair Kept z y
    → (calls : List (Option (List Arrival))) → all? lent calls ≡ true → OqAsCrossbar ports x z calls
oq-as-crossbar ports x z y kept other [] h = (
  kept.cores.related.clock ∙ sym other.cores.related.clock,
  λ c. kept.cores.related.bag (same_cell c) ∙ sym (other.cores.related.bag (same_cell c)),
  kept.memories ∙ sym other.memories,
)
oq-as-crossbar ports x z y kept other (a ∷ calls) h =
    let fits = rw (all?-cons lent a calls) at h in
    let fit = and_l (lent a) (all? lent calls) fits in
    let t = oq-step x y kept a fit in
    let u = crossbar-step z y other a fit in (
      (t.refusals ∙ sym u.refusals, t.sent ports ∙ sym (u.sent ports)),
      oq-as-crossbar ports (fair_after_oq x a (fair_slot_oq x a)) (fair_after z a (fair_slot z a))
          (fair_after_pifo y a (fair_slot_pifo y a)) t.kept u.kept calls (and_r (lent a) (all? lent calls) fits),
    )

pub oq-emulates : OqEmulates
unfolding marked
oq-emulates ports first marks calls p f m h =
    let x = marked marks (fresh ports first) in
    let y = marked marks (fresh_pifo ports first) in
    let kept : KeptFair KeptOq x y = record { cores = kept-oq-fresh ports first p f; memories = refl } in
    let other : KeptFair Kept x y = record { cores = kept_fresh ports first p f; memories = refl } in
    (oq-alike ports x y kept calls h, oq-as-crossbar ports x x y kept other calls h)
