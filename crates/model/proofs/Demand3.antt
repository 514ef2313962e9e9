-- Demand 3: the crossbar answers every list of calls as the PIFO switch does, slots and cue calls. By induction over
-- the list, with what is kept between calls, of the two switches and of each two that the cue stores hold at one place:
-- both hold the same cells (`Related`), the table is sound, and every cell outside the buffers has as many cells over
-- it in its output's buffer as stand before it in its list (`Slack 0 0`). With fair outputs, besides: both remember the
-- same (`KeptFair`), so that both make the same ranks, and none of these falls (`Sure`).
--     step         a slot call of two switches so related, where the ranks stand
--     step-ranks   and with fair outputs
--     alike        from any two rehearsals so related
--     demand-3     from fresh switches and no cue held
--     reachable-sound        every table and every cue store reached from there is sound
-- That refusal 2 never comes where the arrivals are whole records is `slot-not-broken` (FairChecks); that cells in less
-- cells out is the number waiting is `balance` (Balance).
use Prim.Native.Nat.{ℕ}
use mathlib.Core.Bool.{true, false}
use mathlib.Core.List.{List, [], ◌∷◌}
use mathlib.Core.Option.{Option, none}
use mathlib.Core.Path.{◌≡◌, refl, subst}
use lib.Dec.{eqb}
use Rattle.laws.specs.Lists.{all?}
use Rattle.laws.proofs.Lists.{all?-cons}
use Rattle.laws.proofs.Tests.{and_i, and_l, and_r}
use Rattle.cell.specs.declared.Arrival.{Arrival}
use Rattle.cell.specs.Cell.{arrival_fits}
use Rattle.cell.specs.Limits.{ports_in_range, fits32, clock_end}
use Rattle.model.specs.State.{Switch, fresh, cells}
use Rattle.model.specs.Checks.{Outcome, refused, refusal, first_fault}
use Rattle.model.specs.Crossbar.{Course, answer_of, refused_answer, slot_answer, run, slot, switch_after}
use Rattle.model.specs.Pifo.{Pifo, fresh_pifo, Sent, sent_departures, run_pifo, slot_pifo}
use Rattle.model.specs.CodeFair.{pifo_after}
use Rattle.model.specs.Phase.{waiting}
use Rattle.model.specs.Sound.{sound}
use Rattle.model.specs.CodeSlackness.{Slack}
use Rattle.model.specs.Cues.{sound_cues}
use Rattle.model.specs.Rehearsal.{Rehearsal, begun, Call, takes, sets, drops, returns, next, next_all}
use Rattle.model.specs.Rehearsal.{crossbar_after, shadow_after}
use Rattle.model.specs.Emulation.{lent, callable, AnswersAlike, Within, SameState, NeverFalls, CallAlike, Alike}
use Rattle.model.specs.Emulation.{Demand3}
use Rattle.model.specs.Fair.{Fair, marks_in_range, sound_memory, marked, fair_slot, fair_slot_pifo}
use Rattle.model.proofs.CourseLimits.{within-limits}
use Rattle.model.proofs.CueLaws.{Both, both-begun, agree-map, agree-next, set-refusal, drop-refusal}
use Rattle.model.proofs.CueLaws.{return-refusal}
use Rattle.model.proofs.CueSound.{no-cues-sound, all_sound}
use Rattle.model.proofs.FairRanks.{never-falls}
use Rattle.model.proofs.FairRelated.{KeptFair, Follows, fair-step}
use Rattle.model.proofs.FairSound.{sound_with, Sure, sure-fresh, sure-after, fair-limits, fair-sound-after}
use Rattle.model.proofs.Related.{Related, Settled, SameCall, both-refuse, both_run, arriving, related-fresh}
use Rattle.model.proofs.Related.{related-refused, related-departures, related-run, related-same-waiting}
use Rattle.model.proofs.SlackSlot.{fresh-slack, settled-best, run-slack}
use Rattle.model.proofs.SoundSlot.{sound-fresh, settled-orderly, settled-count, run-cells, run_sound}

-- What is kept between calls.
pub record Kept (s : Switch) (q : Pifo) : Type 0 where
  pub related : Related s q
  pub table : sound s ≡ true
  pub slack : Slack s.ports 0 0 (waiting s.sections)

-- an accepted slot, from switches so kept
module _ (s : Switch) (q : Pifo) (kept : Kept s q) (records : List Arrival) (fits : all? arrival_fits records ≡ true)
    (ticks : eqb s.clock clock_end ≡ false)
    (clear : first_fault s.ports (cells s) (arriving s records) ≡ none) where
  abbrev pub course : Course
  course = run s (arriving s records)

  settled : Settled s (arriving s records) (waiting course.settled) course.switch
  unfolding run
  settled =
      let o = settled-orderly s records kept.table fits ticks clear in
      record {
        numbers = o.numbers;
        arrivals = o.arrivals;
        best = settled-best s records kept.table fits ticks clear kept.slack;
        all = settled-count s records kept.table fits ticks clear;
        ports = refl;
        clock = refl;
        stay = run-cells s (arriving s records);
      }

  pub same-departures : course.departures ≡ (run_pifo q (arriving s records)).departures
  unfolding run
  same-departures = related-departures s q kept.related (arriving s records) clear settled

  pub kept_run : Kept course.switch (run_pifo q (arriving s records)).pifo
  unfolding run
  kept_run =
      record {
        related = related-run s q kept.related (arriving s records) clear settled;
        table = run_sound s records kept.table fits ticks clear;
        slack = run-slack s records kept.table fits ticks clear kept.slack;
      }

-- What a call comes to: both answer alike, the limits are kept, and the switches stay so related.
pub record Step (s : Switch) (q : Pifo) (o : Outcome Course) (o' : Outcome Sent) : Type 0 where
  pub answers : (ports : ℕ) → AnswersAlike ports o o'
  pub limits : Within o
  pub kept : Kept (switch_after s o) (pifo_after q o')

pub step : (s : Switch) (q : Pifo) → Kept s q → (a : Option (List Arrival)) → lent a ≡ true
    → Step s q (slot s a) (slot_pifo q a)
unfolding switch_after pifo_after lent refusal answer_of refused_answer slot_answer sent_departures
step s q kept a fits = go (related-refused s q kept.related a)
  where
    go : SameCall s q a → Step s q (slot s a) (slot_pifo q a)
    go (both-refuse r place e f) =
        let same : (ports : ℕ) → AnswersAlike ports (refused r place) (refused r place) =
        λ ports. record { refusals = refl; departures = refl } in
        rw (e, f) (record { answers = same; limits = tt; kept = kept })
    go (both_run records p ticks clear e f) =
        let fit : all? arrival_fits records ≡ true = subst (λ x. lent x ≡ true) p fits in
        rw (e, f)
        (record {
          answers = λ ports. record { refusals = refl; departures = same-departures s q kept records fit ticks clear };
          limits = within-limits s records kept.table fit ticks clear;
          kept = kept_run s q kept records fit ticks clear;
        })

pub kept_fresh : (ports first : ℕ) → ports_in_range ports ≡ true → fits32 first ≡ true
    → Kept (fresh ports first) (fresh_pifo ports first)
unfolding fresh
kept_fresh ports first p f =
    record {
      related = related-fresh ports first;
      table = sound-fresh ports first p f;
      slack = fresh-slack ports first;
    }

------------------------------------------------------------------------
-- with fair outputs

-- the crossbar sends what the PIFO switch sends, where the ranks stand
pub crossbar-follows :
    Follows run (λ c. c.departures) (λ c. c.switch) (λ ports o. (slot_answer ports o).departures) Kept
unfolding slot_answer answer_of refused_answer
crossbar-follows =
    record {
      related = λ s q kept. kept.related;
      sends = same-departures;
      keeps = kept_run;
      read_done = λ ports c. refl;
      read-refused = λ ports r place. refl;
    }

-- What is kept between calls: the two hold the same cells and remember the same, and the crossbar is sure of its ranks.
pub record KeptRanks (x : Fair Switch) (y : Fair Pifo) : Type 0 where
  pub pair : KeptFair Kept x y
  pub sure : Sure x

pub record StepRanks (x : Fair Switch) (y : Fair Pifo) (a : Option (List Arrival)) : Type 0 where
  pub answers : (ports : ℕ) → AnswersAlike ports (fair_slot x a) (fair_slot_pifo y a)
  pub limits : Within (fair_slot x a)
  pub falls : NeverFalls x a
  pub kept : KeptRanks (crossbar_after x a) (shadow_after y a)

pub step-ranks : (x : Fair Switch) (y : Fair Pifo) → KeptRanks x y → (a : Option (List Arrival)) → lent a ≡ true
    → StepRanks x y a
step-ranks x y kept a fits =
    let t = fair-step run (λ c. c.departures) (λ c. c.switch) (λ ports o. (slot_answer ports o).departures) Kept
    crossbar-follows x y kept.pair a fits in
    record {
      answers = λ ports. record { refusals = t.refusals; departures = t.sent ports };
      limits = fair-limits x kept.sure a fits;
      falls = never-falls x a kept.sure.ranks;
      kept = record { pair = t.kept; sure = sure-after x kept.sure a fits };
    }

ranks-kept : (x : Fair Switch) (y : Fair Pifo) (a : Option (List Arrival)) → callable (takes a) ≡ true → KeptRanks x y
    → KeptRanks (crossbar_after x a) (shadow_after y a)
unfolding callable
ranks-kept x y a fits kept = (step-ranks x y kept a fits).kept

call-alike : (ports : ℕ) (x : Rehearsal (Fair Switch)) (y : Rehearsal (Fair Pifo)) → Both KeptRanks x y → (call : Call)
    → callable call ≡ true → CallAlike ports x y call
unfolding callable
call-alike ports x y both (takes a) h =
    let t = step-ranks x.switch y.switch both.switches a h in
    (t.answers ports, t.limits, t.falls)
call-alike ports x y both (sets name) h =
    set-refusal KeptRanks name x.cues y.cues both.cues x.switch y.switch
call-alike ports x y both (drops name) h = drop-refusal KeptRanks name x.cues y.cues both.cues
call-alike ports x y both (returns name) h = return-refusal KeptRanks name x.cues y.cues both.cues

pub kept_same : (x : Fair Switch) (y : Fair Pifo) → KeptRanks x y → SameState x y
kept_same x y kept =
    (related-same-waiting x.core y.core kept.pair.cores.related, kept.pair.memories)

pub alike : (ports : ℕ) (x : Rehearsal (Fair Switch)) (y : Rehearsal (Fair Pifo)) → Both KeptRanks x y
    → (calls : List Call) → all? callable calls ≡ true → Alike ports x y calls
alike ports x y both [] h = (
  kept_same x.switch y.switch both.switches,
  agree-map KeptRanks SameState kept_same x.cues y.cues both.cues,
)
alike ports x y both (call ∷ calls) h =
    let fits = rw (all?-cons callable call calls) at h in
    let fit = and_l (callable call) (all? callable calls) fits in (
      call-alike ports x y both call fit,
      alike ports (next crossbar_after x call) (next shadow_after y call)
          (agree-next KeptRanks callable crossbar_after shadow_after ranks-kept x y call fit both) calls
          (and_r (callable call) (all? callable calls) fits),
    )

pub ranks-fresh : (ports first marks : ℕ) → ports_in_range ports ≡ true → fits32 first ≡ true
    → marks_in_range ports marks ≡ true
    → KeptRanks (marked marks (fresh ports first)) (marked marks (fresh_pifo ports first))
unfolding marked
ranks-fresh ports first marks p f m =
    record {
      pair = record { cores = kept_fresh ports first p f; memories = refl };
      sure = sure-fresh ports first marks p f m;
    }

pub demand-3 : Demand3
demand-3 ports first marks calls p f m h =
    let x = marked marks (fresh ports first) in
    let y = marked marks (fresh_pifo ports first) in
    alike ports (begun x) (begun y) (both-begun KeptRanks x y (ranks-fresh ports first marks p f m)) calls h

------------------------------------------------------------------------
-- corollaries

pub reachable-sound : (ports first marks : ℕ) (calls : List Call) → ports_in_range ports ≡ true → fits32 first ≡ true
    → marks_in_range ports marks ≡ true → all? callable calls ≡ true
    → (let x = next_all crossbar_after (begun (marked marks (fresh ports first))) calls in
    (sound_with sound x.switch ≡ true) × (sound_cues (sound_with sound) x.cues ≡ true))
unfolding begun callable
reachable-sound ports first marks calls p f m fits =
    let x = marked marks (fresh ports first) in
    let s = sure-fresh ports first marks p f m in
    let first = and_i (sound x.core) (sound_memory x.core.ports x.memory) s.table s.memory in
    all_sound (sound_with sound) callable crossbar_after fair-sound-after (begun x) calls fits
    (first, no-cues-sound (sound_with sound))
