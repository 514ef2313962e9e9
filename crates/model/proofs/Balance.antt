-- Cells in less cells out is the number waiting, for every list of calls without an accepted return from a fresh
-- switch, whatever outputs are fair, and a tally of zeros (`balance`), and neither count reaches its top
-- (`counts-below`). In one slot: those waiting after it and those sent are those waiting before it and those that came
-- (`run-balance`), because each output sends at most one cell.
use Prim.Native.Nat.{ℕ, zero, suc, ◌+◌, ◌*◌, ◌≤◌, ◌<◌}
use native.Mathlib.Omega.{arith}
use mathlib.Core.Bool.{Bool, true, false, not, ◌&&◌, ◌||◌}
use mathlib.Core.List.{List, [], ◌∷◌, ◌++◌, map, Memᴰ}
use mathlib.Core.Logic.{◌⊎◌, inl, inr, ◌≢◌}
use mathlib.Core.Option
use mathlib.Core.Option.{Option, none, some}
use mathlib.Core.Path.{◌≡◌, refl, sym, ap, ◌∙◌, subst}
use lib.Dec.{eqb, leb}
use lib.ListN.{length, length-map, length-append}
use borrow.Author.Tests.{leb-true, eqb-true, eqb-false, eq-eqb, ne_eqb, not-true}
use Rattle.laws.specs.Lists.{keep, some?, none?, all?, count, pairwise, first?, numbers_from, up_to}
use Rattle.laws.proofs.Count.{count-nil, count-pass, count-fail, count-ext, count-or, count_map, count-zero, count-all, count-not}
use Rattle.laws.proofs.Count.{length-keep}
use Rattle.laws.proofs.Least.{least-keeps}
use Rattle.laws.proofs.Lists.{keep-nil, keep-pass, keep-fail, keep-keep, keep-mem, mem-keep-passes}
use Rattle.laws.proofs.Lists.{some?-nil, some?-cons, some?-e, none?-i, all?-i, all?-cons}
use Rattle.laws.proofs.Pairwise.{pairwise-head, pairwise-tail, pairwise-keep, pairwise-mono}
use Rattle.laws.proofs.Tests.{clash, same, and_l, and_r, not-i, by-fail}
use Rattle.cell.specs.declared.Arrival.{Arrival}
use Rattle.cell.specs.Cell.{accepted, arrival_fits}
use Rattle.cell.specs.Limits.{port_limit, ports_in_range, fits32, clock_end}
use Rattle.model.specs.State.{Entry, Switch, fresh, cells, is_buffered}
use Rattle.model.specs.Checks.{first_fault}
use Rattle.model.specs.Crossbar.{Course, run, leaving, departures_of}
use Rattle.model.specs.Fair.{make, Fair, marked, slot_of, after_of, fair_slot}
use Rattle.model.specs.Phase.{Waiting, waiting, among, beats, same_output}
use Rattle.model.specs.CodeSlackness.{Orderly, other_number}
use Rattle.model.specs.Sound.{sound}
use Rattle.model.specs.Emulation.{lent, callable}
use Rattle.model.specs.Rehearsal.{Rehearsal, begun, Call, takes, sets, drops, returns, next, next_all, goes_back}
use Rattle.model.specs.Rehearsal.{none_goes_back, crossbar_after, tally_next, tally_after_all}
use Rattle.cell.specs.declared.Tally.{Tally}
use Rattle.model.specs.Tally.{no_tally, count_top, raise, is_sent, after_run, after_refused, tally_after, arrival_count}
use Rattle.model.proofs.Admitted.{few-records}
use Rattle.model.proofs.WaitingOrder.{among-i, among-e, beats-total, output-e}
use Rattle.model.proofs.FairChecks.{FairCalled, fair-run, fair-refusal, fair-called}
use Rattle.model.proofs.FairSound.{made, fair-fit, fair-clear}
use Rattle.model.proofs.Related.{flatten-empty}
use Rattle.model.proofs.Returned.{stays}
use Rattle.model.proofs.SlackDeparture.{leaving-in, leaving-buffered, leaving-first}
use Rattle.model.proofs.SoundLaws.{sound-e}
use Rattle.model.proofs.SoundSlot.{sound-fresh, settled-orderly, settled-count, run-cells}
use Rattle.model.proofs.SoundSlot.{settled-sound, run_sound}
use Rattle.model.proofs.SoundOrderly.{sound-section}
use Rattle.model.proofs.Numbering.{entry_of, mem-waiting, stands-entry}

------------------------------------------------------------------------
-- departures and the cells that leave

-- an output sends a cell exactly if some cell that leaves goes to it
sent-some : (t : Waiting → Bool) (l : List Waiting)
    → is_sent (Option.map (λ e. e.cell) (first? (keep t l))) ≡ some? t l
unfolding is_sent first?
sent-some t [] = rw (keep-nil t, some?-nil t)
sent-some t (x ∷ l) = go (t x) refl (sent-some t l)
  where
    go : (b : Bool) → t x ≡ b → is_sent (Option.map (λ e. e.cell) (first? (keep t l))) ≡ some? t l
        → is_sent (Option.map (λ e. e.cell) (first? (keep t (x ∷ l)))) ≡ some? t (x ∷ l)
    go true e ih = rw (keep-pass t x l e, some?-cons t x l, e)
    go false e ih = rw (keep-fail t x l e, some?-cons t x l, e) ih

-- a number stands once among those that rise from k
count_past : (x k n : ℕ) → x < k → ◌≡◌ {A = ℕ} (count (λ o. eqb x o) (numbers_from k n)) 0
unfolding numbers_from
count_past x k zero h = count-nil (λ o. eqb x o)
count_past x k (suc n) h =
    let e : eqb x k ≡ false = ne_eqb x k (omega arith) in
    count-fail (λ o. eqb x o) k (numbers_from (k + 1) n) e ∙ count_past x (k + 1) n (omega arith)

count-once : (x k n : ℕ) → k ≤ x → x < k + n → ◌≡◌ {A = ℕ} (count (λ o. eqb x o) (numbers_from k n)) 1
unfolding numbers_from
count-once x k zero h l = absurd (let z : ⊥ = omega arith in z)
count-once x k (suc n) h l = go (eqb x k) refl (count-once x (k + 1) n)
  where
    go : (b : Bool) → eqb x k ≡ b
        → (k + 1 ≤ x → x < k + 1 + n → ◌≡◌ {A = ℕ} (count (λ o. eqb x o) (numbers_from (k + 1) n)) 1)
        → ◌≡◌ {A = ℕ} (count (λ o. eqb x o) (k ∷ numbers_from (k + 1) n)) 1
    go true e later =
        let p : x ≡ k = eqb-true x k e in
        omega (arith, count-pass (λ o. eqb x o) k (numbers_from (k + 1) n) e, count_past x (k + 1) n (omega arith))
    go false e later =
        let p : x ≢ k = eqb-false x k e in
        count-fail (λ o. eqb x o) k (numbers_from (k + 1) n) e ∙ later (omega arith) (omega arith)

abbrev apart_outputs : Waiting → Waiting → Bool
apart_outputs e f = not (same_output e f)

-- as many outputs as cells, where no two go to one output
outputs-count : (n : ℕ) (out : List Waiting) → pairwise apart_outputs out ≡ true
    → ((e : Waiting) → Memᴰ e out → e.cell.output < n)
    → count (λ o. some? (λ e. eqb e.cell.output o) out) (up_to n) ≡ length out
unfolding up_to same_output
outputs-count n [] h below =
    count-zero (λ o. some? (λ e. eqb e.cell.output o) []) (numbers_from 0 n)
    (none?-i (λ o. some? (λ e. eqb e.cell.output o) []) (numbers_from 0 n)
    (λ o m. some?-nil (λ e. eqb e.cell.output o)))
outputs-count n (e ∷ out) h below =
    let a : count (λ o. some? (λ f. eqb f.cell.output o) (e ∷ out)) (numbers_from 0 n)
    ≡ count (λ o. mine o || rest o) (numbers_from 0 n) =
    count-ext (λ o. some? (λ f. eqb f.cell.output o) (e ∷ out)) (λ o. mine o || rest o) (numbers_from 0 n)
    (λ o m. some?-cons (λ f. eqb f.cell.output o) e out) in
    let z : ◌≡◌ {A = ℕ} (count (λ o. mine o && rest o) (numbers_from 0 n)) 0 =
    count-zero (λ o. mine o && rest o) (numbers_from 0 n) (none?-i (λ o. mine o && rest o) (numbers_from 0 n) (λ o m. apart o)) in
    let b : count rest (numbers_from 0 n) ≡ length out =
    outputs-count n out (pairwise-tail apart_outputs e out h) (λ f m. below f (Memᴰ.tail m)) in
    let l : e.cell.output < 0 + n = omega (arith, below e (Memᴰ.head refl)) in
    let c : ◌≡◌ {A = ℕ} (count mine (numbers_from 0 n)) 1 = count-once e.cell.output 0 n (omega arith) l in
    omega (arith, count-or mine rest (numbers_from 0 n))
  where
    mine : ℕ → Bool
    mine o = eqb e.cell.output o

    rest : ℕ → Bool
    rest o = some? (λ f. eqb f.cell.output o) out

    apart : (o : ℕ) → (mine o && rest o) ≡ false
    apart o =
        by-fail (mine o && rest o) (λ t.
        let w = some?-e (λ f. eqb f.cell.output o) out (and_r (mine o) (rest o) t) in
        clash
        (eq-eqb e.cell.output w.0.cell.output
        (eqb-true e.cell.output o (and_l (mine o) (rest o) t) ∙ sym (eqb-true w.0.cell.output o w.2)))
        (not-true (eqb e.cell.output w.0.cell.output) (pairwise-head apart_outputs h w.1)))

sent-count : (n : ℕ) (out : List Waiting) → pairwise apart_outputs out ≡ true
    → ((e : Waiting) → Memᴰ e out → e.cell.output < n) → count is_sent (departures_of n out) ≡ length out
unfolding departures_of
sent-count n out h below =
    count_map is_sent (λ o. Option.map (λ e. e.cell) (first? (keep (λ e. eqb e.cell.output o) out))) (up_to n)
    ∙ count-ext
    (λ o. is_sent (Option.map (λ e. e.cell) (first? (keep (λ e. eqb e.cell.output o) out))))
    (λ o. some? (λ e. eqb e.cell.output o) out) (up_to n)
    (λ o m. sent-some (λ e. eqb e.cell.output o) out)
    ∙ outputs-count n out h below

module _ {ports : ℕ} (w : List Waiting) (o : Orderly ports w) where
  -- the test that a cell leaves
  goes : Waiting → Bool
  goes e = is_buffered e.place && none? (λ f. beats ports f e) (keep (λ f. is_buffered f.place) w)

  leaving-keep : leaving ports w ≡ keep goes w
  unfolding leaving goes
  leaving-keep =
      least-keeps (beats ports) (keep (λ e. is_buffered e.place) w)
      ∙ keep-keep (λ e. is_buffered e.place)
      (λ e. none? (λ f. beats ports f e) (keep (λ f. is_buffered f.place) w)) w

  leaving-apart : pairwise apart_outputs (leaving ports w) ≡ true
  unfolding other_number
  leaving-apart =
      pairwise-mono other_number apart_outputs (leaving ports w) differ
      (subst (λ l. pairwise other_number l ≡ true) (sym leaving-keep) (pairwise-keep other_number goes w o.numbers))
    where
      differ : (e f : Waiting) → Memᴰ e (leaving ports w) → Memᴰ f (leaving ports w) → other_number e f ≡ true
          → apart_outputs e f ≡ true
      differ e f m k n =
          not-i (same_output e f) (by-fail (same_output e f) (λ t.
          go (beats-total o (leaving-in ports w m) (leaving-in ports w k) (output-e e f t))))
        where
          go : (e ≡ f) ⊎ ((beats ports e f ≡ true) ⊎ (beats ports f e ≡ true)) → ⊥
          go (inl p) = eqb-false e.at f.at (not-true (eqb e.at f.at) n) (ap (λ x. x.at) p)
          go (inr (inl b)) = clash b (leaving-first ports w k (leaving-in ports w m) (leaving-buffered ports w m))
          go (inr (inr b)) = clash b (leaving-first ports w m (leaving-in ports w k) (leaving-buffered ports w k))

  -- those that stay and those that leave are all
  leaving-length : length (keep (λ e. not (among (leaving ports w) e)) w) + length (leaving ports w) ≡ length w
  leaving-length =
      omega (
        arith,
        length-keep (λ e. not (among (leaving ports w) e)) w,
        count-not (among (leaving ports w)) w,
        ap length leaving-keep ∙ length-keep goes w,
        count-ext (among (leaving ports w)) goes w alike,
      )
    where
      alike : (e : Waiting) → Memᴰ e w → among (leaving ports w) e ≡ goes e
      alike e m =
          same (among (leaving ports w) e) (goes e)
          (λ a. mem-keep-passes goes w (subst (λ l. Memᴰ e l) leaving-keep (among-e o (leaving ports w) (λ f k. leaving-in ports w k) m a)))
          (λ g. among-i (subst (λ l. Memᴰ e l) (sym leaving-keep) (keep-mem goes m g)))

------------------------------------------------------------------------
-- one slot

count-true : {A : Type 0} (l : List A) → count (λ x. true) l ≡ length l
count-true l = count-all (λ x. true) l (all?-i (λ x. true) l (λ x m. refl))

module _ (s : Switch) (records : List Arrival) (h : sound s ≡ true) (fits : all? arrival_fits records ≡ true)
    (ticks : eqb s.clock clock_end ≡ false)
    (clear : first_fault s.ports (cells s) (map (accepted s.clock) records) ≡ none) where
  course : Course
  course = run s (map (accepted s.clock) records)

  last : List Waiting
  last = waiting course.settled

  last-length : length last ≡ length (cells s) + length records
  unfolding last course
  last-length =
      omega (
        arith,
        settled-count s records h fits ticks clear (λ c. true),
        count-true (map (λ w. w.cell) last),
        count-true (map (accepted s.clock) records ++ cells s),
        length-map last (λ w. w.cell),
        length-map records (accepted s.clock),
        length-append (map (accepted s.clock) records) (cells s),
      )

  last-output : (e : Waiting) → Memᴰ e (leaving s.ports last) → e.cell.output < s.ports
  unfolding last course
  last-output e m =
      let st = mem-waiting course.settled (leaving-in s.ports last m) in
      ((sound-section s.ports (s.clock + 1) course.settled (settled-sound s records h fits ticks clear) st.input
      ).entries (entry_of e) (stands-entry course.settled e st)).output

  run-balance : length (cells course.switch) + count is_sent course.departures ≡ length (cells s) + length records
  unfolding last course run
  run-balance =
      let o = settled-orderly s records h fits ticks clear in
      let stay : List Waiting = keep (λ e. not (among (leaving s.ports last) e)) last in
      let a : length (cells course.switch) ≡ length stay =
      ap length (run-cells s (map (accepted s.clock) records)) ∙ length-map stay (λ w. w.cell) in
      let b : count is_sent course.departures ≡ length (leaving s.ports last) =
      sent-count s.ports (leaving s.ports last) (leaving-apart last o) last-output in
      omega (arith, leaving-length last o, last-length)

------------------------------------------------------------------------
-- a list of calls

-- What every call keeps. At most sixteen cells come in a slot, and the clock fits 32 bits: so no count of cells comes
-- near its top.
record Balanced (s : Switch) (t : Tally) : Type 0 where
  whole : sound s ≡ true
  even : t.arrived ≡ t.departed + length (cells s)
  few : t.arrived ≤ port_limit * s.clock

clock-fits : (s : Switch) → sound s ≡ true → s.clock ≤ clock_end
unfolding fits32
clock-fits s h = leb-true s.clock clock_end (sound-e s h).clock

records-few : (s : Switch) (records : List Arrival) → sound s ≡ true
    → first_fault s.ports (cells s) (map (accepted s.clock) records) ≡ none → length records ≤ port_limit
unfolding ports_in_range
records-few s records h clear =
    omega (
      arith,
      few-records s.ports (cells s) (map (accepted s.clock) records) clear,
      length-map records (accepted s.clock),
      leb-true s.ports port_limit (and_r (leb 1 s.ports) (leb s.ports port_limit) (sound-e s h).ports),
    )

-- a refused slot changes neither count of cells
refused-balanced : (s : Switch) (t : Tally) → Balanced s t → Balanced s (after_refused t)
unfolding after_refused
refused-balanced s t b = record { whole = b.whole; even = b.even; few = b.few }

slot-balanced : (x : Fair Switch) (a : Option (List Arrival)) (t : Tally) → lent a ≡ true → Balanced x.core t
    → Balanced (crossbar_after x a).core (tally_after (arrival_count a) (fair_slot x a) t)
unfolding tally_after after_run slot_of after_of arrival_count raise lent course run
slot-balanced x none t fits b = refused-balanced x.core t b
slot-balanced x (some records) t fits b = go (fair-called (λ s. s.ports) (λ s. s.clock) cells run x records)
  where
    go : FairCalled (λ s. s.ports) (λ s. s.clock) cells run x records
        → Balanced (crossbar_after x (some records)).core (tally_after (length records) (fair_slot x (some records)) t)
    go (fair-refusal r place e) = rw e (refused-balanced x.core t b)
    go (fair-run ticks clear e) =
        let s = x.core in
        let fit = fair-fit x records fits clear in
        let fine = fair-clear x records clear in
        let clock = clock-fits s b.whole in
        let few = records-few s (made x records) b.whole fine in
        let many = length-map records (make x.memory) in
        rw e
        (record {
          whole = run_sound s (made x records) b.whole fit ticks fine;
          even = omega (arith, run-balance s (made x records) b.whole fit ticks fine, b.even, b.few);
          few = omega (arith, b.few);
        })

next-balanced : (x : Rehearsal (Fair Switch)) (call : Call) (t : Tally) → callable call ≡ true
    → goes_back crossbar_after x call ≡ false → Balanced x.switch.core t
    → Balanced (next crossbar_after x call).switch.core (tally_next x call t)
unfolding next tally_next callable
next-balanced x (takes arrivals) t fits forth b = slot-balanced x.switch arrivals t fits b
next-balanced x (sets name) t fits forth b = b
next-balanced x (drops name) t fits forth b = b
next-balanced x (returns name) t fits forth b =
    subst (λ s. Balanced s.core t) (sym (stays crossbar_after x name forth)) b

all-balanced : (x : Rehearsal (Fair Switch)) (calls : List Call) (t : Tally) → all? callable calls ≡ true
    → none_goes_back crossbar_after x calls ≡ true → Balanced x.switch.core t
    → Balanced (next_all crossbar_after x calls).switch.core (tally_after_all x calls t)
unfolding next_all tally_after_all none_goes_back
all-balanced x [] t fits forth b = b
all-balanced x (call ∷ calls) t fits forth b =
    let x' = next crossbar_after x call in
    let both = rw (all?-cons callable call calls) at fits in
    let back = goes_back crossbar_after x call in
    let rest = none_goes_back crossbar_after x' calls in
    all-balanced x' calls (tally_next x call t) (and_r (callable call) (all? callable calls) both)
    (and_r (not back) rest forth)
    (next-balanced x call t (and_l (callable call) (all? callable calls) both)
    (not-true back (and_l (not back) rest forth)) b)

fresh_cells : (ports first : ℕ) → ◌≡◌ {A = ℕ} (length (cells (fresh ports first))) 0
unfolding fresh cells
fresh_cells ports first = ap (λ l. length (map (λ e. e.cell) l)) (flatten-empty {A = Entry} ports)

module _ (ports first marks : ℕ) (calls : List Call) (p : ports_in_range ports ≡ true) (f : fits32 first ≡ true)
    (fits : all? callable calls ≡ true)
    (forth : none_goes_back crossbar_after (begun (marked marks (fresh ports first))) calls ≡ true) where
  balanced : Balanced (next_all crossbar_after (begun (marked marks (fresh ports first))) calls).switch.core
      (tally_after_all (begun (marked marks (fresh ports first))) calls no_tally)
  unfolding begun marked no_tally
  balanced =
      all-balanced (begun (marked marks (fresh ports first))) calls no_tally fits forth
      (record {
        whole = sound-fresh ports first p f;
        even = omega (arith, fresh_cells ports first);
        few = omega arith;
      })

  pub balance : (tally_after_all (begun (marked marks (fresh ports first))) calls no_tally).arrived
      ≡ (tally_after_all (begun (marked marks (fresh ports first))) calls no_tally).departed
      + length (cells (next_all crossbar_after (begun (marked marks (fresh ports first))) calls).switch.core)
  balance = balanced.even

  pub counts-below : ((tally_after_all (begun (marked marks (fresh ports first))) calls no_tally).arrived < count_top)
      × ((tally_after_all (begun (marked marks (fresh ports first))) calls no_tally).departed < count_top)
  counts-below =
      let x = next_all crossbar_after (begun (marked marks (fresh ports first))) calls in
      let clock = clock-fits x.switch.core balanced.whole in
      omega (arith, balanced.even, balanced.few)
