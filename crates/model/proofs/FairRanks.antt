-- At a fair output no rank falls: every waiting cell has a rank no higher than the last one given to its flow.
--     RanksGiven          that statement
--     never-falls         so refusal 7 never names a record at a fair output
--     ranks-after         an accepted slot keeps it
--     departures-fit      the ranks of the cells that leave fit a word
use Prim.Native.Nat.{ℕ, zero, suc, ◌+◌, ◌*◌, ◌≤◌, ◌<◌}
use native.Mathlib.Omega.{arith}
use mathlib.Core.Bool.{Bool, true, false, cond, ◌&&◌}
use mathlib.Core.Path.{◌≡◌, refl, sym, ◌∙◌, ap, ap₂, subst}
use mathlib.Core.Logic.{◌⊎◌, inl, inr}
use mathlib.Core.List.Memᴰ
use mathlib.Core.List.{List, [], ◌∷◌, map, Memᴰ}
use mathlib.Core.Option
use mathlib.Core.Option.{Option, none, some, none-ne-some, some-injective}
use borrow.Author.Tests.{ltb-true, lt-ltb, leb-true}
use lib.Dec.{ltb, leb, eqb}
use lib.ListN.{get_or}
use Rattle.laws.specs.Lists.{keep, some?, first?, up_to}
use Rattle.laws.proofs.Lists.{some?-e, first-mem, mem-keep-in}
use Rattle.laws.proofs.Pairwise.{pairwise-mono, pairwise_map}
use Rattle.laws.proofs.Tests.{by-fail, and_l, and_r}
use Rattle.cell.specs.declared.Arrival.{Arrival}
use Rattle.cell.specs.declared.Cell.{Cell}
use Rattle.cell.specs.declared.Refusal.{Refusal}
use Rattle.cell.specs.declared.Refusal.TheVariants.{ClockEnd, NoSuchPort, NoSuchFlow, InputOrder, RankOrder, Full}
use Rattle.cell.specs.declared.Refusal.TheVariants.{BadWeight, RankEnd}
use Rattle.cell.specs.Cell.{accepted}
use Rattle.cell.specs.Flow.{same_flow}
use Rattle.cell.specs.Limits.{port_limit, flow_limit, clock_end, fits32, ports_in_range}
use Rattle.cell.specs.Refusal.{number}
use Rattle.cell.proofs.Flow.{flow-e}
use Rattle.model.specs.State.{Entry, Switch, cells}
use Rattle.model.specs.Checks.{Outcome, done, refused, no_such_port, no_such_flow, out_of_turn, falling_rank, full}
use Rattle.model.specs.Checks.{fault}
use Rattle.model.specs.Crossbar.{Course, leaving, departures_of, run}
use Rattle.model.specs.Emulation.{NeverFalls}
use Rattle.model.specs.Fair.{flow_index, Memory, is_fair, sound_memory, made_rank, make, bad_weight, rank_end}
use Rattle.model.specs.Fair.{record_fault, record_fault_from, given_after, remembered, Fair}
use Rattle.model.specs.Phase.{Waiting, waiting}
use Rattle.model.specs.Sound.{sound_sections}
use Rattle.model.proofs.Admitted.{Admitted, admitted}
use Rattle.model.proofs.FairChecks.{becoming, records-first, records-next, record-clear-first, fair-end}
use Rattle.model.proofs.FairChecks.{fair-fault, fair-runs}
use Rattle.model.proofs.FairMemory.{memory-e, remembered-fair, own_words, made-above, given-rises, given_holds}
use Rattle.model.proofs.Numbering.{entry_of, mem-waiting, stands-entry}
use Rattle.model.proofs.SlackDeparture.{leaving-in}
use Rattle.model.proofs.SoundOrderly.{sound-section}

-- the word of a cell's flow
unfoldable pub word_of : Cell → ℕ
word_of c = port_limit * flow_limit * c.input + (flow_limit * c.output + c.flow)

abbrev pub RanksGiven : Memory → List Cell → Type 0
RanksGiven m waiting =
    (d : Cell) → Memᴰ d waiting → is_fair m d.output ≡ true → d.rank ≤ get_or m.given (word_of d) 0

------------------------------------------------------------------------
-- 7 never names a record at a fair output

fault-not-fall : (ports : ℕ) (waiting : List Cell) (before : Option Cell) (c : Cell) → falling_rank waiting c ≡ false
    → fault ports waiting before c ≡ some RankOrder → ⊥
unfolding fault
fault-not-fall ports waiting before c h k =
    go (no_such_port ports c) (no_such_flow c) (out_of_turn before c) (full waiting c) (rw h at k)
  where
    by : (x : Refusal) → (number x ≡ 7 → ⊥) → some x ≡ some RankOrder → ⊥
    by x other e = other (ap number (some-injective x RankOrder e))

    go : (p f t u : Bool)
        → cond p (some NoSuchPort) (cond f (some NoSuchFlow) (cond t (some InputOrder) (cond u (some Full) none)))
        ≡ some RankOrder → ⊥
    go true f t u e = by NoSuchPort (λ q. omega arith) e
    go false true t u e = by NoSuchFlow (λ q. omega arith) e
    go false false true u e = by InputOrder (λ q. omega arith) e
    go false false false true e = by Full (λ q. omega arith) e
    go false false false false e = none-ne-some RankOrder e

module _ (ports clock : ℕ) (waiting : List Cell) (m : Memory) (given : RanksGiven m waiting) where
  -- the rank made is at least the last one given, and so at least that of every waiting cell of the flow
  no-fall : (a : Arrival) → is_fair m a.output ≡ true → falling_rank waiting (accepted clock (make m a)) ≡ false
  unfolding falling_rank accepted make word_of flow_index
  no-fall a fair = by-fail _ go
    where
      go : some? (λ d. same_flow d (accepted clock (make m a)) && ltb (made_rank m a) d.rank) waiting ≡ true → ⊥
      go t =
          let w = some?-e (λ d. same_flow d (accepted clock (make m a)) && ltb (made_rank m a) d.rank) waiting t in
          let d = w.0 in
          let f = flow-e d (accepted clock (make m a))
          (and_l (same_flow d (accepted clock (make m a))) (ltb (made_rank m a) d.rank) w.2) in
          let below = given d w.1 (rw f.output fair) in
          let above = made-above m a fair in
          let same : get_or m.given (word_of d) 0 ≡ get_or m.given (flow_index a) 0 =
          rw (f.input, f.output, f.flow) in
          let less = ltb-true (made_rank m a) d.rank
          (and_r (same_flow d (accepted clock (make m a))) (ltb (made_rank m a) d.rank) w.2) in
          omega arith

  -- so a record refused with 7 is at another output
  falls-plain : (before : Option Cell) (a : Arrival) → record_fault ports clock waiting m before a ≡ some RankOrder
      → is_fair m a.output ≡ false
  unfolding record_fault falling_rank some?
  falls-plain before a h =
      by-fail (is_fair m a.output) (λ fair.
      go (fault ports [] before c) refl (bad_weight m a) refl (rank_end m a) refl
      (fault-not-fall ports waiting before c (no-fall a fair)))
    where
      c : Cell
      c = accepted clock (make m a)

      other : (x : Refusal) → (number x ≡ 7 → ⊥) → some x ≡ some RankOrder → ⊥
      other x differ e = differ (ap number (some-injective x RankOrder e))

      go : (o : Option Refusal) → fault ports [] before c ≡ o → (w : Bool) → bad_weight m a ≡ w
          → (e : Bool) → rank_end m a ≡ e → (fault ports waiting before c ≡ some RankOrder → ⊥) → ⊥
      go (some r) q w p e k not =
          fault-not-fall ports [] before c refl
          (q ∙ (rw (q, record_fault) at h))
      go none q true p e k not = other BadWeight (λ z. omega arith) (rw (q, p, record_fault) at h)
      go none q false p true k not = other RankEnd (λ z. omega arith) (rw (q, p, k, record_fault) at h)
      go none q false p false k not = not (rw (q, p, k, record_fault) at h)

  -- the place of a fault is not before that of the first record
  fault-place : (place : ℕ) (before : Option Cell) (records : List Arrival) (f : Refusal × ℕ)
      → record_fault_from ports clock waiting m place before records ≡ some f → place ≤ f.1
  unfolding record_fault_from
  fault-place place before [] f h = absurd (none-ne-some f h)
  fault-place place before (a ∷ records) f h =
      go (record_fault ports clock waiting m before a) refl
      (fault-place (place + 1) (some (accepted clock (make m a))) records f)
    where
      go : (o : Option Refusal) → record_fault ports clock waiting m before a ≡ o
          → (record_fault_from ports clock waiting m (place + 1) (some (accepted clock (make m a))) records ≡ some f
          → place + 1 ≤ f.1)
          → place ≤ f.1
      go (some r) e later =
          let q = some-injective (r, place) f
          (sym (records-first ports clock waiting m place before a records e) ∙ h) in
          omega (arith, ap (λ (x : Refusal × ℕ). x.1) q)
      go none e later = omega (arith, later (sym (records-next ports clock waiting m place before a records e) ∙ h))

  falls-from : (place : ℕ) (before : Option Cell) (records : List Arrival) (k : ℕ)
      → record_fault_from ports clock waiting m place before records ≡ some (RankOrder, place + k)
      → is_fair m (get_or (map (λ a. a.output) records) k 0) ≡ false
  unfolding record_fault_from
  falls-from place before [] k h = absurd (none-ne-some (RankOrder, place + k) h)
  falls-from place before (a ∷ records) zero h =
      go (record_fault ports clock waiting m before a) refl
    where
      go : (o : Option Refusal) → record_fault ports clock waiting m before a ≡ o → is_fair m a.output ≡ false
      go (some r) e =
          let q = some-injective (r, place) (RankOrder, place + 0)
          (sym (records-first ports clock waiting m place before a records e) ∙ h) in
          falls-plain before a (e ∙ ap (λ (x : Refusal × ℕ). some x.0) q)
      go none e =
          absurd
          (let z : place + 1 ≤ place + 0 =
          fault-place (place + 1) (some (accepted clock (make m a))) records (RankOrder, place + 0)
          (sym (records-next ports clock waiting m place before a records e) ∙ h) in
          let y : ⊥ = omega arith in
          y)
  falls-from place before (a ∷ records) (suc k) h =
      go (record_fault ports clock waiting m before a) refl
      (falls-from (place + 1) (some (accepted clock (make m a))) records k)
    where
      go : (o : Option Refusal) → record_fault ports clock waiting m before a ≡ o
          → (record_fault_from ports clock waiting m (place + 1) (some (accepted clock (make m a))) records
          ≡ some (RankOrder, place + 1 + k) → is_fair m (get_or (map (λ a. a.output) records) k 0) ≡ false)
          → is_fair m (get_or (map (λ a. a.output) records) k 0) ≡ false
      go (some r) e later =
          let q = some-injective (r, place) (RankOrder, place + suc k)
          (sym (records-first ports clock waiting m place before a records e) ∙ h) in
          let at : place ≡ place + suc k = ap (λ (x : Refusal × ℕ). x.1) q in
          absurd (let y : ⊥ = omega arith in y)
      go none e later =
          let at : place + suc k ≡ place + 1 + k = omega arith in
          later
          (sym (records-next ports clock waiting m place before a records e)
          ∙ h
          ∙ ap (λ n. some (RankOrder, n)) at)

falls-slot : (x : Fair Switch) (records : List Arrival) → RanksGiven x.memory (cells x.core)
    → NeverFalls x (some records)
falls-slot x records given k h =
    go (eqb x.core.clock clock_end) refl
    (record_fault_from x.core.ports x.core.clock (cells x.core) x.memory 1 none records) refl
  where
    go : (b : Bool) → eqb x.core.clock clock_end ≡ b → (o : Option (Refusal × ℕ))
        → record_fault_from x.core.ports x.core.clock (cells x.core) x.memory 1 none records ≡ o
        → is_fair x.memory (get_or (map (λ a. a.output) records) k 0) ≡ false
    go true e o q =
        let z : ◌≡◌ {A = Outcome Course} (refused ClockEnd 0) (refused RankOrder (k + 1)) =
        sym (fair-end (λ s. s.ports) (λ s. s.clock) cells run x records e) ∙ h in
        let y : ◌≡◌ {A = ℕ} 0 (k + 1) = cc in
        absurd (let w : ⊥ = omega arith in w)
    go false e (some f) q =
        let z : ◌≡◌ {A = Outcome Course} (refused f.0 f.1) (refused RankOrder (k + 1)) =
        sym (fair-fault (λ s. s.ports) (λ s. s.clock) cells run x records e f q) ∙ h in
        let r : f.0 ≡ RankOrder = cc in
        let p : f.1 ≡ k + 1 = cc in
        let at : f.1 ≡ 1 + k = omega arith in
        falls-from x.core.ports x.core.clock (cells x.core) x.memory given 1 none records k
        (q ∙ ap₂ (λ r n. some (r, n)) r at)
    go false e none q =
        let z : done (run x.core (becoming x.core.clock x.memory records)) ≡ refused RankOrder (k + 1) =
        sym (fair-runs (λ s. s.ports) (λ s. s.clock) cells run x records e q) ∙ h in
        let y : ◌≡◌ {A = ℕ} 0 1 = cc in
        absurd (let w : ⊥ = omega arith in w)

pub never-falls : (x : Fair Switch) (arrivals : Option (List Arrival)) → RanksGiven x.memory (cells x.core)
    → NeverFalls x arrivals
never-falls x none given = tt
never-falls x (some records) given = falls-slot x records given

------------------------------------------------------------------------
-- an accepted slot keeps it

module _ (ports clock : ℕ) (waiting : List Cell) (m : Memory) (records : List Arrival)
    (p : ports_in_range ports ≡ true) (sound : sound_memory ports m ≡ true) (given : RanksGiven m waiting)
    (clear : record_fault_from ports clock waiting m 1 none records ≡ none) where
  cell : Arrival → Cell
  cell a = accepted clock (make m a)

  fine : Admitted ports waiting (becoming clock m records)
  fine = admitted ports waiting (becoming clock m records) (record-clear-first ports clock waiting m records clear)

  -- where the records stand in the limits
  record Inside (a : Arrival) : Type 0 where
    input : a.input < port_limit
    output : a.output < port_limit
    flow : a.flow < flow_limit

  inside : (a : Arrival) → Memᴰ a records → Inside a
  unfolding ports_in_range accepted make cell
  inside a i =
      let few = leb-true ports port_limit (and_r (leb 1 ports) (leb ports port_limit) p) in
      let j = Memᴰ.map cell i in
      record {
        input = omega (arith, fine.inputs (cell a) j);
        output = omega (arith, fine.outputs (cell a) j);
        flow = ltb-true a.flow flow_limit (fine.flows (cell a) j);
      }

  -- inputs rise, and so do the words of the flows
  own : own_words records ≡ true
  unfolding flow_index accepted make cell
  own =
      pairwise-mono (λ a b. ltb a.input b.input) (λ a b. ltb (flow_index a) (flow_index b)) records later
      (sym (pairwise_map (λ c d. ltb c.input d.input) cell records) ∙ fine.turns)
    where
      later : (a b : Arrival) → Memᴰ a records → Memᴰ b records → ltb a.input b.input ≡ true
          → ltb (flow_index a) (flow_index b) ≡ true
      later a b i j t =
          let first = inside a i in
          let second = inside b j in
          lt-ltb (flow_index a) (flow_index b) (omega (arith, ltb-true a.input b.input t))

  -- a new cell's rank is remembered
  new-rank : (a : Arrival) → Memᴰ a records → is_fair m (cell a).output ≡ true
      → (cell a).rank ≤ get_or (given_after m records m.given) (word_of (cell a)) 0
  unfolding word_of flow_index accepted make cell
  new-rank a i fair =
      let w = inside a i in
      given_holds m records own a i fair (omega (arith, (memory-e ports m sound).flows))

  pub ranks-after : (ds : List (Option Cell)) (after : List Cell)
      → ((d : Cell) → Memᴰ d after → Memᴰ d (becoming clock m records) ⊎ Memᴰ d waiting)
      → RanksGiven (remembered m records ds) after
  unfolding remembered cell
  ranks-after ds after from d i fair = go (from d i)
    where
      was : is_fair m d.output ≡ true
      was = sym (remembered-fair m records ds d.output) ∙ fair

      go : Memᴰ d (becoming clock m records) ⊎ Memᴰ d waiting
          → d.rank ≤ get_or (given_after m records m.given) (word_of d) 0
      go (inl j) =
          let w = Memᴰ.of_map cell records j in
          subst
          (λ c. is_fair m c.output ≡ true → c.rank ≤ get_or (given_after m records m.given) (word_of c) 0)
          w.2 (new-rank w.0 w.1) was
      go (inr j) =
          let old = given d j was in
          let rises = given-rises m records own (word_of d) in
          omega arith

------------------------------------------------------------------------
-- the ranks of the cells that leave

departure-of : (ports : ℕ) (out : List Waiting) (c : Cell) → Memᴰ (some c) (departures_of ports out)
    → (e : Waiting) × Memᴰ e out × (e.cell ≡ c)
unfolding departures_of
departure-of ports out c i =
    let w = Memᴰ.of_map
    (λ o. Option.map (λ e. e.cell) (first? (keep (λ e. eqb e.cell.output o) out))) (up_to ports) i in
    go (λ e. eqb e.cell.output w.0) w.2
  where
    go : (t : Waiting → Bool) → Option.map (λ e. e.cell) (first? (keep t out)) ≡ some c
        → (e : Waiting) × Memᴰ e out × (e.cell ≡ c)
    go t q = by (first? (keep t out)) refl q
      where
        by : (o : Option Waiting) → first? (keep t out) ≡ o → Option.map (λ e. e.cell) o ≡ some c
            → (e : Waiting) × Memᴰ e out × (e.cell ≡ c)
        by none f q = absurd (none-ne-some c q)
        by (some e) f q = (
          e,
          mem-keep-in t out (first-mem (keep t out) e f),
          some-injective e.cell c q,
        )

-- where the sections are sound, as they are before the departures of a slot
pub departures-fit : (ports clock : ℕ) (sections : List (List Entry)) → sound_sections ports clock 0 sections ≡ true
    → (c : Cell) → Memᴰ (some c) (departures_of ports (leaving ports (waiting sections)))
    → fits32 c.rank ≡ true
departures-fit ports clock sections h c i =
    let w = departure-of ports (leaving ports (waiting sections)) c i in
    let st = mem-waiting sections (leaving-in ports (waiting sections) w.1) in
    ap (λ d. fits32 d.rank) (sym w.2)
    ∙ ((sound-section ports clock sections h st.input).entries (entry_of w.0) (stands-entry sections w.0 st)).rank
