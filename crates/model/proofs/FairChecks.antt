-- The checks of a slot's records where some outputs are fair, by the checks 4 to 8 of the cells that they become.
--     fault-empty-none, fault-empty-some   4, 5 and 6 look at no waiting cell
--     records-rankable, made-fit           records without a fault can be ranked, and fit with the ranks made
--     clear-record, record-clear           records that can be ranked are checked as the cells that they become
--     few-fair, fair-first                 there are no more of them than ports, and the first seventeen tell
--     fair-called                          a slot call is refused, or runs with the records with the ranks made
--     slot-not-broken                      refusal 2 never comes where the arrivals are whole records
--     slot-rankable, slot-made             such a slot is that of the switch below on records with the ranks made
--     unmarked                             with no output fair, every rank stands and nothing is remembered
use Prim.Native.Nat.{ℕ, ◌+◌, ◌≤◌, ◌^◌}
use native.Mathlib.Omega.{arith}
use native.Mathlib.Nat.{zero-div}
use mathlib.Core.Bool.{Bool, true, false, not}
use mathlib.Core.Path.{◌≡◌, refl, sym, ◌∙◌, ap, ap₂, subst}
use mathlib.Core.List.{List, [], ◌∷◌, ◌++◌, map, map-map}
use mathlib.Core.Option.{Option, none, some, some-ne-none, none-ne-some, some-injective}
use borrow.Author.Tests.{not-true, not-false}
use lib.Dec.{eqb}
use lib.ListN.{length, take, drop, length-map, take-append-drop}
use lib.Seq.{length-take-le}
use Rattle.laws.specs.Lists.{some?, all?, count}
use Rattle.laws.proofs.Lists.{all?-nil, all?-cons, all?-e, all?-i, all?-map}
use Rattle.laws.proofs.Tests.{and_i, and_l, and_r}
use Rattle.cell.specs.declared.Arrival.{Arrival}
use Rattle.cell.specs.declared.Cell.{Cell}
use Rattle.cell.specs.declared.Refusal.{Refusal}
use Rattle.cell.specs.declared.Refusal.TheVariants.{BrokenTable, ClockEnd, BadWeight, RankEnd}
use Rattle.cell.specs.Cell.{accepted, arrival_fits}
use Rattle.cell.specs.Limits.{port_limit, clock_end, fits32}
use Rattle.cell.specs.Refusal.{number}
use Rattle.model.specs.State.{Switch, cells}
use Rattle.model.specs.Checks.{Outcome, done, refused, no_such_port, no_such_flow, out_of_turn, falling_rank, full}
use Rattle.model.specs.Checks.{fault, fault_from, first_fault}
use Rattle.model.specs.Crossbar.{Course, run, slot}
use Rattle.model.specs.Oq.{run_oq, slot_oq}
use Rattle.model.specs.Pifo.{Pifo, queued, run_pifo, slot_pifo}
use Rattle.model.specs.Fair.{Memory, is_fair, made_rank, make, bad_weight, rank_end, record_fault, record_fault_from}
use Rattle.model.specs.Fair.{given_after, left_after, remembered, Fair, slot_of, fair_slot, fair_slot_pifo, fair_slot_oq}
use Rattle.model.specs.CodeFair.{rankable}
use Rattle.model.proofs.Admitted.{faultless, few-records}
use Rattle.model.proofs.CheckOrder.{faults-first, faults-next, fault-above}

------------------------------------------------------------------------
-- 4, 5 and 6 alone

module _ (ports : ℕ) (before : Option Cell) (c : Cell) where
  pub fault-empty-none : fault ports [] before c ≡ none
      → (no_such_port ports c ≡ false) × (no_such_flow c ≡ false) × (out_of_turn before c ≡ false)
  fault-empty-none h = let w = faultless ports [] before c h in (w.port, w.flow, w.turn)

  pub fault-empty-clear : no_such_port ports c ≡ false → no_such_flow c ≡ false → out_of_turn before c ≡ false
      → fault ports [] before c ≡ none
  unfolding fault falling_rank full some? count
  fault-empty-clear p f t = rw (p, f, t)

  pub fault-empty-some : {r : Refusal} → fault ports [] before c ≡ some r → (waiting : List Cell)
      → fault ports waiting before c ≡ some r
  unfolding fault
  fault-empty-some {r} h waiting = go (no_such_port ports c) refl (no_such_flow c) refl (out_of_turn before c) refl
    where
      go : (p : Bool) → no_such_port ports c ≡ p → (f : Bool) → no_such_flow c ≡ f → (t : Bool) → out_of_turn before c ≡ t
          → fault ports waiting before c ≡ some r
      go true p f f' t t' = rw p (rw p at h)
      go false p true f t t' = rw (p, f) (rw (p, f) at h)
      go false p false f true t = rw (p, f, t) (rw (p, f, t) at h)
      go false p false f false t = absurd (some-ne-none r (sym h ∙ fault-empty-clear p f t))

------------------------------------------------------------------------
-- records that can be ranked

-- the cells that the records of a slot would become
abbrev pub becoming : ℕ → Memory → List Arrival → List Cell
becoming clock m records = map (λ a. accepted clock (make m a)) records

pub becoming-made : (clock : ℕ) (m : Memory) (records : List Arrival)
    → map (accepted clock) (map (make m) records) ≡ becoming clock m records
becoming-made clock m records = map-map (accepted clock) (make m) records

module _ (m : Memory) (a : Arrival) where
  pub rankable-weight : rankable m a ≡ true → bad_weight m a ≡ false
  unfolding rankable
  rankable-weight h = not-true (bad_weight m a) (and_l (not (bad_weight m a)) (not (rank_end m a)) h)

  pub rankable-end : rankable m a ≡ true → rank_end m a ≡ false
  unfolding rankable
  rankable-end h = not-true (rank_end m a) (and_r (not (bad_weight m a)) (not (rank_end m a)) h)

  pub rankable-i : bad_weight m a ≡ false → rank_end m a ≡ false → rankable m a ≡ true
  unfolding rankable
  rankable-i w e = rw (w, e)

  -- where the output is not fair the rank stands
  pub plain-rank : is_fair m a.output ≡ false → made_rank m a ≡ a.rank
  unfolding made_rank
  plain-rank e = rw e

  -- the rank made fits
  pub rank-fits : fits32 a.rank ≡ true → rankable m a ≡ true → fits32 (made_rank m a) ≡ true
  unfolding rank_end
  rank-fits f h = go (is_fair m a.output) refl (rankable-end h)
    where
      go : (b : Bool) → is_fair m a.output ≡ b → rank_end m a ≡ false → fits32 (made_rank m a) ≡ true
      go true e k = not-false (fits32 (made_rank m a)) (rw e at k)
      go false e k = rw (plain-rank e) f

  pub make-fits : arrival_fits a ≡ true → rankable m a ≡ true → arrival_fits (make m a) ≡ true
  unfolding arrival_fits make
  make-fits f h =
      let r : fits32 a.rank ≡ true = search (and_l, and_r) depth 9 in
      let i : fits32 a.input ≡ true = search (and_l, and_r) depth 9 in
      let o : fits32 a.output ≡ true = search (and_l, and_r) depth 9 in
      let w : fits32 a.flow ≡ true = search (and_l, and_r) depth 9 in
      let t : fits32 a.tag ≡ true = search (and_l, and_r) depth 9 in
      rw (i, o, w, rank-fits r h, t)

pub made-fit : (m : Memory) (records : List Arrival) → all? (rankable m) records ≡ true
    → all? arrival_fits records ≡ true → all? arrival_fits (map (make m) records) ≡ true
made-fit m records h f =
    all?-map arrival_fits (make m) records
    ∙ all?-i (λ a. arrival_fits (make m a)) records
    (λ a i. make-fits m a (all?-e arrival_fits f i) (all?-e (rankable m) h i))

------------------------------------------------------------------------
-- the faults of records

module _ (ports clock : ℕ) (waiting : List Cell) (m : Memory) where
  -- one record: its rank can be made where it has no fault
  record-rankable : (before : Option Cell) (a : Arrival) → record_fault ports clock waiting m before a ≡ none
      → rankable m a ≡ true
  unfolding record_fault
  record-rankable before a =
      go (fault ports [] before (accepted clock (make m a))) refl (bad_weight m a) refl (rank_end m a) refl
    where
      go : (o : Option Refusal) → fault ports [] before (accepted clock (make m a)) ≡ o
          → (w : Bool) → bad_weight m a ≡ w → (d : Bool) → rank_end m a ≡ d
          → record_fault ports clock waiting m before a ≡ none → rankable m a ≡ true
      go (some r) e w p d q h = absurd (some-ne-none r (rw (e, record_fault) at h))
      go none e true p d q h = absurd (some-ne-none BadWeight (rw (e, p, record_fault) at h))
      go none e false p true q h = absurd (some-ne-none RankEnd (rw (e, p, q, record_fault) at h))
      go none e false p false q h = rankable-i m a p q

  -- and where it can be made, the checks are 4 to 8 of the cell
  record-fault : (before : Option Cell) (a : Arrival) → rankable m a ≡ true
      → record_fault ports clock waiting m before a ≡ fault ports waiting before (accepted clock (make m a))
  unfolding record_fault
  record-fault before a h = go (fault ports [] before (accepted clock (make m a))) refl
    where
      go : (o : Option Refusal) → fault ports [] before (accepted clock (make m a)) ≡ o
          → record_fault ports clock waiting m before a ≡ fault ports waiting before (accepted clock (make m a))
      go (some r) e =
          rw (e, record_fault) (sym (fault-empty-some ports before (accepted clock (make m a)) e waiting))
      go none e = rw (e, rankable-weight m a h, rankable-end m a h, record_fault)

  pub records-first : (place : ℕ) (before : Option Cell) (a : Arrival) (records : List Arrival) {r : Refusal}
      → record_fault ports clock waiting m before a ≡ some r
      → record_fault_from ports clock waiting m place before (a ∷ records) ≡ some (r, place)
  unfolding record_fault_from
  records-first place before a records h = rw (h, record_fault_from)

  pub records-next : (place : ℕ) (before : Option Cell) (a : Arrival) (records : List Arrival)
      → record_fault ports clock waiting m before a ≡ none
      → record_fault_from ports clock waiting m place before (a ∷ records)
      ≡ record_fault_from ports clock waiting m (place + 1) (some (accepted clock (make m a))) records
  unfolding record_fault_from
  records-next place before a records h = rw (h, record_fault_from)

  -- a record is refused with 4 or more
  record-above : (before : Option Cell) (a : Arrival) (r : Refusal)
      → record_fault ports clock waiting m before a ≡ some r → 4 ≤ number r
  unfolding record_fault
  record-above before a r =
      go (fault ports [] before c) refl (bad_weight m a) refl (rank_end m a) refl
    where
      c : Cell
      c = accepted clock (make m a)

      by : (x : Refusal) → 4 ≤ number x → some x ≡ some r → 4 ≤ number r
      by x h e = subst (λ y. 4 ≤ number y) (some-injective x r e) h

      go : (o : Option Refusal) → fault ports [] before c ≡ o → (w : Bool) → bad_weight m a ≡ w
          → (d : Bool) → rank_end m a ≡ d → record_fault ports clock waiting m before a ≡ some r → 4 ≤ number r
      go (some q) e w p d k h = by q (fault-above ports [] before c q e) (rw (e, record_fault) at h)
      go none e true p d k h = by BadWeight (omega arith) (rw (e, p, record_fault) at h)
      go none e false p true k h = by RankEnd (omega arith) (rw (e, p, k, record_fault) at h)
      go none e false p false k h = fault-above ports waiting before c r (rw (e, p, k, record_fault) at h)

  records-above : (place : ℕ) (before : Option Cell) (records : List Arrival) (f : Refusal × ℕ)
      → record_fault_from ports clock waiting m place before records ≡ some f → 4 ≤ number f.0
  unfolding record_fault_from
  records-above place before [] f e = absurd (none-ne-some f e)
  records-above place before (a ∷ records) f e =
      go (record_fault ports clock waiting m before a) refl
      (records-above (place + 1) (some (accepted clock (make m a))) records f)
    where
      go : (o : Option Refusal) → record_fault ports clock waiting m before a ≡ o
          → (record_fault_from ports clock waiting m (place + 1) (some (accepted clock (make m a))) records ≡ some f
          → 4 ≤ number f.0)
          → 4 ≤ number f.0
      go (some r) q later =
          subst (λ x. 4 ≤ number x.0)
          (some-injective (r, place) f (sym (records-first place before a records q) ∙ e))
          (record-above before a r q)
      go none q later = later (sym (records-next place before a records q) ∙ e)

  -- records without a fault can be ranked
  pub records-rankable : (place : ℕ) (before : Option Cell) (records : List Arrival)
      → record_fault_from ports clock waiting m place before records ≡ none → all? (rankable m) records ≡ true
  records-rankable place before [] h = all?-nil (rankable m)
  records-rankable place before (a ∷ records) h =
      go (record_fault ports clock waiting m before a) refl
      (records-rankable (place + 1) (some (accepted clock (make m a))) records)
    where
      go : (o : Option Refusal) → record_fault ports clock waiting m before a ≡ o
          → (record_fault_from ports clock waiting m (place + 1) (some (accepted clock (make m a))) records ≡ none
          → all? (rankable m) records ≡ true)
          → all? (rankable m) (a ∷ records) ≡ true
      go (some r) e later =
          absurd (some-ne-none (r, place) (sym (records-first place before a records e) ∙ h))
      go none e later =
          all?-cons (rankable m) a records
          ∙ and_i (rankable m a) (all? (rankable m) records) (record-rankable before a e)
          (later (sym (records-next place before a records e) ∙ h))

  -- records that can be ranked are refused as the cells that they become, with the same refusal and place
  pub clear-record : (place : ℕ) (before : Option Cell) (records : List Arrival) → all? (rankable m) records ≡ true
      → record_fault_from ports clock waiting m place before records
      ≡ fault_from ports waiting place before (becoming clock m records)
  unfolding record_fault_from fault_from
  clear-record place before [] h = refl
  clear-record place before (a ∷ records) h =
      let both = rw (all?-cons (rankable m) a records) at h in
      go (fault ports waiting before (accepted clock (make m a))) refl
      (record-fault before a (and_l (rankable m a) (all? (rankable m) records) both))
      (clear-record (place + 1) (some (accepted clock (make m a))) records
      (and_r (rankable m a) (all? (rankable m) records) both))
    where
      go : (o : Option Refusal) → fault ports waiting before (accepted clock (make m a)) ≡ o
          → record_fault ports clock waiting m before a ≡ fault ports waiting before (accepted clock (make m a))
          → record_fault_from ports clock waiting m (place + 1) (some (accepted clock (make m a))) records
          ≡ fault_from ports waiting (place + 1) (some (accepted clock (make m a))) (becoming clock m records)
          → record_fault_from ports clock waiting m place before (a ∷ records)
          ≡ fault_from ports waiting place before (becoming clock m (a ∷ records))
      go (some r) e same later =
          records-first place before a records (same ∙ e)
          ∙ sym (faults-first ports waiting place before (accepted clock (make m a)) (becoming clock m records) e)
      go none e same later =
          records-next place before a records (same ∙ e)
          ∙ later
          ∙ sym (faults-next ports waiting place before (accepted clock (make m a)) (becoming clock m records) e)

  pub record-clear : (place : ℕ) (before : Option Cell) (records : List Arrival)
      → record_fault_from ports clock waiting m place before records ≡ none
      → fault_from ports waiting place before (becoming clock m records) ≡ none
  record-clear place before records h =
      sym (clear-record place before records (records-rankable place before records h)) ∙ h

  pub record-clear-first : (records : List Arrival) → record_fault_from ports clock waiting m 1 none records ≡ none
      → first_fault ports waiting (becoming clock m records) ≡ none
  unfolding first_fault
  record-clear-first records h = record-clear 1 none records h

  -- no more records without a fault than ports
  pub few-fair : (records : List Arrival) → record_fault_from ports clock waiting m 1 none records ≡ none
      → length records ≤ ports
  few-fair records h =
      let few = few-records ports waiting (becoming clock m records) (record-clear-first records h) in
      omega (arith, length-map records (λ a. accepted clock (make m a)))

  -- a fault stays the first one with more records behind it
  fair-front : (place : ℕ) (before : Option Cell) (records more : List Arrival) (f : Refusal × ℕ)
      → record_fault_from ports clock waiting m place before records ≡ some f
      → record_fault_from ports clock waiting m place before (records ++ more) ≡ some f
  unfolding record_fault_from
  fair-front place before [] more f e = absurd (some-ne-none f (sym e))
  fair-front place before (a ∷ records) more f e =
      go (record_fault ports clock waiting m before a) refl
      (fair-front (place + 1) (some (accepted clock (make m a))) records more f)
    where
      go : (o : Option Refusal) → record_fault ports clock waiting m before a ≡ o
          → (record_fault_from ports clock waiting m (place + 1) (some (accepted clock (make m a))) records ≡ some f
          → record_fault_from ports clock waiting m (place + 1) (some (accepted clock (make m a))) (records ++ more)
          ≡ some f)
          → record_fault_from ports clock waiting m place before (a ∷ (records ++ more)) ≡ some f
      go (some r) q again =
          records-first place before a (records ++ more) q ∙ sym (records-first place before a records q) ∙ e
      go none q again =
          records-next place before a (records ++ more) q ∙ again (sym (records-next place before a records q) ∙ e)

  -- so the first seventeen tell
  pub fair-first : ports ≤ port_limit → (records : List Arrival) → 17 ≤ length records
      → (f : Refusal × ℕ)
      × (record_fault_from ports clock waiting m 1 none (take 17 records) ≡ some f)
      × (record_fault_from ports clock waiting m 1 none records ≡ some f)
  fair-first p records many = go (record_fault_from ports clock waiting m 1 none (take 17 records)) refl
    where
      go : (o : Option (Refusal × ℕ)) → record_fault_from ports clock waiting m 1 none (take 17 records) ≡ o
          → (f : Refusal × ℕ)
          × (record_fault_from ports clock waiting m 1 none (take 17 records) ≡ some f)
          × (record_fault_from ports clock waiting m 1 none records ≡ some f)
      go none q = absurd (omega (arith, length-take-le 17 records many, few-fair (take 17 records) q))
      go (some f) q = (
        f,
        q,
        ap (record_fault_from ports clock waiting m 1 none) (sym (take-append-drop 17 records))
            ∙ fair-front 1 none (take 17 records) (drop 17 records) f q,
      )

------------------------------------------------------------------------
-- a slot

-- what a slot comes to, by the clock's end and the first fault of a record
abbrev by_checks : {A : Type 0} → Bool → Option (Refusal × ℕ) → A → Outcome A
by_checks b o a =
    elim b [
      | true ↦ refused ClockEnd 0
      | false ↦ elim o [ some f ↦ refused f.0 f.1 | none ↦ done a ]
    ]

module _ {S R : Type 0} (ports clock : S → ℕ) (waiting : S → List Cell) (runs : S → List Cell → R) where
  -- the slot of a switch whose ranks stand, in one text for the three
  abbrev slot_below : S → List Arrival → Outcome R
  slot_below s records =
      by_checks (eqb (clock s) clock_end) (first_fault (ports s) (waiting s) (map (accepted (clock s)) records))
      (runs s (map (accepted (clock s)) records))

  module _ (x : Fair S) (records : List Arrival) where
    pub fair-end : eqb (clock x.core) clock_end ≡ true
        → slot_of ports clock waiting runs x (some records) ≡ refused ClockEnd 0
    unfolding slot_of
    fair-end h = rw (h, slot_of)

    pub fair-fault : eqb (clock x.core) clock_end ≡ false → (f : Refusal × ℕ)
        → record_fault_from (ports x.core) (clock x.core) (waiting x.core) x.memory 1 none records ≡ some f
        → slot_of ports clock waiting runs x (some records) ≡ refused f.0 f.1
    unfolding slot_of
    fair-fault h f k = rw (h, k, slot_of)

    pub fair-runs : eqb (clock x.core) clock_end ≡ false
        → record_fault_from (ports x.core) (clock x.core) (waiting x.core) x.memory 1 none records ≡ none
        → slot_of ports clock waiting runs x (some records)
        ≡ done (runs x.core (becoming (clock x.core) x.memory records))
    unfolding slot_of
    fair-runs h k = rw (h, k, slot_of)

    -- an accepted slot runs with the records with the ranks made; any other is refused
    pub data FairCalled : Type 0 where
      fair-run : eqb (clock x.core) clock_end ≡ false
          → record_fault_from (ports x.core) (clock x.core) (waiting x.core) x.memory 1 none records ≡ none
          → slot_of ports clock waiting runs x (some records)
          ≡ done (runs x.core (map (accepted (clock x.core)) (map (make x.memory) records)))
          → FairCalled
      fair-refusal : (r : Refusal) (place : ℕ) → slot_of ports clock waiting runs x (some records) ≡ refused r place
          → FairCalled

    pub fair-called : FairCalled
    fair-called =
        go (eqb (clock s) clock_end) refl
        (record_fault_from (ports s) (clock s) (waiting s) x.memory 1 none records) refl
      where
        s : S
        s = x.core

        go : (b : Bool) → eqb (clock x.core) clock_end ≡ b → (o : Option (Refusal × ℕ))
            → record_fault_from (ports x.core) (clock x.core) (waiting x.core) x.memory 1 none records ≡ o
            → FairCalled
        go true e o q = fair-refusal ClockEnd 0 (fair-end e)
        go false e (some f) q = fair-refusal f.0 f.1 (fair-fault e f q)
        go false e none q =
            fair-run e q
            (fair-runs e q
            ∙ ap (λ cs. done (runs x.core cs)) (sym (becoming-made (clock x.core) x.memory records)))

    -- of records that can be ranked, the slot below on records with the ranks made
    slot-below : all? (rankable x.memory) records ≡ true
        → slot_of ports clock waiting runs x (some records) ≡ slot_below x.core (map (make x.memory) records)
    unfolding slot_of first_fault
    slot-below h =
        let s = x.core in
        let m = x.memory in
        let e = eqb (clock s) clock_end in
        let made = sym (becoming-made (clock s) m records) in
        ap (λ o. by_checks e o (runs s (becoming (clock s) m records)))
        (clear-record (ports s) (clock s) (waiting s) m 1 none records h)
        ∙ ap (λ cs. by_checks e (first_fault (ports s) (waiting s) cs) (runs s cs)) made

-- a slot whose arrivals are whole records is never refused with 2
pub slot-not-broken : (x : Fair Switch) (records : List Arrival) (place : ℕ)
    → fair_slot x (some records) ≡ refused BrokenTable place → ⊥
slot-not-broken x records place h =
    go (eqb x.core.clock clock_end) refl
    (record_fault_from x.core.ports x.core.clock (cells x.core) x.memory 1 none records) refl
  where
    go : (b : Bool) → eqb x.core.clock clock_end ≡ b → (o : Option (Refusal × ℕ))
        → record_fault_from x.core.ports x.core.clock (cells x.core) x.memory 1 none records ≡ o → ⊥
    go true e o q =
        let z : ◌≡◌ {A = Outcome Course} (refused ClockEnd 0) (refused BrokenTable place) =
        sym (fair-end (λ s. s.ports) (λ s. s.clock) cells run x records e) ∙ h in
        let y : ◌≡◌ {A = ℕ} 0 1 = cc in
        omega arith
    go false e (some f) q =
        let z : ◌≡◌ {A = Outcome Course} (refused f.0 f.1) (refused BrokenTable place) =
        sym (fair-fault (λ s. s.ports) (λ s. s.clock) cells run x records e f q) ∙ h in
        let y : f.0 ≡ BrokenTable = cc in
        let k : 4 ≤ number BrokenTable =
        subst (λ r. 4 ≤ number r) y
        (records-above x.core.ports x.core.clock (cells x.core) x.memory 1 none records f q) in
        omega arith
    go false e none q =
        let z : done (run x.core (becoming x.core.clock x.memory records)) ≡ refused BrokenTable place =
        sym (fair-runs (λ s. s.ports) (λ s. s.clock) cells run x records e q) ∙ h in
        let y : ◌≡◌ {A = ℕ} 0 1 = cc in
        omega arith

module _ (x : Fair Switch) (records : List Arrival) where
  pub slot-rankable : all? (rankable x.memory) records ≡ true
      → fair_slot x (some records) ≡ slot x.core (some (map (make x.memory) records))
  unfolding slot
  slot-rankable h = slot-below (λ s. s.ports) (λ s. s.clock) cells run x records h

  pub slot-rankable-oq : all? (rankable x.memory) records ≡ true
      → fair_slot_oq x (some records) ≡ slot_oq x.core (some (map (make x.memory) records))
  unfolding slot_oq
  slot-rankable-oq h = slot-below (λ s. s.ports) (λ s. s.clock) cells run_oq x records h

pub slot-rankable-pifo : (x : Fair Pifo) (records : List Arrival) → all? (rankable x.memory) records ≡ true
    → fair_slot_pifo x (some records) ≡ slot_pifo x.core (some (map (make x.memory) records))
unfolding slot_pifo
slot-rankable-pifo x records h = slot-below (λ s. s.ports) (λ s. s.clock) queued run_pifo x records h

-- without a fault: the slot below, which runs
module _ (x : Fair Switch) (records : List Arrival)
    (clear : record_fault_from x.core.ports x.core.clock (cells x.core) x.memory 1 none records
    ≡ none) where
  can : all? (rankable x.memory) records ≡ true
  can = records-rankable x.core.ports x.core.clock (cells x.core) x.memory 1 none records clear

  pub slot-made : fair_slot x (some records) ≡ slot x.core (some (map (make x.memory) records))
  slot-made = slot-rankable x records can

  pub slot-made-oq : fair_slot_oq x (some records) ≡ slot_oq x.core (some (map (make x.memory) records))
  slot-made-oq = slot-rankable-oq x records can

------------------------------------------------------------------------
-- no output is fair

module _ (m : Memory) (none-fair : m.fair ≡ 0) where
  pub unmarked-fair : (o : ℕ) → is_fair m o ≡ false
  unfolding is_fair
  unmarked-fair o = rw (none-fair, zero-div (2 ^ o))

  pub unmarked-make : (a : Arrival) → make m a ≡ a
  unfolding make
  unmarked-make a = rw (plain-rank m a (unmarked-fair a.output))

  unmarked-rankable : (a : Arrival) → rankable m a ≡ true
  unfolding rankable bad_weight rank_end
  unmarked-rankable a = rw (unmarked-fair a.output)

  unmarked-all : (records : List Arrival) → all? (rankable m) records ≡ true
  unmarked-all records = all?-i (rankable m) records (λ a i. unmarked-rankable a)

  pub unmarked-records : (records : List Arrival) → map (make m) records ≡ records
  unmarked-records [] = refl
  unmarked-records (a ∷ records) = ap₂ (λ b l. b ∷ l) (unmarked-make a) (unmarked-records records)

  unmarked-given : (records : List Arrival) (given : List ℕ) → given_after m records given ≡ given
  unfolding given_after
  unmarked-given [] given = refl
  unmarked-given (a ∷ records) given = rw (unmarked-fair a.output) (unmarked-given records given)

  unmarked-left : (o : ℕ) (ds : List (Option Cell)) (left : List ℕ) → left_after m o ds left ≡ left
  unfolding left_after
  unmarked-left o [] left = refl
  unmarked-left o (none ∷ ds) left = unmarked-left (o + 1) ds left
  unmarked-left o (some c ∷ ds) left = rw (unmarked-fair o) (unmarked-left (o + 1) ds left)

  pub unmarked-remembered : (records : List Arrival) (ds : List (Option Cell)) → remembered m records ds ≡ m
  unfolding remembered
  unmarked-remembered records ds = rw (unmarked-given records m.given, unmarked-left 0 ds m.left)

pub unmarked-slot : (x : Fair Switch) → x.memory.fair ≡ 0 → (a : Option (List Arrival))
    → fair_slot x a ≡ slot x.core a
unfolding slot_of slot
unmarked-slot x h none = refl
unmarked-slot x h (some records) =
    slot-rankable x records (unmarked-all x.memory h records)
    ∙ ap (λ l. slot x.core (some l)) (unmarked-records x.memory h records)

pub unmarked-slot-oq : (x : Fair Switch) → x.memory.fair ≡ 0 → (a : Option (List Arrival))
    → fair_slot_oq x a ≡ slot_oq x.core a
unfolding slot_of slot_oq
unmarked-slot-oq x h none = refl
unmarked-slot-oq x h (some records) =
    slot-rankable-oq x records (unmarked-all x.memory h records)
    ∙ ap (λ l. slot_oq x.core (some l)) (unmarked-records x.memory h records)

pub unmarked-slot-pifo : (x : Fair Pifo) → x.memory.fair ≡ 0 → (a : Option (List Arrival))
    → fair_slot_pifo x a ≡ slot_pifo x.core a
unfolding slot_of slot_pifo
unmarked-slot-pifo x h none = refl
unmarked-slot-pifo x h (some records) =
    slot-rankable-pifo x records (unmarked-all x.memory h records)
    ∙ ap (λ l. slot_pifo x.core (some l)) (unmarked-records x.memory h records)
