-- The records of a slot come one by one.
--     fault_from-take, arrive-append     the first n records, and one after the other
--     no-fault, after-sound             the first n have no fault, and the switch when they have come is sound
--     clock-raised                      the table with the clock of the next slot
--     arriving                          the records may come where no fault is found
--     Came                              the first n have come
--     came-none, came-may, came-next, came-all     none have, the next one may, it has, all have
use Prim.Native.Nat.{ℕ, zero, suc, ◌+◌, ◌-◌, ◌≤◌, ◌<◌}
use mathlib.Core.Bool.{Bool, true}
use mathlib.Core.Path.{◌≡◌, refl, sym, ◌∙◌, ap, ap₂, subst}
use mathlib.Core.Logic.{◌≢◌}
use mathlib.Core.List.Memᴰ
use mathlib.Core.List.{List, [], ◌∷◌, ◌++◌, map, Memᴰ}
use mathlib.Core.Option.{Option, none, some, some-ne-none}
use native.Mathlib.Numerals.{add-one}
use native.Mathlib.Omega.{arith}
use borrow.Author.Tests.{ltb-true, leb-true, eqb-false}
use lib.Dec.{ltb}
use lib.ListN.{length, take, drop, get_or, length-map, take-append-drop, get_or-map}
use lib.Seq.{take-suc, take_all, split_at}
use Rattle.laws.specs.Lists.{all?, pairwise, update}
use Rattle.laws.proofs.Tests.{and_i}
use Rattle.laws.proofs.Lists.{get_or-mem, all?-append}
use Rattle.laws.proofs.Pairwise.{pairwise-append-l, pairwise-split}
use Rattle.cell.specs.Checked.{no_fault}
use Rattle.cell.specs.declared.Arrival.{Arrival}
use Rattle.cell.specs.declared.Cell.{Cell}
use Rattle.cell.specs.declared.Refusal.{Refusal}
use Rattle.cell.specs.Cell.{accepted, arrival_fits}
use Rattle.cell.specs.Limits.{section_room, port_limit, flow_limit, clock_end, fits32}
use Rattle.model.specs.State.{Entry, Switch, cells}
use Rattle.model.specs.Checks.{fault, fault_from, first_fault}
use Rattle.model.specs.Crossbar.{enter, arrive}
use Rattle.model.specs.Sound.{sound}
use Rattle.model.proofs.Admitted.{Admitted}
use Rattle.model.proofs.CheckOrder.{faults-first, faults-next}
use Rattle.model.proofs.SoundArrival.{Arrived, kept, entered as one-came, arrive-at, length-arrive}
use Rattle.model.proofs.SoundArrival.{arrival-admitted, arrival-room, arrival-sound}
use Rattle.model.proofs.SoundLaws.{SoundTable, sound-e, sound-i}
use Rattle.layout.specs.Entry.{clock_in, count_in}
use Rattle.layout.specs.Number.{bytes_of}
use Rattle.layout.specs.Table.{state_of, encode, decode, IsTable}
use Rattle.layout.proofs.Number.{below-fits32}
use Rattle.layout.proofs.Table.{state_of-encode, decode-encode, sound-clock, sound-ports}
use Rattle.layout.specs.Code.{ports_in}
use Rattle.slot_arrival.specs.CodeArrival.{raised, entered, arrived, Arriving, MayEnter}
use Rattle.slot_view.proofs.Placed.{decode-ports, decode-count}
use Rattle.slot_faults.specs.CodeFault.{coming, fault_in}
use Rattle.slot_faults.proofs.Records.{coming-take}
use Rattle.slot_faults.proofs.Slots.{fault-clear}
use Rattle.slot_faults.proofs.Stored.{table-sound, table-encode, table-clock, table-ports, sections-number}

------------------------------------------------------------------------
-- the first n

-- no fault in them where there is none in all
fault_from-take : (ports : ℕ) (waiting : List Cell) (place : ℕ) (before : Option Cell) (n : ℕ) (cs : List Cell)
    → fault_from ports waiting place before cs ≡ none → fault_from ports waiting place before (take n cs) ≡ none
unfolding fault_from
fault_from-take ports waiting place before zero cs h = refl
fault_from-take ports waiting place before (suc n) [] h = refl
fault_from-take ports waiting place before (suc n) (c ∷ cs) h =
    go (fault ports waiting before c) refl (fault_from-take ports waiting (place + 1) (some c) n cs)
  where
    go : (o : Option Refusal) → fault ports waiting before c ≡ o
        → (fault_from ports waiting (place + 1) (some c) cs ≡ none
        → fault_from ports waiting (place + 1) (some c) (take n cs) ≡ none)
        → fault_from ports waiting place before (c ∷ take n cs) ≡ none
    go none e rec =
        faults-next ports waiting place before c (take n cs) e
        ∙ rec (sym (faults-next ports waiting place before c cs e) ∙ h)
    go (some r) e rec =
        absurd (some-ne-none (r, place) (sym (faults-first ports waiting place before c cs e) ∙ h))

arrive-append : (cs ds : List Cell) (sections : List (List Entry))
    → arrive (cs ++ ds) sections ≡ arrive ds (arrive cs sections)
unfolding arrive
arrive-append [] ds sections = refl
arrive-append (c ∷ cs) ds sections = arrive-append cs ds (update c.input (enter c) sections)

-- one more
entered-last : (s : Switch) (a : Arrival) (records : List Arrival)
    → entered (accepted s.clock a) (arrived s records) ≡ arrived s (records ++ (a ∷ []))
unfolding entered arrived coming arrive
entered-last s a records =
    λ k.
    record {
      ports = s.ports;
      clock = s.clock + 1;
      sections =
          sym (ap (λ cs. arrive cs s.sections) (map-append records)
          ∙ arrive-append (map (accepted s.clock) records) (accepted s.clock a ∷ []) s.sections) k;
    }
  where
    map-append : (rs : List Arrival)
        → map (accepted s.clock) (rs ++ (a ∷ [])) ≡ map (accepted s.clock) rs ++ (accepted s.clock a ∷ [])
    map-append [] = refl
    map-append (r ∷ rs) = ap (λ l. accepted s.clock r ∷ l) (map-append rs)

-- the clock is raised
clock-of-next : (s : Switch) → take 8 (encode s) ++ (bytes_of 4 (s.clock + 1) ++ drop 12 (encode s)) ≡ encode (raised s)
unfolding encode bytes_of raised
clock-of-next s = refl

pub clock-raised : (table : List ℕ) → IsTable table → (clock : ℕ) (new : List ℕ) → clock ≡ clock_in table
    → new ≡ take 8 table ++ (bytes_of 4 (clock + 1) ++ drop 12 table) → new ≡ encode (raised (state_of table))
clock-raised table t clock new e w =
    w
    ∙ ap₂ (λ l n. take 8 l ++ (bytes_of 4 (n + 1) ++ drop 12 l))
    (sym (table-encode table t)) (e ∙ sym (table-clock table t))
    ∙ clock-of-next (state_of table)

------------------------------------------------------------------------
-- the slot of a table

-- the records may come where no fault is found
pub arriving : (table : List ℕ) (records : List Arrival) → IsTable table → fault_in (state_of table) records ≡ no_fault
    → Arriving table records
unfolding fits32
arriving table records t clear =
    let told = fault-clear (state_of table) records clear in
    let fits : (state_of table).clock ≤ clock_end = leb-true _ _ (sound-clock (state_of table) (table-sound table t)) in
    let apart : (state_of table).clock ≢ clock_end = eqb-false _ _ told.0 in
    record {
      sound = t;
      early = omega (arith, table-clock table t);
      clear =
          ap (λ p. first_fault p (cells (state_of table)) (coming (state_of table) records)) (sym (table-ports table t))
          ∙ told.1;
    }

-- the first n records have come: the table is that of the switch then, with the clock of the next slot
pub record Came (table : List ℕ) (records : List Arrival) (n : ℕ) (cur : List ℕ) : Type 0 where
  pub holds : cur ≡ encode (arrived (state_of table) (take n records))
  pub fits : all? arrival_fits (take n records) ≡ true

module _ (table : List ℕ) (records : List Arrival) (g : Arriving table records) where
  abbrev s : Switch
  s = state_of table

  abbrev cs : List Cell
  cs = coming s records

  abbrev after : ℕ → Switch
  after n = arrived s (take n records)

  first-cells : (n : ℕ) → take n cs ≡ coming s (take n records)
  first-cells n = coming-take s n records

  clear : first_fault s.ports (cells s) cs ≡ none
  clear = ap (λ p. first_fault p (cells s) cs) (table-ports table g.sound) ∙ g.clear

  pub no-fault : (n : ℕ) → first_fault s.ports (cells s) (coming s (take n records)) ≡ none
  unfolding first_fault
  no-fault n = rw (← first-cells n) (fault_from-take s.ports (cells s) 1 none n cs clear)

  after-sound : (n : ℕ) → all? arrival_fits (take n records) ≡ true → sound (after n) ≡ true
  unfolding arrived coming
  after-sound n fits =
      let w : SoundTable s = sound-e s (table-sound table g.sound) in
      sound-i (after n)
      (record {
        ports = w.ports;
        clock = below-fits32 (s.clock + 1) (omega (arith, table-clock table g.sound, g.early));
        inputs = length-arrive (coming s (take n records)) s.sections ∙ w.inputs;
        sections = arrival-sound s (take n records) (table-sound table g.sound) (no-fault n) fits;
      })

  admit : Admitted s.ports (cells s) cs
  unfolding coming
  admit = arrival-admitted s records (table-sound table g.sound) clear

  pub came-none : (new : List ℕ) → new ≡ encode (raised s) → Came table records 0 new
  unfolding raised arrived coming arrive all?
  came-none new e = record { holds = e; fits = refl }

  module _ (n : ℕ) (cur : List ℕ) (h : Came table records n cur) where
    state : state_of cur ≡ after n
    state = ap state_of h.holds ∙ state_of-encode (after n) (after-sound n h.fits)

    is-table : IsTable cur
    is-table =
        ap decode h.holds ∙ decode-encode (after n) (after-sound n h.fits) ∙ ap some (sym state)

    clock-is : clock_in cur ≡ s.clock + 1
    unfolding arrived
    clock-is = sym (table-clock cur is-table) ∙ ap (λ z. z.clock) state

    pub came-state : IsTable cur × (state_of cur ≡ arrived s (take n records))
    came-state = (is-table, state)

    pub came-all : length records ≤ n → IsTable cur × (state_of cur ≡ arrived s records)
    came-all past = (is-table, state ∙ ap (arrived s) (take_all n records past))

    -- the next one
    module _ (more : n < length records) (d : Arrival) where
      abbrev a : Arrival
      a = get_or records n d

      abbrev c : Cell
      c = accepted s.clock a

      inside : n < length cs
      unfolding coming
      inside = omega (arith, length-map records (accepted s.clock))

      at_n : get_or cs n (accepted s.clock d) ≡ c
      unfolding coming
      at_n = get_or-map (accepted s.clock) records n d

      split : cs ≡ take n cs ++ c ∷ drop (suc n) cs
      split = split_at cs n (accepted s.clock d) inside ∙ ap (λ x. take n cs ++ x ∷ drop (suc n) cs) at_n

      among : Memᴰ c cs
      among = subst (λ x. Memᴰ x cs) at_n (get_or-mem cs n (accepted s.clock d) inside)

      -- its input has had no cell yet
      room-left : length (get_or (arrive (take n cs) s.sections) c.input []) < section_room
      unfolding cells
      room-left =
          go (arrive-at (take n cs) s.sections (λ d m. inputs d (earlier m))
          (pairwise-append-l rises (take n cs) (drop n cs) turns) c.input)
        where
          rises : Cell → Cell → Bool
          rises x y = ltb x.input y.input

          earlier : {d : Cell} → Memᴰ d (take n cs) → Memᴰ d cs
          earlier m = subst (Memᴰ _) (take-append-drop n cs) (Memᴰ.append_left (drop n cs) m)

          inputs : (d : Cell) → Memᴰ d cs → d.input < length s.sections
          inputs d m =
              omega (arith, admit.inputs d m, sections-number table g.sound, table-ports table g.sound)

          turns : pairwise rises (take n cs ++ drop n cs) ≡ true
          turns = rw (take-append-drop n cs) admit.turns

          go : Arrived (take n cs) s.sections c.input
              → length (get_or (arrive (take n cs) s.sections) c.input []) < section_room
          go (kept q) =
              rw q
              (arrival-room s.ports s.clock s.sections (sound-e s (table-sound table g.sound)).sections c
              (admit.rooms c among))
          go (one-came d m q r) =
              absurd (omega (
                arith,
                ltb-true d.input c.input
                    (pairwise-split rises m (Memᴰ.head refl) (rw split at admit.turns)),
              ))

      -- the first n and this one
      taken : take (n + 1) records ≡ take n records ++ (a ∷ [])
      taken = ap (λ k. take k records) (add-one n) ∙ take-suc records n d more

      next-is : entered (accepted (clock_in cur - 1) a) (state_of cur) ≡ after (n + 1)
      next-is =
          let slot : clock_in cur - 1 ≡ s.clock = omega (arith, clock-is) in
          ap₂ (λ k z. entered (accepted k a) z) slot state
          ∙ entered-last s a (take n records)
          ∙ ap (arrived s) (sym taken)

      all_fit : arrival_fits a ≡ true → all? arrival_fits (take (n + 1) records) ≡ true
      unfolding all?
      all_fit fits =
          ap (all? arrival_fits) taken
          ∙ all?-append arrival_fits (take n records) (a ∷ [])
          ∙ and_i _ _ h.fits (and_i _ _ fits refl)

      pub came-next : (new : List ℕ) → arrival_fits a ≡ true
          → new ≡ encode (entered (accepted (clock_in cur - 1) a) (state_of cur)) → Came table records (n + 1) new
      came-next new fits w = record { holds = w ∙ ap encode next-is; fits = all_fit fits }

      pub came-may : MayEnter a cur
      unfolding arrived accepted
      came-may =
          record {
            sound = is-table;
            risen = omega (arith, clock-is);
            input = inside-ports;
            room = room-now;
            output = few-outputs;
            flow = few-flows;
            next = λ fits. ap sound next-is ∙ after-sound (n + 1) (all_fit fits);
          }
        where
          ports : s.ports ≤ port_limit
          ports = sound-ports s (table-sound table g.sound)

          here : decode cur ≡ some (after n)
          here = ap decode h.holds ∙ decode-encode (after n) (after-sound n h.fits)

          inside-ports : a.input < ports_in cur
          inside-ports = rw (decode-ports cur (after n) here) (admit.inputs c among)

          room-now : count_in cur a.input < section_room
          room-now =
              rw (decode-count cur (after n) here a.input (omega (arith, ports, admit.inputs c among)))
              (rw (first-cells n) at room-left)

          few-outputs : a.output < 256
          few-outputs = omega (arith, ports, admit.outputs c among)

          few-flows : a.flow < 256
          few-flows = omega (arith, ltb-true c.flow flow_limit (admit.flows c among))
