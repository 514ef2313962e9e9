-- The checks of a slot's records, on the bytes.
--     port-by-input, port-by-output    4 by the two fields
--     flow-below                       what 5 says of a record that passes
--     turn-after                       6 by the lowest input whose turn it is
--     own-flow                         the flow of an entry of the record's input, by the numbers of the flows
--     outranks-by                      7 of one entry
--     Fallen                           7 by a pass over the section of the record's input
--     full-count                       8 by the count of the record's input
--     fault-none, port-none            all five, and 4 to 6 where no cell waits
--     port-found, -clear, -passed      4 to 6 first, then 7 and 8 by the waiting cells
--     clear-not                        a fault is not `Clear`
use Prim.Native.Nat.{ℕ, zero, suc, ◌+◌, ◌*◌, ◌-◌, ◌/◌, ◌≤◌, ◌<◌}
use mathlib.Core.Bool.{Bool, true, false, cond, not, ◌&&◌, ◌||◌}
use mathlib.Core.Path.{◌≡◌, refl, sym, ◌∙◌, ap, ap₂, subst}
use mathlib.Core.Logic.{◌⊎◌, inl, inr, ◌≢◌}
use mathlib.Core.List.{List, [], ◌∷◌, flatten, Memᴰ}
use mathlib.Core.Option.{Option, none, some}
use native.Mathlib.Nat.{le_refl}
use native.Mathlib.Numerals.{add-one}
use native.Mathlib.Omega.{arith}
use borrow.Author.Count.{below_more}
use borrow.Author.Tests.{ltb-true, leb-true, leb-false, lt-ltb, le-ltb, le-leb, lt-leb, eq-eqb, ne_eqb, not-false}
use lib.Dec.{ltb, leb, eqb}
use lib.ListN.{length, get_or}
use Rattle.laws.specs.Lists.{some?, none?, count}
use Rattle.laws.proofs.Tests.{clash, same, and_i, and_l, or_l, or_cases, or-false-l, or-false-r}
use Rattle.laws.proofs.Lists.{Passing, some?-e, some?-i, some?-false, some?-map, none?-i, all?-i, get_or-mem}
use Rattle.laws.proofs.Count.{count-all, count_map}
use Rattle.cell.specs.Checked.{Checked, no_fault, fault_with}
use Rattle.cell.specs.declared.Cell.{Cell}
use Rattle.cell.specs.declared.Refusal.{Refusal}
use Rattle.cell.specs.declared.Refusal.TheVariants.{NoSuchPort, NoSuchFlow, InputOrder}
use Rattle.cell.specs.Flow.{same_flow}
use Rattle.cell.specs.Limits.{section_room, flow_limit, input_full}
use Rattle.cell.proofs.Flow.{flow-input}
use Rattle.model.specs.State.{Entry, cells}
use Rattle.model.specs.Checks.{no_such_port, no_such_flow, out_of_turn, falling_rank, full, fault}
use Rattle.model.proofs.Admitted.{Faultless, faultless, port-input, port-output}
use Rattle.model.proofs.Bags.{flatten-mem, mem-flatten}
use Rattle.model.proofs.Sections.{count-flatten-one}
use Rattle.layout.specs.Entry.{entry_at, count_in}
use Rattle.layout.specs.Table.{state_of, IsTable}
use Rattle.layout.proofs.Records.{entry_at-input}
use Rattle.layout_table.specs.CodeEntries.{flow_word}
use Rattle.layout_table.proofs.Entries.{flow-word}
use Rattle.layout.specs.Code.{ports_in}
use Rattle.slot_faults.specs.CodeFault.{section_in, InPorts, waiting_fault, fault_at, turn_after, outranks}
use Rattle.slot_faults.proofs.Stored.{section-sound, section-length, section-entry}

------------------------------------------------------------------------
-- 4

-- by the input, and else by the output
pub port-by-input : (ports p : ℕ) (c : Cell) → p ≡ ports → p ≤ c.input → true ≡ no_such_port ports c
unfolding no_such_port
port-by-input ports p c e h =
    sym (or_l (leb ports c.input) (leb ports c.output) (le-leb ports c.input (omega arith)))

pub port-by-output : (ports p : ℕ) (c : Cell) → p ≡ ports → c.input < p → leb p c.output ≡ no_such_port ports c
unfolding no_such_port
port-by-output ports p c e h =
    let inside : leb ports c.input ≡ false = lt-leb ports c.input (omega arith) in
    rw (inside, e)

------------------------------------------------------------------------
-- 5

pub flow-below : (c : Cell) → no_such_flow c ≡ false → c.flow < flow_limit
unfolding no_such_flow
flow-below c h = ltb-true c.flow flow_limit (not-false (ltb c.flow flow_limit) h)

------------------------------------------------------------------------
-- 6

pub turn-after : (before : Option Cell) (c : Cell) → ltb c.input (turn_after before) ≡ out_of_turn before c
unfolding turn_after out_of_turn
turn-after none c = le-ltb c.input 0 (omega arith)
turn-after (some b) c = go (leb c.input b.input) refl
  where
    go : (x : Bool) → leb c.input b.input ≡ x → ltb c.input (b.input + 1) ≡ x
    go true e = lt-ltb c.input (b.input + 1) (omega (arith, leb-true c.input b.input e))
    go false e = le-ltb c.input (b.input + 1) (omega (arith, leb-false c.input b.input e))

------------------------------------------------------------------------
-- 7 and 8 look at one section

module _ {A : Type 0} (p : A → Bool) where
  some?-at : (l : List A) (j : ℕ) (d : A) → j < length l → p (get_or l j d) ≡ true → some? p l ≡ true
  some?-at l j d h e = some?-i p (get_or-mem l j d h) e

  pub none?-at : (l : List A) (d : A) → ((j : ℕ) → j < length l → p (get_or l j d) ≡ false) → none? p l ≡ true
  unfolding none?
  none?-at [] d h = refl
  none?-at (x ∷ l) d h =
      and_i (not (p x)) (none? p l) (ap not (h 0 (omega arith))) (none?-at l d (λ j b. h (suc j) (omega arith)))

  -- where a member that passes can only be in the list at k
  some?-flatten-one : (ls : List (List A)) (k : ℕ) → ((j : ℕ) (x : A) → Memᴰ x (get_or ls j []) → p x ≡ true → j ≡ k)
      → some? p (flatten ls) ≡ some? p (get_or ls k [])
  some?-flatten-one ls k own =
      same (some? p (flatten ls)) (some? p (get_or ls k []))
      (λ s. let w : Passing p (flatten ls) = some?-e p (flatten ls) s in
      let v = mem-flatten ls w.1 in
      some?-i p (subst (λ j. Memᴰ w.0 (get_or ls j [])) (own v.0 w.0 v.2 w.2) v.2) w.2)
      (λ s. let w : Passing p (get_or ls k []) = some?-e p (get_or ls k []) s in
      some?-i p (flatten-mem ls k w.1) w.2)

-- by the numbers of the flows
pub own-flow : (bs : List ℕ) (k : ℕ) (c : Cell) (word flow : ℕ) → k / 64 ≡ c.input → c.output < 256
    → (entry_at bs k).cell.output < 256 → word ≡ flow_word (entry_at bs k).cell → flow ≡ flow_word c
    → eqb word flow ≡ same_flow (entry_at bs k).cell c
own-flow bs k c word flow input hc hd here there =
    ap₂ eqb here there ∙ flow-word (entry_at bs k).cell c (entry_at-input bs k ∙ input) hd hc

-- by the flow and the rank
pub outranks-by : (c d : Cell) (same : Bool) (rank : ℕ) → same ≡ same_flow d c → rank ≡ d.rank
    → (same && ltb c.rank rank) ≡ outranks c d
unfolding outranks
outranks-by c d same rank flow q = ap₂ ◌&&◌ flow (ap (ltb c.rank) q)

-- the entries of the record's section before k are looked at: one outranks the record, or none does
pub record Fallen (bs : List ℕ) (c : Cell) (k : ℕ) (falling : Bool) : Type 0 where
  pub start : section_room * c.input ≤ k
  pub found : falling ≡ true → falling_rank (cells (state_of bs)) c ≡ true
  pub missed : falling ≡ false → (j : ℕ) → j < k → section_room * c.input ≤ j → outranks c (entry_at bs j).cell ≡ false

module _ (bs : List ℕ) (t : IsTable bs) (c : Cell) where
  -- the cells of a flow have one input, and a cell stands in the section of its input
  own-input : (j : ℕ) (e : Entry) → Memᴰ e (section_in bs j) → e.cell.input ≡ j
  own-input j e m = ((section-sound bs t j).entries e m).input

  falling_rank-section : falling_rank (cells (state_of bs)) c ≡ some? (λ e. outranks c e.cell) (section_in bs c.input)
  unfolding falling_rank cells outranks
  falling_rank-section =
      some?-map (outranks c) (λ e. e.cell) (flatten (state_of bs).sections)
      ∙ some?-flatten-one (λ e. outranks c e.cell) (state_of bs).sections c.input
      (λ j e m h. sym (own-input j e m) ∙ flow-input e.cell c (and_l (same_flow e.cell c) _ h))

  module _ (within : c.input < ports_in bs) where
    -- entry k of the section
    entry_of : (k : ℕ) → section_room * c.input ≤ k → k < section_room * c.input + count_in bs c.input
        → (d : Entry) → get_or (section_in bs c.input) (k - section_room * c.input) d ≡ entry_at bs k
    entry_of k a b d =
        let back : 64 * c.input + (k - 64 * c.input) ≡ k = omega arith in
        section-entry bs t c.input within (k - section_room * c.input) d (omega arith) ∙ ap (entry_at bs) back

    -- 7: some entry of the section is of the flow and has a higher rank, or none is
    rank_falls : (k : ℕ) → section_room * c.input ≤ k → k < section_room * c.input + count_in bs c.input
        → outranks c (entry_at bs k).cell ≡ true → falling_rank (cells (state_of bs)) c ≡ true
    rank_falls k a b h =
        falling_rank-section
        ∙ some?-at (λ e. outranks c e.cell) (section_in bs c.input) (k - section_room * c.input) (entry_at bs k)
        (omega (arith, section-length bs t c.input within))
        (ap (λ e. outranks c e.cell) (entry_of k a b (entry_at bs k)) ∙ h)

    rank-holds : ((k : ℕ) → section_room * c.input ≤ k → k < section_room * c.input + count_in bs c.input
        → outranks c (entry_at bs k).cell ≡ false) → falling_rank (cells (state_of bs)) c ≡ false
    rank-holds h =
        falling_rank-section
        ∙ some?-false (λ e. outranks c e.cell) (section_in bs c.input)
        (none?-at (λ e. outranks c e.cell) (section_in bs c.input) (entry_at bs 0)
        (λ j b.
        let few : j < count_in bs c.input = omega (arith, section-length bs t c.input within) in
        ap (λ e. outranks c e.cell) (section-entry bs t c.input within j (entry_at bs 0) few)
        ∙ h (section_room * c.input + j) (omega arith) (omega arith)))

    pub fallen-start : Fallen bs c (section_room * c.input) false
    fallen-start =
        record {
          start = le_refl (section_room * c.input);
          found = λ e. absurd (clash e refl);
          missed = λ _ j a b. absurd (omega arith);
        }

    pub fallen-next : (k : ℕ) (falling more : Bool) → k < section_room * c.input + count_in bs c.input
        → more ≡ outranks c (entry_at bs k).cell → Fallen bs c k falling → Fallen bs c (k + 1) (falling || more)
    fallen-next k falling more inside named f =
        record {
          start = omega (arith, f.start);
          found = λ e. go (or_cases falling more e);
          missed =
              λ e.
              below_more _ k (f.missed (or-false-l falling more e))
              (λ a. sym named ∙ or-false-r falling more e);
        }
      where
        go : (falling ≡ true) ⊎ (more ≡ true) → falling_rank (cells (state_of bs)) c ≡ true
        go (inl e) = f.found e
        go (inr e) = rank_falls k f.start inside (sym named ∙ e)

    pub fallen-end : (k : ℕ) (falling : Bool) → section_room * c.input + count_in bs c.input ≤ k → Fallen bs c k falling
        → falling ≡ falling_rank (cells (state_of bs)) c
    fallen-end k true past f = sym (f.found refl)
    fallen-end k false past f = sym (rank-holds (λ j a b. f.missed refl j (omega arith) a))

    -- 8: the cells of an input are the entries of its section
    pub full-count : full (cells (state_of bs)) c ≡ input_full (count_in bs c.input)
    unfolding full cells
    full-count =
        ap input_full
        (count_map (λ d. eqb d.input c.input) (λ e. e.cell) (flatten (state_of bs).sections)
        ∙ count-flatten-one own (state_of bs).sections c.input others
        ∙ count-all own (section_in bs c.input) (all?-i own (section_in bs c.input) mine)
        ∙ section-length bs t c.input within)
      where
        own : Entry → Bool
        own e = eqb e.cell.input c.input

        mine : (e : Entry) → Memᴰ e (section_in bs c.input) → own e ≡ true
        mine e m = eq-eqb _ _ (own-input c.input e m)

        others : (j : ℕ) → j ≢ c.input → none? own (section_in bs j) ≡ true
        others j h =
            none?-i own (section_in bs j) (λ e m.
            ne_eqb e.cell.input c.input (λ q. h (sym (own-input j e m) ∙ q)))

------------------------------------------------------------------------
-- all five

pub fault-none : (ports : ℕ) (waiting : List Cell) (before : Option Cell) (c : Cell) → no_such_port ports c ≡ false
    → no_such_flow c ≡ false → out_of_turn before c ≡ false → falling_rank waiting c ≡ false → full waiting c ≡ false
    → fault ports waiting before c ≡ none
unfolding fault
fault-none ports waiting before c p f t r u = rw (p, f, t, r, u)

-- the first three, where no cell waits
pub port-none : (ports : ℕ) (before : Option Cell) (c : Cell) → no_such_port ports c ≡ false → no_such_flow c ≡ false
    → out_of_turn before c ≡ false → fault ports [] before c ≡ none
unfolding falling_rank full some? count
port-none ports before c p f t = fault-none ports [] before c p f t refl refl

------------------------------------------------------------------------
-- as the code answers it

pub clear-not : {r : Refusal} {place : ℕ} → no_fault ≡ fault_with r place → ⊥
clear-not q = let z : ◌≡◌ {A = ℕ} 0 1 = cc in omega arith

-- what is found is clear where there is no fault
pub clear_none : (place : ℕ) (o : Option Refusal) → fault_at place o ≡ no_fault → o ≡ none
unfolding fault_at
clear_none place none e = refl
clear_none place (some r) e = absurd (clear-not (sym e))

-- some record before it sets the turn
turn_by : (turn : ℕ) → (before : Option Cell) × (turn_after before ≡ turn)
unfolding turn_after
turn_by zero = (none, refl)
turn_by (suc n) =
    (some (record { input = n; output = 0; flow = 0; rank = 0; tag = 0; slot = 0 }), add-one n)

------------------------------------------------------------------------
-- 4 to 6, and then 7 and 8

-- what the checks of a record's ports, flow and turn say
abbrev pub PortSays : ℕ → ℕ → ℕ → Cell → Checked → Type 0
PortSays ports turn place c found =
    (before : Option Cell) → turn_after before ≡ turn → found ≡ fault_at place (fault ports [] before c)

-- what is found without the waiting cells, and else what is found by them
abbrev then_by : Option Refusal → Option Refusal → Option Refusal
then_by o later = elim o [ some r ↦ some r | none ↦ later ]

fault-parts : (ports : ℕ) (waiting : List Cell) (before : Option Cell) (c : Cell)
    → fault ports waiting before c ≡ then_by (fault ports [] before c) (waiting_fault waiting c)
unfolding fault falling_rank full waiting_fault some? count
fault-parts ports waiting before c = go (no_such_port ports c) (no_such_flow c) (out_of_turn before c)
  where
    go : (p f t : Bool)
        → cond p (some NoSuchPort) (cond f (some NoSuchFlow) (cond t (some InputOrder) (waiting_fault waiting c)))
        ≡ then_by (cond p (some NoSuchPort) (cond f (some NoSuchFlow) (cond t (some InputOrder) none)))
        (waiting_fault waiting c)
    go true f t = refl
    go false true t = refl
    go false false true = refl
    go false false false = refl

module _ (ports : ℕ) (waiting : List Cell) (turn place : ℕ) (c : Cell) (found : Checked)
    (says : PortSays ports turn place c found) where
  -- a fault that is found without the waiting cells is found with them
  pub port-found : {r : Refusal} {at : ℕ} → found ≡ fault_with r at → (before : Option Cell) → turn_after before ≡ turn
      → found ≡ fault_at place (fault ports waiting before c)
  unfolding fault_at
  port-found bad before e = go (fault ports [] before c) refl
    where
      go : (o : Option Refusal) → fault ports [] before c ≡ o → found ≡ fault_at place (fault ports waiting before c)
      go none q = absurd (clear-not (sym (says before e ∙ ap (fault_at place) q) ∙ bad))
      go (some r) q =
          let all = fault-parts ports waiting before c ∙ ap (λ o. then_by o (waiting_fault waiting c)) q in
          says before e ∙ ap (fault_at place) (q ∙ sym all)

  module _ (clear : found ≡ no_fault) where
    none_found : (before : Option Cell) → turn_after before ≡ turn → fault ports [] before c ≡ none
    none_found before e = clear_none place _ (sym (says before e) ∙ clear)

    -- the ports and the flow are there
    pub port-clear : InPorts ports c
    port-clear =
        let w = turn_by turn in
        let passes : Faultless ports [] w.0 c = faultless ports [] w.0 c (none_found w.0 w.1) in
        record {
          input = port-input ports c passes.port;
          output = port-output ports c passes.port;
          flow = flow-below c passes.flow;
        }

    -- and the waiting cells decide
    pub port-passed : (before : Option Cell) → turn_after before ≡ turn
        → fault ports waiting before c ≡ waiting_fault waiting c
    port-passed before e =
        fault-parts ports waiting before c ∙ ap (λ o. then_by o (waiting_fault waiting c)) (none_found before e)
