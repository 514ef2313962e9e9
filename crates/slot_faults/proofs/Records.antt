-- The records of a slot, looked at one by one.
--     no_record, record_next               what stands past the end, and the first of the records behind the first n
--     coming-take, coming-drop             the cells of the first records, and of those behind them
--     Passed, Says                         the first records have no fault; what the check of the next one says
--     next-says                            it says so by the cell that the record would become
--     passed_none, -fault, -next, -all     no record yet, the next one has a fault, it has none, all have none
--     passed-input                         a record without a fault is of an input
use Prim.Native.Nat.{ℕ, zero, suc, ◌+◌, ◌≤◌, ◌<◌}
use native.Mathlib.Numerals.{add-one}
use native.Mathlib.Omega.{arith}
use mathlib.Core.List.{List, [], ◌∷◌}
use mathlib.Core.Option.{Option, none, some}
use mathlib.Core.Path.{◌≡◌, refl, sym, ap, ap₂, ◌∙◌}
use lib.ListN.{length, take, drop, get_or, length-map, drop_of_length-le}
use lib.Seq.{drop-cons}
use Rattle.cell.specs.Checked.{Checked, no_fault, fault_with}
use Rattle.cell.specs.declared.Arrival.{Arrival}
use Rattle.cell.specs.declared.Cell.{Cell}
use Rattle.cell.specs.declared.Refusal.{Refusal}
use Rattle.cell.specs.Cell.{accepted}
use Rattle.cell.specs.Limits.{port_limit}
use Rattle.model.specs.State.{Switch, cells}
use Rattle.model.specs.Checks.{fault, fault_from, first_fault}
use Rattle.model.proofs.Admitted.{faultless, port-input}
use Rattle.model.proofs.CheckOrder.{faults-first, faults-next}
use Rattle.layout.specs.Entry.{clock_in}
use Rattle.layout.specs.Table.{state_of, IsTable}
use Rattle.layout.specs.Code.{ports_in}
use Rattle.slot_faults.specs.CodeFault.{coming, fault_at, fault_by, fault_of, turn_after}
use Rattle.slot_faults.proofs.Faults.{clear-not}
use Rattle.slot_faults.proofs.Stored.{table-ports, table-clock}

------------------------------------------------------------------------
-- the next record

-- no record: it stands for what lies past the end
abbrev pub no_record : Arrival
no_record = record { input = 0; output = 0; flow = 0; rank = 0; tag = 0 }

pub record_next : (records : List Arrival) (n : ℕ) → n < length records
    → drop n records ≡ get_or records n no_record ∷ drop (n + 1) records
record_next records n less = rw add-one (drop-cons records n no_record less)

------------------------------------------------------------------------
-- their cells

module _ (s : Switch) where
  pub coming-take : (n : ℕ) (records : List Arrival) → take n (coming s records) ≡ coming s (take n records)
  unfolding coming
  coming-take zero records = refl
  coming-take (suc n) [] = refl
  coming-take (suc n) (a ∷ records) = ap (λ cs. accepted s.clock a ∷ cs) (coming-take n records)

  coming-drop : (n : ℕ) (records : List Arrival) → drop n (coming s records) ≡ coming s (drop n records)
  unfolding coming
  coming-drop zero records = refl
  coming-drop (suc n) [] = refl
  coming-drop (suc n) (a ∷ records) = coming-drop n records

------------------------------------------------------------------------
-- one by one

-- the first n records have no fault, and it is the turn of the inputs from `turn` on
pub record Passed (s : Switch) (records : List Arrival) (n turn : ℕ) : Type 0 where
  pub before : Option Cell
  pub after : turn_after before ≡ turn
  pub rest : first_fault s.ports (cells s) (coming s records)
      ≡ fault_from s.ports (cells s) (n + 1) before (drop n (coming s records))

-- what the check of a record says
abbrev pub Says : Switch → ℕ → ℕ → Arrival → Checked → Type 0
Says s turn place a found =
    (before : Option Cell) → turn_after before ≡ turn → found ≡ fault_at place (fault_by s before a)

pub next-says : (table : List ℕ) → IsTable table → (turn place clock : ℕ) (a : Arrival) (c : Cell) (found : Checked)
    → clock ≡ clock_in table → c ≡ accepted clock a
    → ((before : Option Cell) → turn_after before ≡ turn
    → found ≡ fault_at place (fault (ports_in table) (cells (state_of table)) before c))
    → Says (state_of table) turn place a found
next-says table t turn place clock a c found now is says before e =
    says before e
    ∙ ap₂ (λ ports d. fault_at place (fault ports (cells (state_of table)) before d)) (sym (table-ports table t))
    (is ∙ ap (λ k. accepted k a) (now ∙ sym (table-clock table t)))

module _ (s : Switch) (records : List Arrival) where
  pub passed_none : Passed s records 0 0
  unfolding turn_after first_fault
  passed_none = record { before = none; after = refl; rest = refl }

  -- the next record
  module _ (n turn : ℕ) (p : Passed s records n turn) (a : Arrival) (here : drop n records ≡ a ∷ drop (n + 1) records)
      (found : Checked) (says : Says s turn (n + 1) a found) where
    next : drop n (coming s records) ≡ accepted s.clock a ∷ drop (n + 1) (coming s records)
    unfolding coming
    next =
        coming-drop s n records
        ∙ ap (coming s) here
        ∙ ap (λ cs. accepted s.clock a ∷ cs) (sym (coming-drop s (n + 1) records))

    rest_at : first_fault s.ports (cells s) (coming s records)
        ≡ fault_from s.ports (cells s) (n + 1) p.before (accepted s.clock a ∷ drop (n + 1) (coming s records))
    rest_at = p.rest ∙ ap (fault_from s.ports (cells s) (n + 1) p.before) next

    -- what is found is its fault
    found-is : (o : Option Refusal) → fault_by s p.before a ≡ o → found ≡ fault_at (n + 1) o
    found-is o e = says p.before p.after ∙ ap (fault_at (n + 1)) e

    pub passed-fault : {r : Refusal} {place : ℕ} → found ≡ fault_with r place
        → found ≡ fault_of (first_fault s.ports (cells s) (coming s records))
    unfolding fault_at fault_of
    passed-fault bad = go (fault_by s p.before a) refl
      where
        go : (o : Option Refusal) → fault_by s p.before a ≡ o
            → found ≡ fault_of (first_fault s.ports (cells s) (coming s records))
        go none e = absurd (clear-not (sym (found-is none e) ∙ bad))
        go (some r) e = found-is (some r) e ∙ sym (ap fault_of (rest_at ∙ faults-first _ _ (n + 1) p.before _ _ e))

    module _ (clear : found ≡ no_fault) where
      none_here : fault_by s p.before a ≡ none
      unfolding fault_at
      none_here = go (fault_by s p.before a) refl
        where
          go : (o : Option Refusal) → fault_by s p.before a ≡ o → fault_by s p.before a ≡ none
          go none e = e
          go (some r) e = absurd (clear-not (sym clear ∙ found-is (some r) e))

      pub passed-next : Passed s records (n + 1) (a.input + 1)
      unfolding turn_after accepted
      passed-next =
          record {
            before = some (accepted s.clock a);
            after = refl;
            rest = rest_at ∙ faults-next _ _ (n + 1) p.before _ _ none_here;
          }

      pub passed-input : s.ports ≤ port_limit → a.input < port_limit
      unfolding accepted
      passed-input few =
          omega (arith, port-input s.ports _ (faultless s.ports (cells s) p.before _ none_here).port)

  -- behind the last record
  pub passed-all : (n turn : ℕ) → n ≡ length records → Passed s records n turn
      → no_fault ≡ fault_of (first_fault s.ports (cells s) (coming s records))
  unfolding coming fault_from fault_of
  passed-all n turn whole p =
      let past : length (coming s records) ≤ n = omega (arith, length-map records (accepted s.clock)) in
      let end : drop n (coming s records) ≡ [] = drop_of_length-le (coming s records) past in
      sym (ap fault_of (p.rest ∙ ap (fault_from s.ports (cells s) (n + 1) p.before) end))
