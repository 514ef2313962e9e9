-- The records of a slot where some outputs are fair, looked at one by one.
--     ports-alike                          4, 5 and 6 do not look at the rank
--     next-port, -rank, -waits             what the check of a record says, where it ends
--     Passed, Says                         the first records have no fault; what the check of the next one says
--     passed_none, -fault, -next, -all     no record yet, the next one has a fault, it has none, all have none
--     passed-input                         a record without a fault is of an input
use Prim.Native.Nat.{ℕ, ◌+◌, ◌≤◌, ◌<◌}
use native.Mathlib.Omega.{arith}
use mathlib.Core.Bool.{Bool, true, false}
use mathlib.Core.List.{List, [], ◌∷◌}
use mathlib.Core.Option.{Option, none, some, some-ne-none}
use mathlib.Core.Path.{◌≡◌, refl, sym, ap, ap₂, ◌∙◌}
use lib.ListN.{length, drop, drop_of_length-le}
use Rattle.laws.specs.Lists.{some?, count}
use Rattle.cell.specs.declared.Arrival.{Arrival}
use Rattle.cell.specs.declared.Cell.{Cell}
use Rattle.cell.specs.Checked.{Checked, no_fault, fault_with}
use Rattle.cell.specs.declared.Refusal.{Refusal}
use Rattle.cell.specs.declared.Refusal.TheVariants.{BadWeight, RankEnd}
use Rattle.cell.specs.Cell.{accepted}
use Rattle.cell.specs.Limits.{port_limit}
use Rattle.model.specs.State.{Switch, cells}
use Rattle.model.specs.Checks.{no_such_port, no_such_flow, out_of_turn, falling_rank, full, fault}
use Rattle.model.specs.Fair.{Memory, make, bad_weight, rank_end, record_fault, record_fault_from}
use Rattle.model.specs.CodeFair.{rankable}
use Rattle.model.proofs.Admitted.{faultless, port-input}
use Rattle.model.proofs.FairChecks.{rankable-i, records-first, records-next}
use Rattle.slot_faults.specs.CodeFault.{fault_at, fault_of, turn_after, waiting_fault}
use Rattle.slot_faults.proofs.Faults.{PortSays, clear-not, clear_none, port-passed}
use Rattle.fair_faults.specs.CodeFairFault.{fair_fault_by, rank_fault, first_fair}

------------------------------------------------------------------------
-- one record

-- the cell that a record becomes, with the rank made
abbrev pub made : Switch → Memory → Arrival → Cell
made s m a = accepted s.clock (make m a)

-- what the check of a record says
abbrev pub Says : Switch → Memory → ℕ → ℕ → Arrival → Checked → Type 0
Says s m turn place a found =
    (before : Option Cell) → turn_after before ≡ turn → found ≡ fault_at place (fair_fault_by s m before a)

ports-alike : (ports clock : ℕ) (m : Memory) (before : Option Cell) (a : Arrival)
    → fault ports [] before (accepted clock a) ≡ fault ports [] before (accepted clock (make m a))
unfolding fault no_such_port no_such_flow out_of_turn falling_rank full some? count accepted make
ports-alike ports clock m none a = refl
ports-alike ports clock m (some b) a = refl

-- a record without a fault passes them
record-ports : (s : Switch) (m : Memory) (before : Option Cell) (a : Arrival) → fair_fault_by s m before a ≡ none
    → fault s.ports [] before (made s m a) ≡ none
unfolding record_fault
record-ports s m before a h = go (fault s.ports [] before (made s m a)) refl
  where
    go : (o : Option Refusal) → fault s.ports [] before (made s m a) ≡ o
        → fault s.ports [] before (made s m a) ≡ none
    go none e = e
    go (some r) e = absurd (some-ne-none r (rw (e, record_fault) at h))

-- a rank without a fault can be made
rank-none : (m : Memory) (a : Arrival) → rank_fault m a ≡ none → (bad_weight m a ≡ false) × (rank_end m a ≡ false)
unfolding rank_fault
rank-none m a h = go (bad_weight m a) refl (rank_end m a) refl
  where
    go : (w : Bool) → bad_weight m a ≡ w → (d : Bool) → rank_end m a ≡ d
        → (bad_weight m a ≡ false) × (rank_end m a ≡ false)
    go true w d d' = absurd (some-ne-none BadWeight (rw w at h))
    go false w true d = absurd (some-ne-none RankEnd (rw (w, d) at h))
    go false w false d = (w, d)

module _ (s : Switch) (m : Memory) (turn place : ℕ) (a : Arrival) (found : Checked) where
  -- what 4, 5 and 6 say of the record's cell they say of the cell with the rank made
  pub made-says : (ports clock : ℕ) (c : Cell) → ports ≡ s.ports → clock ≡ s.clock → c ≡ accepted clock a
      → PortSays ports turn place c found → PortSays s.ports turn place (made s m a) found
  made-says ports clock c p k is says before e =
      says before e
      ∙ ap₂ (λ n d. fault_at place (fault n [] before d)) p (is ∙ ap (λ j. accepted j a) k)
      ∙ ap (fault_at place) (ports-alike s.ports s.clock m before a)

  module _ (says : PortSays s.ports turn place (made s m a) found) where
    pub next-port : {r : Refusal} {at : ℕ} → found ≡ fault_with r at → Says s m turn place a found
    unfolding record_fault fault_at
    next-port bad before e = go (fault s.ports [] before (made s m a)) refl
      where
        go : (o : Option Refusal) → fault s.ports [] before (made s m a) ≡ o
            → found ≡ fault_at place (fair_fault_by s m before a)
        go none q = absurd (clear-not (sym (says before e ∙ ap (fault_at place) q) ∙ bad))
        go (some r) q =
            let it : fair_fault_by s m before a ≡ some r = rw (q, record_fault) in
            says before e ∙ ap (fault_at place) (q ∙ sym it)

    module _ (clear : found ≡ no_fault) where
      none_found : (before : Option Cell) → turn_after before ≡ turn → fault s.ports [] before (made s m a) ≡ none
      none_found before e = clear_none place _ (sym (says before e) ∙ clear)

      -- then 14 and 15 decide
      module _ (ranked : Checked) (rank : ranked ≡ fault_at place (rank_fault m a)) where
        pub next-rank : {r : Refusal} {at : ℕ} → ranked ≡ fault_with r at → Says s m turn place a ranked
        unfolding record_fault rank_fault fault_at
        next-rank bad before e = go (bad_weight m a) refl (rank_end m a) refl
          where
            go : (w : Bool) → bad_weight m a ≡ w → (d : Bool) → rank_end m a ≡ d
                → ranked ≡ fault_at place (fair_fault_by s m before a)
            go true w d d' =
                let it : fair_fault_by s m before a ≡ some BadWeight = rw (none_found before e, w, record_fault) in
                let this : rank_fault m a ≡ some BadWeight = rw w in
                rank ∙ ap (fault_at place) (this ∙ sym it)
            go false w true d =
                let it : fair_fault_by s m before a ≡ some RankEnd = rw (none_found before e, w, d, record_fault) in
                let this : rank_fault m a ≡ some RankEnd = rw (w, d) in
                rank ∙ ap (fault_at place) (this ∙ sym it)
            go false w false d =
                let this : rank_fault m a ≡ none = rw (w, d) in
                absurd (clear-not (sym (rank ∙ ap (fault_at place) this) ∙ bad))

        -- and then the waiting cells
        module _ (passes : ranked ≡ no_fault) where
          can-rank : (bad_weight m a ≡ false) × (rank_end m a ≡ false)
          can-rank = rank-none m a (clear_none place _ (sym rank ∙ passes))

          pub next-rankable : rankable m a ≡ true
          next-rankable = rankable-i m a can-rank.0 can-rank.1

          pub next-waits : (last : Checked) → last ≡ fault_at place (waiting_fault (cells s) (made s m a))
              → Says s m turn place a last
          unfolding record_fault
          next-waits last is before e =
              let it : fair_fault_by s m before a ≡ fault s.ports (cells s) before (made s m a) =
              rw (none_found before e, can-rank.0, can-rank.1, record_fault) in
              is
              ∙ ap (fault_at place)
              (sym (it ∙ port-passed s.ports (cells s) turn place (made s m a) found says clear before e))

------------------------------------------------------------------------
-- one by one

-- the first n records have no fault, and it is the turn of the inputs from `turn` on
pub record Passed (s : Switch) (m : Memory) (records : List Arrival) (n turn : ℕ) : Type 0 where
  pub before : Option Cell
  pub after : turn_after before ≡ turn
  pub rest : first_fair s m records
      ≡ record_fault_from s.ports s.clock (cells s) m (n + 1) before (drop n records)

module _ (s : Switch) (m : Memory) (records : List Arrival) where
  pub passed_none : Passed s m records 0 0
  unfolding turn_after
  passed_none = record { before = none; after = refl; rest = refl }

  -- the next record
  module _ (n turn : ℕ) (p : Passed s m records n turn) (a : Arrival) (here : drop n records ≡ a ∷ drop (n + 1) records)
      (found : Checked) (says : Says s m turn (n + 1) a found) where
    rest_at : first_fair s m records
        ≡ record_fault_from s.ports s.clock (cells s) m (n + 1) p.before (a ∷ drop (n + 1) records)
    rest_at = p.rest ∙ ap (record_fault_from s.ports s.clock (cells s) m (n + 1) p.before) here

    -- what is found is its fault
    found-is : (o : Option Refusal) → fair_fault_by s m p.before a ≡ o → found ≡ fault_at (n + 1) o
    found-is o e = says p.before p.after ∙ ap (fault_at (n + 1)) e

    pub passed-fault : {r : Refusal} {place : ℕ} → found ≡ fault_with r place → found ≡ fault_of (first_fair s m records)
    unfolding fault_at fault_of
    passed-fault bad = go (fair_fault_by s m p.before a) refl
      where
        go : (o : Option Refusal) → fair_fault_by s m p.before a ≡ o → found ≡ fault_of (first_fair s m records)
        go none e = absurd (clear-not (sym (found-is none e) ∙ bad))
        go (some r) e =
            found-is (some r) e
            ∙ sym (ap fault_of (rest_at ∙ records-first _ _ _ m (n + 1) p.before a _ e))

    module _ (clear : found ≡ no_fault) where
      none_here : fair_fault_by s m p.before a ≡ none
      none_here = clear_none (n + 1) _ (sym (says p.before p.after) ∙ clear)

      pub passed-next : Passed s m records (n + 1) (a.input + 1)
      unfolding turn_after accepted make
      passed-next =
          record {
            before = some (made s m a);
            after = refl;
            rest = rest_at ∙ records-next _ _ _ m (n + 1) p.before a _ none_here;
          }

      pub passed-input : s.ports ≤ port_limit → a.input < port_limit
      unfolding accepted make
      passed-input few =
          let passes = record-ports s m p.before a none_here in
          omega (arith, port-input s.ports _ (faultless s.ports [] p.before _ passes).port)

  -- behind the last record
  pub passed-all : (n turn : ℕ) → n ≡ length records → Passed s m records n turn
      → no_fault ≡ fault_of (first_fair s m records)
  unfolding record_fault_from fault_of
  passed-all n turn whole p =
      let past : length records ≤ n = omega arith in
      let end : drop n records ≡ [] = drop_of_length-le records past in
      sym (ap fault_of (p.rest ∙ ap (record_fault_from s.ports s.clock (cells s) m (n + 1) p.before) end))
