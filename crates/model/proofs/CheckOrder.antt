-- The order of the refusals of a slot. Each law says: this fault comes first, whatever else is wrong.
--     slot-broken     2, no whole number of records, before the clock is looked at
--     slot-clock-end  3, before any record is looked at
--     fault-port .. fault-full   4 to 8 of one record, in this order
--     faults-first, faults-next  record by record, places counted from 1
--     fault-above                a record is refused with 4 or more
use Prim.Native.Nat.{ℕ, ◌+◌, ◌≤◌}
use native.Mathlib.Omega.{arith}
use mathlib.Core.Bool.{Bool, true, false, cond}
use mathlib.Core.List.{List, ◌∷◌}
use mathlib.Core.Option.{Option, none, some, some-injective, none-ne-some}
use mathlib.Core.Path.{◌≡◌, refl, subst}
use borrow.Author.Tests.{eq-eqb}
use Rattle.cell.specs.declared.Arrival.{Arrival}
use Rattle.cell.specs.declared.Cell.{Cell}
use Rattle.cell.specs.declared.Refusal.{Refusal}
use Rattle.cell.specs.declared.Refusal.TheVariants.{BrokenTable, ClockEnd, NoSuchPort, NoSuchFlow, InputOrder, RankOrder}
use Rattle.cell.specs.declared.Refusal.TheVariants.{Full}
use Rattle.cell.specs.Refusal.{number}
use Rattle.model.specs.Checks.{refused, no_such_port, no_such_flow, out_of_turn, falling_rank, full, fault}
use Rattle.model.specs.Checks.{fault_from}
use Rattle.model.specs.Crossbar.{slot}
use Rattle.model.specs.State.{Switch}

pub slot-broken : (s : Switch) → slot s none ≡ refused BrokenTable 0
unfolding slot
slot-broken s = refl

pub slot-clock-end : (s : Switch) (records : List Arrival) → s.clock ≡ 4294967295 → slot s (some records) ≡ refused ClockEnd 0
unfolding slot
slot-clock-end s records h = rw (eq-eqb s.clock 4294967295 h, slot)

module _ (ports : ℕ) (waiting : List Cell) (before : Option Cell) (c : Cell) where
  pub fault-port : no_such_port ports c ≡ true → fault ports waiting before c ≡ some NoSuchPort
  unfolding fault
  fault-port p = rw p

  pub fault-flow : no_such_port ports c ≡ false → no_such_flow c ≡ true → fault ports waiting before c ≡ some NoSuchFlow
  unfolding fault
  fault-flow p f = rw (p, f)

  pub fault-turn : no_such_port ports c ≡ false → no_such_flow c ≡ false → out_of_turn before c ≡ true
      → fault ports waiting before c ≡ some InputOrder
  unfolding fault
  fault-turn p f t = rw (p, f, t)

  pub fault-rank : no_such_port ports c ≡ false → no_such_flow c ≡ false → out_of_turn before c ≡ false
      → falling_rank waiting c ≡ true → fault ports waiting before c ≡ some RankOrder
  unfolding fault
  fault-rank p f t r = rw (p, f, t, r)

  pub fault-full : no_such_port ports c ≡ false → no_such_flow c ≡ false → out_of_turn before c ≡ false
      → falling_rank waiting c ≡ false → full waiting c ≡ true → fault ports waiting before c ≡ some Full
  unfolding fault
  fault-full p f t r u = rw (p, f, t, r, u)

module _ (ports : ℕ) (waiting : List Cell) (place : ℕ) (before : Option Cell) (c : Cell) (cs : List Cell) where
  pub faults-first : {r : Refusal} → fault ports waiting before c ≡ some r
      → fault_from ports waiting place before (c ∷ cs) ≡ some (r, place)
  unfolding fault_from
  faults-first h = rw (h, fault_from)

  pub faults-next : fault ports waiting before c ≡ none
      → fault_from ports waiting place before (c ∷ cs) ≡ fault_from ports waiting (place + 1) (some c) cs
  unfolding fault_from
  faults-next h = rw (h, fault_from)

pub fault-above : (ports : ℕ) (waiting : List Cell) (before : Option Cell) (c : Cell) (r : Refusal)
    → fault ports waiting before c ≡ some r → 4 ≤ number r
unfolding fault
fault-above ports waiting before c r =
    go (no_such_port ports c) (no_such_flow c) (out_of_turn before c) (falling_rank waiting c) (full waiting c)
  where
    by : (x : Refusal) → 4 ≤ number x → some x ≡ some r → 4 ≤ number r
    by x h e = subst (λ y. 4 ≤ number y) (some-injective x r e) h

    go : (p f t k u : Bool)
        → cond p (some NoSuchPort) (cond f (some NoSuchFlow) (cond t (some InputOrder) (cond k (some RankOrder)
        (cond u (some Full) none)))) ≡ some r → 4 ≤ number r
    go true f t k u e = by NoSuchPort (omega arith) e
    go false true t k u e = by NoSuchFlow (omega arith) e
    go false false true k u e = by InputOrder (omega arith) e
    go false false false true u e = by RankOrder (omega arith) e
    go false false false false true e = by Full (omega arith) e
    go false false false false false e = absurd (none-ne-some r e)
