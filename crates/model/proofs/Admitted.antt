-- The checks 4 to 8 of a slot's records.
--     same-fault, same-faults              they look only at the bag of the cells in the switch
--     port-input, port-output, admitted    what they say of records without a fault
--     few-records                          there are no more of them than ports
use Prim.Native.Nat.{ℕ, ◌+◌, ◌≤◌, ◌<◌}
use native.Mathlib.Omega.{arith}
use mathlib.Core.Bool.{Bool, true, false, cond, ◌&&◌}
use mathlib.Core.Path.{◌≡◌, refl, sym, ◌∙◌, ap}
use mathlib.Core.Logic.{◌⊎◌, inl, inr}
use mathlib.Core.List.Memᴰ
use mathlib.Core.List.{List, [], ◌∷◌, Memᴰ}
use mathlib.Core.Option.{Option, none, some, some-ne-none}
use borrow.Author.Tests.{leb-false, lt-ltb, not-false}
use lib.Dec.{ltb, leb, eqb}
use lib.ListN.{length}
use Rattle.laws.specs.Lists.{pairwise}
use Rattle.laws.proofs.Tests.{or-false-l, or-false-r}
use Rattle.laws.proofs.Pairwise.{pairwise-nil, pairwise_cons}
use Rattle.cell.specs.declared.Cell.{Cell}
use Rattle.cell.specs.declared.Refusal.{Refusal}
use Rattle.cell.specs.declared.Refusal.TheVariants.{NoSuchPort, NoSuchFlow, InputOrder, RankOrder, Full}
use Rattle.cell.specs.Flow.{same_flow}
use Rattle.cell.specs.Limits.{flow_in_range, input_full}
use Rattle.model.specs.Checks.{no_such_port, no_such_flow, out_of_turn, falling_rank, full, fault, fault_from, first_fault}
use Rattle.model.proofs.CheckOrder.{faults-first, faults-next}
use Rattle.model.proofs.Bags.{SameBag, bag-some?}

------------------------------------------------------------------------
-- the same bag of cells in the switch

module _ (ports : ℕ) (waiting waiting' : List Cell) (bag : SameBag waiting waiting') where
  same_rank : (c : Cell) → falling_rank waiting c ≡ falling_rank waiting' c
  unfolding falling_rank
  same_rank c = bag-some? waiting waiting' bag (λ d. same_flow d c && ltb c.rank d.rank)

  same_full : (c : Cell) → full waiting c ≡ full waiting' c
  unfolding full
  same_full c = ap input_full (bag (λ d. eqb d.input c.input))

  pub same-fault : (before : Option Cell) (c : Cell) → fault ports waiting before c ≡ fault ports waiting' before c
  unfolding fault
  same-fault before c = rw (same_rank c, same_full c)

  same-faults-from : (place : ℕ) (before : Option Cell) (cs : List Cell)
      → fault_from ports waiting place before cs ≡ fault_from ports waiting' place before cs
  unfolding fault_from
  same-faults-from place before [] = refl
  same-faults-from place before (c ∷ cs) =
      go (fault ports waiting before c) refl (same-faults-from (place + 1) (some c) cs)
    where
      go : (o : Option Refusal) → fault ports waiting before c ≡ o
          → fault_from ports waiting (place + 1) (some c) cs ≡ fault_from ports waiting' (place + 1) (some c) cs
          → fault_from ports waiting place before (c ∷ cs) ≡ fault_from ports waiting' place before (c ∷ cs)
      go none e rec =
          faults-next ports waiting place before c cs e
          ∙ rec
          ∙ sym (faults-next ports waiting' place before c cs (sym (same-fault before c) ∙ e))
      go (some r) e rec =
          faults-first ports waiting place before c cs e
          ∙ sym (faults-first ports waiting' place before c cs (sym (same-fault before c) ∙ e))

  pub same-faults : (cs : List Cell) → first_fault ports waiting cs ≡ first_fault ports waiting' cs
  unfolding first_fault
  same-faults cs = same-faults-from 1 none cs

------------------------------------------------------------------------
-- records without a fault

-- one record: its ports and flow exist, it comes in turn, no rank falls, its input has room
pub record Faultless (ports : ℕ) (waiting : List Cell) (before : Option Cell) (c : Cell) : Type 0 where
  pub port : no_such_port ports c ≡ false
  pub flow : no_such_flow c ≡ false
  pub turn : out_of_turn before c ≡ false
  pub rank : falling_rank waiting c ≡ false
  pub room : full waiting c ≡ false

pub faultless : (ports : ℕ) (waiting : List Cell) (before : Option Cell) (c : Cell)
    → fault ports waiting before c ≡ none → Faultless ports waiting before c
unfolding fault
faultless ports waiting before c h =
    go (no_such_port ports c) refl (no_such_flow c) refl (out_of_turn before c) refl (falling_rank waiting c) refl
    (full waiting c) refl h
  where
    go : (p : Bool) → no_such_port ports c ≡ p → (f : Bool) → no_such_flow c ≡ f → (t : Bool) → out_of_turn before c ≡ t
        → (r : Bool) → falling_rank waiting c ≡ r → (u : Bool) → full waiting c ≡ u
        → cond p (some NoSuchPort) (cond f (some NoSuchFlow) (cond t (some InputOrder)
        (cond r (some RankOrder) (cond u (some Full) none)))) ≡ none
        → Faultless ports waiting before c
    go true p f f' t t' r r' u u' e = absurd (some-ne-none NoSuchPort e)
    go false p true f t t' r r' u u' e = absurd (some-ne-none NoSuchFlow e)
    go false p false f true t r r' u u' e = absurd (some-ne-none InputOrder e)
    go false p false f false t true r u u' e = absurd (some-ne-none RankOrder e)
    go false p false f false t false r true u e = absurd (some-ne-none Full e)
    go false p false f false t false r false u e = record { port = p; flow = f; turn = t; rank = r; room = u }

-- all of them: and the inputs rise from record to record
pub record Admitted (ports : ℕ) (waiting : List Cell) (cs : List Cell) : Type 0 where
  pub inputs : (c : Cell) → Memᴰ c cs → c.input < ports
  pub outputs : (c : Cell) → Memᴰ c cs → c.output < ports
  pub flows : (c : Cell) → Memᴰ c cs → flow_in_range c.flow ≡ true
  pub turns : pairwise (λ c d. ltb c.input d.input) cs ≡ true
  pub ranks : (c : Cell) → Memᴰ c cs → falling_rank waiting c ≡ false
  pub rooms : (c : Cell) → Memᴰ c cs → full waiting c ≡ false

in-turn : (b c : Cell) → out_of_turn (some b) c ≡ false → b.input < c.input
unfolding out_of_turn
in-turn b c h = leb-false c.input b.input h

each : (P : Cell → Type 0) (c : Cell) (cs : List Cell) → P c → ((d : Cell) → Memᴰ d cs → P d)
    → (d : Cell) → Memᴰ d (c ∷ cs) → P d
each P c cs p ps d m = go (Memᴰ.cases_cons m)
  where
    go : (d ≡ c) ⊎ Memᴰ d cs → P d
    go (inl e) = rw e p
    go (inr k) = ps d k

pub port-input : (ports : ℕ) (c : Cell) → no_such_port ports c ≡ false → c.input < ports
unfolding no_such_port
port-input ports c h =
    leb-false ports c.input (or-false-l (leb ports c.input) (leb ports c.output) h)

pub port-output : (ports : ℕ) (c : Cell) → no_such_port ports c ≡ false → c.output < ports
unfolding no_such_port
port-output ports c h =
    leb-false ports c.output (or-false-r (leb ports c.input) (leb ports c.output) h)

module _ (ports : ℕ) (waiting : List Cell) where
  flow-known : (c : Cell) → no_such_flow c ≡ false → flow_in_range c.flow ≡ true
  unfolding no_such_flow
  flow-known c h = not-false (flow_in_range c.flow) h

  -- the first has no fault, nor have the others
  faults-none : (place : ℕ) (before : Option Cell) (c : Cell) (cs : List Cell)
      → fault_from ports waiting place before (c ∷ cs) ≡ none
      → Faultless ports waiting before c × (fault_from ports waiting (place + 1) (some c) cs ≡ none)
  faults-none place before c cs h = go (fault ports waiting before c) refl
    where
      go : (o : Option Refusal) → fault ports waiting before c ≡ o
          → Faultless ports waiting before c × (fault_from ports waiting (place + 1) (some c) cs ≡ none)
      go none e =
          (faultless ports waiting before c e, sym (faults-next ports waiting place before c cs e) ∙ h)
      go (some r) e =
          absurd (some-ne-none (r, place) (sym (faults-first ports waiting place before c cs e) ∙ h))

  -- every input is above that of the record before all of them
  rising : (place : ℕ) (b : Cell) (cs : List Cell) → fault_from ports waiting place (some b) cs ≡ none
      → {c : Cell} → Memᴰ c cs → b.input < c.input
  rising place b [] h m = absurd (Memᴰ.not-nil m)
  rising place b (d ∷ cs) h {c} m =
      let w = faults-none place (some b) d cs h in
      let first : b.input < d.input = in-turn b d w.0.turn in
      go first (rising (place + 1) d cs w.1) (Memᴰ.cases_cons m)
    where
      go : b.input < d.input → (Memᴰ c cs → d.input < c.input) → (c ≡ d) ⊎ Memᴰ c cs
          → b.input < c.input
      go first rec (inl e) = rw e first
      go first rec (inr k) = omega (arith, rec k)

  admitted-from : (place : ℕ) (before : Option Cell) (cs : List Cell) → fault_from ports waiting place before cs ≡ none
      → Admitted ports waiting cs
  admitted-from place before [] h =
      record {
        inputs = λ c m. absurd (Memᴰ.not-nil m);
        outputs = λ c m. absurd (Memᴰ.not-nil m);
        flows = λ c m. absurd (Memᴰ.not-nil m);
        turns = pairwise-nil (λ c d. ltb c.input d.input);
        ranks = λ c m. absurd (Memᴰ.not-nil m);
        rooms = λ c m. absurd (Memᴰ.not-nil m);
      }
  admitted-from place before (c ∷ cs) h =
      let w = faults-none place before c cs h in
      let later = admitted-from (place + 1) (some c) cs w.1 in
      record {
        inputs = each (λ d. d.input < ports) c cs (port-input ports c w.0.port) later.inputs;
        outputs = each (λ d. d.output < ports) c cs (port-output ports c w.0.port) later.outputs;
        flows = each (λ d. flow_in_range d.flow ≡ true) c cs (flow-known c w.0.flow) later.flows;
        turns =
            pairwise_cons (λ c d. ltb c.input d.input) c cs
            (λ d m. lt-ltb c.input d.input (rising (place + 1) c cs w.1 m))
            later.turns;
        ranks = each (λ d. falling_rank waiting d ≡ false) c cs w.0.rank later.ranks;
        rooms = each (λ d. full waiting d ≡ false) c cs w.0.room later.rooms;
      }

  pub admitted : (cs : List Cell) → first_fault ports waiting cs ≡ none → Admitted ports waiting cs
  unfolding first_fault
  admitted cs h = admitted-from 1 none cs h

  -- inputs rise, so there are no more records than ports above that of the one before them
  few-from : (place : ℕ) (b : Cell) (cs : List Cell) → b.input < ports
      → fault_from ports waiting place (some b) cs ≡ none → b.input + length cs < ports
  few-from place b [] low h = omega arith
  few-from place b (c ∷ cs) low h =
      let w = faults-none place (some b) c cs h in
      let later = few-from (place + 1) c cs (port-input ports c w.0.port) w.1 in
      omega (arith, in-turn b c w.0.turn)

  pub few-records : (cs : List Cell) → first_fault ports waiting cs ≡ none → length cs ≤ ports
  unfolding first_fault
  few-records [] h = omega arith
  few-records (c ∷ cs) h =
      let w = faults-none 1 none c cs h in
      omega (arith, few-from 2 c cs (port-input ports c w.0.port) w.1)
