-- The laws of the relations between waiting cells. Nothing else looks inside `same_input`, `same_output`,
-- `same_crosspoint`, `ahead`, `beats` and `among`:
--     input-i, input-e, ..          how to build each, and what it says
--     ahead-strict, beats-strict    strict orders
--     same_number, among-e          in an orderly list a number has one cell
--     ahead-total, beats-total      and of two cells of one input, or to one output, one goes first
use Prim.Native.Nat.{ℕ, ◌<◌, ◌≤◌}
use native.Mathlib.Omega.{arith}
use mathlib.Core.Bool.{Bool, true, false, ◌&&◌}
use mathlib.Core.Path.{◌≡◌, refl, sym, ◌∙◌}
use mathlib.Core.Logic.{◌⊎◌, inl, inr, ◌≢◌}
use mathlib.Core.List.Memᴰ
use mathlib.Core.List.{List, Memᴰ}
use borrow.Author.Tests.{ltb-true, eqb-true, eqb-false, lt-ltb, le-ltb, eq-eqb, not-true}
use lib.Dec.{ltb, eqb}
use Rattle.laws.specs.Lists.{pairwise}
use Rattle.laws.specs.Order.{Strict}
use Rattle.laws.proofs.Tests.{and_i, and_l, and_r, and_false_r, and-false-cases}
use Rattle.laws.proofs.Lists.{Passing, some?-i, some?-e}
use Rattle.laws.proofs.Pairwise.{pairwise-e}
use Rattle.cell.specs.Order.{over}
use Rattle.laws.proofs.Compared.{Compared, below, equal, above, compare}
use Rattle.cell.proofs.Order.{over-irrefl, over-trans, over-total}
use Rattle.model.specs.Phase.{Waiting, same_input, same_output, same_crosspoint, ahead, beats, among}
use Rattle.model.specs.CodeSlackness.{Orderly, other_number, other_arrival}

------------------------------------------------------------------------
-- intro and elim

module _ (e f : Waiting) where
  pub input-i : e.cell.input ≡ f.cell.input → same_input e f ≡ true
  unfolding same_input
  input-i h = eq-eqb _ _ h

  pub input-e : same_input e f ≡ true → e.cell.input ≡ f.cell.input
  unfolding same_input
  input-e h = eqb-true _ _ h

  pub output-i : e.cell.output ≡ f.cell.output → same_output e f ≡ true
  unfolding same_output
  output-i h = eq-eqb _ _ h

  pub output-e : same_output e f ≡ true → e.cell.output ≡ f.cell.output
  unfolding same_output
  output-e h = eqb-true _ _ h

  pub crosspoint-i : e.cell.input ≡ f.cell.input → e.cell.output ≡ f.cell.output → same_crosspoint e f ≡ true
  unfolding same_crosspoint
  crosspoint-i h k = and_i (same_input e f) (same_output e f) (input-i h) (output-i k)

  pub crosspoint-input : same_crosspoint e f ≡ true → e.cell.input ≡ f.cell.input
  unfolding same_crosspoint
  crosspoint-input h = input-e (and_l (same_input e f) (same_output e f) h)

  pub crosspoint-output : same_crosspoint e f ≡ true → e.cell.output ≡ f.cell.output
  unfolding same_crosspoint
  crosspoint-output h = output-e (and_r (same_input e f) (same_output e f) h)

  pub ahead-i : e.cell.input ≡ f.cell.input → e.at < f.at → ahead e f ≡ true
  unfolding ahead
  ahead-i h k = and_i (same_input e f) (ltb e.at f.at) (input-i h) (lt-ltb _ _ k)

  pub ahead-input : ahead e f ≡ true → e.cell.input ≡ f.cell.input
  unfolding ahead
  ahead-input h = input-e (and_l (same_input e f) (ltb e.at f.at) h)

  pub ahead-at : ahead e f ≡ true → e.at < f.at
  unfolding ahead
  ahead-at h = ltb-true _ _ (and_r (same_input e f) (ltb e.at f.at) h)

module _ (ports : ℕ) (e f : Waiting) where
  pub beats-i : e.cell.output ≡ f.cell.output → over ports e.cell f.cell ≡ true → beats ports e f ≡ true
  unfolding beats
  beats-i h k = and_i (same_output e f) (over ports e.cell f.cell) (output-i e f h) k

  pub beats-output : beats ports e f ≡ true → e.cell.output ≡ f.cell.output
  unfolding beats
  beats-output h = output-e e f (and_l (same_output e f) (over ports e.cell f.cell) h)

  pub beats-over : beats ports e f ≡ true → over ports e.cell f.cell ≡ true
  unfolding beats
  beats-over h = and_r (same_output e f) (over ports e.cell f.cell) h

------------------------------------------------------------------------
-- strict orders

pub ahead-irrefl : (e : Waiting) → ahead e e ≡ false
unfolding ahead
ahead-irrefl e =
    let k : e.at ≤ e.at = omega arith in
    and_false_r (same_input e e) (ltb e.at e.at) (le-ltb _ _ k)

pub ahead-trans : (e f g : Waiting) → ahead e f ≡ true → ahead f g ≡ true → ahead e g ≡ true
ahead-trans e f g h k =
    let l : e.at < g.at = omega (arith, ahead-at e f h, ahead-at f g k) in
    ahead-i e g (ahead-input e f h ∙ ahead-input f g k) l

pub ahead-strict : Strict ahead
ahead-strict = record { irreflexive = ahead-irrefl; transitive = ahead-trans }

pub beats-irrefl : (ports : ℕ) (e : Waiting) → beats ports e e ≡ false
unfolding beats
beats-irrefl ports e = and_false_r (same_output e e) (over ports e.cell e.cell) (over-irrefl ports e.cell)

pub beats-trans : (ports : ℕ) (e f g : Waiting) → beats ports e f ≡ true → beats ports f g ≡ true
    → beats ports e g ≡ true
beats-trans ports e f g h k =
    beats-i ports e g (beats-output ports e f h ∙ beats-output ports f g k)
    (over-trans ports e.cell f.cell g.cell (beats-over ports e f h) (beats-over ports f g k))

pub beats-strict : (ports : ℕ) → Strict (beats ports)
beats-strict ports = record { irreflexive = beats-irrefl ports; transitive = beats-trans ports }

------------------------------------------------------------------------
-- a member is among

pub among-i : {e : Waiting} {l : List Waiting} → Memᴰ e l → among l e ≡ true
unfolding among
among-i {e} m = some?-i (λ f. eqb f.at e.at) m (eq-eqb e.at e.at refl)

------------------------------------------------------------------------
-- in an orderly list

-- other arrivals differ in input or slot
pub differ : (e f : Waiting) → other_arrival e f ≡ true
    → (e.cell.input ≢ f.cell.input) ⊎ (e.cell.slot ≢ f.cell.slot)
unfolding other_arrival
differ e f h = go (and-false-cases i s (not-true (i && s) h))
  where
    i : Bool
    i = eqb e.cell.input f.cell.input

    s : Bool
    s = eqb e.cell.slot f.cell.slot

    go : (i ≡ false) ⊎ (s ≡ false) → (e.cell.input ≢ f.cell.input) ⊎ (e.cell.slot ≢ f.cell.slot)
    go (inl a) = inl (eqb-false _ _ a)
    go (inr a) = inr (eqb-false _ _ a)

-- of cells with different numbers a number belongs to one
pub same_number : {all : List Waiting} → pairwise other_number all ≡ true → {e f : Waiting} → Memᴰ e all
    → Memᴰ f all → e.at ≡ f.at → e ≡ f
unfolding other_number
same_number {all} numbers {e} {f} m k h = go (pairwise-e other_number all numbers m k)
  where
    go : (e ≡ f) ⊎ ((other_number e f ≡ true) ⊎ (other_number f e ≡ true)) → e ≡ f
    go (inl p) = p
    go (inr (inl n)) = absurd (eqb-false _ _ (not-true (eqb e.at f.at) n) h)
    go (inr (inr n)) = absurd (eqb-false _ _ (not-true (eqb f.at e.at) n) (sym h))

module _ {ports : ℕ} {all : List Waiting} (o : Orderly ports all) where
  -- what is among members is a member
  pub among-e : (l : List Waiting) {e : Waiting} → ((f : Waiting) → Memᴰ f l → Memᴰ f all)
      → Memᴰ e all → among l e ≡ true → Memᴰ e l
  unfolding among
  among-e l {e} within m h =
      let w : Passing (λ f. eqb f.at e.at) l = some?-e (λ f. eqb f.at e.at) l h in
      Memᴰ.cast (same_number o.numbers m (within w.0 w.1) (sym (eqb-true _ _ w.2))) w.1

  -- of two cells of one input, one has the smaller number
  pub ahead-total : {e f : Waiting} → Memᴰ e all → Memᴰ f all → e.cell.input ≡ f.cell.input
      → (e ≡ f) ⊎ ((ahead e f ≡ true) ⊎ (ahead f e ≡ true))
  ahead-total {e} {f} m k h = go (compare e.at f.at)
    where
      go : Compared e.at f.at → (e ≡ f) ⊎ ((ahead e f ≡ true) ⊎ (ahead f e ≡ true))
      go (below l) = inr (inl (ahead-i e f h l))
      go (equal l) = inl (same_number o.numbers m k l)
      go (above l) = inr (inr (ahead-i f e (sym h) l))

  -- of two cells that go to one output, one has the higher priority
  pub beats-total : {e f : Waiting} → Memᴰ e all → Memᴰ f all → e.cell.output ≡ f.cell.output
      → (e ≡ f) ⊎ ((beats ports e f ≡ true) ⊎ (beats ports f e ≡ true))
  beats-total {e} {f} m k h = go (pairwise-e other_arrival all o.arrivals m k)
    where
      one : (over ports e.cell f.cell ≡ true) ⊎ (over ports f.cell e.cell ≡ true)
          → (e ≡ f) ⊎ ((beats ports e f ≡ true) ⊎ (beats ports f e ≡ true))
      one (inl a) = inr (inl (beats-i ports e f h a))
      one (inr a) = inr (inr (beats-i ports f e (sym h) a))

      other : (over ports f.cell e.cell ≡ true) ⊎ (over ports e.cell f.cell ≡ true)
          → (e ≡ f) ⊎ ((beats ports e f ≡ true) ⊎ (beats ports f e ≡ true))
      other (inl a) = one (inr a)
      other (inr a) = one (inl a)

      go : (e ≡ f) ⊎ ((other_arrival e f ≡ true) ⊎ (other_arrival f e ≡ true))
          → (e ≡ f) ⊎ ((beats ports e f ≡ true) ⊎ (beats ports f e ≡ true))
      go (inl p) = inl p
      go (inr (inl n)) = one (over-total ports e.cell f.cell (differ e f n))
      go (inr (inr n)) = other (over-total ports f.cell e.cell (differ f e n))
