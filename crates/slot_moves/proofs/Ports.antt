-- The choices of a phase, port by port, as numbers.
--     by-is, by-none, by_cases    the number of the cell of a port
--     among-hit                   a cell is among the chosen ones where its number is a port's
--     straight-, sent-, pulled-   the cells that move, with one of them at most for a port
use Prim.Native.Nat.{ℕ, ◌<◌}
use native.Mathlib.Omega.{arith}
use mathlib.Core.Bool.{true}
use mathlib.Core.Path.{◌≡◌, refl, sym, ◌∙◌, ap}
use mathlib.Core.Logic.{◌⊎◌, inl, inr}
use mathlib.Core.List.{List, [], ◌∷◌, Memᴰ}
use borrow.Author.Tests.{eqb-true, eq-eqb}
use lib.Dec.{eqb}
use Rattle.laws.specs.Lists.{keep, first?}
use Rattle.laws.proofs.Tests.{clash, same}
use Rattle.laws.proofs.Lists.{some?-i, keep-mem, mem-keep-in, mem-keep-passes}
use Rattle.model.specs.Phase.{Waiting, among, Phase, phase, ahead, beats}
use Rattle.model.specs.CodeSlackness.{Orderly}
use Rattle.model.proofs.WaitingOrder.{among-e, ahead-total, beats-total}
use Rattle.model.proofs.PhaseFacts.{scheduled-one, sent-scheduled, pulled-one}
use Rattle.model.proofs.PhaseMatching.{straight-matched, match-output, scheduled-all}
use Rattle.model.proofs.PhaseMatching.{pulled-all}
use Rattle.layout_table.specs.CodeEntries.{nowhere}
use Rattle.slot_view.specs.CodeChoices.{number_of, of_input, to_output, scheduled_of}
use Rattle.slot_moves.specs.CodeMoves.{straight_of, sent_of, pulled_of}
use Rattle.slot_leaders.proofs.Best.{number_of-first, number_of-none}
use Rattle.slot_moves.proofs.Written.{hit, Hit, hit-i, hit-e}

------------------------------------------------------------------------
-- the cell of a port

module _ (key : Waiting → ℕ) (l : List Waiting) (i : ℕ) where
  -- the number of the first cell of port i
  abbrev pub number_by : ℕ
  number_by = number_of (first? (keep (λ e. eqb (key e) i) l))

  pub by-is : {e : Waiting} → Memᴰ e l → key e ≡ i → ((f : Waiting) → Memᴰ f l → key f ≡ i → f.at ≡ e.at)
      → number_by ≡ e.at
  by-is {e} m h one =
      number_of-first (keep (λ e. eqb (key e) i) l) e.at (keep-mem (λ e. eqb (key e) i) m (eq-eqb _ _ h)) (λ f k.
      one f (mem-keep-in (λ e. eqb (key e) i) l k) (eqb-true _ _ (mem-keep-passes (λ e. eqb (key e) i) l k)))

  pub by-none : ((f : Waiting) → Memᴰ f l → key f ≡ i → ⊥) → number_by ≡ nowhere
  by-none h =
      number_of-none (keep (λ e. eqb (key e) i) l) (λ f k.
      h f (mem-keep-in (λ e. eqb (key e) i) l k) (eqb-true _ _ (mem-keep-passes (λ e. eqb (key e) i) l k)))

  -- a port has a cell, or none
  pub data ByPort : Type 0 where
    has : (e : Waiting) → Memᴰ e l → key e ≡ i → number_by ≡ e.at → ByPort
    lacks : ((f : Waiting) → Memᴰ f l → key f ≡ i → ⊥) → number_by ≡ nowhere → ByPort

  pub by_cases : ByPort
  unfolding number_of first?
  by_cases = go (keep (λ e. eqb (key e) i) l) refl
    where
      go : (k : List Waiting) → keep (λ e. eqb (key e) i) l ≡ k → ByPort
      go [] e =
          lacks (λ f m h. mathlib.Core.List.Memᴰ.not-nil (rw e at (keep-mem (λ e. eqb (key e) i) m (eq-eqb _ _ h))))
          (ap (λ k. number_of (first? k)) e)
      go (x ∷ k) e =
          let m : Memᴰ x (keep (λ e. eqb (key e) i) l) = rw e (mathlib.Core.List.Memᴰ.head refl) in
          has x (mem-keep-in (λ e. eqb (key e) i) l m) (eqb-true _ _ (mem-keep-passes (λ e. eqb (key e) i) l m))
          (ap (λ k. number_of (first? k)) e)

-- no two of a list are of one port
abbrev pub OnePort : (Waiting → ℕ) → List Waiting → Type 0
OnePort key l = (x y : Waiting) → Memᴰ x l → Memᴰ y l → key x ≡ key y → x ≡ y

pub by_one : (key : Waiting → ℕ) (l : List Waiting) → OnePort key l → {e : Waiting} → Memᴰ e l
    → number_by key l (key e) ≡ e.at
by_one key l one {e} m = by-is key l (key e) m refl (λ f k h. ap (λ x. x.at) (one f e k m h))

-- a cell is among those that the ports chose where its number is the choice of a port
pub among-hit : {ports : ℕ} {all : List Waiting} → Orderly ports all → (key : Waiting → ℕ) (l : List Waiting)
    → ((x : Waiting) → Memᴰ x l → Memᴰ x all) → OnePort key l
    → (f : ℕ → ℕ) (n : ℕ) → ((i : ℕ) → i < n → f i ≡ number_by key l i) → ((x : Waiting) → Memᴰ x l → key x < n)
    → {e : Waiting} → Memᴰ e all → e.at < nowhere → among l e ≡ hit f n e.at
unfolding among
among-hit {ports} {all} o key l within one f n choice port {e} m small = same (among l e) (hit f n e.at) there back
  where
    there : among l e ≡ true → hit f n e.at ≡ true
    there h =
        let i : Memᴰ e l = among-e o l within m h in
        hit-i f n (key e) (port e i) (choice (key e) (port e i) ∙ by_one key l one i)

    back : hit f n e.at ≡ true → among l e ≡ true
    back h = go (hit-e f n e.at h)
      where
        go : Hit f n e.at → among l e ≡ true
        go (i, b, q) = case (by_cases key l i)
          where
            case : ByPort key l i → among l e ≡ true
            case (has x k p s) = some?-i (λ x. eqb x.at e.at) k (eq-eqb _ _ (sym s ∙ sym (choice i b) ∙ q))
            case (lacks u s) = absurd (omega (arith, choice i b))

------------------------------------------------------------------------
-- one cell for a port

abbrev pub input_of : Waiting → ℕ
input_of e = e.cell.input

abbrev pub output_of : Waiting → ℕ
output_of e = e.cell.output

module _ {ports : ℕ} (all : List Waiting) (o : Orderly ports all) where
  pub straight-output : OnePort output_of (phase ports all).straight
  straight-output x y m n h = match-output ports all o (straight-matched ports all m) (straight-matched ports all n) h

  pub scheduled-input : OnePort input_of (phase ports all).scheduled
  scheduled-input x y m n h = go (ahead-total o (scheduled-all ports all m) (scheduled-all ports all n) h)
    where
      go : (x ≡ y) ⊎ ((ahead x y ≡ true) ⊎ (ahead y x ≡ true)) → x ≡ y
      go (inl e) = e
      go (inr (inl a)) = absurd (clash a (scheduled-one ports all m n))
      go (inr (inr a)) = absurd (clash a (scheduled-one ports all n m))

  pub sent-input : OnePort input_of (phase ports all).sent
  sent-input x y m n h = scheduled-input x y (sent-scheduled ports all m) (sent-scheduled ports all n) h

  pub pulled-output : OnePort output_of (phase ports all).pulled
  pulled-output x y m n h = go (beats-total o (pulled-all ports all m) (pulled-all ports all n) h)
    where
      go : (x ≡ y) ⊎ ((beats ports x y ≡ true) ⊎ (beats ports y x ≡ true)) → x ≡ y
      go (inl e) = e
      go (inr (inl a)) = absurd (clash a (pulled-one ports all m n))
      go (inr (inr a)) = absurd (clash a (pulled-one ports all n m))

------------------------------------------------------------------------
-- the definitions are such choices

module _ (p : Phase) (i : ℕ) where
  pub scheduled_of-by : scheduled_of p i ≡ number_by input_of p.scheduled i
  unfolding scheduled_of of_input
  scheduled_of-by = refl

  pub straight_of-by : straight_of p i ≡ number_by output_of p.straight i
  unfolding straight_of to_output
  straight_of-by = refl

  pub sent_of-by : sent_of p i ≡ number_by input_of p.sent i
  unfolding sent_of of_input
  sent_of-by = refl

  pub pulled_of-by : pulled_of p i ≡ number_by output_of p.pulled i
  unfolding pulled_of to_output
  pulled_of-by = refl
