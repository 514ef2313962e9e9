-- The steps of a phase, by their members: what makes a cell one of a step, and what it says of a cell to be one.
--     lists-, crosspoints-   what the phase starts from
--     head-, blocked-        rule 1
--     scheduled-, urgent-    rules 2 and 3
--     sent-, pulled-         rules 5 and 6
-- The candidates, the matching and the straight cells are in PhaseMatching.
use Prim.Native.Nat.{ℕ}
use mathlib.Core.Bool.{Bool, true, false, not, ◌&&◌}
use mathlib.Core.Path.{◌≡◌, sym, ◌∙◌, ap}
use mathlib.Core.Logic.{◌⊎◌, inl, inr}
use mathlib.Core.List.Memᴰ
use mathlib.Core.List.{List, Memᴰ, ◌++◌}
use borrow.Author.Tests.{not-true}
use Rattle.laws.specs.Lists.{keep, none?, all?, least}
use Rattle.laws.specs.Order.{Strict}
use Rattle.laws.proofs.Tests.{clash, and_i, and_l, and_r, not-i, by-fail}
use Rattle.laws.proofs.Lists.{Passing, some?-i, find, none?-e, all?-e, all?-none?, none?-mono, keep-mem, mem-keep-in}
use Rattle.laws.proofs.Lists.{mem-keep-passes}
use Rattle.laws.proofs.Least.{Below, least-below, mem-least-in, mem-least-first}
use Rattle.cell.specs.Flow.{same_flow}
use Rattle.cell.proofs.Flow.{flow-trans}
use Rattle.model.specs.State.{is_listed, is_crossed}
use Rattle.model.specs.Phase.{Waiting, lists, crosspoints, same_input, same_output, same_crosspoint, ahead, beats}
use Rattle.model.specs.Phase.{phase, heads, blocked}
use Rattle.model.specs.Phase.{crosspoint_empty, ready, scheduled, is_urgent, urgent, sent, pulled}
use Rattle.model.proofs.WaitingOrder.{output-i, output-e, beats-output, ahead-irrefl, ahead-trans, ahead-strict}
use Rattle.model.proofs.WaitingOrder.{beats-strict}

------------------------------------------------------------------------
-- the cells in the lists, those at the crosspoints, and the heads

unfoldable pub firsts : List Waiting → List Waiting
firsts all = heads (lists all)

-- e stands before f in the list, and both are of one flow
before : Waiting → Waiting → Bool
before e f = same_flow e.cell f.cell && ahead e f

before-flow : (e f : Waiting) → before e f ≡ true → same_flow e.cell f.cell ≡ true
unfolding before
before-flow e f h = and_l (same_flow e.cell f.cell) (ahead e f) h

before-ahead : (e f : Waiting) → before e f ≡ true → ahead e f ≡ true
unfolding before
before-ahead e f h = and_r (same_flow e.cell f.cell) (ahead e f) h

before-trans : (e f g : Waiting) → before e f ≡ true → before f g ≡ true → before e g ≡ true
unfolding before
before-trans e f g h k =
    and_i (same_flow e.cell g.cell) (ahead e g)
    (flow-trans e.cell f.cell g.cell (before-flow e f h) (before-flow f g k))
    (ahead-trans e f g (before-ahead e f h) (before-ahead f g k))

before-strict : Strict before
before-strict = record {
  irreflexive = λ e. by-fail (before e e) (λ h. clash (before-ahead e e h) (ahead-irrefl e));
  transitive = before-trans;
}

module _ (all : List Waiting) where
  pub lists-i : {e : Waiting} → Memᴰ e all → is_listed e.place ≡ true → Memᴰ e (lists all)
  unfolding lists
  lists-i m h = keep-mem (λ e. is_listed e.place) m h

  pub lists-all : {e : Waiting} → Memᴰ e (lists all) → Memᴰ e all
  unfolding lists
  lists-all m = mem-keep-in (λ e. is_listed e.place) all m

  pub lists-listed : {e : Waiting} → Memᴰ e (lists all) → is_listed e.place ≡ true
  unfolding lists
  lists-listed m = mem-keep-passes (λ e. is_listed e.place) all m

  pub crosspoints-i : {e : Waiting} → Memᴰ e all → is_crossed e.place ≡ true → Memᴰ e (crosspoints all)
  unfolding crosspoints
  crosspoints-i m h = keep-mem (λ e. is_crossed e.place) m h

  pub crosspoints-all : {e : Waiting} → Memᴰ e (crosspoints all) → Memᴰ e all
  unfolding crosspoints
  crosspoints-all m = mem-keep-in (λ e. is_crossed e.place) all m

  pub crosspoints-crossed : {e : Waiting} → Memᴰ e (crosspoints all) → is_crossed e.place ≡ true
  unfolding crosspoints
  crosspoints-crossed m = mem-keep-passes (λ e. is_crossed e.place) all m

  pub head-listed : {h : Waiting} → Memᴰ h (firsts all) → Memᴰ h (lists all)
  unfolding firsts heads before
  head-listed m = mem-least-in before (lists all) m

  -- a listed cell is a head, or the head of its flow stands before it
  pub head_of : {e : Waiting} → Memᴰ e (lists all)
      → (h : Waiting) × Memᴰ h (firsts all)
      × ((h ≡ e) ⊎ ((same_flow h.cell e.cell ≡ true) × (ahead h e ≡ true)))
  unfolding firsts heads before
  head_of {e} m = (w.0, w.1, go w.2)
    where
      w : Below before (lists all) e
      w = least-below before before-strict (lists all) m

      go : (w.0 ≡ e) ⊎ (before w.0 e ≡ true)
          → (w.0 ≡ e) ⊎ ((same_flow w.0.cell e.cell ≡ true) × (ahead w.0 e ≡ true))
      go (inl p) = inl p
      go (inr b) = inr (before-flow w.0 e b, before-ahead w.0 e b)

  -- the crosspoint of a cell holds another, or it is empty
  pub crosspoint-find : (h : Waiting)
      → Passing (same_crosspoint h) (crosspoints all) ⊎ (crosspoint_empty (crosspoints all) h ≡ true)
  unfolding crosspoint_empty
  crosspoint-find h = find (same_crosspoint h) (crosspoints all)

module _ (ports : ℕ) (all : List Waiting) where
  ------------------------------------------------------------------------
  -- blocked heads, and the scheduled cells

  pub blocked-i : (h : Waiting) {x : Waiting} → Memᴰ x (crosspoints all) → same_crosspoint h x ≡ true
      → beats ports h x ≡ true → blocked ports (crosspoints all) h ≡ true
  unfolding blocked
  blocked-i h {x} m s b =
      some?-i (λ x. same_crosspoint h x && beats ports h x) m (and_i (same_crosspoint h x) (beats ports h x) s b)

  prepared : List Waiting
  prepared = keep (ready ports (crosspoints all)) (firsts all)

  pub scheduled-head : {s : Waiting} → Memᴰ s (phase ports all).scheduled → Memᴰ s (firsts all)
  unfolding phase scheduled firsts prepared
  scheduled-head m = mem-keep-in (ready ports (crosspoints all)) (firsts all) (mem-least-in ahead prepared m)

  scheduled-ready : {s : Waiting} → Memᴰ s (phase ports all).scheduled → ready ports (crosspoints all) s ≡ true
  unfolding phase scheduled firsts prepared
  scheduled-ready m = mem-keep-passes (ready ports (crosspoints all)) (firsts all) (mem-least-in ahead prepared m)

  pub scheduled-normal : {s : Waiting} → Memᴰ s (phase ports all).scheduled
      → blocked ports (crosspoints all) s ≡ false
  unfolding ready
  scheduled-normal {s} m =
      not-true (blocked ports (crosspoints all) s)
      (and_l (not (blocked ports (crosspoints all) s)) _ (scheduled-ready m))

  pub scheduled-empty : {s x : Waiting} → Memᴰ s (phase ports all).scheduled → Memᴰ x (crosspoints all)
      → same_crosspoint s x ≡ false
  unfolding ready crosspoint_empty
  scheduled-empty {s} m k =
      none?-e (same_crosspoint s)
      (and_r (not (blocked ports (crosspoints all) s)) _ (scheduled-ready m)) k

  -- an input has one scheduled cell
  pub scheduled-one : {s t : Waiting} → Memᴰ s (phase ports all).scheduled
      → Memᴰ t (phase ports all).scheduled
      → ahead s t ≡ false
  unfolding phase scheduled firsts prepared
  scheduled-one m k = mem-least-first ahead prepared k (mem-least-in ahead prepared m)

  -- a normal head with an empty crosspoint is scheduled, or the scheduled cell of its input stands before it
  pub scheduled-of : {h : Waiting} → Memᴰ h (firsts all) → blocked ports (crosspoints all) h ≡ false
      → crosspoint_empty (crosspoints all) h ≡ true
      → (s : Waiting) × Memᴰ s (phase ports all).scheduled × ((s ≡ h) ⊎ (ahead s h ≡ true))
  unfolding phase scheduled firsts ready prepared
  scheduled-of {h} m n c =
      least-below ahead ahead-strict prepared
      (keep-mem (ready ports (crosspoints all)) m
      (and_i (not (blocked ports (crosspoints all) h)) (crosspoint_empty (crosspoints all) h)
      (not-i (blocked ports (crosspoints all) h) n) c))

  ------------------------------------------------------------------------
  -- the urgent cells

  pub urgent-head : {u : Waiting} → Memᴰ u (phase ports all).urgent → Memᴰ u (firsts all)
  unfolding phase urgent firsts
  urgent-head m = mem-keep-in (is_urgent ports (crosspoints all) (phase ports all).scheduled) (firsts all) m

  urgent-test : {u : Waiting} → Memᴰ u (phase ports all).urgent
      → is_urgent ports (crosspoints all) (phase ports all).scheduled u ≡ true
  unfolding phase urgent firsts
  urgent-test m = mem-keep-passes (is_urgent ports (crosspoints all) (phase ports all).scheduled) (firsts all) m

  -- before every scheduled cell of its input
  foremost : Waiting → Bool
  foremost h = all? (ahead h) (keep (same_input h) (phase ports all).scheduled)

  -- over every crosspoint cell of its output
  uppermost : Waiting → Bool
  uppermost h = all? (beats ports h) (keep (same_output h) (crosspoints all))

  pub urgent-blocked : {u : Waiting} → Memᴰ u (phase ports all).urgent → blocked ports (crosspoints all) u ≡ true
  unfolding is_urgent foremost uppermost
  urgent-blocked {u} m = and_l (blocked ports (crosspoints all) u) (foremost u && uppermost u) (urgent-test m)

  pub urgent-ahead : {u s : Waiting} → Memᴰ u (phase ports all).urgent → Memᴰ s (phase ports all).scheduled
      → same_input u s ≡ true → ahead u s ≡ true
  unfolding is_urgent foremost uppermost
  urgent-ahead {u} m k i =
      all?-e (ahead u)
      (and_l (foremost u) (uppermost u)
      (and_r (blocked ports (crosspoints all) u) (foremost u && uppermost u) (urgent-test m)))
      (keep-mem (same_input u) k i)

  pub urgent-beats : {u x : Waiting} → Memᴰ u (phase ports all).urgent → Memᴰ x (crosspoints all)
      → same_output u x ≡ true → beats ports u x ≡ true
  unfolding is_urgent foremost uppermost
  urgent-beats {u} m k i =
      all?-e (beats ports u)
      (and_r (foremost u) (uppermost u)
      (and_r (blocked ports (crosspoints all) u) (foremost u && uppermost u) (urgent-test m)))
      (keep-mem (same_output u) k i)

  -- why a blocked head is not urgent
  pub data NotUrgent (h : Waiting) : Type 0 where
    behind : (s : Waiting) → Memᴰ s (phase ports all).scheduled → same_input h s ≡ true → ahead h s ≡ false
        → NotUrgent h
    beaten : (x : Waiting) → Memᴰ x (crosspoints all) → same_output h x ≡ true → beats ports h x ≡ false
        → NotUrgent h

  pub urgent-or : {h : Waiting} → Memᴰ h (firsts all) → blocked ports (crosspoints all) h ≡ true
      → Memᴰ h (phase ports all).urgent ⊎ NotUrgent h
  unfolding phase urgent is_urgent firsts
  urgent-or {h} m b = go (find (λ s. not (ahead h s)) near) (find (λ x. not (beats ports h x)) facing)
    where
      near : List Waiting
      near = keep (same_input h) (phase ports all).scheduled

      facing : List Waiting
      facing = keep (same_output h) (crosspoints all)

      go : Passing (λ s. not (ahead h s)) near ⊎ (none? (λ s. not (ahead h s)) near ≡ true)
          → Passing (λ x. not (beats ports h x)) facing ⊎ (none? (λ x. not (beats ports h x)) facing ≡ true)
          → Memᴰ h (phase ports all).urgent ⊎ NotUrgent h
      go (inl w) t =
          inr (behind w.0 (mem-keep-in (same_input h) (phase ports all).scheduled w.1)
          (mem-keep-passes (same_input h) (phase ports all).scheduled w.1) (not-true (ahead h w.0) w.2))
      go (inr f) (inl w) =
          inr (beaten w.0 (mem-keep-in (same_output h) (crosspoints all) w.1)
          (mem-keep-passes (same_output h) (crosspoints all) w.1) (not-true (beats ports h w.0) w.2))
      go (inr f) (inr g) =
          inl (keep-mem (is_urgent ports (crosspoints all) (phase ports all).scheduled) m
          (and_i (blocked ports (crosspoints all) h) (all? (ahead h) near && all? (beats ports h) facing) b
          (and_i (all? (ahead h) near) (all? (beats ports h) facing)
          (all?-none? (ahead h) near ∙ f) (all?-none? (beats ports h) facing ∙ g))))

  ------------------------------------------------------------------------
  -- the sent and the pulled cells

  pub sent-i : {s : Waiting} → Memᴰ s (phase ports all).scheduled
      → none? (same_input s) (phase ports all).straight ≡ true
      → Memᴰ s (phase ports all).sent
  unfolding phase sent
  sent-i m n = keep-mem (λ s. none? (same_input s) (phase ports all).straight) m n

  pub sent-scheduled : {s : Waiting} → Memᴰ s (phase ports all).sent → Memᴰ s (phase ports all).scheduled
  unfolding phase sent
  sent-scheduled m = mem-keep-in (λ s. none? (same_input s) (phase ports all).straight) (phase ports all).scheduled m

  pub sent-free : {s u : Waiting} → Memᴰ s (phase ports all).sent → Memᴰ u (phase ports all).straight
      → same_input s u ≡ false
  unfolding phase sent
  sent-free {s} m k =
      none?-e (same_input s)
      (mem-keep-passes (λ s. none? (same_input s) (phase ports all).straight) (phase ports all).scheduled m) k

  pub pulled-in : {x : Waiting} → Memᴰ x (phase ports all).pulled
      → Memᴰ x (crosspoints all) ⊎ Memᴰ x (phase ports all).sent
  unfolding phase pulled
  pulled-in m =
      Memᴰ.append_cases (crosspoints all)
      (mem-least-in (beats ports) (crosspoints all ++ (phase ports all).sent)
      (mem-keep-in (λ x. none? (same_output x) (phase ports all).straight)
      (least (beats ports) (crosspoints all ++ (phase ports all).sent)) m))

  pub pulled-free : {x u : Waiting} → Memᴰ x (phase ports all).pulled → Memᴰ u (phase ports all).straight
      → same_output x u ≡ false
  unfolding phase pulled
  pulled-free {x} m k =
      none?-e (same_output x)
      (mem-keep-passes (λ x. none? (same_output x) (phase ports all).straight)
      (least (beats ports) (crosspoints all ++ (phase ports all).sent)) m) k

  -- an output pulls one cell
  pub pulled-one : {x y : Waiting} → Memᴰ x (phase ports all).pulled → Memᴰ y (phase ports all).pulled
      → beats ports x y ≡ false
  unfolding phase pulled
  pulled-one m k =
      mem-least-first (beats ports) (crosspoints all ++ (phase ports all).sent) (first k)
      (mem-least-in (beats ports) (crosspoints all ++ (phase ports all).sent) (first m))
    where
      first : {x : Waiting} → Memᴰ x (phase ports all).pulled
          → Memᴰ x (least (beats ports) (crosspoints all ++ (phase ports all).sent))
      first i =
          mem-keep-in (λ x. none? (same_output x) (phase ports all).straight)
          (least (beats ports) (crosspoints all ++ (phase ports all).sent)) i

  -- of an output that got no straight cell, what is pulled is at or over each cell at its crosspoints, those just
  -- filled included
  pub pulled-of : {x : Waiting} → Memᴰ x (crosspoints all) ⊎ Memᴰ x (phase ports all).sent
      → none? (same_output x) (phase ports all).straight ≡ true
      → (f : Waiting) × Memᴰ f (phase ports all).pulled × ((f ≡ x) ⊎ (beats ports f x ≡ true))
  unfolding phase pulled
  pulled-of {x} m n = (w.0, keep-mem (λ x. none? (same_output x) (phase ports all).straight) w.1 free, w.2)
    where
      both : Memᴰ x (crosspoints all) ⊎ Memᴰ x (phase ports all).sent
          → Memᴰ x (crosspoints all ++ (phase ports all).sent)
      both (inl i) = Memᴰ.append_left (phase ports all).sent i
      both (inr i) = Memᴰ.append_right (crosspoints all) i

      w : Below (beats ports) (crosspoints all ++ (phase ports all).sent) x
      w = least-below (beats ports) (beats-strict ports) (crosspoints all ++ (phase ports all).sent) (both m)

      output : (w.0 ≡ x) ⊎ (beats ports w.0 x ≡ true) → w.0.cell.output ≡ x.cell.output
      output (inl e) = ap (λ y. y.cell.output) e
      output (inr b) = beats-output ports w.0 x b

      free : none? (same_output w.0) (phase ports all).straight ≡ true
      free =
          none?-mono (same_output x) (same_output w.0) (phase ports all).straight
          (λ u k h. output-i x u (sym (output w.2) ∙ output-e w.0 u h)) n
