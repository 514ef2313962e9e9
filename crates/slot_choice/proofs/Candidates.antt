-- Rule 4: the candidates of an input, where some cell is urgent: its scheduled cell alone where that stands first in
-- the list, and otherwise its urgent cells.
--     among-keep            what is among a kept list passes
--     candidates-first, candidates-urgent   the two cases
--     candidates-none       where no cell is urgent
use Prim.Native.Nat.{ℕ}
use mathlib.Core.Bool.{Bool, true, false, ◌&&◌, ◌||◌, or-false}
use mathlib.Core.Path.{◌≡◌, refl, sym, ◌∙◌, ap, ap₂, subst}
use mathlib.Core.List.{List, [], ◌∷◌, map, Memᴰ}
use borrow.Author.Tests.{eqb-true}
use lib.Dec.{eqb}
use Rattle.laws.specs.Lists.{keep, some?, none?}
use Rattle.laws.proofs.Tests.{by-fail, same, and_i, and_l, and_r}
use Rattle.laws.proofs.Lists.{Passing, some?-e, none?-clash, keep-keep, keep-comm, keep-ext, keep-mem, mem-keep-in}
use Rattle.laws.proofs.Lists.{mem-keep-passes}
use Rattle.laws.proofs.Least.{least-keeps}
use Rattle.model.specs.State.{is_listed}
use Rattle.model.specs.Phase.{Waiting, ahead, among, takes_part, candidates, phase, lists}
use Rattle.model.proofs.PhaseFacts.{lists-listed, head-listed, urgent-head, urgent-ahead, scheduled-head}
use Rattle.model.proofs.WaitingOrder.{among-i, input-i}
use Rattle.slot_view.specs.CodeChoices.{of_input, candidates_of}
use Rattle.slot_choice.specs.CodeWalk.{urgent_of}
use Rattle.slot_choice.proofs.Scans.{is_ready, is_urgent_head, scheduled-ready, urgent-heads}

-- where some cell is urgent
candidates-some : (ls us ss : List Waiting) {u : Waiting} → Memᴰ u us
    → candidates ls us ss ≡ keep (takes_part ls us ss) ls
unfolding candidates
candidates-some ls [] ss m = absurd (mathlib.Core.List.Memᴰ.not-nil m)
candidates-some ls (u ∷ us) ss m = refl

candidates-nil : (ls ss : List Waiting) → candidates ls [] ss ≡ []
unfolding candidates
candidates-nil ls ss = refl

module _ (ports : ℕ) (all : List Waiting)
    (unique : (e f : Waiting) → Memᴰ e all → Memᴰ f all → e.at ≡ f.at → e ≡ f) where
  -- what is among a kept list passes
  among-keep : (q : Waiting → Bool) (l : List Waiting) → l ≡ keep q all → {e : Waiting} → Memᴰ e all
      → among l e ≡ q e
  unfolding among
  among-keep q l h {e} m =
      same (some? number l) (q e)
      (λ s. let w : Passing number l = some?-e number l s in
      let k : Memᴰ w.0 (keep q all) = subst (Memᴰ w.0) h w.1 in
      subst (λ f. q f ≡ true) (unique w.0 e (mem-keep-in q all k) m (eqb-true _ _ w.2)) (mem-keep-passes q all k))
      (λ t. among-i (subst (Memᴰ e) (sym h) (keep-mem q m t)))
    where
      number : Waiting → Bool
      number f = eqb f.at e.at

  -- scheduled cells, as kept
  is_first : Waiting → Bool
  is_first e = is_ready all e && none? (λ f. ahead f e) (keep (is_ready all) all)

  scheduled-kept : (phase ports all).scheduled ≡ keep is_first all
  unfolding is_first
  scheduled-kept =
      scheduled-ready ports all
      ∙ least-keeps ahead (keep (is_ready all) all)
      ∙ keep-keep (is_ready all) (λ e. none? (λ f. ahead f e) (keep (is_ready all) all)) all

  -- it stands first in its list
  stands : Waiting → Bool
  stands e = none? (λ f. ahead f e) (lists all)

  module _ (input : ℕ) {u : Waiting} (some-urgent : Memᴰ u (phase ports all).urgent) where
    is : Waiting → Bool
    is e = eqb e.cell.input input

    takes : Waiting → Bool
    takes e =
        is_listed e.place && (among (phase ports all).urgent e || (among (phase ports all).scheduled e && stands e))

    of_input-candidates : of_input input (phase ports all).candidates ≡ keep takes (of_input input all)
    unfolding of_input is takes stands phase lists takes_part
    of_input-candidates =
        ap (keep is)
        (candidates-some (lists all) (phase ports all).urgent (phase ports all).scheduled some-urgent
        ∙ keep-keep (λ e. is_listed e.place)
        (takes_part (lists all) (phase ports all).urgent (phase ports all).scheduled) all)
        ∙ keep-comm takes is all

    -- a waiting cell of the input
    member : {e : Waiting} → Memᴰ e (of_input input all) → Memᴰ e all × (e.cell.input ≡ input)
    unfolding of_input is
    member m = (mem-keep-in is all m, eqb-true _ _ (mem-keep-passes is all m))

    among-urgent : {e : Waiting} → Memᴰ e all → among (phase ports all).urgent e ≡ is_urgent_head ports all e
    among-urgent m = among-keep (is_urgent_head ports all) (phase ports all).urgent (urgent-heads ports all) m

    among-scheduled : {e : Waiting} → Memᴰ e all → among (phase ports all).scheduled e ≡ is_first e
    among-scheduled m = among-keep is_first (phase ports all).scheduled scheduled-kept m

    is-scheduled : {e : Waiting} → Memᴰ e (of_input input all) → is_first e ≡ true
        → Memᴰ e (of_input input (phase ports all).scheduled)
    unfolding of_input is
    is-scheduled {e} m t =
        keep-mem is (subst (Memᴰ e) (sym scheduled-kept) (keep-mem is_first (member m).0 t))
        (mem-keep-passes is all m)

    is-urgent : {e : Waiting} → Memᴰ e all → is_urgent_head ports all e ≡ true → Memᴰ e (phase ports all).urgent
    is-urgent {e} m t = subst (Memᴰ e) (sym (urgent-heads ports all)) (keep-mem (is_urgent_head ports all) m t)

    -- no scheduled cell stands first in the list: the urgent cells are matched
    pub candidates-urgent : ((s : Waiting) → Memᴰ s (of_input input (phase ports all).scheduled)
        → none? (λ f. ahead f s) (lists all) ≡ true
        → ⊥) → candidates_of (phase ports all) input ≡ urgent_of (phase ports all) input
    unfolding candidates_of urgent_of of_input is stands takes
    candidates-urgent absent =
        ap (map (λ e. e.at))
        (of_input-candidates
        ∙ keep-ext takes (is_urgent_head ports all) (of_input input all) same_test
        ∙ sym (ap (keep is) (urgent-heads ports all) ∙ keep-comm (is_urgent_head ports all) is all))
      where
        no-scheduled : (e : Waiting) → Memᴰ e (of_input input all)
            → (among (phase ports all).scheduled e && stands e) ≡ false
        no-scheduled e m =
            by-fail (among (phase ports all).scheduled e && stands e) (λ t.
            absent e
            (is-scheduled m
            (sym (among-scheduled (member m).0) ∙ and_l (among (phase ports all).scheduled e) (stands e) t))
            (and_r (among (phase ports all).scheduled e) (stands e) t))

        listed-too : (e : Waiting) → Memᴰ e all → is_urgent_head ports all e ≡ true → is_listed e.place ≡ true
        listed-too e m t = lists-listed all (head-listed all (urgent-head ports all (is-urgent m t)))

        same_test : (e : Waiting) → Memᴰ e (of_input input all) → takes e ≡ is_urgent_head ports all e
        same_test e m =
            ap (λ b. is_listed e.place && b)
            (ap₂ ◌||◌ (among-urgent (member m).0) (no-scheduled e m) ∙ or-false (is_urgent_head ports all e))
            ∙ same (is_listed e.place && is_urgent_head ports all e) (is_urgent_head ports all e)
            (and_r (is_listed e.place) (is_urgent_head ports all e))
            (λ t. and_i (is_listed e.place) (is_urgent_head ports all e) (listed-too e (member m).0 t) t)

    -- the scheduled cell stands first in the list: it is matched alone
    pub candidates-first : (s : Waiting) → of_input input (phase ports all).scheduled ≡ s ∷ []
        → none? (λ f. ahead f s) (lists all) ≡ true → candidates_of (phase ports all) input ≡ s.at ∷ []
    unfolding candidates_of of_input is stands takes
    candidates-first s h first =
        ap (map (λ e. e.at))
        (of_input-candidates
        ∙ keep-ext takes is_first (of_input input all) same_test
        ∙ sym (ap (keep is) scheduled-kept ∙ keep-comm is_first is all)
        ∙ h)
      where
        at-s : Memᴰ s (of_input input (phase ports all).scheduled)
        at-s = subst (Memᴰ s) (sym h) (mathlib.Core.List.Memᴰ.head refl)

        s-scheduled : Memᴰ s (phase ports all).scheduled
        s-scheduled = mem-keep-in is (phase ports all).scheduled at-s

        s-input : s.cell.input ≡ input
        s-input = eqb-true _ _ (mem-keep-passes is (phase ports all).scheduled at-s)

        only : (e : Waiting) → Memᴰ e (of_input input all) → is_first e ≡ true → e ≡ s
        only e m t = mathlib.Core.List.Memᴰ.eq_of_singleton (subst (Memᴰ e) h (is-scheduled m t))

        no-urgent : (e : Waiting) → Memᴰ e (of_input input all) → among (phase ports all).urgent e ≡ false
        no-urgent e m =
            by-fail (among (phase ports all).urgent e) (λ t.
            let k = is-urgent (member m).0 (sym (among-urgent (member m).0) ∙ t) in
            none?-clash (λ f. ahead f s) first (head-listed all (urgent-head ports all k))
            (urgent-ahead ports all k s-scheduled (input-i e s ((member m).1 ∙ sym s-input))))

        same_test : (e : Waiting) → Memᴰ e (of_input input all) → takes e ≡ is_first e
        same_test e m =
            ap (λ b. is_listed e.place && b)
            (ap₂ ◌||◌ (no-urgent e m) (ap (λ b. b && stands e) (among-scheduled (member m).0)))
            ∙ same (is_listed e.place && (is_first e && stands e)) (is_first e)
            (λ t. and_l (is_first e) (stands e) (and_r (is_listed e.place) (is_first e && stands e) t))
            (λ t. and_i (is_listed e.place) (is_first e && stands e)
            (lists-listed all (head-listed all (scheduled-head ports all
            (mem-keep-in is (phase ports all).scheduled (is-scheduled m t)))))
            (and_i (is_first e) (stands e) t (subst (λ x. stands x ≡ true) (sym (only e m t)) first)))

-- where no cell is urgent, none is matched
pub candidates-none : (ports : ℕ) (all : List Waiting) (input : ℕ) → (phase ports all).urgent ≡ []
    → candidates_of (phase ports all) input ≡ []
unfolding candidates_of of_input phase keep
candidates-none ports all input h =
    ap (λ us. numbers (candidates (lists all) us (phase ports all).scheduled)) h
    ∙ ap numbers (candidates-nil (lists all) (phase ports all).scheduled)
  where
    numbers : List Waiting → List ℕ
    numbers l = map (λ e. e.at) (keep (λ e. eqb e.cell.input input) l)
