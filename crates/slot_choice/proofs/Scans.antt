-- The choices of a phase for one input, as a walk along its heads finds them.
--     scheduled-ready, urgent-heads      rules 1 to 3 by tests of one cell
--     empty-normal                       a head whose crosspoint is empty is not blocked
--     scheduled-none, scheduled-first    the first head that is ready is scheduled
--     urgent-known, urgent-early         whether a head is urgent, once that is known, and where it is yet to come
use Prim.Native.Nat.{ℕ}
use mathlib.Core.Bool.{Bool, true, false, not, ◌&&◌}
use mathlib.Core.Path.{◌≡◌, refl, sym, ◌∙◌, ap, ap₂, subst}
use mathlib.Core.Logic.{◌⊎◌, inl, inr}
use mathlib.Core.List.Memᴰ
use mathlib.Core.List.{List, [], ◌∷◌, ◌++◌, Memᴰ}
use borrow.Author.Tests.{eqb-true, eq-eqb}
use lib.Dec.{eqb}
use Rattle.laws.specs.Lists.{keep, some?, none?, all?, least, pairwise}
use Rattle.laws.specs.Order.{Strict}
use Rattle.laws.proofs.Tests.{clash, by-fail, same, and_i, and_l, and_r, not-i}
use Rattle.laws.proofs.Lists.{Passing, some?-e, none?-i, none?-clash, all?-nil, all?-cons, all?-i}
use Rattle.laws.proofs.Lists.{keep-nil, keep-pass, keep-fail, keep_append, keep-keep, keep-comm, keep-ext, keep-none}
use Rattle.laws.proofs.Lists.{keep_all}
use Rattle.laws.proofs.Lists.{mem-keep-in, mem-keep-passes}
use Rattle.laws.proofs.Least.{least-keeps, least-nil, keep-least}
use Rattle.laws.proofs.Pairwise.{pairwise-head, pairwise-append-r, pairwise-keep}
use Rattle.cell.specs.Flow.{same_flow}
use Rattle.model.specs.State.{is_listed}
use Rattle.model.specs.Phase.{Waiting, same_input, same_output, same_crosspoint, ahead, beats, heads, blocked}
use Rattle.model.specs.Phase.{crosspoint_empty, ready, scheduled, is_urgent, urgent, phase, lists, crosspoints}
use Rattle.model.proofs.PhaseFacts.{firsts}
use Rattle.model.proofs.WaitingOrder.{ahead-strict, ahead-input, input-i, input-e}
use Rattle.slot_view.specs.CodeChoices.{of_input}
use Rattle.slot_view.specs.CodeViewed.{is_head}

------------------------------------------------------------------------
-- a list in order has one least

module _ {A : Type 0} (lt : A → A → Bool) (strict : Strict lt) where
  pub least-ordered : (x : A) (l : List A) → pairwise lt (x ∷ l) ≡ true → least lt (x ∷ l) ≡ x ∷ []
  least-ordered x l h =
      least-keeps lt (x ∷ l)
      ∙ keep-pass first x l (none?-i (λ y. lt y x) (x ∷ l) (λ y m. go y (Memᴰ.cases_cons m)))
      ∙ ap (λ k. x ∷ k) (keep-none first l (none?-i first l (λ y m. by-fail (first y) (behind y m))))
    where
      first : A → Bool
      first y = none? (λ z. lt z y) (x ∷ l)

      behind : (y : A) → Memᴰ y l → first y ≡ true → ⊥
      behind y m n = none?-clash (λ z. lt z y) n (Memᴰ.head refl) (pairwise-head lt h m)

      go : (y : A) → (y ≡ x) ⊎ Memᴰ y l → lt y x ≡ false
      go y (inl e) = ap (λ z. lt z x) e ∙ strict.irreflexive x
      go y (inr m) =
          by-fail (lt y x) (λ t. clash (strict.transitive x y x (pairwise-head lt h m) t) (strict.irreflexive x))

------------------------------------------------------------------------
-- rules 1 to 3 by tests of one cell

-- a head whose crosspoint is empty
unfoldable pub is_ready : List Waiting → Waiting → Bool
is_ready all e = is_head all e && crosspoint_empty (crosspoints all) e

module _ (ports : ℕ) (all : List Waiting) where
  firsts-heads : firsts all ≡ keep (is_head all) all
  unfolding firsts heads lists is_head
  firsts-heads =
      least-keeps before (lists all)
      ∙ keep-keep (λ e. is_listed e.place) (λ e. none? (λ f. before f e) (lists all)) all
    where
      before : Waiting → Waiting → Bool
      before e f = same_flow e.cell f.cell && ahead e f

  -- a cell whose crosspoint is empty is not blocked
  pub empty-normal : (e : Waiting) → crosspoint_empty (crosspoints all) e ≡ true → blocked ports (crosspoints all) e ≡ false
  unfolding crosspoint_empty blocked
  empty-normal e h =
      by-fail (some? (λ x. same_crosspoint e x && beats ports e x) (crosspoints all)) (λ s.
      let w : Passing (λ x. same_crosspoint e x && beats ports e x) (crosspoints all) =
      some?-e (λ x. same_crosspoint e x && beats ports e x) (crosspoints all) s in
      none?-clash (same_crosspoint e) h w.1 (and_l (same_crosspoint e w.0) (beats ports e w.0) w.2))

  pub scheduled-ready : (phase ports all).scheduled ≡ least ahead (keep (is_ready all) all)
  unfolding phase scheduled ready firsts is_ready
  scheduled-ready =
      ap (least ahead)
      (ap (keep normal) firsts-heads
      ∙ keep-keep (is_head all) normal all
      ∙ keep-ext (λ e. is_head all e && normal e) (is_ready all) all (λ e m. ap (λ b. is_head all e && b) (go e)))
    where
      empty : Waiting → Bool
      empty e = crosspoint_empty (crosspoints all) e

      normal : Waiting → Bool
      normal e = not (blocked ports (crosspoints all) e) && empty e

      go : (e : Waiting) → normal e ≡ empty e
      go e =
          same (normal e) (empty e) (and_r (not (blocked ports (crosspoints all) e)) (empty e))
          (λ h. and_i (not (blocked ports (crosspoints all) e)) (empty e)
          (not-i (blocked ports (crosspoints all) e) (empty-normal e h)) h)

  -- a head that is urgent
  unfoldable pub is_urgent_head : Waiting → Bool
  is_urgent_head e = is_head all e && is_urgent ports (crosspoints all) (phase ports all).scheduled e

  pub urgent-heads : (phase ports all).urgent ≡ keep is_urgent_head all
  unfolding phase urgent firsts is_urgent_head
  urgent-heads =
      ap (keep test) firsts-heads ∙ keep-keep (is_head all) test all
    where
      test : Waiting → Bool
      test e = is_urgent ports (crosspoints all) (phase ports all).scheduled e

  -- of the scheduled cells only those of its input count
  urgent-by : (e : Waiting) (ss ts : List Waiting)
      → all? (ahead e) (keep (same_input e) ss) ≡ all? (ahead e) (keep (same_input e) ts)
      → is_urgent ports (crosspoints all) ss e ≡ is_urgent ports (crosspoints all) ts e
  unfolding is_urgent
  urgent-by e ss ts h =
      ap (λ b. blocked ports (crosspoints all) e && (b && all? (beats ports e) (keep (same_output e) (crosspoints all)))) h

  ------------------------------------------------------------------------
  -- one input

  module _ (input : ℕ) where
    is : Waiting → Bool
    is e = eqb e.cell.input input

    -- its heads, in list order
    unfoldable pub heads_of : List Waiting
    heads_of = keep (is_head all) (of_input input all)

    -- a test that only heads pass
    of-heads : (p : Waiting → Bool) → ((e : Waiting) → p e ≡ true → is_head all e ≡ true)
        → keep p (of_input input all) ≡ keep p heads_of
    unfolding heads_of
    of-heads p head =
        keep-ext p (λ e. is_head all e && p e) (of_input input all) (λ e m.
        same (p e) (is_head all e && p e) (λ t. and_i (is_head all e) (p e) (head e t) t) (and_r (is_head all e) (p e)))
        ∙ sym (keep-keep (is_head all) p (of_input input all))

    pub of_input-scheduled : of_input input (phase ports all).scheduled ≡ least ahead (keep (is_ready all) heads_of)
    unfolding of_input is is_ready
    of_input-scheduled =
        ap (keep is) scheduled-ready
        ∙ keep-least ahead is (keep (is_ready all) all)
        (λ x y m k h t. eq-eqb _ _ (ahead-input y x t ∙ eqb-true _ _ h))
        ∙ ap (least ahead)
        (keep-comm (is_ready all) is all ∙ of-heads (is_ready all) (λ e t. and_l (is_head all e) _ t))

    pub of_input-urgent : of_input input (phase ports all).urgent
        ≡ keep (is_urgent ports (crosspoints all) (phase ports all).scheduled) heads_of
    unfolding of_input is heads_of is_urgent_head
    of_input-urgent =
        ap (keep is) urgent-heads
        ∙ keep-comm is_urgent_head is all
        ∙ sym (keep-keep (is_head all) (is_urgent ports (crosspoints all) (phase ports all).scheduled) (of_input input all))

    -- the cells of its own input
    near : (e : Waiting) → e.cell.input ≡ input → (l : List Waiting) → keep (same_input e) l ≡ of_input input l
    unfolding of_input is
    near e h l =
        keep-ext (same_input e) is l (λ f m.
        same (same_input e f) (is f)
        (λ t. eq-eqb _ _ (sym (input-e e f t) ∙ h))
        (λ t. input-i e f (h ∙ sym (eqb-true _ _ t))))

    member-input : {e : Waiting} → Memᴰ e heads_of → e.cell.input ≡ input
    unfolding heads_of of_input is
    member-input m = eqb-true _ _ (mem-keep-passes is all (mem-keep-in (is_head all) (of_input input all) m))

    -- where the scheduled cells of its input are known
    pub urgent-known : (e : Waiting) (ss : List Waiting) → e.cell.input ≡ input
        → of_input input (phase ports all).scheduled ≡ ss
        → is_urgent ports (crosspoints all) ss e ≡ is_urgent ports (crosspoints all) (phase ports all).scheduled e
    unfolding of_input is
    urgent-known e ss own known =
        urgent-by e ss (phase ports all).scheduled
        (ap (all? (ahead e))
        (near e own ss
        ∙ ap (keep is) (sym known)
        ∙ keep_all is (keep is (phase ports all).scheduled)
        (all?-i is (keep is (phase ports all).scheduled) (λ f m. mem-keep-passes is (phase ports all).scheduled m))
        ∙ sym (near e own (phase ports all).scheduled)))

    -- no head is ready
    pub scheduled-none : keep (is_ready all) heads_of ≡ [] → of_input input (phase ports all).scheduled ≡ []
    scheduled-none h = of_input-scheduled ∙ ap (least ahead) h ∙ least-nil ahead

    module _ (in_order : pairwise ahead heads_of ≡ true) where
      -- the first of those that are
      pub scheduled-first : {s : Waiting} {l : List Waiting} → keep (is_ready all) heads_of ≡ s ∷ l
          → of_input input (phase ports all).scheduled ≡ s ∷ []
      scheduled-first {s} {l} h =
          of_input-scheduled
          ∙ ap (least ahead) h
          ∙ least-ordered ahead ahead-strict s l
          (subst (λ k. pairwise ahead k ≡ true) h (pairwise-keep ahead (is_ready all) heads_of in_order))

      -- a head that is not ready, where none of those before it is
      module _ (front back : List Waiting) (e : Waiting) (split : heads_of ≡ front ++ (e ∷ back))
          (none : keep (is_ready all) front ≡ []) (busy : is_ready all e ≡ false) where
        ready-behind : keep (is_ready all) heads_of ≡ keep (is_ready all) back
        ready-behind =
            ap (keep (is_ready all)) split
            ∙ keep_append (is_ready all) front (e ∷ back)
            ∙ ap₂ ◌++◌ none (keep-fail (is_ready all) e back busy)

        -- it stands before the scheduled cell
        before-scheduled : all? (ahead e) (keep (same_input e) (phase ports all).scheduled) ≡ true
        before-scheduled =
            ap (all? (ahead e)) (near e own (phase ports all).scheduled) ∙ go (keep (is_ready all) back) refl
          where
            own : e.cell.input ≡ input
            own = member-input (subst (Memᴰ e) (sym split) (Memᴰ.append_right front (Memᴰ.head refl)))

            go : (l : List Waiting) → keep (is_ready all) back ≡ l
                → all? (ahead e) (of_input input (phase ports all).scheduled) ≡ true
            go [] q = ap (all? (ahead e)) (scheduled-none (ready-behind ∙ q)) ∙ all?-nil (ahead e)
            go (s ∷ l) q =
                ap (all? (ahead e)) (scheduled-first (ready-behind ∙ q))
                ∙ all?-cons (ahead e) s []
                ∙ and_i (ahead e s) (all? (ahead e) [])
                (pairwise-head ahead
                (pairwise-append-r ahead front (e ∷ back) (subst (λ k. pairwise ahead k ≡ true) split in_order))
                (mem-keep-in (is_ready all) back (subst (Memᴰ s) (sym q) (Memᴰ.head refl))))
                (all?-nil (ahead e))

        -- as if there were none
        pub urgent-early : is_urgent ports (crosspoints all) [] e
            ≡ is_urgent ports (crosspoints all) (phase ports all).scheduled e
        urgent-early =
            urgent-by e [] (phase ports all).scheduled
            (ap (all? (ahead e)) (keep-nil (same_input e)) ∙ all?-nil (ahead e) ∙ sym before-scheduled)
