-- What a phase gains for each cell outside the buffers, after the cases of the source's section 4.
--     Gone e          e or a cell ahead of it leaves the list
--     Got e           e or a cell that beats it enters the output's buffer
--     crossed-got     a cell at a crosspoint
--     head-gain       a head: normal with its crosspoint occupied or empty, blocked and not urgent, urgent
--     listed-gain     any cell in a list
--     sent-gain       a scheduled cell that goes to its crosspoint: it had cells ahead of it, or it gains there
use Prim.Native.Nat.{ℕ, ◌<◌}
use mathlib.Core.Bool.{true, false, ◌&&◌}
use mathlib.Core.Path.{◌≡◌, refl, sym, ◌∙◌, ap, subst}
use mathlib.Core.Logic.{◌⊎◌, inl, inr}
use mathlib.Core.List.{List, Memᴰ}
use Rattle.laws.specs.Lists.{some?, none?, count}
use Rattle.laws.proofs.Tests.{clash, and_i, either, by-fail}
use Rattle.laws.proofs.Lists.{Passing, some?-e, find, none?-i, none?-clash}
use Rattle.laws.proofs.Count.{count-pos}
use Rattle.cell.specs.Flow.{same_flow}
use Rattle.cell.proofs.Flow.{flow-output}
use Rattle.model.specs.State.{is_listed, is_crossed, is_buffered}
use Rattle.model.specs.Phase.{Waiting, same_input, same_output, same_crosspoint, ahead, beats, phase, blocked}
use Rattle.model.specs.Phase.{crosspoint_empty, place_after, lists, crosspoints}
use Rattle.model.specs.CodeSlackness.{Orderly, thread}
use Rattle.model.proofs.WaitingOrder.{input-i, input-e, output-i, output-e, crosspoint-output, beats-i}
use Rattle.model.proofs.WaitingOrder.{beats-output, ahead-trans, beats-trans, ahead-total, beats-total}
use Rattle.model.proofs.PhaseFacts.{firsts, lists-all, lists-listed, crosspoints-all}
use Rattle.model.proofs.PhaseFacts.{crosspoints-crossed, head-listed, head_of, blocked-i, crosspoint-find}
use Rattle.model.proofs.PhaseFacts.{scheduled-normal, scheduled-of, urgent-blocked, urgent-ahead, urgent-beats}
use Rattle.model.proofs.PhaseFacts.{NotUrgent, urgent-or, sent-i, sent-scheduled, pulled-of, behind, beaten}
use Rattle.model.proofs.PhaseMatching.{candidate-listed, candidate-urgent, candidate-scheduled, phase-stable}
use Rattle.model.proofs.PhaseMatching.{match-candidate, straight-i, straight-matched, head-all, scheduled-all}
use Rattle.model.proofs.PhaseMatching.{straight-all, pulled-all, match-kind, match-input, match-output}
use Rattle.model.proofs.PhaseMatching.{straight-urgent}
use Rattle.model.proofs.PhasePlaces.{listed-not-buffered, listed-not-crossed, straight-listed, sent-listed}
use Rattle.model.proofs.PhasePlaces.{pulled-outside, after-straight, after-pulled, after-sent}

------------------------------------------------------------------------
-- the two gains

-- a listed cell ahead of a listed cell counts in its thread
thread-pos : (all : List Waiting) (e : Waiting) {f : Waiting} → is_listed e.place ≡ true → Memᴰ f all
    → is_listed f.place ≡ true → ahead f e ≡ true → 0 < thread all e
unfolding thread
thread-pos all e {f} l m h a =
    let c : 0 < count (λ f. is_listed f.place && ahead f e) all =
    count-pos (λ f. is_listed f.place && ahead f e) m (and_i (is_listed f.place) (ahead f e) h a) in
    rw l c

module _ (ports : ℕ) (all : List Waiting) where
  pub record Gone (e : Waiting) : Type 0 where
    pub it : Waiting
    pub member : Memᴰ it all
    pub before : is_listed it.place ≡ true
    pub after : is_listed (place_after (phase ports all) it) ≡ false
    pub stands : (it ≡ e) ⊎ (ahead it e ≡ true)

  pub record Got (e : Waiting) : Type 0 where
    pub it : Waiting
    pub member : Memᴰ it all
    pub before : is_buffered it.place ≡ false
    pub after : is_buffered (place_after (phase ports all) it) ≡ true
    pub stands : (it ≡ e) ⊎ (beats ports it e ≡ true)

  -- what is gone for a cell is gone for those behind it
  gone-behind : {e f : Waiting} → ahead e f ≡ true → Gone e → Gone f
  gone-behind {e} {f} h g = record {
    it = g.it;
    member = g.member;
    before = g.before;
    after = g.after;
    stands = go g.stands;
  }
    where
      go : (g.it ≡ e) ⊎ (ahead g.it e ≡ true) → (g.it ≡ f) ⊎ (ahead g.it f ≡ true)
      go (inl p) = inr (ap (λ x. ahead x f) p ∙ h)
      go (inr k) = inr (ahead-trans g.it e f k h)

  gone-from : {e f : Waiting} → (e ≡ f) ⊎ (ahead e f ≡ true) → Gone e → Gone f
  gone-from (inl p) g = subst Gone p g
  gone-from (inr h) g = gone-behind h g

  -- what is got for a cell is got for those that it beats
  got-beaten : {e f : Waiting} → beats ports e f ≡ true → Got e → Got f
  got-beaten {e} {f} h g = record {
    it = g.it;
    member = g.member;
    before = g.before;
    after = g.after;
    stands = go g.stands;
  }
    where
      go : (g.it ≡ e) ⊎ (beats ports g.it e ≡ true) → (g.it ≡ f) ⊎ (beats ports g.it f ≡ true)
      go (inl p) = inr (ap (λ x. beats ports x f) p ∙ h)
      go (inr k) = inr (beats-trans ports g.it e f k h)

  ------------------------------------------------------------------------
  -- by what moves

  straight-gone : {u e : Waiting} → Memᴰ u (phase ports all).straight → (u ≡ e) ⊎ (ahead u e ≡ true) → Gone e
  unfolding is_listed
  straight-gone {u} m h = record {
    it = u;
    member = straight-all ports all m;
    before = straight-listed ports all m;
    after = ap is_listed (after-straight ports all m);
    stands = h;
  }

  sent-gone : {s e : Waiting} → Memᴰ s (phase ports all).sent → (s ≡ e) ⊎ (ahead s e ≡ true) → Gone e
  sent-gone {s} m h = record {
    it = s;
    member = scheduled-all ports all (sent-scheduled ports all m);
    before = sent-listed ports all m;
    after = after-sent ports all m;
    stands = h;
  }

  straight-got : {u e : Waiting} → Memᴰ u (phase ports all).straight → (u ≡ e) ⊎ (beats ports u e ≡ true) → Got e
  unfolding is_buffered
  straight-got {u} m h = record {
    it = u;
    member = straight-all ports all m;
    before = listed-not-buffered u.place (straight-listed ports all m);
    after = ap is_buffered (after-straight ports all m);
    stands = h;
  }

  pulled-got : {x e : Waiting} → Memᴰ x (phase ports all).pulled → (x ≡ e) ⊎ (beats ports x e ≡ true) → Got e
  unfolding is_buffered
  pulled-got {x} m h = record {
    it = x;
    member = pulled-all ports all m;
    before = pulled-outside ports all m;
    after = ap is_buffered (after-pulled ports all m);
    stands = h;
  }

  ------------------------------------------------------------------------
  -- the cases

  -- the output got no straight cell
  bypassed-got : {x : Waiting} → Memᴰ x (crosspoints all) ⊎ Memᴰ x (phase ports all).sent
      → none? (same_output x) (phase ports all).straight ≡ true → Got x
  bypassed-got m n = let w = pulled-of ports all m n in pulled-got w.1 w.2

  module _ (o : Orderly ports all) where
    pub crossed-got : {x : Waiting} → Memᴰ x (crosspoints all) → Got x
    crossed-got {x} m = go (find (same_output x) (phase ports all).straight)
      where
        go : Passing (same_output x) (phase ports all).straight ⊎ (none? (same_output x) (phase ports all).straight ≡ true)
            → Got x
        go (inl w) =
            let h : same_output w.0 x ≡ true = output-i w.0 x (sym (output-e x w.0 w.2)) in
            straight-got w.1 (inr (urgent-beats ports all (straight-urgent ports all o w.1) m h))
        go (inr n) = bypassed-got (inl m) n

    pub scheduled-gone : {s : Waiting} → Memᴰ s (phase ports all).scheduled → Gone s
    scheduled-gone {s} m = go (find (same_input s) (phase ports all).straight)
      where
        go : Passing (same_input s) (phase ports all).straight ⊎ (none? (same_input s) (phase ports all).straight ≡ true)
            → Gone s
        go (inl w) =
            let h : same_input w.0 s ≡ true = input-i w.0 s (sym (input-e s w.0 w.2)) in
            straight-gone w.1 (inr (urgent-ahead ports all (straight-urgent ports all o w.1) m h))
        go (inr n) = sent-gone (sent-i ports all m n) (inl refl)

    -- a scheduled cell is no straight one
    scheduled-straight : {s u : Waiting} → Memᴰ s (phase ports all).scheduled
        → Memᴰ u (phase ports all).straight
        → s ≡ u → ⊥
    scheduled-straight m k p =
        clash (urgent-blocked ports all (straight-urgent ports all o k))
        (ap (blocked ports (crosspoints all)) (sym p) ∙ scheduled-normal ports all m)

    match-gone : {m : Waiting} → Memᴰ m (phase ports all).matched → Gone m
    match-gone {m} k = go (match-kind ports all o k)
      where
        go : Memᴰ m (phase ports all).urgent ⊎ Memᴰ m (phase ports all).scheduled → Gone m
        go (inl i) = straight-gone (straight-i ports all i k) (inl refl)
        go (inr i) = scheduled-gone i

    -- a scheduled match is sent, and no straight cell goes to its output
    match-got : {m : Waiting} → Memᴰ m (phase ports all).matched → Got m
    match-got {m} k = go (match-kind ports all o k)
      where
        free : Memᴰ m (phase ports all).scheduled → none? (same_input m) (phase ports all).straight ≡ true
        free i = none?-i (same_input m) (phase ports all).straight (λ u j. by-fail (same_input m u)
            (λ h. scheduled-straight i j (match-input ports all o k (straight-matched ports all j) (input-e m u h))))

        bypassed : Memᴰ m (phase ports all).scheduled → none? (same_output m) (phase ports all).straight ≡ true
        bypassed i = none?-i (same_output m) (phase ports all).straight (λ u j. by-fail (same_output m u)
            (λ h. scheduled-straight i j (match-output ports all o k (straight-matched ports all j) (output-e m u h))))

        go : Memᴰ m (phase ports all).urgent ⊎ Memᴰ m (phase ports all).scheduled → Got m
        go (inl i) = straight-got (straight-i ports all i k) (inl refl)
        go (inr i) = bypassed-got (inr (sent-i ports all i (free i))) (bypassed i)

    -- a listed cell is not at a crosspoint
    listed-crossed : {e x : Waiting} → Memᴰ e (lists all) → Memᴰ x (crosspoints all) → e ≡ x → ⊥
    listed-crossed {e} {x} m k p =
        clash (crosspoints-crossed all k)
        (ap (λ y. is_crossed y.place) (sym p) ∙ listed-not-crossed e.place (lists-listed all m))

    -- a crosspoint cell of its output that it does not beat
    unbeaten-got : {e x : Waiting} → Memᴰ e (lists all) → Memᴰ x (crosspoints all)
        → e.cell.output ≡ x.cell.output → beats ports e x ≡ false → Got e
    unbeaten-got {e} {x} m k h n = go (beats-total o (lists-all all m) (crosspoints-all all k) h)
      where
        go : (e ≡ x) ⊎ ((beats ports e x ≡ true) ⊎ (beats ports x e ≡ true)) → Got e
        go (inl p) = absurd (listed-crossed m k p)
        go (inr (inl b)) = absurd (clash b n)
        go (inr (inr b)) = got-beaten b (crossed-got k)

    normal-gain : {h : Waiting} → Memᴰ h (firsts all) → blocked ports (crosspoints all) h ≡ false → Gone h ⊎ Got h
    normal-gain {h} m n = go (crosspoint-find all h)
      where
        sent : (s : Waiting) × Memᴰ s (phase ports all).scheduled × ((s ≡ h) ⊎ (ahead s h ≡ true)) → Gone h
        sent w = gone-from w.2 (scheduled-gone w.1)

        go : Passing (same_crosspoint h) (crosspoints all) ⊎ (crosspoint_empty (crosspoints all) h ≡ true)
            → Gone h ⊎ Got h
        go (inl w) =
            inr (unbeaten-got (head-listed all m) w.1 (crosspoint-output h w.0 w.2)
            (by-fail (beats ports h w.0) (λ b. clash (blocked-i ports all h w.1 w.2 b) n)))
        go (inr e) = inl (sent (scheduled-of ports all m n e))

    urgent-gain : {h : Waiting} → Memᴰ h (phase ports all).urgent → Gone h ⊎ Got h
    urgent-gain {h} m = go ((phase-stable ports all).stable h (candidate-urgent ports all m))
      where
        ms : List Waiting
        ms = (phase ports all).matched

        go : Memᴰ h ms ⊎ ((some? (λ d. ahead d h) ms ≡ true) ⊎ (some? (λ d. beats ports d h) ms ≡ true))
            → Gone h ⊎ Got h
        go (inl k) = inl (match-gone k)
        go (inr (inl s)) =
            let w : Passing (λ d. ahead d h) ms = some?-e (λ d. ahead d h) ms s in
            inl (gone-behind w.2 (match-gone w.1))
        go (inr (inr s)) =
            let w : Passing (λ d. beats ports d h) ms = some?-e (λ d. beats ports d h) ms s in
            inr (got-beaten w.2 (match-got w.1))

    blocked-gain : {h : Waiting} → Memᴰ h (firsts all) → blocked ports (crosspoints all) h ≡ true → Gone h ⊎ Got h
    blocked-gain {h} m b = go (urgent-or ports all m b)
      where
        before : (s : Waiting) → Memᴰ s (phase ports all).scheduled → ahead h s ≡ false
            → (h ≡ s) ⊎ ((ahead h s ≡ true) ⊎ (ahead s h ≡ true)) → Gone h
        before s k n (inl p) = absurd (clash b (ap (blocked ports (crosspoints all)) p ∙ scheduled-normal ports all k))
        before s k n (inr (inl a)) = absurd (clash a n)
        before s k n (inr (inr a)) = gone-behind a (scheduled-gone k)

        go : Memᴰ h (phase ports all).urgent ⊎ NotUrgent ports all h → Gone h ⊎ Got h
        go (inl k) = urgent-gain k
        go (inr (behind s k i n)) =
            inl (before s k n (ahead-total o (head-all ports all m) (scheduled-all ports all k) (input-e h s i)))
        go (inr (beaten x k i n)) = inr (unbeaten-got (head-listed all m) k (output-e h x i) n)

    pub head-gain : {h : Waiting} → Memᴰ h (firsts all) → Gone h ⊎ Got h
    head-gain {h} m = go (either (blocked ports (crosspoints all) h))
      where
        go : (blocked ports (crosspoints all) h ≡ true) ⊎ (blocked ports (crosspoints all) h ≡ false) → Gone h ⊎ Got h
        go (inl b) = blocked-gain m b
        go (inr n) = normal-gain m n

    -- a cell that is no head gains what the head of its flow gains
    pub listed-gain : {e : Waiting} → Memᴰ e (lists all) → Gone e ⊎ Got e
    listed-gain {e} m = go w.2 (head-gain w.1)
      where
        w : (h : Waiting) × Memᴰ h (firsts all)
            × ((h ≡ e) ⊎ ((same_flow h.cell e.cell ≡ true) × (ahead h e ≡ true)))
        w = head_of all m

        h : Waiting
        h = w.0

        first : (same_flow h.cell e.cell ≡ true) × (ahead h e ≡ true) → beats ports h e ≡ true
        first r =
            beats-i ports h e (flow-output h.cell e.cell r.0)
            (o.flows h e (head-all ports all w.1) (lists-all all m)
            (lists-listed all (head-listed all w.1)) (lists-listed all m) r.0 r.1)

        go : (h ≡ e) ⊎ ((same_flow h.cell e.cell ≡ true) × (ahead h e ≡ true)) → Gone h ⊎ Got h → Gone e ⊎ Got e
        go (inl p) g = subst (λ x. Gone x ⊎ Got x) p g
        go (inr r) (inl g) = inl (gone-behind r.1 g)
        go (inr r) (inr g) = inr (got-beaten (first r) g)

    -- a sent cell had cells ahead of it, or it gains in its output
    pub sent-gain : {s : Waiting} → Memᴰ s (phase ports all).sent → (0 < thread all s) ⊎ Got s
    sent-gain {s} m = go (find (same_output s) (phase ports all).straight) (find (λ f. ahead f s) (lists all))
      where
        ms : List Waiting
        ms = (phase ports all).matched

        behind-some : Passing (λ f. ahead f s) (lists all) → 0 < thread all s
        behind-some w =
            thread-pos all s (sent-listed ports all m) (lists-all all w.1) (lists-listed all w.1) w.2

        -- the straight cell to its output is the match that beats it
        only : (u : Waiting) → Memᴰ u (phase ports all).straight → s.cell.output ≡ u.cell.output
            → Passing (λ d. beats ports d s) ms → Got s
        only u k h w =
            straight-got k
            (inr (ap (λ x. beats ports x s)
            (match-output ports all o (straight-matched ports all k) w.1 (sym h ∙ sym (beats-output ports w.0 s w.2)))
            ∙ w.2))

        met : (u : Waiting) → Memᴰ u (phase ports all).straight → s.cell.output ≡ u.cell.output
            → none? (λ f. ahead f s) (lists all) ≡ true
            → Memᴰ s ms ⊎ ((some? (λ d. ahead d s) ms ≡ true) ⊎ (some? (λ d. beats ports d s) ms ≡ true)) → Got s
        met u k h n (inl i) =
            absurd
            (scheduled-straight (sent-scheduled ports all m) k (match-output ports all o i (straight-matched ports all k) h))
        met u k h n (inr (inl i)) =
            let w : Passing (λ d. ahead d s) ms = some?-e (λ d. ahead d s) ms i in
            absurd
            (none?-clash (λ f. ahead f s) n (candidate-listed ports all (match-candidate ports all w.1)) w.2)
        met u k h n (inr (inr i)) = only u k h (some?-e (λ d. beats ports d s) ms i)

        go : Passing (same_output s) (phase ports all).straight ⊎ (none? (same_output s) (phase ports all).straight ≡ true)
            → Passing (λ f. ahead f s) (lists all) ⊎ (none? (λ f. ahead f s) (lists all) ≡ true)
            → (0 < thread all s) ⊎ Got s
        go (inr n) t = inr (bypassed-got (inr m) n)
        go (inl w) (inl t) = inl (behind-some t)
        go (inl w) (inr n) =
            inr (met w.0 w.1 (output-e s w.0 w.2) n
            ((phase-stable ports all).stable s
            (candidate-scheduled ports all (straight-urgent ports all o w.1) (sent-scheduled ports all m) n)))
