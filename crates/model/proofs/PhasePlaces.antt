-- Where the cells are after a phase.
--     listed-not-buffered, ..   a cell is in one place
--     straight-, sent-, pulled- where the moved cells come from
--     After, after              where a cell is afterwards, and why
--     listed-forward, ..        cells only move forward: from a list to a crosspoint, from either to a buffer
--     taken-by, brought-by      what leaves a list, and what enters a buffer
use Prim.Native.Nat.{ℕ}
use mathlib.Core.Bool.{Bool, true, false, cond, false≢true}
use mathlib.Core.Path.{◌≡◌, refl, sym, ◌∙◌, ap}
use mathlib.Core.Logic.{◌⊎◌, inl, inr}
use mathlib.Core.List.{List, Memᴰ}
use Rattle.laws.proofs.Tests.{clash, either, by-fail, cond-pass, cond-fail}
use Rattle.model.specs.State.{Place, listed, crossed, buffered, is_listed, is_crossed, is_buffered}
use Rattle.model.specs.Phase.{Waiting, among, phase, place_sent, place_after, crosspoints}
use Rattle.model.specs.CodeSlackness.{Orderly}
use Rattle.model.proofs.WaitingOrder.{among-i, among-e}
use Rattle.model.proofs.PhaseFacts.{lists-listed, crosspoints-crossed, head-listed, scheduled-head}
use Rattle.model.proofs.PhaseFacts.{sent-scheduled, pulled-in}
use Rattle.model.proofs.PhaseMatching.{candidate-listed, match-candidate, straight-matched, straight-all}
use Rattle.model.proofs.PhaseMatching.{sent-all, pulled-all}

------------------------------------------------------------------------
-- a cell is in one place

pub listed-not-buffered : (p : Place) → is_listed p ≡ true → is_buffered p ≡ false
unfolding is_listed is_buffered
listed-not-buffered listed h = refl
listed-not-buffered crossed h = refl
listed-not-buffered buffered h = sym h

pub crossed-not-buffered : (p : Place) → is_crossed p ≡ true → is_buffered p ≡ false
unfolding is_crossed is_buffered
crossed-not-buffered listed h = refl
crossed-not-buffered crossed h = refl
crossed-not-buffered buffered h = sym h

pub listed-not-crossed : (p : Place) → is_listed p ≡ true → is_crossed p ≡ false
unfolding is_listed is_crossed
listed-not-crossed listed h = refl
listed-not-crossed crossed h = sym h
listed-not-crossed buffered h = refl

pub outside-buffers : (p : Place) → is_buffered p ≡ false → (is_listed p ≡ true) ⊎ (is_crossed p ≡ true)
unfolding is_listed is_crossed is_buffered
outside-buffers listed h = inl refl
outside-buffers crossed h = inr refl
outside-buffers buffered h = inr (sym h)

module _ (ports : ℕ) (all : List Waiting) where
  ------------------------------------------------------------------------
  -- where the moved cells come from

  pub straight-listed : {u : Waiting} → Memᴰ u (phase ports all).straight → is_listed u.place ≡ true
  straight-listed m =
      lists-listed all (candidate-listed ports all (match-candidate ports all (straight-matched ports all m)))

  pub sent-listed : {s : Waiting} → Memᴰ s (phase ports all).sent → is_listed s.place ≡ true
  sent-listed m = lists-listed all (head-listed all (scheduled-head ports all (sent-scheduled ports all m)))

  pub pulled-outside : {x : Waiting} → Memᴰ x (phase ports all).pulled → is_buffered x.place ≡ false
  pulled-outside {x} m = go (pulled-in ports all m)
    where
      go : Memᴰ x (crosspoints all) ⊎ Memᴰ x (phase ports all).sent → is_buffered x.place ≡ false
      go (inl i) = crossed-not-buffered x.place (crosspoints-crossed all i)
      go (inr i) = listed-not-buffered x.place (sent-listed i)

  ------------------------------------------------------------------------
  -- where the moved cells go

  -- why a cell is where it is after the phase
  pub data After (e : Waiting) : Type 0 where
    goes-straight : Memᴰ e (phase ports all).straight → place_after (phase ports all) e ≡ buffered → After e
    is-pulled : Memᴰ e (phase ports all).pulled → place_after (phase ports all) e ≡ buffered → After e
    is-sent : Memᴰ e (phase ports all).sent → place_after (phase ports all) e ≡ crossed → After e
    stays : place_after (phase ports all) e ≡ e.place → After e

  pub after-straight : {e : Waiting} → Memᴰ e (phase ports all).straight
      → place_after (phase ports all) e ≡ buffered
  unfolding place_after place_sent
  after-straight {e} m = go (among (phase ports all).pulled e)
    where
      go : (q : Bool) → cond q buffered (place_sent (phase ports all) e) ≡ buffered
      go true = refl
      go false = cond-pass _ _ _ (among-i m)

  pub after-pulled : {e : Waiting} → Memᴰ e (phase ports all).pulled → place_after (phase ports all) e ≡ buffered
  unfolding place_after
  after-pulled {e} m = cond-pass _ _ _ (among-i m)

  pub after-sent : {e : Waiting} → Memᴰ e (phase ports all).sent
      → is_listed (place_after (phase ports all) e) ≡ false
  unfolding place_after place_sent is_listed
  after-sent {e} m = go (among (phase ports all).pulled e) (among (phase ports all).straight e)
    where
      go : (q s : Bool)
          → is_listed (cond q buffered (cond s buffered (cond (among (phase ports all).sent e) crossed e.place)))
          ≡ false
      go true s = refl
      go false true = refl
      go false false = ap is_listed (cond-pass _ _ _ (among-i m))

  module _ (o : Orderly ports all) where
    pub after : {e : Waiting} → Memᴰ e all → After e
    unfolding place_after place_sent
    after {e} m = go (either s) (either q) (either t)
      where
        s : Bool
        s = among (phase ports all).straight e

        q : Bool
        q = among (phase ports all).pulled e

        t : Bool
        t = among (phase ports all).sent e

        goes : Memᴰ e (phase ports all).straight → After e
        goes i = goes-straight i (after-straight i)

        pulls : Memᴰ e (phase ports all).pulled → After e
        pulls i = is-pulled i (after-pulled i)

        unmoved : s ≡ false → q ≡ false → place_after (phase ports all) e ≡ cond t crossed e.place
        unmoved a b =
            cond-fail q buffered (cond s buffered (cond t crossed e.place)) b
            ∙ cond-fail s buffered (cond t crossed e.place) a

        go : (s ≡ true) ⊎ (s ≡ false) → (q ≡ true) ⊎ (q ≡ false) → (t ≡ true) ⊎ (t ≡ false) → After e
        go (inl a) b c = goes (among-e o (phase ports all).straight (λ f j. straight-all ports all j) m a)
        go (inr a) (inl b) c = pulls (among-e o (phase ports all).pulled (λ f j. pulled-all ports all j) m b)
        go (inr a) (inr b) (inl c) =
            is-sent (among-e o (phase ports all).sent (λ f j. sent-all ports all j) m c)
            (unmoved a b ∙ cond-pass t crossed e.place c)
        go (inr a) (inr b) (inr c) = stays (unmoved a b ∙ cond-fail t crossed e.place c)

    ------------------------------------------------------------------------
    -- forward

    pub listed-forward : {e : Waiting} → Memᴰ e all → is_listed (place_after (phase ports all) e) ≡ true
        → is_listed e.place ≡ true
    unfolding is_listed
    listed-forward {e} m h = go (after m)
      where
        go : After e → is_listed e.place ≡ true
        go (goes-straight i p) = absurd (false≢true (ap is_listed (sym p) ∙ h))
        go (is-pulled i p) = absurd (false≢true (ap is_listed (sym p) ∙ h))
        go (is-sent i p) = absurd (false≢true (ap is_listed (sym p) ∙ h))
        go (stays p) = ap is_listed (sym p) ∙ h

    pub buffered-forward : {e : Waiting} → Memᴰ e all → is_buffered e.place ≡ true
        → is_buffered (place_after (phase ports all) e) ≡ true
    unfolding is_buffered
    buffered-forward {e} m h = go (after m)
      where
        go : After e → is_buffered (place_after (phase ports all) e) ≡ true
        go (goes-straight i p) = ap is_buffered p
        go (is-pulled i p) = ap is_buffered p
        go (is-sent i p) = absurd (clash h (listed-not-buffered e.place (sent-listed i)))
        go (stays p) = ap is_buffered p ∙ h

    pub outside-forward : {e : Waiting} → Memᴰ e all → is_buffered (place_after (phase ports all) e) ≡ false
        → is_buffered e.place ≡ false
    outside-forward {e} m n = by-fail (is_buffered e.place) (λ h. clash (buffered-forward m h) n)

    -- a cell at a crosspoint after rule 5 was there, or was sent there
    pub sent-forward : {e : Waiting} → Memᴰ e all → is_crossed (place_sent (phase ports all) e) ≡ true
        → (is_crossed e.place ≡ true) ⊎ Memᴰ e (phase ports all).sent
    unfolding place_sent is_crossed
    sent-forward {e} m h = go (among (phase ports all).straight e) (among (phase ports all).sent e) refl h
      where
        go : (s t : Bool) → among (phase ports all).sent e ≡ t
            → is_crossed (cond s buffered (cond t crossed e.place)) ≡ true
            → (is_crossed e.place ≡ true) ⊎ Memᴰ e (phase ports all).sent
        go true t p i = absurd (false≢true i)
        go false true p i = inr (among-e o (phase ports all).sent (λ f j. sent-all ports all j) m p)
        go false false p i = inl i

    -- and rule 6 puts none there
    pub crossed-forward : {e : Waiting} → Memᴰ e all → is_crossed (place_after (phase ports all) e) ≡ true
        → (is_crossed e.place ≡ true) ⊎ Memᴰ e (phase ports all).sent
    unfolding place_after is_crossed
    crossed-forward {e} m h = sent-forward m (go (among (phase ports all).pulled e) h)
      where
        go : (q : Bool) → is_crossed (cond q buffered (place_sent (phase ports all) e)) ≡ true
            → is_crossed (place_sent (phase ports all) e) ≡ true
        go true i = absurd (false≢true i)
        go false i = i

    -- a cell that leaves its list goes straight or is sent
    pub taken-by : {e : Waiting} → Memᴰ e all → is_listed e.place ≡ true
        → is_listed (place_after (phase ports all) e) ≡ false
        → Memᴰ e (phase ports all).straight ⊎ Memᴰ e (phase ports all).sent
    taken-by {e} m h n = go (after m)
      where
        pulled : Memᴰ e (crosspoints all) ⊎ Memᴰ e (phase ports all).sent
            → Memᴰ e (phase ports all).straight ⊎ Memᴰ e (phase ports all).sent
        pulled (inl i) = absurd (clash (crosspoints-crossed all i) (listed-not-crossed e.place h))
        pulled (inr i) = inr i

        go : After e → Memᴰ e (phase ports all).straight ⊎ Memᴰ e (phase ports all).sent
        go (goes-straight i p) = inl i
        go (is-pulled i p) = pulled (pulled-in ports all i)
        go (is-sent i p) = inr i
        go (stays p) = absurd (clash h (ap is_listed (sym p) ∙ n))

    -- a cell that enters a buffer goes straight or is pulled
    pub brought-by : {e : Waiting} → Memᴰ e all → is_buffered e.place ≡ false
        → is_buffered (place_after (phase ports all) e) ≡ true
        → Memᴰ e (phase ports all).straight ⊎ Memᴰ e (phase ports all).pulled
    unfolding is_buffered
    brought-by {e} m n h = go (after m)
      where
        go : After e → Memᴰ e (phase ports all).straight ⊎ Memᴰ e (phase ports all).pulled
        go (goes-straight i p) = inl i
        go (is-pulled i p) = inr i
        go (is-sent i p) = absurd (false≢true (ap is_buffered (sym p) ∙ h))
        go (stays p) = absurd (clash h (ap is_buffered p ∙ n))
