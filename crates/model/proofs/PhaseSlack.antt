-- A phase raises the slackness of every cell outside the buffers by one.
--     thread-falls, cushion-rises   a phase makes no thread longer and no cushion smaller
--     phase-gains                   a cell outside the buffers has a shorter thread or a larger cushion
--     phase-slack                   so the bound on slackness rises by one
use Prim.Native.Nat.{ℕ, ◌<◌, ◌≤◌, suc, ◌+◌}
use native.Mathlib.Omega.{arith}
use mathlib.Core.Bool.{Bool, true, false, ◌&&◌}
use mathlib.Core.Path.{◌≡◌, refl, sym, ◌∙◌, ap, subst}
use mathlib.Core.Logic.{◌⊎◌, inl, inr}
use mathlib.Core.List.Memᴰ
use mathlib.Core.List.{List, Memᴰ}
use Rattle.laws.specs.Lists.{count}
use Rattle.laws.proofs.Tests.{clash, and_i, and_l, and_r, either, cond-pass, cond-fail, and-false-l}
use Rattle.laws.proofs.Count.{count-le, count-lt, count_map}
use Rattle.model.specs.State.{is_listed, is_crossed, is_buffered}
use Rattle.model.specs.Phase.{Waiting, same_input, same_output, ahead, beats, phase, place_after}
use Rattle.model.specs.CodeSlackness.{Orderly, thread, Slack, cushion, relocate, relocated}
use Rattle.model.proofs.PhaseFacts.{lists-i, crosspoints-i}
use Rattle.model.proofs.PhasePlaces.{outside-buffers, after-straight, listed-forward, buffered-forward}
use Rattle.model.proofs.PhasePlaces.{outside-forward, taken-by}
use Rattle.model.proofs.PhaseGain.{Gone, Got, crossed-got, listed-gain, sent-gain}

module _ (ports : ℕ) (all : List Waiting) where
  -- the cell after the phase, and all of them
  then : Waiting → Waiting
  then e = relocate (phase ports all) e

  later : List Waiting
  later = relocated (phase ports all) all

  ------------------------------------------------------------------------
  -- the measures as counts on the list before the phase

  -- a listed cell ahead of e, before the phase and after it
  stood : Waiting → Waiting → Bool
  stood e f = is_listed f.place && ahead f e

  stands : Waiting → Waiting → Bool
  stands e f = is_listed (place_after (phase ports all) f) && ahead f e

  -- a buffered cell that beats e, before the phase and after it
  braced : Waiting → Waiting → Bool
  braced e f = is_buffered f.place && beats ports f e

  braces : Waiting → Waiting → Bool
  braces e f = is_buffered (place_after (phase ports all) f) && beats ports f e

  thread-before : (e : Waiting) → is_listed e.place ≡ true → thread all e ≡ count (stood e) all
  unfolding thread stood
  thread-before e h = cond-pass (is_listed e.place) (count (stood e) all) 0 h

  thread-after : (e : Waiting) → is_listed (place_after (phase ports all) e) ≡ true
      → thread later (then e) ≡ count (stands e) all
  unfolding thread stands stood then later relocated relocate ahead same_input
  thread-after e h =
      cond-pass (is_listed (place_after (phase ports all) e)) (count (stood (then e)) later) 0 h
      ∙ count_map (stood (then e)) (relocate (phase ports all)) all

  thread-off : (e : Waiting) → is_listed (place_after (phase ports all) e) ≡ false → ◌≡◌ {A = ℕ} (thread later (then e)) 0
  unfolding thread stood then later relocated relocate
  thread-off e h = cond-fail (is_listed (place_after (phase ports all) e)) (count (stood (then e)) later) 0 h

  cushion-before : (e : Waiting) → cushion ports all e ≡ count (braced e) all
  unfolding cushion braced
  cushion-before e = refl

  cushion-after : (e : Waiting) → cushion ports later (then e) ≡ count (braces e) all
  unfolding cushion braced braces then later relocated relocate beats same_output
  cushion-after e = count_map (braced (then e)) (relocate (phase ports all)) all

  module _ (o : Orderly ports all) where
    ------------------------------------------------------------------------
    -- no thread grows, no cushion shrinks

    stands-stood : (e f : Waiting) → Memᴰ f all → stands e f ≡ true → stood e f ≡ true
    unfolding stands stood
    stands-stood e f m h =
        and_i (is_listed f.place) (ahead f e)
        (listed-forward ports all o m (and_l (is_listed (place_after (phase ports all) f)) (ahead f e) h))
        (and_r (is_listed (place_after (phase ports all) f)) (ahead f e) h)

    braced-braces : (e f : Waiting) → Memᴰ f all → braced e f ≡ true → braces e f ≡ true
    unfolding braced braces
    braced-braces e f m h =
        and_i (is_buffered (place_after (phase ports all) f)) (beats ports f e)
        (buffered-forward ports all o m (and_l (is_buffered f.place) (beats ports f e) h))
        (and_r (is_buffered f.place) (beats ports f e) h)

    pub thread-falls : {e : Waiting} → Memᴰ e all
        → thread (relocated (phase ports all) all) (relocate (phase ports all) e) ≤ thread all e
    unfolding then later
    thread-falls {e} m = go (either (is_listed (place_after (phase ports all) e)))
      where
        go : (is_listed (place_after (phase ports all) e) ≡ true) ⊎ (is_listed (place_after (phase ports all) e) ≡ false)
            → thread later (then e) ≤ thread all e
        go (inl h) =
            let c : count (stands e) all ≤ count (stood e) all = count-le (stands e) (stood e) all (stands-stood e) in
            omega (arith, thread-after e h, thread-before e (listed-forward ports all o m h))
        go (inr h) = omega (arith, thread-off e h)

    pub cushion-rises : (e : Waiting)
        → cushion ports all e ≤ cushion ports (relocated (phase ports all) all) (relocate (phase ports all) e)
    unfolding then later
    cushion-rises e =
        let c : count (braced e) all ≤ count (braces e) all = count-le (braced e) (braces e) all (braced-braces e) in
        omega (arith, cushion-before e, cushion-after e)

    ------------------------------------------------------------------------
    -- a cell outside the buffers gains

    gone-fewer : (e : Waiting) {f : Waiting} → Memᴰ f all → is_listed f.place ≡ true
        → is_listed (place_after (phase ports all) f) ≡ false → ahead f e ≡ true
        → count (stands e) all < count (stood e) all
    unfolding stands stood
    gone-fewer e {f} m h n a =
        count-lt (stands e) (stood e) (stands-stood e) m
        (and-false-l (is_listed (place_after (phase ports all) f)) (ahead f e) n)
        (and_i (is_listed f.place) (ahead f e) h a)

    got-more : (e : Waiting) {f : Waiting} → Memᴰ f all → is_buffered f.place ≡ false
        → is_buffered (place_after (phase ports all) f) ≡ true → beats ports f e ≡ true
        → count (braced e) all < count (braces e) all
    unfolding braced braces
    got-more e {f} m n h b =
        count-lt (braced e) (braces e) (braced-braces e) m
        (and-false-l (is_buffered f.place) (beats ports f e) n)
        (and_i (is_buffered (place_after (phase ports all) f)) (beats ports f e) h b)

    -- a cell that stays in its list has one less ahead of it
    gone-thread : {e : Waiting} → Memᴰ e all → is_listed (place_after (phase ports all) e) ≡ true → Gone ports all e
        → thread later (then e) < thread all e
    gone-thread {e} m h g = go g.stands
      where
        go : (g.it ≡ e) ⊎ (ahead g.it e ≡ true) → thread later (then e) < thread all e
        go (inl q) = absurd (clash h (ap (λ x. is_listed (place_after (phase ports all) x)) (sym q) ∙ g.after))
        go (inr a) =
            let c : count (stands e) all < count (stood e) all = gone-fewer e g.member g.before g.after a in
            omega (arith, thread-after e h, thread-before e (listed-forward ports all o m h))

    -- a cell that does not enter the buffer has one more there that beats it
    got-cushion : {e : Waiting} → is_buffered (place_after (phase ports all) e) ≡ false → Got ports all e
        → cushion ports all e < cushion ports later (then e)
    got-cushion {e} n g = go g.stands
      where
        go : (g.it ≡ e) ⊎ (beats ports g.it e ≡ true) → cushion ports all e < cushion ports later (then e)
        go (inl q) = absurd (clash g.after (ap (λ x. is_buffered (place_after (phase ports all) x)) q ∙ n))
        go (inr b) =
            let c : count (braced e) all < count (braces e) all = got-more e g.member g.before g.after b in
            omega (arith, cushion-before e, cushion-after e)

    Gains : Waiting → Type 0
    Gains e = (thread later (then e) < thread all e) ⊎ (cushion ports all e < cushion ports later (then e))

    pub phase-gains : {e : Waiting} → Memᴰ e all → is_buffered (place_after (phase ports all) e) ≡ false
        → (thread (relocated (phase ports all) all) (relocate (phase ports all) e) < thread all e)
        ⊎ (cushion ports all e < cushion ports (relocated (phase ports all) all) (relocate (phase ports all) e))
    unfolding then later Gains is_buffered
    phase-gains {e} m n =
        go (outside-buffers e.place (outside-forward ports all o m n))
        (either (is_listed (place_after (phase ports all) e)))
      where
        stays : is_listed (place_after (phase ports all) e) ≡ true → Gone ports all e ⊎ Got ports all e → Gains e
        stays h (inl g) = inl (gone-thread m h g)
        stays h (inr g) = inr (got-cushion n g)

        leaves : is_listed (place_after (phase ports all) e) ≡ false → (0 < thread all e) ⊎ Got ports all e → Gains e
        leaves h (inl c) = inl (let l : thread later (then e) < thread all e = omega (arith, thread-off e h) in l)
        leaves h (inr g) = inr (got-cushion n g)

        sent : Memᴰ e (phase ports all).straight ⊎ Memᴰ e (phase ports all).sent
            → Memᴰ e (phase ports all).sent
        sent (inl i) = absurd (clash (ap is_buffered (after-straight ports all i)) n)
        sent (inr i) = i

        go : (is_listed e.place ≡ true) ⊎ (is_crossed e.place ≡ true)
            → (is_listed (place_after (phase ports all) e) ≡ true) ⊎ (is_listed (place_after (phase ports all) e) ≡ false)
            → Gains e
        go (inl l) (inl h) = stays h (listed-gain ports all o (lists-i all m l))
        go (inl l) (inr h) = leaves h (sent-gain ports all o (sent (taken-by ports all o m l h)))
        go (inr c) t = inr (got-cushion n (crossed-got ports all o (crosspoints-i all m c)))

    -- the bound rises by one
    raised : (a b : ℕ) → Slack ports a b all → (e : Waiting) → Memᴰ e all
        → is_buffered (place_after (phase ports all) e) ≡ false
        → thread later (then e) + suc a ≤ cushion ports later (then e) + b
    unfolding then later Gains
    raised a b slack e m n = go (phase-gains m n)
      where
        go : Gains e → thread later (then e) + suc a ≤ cushion ports later (then e) + b
        go (inl g) = omega (arith, slack e m (outside-forward ports all o m n), cushion-rises e)
        go (inr g) = omega (arith, slack e m (outside-forward ports all o m n), thread-falls m)

    pub phase-slack : (a b : ℕ) → Slack ports a b all → Slack ports (suc a) b (relocated (phase ports all) all)
    unfolding then later relocated relocate
    phase-slack a b slack f k n = go (Memᴰ.of_map (relocate (phase ports all)) all k)
      where
        go : (e : Waiting) × Memᴰ e all × (relocate (phase ports all) e ≡ f)
            → thread later f + suc a ≤ cushion ports later f + b
        go w =
            subst (λ x. thread later x + suc a ≤ cushion ports later x + b) w.2
            (raised a b slack w.0 w.1 (ap (λ x. is_buffered x.place) w.2 ∙ n))
