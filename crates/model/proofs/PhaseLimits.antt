-- The limits that a phase keeps, and what it leaves as it was.
--     phase-taken        at most one cell leaves the list of an input
--     phase-brought      at most one cell enters the buffer of an output
--     sent-crosspoint    no crosspoint holds two cells once the scheduled cells are sent
--     phase-crosspoint   nor at the end of the phase
--     apart-e            what it is that two cells do not share a crosspoint
use Prim.Native.Nat.{ℕ, ◌≤◌}
use mathlib.Core.Bool.{Bool, true, not, ◌&&◌}
use mathlib.Core.Path.{◌≡◌, sym, ◌∙◌, ap}
use mathlib.Core.Logic.{◌⊎◌, inl, inr}
use mathlib.Core.List.{List, map, Memᴰ}
use borrow.Author.Tests.{eqb-true, eqb-false, not-true}
use lib.Dec.{eqb}
use Rattle.laws.specs.Lists.{count}
use Rattle.laws.proofs.Tests.{clash, and_i, and_l, and_r, not-i, by-fail}
use Rattle.laws.proofs.Pairwise.{pairwise-e, pairwise-mono, pairwise_map, pairwise-le-one}
use Rattle.model.specs.State.{Place, is_listed, is_crossed, is_buffered}
use Rattle.model.specs.Phase.{Waiting, same_input, same_output, same_crosspoint, ahead, beats, phase, place_sent}
use Rattle.model.specs.Phase.{place_after}
use Rattle.model.specs.CodeSlackness.{Orderly, other_number, relocate, relocated, OneCrosspoint, apart}
use Rattle.model.proofs.WaitingOrder.{input-i, output-i, crosspoint-i, crosspoint-input, crosspoint-output}
use Rattle.model.proofs.WaitingOrder.{ahead-total, beats-total}
use Rattle.model.proofs.PhaseFacts.{crosspoints-i, scheduled-empty, scheduled-one, sent-scheduled, sent-free}
use Rattle.model.proofs.PhaseFacts.{pulled-free, pulled-one}
use Rattle.model.proofs.PhaseMatching.{straight-matched, sent-all, pulled-all, match-input, match-output}
use Rattle.model.proofs.PhasePlaces.{sent-forward, crossed-forward, taken-by, brought-by}
use Rattle.model.proofs.Numbering.{put_at}

-- what it is that two cells do not share a crosspoint
apart-i : (e f : Waiting)
    → (is_crossed e.place ≡ true → is_crossed f.place ≡ true → same_crosspoint e f ≡ true → ⊥) → apart e f ≡ true
unfolding apart
apart-i e f h =
    not-i (x && (y && c)) (by-fail (x && (y && c)) (λ t.
    let r : (y && c) ≡ true = and_r x (y && c) t in
    h (and_l x (y && c) t) (and_l y c r) (and_r y c r)))
  where
    x : Bool
    x = is_crossed e.place

    y : Bool
    y = is_crossed f.place

    c : Bool
    c = same_crosspoint e f

pub apart-e : (e f : Waiting) → apart e f ≡ true → is_crossed e.place ≡ true → is_crossed f.place ≡ true
    → same_crosspoint e f ≡ true → ⊥
unfolding apart
apart-e e f a h j c =
    clash (and_i (is_crossed e.place) (is_crossed f.place && same_crosspoint e f) h
    (and_i (is_crossed f.place) (same_crosspoint e f) j c))
    (not-true (is_crossed e.place && (is_crossed f.place && same_crosspoint e f)) a)

crosspoint-sym : (e f : Waiting) → same_crosspoint e f ≡ true → same_crosspoint f e ≡ true
crosspoint-sym e f c = crosspoint-i f e (sym (crosspoint-input e f c)) (sym (crosspoint-output e f c))

module _ {ports : ℕ} (all : List Waiting) (o : Orderly ports all) where
  -- members with different numbers are not equal
  numbers-differ : (e f : Waiting) → other_number e f ≡ true → e ≡ f → ⊥
  unfolding other_number
  numbers-differ e f h p = eqb-false _ _ (not-true (eqb e.at f.at) h) (ap (λ x. x.at) p)

  -- where any two members that pass are one, at most one passes
  one_passes : (q : Waiting → Bool)
      → ((e f : Waiting) → Memᴰ e all → Memᴰ f all → q e ≡ true → q f ≡ true → e ≡ f) → count q all ≤ 1
  one_passes q h = pairwise-le-one q all (pairwise-mono other_number (λ e f. not (q e && q f)) all go o.numbers)
    where
      go : (e f : Waiting) → Memᴰ e all → Memᴰ f all → other_number e f ≡ true → not (q e && q f) ≡ true
      go e f m k n =
          not-i (q e && q f) (by-fail (q e && q f)
          (λ t. numbers-differ e f n (h e f m k (and_l (q e) (q f) t) (and_r (q e) (q f) t))))

  ------------------------------------------------------------------------
  -- lists

  -- an input sends one cell
  sent-same : {e f : Waiting} → Memᴰ e (phase ports all).sent → Memᴰ f (phase ports all).sent
      → e.cell.input ≡ f.cell.input → e ≡ f
  sent-same {e} {f} m k h = go (ahead-total o (sent-all ports all m) (sent-all ports all k) h)
    where
      go : (e ≡ f) ⊎ ((ahead e f ≡ true) ⊎ (ahead f e ≡ true)) → e ≡ f
      go (inl p) = p
      go (inr (inl a)) =
          absurd (clash a (scheduled-one ports all (sent-scheduled ports all m) (sent-scheduled ports all k)))
      go (inr (inr a)) =
          absurd (clash a (scheduled-one ports all (sent-scheduled ports all k) (sent-scheduled ports all m)))

  taken-same : {e f : Waiting} → e.cell.input ≡ f.cell.input
      → Memᴰ e (phase ports all).straight ⊎ Memᴰ e (phase ports all).sent
      → Memᴰ f (phase ports all).straight ⊎ Memᴰ f (phase ports all).sent → e ≡ f
  taken-same h (inl m) (inl k) = match-input ports all o (straight-matched ports all m) (straight-matched ports all k) h
  taken-same {e} {f} h (inl m) (inr k) = absurd (clash (input-i f e (sym h)) (sent-free ports all k m))
  taken-same {e} {f} h (inr m) (inl k) = absurd (clash (input-i e f h) (sent-free ports all m k))
  taken-same h (inr m) (inr k) = sent-same m k h

  pub phase-taken : (i : ℕ)
      → count (λ e. eqb e.cell.input i && (is_listed e.place && not (is_listed (place_after (phase ports all) e)))) all
      ≤ 1
  phase-taken i = one_passes test go
    where
      was : Waiting → Bool
      was e = is_listed e.place

      is : Waiting → Bool
      is e = is_listed (place_after (phase ports all) e)

      test : Waiting → Bool
      test e = eqb e.cell.input i && (was e && not (is e))

      leaves : (e : Waiting) → Memᴰ e all → test e ≡ true
          → Memᴰ e (phase ports all).straight ⊎ Memᴰ e (phase ports all).sent
      leaves e m t =
          let r : (was e && not (is e)) ≡ true = and_r (eqb e.cell.input i) (was e && not (is e)) t in
          taken-by ports all o m (and_l (was e) (not (is e)) r) (not-true (is e) (and_r (was e) (not (is e)) r))

      input : (e : Waiting) → test e ≡ true → e.cell.input ≡ i
      input e t = eqb-true _ _ (and_l (eqb e.cell.input i) (was e && not (is e)) t)

      go : (e f : Waiting) → Memᴰ e all → Memᴰ f all → test e ≡ true → test f ≡ true → e ≡ f
      go e f m k t u = taken-same (input e t ∙ sym (input f u)) (leaves e m t) (leaves f k u)

  ------------------------------------------------------------------------
  -- buffers

  -- an output pulls one cell
  pulled-same : {e f : Waiting} → Memᴰ e (phase ports all).pulled → Memᴰ f (phase ports all).pulled
      → e.cell.output ≡ f.cell.output → e ≡ f
  pulled-same {e} {f} m k h = go (beats-total o (pulled-all ports all m) (pulled-all ports all k) h)
    where
      go : (e ≡ f) ⊎ ((beats ports e f ≡ true) ⊎ (beats ports f e ≡ true)) → e ≡ f
      go (inl p) = p
      go (inr (inl a)) = absurd (clash a (pulled-one ports all m k))
      go (inr (inr a)) = absurd (clash a (pulled-one ports all k m))

  brought-same : {e f : Waiting} → e.cell.output ≡ f.cell.output
      → Memᴰ e (phase ports all).straight ⊎ Memᴰ e (phase ports all).pulled
      → Memᴰ f (phase ports all).straight ⊎ Memᴰ f (phase ports all).pulled → e ≡ f
  brought-same h (inl m) (inl k) =
      match-output ports all o (straight-matched ports all m) (straight-matched ports all k) h
  brought-same {e} {f} h (inl m) (inr k) = absurd (clash (output-i f e (sym h)) (pulled-free ports all k m))
  brought-same {e} {f} h (inr m) (inl k) = absurd (clash (output-i e f h) (pulled-free ports all m k))
  brought-same h (inr m) (inr k) = pulled-same m k h

  pub phase-brought : (j : ℕ)
      → count
      (λ e. eqb e.cell.output j && (not (is_buffered e.place) && is_buffered (place_after (phase ports all) e)))
      all
      ≤ 1
  phase-brought j = one_passes test go
    where
      was : Waiting → Bool
      was e = is_buffered e.place

      is : Waiting → Bool
      is e = is_buffered (place_after (phase ports all) e)

      test : Waiting → Bool
      test e = eqb e.cell.output j && (not (was e) && is e)

      enters : (e : Waiting) → Memᴰ e all → test e ≡ true
          → Memᴰ e (phase ports all).straight ⊎ Memᴰ e (phase ports all).pulled
      enters e m t =
          let r : (not (was e) && is e) ≡ true = and_r (eqb e.cell.output j) (not (was e) && is e) t in
          brought-by ports all o m (not-true (was e) (and_l (not (was e)) (is e) r)) (and_r (not (was e)) (is e) r)

      output : (e : Waiting) → test e ≡ true → e.cell.output ≡ j
      output e t = eqb-true _ _ (and_l (eqb e.cell.output j) (not (was e) && is e) t)

      go : (e f : Waiting) → Memᴰ e all → Memᴰ f all → test e ≡ true → test f ≡ true → e ≡ f
      go e f m k t u = brought-same (output e t ∙ sym (output f u)) (enters e m t) (enters f k u)

  ------------------------------------------------------------------------
  -- crosspoints

  -- two cells of one crosspoint that were there are one
  crossed-same : OneCrosspoint all → {e f : Waiting} → Memᴰ e all → Memᴰ f all
      → is_crossed e.place ≡ true → is_crossed f.place ≡ true → same_crosspoint e f ≡ true → e ≡ f
  crossed-same one {e} {f} m k h j c = go (pairwise-e apart all one m k)
    where
      go : (e ≡ f) ⊎ ((apart e f ≡ true) ⊎ (apart f e ≡ true)) → e ≡ f
      go (inl p) = p
      go (inr (inl a)) = absurd (apart-e e f a h j c)
      go (inr (inr a)) = absurd (apart-e f e a j h (crosspoint-sym e f c))

  -- a sent cell goes to an empty crosspoint
  sent-same-crosspoint : OneCrosspoint all → {e f : Waiting} → Memᴰ e all → Memᴰ f all → same_crosspoint e f ≡ true
      → (is_crossed e.place ≡ true) ⊎ Memᴰ e (phase ports all).sent
      → (is_crossed f.place ≡ true) ⊎ Memᴰ f (phase ports all).sent → e ≡ f
  sent-same-crosspoint one m k c (inl h) (inl j) = crossed-same one m k h j c
  sent-same-crosspoint one {e} {f} m k c (inl h) (inr j) =
      absurd
      (clash (crosspoint-sym e f c) (scheduled-empty ports all (sent-scheduled ports all j) (crosspoints-i all m h)))
  sent-same-crosspoint one {e} {f} m k c (inr h) (inl j) =
      absurd (clash c (scheduled-empty ports all (sent-scheduled ports all h) (crosspoints-i all k j)))
  sent-same-crosspoint one {e} {f} m k c (inr h) (inr j) = sent-same h j (crosspoint-input e f c)

  -- cells put where those at a crosspoint were there already or are sent
  crosspoint-placed : OneCrosspoint all → (place : Waiting → Place)
      → ((e : Waiting) → Memᴰ e all → is_crossed (place e) ≡ true
      → (is_crossed e.place ≡ true) ⊎ Memᴰ e (phase ports all).sent)
      → OneCrosspoint (map (put_at place) all)
  unfolding same_crosspoint same_input same_output
  crosspoint-placed one place forward =
      pairwise_map apart (put_at place) all
      ∙ pairwise-mono other_number (λ e f. apart (put_at place e) (put_at place f)) all go o.numbers
    where
      go : (e f : Waiting) → Memᴰ e all → Memᴰ f all → other_number e f ≡ true
          → apart (put_at place e) (put_at place f) ≡ true
      go e f m k n =
          apart-i (put_at place e) (put_at place f)
          (λ h j c. numbers-differ e f n (sent-same-crosspoint one m k c (forward e m h) (forward f k j)))

  -- after rule 5
  pub sent-crosspoint : OneCrosspoint all → OneCrosspoint (map (put_at (place_sent (phase ports all))) all)
  sent-crosspoint one = crosspoint-placed one (place_sent (phase ports all)) (λ e m. sent-forward ports all o m)

  -- after rule 6
  pub phase-crosspoint : OneCrosspoint all → OneCrosspoint (relocated (phase ports all) all)
  unfolding relocated relocate
  phase-crosspoint one = crosspoint-placed one (place_after (phase ports all)) (λ e m. crossed-forward ports all o m)
