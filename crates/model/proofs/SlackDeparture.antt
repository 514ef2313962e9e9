-- Slackness over departure: it falls by at most one, since each output sends at most one cell of its buffer.
--     leaving-in, leaving-buffered, leaving-first   the cells that leave
--     departure-slack     from two to spare but one to none to spare
--     best-buffered       a cell outside the buffers has one over it in the buffer of its output
use Prim.Native.Nat.{ℕ, ◌+◌, ◌*◌, ◌≤◌}
use native.Mathlib.Omega.{arith}
use mathlib.Core.Bool.{Bool, true, false, not, ◌&&◌, and_comm}
use mathlib.Core.Path.{◌≡◌, refl, sym, ◌∙◌, ap}
use mathlib.Core.Logic.{◌⊎◌, inl, inr}
use mathlib.Core.List.Memᴰ
use mathlib.Core.List.{List, [], ◌∷◌, map, flatten, Memᴰ}
use borrow.Author.Tests.{eqb-true}
use lib.Dec.{eqb}
use lib.ListN.{get_or}
use Rattle.laws.specs.Lists.{keep, count, pairwise}
use Rattle.laws.proofs.Tests.{clash, by-fail, and_l, and_r, not-i}
use Rattle.laws.proofs.Lists.{Passing, some?-e, keep-mem, mem-keep-in, mem-keep-passes, keep-nil, keep-pass, keep-fail}
use Rattle.laws.proofs.Count.{count_map, count-keep, count-ext, count-split, count-find}
use Rattle.laws.proofs.Least.{mem-least-in, mem-least-first}
use Rattle.laws.proofs.Pairwise.{pairwise-mono, pairwise-le-one}
use Rattle.cell.specs.declared.Cell.{Cell}
use Rattle.cell.specs.Limits.{section_room}
use Rattle.cell.specs.Order.{over}
use Rattle.cell.proofs.Order.{over-total}
use Rattle.model.specs.State.{Entry, is_listed, is_buffered}
use Rattle.model.specs.Phase.{Waiting, number_from, waiting, beats, among}
use Rattle.model.specs.Crossbar.{leaving, without}
use Rattle.model.specs.CodeSlackness.{cushion, Slack, other_number, other_arrival}
use Rattle.model.proofs.Numbering.{entry_of, number_from-entries, section-waiting, count-waiting, without_at}
use Rattle.model.proofs.Numbering.{flatten-without}
use Rattle.model.proofs.PhasePlaces.{listed-not-buffered}
use Rattle.model.proofs.SameDeparture.{Best}
use Rattle.model.proofs.WaitingOrder.{beats-i, differ, same_number}
use Rattle.model.proofs.SlackSections.{Behind, here, there, behind-nil, listed_in, listed_in-cons, listed_in-fail}
use Rattle.model.proofs.SlackSections.{cushion_at, SlackAt, shields, shields-output, thread-grows}

------------------------------------------------------------------------
-- the cells that leave

module _ (ports : ℕ) (all : List Waiting) where
  pub leaving-in : {f : Waiting} → Memᴰ f (leaving ports all) → Memᴰ f all
  unfolding leaving
  leaving-in m =
      mem-keep-in (λ e. is_buffered e.place) all
      (mem-least-in (beats ports) (keep (λ e. is_buffered e.place) all) m)

  pub leaving-buffered : {f : Waiting} → Memᴰ f (leaving ports all) → is_buffered f.place ≡ true
  unfolding leaving
  leaving-buffered m =
      mem-keep-passes (λ e. is_buffered e.place) all
      (mem-least-in (beats ports) (keep (λ e. is_buffered e.place) all) m)

  -- none in the buffer of its output has higher output priority
  pub leaving-first : {f g : Waiting} → Memᴰ f (leaving ports all) → Memᴰ g all → is_buffered g.place ≡ true
      → beats ports g f ≡ false
  unfolding leaving
  leaving-first m k b =
      mem-least-first (beats ports) (keep (λ e. is_buffered e.place) all) m
      (keep-mem (λ e. is_buffered e.place) k b)

  -- e shields c, and leaves
  shield_leaves : Cell → Waiting → Bool
  shield_leaves c e = shields ports c (entry_of e) && among (leaving ports all) e

  module _ (numbers : pairwise other_number all ≡ true) where
    among-leaving : {e : Waiting} → Memᴰ e all → among (leaving ports all) e ≡ true
        → Memᴰ e (leaving ports all)
    unfolding among
    among-leaving {e} m h =
        let w : Passing (λ f. eqb f.at e.at) (leaving ports all) =
        some?-e (λ f. eqb f.at e.at) (leaving ports all) h in
        Memᴰ.cast (same_number numbers m (leaving-in w.1) (sym (eqb-true w.0.at e.at w.2))) w.1

    -- a cell in a list stays
    listed-stays : {e : Waiting} → Memᴰ e all → is_listed e.place ≡ true
        → not (among (leaving ports all) e) ≡ true
    listed-stays {e} m l =
        not-i (among (leaving ports all) e)
        (by-fail (among (leaving ports all) e)
        (λ h. clash (leaving-buffered (among-leaving m h)) (listed-not-buffered e.place l)))

    module _ (arrivals : pairwise other_arrival all ≡ true) (c : Cell) where
      shield-in : {e : Waiting} → Memᴰ e all → shield_leaves c e ≡ true → Memᴰ e (leaving ports all)
      unfolding shield_leaves
      shield-in {e} m h = among-leaving m (and_r (shields ports c (entry_of e)) (among (leaving ports all) e) h)

      shield-output : (e : Waiting) → shield_leaves c e ≡ true → e.cell.output ≡ c.output
      unfolding shield_leaves
      shield-output e h =
          shields-output ports c (entry_of e) (and_l (shields ports c (entry_of e)) (among (leaving ports all) e) h)

      -- neither of two that leave one output has the higher output priority
      not-both : (e f : Waiting) → Memᴰ e all → Memᴰ f all → other_arrival e f ≡ true
          → not (shield_leaves c e && shield_leaves c f) ≡ true
      not-both e f m k o =
          not-i (shield_leaves c e && shield_leaves c f) (by-fail (shield_leaves c e && shield_leaves c f) both)
        where
          go : Memᴰ e (leaving ports all) → Memᴰ f (leaving ports all) → e.cell.output ≡ f.cell.output
              → (over ports e.cell f.cell ≡ true) ⊎ (over ports f.cell e.cell ≡ true) → ⊥
          go i j h (inl p) = clash (beats-i ports e f h p) (leaving-first j m (leaving-buffered i))
          go i j h (inr p) = clash (beats-i ports f e (sym h) p) (leaving-first i k (leaving-buffered j))

          both : (shield_leaves c e && shield_leaves c f) ≡ true → ⊥
          both h =
              let p : shield_leaves c e ≡ true = and_l (shield_leaves c e) (shield_leaves c f) h in
              let q : shield_leaves c f ≡ true = and_r (shield_leaves c e) (shield_leaves c f) h in
              go (shield-in m p) (shield-in k q) (shield-output e p ∙ sym (shield-output f q))
              (over-total ports e.cell f.cell (differ e f o))

      -- of the cells that shield a cell at most one leaves
      one-leaves : count (shield_leaves c) all ≤ 1
      one-leaves =
          pairwise-le-one (shield_leaves c) all
          (pairwise-mono other_arrival (λ e f. not (shield_leaves c e && shield_leaves c f)) all not-both arrivals)

------------------------------------------------------------------------
-- threads

-- where all that are in the list are kept, as many of the list stand before an entry
keep-behind : (p : Waiting → Bool) (ws : List Waiting)
    → ((w : Waiting) → Memᴰ w ws → is_listed w.place ≡ true → p w ≡ true)
    → {pre : List Entry} {e : Entry} → Behind pre e (map entry_of (keep p ws))
    → (before : List Entry) × Behind before e (map entry_of ws) × (listed_in pre ≡ listed_in before)
keep-behind p [] h s = absurd (behind-nil (rw (keep-nil p) at s))
keep-behind p (w ∷ ws) h {pre} {e} s =
    go (p w) refl (λ before t. keep-behind p ws (λ v m. h v (Memᴰ.tail m)) t)
  where
    Was : List Entry → List Waiting → Type 0
    Was pre ws = (before : List Entry) × Behind before e (map entry_of ws) × (listed_in pre ≡ listed_in before)

    pass : {pre : List Entry} → ((before : List Entry) → Behind before e (map entry_of (keep p ws)) → Was before ws)
        → Behind pre e (entry_of w ∷ map entry_of (keep p ws)) → Was pre (w ∷ ws)
    pass rec (here q) = ([], here q, refl)
    pass rec (there {pre = before} t) =
        let v = rec before t in
        let n : listed_in before ≡ listed_in v.0 = v.2 in (
          entry_of w ∷ v.0,
          there v.1,
          omega (arith, listed_in-cons (entry_of w) before, listed_in-cons (entry_of w) v.0),
        )

    go : (b : Bool) → p w ≡ b → ((before : List Entry) → Behind before e (map entry_of (keep p ws)) → Was before ws)
        → Was pre (w ∷ ws)
    go true q rec = pass rec (rw (keep-pass p w ws q) at s)
    go false q rec =
        let v = rec pre (rw (keep-fail p w ws q) at s) in
        let n : listed_in pre ≡ listed_in v.0 = v.2 in
        (entry_of w ∷ v.0, there v.1, omega (arith, listed_in-fail (entry_of w) v.0 other))
      where
        other : is_listed w.place ≡ false
        other = by-fail (is_listed w.place) (λ l. clash (h w (Memᴰ.head refl) l) q)

------------------------------------------------------------------------
-- slackness

module _ (ports : ℕ) (sections : List (List Entry)) (numbers : pairwise other_number (waiting sections) ≡ true) where
  out : List Waiting
  out = leaving ports (waiting sections)

  -- departure takes no cell from a list
  without-behind : (k : ℕ) {pre : List Entry} {e : Entry} → Behind pre e (get_or (without out sections) k [])
      → (before : List Entry) × Behind before e (get_or sections k []) × (listed_in pre ≡ listed_in before)
  unfolding out
  without-behind k {pre} {e} s =
      go
      (keep-behind (λ e. not (among out e)) ws
      (λ w m l. listed-stays ports (waiting sections) numbers (section-waiting sections k m) l)
      (rw (without_at out sections k) at s))
    where
      ws : List Waiting
      ws = number_from (section_room * k) (get_or sections k [])

      go : (before : List Entry) × Behind before e (map entry_of ws) × (listed_in pre ≡ listed_in before)
          → (before : List Entry) × Behind before e (get_or sections k []) × (listed_in pre ≡ listed_in before)
      go v = (v.0, rw (number_from-entries (section_room * k) (get_or sections k [])) at v.1, v.2)

  module _ (arrivals : pairwise other_arrival (waiting sections) ≡ true) where
    -- and from each buffer at most one
    cushion-without : (e : Entry) → cushion_at ports sections e ≤ cushion_at ports (without out sections) e + 1
    unfolding out cushion_at shield_leaves
    cushion-without e =
        omega (
          arith,
          before,
          after,
          count-split p (among out) (waiting sections),
          one-leaves ports (waiting sections) numbers arrivals e.cell,
        )
      where
        p : Waiting → Bool
        p w = shields ports e.cell (entry_of w)

        before : count (shields ports e.cell) (flatten sections) ≡ count p (waiting sections)
        before = sym (count-waiting (shields ports e.cell) sections)

        after : count (shields ports e.cell) (flatten (without out sections))
            ≡ count (λ w. p w && not (among out w)) (waiting sections)
        after =
            ap (count (shields ports e.cell)) (flatten-without out sections)
            ∙ count_map (shields ports e.cell) entry_of (keep (λ w. not (among out w)) (waiting sections))
            ∙ count-keep (λ w. not (among out w)) p (waiting sections)
            ∙ count-ext (λ w. not (among out w) && p w) (λ w. p w && not (among out w)) (waiting sections)
            (λ w m. and_comm (not (among out w)) (p w))

    pub departure-slack : SlackAt ports 2 1 sections
        → SlackAt ports 0 0 (without (leaving ports (waiting sections)) sections)
    unfolding out
    departure-slack slack k pre e s b =
        let v = without-behind k s in
        let n : listed_in pre ≡ listed_in v.0 = v.2 in
        omega
        (arith, thread-grows pre v.0 e 0 (omega arith), slack k v.0 e v.1 b, cushion-without e)

-- a cell with more to spare than stand before it has one over it in the buffer of its output
pub best-buffered : (ports : ℕ) (all : List Waiting) → Slack ports 2 1 all → Best ports all
unfolding cushion
best-buffered ports all slack e m b =
    let v : Passing (λ f. is_buffered f.place && beats ports f e) all =
    count-find (λ f. is_buffered f.place && beats ports f e) all (omega (arith, slack e m b)) in (
      v.0,
      v.1,
      and_l (is_buffered v.0.place) (beats ports v.0 e) v.2,
      and_r (is_buffered v.0.place) (beats ports v.0 e) v.2,
    )
