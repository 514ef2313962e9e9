-- What holds after one more proposal, by its three cases:
--     after_kept    the output is free
--     after-wins    the new one is over the one that the output holds
--     after-loses   it is not
use Prim.Native.Nat.{ℕ, ◌+◌, ◌/◌, ◌≤◌, ◌<◌}
use native.Mathlib.Omega.{arith}
use mathlib.Core.Bool.{Bool, true, false, not, ◌&&◌, ◌||◌}
use mathlib.Core.Path.{◌≡◌, refl, sym, ◌∙◌, ap, ap₂, subst}
use mathlib.Core.Logic.{◌⊎◌, inl, inr, ◌≢◌}
use mathlib.Core.List.{List, Memᴰ}
use borrow.Author.Tests.{eqb-true, eqb-false, eq-eqb, ne_eqb}
use lib.Dec.{eqb}
use lib.ListN.{length, get_or, set, length-set}
use lib.Seq.{get_or-set_same, get_or-set_other}
use Rattle.laws.specs.Lists.{count}
use Rattle.laws.proofs.Tests.{and-false-l, and_false_r, or_l, or_r, or-false, not-i, not-false-i}
use Rattle.laws.proofs.Lists.{none?-i}
use Rattle.laws.proofs.Count.{count-split, count-ext, count-zero}
use Rattle.cell.specs.Order.{over}
use Rattle.matching.proofs.Refusing.{refusing-part}
use Rattle.layout.specs.Table.{entry_limit}
use Rattle.layout.specs.Code.{ports_in}
use Rattle.layout_table.specs.CodeEntries.{nowhere}
use Rattle.slot_matching.specs.CodeFound.{numbers_of, cell_at, output_at, over_at, ToOutputs}
use Rattle.slot_matching.specs.CodeProposing.{without, Proposed, kept, wins, loses}
use Rattle.slot_matching.proofs.Numbers.{is_in, mem-numbers_of, numbers_of-once, over_at-i, over_at-total, proposed-one}
use Rattle.slot_matching.proofs.Left.{in_left, proposal-small, in_all, next, Next, Refusal, refusal}
use Rattle.slot_matching.proofs.Left as lefts
use Rattle.slot_matching.proofs.Asking.{asked?, Holds, Asks, Asking, output-small}

-- l with v at i: what it has at j
abbrev SetAt : List ℕ → ℕ → ℕ → ℕ → Type 0
SetAt l i v j = ((j ≡ i) × (get_or (set l i v) j 0 ≡ v)) ⊎ ((j ≢ i) × (get_or (set l i v) j 0 ≡ get_or l j 0))

set_at : (l : List ℕ) (i v j : ℕ) → i < length l → SetAt l i v j
set_at l i v j h = go (eqb j i) refl
  where
    go : (b : Bool) → eqb j i ≡ b → SetAt l i v j
    go true e =
        let f : j ≡ i = eqb-true j i e in
        inl (f, ap (λ m. get_or (set l i v) m 0) f ∙ get_or-set_same l i v 0 h)
    go false e = let f : j ≢ i = eqb-false j i e in inr (f, get_or-set_other l i j v 0 f)

-- one more passes: k, which is there once
count-one-more : (p q : ℕ → Bool) (k : ℕ) (l : List ℕ) → count (λ j. eqb j k) l ≡ 1 → p k ≡ false → q k ≡ true
    → ((j : ℕ) → Memᴰ j l → j ≢ k → q j ≡ p j) → count p l + 1 ≡ count q l
count-one-more p q k l once fails passes rest =
    omega (
      arith,
      count-split p is l,
      count-split q is l,
      count-zero (λ j. p j && is j) l (none?-i _ l (λ j m. before j (eqb j k) refl)),
      count-ext (λ j. q j && is j) is l (λ j m. after j (eqb j k) refl),
      count-ext (λ j. q j && not (is j)) (λ j. p j && not (is j)) l (λ j m. others j m (eqb j k) refl),
    )
  where
    is : ℕ → Bool
    is j = eqb j k

    before : (j : ℕ) (b : Bool) → eqb j k ≡ b → (p j && is j) ≡ false
    before j true e = and-false-l (p j) (is j) (ap p (eqb-true j k e) ∙ fails)
    before j false e = and_false_r (p j) (is j) e

    after : (j : ℕ) (b : Bool) → eqb j k ≡ b → (q j && is j) ≡ is j
    after j true e = ap (λ b. b && is j) (ap q (eqb-true j k e) ∙ passes)
    after j false e = and_false_r (q j) (is j) e ∙ sym e

    others : (j : ℕ) → Memᴰ j l → (b : Bool) → eqb j k ≡ b → (q j && not (is j)) ≡ (p j && not (is j))
    others j m true e =
        and_false_r (q j) (not (is j)) (not-false-i (is j) e) ∙ sym (and_false_r (p j) (not (is j)) (not-false-i (is j) e))
    others j m false e = ap (λ b. b && not (is j)) (rest j m (eqb-false j k e))

module _ (table candidates : List ℕ) (to : ToOutputs table (numbers_of candidates)) where
  abbrev out : ℕ → ℕ
  out = output_at table

  abbrev overs : ℕ → ℕ → Bool
  overs = over_at table

  abbrev Proposal : List ℕ → ℕ → Type 0
  Proposal = lefts.Proposal overs

  module _ (left held : List ℕ) (n k made : ℕ) (a : Asking table candidates left held n k made) (h : k < entry_limit) where
    open a.asks h use {proposal, free, early}

    abbrev o : ℕ
    o = out k

    abbrev holder : ℕ
    holder = get_or held o 0

    o-small : o < 16
    o-small = output-small table candidates to left held n k made a proposal

    ------------------------------------------------------------------------
    -- one more was proposed

    one_further : (l g : List ℕ) → asked? table l g k ≡ true
        → ((c : ℕ) → Memᴰ c (numbers_of candidates) → c ≢ k → asked? table l g c ≡ asked? table left held c)
        → made + 1 ≡ count (asked? table l g) (numbers_of candidates)
    one_further l g t rest =
        ap (λ m. m + 1) a.counted
        ∙ count-one-more (asked? table left held) (asked? table l g) k (numbers_of candidates)
        (numbers_of-once candidates k (in_all overs a.sound proposal)) unasked t rest
      where
        unasked : asked? table left held k ≡ false
        unasked =
            or-false _ _ (not-false-i _ (mem-numbers_of left (in_left overs left proposal)).1) (ne_eqb holder k free)

    ------------------------------------------------------------------------
    -- the output takes k

    abbrev held' : List ℕ
    held' = set held o k

    held_at : (p : ℕ) → SetAt held o k p
    held_at p = set_at held o k p (rw a.size o-small)

    taken-k : get_or held' o 0 ≡ k
    taken-k = get_or-set_same held o k 0 (rw a.size o-small)

    taken-le : (p : ℕ) → p < 16 → get_or held' p 0 ≤ entry_limit
    taken-le p b = go (held_at p)
      where
        go : SetAt held o k p → get_or held' p 0 ≤ entry_limit
        go (inl w) = omega arith
        go (inr w) = omega (arith, a.held-le p b)

    taken-holds : (l : List ℕ) → Proposal l k
        → ((p : ℕ) → p < 16 → p ≢ o → get_or held p 0 < entry_limit → Proposal l (get_or held p 0))
        → (p : ℕ) → p < 16 → get_or held' p 0 < entry_limit → Holds table l n p (get_or held' p 0)
    taken-holds l here rest p b s = go (held_at p)
      where
        go : SetAt held o k p → Holds table l n p (get_or held' p 0)
        go (inl w) = rw w.1 (record { proposal = here; here = sym w.0; early = early })
        go (inr w) =
            let t : get_or held p 0 < entry_limit = omega arith in
            let v = a.holds p b t in
            rw w.1 (record { proposal = rest p b w.0 t; here = v.here; early = v.early })

    -- whoever is held is still, but the one that the output held
    taken-settled : (c j : ℕ) → holder ≢ c → (get_or held (out c) 0 ≡ c) ⊎ (c ≡ k) → (get_or held' (out c) 0 ≡ c) ⊎ (c ≡ j)
    taken-settled c j f (inl e) = inl (go (held_at (out c)))
      where
        go : SetAt held o k (out c) → get_or held' (out c) 0 ≡ c
        go (inl w) = absurd (f (ap (λ p. get_or held p 0) (sym w.0) ∙ e))
        go (inr w) = w.1 ∙ e
    taken-settled c j f (inr e) = inl (ap (λ x. get_or held' (out x) 0) e ∙ taken-k ∙ sym e)

    taken-other : (c : ℕ) → c ≢ k → holder ≢ c → eqb (get_or held' (out c) 0) c ≡ eqb (get_or held (out c) 0) c
    taken-other c e f = go (held_at (out c))
      where
        go : SetAt held o k (out c) → eqb (get_or held' (out c) 0) c ≡ eqb (get_or held (out c) 0) c
        go (inl w) =
            ne_eqb _ c (λ q. e (sym q ∙ w.1))
            ∙ sym (ne_eqb _ c (λ q. f (ap (λ p. get_or held p 0) (sym w.0) ∙ q)))
        go (inr w) = ap (λ x. eqb x c) w.1

    taken-asked : (l : List ℕ) → asked? table l held' k ≡ true
    taken-asked l = or_r (not (is_in l k)) _ (eq-eqb _ k taken-k)

    ------------------------------------------------------------------------
    -- the three cases

    after_kept : nowhere ≤ holder → Asking table candidates left held' n entry_limit (made + 1)
    after_kept f =
        record {
          sound = a.sound;
          size = length-set held o k ∙ a.size;
          held-le = taken-le;
          holds = taken-holds left proposal (λ p b e s. (a.holds p b s).proposal);
          asks = λ s. absurd (omega arith);
          settled = λ c m b.
              taken-settled c nowhere (λ q. omega (arith, proposal-small overs left m)) (a.settled c m b);
          counted =
              one_further left held' (taken-asked left) (λ c m e.
              ap (λ b. not (is_in left c) || b)
              (taken-other c e (λ q. omega (arith, (mem-numbers_of candidates m).0))));
        }

    module _ (s : holder < entry_limit) where
      holding : Holds table left n o holder
      holding = a.holds o o-small s

      apart : k / 64 ≢ holder / 64
      apart e = free (sym (proposed-one left overs proposal holding.proposal e))

      -- what is proposed next is not held so far
      next-unheld : (r : ℕ) → Next overs left r → next overs left r < entry_limit
          → get_or held (out (next overs left r)) 0 ≢ next overs left r
      next-unheld r w b e =
          let i : out (next overs left r) < 16 =
          to.small _ (refusing-part _ overs a.sound.refusing _ w.there) in
          w.new (subst (Proposal left) e (a.holds _ i (omega arith)).proposal)

      after-wins : over (ports_in table) (cell_at table k) (cell_at table holder) ≡ true
          → Asking table candidates (without left holder) held' n (next overs left holder) (made + 1)
      after-wins w =
          record {
            sound = gone.left';
            size = length-set held o k ∙ a.size;
            held-le = taken-le;
            holds =
                taken-holds (without left holder) (gone.stays k proposal (λ q. free (sym q))) (λ p b e t.
                let v = a.holds p b t in
                gone.stays _ v.proposal (λ q. e (sym v.here ∙ ap out q ∙ holding.here)));
            asks = asks;
            settled = λ c m b. settled c b (gone.was c m);
            counted =
                one_further (without left holder) held' (taken-asked (without left holder)) (λ c m e.
                same_asked c e (eqb c holder) refl);
          }
        where
          gone : Refusal overs candidates left holder
          gone =
              refusal overs candidates left a.sound holder k holding.proposal proposal
              (over_at-i table k holder (sym holding.here) w)

          new : ℕ
          new = next overs left holder

          asks : new < entry_limit → Asks table (without left holder) held' n new
          asks t =
              record {
                proposal = v.proposal;
                free = λ e. unheld e (held_at (out new));
                early = omega (arith, v.same-input, holding.early);
              }
            where
              v : Next overs left holder
              v = gone.goes_on t

              unheld : get_or held' (out new) 0 ≡ new → SetAt held o k (out new) → ⊥
              unheld e (inl q) = apart (ap (λ x. x / 64) (sym q.1 ∙ e) ∙ v.same-input)
              unheld e (inr q) = next-unheld holder v t (sym q.1 ∙ e)

          settled : (c : ℕ) → c / 64 < n → (c ≡ new) ⊎ (Proposal left c × (c / 64 ≢ holder / 64))
              → (get_or held' (out c) 0 ≡ c) ⊎ (c ≡ new)
          settled c b (inl e) = inr e
          settled c b (inr v) =
              taken-settled c new (λ q. v.1 (ap (λ x. x / 64) (sym q))) (a.settled c v.0 b)

          same_asked : (c : ℕ) → c ≢ k → (b : Bool) → eqb c holder ≡ b
              → asked? table (without left holder) held' c ≡ asked? table left held c
          same_asked c e true t =
              let q : c ≡ holder = eqb-true c holder t in
              or_l _ _ (not-i _ (ap (is_in (without left holder)) q ∙ gone.gone))
              ∙ sym (or_r (not (is_in left c)) _ (eq-eqb _ c (ap (λ x. get_or held (out x) 0) q
              ∙ ap (λ p. get_or held p 0) holding.here ∙ sym q)))
          same_asked c e false t =
              let q : c ≢ holder = eqb-false c holder t in
              ap₂ (λ x y. not x || y) (gone.kept c q) (taken-other c e (λ f. q (sym f)))

      after-loses : over (ports_in table) (cell_at table k) (cell_at table holder) ≡ false
          → Asking table candidates (without left k) held n (next overs left k) (made + 1)
      after-loses w =
          record {
            sound = gone.left';
            size = a.size;
            held-le = a.held-le;
            holds = λ p b t.
                let v = a.holds p b t in
                record {
                  proposal =
                      gone.stays _ v.proposal
                      (λ q. free (ap (λ x. get_or held x 0) (ap out (sym q) ∙ v.here) ∙ q));
                  here = v.here;
                  early = v.early;
                };
            asks = λ t.
                let v = gone.goes_on t in
                record {
                  proposal = v.proposal;
                  free = next-unheld k v t;
                  early = omega (arith, v.same-input, early);
                };
            settled = λ c m b. settled c b (gone.was c m);
            counted =
                one_further (without left k) held (or_l (not (is_in (without left k) k)) _ (not-i _ gone.gone)) (λ c m e.
                ap (λ x. not x || eqb (get_or held (out c) 0) c) (gone.kept c e));
          }
        where
          gone : Refusal overs candidates left k
          gone =
              refusal overs candidates left a.sound k holder proposal holding.proposal
              (over_at-total table k holder apart (sym holding.here) w)

          settled : (c : ℕ) → c / 64 < n → (c ≡ next overs left k) ⊎ (Proposal left c × (c / 64 ≢ k / 64))
              → (get_or held (out c) 0 ≡ c) ⊎ (c ≡ next overs left k)
          settled c b (inl e) = inr e
          settled c b (inr v) = before (a.settled c v.0 b)
            where
              before : (get_or held (out c) 0 ≡ c) ⊎ (c ≡ k) → (get_or held (out c) 0 ≡ c) ⊎ (c ≡ next overs left k)
              before (inl e) = inl e
              before (inr e) = absurd (v.1 (ap (λ x. x / 64) e))

    pub asking-after : (left'' held'' : List ℕ) (next'' : ℕ) → Proposed table left held k left'' held'' next''
        → Asking table candidates left'' held'' n next'' (made + 1)
    asking-after left'' held'' next'' (kept f e g q) = rw (e, g, q) (after_kept f)
    asking-after left'' held'' next'' (wins s w g r) = rw (r.others, g, r.goes_on) (after-wins s w)
    asking-after left'' held'' next'' (loses s w g r) = rw (r.others, g, r.goes_on) (after-loses s w)
