-- What holds while the inputs are asked, one after the other.
--     asking-start               before the first proposal
--     asking-next                one more input is asked
--     asking-few, asked-output   the numbers on the way are small
use Prim.Native.Nat.{ℕ, ◌+◌, ◌/◌, ◌≤◌, ◌<◌}
use native.Mathlib.Omega.{arith}
use mathlib.Core.Bool.{Bool, true, false, not, ◌||◌}
use mathlib.Core.Path.{◌≡◌, sym, ◌∙◌, ap, subst}
use mathlib.Core.Logic.{◌⊎◌, inl, inr, ◌≢◌}
use mathlib.Core.List.{List, Memᴰ}
use borrow.Author.Tests.{eqb-true, eqb-false, ne_eqb}
use lib.Dec.{eqb}
use lib.ListN.{length, get_or, replicate, length-replicate, get_or-replicate}
use Rattle.laws.specs.Lists.{count}
use Rattle.laws.proofs.Tests.{either, or-false, not-false-i}
use Rattle.laws.proofs.Lists.{none?-i}
use Rattle.laws.proofs.Count.{count-zero, count-le-length}
use Rattle.layout.specs.Table.{entry_limit}
use Rattle.layout_table.specs.CodeEntries.{nowhere}
use Rattle.slot_matching.specs.CodeFound.{numbers_of, output_at, over_at, ToOutputs}
use Rattle.slot_matching.specs.CodeProposing.{next_in}
use Rattle.slot_matching.proofs.Numbers.{is_in, mem-numbers_of, numbers_of-few, next-proposed, proposed-next}
use Rattle.slot_matching.proofs.Left.{Proposal, proposal-small, Left, left-all, in_all}

module _ (table : List ℕ) where
  abbrev out : ℕ → ℕ
  out = output_at table

  -- k was proposed: it was refused or is held
  abbrev pub asked? : List ℕ → List ℕ → ℕ → Bool
  asked? left held k = not (is_in left k) || eqb (get_or held (out k) 0) k

  -- output o holds k, of one of the first n inputs
  pub record Holds (left : List ℕ) (n o k : ℕ) : Type 0 where
    pub proposal : Proposal (over_at table) left k
    pub here : out k ≡ o
    pub early : k / 64 < n

  -- k is to be proposed
  pub record Asks (left held : List ℕ) (n k : ℕ) : Type 0 where
    pub proposal : Proposal (over_at table) left k
    pub free : get_or held (out k) 0 ≢ k
    pub early : k / 64 < n

  -- the first n inputs were asked, and so many proposals made; k is to be proposed next, if it is below 1,024
  pub record Asking (candidates left held : List ℕ) (n k made : ℕ) : Type 0 where
    pub sound : Left (over_at table) candidates left
    pub size : length held ≡ 16
    pub held-le : (o : ℕ) → o < 16 → get_or held o 0 ≤ entry_limit
    pub holds : (o : ℕ) → o < 16 → get_or held o 0 < entry_limit → Holds left n o (get_or held o 0)
    pub asks : k < entry_limit → Asks left held n k
    -- the next candidate of every other input that was asked is held
    pub settled : (c : ℕ) → Proposal (over_at table) left c → c / 64 < n → (get_or held (out c) 0 ≡ c) ⊎ (c ≡ k)
    pub counted : made ≡ count (asked? left held) (numbers_of candidates)

  module _ (candidates : List ℕ) (to : ToOutputs table (numbers_of candidates)) where
    pub asking-start : length candidates ≡ 16 → Asking candidates candidates (replicate 16 nowhere) 0 entry_limit 0
    asking-start h =
        record {
          sound = left-all (over_at table) candidates h;
          size = length-replicate {A = ℕ} 16 nowhere;
          held-le = λ o b. omega (arith, unheld o b);
          holds = λ o b s. absurd (omega (arith, unheld o b));
          asks = λ s. absurd (omega arith);
          settled = λ c m b. absurd (omega arith);
          counted = sym (count-zero _ (numbers_of candidates) (none?-i _ (numbers_of candidates) unasked));
        }
      where
        unheld : (o : ℕ) → o < 16 → ◌≡◌ {A = ℕ} (get_or (replicate 16 nowhere) o 0) nowhere
        unheld o b = get_or-replicate 16 o nowhere 0 b

        unasked : (k : ℕ) → Memᴰ k (numbers_of candidates) → asked? candidates (replicate 16 nowhere) k ≡ false
        unasked k m =
            let w = mem-numbers_of candidates m in
            or-false _ _ (not-false-i _ w.1)
            (ne_eqb _ k (λ e. omega (arith, unheld (out k) (to.small k m), w.0)))

    module _ (left held : List ℕ) (n k made : ℕ) (a : Asking candidates left held n k made) where
      pub asking-few : (made ≤ length (numbers_of candidates)) × (made ≤ entry_limit)
      asking-few =
          let b : made ≤ length (numbers_of candidates) =
          rw a.counted (count-le-length (asked? left held) (numbers_of candidates)) in
          (b, omega (arith, numbers_of-few candidates))

      pub output-small : {c : ℕ} → Proposal (over_at table) left c → out c < 16
      output-small {c} m = to.small c (in_all (over_at table) a.sound m)

      pub asked-output : k < entry_limit → out k < 16
      asked-output h = output-small (a.asks h).proposal

      pub asking-next : nowhere ≤ k → n < 16 → Asking candidates left held (n + 1) (next_in (get_or left n 0) n) made
      asking-next last h =
          record {
            sound = a.sound;
            size = a.size;
            held-le = a.held-le;
            holds = λ o b s.
                let w = a.holds o b s in
                record { proposal = w.proposal; here = w.here; early = omega (arith, w.early) };
            asks = asks;
            settled = λ c m b. settled c m b (either (eqb (c / 64) n));
            counted = a.counted;
          }
        where
          next : ℕ
          next = next_in (get_or left n 0) n

          -- nobody holds a candidate of this input
          asks : next < entry_limit → Asks left held (n + 1) next
          asks s =
              let w = next-proposed left (over_at table) n h s in
              record {
                proposal = w.0;
                free = λ e. omega (
                  arith,
                  (subst (Holds left n (out next)) e (a.holds (out next) (output-small w.0) (omega arith))).early,
                  w.1,
                );
                early = omega (arith, w.1);
              }

          settled : (c : ℕ) → Proposal (over_at table) left c → c / 64 < n + 1
              → (eqb (c / 64) n ≡ true) ⊎ (eqb (c / 64) n ≡ false) → (get_or held (out c) 0 ≡ c) ⊎ (c ≡ next)
          settled c m b (inl t) =
              inr (proposed-next left (over_at table) m
              ∙ ap (λ i. next_in (get_or left i 0) i) (eqb-true (c / 64) n t))
          settled c m b (inr f) =
              let d : c / 64 ≢ n = eqb-false (c / 64) n f in
              before (a.settled c m (omega arith))
            where
              before : (get_or held (out c) 0 ≡ c) ⊎ (c ≡ k) → (get_or held (out c) 0 ≡ c) ⊎ (c ≡ next)
              before (inl e) = inl e
              before (inr e) = absurd (omega (arith, proposal-small (over_at table) left m))
