-- All inputs were asked and nobody is to propose: what is held is the matching.
use Prim.Native.Nat.{ℕ, ◌≤◌, ◌<◌}
use native.Mathlib.Omega.{arith}
use mathlib.Core.Bool.{Bool, true, false, not}
use mathlib.Core.Path.{◌≡◌, sym, ◌∙◌, ap, subst}
use mathlib.Core.Logic.{◌⊎◌, inl, inr}
use mathlib.Core.List.{List, Memᴰ}
use borrow.Author.Tests.{ltb-true, ltb-false, eqb-true, eq-eqb, not-true}
use lib.Dec.{ltb, eqb}
use lib.ListN.{get_or, get_or-eq_default}
use Rattle.laws.specs.Lists.{keep, none?}
use Rattle.laws.proofs.Tests.{either, clash, by-fail, same, or_l, or_r, or_cases, not-i}
use Rattle.laws.proofs.Lists.{none?-i, keep-mem, mem-keep, keep-members, get_d_any}
use Rattle.laws.proofs.Count.{count-ext}
use Rattle.matching.specs.Matching.{proposed, matched, proposals}
use Rattle.matching.specs.Stable.{AtRest}
use Rattle.matching.proofs.Proposed.{proposed-keeps, mem-proposed-none, none?-proposed}
use Rattle.matching.proofs.Refusing.{refusing-proposed}
use Rattle.matching.proofs.Matching.{matched-any-order}
use Rattle.layout.specs.Table.{entry_limit}
use Rattle.layout_table.specs.CodeEntries.{nowhere}
use Rattle.slot_matching.specs.CodeFound.{numbers_of, ahead_at, output_at, over_at, ToOutputs, Found}
use Rattle.slot_matching.proofs.Numbers.{is_in, numbers_of-mem, mem-numbers_of}
use Rattle.slot_matching.proofs.Numbers.{ahead_at-strict, over_at-output, over_at-strict}
use Rattle.slot_matching.proofs.Left.{proposal-small, in_all}
use Rattle.slot_matching.proofs.Left as lefts
use Rattle.slot_matching.proofs.Asking.{asked?, Asking, asking-few}

module _ (table candidates : List ℕ) (to : ToOutputs table (numbers_of candidates)) (left held : List ℕ) (k made : ℕ)
    (a : Asking table candidates left held 16 k made) (last : nowhere ≤ k) where
  abbrev all : List ℕ
  all = numbers_of candidates

  abbrev out : ℕ → ℕ
  out = output_at table

  abbrev overs : ℕ → ℕ → Bool
  overs = over_at table

  abbrev Proposal : ℕ → Type 0
  Proposal = lefts.Proposal overs left

  -- what is held is what is proposed
  proposal-held : {c : ℕ} → Proposal c → get_or held (out c) 0 ≡ c
  proposal-held {c} m =
      let b : c < entry_limit = proposal-small overs left m in
      go (a.settled c m (omega arith))
    where
      go : (get_or held (out c) 0 ≡ c) ⊎ (c ≡ k) → get_or held (out c) 0 ≡ c
      go (inl e) = e
      go (inr e) = absurd (omega (arith, proposal-small overs left m))

  held-proposal : {c : ℕ} → Memᴰ c all → get_or held (out c) 0 ≡ c → Proposal c
  held-proposal {c} m e =
      subst Proposal e (a.holds (out c) (to.small c m) (omega (arith, (mem-numbers_of candidates m).0))).proposal

  at_rest : AtRest ahead_at overs (numbers_of left)
  at_rest c m = none?-i (λ d. overs d c) _ (λ d i. by-fail (overs d c) (λ t. go d i t))
    where
      go : (d : ℕ) → Proposal d → overs d c ≡ true → ⊥
      go d i t =
          let e : d ≡ c =
          sym (proposal-held i) ∙ ap (λ o. get_or held o 0) (over_at-output table d c t) ∙ proposal-held m in
          clash t (ap (λ x. overs x c) e ∙ (over_at-strict table).irreflexive c)

  matched-is : proposed ahead_at overs (numbers_of left) ≡ matched ahead_at overs all
  matched-is = matched-any-order ahead_at overs ahead_at-strict (over_at-strict table) a.sound.refusing at_rest

  -- what was proposed is what no candidate that is left stands ahead of
  asked_is : (c : ℕ) → Memᴰ c all → asked? table left held c ≡ none? (λ d. ahead_at d c) (numbers_of left)
  asked_is c m = same _ _ (λ t. into (or_cases _ _ t)) (λ t. back t (either (is_in left c)))
    where
      first : Memᴰ c (numbers_of left) ⊎ (none? (λ d. ahead_at d c) (numbers_of left) ≡ true)
          → is_in left c ≡ false → none? (λ d. ahead_at d c) (numbers_of left) ≡ true
      first (inl i) f = absurd (clash (mem-numbers_of left i).1 f)
      first (inr t) f = t

      into : (not (is_in left c) ≡ true) ⊎ (eqb (get_or held (out c) 0) c ≡ true)
          → none? (λ d. ahead_at d c) (numbers_of left) ≡ true
      into (inl f) = first (a.sound.in_order c m) (not-true (is_in left c) f)
      into (inr e) = mem-proposed-none ahead_at overs (numbers_of left) (held-proposal m (eqb-true _ c e))

      back : none? (λ d. ahead_at d c) (numbers_of left) ≡ true → (is_in left c ≡ true) ⊎ (is_in left c ≡ false)
          → asked? table left held c ≡ true
      back t (inl i) =
          or_r (not (is_in left c)) _ (eq-eqb _ c (proposal-held
          (rw (proposed-keeps ahead_at overs (numbers_of left))
          (keep-mem (λ c. none? (λ d. ahead_at d c) (numbers_of left))
          (numbers_of-mem left c (mem-numbers_of candidates m).0 i) t))))
      back t (inr f) = or_l (not (is_in left c)) _ (not-i (is_in left c) f)

  held_any : (c : ℕ) → Memᴰ c all → get_or held (out c) entry_limit ≡ get_or held (out c) 0
  held_any c m = get_d_any held (out c) entry_limit 0 (rw a.size (to.small c m))

  pub found : Found table candidates held made
  unfolding proposals
  found =
      record {
        matching =
            sym matched-is
            ∙ part.1
            ∙ keep-members part.0 is_held all
            (λ c m. into c (rw part.1 m))
            (λ c m. rw (← part.1) (back c (mem-keep is_held all m)));
        counted =
            a.counted
            ∙ count-ext (asked? table left held) _ all (λ c m.
            asked_is c m
            ∙ sym (none?-proposed ahead_at overs ahead_at-strict (numbers_of left) c)
            ∙ ap (none? (λ d. ahead_at d c)) matched-is);
        made-le = (asking-few table candidates to left held 16 k made a).0;
        size = a.size;
        held_in = λ o b s.
            let v = a.holds o b s in
            (in_all overs a.sound v.proposal, v.here);
        held-le = λ o. held-le o (either (ltb o 16));
      }
    where
      part : (p : ℕ → Bool) × (proposed ahead_at overs (numbers_of left) ≡ keep p all)
      part = refusing-proposed ahead_at overs a.sound.refusing

      is_held : ℕ → Bool
      is_held c = eqb (get_or held (out c) entry_limit) c

      into : (c : ℕ) → Proposal c → Memᴰ c (keep is_held all)
      into c m =
          let i = in_all overs a.sound m in
          keep-mem is_held i (eq-eqb _ c (held_any c i ∙ proposal-held m))

      back : (c : ℕ) → Memᴰ c all × (is_held c ≡ true) → Proposal c
      back c w = held-proposal w.0 (sym (held_any c w.0) ∙ eqb-true _ c w.1)

      held-le : (o : ℕ) → (ltb o 16 ≡ true) ⊎ (ltb o 16 ≡ false) → get_or held o nowhere ≤ entry_limit
      held-le o (inl t) =
          let b : o < 16 = ltb-true o 16 t in
          omega (arith, get_d_any held o entry_limit 0 (rw a.size b), a.held-le o b)
      held-le o (inr f) =
          let b : 16 ≤ o = ltb-false o 16 f in
          omega (arith, get_or-eq_default held entry_limit {n = o} (rw a.size b))
