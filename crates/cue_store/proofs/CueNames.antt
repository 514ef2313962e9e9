-- In cues no two names are alike exactly if each is the first with its name (first-named, other-named).
use Prim.Native.Nat.{ℕ, zero, suc, ◌<◌}
use native.Mathlib.Omega.{arith}
use mathlib.Core.Bool.{Bool, true, false}
use mathlib.Core.List.{[], ◌∷◌}
use mathlib.Core.Option.{Option, none, some}
use mathlib.Core.Path.{◌≡◌, refl, sym, ◌∙◌, ap}
use borrow.Author.Tests.{not-true}
use lib.Dec.{eqb}
use lib.ListN.{length, get_or}
use Rattle.laws.specs.Lists.{all?, pairwise, same_list}
use Rattle.laws.proofs.Lists.{get_or-mem, all?-places, same_list-refl, same_list-exact}
use Rattle.laws.proofs.Pairwise.{pairwise-head, pairwise-tail}
use Rattle.laws.proofs.Tests.{by-fail, clash, and_i, not-i}
use Rattle.model.specs.Cues.{Cue, Cues, first_place, is_named, other_name}
use Rattle.model.proofs.FirstPlace.{first-pass, first-fail}

module _ {S : Type 0} where
  named-own : (c : Cue S) → is_named c.name (some c) ≡ true
  unfolding is_named
  named-own c = same_list-refl c.name

  -- either way round
  named-turned : (c d : Cue S) → is_named c.name (some d) ≡ true → is_named d.name (some c) ≡ true
  unfolding is_named
  named-turned c d t =
      ap (λ n. same_list eqb n c.name) (sym (same_list-exact c.name d.name t)) ∙ same_list-refl c.name

  not_named : (x : Option (Cue S)) (c : Cue S) → other_name x (some c) ≡ true → is_named c.name x ≡ false
  unfolding other_name is_named
  not_named none c h = refl
  not_named (some d) c h =
      by-fail (is_named c.name (some d))
      (λ t. clash (named-turned c d t) (not-true (is_named d.name (some c)) h))

  -- where no two names are alike, each is the first with its name
  pub first-named : (cues : Cues S) (k : ℕ) (c : Cue S) → pairwise other_name cues ≡ true → k < length cues
      → get_or cues k none ≡ some c → first_place (is_named c.name) cues ≡ k
  first-named [] k c h few e = absurd (omega arith)
  first-named (x ∷ cues) zero c h few e = first-pass (is_named c.name) x cues (ap (is_named c.name) e ∙ named-own c)
  first-named (x ∷ cues) (suc k) c h few e =
      let less : k < length cues = omega arith in
      let other : other_name x (some c) ≡ true =
      ap (other_name x) (sym e) ∙ pairwise-head other_name h (get_or-mem cues k none less) in
      first-fail (is_named c.name) x cues (not_named x c other)
      ∙ ap suc (first-named cues k c (pairwise-tail other_name x cues h) less e)

  -- and back
  pub other-named : (cues : Cues S)
      → ((k : ℕ) (c : Cue S) → k < length cues → get_or cues k none ≡ some c → first_place (is_named c.name) cues ≡ k)
      → pairwise other_name cues ≡ true
  unfolding pairwise other_name is_named
  other-named [] h = refl
  other-named (x ∷ cues) h =
      and_i (all? (other_name x) cues) (pairwise other_name cues)
      (all?-places (other_name x) none cues (λ k m. other k (get_or cues k none) x m refl refl))
      (other-named cues (λ k c m e. later (is_named c.name x) k c refl m e))
    where
      later : (b : Bool) (k : ℕ) (c : Cue S) → is_named c.name x ≡ b → k < length cues → get_or cues k none ≡ some c
          → first_place (is_named c.name) cues ≡ k
      later true k c n m e =
          absurd (omega (arith, h (suc k) c (omega arith) e, first-pass (is_named c.name) x cues n))
      later false k c n m e =
          omega (arith, h (suc k) c (omega arith) e, first-fail (is_named c.name) x cues n)

      other : (k : ℕ) (y z : Option (Cue S)) → k < length cues → get_or cues k none ≡ y → x ≡ z
          → other_name z y ≡ true
      other k y none m e f = refl
      other k none (some c) m e f = refl
      other k (some d) (some c) m e f =
          not-i (is_named c.name (some d)) (by-fail (is_named c.name (some d)) (λ t.
          omega (
            arith,
            h (suc k) d (omega arith) e,
            first-pass (is_named d.name) x cues (ap (is_named d.name) f ∙ named-turned c d t),
          )))
