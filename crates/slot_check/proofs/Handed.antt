-- The sets of a table's sections, put into the arrays one input after the other.
use Prim.Native.Nat.{ℕ, ◌+◌, ◌≤◌, ◌<◌}
use mathlib.Core.Bool.{true, false}
use mathlib.Core.Path.{◌≡◌, ◌∙◌}
use mathlib.Core.List.{List}
use mathlib.Core.Logic.{◌⊎◌, inl, inr}
use native.Mathlib.Omega.{arith}
use borrow.Author.Tests.{eqb-true, eqb-false}
use lib.Dec.{eqb}
use lib.ListN.{length, get_or, set, length-set}
use lib.Seq.{get_or-set_same, get_or-set_other}
use Rattle.laws.proofs.Tests.{either}
use Rattle.layout.specs.Entry.{count_in}
use Rattle.slot_check.specs.Handed.{Handed}
use Rattle.slot_check.specs.Code.{Sorts}

-- those of the inputs before i are there
pub record Handing (bs listed heads crossed buffered : List ℕ) (i : ℕ) : Type 0 where
  pub listed-size : length listed ≡ 16
  pub heads-size : length heads ≡ 16
  pub crossed-size : length crossed ≡ 16
  pub buffered-size : length buffered ≡ 16
  pub each : (input : ℕ) → input < i
      → Sorts bs input (count_in bs input) (get_or listed input 0) (get_or heads input 0) (get_or crossed input 0)
      (get_or buffered input 0)

module _ (bs listed heads crossed buffered : List ℕ) where
  pub handing-start : length listed ≡ 16 → length heads ≡ 16 → length crossed ≡ 16 → length buffered ≡ 16
      → Handing bs listed heads crossed buffered 0
  handing-start l h c b =
      record {
        listed-size = l;
        heads-size = h;
        crossed-size = c;
        buffered-size = b;
        each = λ input before. absurd (omega arith);
      }

  module _ (i : ℕ) (w : Handing bs listed heads crossed buffered i) where
    pub handing-next : i < 16 → (l h c b : ℕ) → Sorts bs i (count_in bs i) l h c b
        → Handing bs (set listed i l) (set heads i h) (set crossed i c) (set buffered i b) (i + 1)
    handing-next few l h c b s =
        record {
          listed-size = length-set listed i l ∙ w.listed-size;
          heads-size = length-set heads i h ∙ w.heads-size;
          crossed-size = length-set crossed i c ∙ w.crossed-size;
          buffered-size = length-set buffered i b ∙ w.buffered-size;
          each = λ input before. at input before (either (eqb input i));
        }
      where
        at : (input : ℕ) → input < i + 1 → (eqb input i ≡ true) ⊎ (eqb input i ≡ false)
            → Sorts bs input (count_in bs input) (get_or (set listed i l) input 0) (get_or (set heads i h) input 0)
            (get_or (set crossed i c) input 0) (get_or (set buffered i b) input 0)
        at input before (inl t) =
            rw (
              eqb-true input i t,
              get_or-set_same listed i l 0 (omega (arith, w.listed-size)),
              get_or-set_same heads i h 0 (omega (arith, w.heads-size)),
              get_or-set_same crossed i c 0 (omega (arith, w.crossed-size)),
              get_or-set_same buffered i b 0 (omega (arith, w.buffered-size)),
            )
            s
        at input before (inr t) =
            let other = eqb-false input i t in
            rw (
              get_or-set_other listed i input l 0 other,
              get_or-set_other heads i input h 0 other,
              get_or-set_other crossed i input c 0 other,
              get_or-set_other buffered i input b 0 other,
            )
            (w.each input (omega arith))

    pub handing-end : 16 ≤ i → Handed bs listed heads crossed buffered
    handing-end all =
        record {
          listed-size = w.listed-size;
          heads-size = w.heads-size;
          crossed-size = w.crossed-size;
          buffered-size = w.buffered-size;
          listed-at = λ input few. (w.each input (omega arith)).listed-is;
          heads-at = λ input few. (w.each input (omega arith)).heads-is;
          crossed-at = λ input few. (w.each input (omega arith)).crossed-is;
          buffered-at = λ input few. (w.each input (omega arith)).buffered-is;
        }
