-- The keys follow the crosspoints, round by round.
use Prim.Native.Nat.{ℕ, zero, suc, ◌/◌, ◌<◌, ◌≤◌}
use native.Mathlib.Omega.{arith}
use mathlib.Core.Bool.{true, false}
use mathlib.Core.Path.{◌≡◌, sym, ◌∙◌, ap}
use mathlib.Core.Logic.{◌⊎◌, inl, inr}
use mathlib.Core.List.{List}
use borrow.Author.Tests.{eqb-true, eqb-false, ltb-true, ltb-false, le-ltb}
use lib.Dec.{eqb, ltb}
use Rattle.laws.proofs.Tests.{either, cond-fail}
use Rattle.cell.specs.Limits.{section_room}
use Rattle.cell.specs.Order.{key}
use Rattle.layout.specs.Entry.{entry_at}
use Rattle.layout_table.specs.CodeEntries.{nowhere}
use Rattle.slot_view.specs.CodeView.{cross_with, crosspoint_at, Square}
use Rattle.slot_view.specs.CodeViewed.{no_key, key_at, Keyed}
use Rattle.slot_steps.specs.CodeSteps.{Bound}
use Rattle.slot_moves.specs.CodeMoves.{sending, keying, pulling, unkeying}
use Rattle.slot_view.proofs.Squares.{cross-same, cross-other, square-with}
use Rattle.slot_steps.proofs.Steps.{cross-nowhere, cross-past}
use Rattle.slot_moves.proofs.Agreeing.{square-sending, square-pulling}

key_at-nowhere : (table : List ℕ) → key_at table nowhere ≡ no_key
unfolding key_at
key_at-nowhere table =
    cond-fail (ltb nowhere nowhere) (key (entry_at table nowhere).cell) no_key (le-ltb nowhere nowhere (omega arith))

module _ (table : List ℕ) where
  -- what stands at a crosspoint changes, and its key with it
  keyed-put : (cross keys : List (List ℕ)) → Square cross → Keyed table cross keys → (i o k v : ℕ) → i < 16 → o < 16
      → v ≡ key_at table k → Keyed table (cross_with cross i o k) (cross_with keys o i v)
  unfolding crosspoint_at
  keyed-put cross keys square keyed i o k v a b e =
      record {
        square = square-with keys keyed.square o i v;
        at = λ x y p q. one x y p q (either (eqb x i)) (either (eqb y o));
      }
    where
      elsewhere : (x y : ℕ) → x < 16 → y < 16 → (x ≡ i → y ≡ o → ⊥)
          → crosspoint_at (cross_with keys o i v) y x ≡ key_at table (crosspoint_at (cross_with cross i o k) x y)
      elsewhere x y p q n =
          cross-other keys keyed.square o i v y x b (λ f g. n g f)
          ∙ keyed.at x y p q
          ∙ ap (key_at table) (sym (cross-other cross square i o k x y a n))

      one : (x y : ℕ) → x < 16 → y < 16 → (eqb x i ≡ true) ⊎ (eqb x i ≡ false) → (eqb y o ≡ true) ⊎ (eqb y o ≡ false)
          → crosspoint_at (cross_with keys o i v) y x ≡ key_at table (crosspoint_at (cross_with cross i o k) x y)
      one x y p q (inl s) (inl t) =
          rw (eqb-true x i s, eqb-true y o t)
          (cross-same keys keyed.square o i v b a ∙ e
          ∙ ap (key_at table) (sym (cross-same cross square i o k a b)))
      one x y p q (inl s) (inr t) = elsewhere x y p q (λ f. eqb-false y o t)
      one x y p q (inr s) t = elsewhere x y p q (λ f. absurd (eqb-false x i s f))

  module _ (f : ℕ → ℕ) (cross keys : List (List ℕ)) (square : Square cross) (keyed : Keyed table cross keys) where
    pub keyed-sending : (n : ℕ) → ((a : ℕ) → a < n → Bound table (f a))
        → Keyed table (sending table f n cross) (keying table f n keys)
    unfolding sending keying
    keyed-sending zero b = keyed
    keyed-sending (suc n) b = go (either (ltb (f n) nowhere)) (keyed-sending n (λ a l. b a (omega arith)))
      where
        cross' : List (List ℕ)
        cross' = sending table f n cross

        keys' : List (List ℕ)
        keys' = keying table f n keys

        o : ℕ
        o = (entry_at table (f n)).cell.output

        go : (ltb (f n) nowhere ≡ true) ⊎ (ltb (f n) nowhere ≡ false) → Keyed table cross' keys'
            → Keyed table (cross_with cross' (f n / section_room) o (f n)) (cross_with keys' o (f n / section_room) (key_at table (f n)))
        go (inl t) rec =
            let small : f n < nowhere = ltb-true _ _ t in
            keyed-put cross' keys' (square-sending table f cross square n) rec (f n / section_room) o (f n) (key_at table (f n))
            (omega arith) (b n (omega arith) small) (λ z. key_at table (f n))
        go (inr t) rec =
            let past : nowhere ≤ f n = ltb-false _ _ t in
            rw (
              cross-nowhere cross' (square-sending table f cross square n) (f n / section_room) o (f n) (omega arith),
              cross-past keys' rec.square o (f n / section_room) (key_at table (f n)) (omega arith),
            )
            rec

    pub keyed-pulling : (n : ℕ) → n ≤ 16 → Keyed table (pulling f n cross) (unkeying f n keys)
    unfolding pulling unkeying
    keyed-pulling zero l = keyed
    keyed-pulling (suc n) l = go (either (ltb (f n) nowhere)) (keyed-pulling n (omega arith))
      where
        cross' : List (List ℕ)
        cross' = pulling f n cross

        keys' : List (List ℕ)
        keys' = unkeying f n keys

        go : (ltb (f n) nowhere ≡ true) ⊎ (ltb (f n) nowhere ≡ false) → Keyed table cross' keys'
            → Keyed table (cross_with cross' (f n / section_room) n nowhere) (cross_with keys' n (f n / section_room) no_key)
        go (inl t) rec =
            let small : f n < nowhere = ltb-true _ _ t in
            keyed-put cross' keys' (square-pulling f cross square n) rec (f n / section_room) n nowhere no_key (omega arith)
            (omega arith) (sym (key_at-nowhere table))
        go (inr t) rec =
            let past : nowhere ≤ f n = ltb-false _ _ t in
            rw (
              cross-nowhere cross' (square-pulling f cross square n) (f n / section_room) n nowhere (omega arith),
              cross-past keys' rec.square n (f n / section_room) no_key (omega arith),
            )
            rec
