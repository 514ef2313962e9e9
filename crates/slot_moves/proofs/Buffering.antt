-- The best buffered cell of each output while cells come into the buffers.
--     buffered-entering   cells go to the buffers one after the other
--     buffered-same  cells go elsewhere
use Prim.Native.Nat.{ℕ, zero, suc, ◌<◌, ◌≤◌}
use native.Mathlib.Omega.{arith}
use mathlib.Core.Bool.{Bool, true, false}
use mathlib.Core.Path.{◌≡◌, refl, sym, ◌∙◌, ap, ap₂}
use mathlib.Core.Logic.{◌⊎◌, inl, inr, ◌≢◌}
use mathlib.Core.List.{List}
use borrow.Author.Tests.{eqb-true, eqb-false, ltb-true, ltb-false}
use lib.Dec.{eqb, ltb}
use lib.ListN.{length, get_or, set}
use lib.Seq.{get_or-set_same, get_or-set_other, set_out}
use Rattle.laws.proofs.Tests.{either, clash}
use Rattle.cell.specs.Order.{over}
use Rattle.model.specs.State.{is_buffered}
use Rattle.model.specs.Phase.{Waiting, beats}
use Rattle.model.specs.CodeSlackness.{Orderly}
use Rattle.model.proofs.WaitingOrder.{beats-total, beats-over}
use Rattle.layout.specs.Entry.{entry_at}
use Rattle.layout.specs.Table.{place_of, entry_limit}
use Rattle.layout_table.specs.CodeEntries.{nowhere}
use Rattle.slot_view.specs.CodeChoices.{BestAmong}
use Rattle.slot_view.specs.CodeScan.{Readable}
use Rattle.slot_view.specs.CodeView.{waiting_at, in_table, InTable}
use Rattle.slot_view.specs.CodeViewed.{Buffered, BestBuffered}
use Rattle.slot_view.proofs.Choices.{Ordered, best-same, best-more}
use Rattle.slot_view.proofs.Window.{in_table-i, in_table-below, waiting_at-at, waiting_at-cell}
use Rattle.slot_steps.specs.CodeSteps.{entered}
use Rattle.slot_moves.specs.CodeMoves.{written, entering}
use Rattle.slot_moves.proofs.Agreeing.{output_at, output-small}
use Rattle.slot_steps.proofs.Steps.{entered-none}
use Rattle.slot_moves.proofs.Entering.{entered-own, entered-other, length-entered}
use Rattle.layout.specs.Code.{ports_in}
use Rattle.slot_moves.proofs.Written.{hit-miss, length-written, written-miss}

abbrev pub buffered_at : List ℕ → ℕ → Bool
buffered_at places k = is_buffered (place_of (get_or places k 0))

in_buffer : is_buffered (place_of 3) ≡ true
unfolding is_buffered place_of
in_buffer = refl

module _ {table : List ℕ} (r : Readable table) (start : List ℕ) (orderly : Orderly (ports_in table) (in_table table start)) where
  -- of two cells that go to one output one goes first
  ordered : (k n : ℕ) → InTable table k → InTable table n → output_at table k ≡ output_at table n → Ordered table k n
  ordered k n s t e =
      go (beats-total orderly (in_table-i table start r k s) (in_table-i table start r n t)
      (ap (λ c. c.output) (waiting_at-cell table start k) ∙ e ∙ sym (ap (λ c. c.output) (waiting_at-cell table start n))))
    where
      a : Waiting
      a = waiting_at table start k

      b : Waiting
      b = waiting_at table start n

      cells : (x y : ℕ) → beats (ports_in table) (waiting_at table start x) (waiting_at table start y) ≡ true
          → over (ports_in table) (entry_at table x).cell (entry_at table y).cell ≡ true
      cells x y h =
          ap₂ (over (ports_in table)) (sym (waiting_at-cell table start x)) (sym (waiting_at-cell table start y))
          ∙ beats-over (ports_in table) (waiting_at table start x) (waiting_at table start y) h

      go : (a ≡ b) ⊎ ((beats (ports_in table) a b ≡ true) ⊎ (beats (ports_in table) b a ≡ true)) → Ordered table k n
      go (inl p) = inl (sym (waiting_at-at table start k) ∙ ap (λ w. w.at) p ∙ waiting_at-at table start n)
      go (inr (inl p)) = inr (inl (cells k n p))
      go (inr (inr p)) = inr (inr (cells n k p))

  ------------------------------------------------------------------------
  -- a cell that goes to its buffer

  module _ (places : List ℕ) (size : length places ≡ entry_limit) {k : ℕ} (entry : InTable table k)
      (out : buffered_at places k ≡ false) where
    abbrev places' : List ℕ
    places' = set places k 3

    inside : k < length places
    inside = omega (arith, in_table-below r entry)

    place_stays : (j : ℕ) → j ≢ k → buffered_at places' j ≡ buffered_at places j
    place_stays j d = ap (λ b. is_buffered (place_of b)) (get_or-set_other places k j 3 0 d)

    here : buffered_at places' k ≡ true
    here = ap (λ b. is_buffered (place_of b)) (get_or-set_same places k 3 0 inside) ∙ in_buffer

    stays : (p j : ℕ) → Buffered table places p j → Buffered table places' p j
    stays p j b =
        record {
          entry = b.entry;
          place = place_stays j (λ e. clash b.place (ap (buffered_at places) e ∙ out)) ∙ b.place;
          goes = b.goes;
        }

    came : (p j : ℕ) → j ≢ k → Buffered table places' p j → Buffered table places p j
    came p j d b = record { entry = b.entry; place = sym (place_stays j d) ∙ b.place; goes = b.goes }

    best-in : (best : List ℕ) → BestBuffered table places best → BestBuffered table places' (entered table best k)
    best-in best b = record { size = length-entered table best k ∙ b.size; each = λ p l. one p l (either (eqb p (output_at table k))) }
      where
        back : (j : ℕ) → Buffered table places' (output_at table k) j
            → Buffered table places (output_at table k) j ⊎ (j ≡ k)
        back j m = go (either (eqb j k))
          where
            go : (eqb j k ≡ true) ⊎ (eqb j k ≡ false) → Buffered table places (output_at table k) j ⊎ (j ≡ k)
            go (inl e) = inr (eqb-true j k e)
            go (inr e) = inl (came (output_at table k) j (eqb-false j k e) m)

        one : (p : ℕ) → p < 16 → (eqb p (output_at table k) ≡ true) ⊎ (eqb p (output_at table k) ≡ false)
            → BestAmong table (Buffered table places' p) (get_or (entered table best k) p 0)
        one p l (inl e) =
            rw (eqb-true p (output_at table k) e, entered-own table best b.size k (output-small r entry))
            (best-more table (stays (output_at table k)) (get_or best (output_at table k) 0) k (in_table-below r entry)
            (record { entry = entry; place = here; goes = refl })
            back (λ m. ordered k (get_or best (output_at table k) 0) entry m.entry (sym m.goes))
            (b.each (output_at table k) (output-small r entry)))
        one p l (inr e) =
            rw (entered-other table best b.size k p (eqb-false p (output_at table k) e))
            (best-same table (stays p) (get_or best p 0)
            (λ j m. came p j (λ q. eqb-false p (output_at table k) e (sym m.goes ∙ ap (output_at table) q)) m)
            (b.each p l))

  ------------------------------------------------------------------------
  -- cells that go to the buffers, one after the other

  module _ (f : ℕ → ℕ) (places : List ℕ) (size : length places ≡ entry_limit) (best : List ℕ) (b : BestBuffered table places best) where
    pub buffered-entering : (n : ℕ) → ((a : ℕ) → a < n → f a < nowhere → InTable table (f a))
        → ((a : ℕ) → a < n → f a < nowhere → buffered_at places (f a) ≡ false)
        → ((a c : ℕ) → a < c → c < n → f c < nowhere → f a ≢ f c)
        → BestBuffered table (written f 3 n places) (entering table f n best)
    unfolding written entering
    buffered-entering zero entry out other = b
    buffered-entering (suc n) entry out other =
        go (either (ltb (f n) nowhere))
        (buffered-entering n (λ a l. entry a (omega arith)) (λ a l. out a (omega arith)) (λ a c l m. other a c l (omega arith)))
      where
        go : (ltb (f n) nowhere ≡ true) ⊎ (ltb (f n) nowhere ≡ false)
            → BestBuffered table (written f 3 n places) (entering table f n best)
            → BestBuffered table (set (written f 3 n places) (f n) 3) (entered table (entering table f n best) (f n))
        go (inl t) rec =
            let small : f n < nowhere = ltb-true _ _ t in
            best-in (written f 3 n places) (length-written f 3 n places ∙ size) (entry n (omega arith) small)
            (ap (λ x. is_buffered (place_of x))
            (written-miss f 3 n places (f n) 0 (hit-miss f n (f n) (λ j p e. other j n p (omega arith) small e)))
            ∙ out n (omega arith) small)
            (entering table f n best) rec
        go (inr t) rec =
            let past : nowhere ≤ f n = ltb-false _ _ t in
            rw (
              set_out (written f 3 n places) (f n) 3 (omega (arith, length-written f 3 n places)),
              entered-none table (entering table f n best) (f n) past,
            )
            rec

  -- the same cells are in the buffers
  pub buffered-same : (places places' : List ℕ)
      → ((a : ℕ) → InTable table a → buffered_at places' a ≡ buffered_at places a) → (best : List ℕ)
      → BestBuffered table places best → BestBuffered table places' best
  buffered-same places places' stay best b =
      record {
        size = b.size;
        each = λ p l.
            best-same table
            (λ j m. record { entry = m.entry; place = stay j m.entry ∙ m.place; goes = m.goes })
            (get_or best p 0)
            (λ j m. record { entry = m.entry; place = sym (stay j m.entry) ∙ m.place; goes = m.goes })
            (b.each p l);
      }
