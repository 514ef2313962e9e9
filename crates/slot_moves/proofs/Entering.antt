-- The best of each output while the inputs send: a cell that is sent to an empty crosspoint is entered.
--     BestOfEach      the choice of each output among its crosspoints, by the column
--     best-start      what the phase begins with
--     best-entering   what the sent cells leave
use Prim.Native.Nat.{ℕ, zero, suc, ◌/◌, ◌<◌, ◌≤◌}
use native.Mathlib.Omega.{arith}
use mathlib.Core.Bool.{true, false}
use mathlib.Core.Path.{◌≡◌, refl, sym, ◌∙◌, ap, subst}
use mathlib.Core.Logic.{◌⊎◌, inl, inr, ◌≢◌}
use mathlib.Core.List.{List}
use borrow.Author.Tests.{eqb-true, eqb-false, ltb-true, ltb-false}
use lib.Dec.{eqb, ltb}
use lib.ListN.{length, get_or, length-set}
use lib.Seq.{get_or-set_same, get_or-set_other}
use Rattle.laws.proofs.Tests.{either}
use Rattle.cell.specs.Limits.{section_room}
use Rattle.cell.proofs.Order.{over-total}
use Rattle.model.specs.Phase.{crosspoints}
use Rattle.layout.specs.Entry.{entry_at}
use Rattle.layout.proofs.Records.{entry_at-input}
use Rattle.layout.specs.Code.{ports_in}
use Rattle.layout.specs.Table.{entry_limit}
use Rattle.layout_table.specs.CodeEntries.{nowhere, better_of}
use Rattle.slot_view.specs.CodeView.{cross_with, in_table, crosspoint_at, InTable, Agrees, Square}
use Rattle.slot_view.specs.CodeScan.{Readable, Bests}
use Rattle.slot_view.proofs.Choices.{Ordered, best-same, best-more}
use Rattle.slot_view.proofs.Window.{agrees-holds, in_table-below}
use Rattle.slot_leaders.proofs.Best.{Crossed, BestUpTo, of-best}
use Rattle.slot_steps.specs.CodeSteps.{entered}
use Rattle.slot_moves.specs.CodeMoves.{written, sending, entering}
use Rattle.slot_moves.proofs.Agreeing.{output_at, agrees-real, agrees-sending, output-small, Sendable}
use Rattle.slot_view.proofs.Squares.{cross-same, cross-row}
use Rattle.slot_steps.proofs.Steps.{cross-nowhere, entered-none}
use Rattle.slot_moves.proofs.Agreeing.{cross-column, square-sending, sent-empty}

------------------------------------------------------------------------
-- the column

module _ (table : List ℕ) where
  pub length-entered : (best : List ℕ) (k : ℕ) → length (entered table best k) ≡ length best
  unfolding entered
  length-entered best k =
      length-set best (output_at table k) (better_of table (get_or best (output_at table k) 0) k)

  pub length-entering : (f : ℕ → ℕ) (n : ℕ) (best : List ℕ) → length (entering table f n best) ≡ length best
  unfolding entering
  length-entering f zero best = refl
  length-entering f (suc n) best = length-entered (entering table f n best) (f n) ∙ length-entering f n best

  module _ (best : List ℕ) (size : length best ≡ 16) (k : ℕ) where
    pub entered-own : output_at table k < 16
        → get_or (entered table best k) (output_at table k) 0 ≡ better_of table (get_or best (output_at table k) 0) k
    unfolding entered
    entered-own h =
        get_or-set_same best (output_at table k) (better_of table (get_or best (output_at table k) 0) k) 0 (omega arith)

    pub entered-other : (o : ℕ) → o ≢ output_at table k → get_or (entered table best k) o 0 ≡ get_or best o 0
    unfolding entered
    entered-other o n =
        get_or-set_other best (output_at table k) o (better_of table (get_or best (output_at table k) 0) k) 0 n

------------------------------------------------------------------------
-- the choice of each output

-- the column has the choice of each output among its crosspoints
abbrev pub BestOfEach : List ℕ → List (List ℕ) → List ℕ → Type 0
BestOfEach table cross best = (o : ℕ) → o < 16 → BestUpTo table cross o (ports_in table) (get_or best o 0)

module _ {table : List ℕ} (r : Readable table) where
  pub best-start : (places : List ℕ) (cross : List (List ℕ)) (best : List ℕ) → Agrees table places cross
      → Bests table cross best → BestOfEach table cross best
  best-start places cross best a b o l =
      let h = agrees-holds table places r cross a in
      subst (BestUpTo table cross o (ports_in table)) (sym (b.at (crosspoints (in_table table places)) h o l))
      (of-best table cross o h l r.ports)

  ------------------------------------------------------------------------
  -- a cell that is sent to its empty crosspoint

  module _ (places : List ℕ) (cross : List (List ℕ)) (square : Square cross) (a : Agrees table places cross) {k : ℕ}
      (entry : InTable table k) (empty : nowhere ≤ crosspoint_at cross (k / section_room) (output_at table k)) where
    abbrev i : ℕ
    i = k / section_room

    abbrev o : ℕ
    o = output_at table k

    abbrev ports : ℕ
    ports = ports_in table

    abbrev cross' : List (List ℕ)
    cross' = cross_with cross i o k

    row : i < 16
    row = omega (arith, entry.input, r.ports)

    -- the cells at the other crosspoints of its output are of other inputs
    apart : (j : ℕ) (c : Crossed cross o ports j) → c.holder ≢ i
    apart j c e = let h : crosspoint_at cross i o ≡ j = (rw e at c.held) in omega (arith, c.some)

    later : (j : ℕ) → Crossed cross o ports j → Crossed cross' o ports j
    later j c =
        record {
          some = c.some;
          holder = c.holder;
          early = c.early;
          held = cross-row cross square i o k c.holder o (apart j c) ∙ c.held;
        }

    earlier : (j : ℕ) → Crossed cross' o ports j → Crossed cross o ports j ⊎ (j ≡ k)
    earlier j c = go (either (eqb c.holder i))
      where
        go : (eqb c.holder i ≡ true) ⊎ (eqb c.holder i ≡ false) → Crossed cross o ports j ⊎ (j ≡ k)
        go (inl e) =
            inr (sym c.held ∙ ap (λ h. crosspoint_at cross' h o) (eqb-true _ _ e)
            ∙ cross-same cross square i o k row (output-small r entry))
        go (inr e) =
            inl (record {
              some = c.some;
              holder = c.holder;
              early = c.early;
              held = sym (cross-row cross square i o k c.holder o (eqb-false _ _ e)) ∙ c.held;
            })

    -- the cell that stands at a crosspoint is of its input
    held-input : (j : ℕ) (c : Crossed cross o ports j) → (entry_at table j).cell.input ≡ c.holder
    held-input j c =
        let w =
        agrees-real r places cross a c.holder o (omega (arith, c.early, r.ports)) (output-small r entry)
        (omega (arith, c.held, c.some)) in
        entry_at-input table j ∙ ap (λ n. n / section_room) (sym c.held) ∙ w.2

    ordered : (j : ℕ) → Crossed cross o ports j → Ordered table k j
    ordered j c =
        inr (over-total (ports_in table) (entry_at table k).cell (entry_at table j).cell (inl (λ e.
        apart j c (sym (held-input j c) ∙ sym e ∙ entry_at-input table k))))

    best-entered : (best : List ℕ) → length best ≡ 16 → BestOfEach table cross best → BestOfEach table cross' (entered table best k)
    best-entered best size b p l = go (either (eqb p o))
      where
        go : (eqb p o ≡ true) ⊎ (eqb p o ≡ false) → BestUpTo table cross' p ports (get_or (entered table best k) p 0)
        go (inl e) =
            rw (eqb-true p o e, entered-own table best size k (output-small r entry))
            (best-more table later (get_or best o 0) k (in_table-below r entry)
            (record {
              some = in_table-below r entry;
              holder = i;
              early = entry.input;
              held = cross-same cross square i o k row (output-small r entry);
            })
            earlier (ordered (get_or best o 0)) (b o (output-small r entry)))
        go (inr e) =
            rw (entered-other table best size k p (eqb-false p o e))
            (best-same table
            (λ j c.
            record {
              some = c.some;
              holder = c.holder;
              early = c.early;
              held = same c.holder ∙ c.held;
            })
            (get_or best p 0)
            (λ j c.
            record {
              some = c.some;
              holder = c.holder;
              early = c.early;
              held = sym (same c.holder) ∙ c.held;
            })
            (b p l))
          where
            same : (h : ℕ) → crosspoint_at cross' h p ≡ crosspoint_at cross h p
            same h = cross-column cross square i o k h p row (eqb-false p o e)

  ------------------------------------------------------------------------
  -- input after input

  module _ (f : ℕ → ℕ) (cross : List (List ℕ)) (square : Square cross) (places : List ℕ) (size : length places ≡ entry_limit)
      (a : Agrees table places cross) (best : List ℕ) (full : length best ≡ 16) (b : BestOfEach table cross best) where
    pub best-entering : (n : ℕ) → n ≤ 16 → Sendable r places cross f n
        → BestOfEach table (sending table f n cross) (entering table f n best)
    unfolding sending entering
    best-entering zero l s = b
    best-entering (suc n) l s = go (either (ltb (f n) entry_limit)) (best-entering n (omega arith) (λ i p. s i (omega arith)))
      where
        go : (ltb (f n) entry_limit ≡ true) ⊎ (ltb (f n) entry_limit ≡ false)
            → BestOfEach table (sending table f n cross) (entering table f n best)
            → BestOfEach table (cross_with (sending table f n cross) (f n / section_room) (output_at table (f n)) (f n))
            (entered table (entering table f n best) (f n))
        go (inl t) rec =
            best-entered (written f 2 n places) (sending table f n cross) (square-sending table f cross square n)
            (agrees-sending r f cross square places size a n (omega arith) (λ i p. s i (omega arith)))
            (s n (omega arith) (ltb-true _ _ t)).0
            (sent-empty r f cross square places size a s (ltb-true _ _ t))
            (entering table f n best) (length-entering table f n best ∙ full) rec
        go (inr t) rec =
            let past : nowhere ≤ f n = ltb-false _ _ t in
            rw (
              entered-none table (entering table f n best) (f n) past,
              cross-nowhere (sending table f n cross) (square-sending table f cross square n) (f n / section_room) (output_at table (f n)) (f n) (omega arith),
            )
            rec
