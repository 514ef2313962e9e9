-- The crosspoints and the places, move by move.
use Prim.Native.Nat.{ℕ, zero, suc, ◌/◌, ◌<◌, ◌≤◌}
use native.Mathlib.Omega.{arith}
use mathlib.Core.Bool.{Bool, true, false}
use mathlib.Core.Path.{◌≡◌, refl, sym, ◌∙◌, ap, ap₂, subst}
use mathlib.Core.Logic.{◌⊎◌, inl, inr, ◌≢◌}
use mathlib.Core.List.{List}
use borrow.Author.Tests.{eqb-true, eqb-false, ltb-true, ltb-false}
use lib.Dec.{eqb, ltb}
use lib.ListN.{length, get_or, set}
use lib.Seq.{get_or-set_same, get_or-set_other, set_out}
use Rattle.laws.proofs.Tests.{either, clash}
use Rattle.cell.specs.Limits.{section_room}
use Rattle.model.specs.State.{is_crossed}
use Rattle.layout.specs.Entry.{entry_at}
use Rattle.layout.specs.Table.{place_of, entry_of, entry_limit}
use Rattle.layout_table.specs.CodeEntries.{nowhere}
use Rattle.slot_view.specs.CodeView.{cross_with, waiting_at, crosspoint_at, InTable, Agrees, Square}
use Rattle.slot_view.specs.CodeScan.{Readable}
use Rattle.slot_steps.proofs.Steps.{cross-nowhere}
use Rattle.slot_moves.specs.CodeMoves.{written, sending, pulling}
use Rattle.slot_view.proofs.Squares.{square-with, cross-same, cross-row, cross-other}
use Rattle.slot_view.proofs.Window.{in_table-e, in_table-i, in_table-below}
use Rattle.slot_moves.proofs.Written.{hit, hit-miss, length-written, written-hit, written-miss}

-- the output of an entry, and whether a column has it at a crosspoint
abbrev pub output_at : List ℕ → ℕ → ℕ
output_at table k = (entry_at table k).cell.output

abbrev pub crossed_at : List ℕ → ℕ → Bool
crossed_at places k = is_crossed (place_of (get_or places k 0))

------------------------------------------------------------------------
-- a crosspoint after a write

module _ (cross : List (List ℕ)) (square : Square cross) where
  pub cross-column : (i o k j p : ℕ) → i < 16 → p ≢ o → crosspoint_at (cross_with cross i o k) j p ≡ crosspoint_at cross j p
  cross-column i o k j p row d = cross-other cross square i o k j p row (λ _. d)

------------------------------------------------------------------------
-- rounds keep the shape

module _ (table : List ℕ) (f : ℕ → ℕ) (cross : List (List ℕ)) (square : Square cross) where
  pub square-sending : (n : ℕ) → Square (sending table f n cross)
  unfolding sending
  square-sending zero = square
  square-sending (suc n) =
      square-with (sending table f n cross) (square-sending n) (f n / section_room) (output_at table (f n)) (f n)

  sending-row : (n i o : ℕ) → ((j : ℕ) → j < n → f j / section_room ≢ i)
      → crosspoint_at (sending table f n cross) i o ≡ crosspoint_at cross i o
  unfolding sending
  sending-row zero i o h = refl
  sending-row (suc n) i o h =
      cross-row (sending table f n cross) (square-sending n) (f n / section_room) (output_at table (f n)) (f n) i o
      (λ e. h n (omega arith) (sym e))
      ∙ sending-row n i o (λ j l. h j (omega arith))

module _ (f : ℕ → ℕ) (cross : List (List ℕ)) (square : Square cross) where
  pub square-pulling : (n : ℕ) → Square (pulling f n cross)
  unfolding pulling
  square-pulling zero = square
  square-pulling (suc n) = square-with (pulling f n cross) (square-pulling n) (f n / section_room) n nowhere

------------------------------------------------------------------------
-- agreement, by numbers

-- a number of a crossed cell of this input and output
abbrev pub Stands : List ℕ → List ℕ → ℕ → ℕ → ℕ → Type 0
Stands table places i o k =
    InTable table k × (crossed_at places k ≡ true) × (k / section_room ≡ i) × (output_at table k ≡ o)

module _ {table : List ℕ} (r : Readable table) (places : List ℕ) (cross : List (List ℕ)) where
  -- each crossed cell's number stands at its crosspoint
  abbrev Filled : Type 0
  Filled = (k : ℕ) → InTable table k → crossed_at places k ≡ true → crosspoint_at cross (k / section_room) (output_at table k) ≡ k

  -- each number at a crosspoint stands there by right
  abbrev Real : Type 0
  Real = (i o : ℕ) → i < 16 → o < 16 → crosspoint_at cross i o < entry_limit → Stands table places i o (crosspoint_at cross i o)

  pub agrees-filled : Agrees table places cross → Filled
  unfolding waiting_at entry_at entry_of
  agrees-filled a k i h = a.filled (waiting_at table places k) (in_table-i table places r k i) h

  pub agrees-real : Agrees table places cross → Real
  unfolding waiting_at entry_at entry_of
  agrees-real a i o p q h = a.real i o p q h

  agrees-i : Filled → Real → Agrees table places cross
  unfolding waiting_at entry_at entry_of
  agrees-i f g =
      record {
        filled = λ e m h.
            let w : (e ≡ waiting_at table places e.at) × InTable table e.at = in_table-e table places r m in
            ap (λ x. crosspoint_at cross x.cell.input x.cell.output) w.0
            ∙ f e.at w.1 (ap (λ x. is_crossed x.place) (sym w.0) ∙ h);
        real = g;
      }

------------------------------------------------------------------------
-- bytes of places

pub crossed-byte : is_crossed (place_of 2) ≡ true
unfolding is_crossed place_of
crossed-byte = refl

pub buffered-byte : is_crossed (place_of 3) ≡ false
unfolding is_crossed place_of
buffered-byte = refl

module _ (places : List ℕ) (k : ℕ) where
  crossed-same : (v : ℕ) → k < length places → crossed_at (set places k v) k ≡ is_crossed (place_of v)
  crossed-same v h = ap (λ x. is_crossed (place_of x)) (get_or-set_same places k v 0 h)

  crossed-other : (v j : ℕ) → j ≢ k → crossed_at (set places k v) j ≡ crossed_at places j
  crossed-other v j n = ap (λ x. is_crossed (place_of x)) (get_or-set_other places k j v 0 n)

module _ (f : ℕ → ℕ) (v n : ℕ) (places : List ℕ) (k : ℕ) where
  pub crossed-hit : k < length places → hit f n k ≡ true → crossed_at (written f v n places) k ≡ is_crossed (place_of v)
  crossed-hit h t = ap (λ x. is_crossed (place_of x)) (written-hit f v n places k 0 h t)

  pub crossed-miss : hit f n k ≡ false → crossed_at (written f v n places) k ≡ crossed_at places k
  crossed-miss t = ap (λ x. is_crossed (place_of x)) (written-miss f v n places k 0 t)

module _ {table : List ℕ} (r : Readable table) where
  pub output-small : {k : ℕ} → InTable table k → output_at table k < 16
  output-small {k} i = omega (arith, r.outputs k i, r.ports)

  ------------------------------------------------------------------------
  -- cells that go from the lists to the buffers

  pub agrees-straight : (f : ℕ → ℕ) (n : ℕ) (places : List ℕ) (cross : List (List ℕ)) → length places ≡ entry_limit
      → Agrees table places cross → ((i : ℕ) → i < n → f i < entry_limit → crossed_at places (f i) ≡ false)
      → Agrees table (written f 3 n places) cross
  agrees-straight f n places cross size a out = agrees-i r (written f 3 n places) cross filled real
    where
      filled : Filled r (written f 3 n places) cross
      filled k i h = go (either (hit f n k))
        where
          go : (hit f n k ≡ true) ⊎ (hit f n k ≡ false) → crosspoint_at cross (k / section_room) (output_at table k) ≡ k
          go (inl t) =
              let s : k < length places = (let b = in_table-below r i in omega arith) in
              absurd (clash h (crossed-hit f 3 n places k s t ∙ buffered-byte))
          go (inr t) = agrees-filled r places cross a k i (sym (crossed-miss f 3 n places k t) ∙ h)

      real : Real r (written f 3 n places) cross
      real i o p q h = (w.0, crossed-miss f 3 n places k miss ∙ w.1, w.2, w.3)
        where
          k : ℕ
          k = crosspoint_at cross i o

          w : Stands table places i o k
          w = agrees-real r places cross a i o p q h

          miss : hit f n k ≡ false
          miss = hit-miss f n k (λ j l e. clash w.1 (ap (crossed_at places) (sym e) ∙ out j l (rw e h)))

  ------------------------------------------------------------------------
  -- a cell that is sent to its empty crosspoint

  module _ (places : List ℕ) (cross : List (List ℕ)) (size : length places ≡ entry_limit) (square : Square cross)
      (a : Agrees table places cross) {k : ℕ} (entry : InTable table k) where
    abbrev i : ℕ
    i = k / section_room

    abbrev o : ℕ
    o = output_at table k

    inside : k < length places
    inside = let b = in_table-below r entry in omega arith

    row : i < 16
    row = let b = r.ports in let c = entry.input in omega arith

    pub agrees-send : crossed_at places k ≡ false → nowhere ≤ crosspoint_at cross i o
        → Agrees table (set places k 2) (cross_with cross i o k)
    agrees-send out empty = agrees-i r (set places k 2) (cross_with cross i o k) filled real
      where
        filled : Filled r (set places k 2) (cross_with cross i o k)
        filled j e h = go (either (eqb j k))
          where
            go : (eqb j k ≡ true) ⊎ (eqb j k ≡ false) → crosspoint_at (cross_with cross i o k) (j / section_room) (output_at table j) ≡ j
            go (inl s) = rw (eqb-true j k s) (cross-same cross square i o k row (output-small entry))
            go (inr s) =
                let old : crosspoint_at cross (j / section_room) (output_at table j) ≡ j =
                agrees-filled r places cross a j e (sym (crossed-other places k 2 j (eqb-false j k s)) ∙ h) in
                cross-other cross square i o k (j / section_room) (output_at table j) row
                (λ p q.
                let same : crosspoint_at cross i o ≡ j = (rw (p, q) at old) in
                let small : j < entry_limit = in_table-below r e in
                omega arith)
                ∙ old

        real : Real r (set places k 2) (cross_with cross i o k)
        real x y p q h = go (either (eqb x i)) (either (eqb y o))
          where
            elsewhere : (x ≡ i → y ≡ o → ⊥) → Stands table (set places k 2) x y (crosspoint_at (cross_with cross i o k) x y)
            elsewhere n =
                let same : crosspoint_at (cross_with cross i o k) x y ≡ crosspoint_at cross x y = cross-other cross square i o k x y row n in
                let w : Stands table places x y (crosspoint_at cross x y) = agrees-real r places cross a x y p q (rw same at h) in
                let apart : crosspoint_at cross x y ≢ k = λ e. clash w.1 (ap (crossed_at places) e ∙ out) in
                rw same
                (w.0, crossed-other places k 2 (crosspoint_at cross x y) apart ∙ w.1, w.2, w.3)

            go : (eqb x i ≡ true) ⊎ (eqb x i ≡ false) → (eqb y o ≡ true) ⊎ (eqb y o ≡ false)
                → Stands table (set places k 2) x y (crosspoint_at (cross_with cross i o k) x y)
            go (inl e) (inl f) =
                let same : crosspoint_at (cross_with cross i o k) x y ≡ k =
                ap₂ (crosspoint_at (cross_with cross i o k)) (eqb-true x i e) (eqb-true y o f)
                ∙ cross-same cross square i o k row (output-small entry) in
                rw same
                (entry, crossed-same places k 2 inside ∙ crossed-byte, sym (eqb-true x i e), sym (eqb-true y o f))
            go (inl e) (inr f) = elsewhere (λ g. eqb-false y o f)
            go (inr e) f = elsewhere (λ g. absurd (eqb-false x i e g))

    -- a cell that its output takes from its crosspoint
    pub agrees-pull : crossed_at places k ≡ true → Agrees table (set places k 3) (cross_with cross i o nowhere)
    agrees-pull there = agrees-i r (set places k 3) (cross_with cross i o nowhere) filled real
      where
        filled : Filled r (set places k 3) (cross_with cross i o nowhere)
        filled j e h = go (either (eqb j k))
          where
            go : (eqb j k ≡ true) ⊎ (eqb j k ≡ false)
                → crosspoint_at (cross_with cross i o nowhere) (j / section_room) (output_at table j) ≡ j
            go (inl s) =
                absurd (clash h
                (ap (crossed_at (set places k 3)) (eqb-true j k s) ∙ crossed-same places k 3 inside ∙ buffered-byte))
            go (inr s) =
                let old : crosspoint_at cross (j / section_room) (output_at table j) ≡ j =
                agrees-filled r places cross a j e (sym (crossed-other places k 3 j (eqb-false j k s)) ∙ h) in
                cross-other cross square i o nowhere (j / section_room) (output_at table j) row
                (λ p q.
                eqb-false j k s
                (sym (rw (p, q) at old) ∙ agrees-filled r places cross a k entry there))
                ∙ old

        real : Real r (set places k 3) (cross_with cross i o nowhere)
        real x y p q h = go (either (eqb x i)) (either (eqb y o))
          where
            elsewhere : (x ≡ i → y ≡ o → ⊥) → Stands table (set places k 3) x y (crosspoint_at (cross_with cross i o nowhere) x y)
            elsewhere n =
                let same : crosspoint_at (cross_with cross i o nowhere) x y ≡ crosspoint_at cross x y =
                cross-other cross square i o nowhere x y row n in
                let w : Stands table places x y (crosspoint_at cross x y) = agrees-real r places cross a x y p q (rw same at h) in
                let apart : crosspoint_at cross x y ≢ k =
                λ e. n (sym w.2 ∙ ap (λ z. z / section_room) e) (sym w.3 ∙ ap (output_at table) e) in
                rw same
                (w.0, crossed-other places k 3 (crosspoint_at cross x y) apart ∙ w.1, w.2, w.3)

            go : (eqb x i ≡ true) ⊎ (eqb x i ≡ false) → (eqb y o ≡ true) ⊎ (eqb y o ≡ false)
                → Stands table (set places k 3) x y (crosspoint_at (cross_with cross i o nowhere) x y)
            go (inl e) (inl f) =
                let same : crosspoint_at (cross_with cross i o nowhere) x y ≡ nowhere =
                ap₂ (crosspoint_at (cross_with cross i o nowhere)) (eqb-true x i e) (eqb-true y o f)
                ∙ cross-same cross square i o nowhere row (output-small entry) in
                absurd (omega arith)
            go (inl e) (inr f) = elsewhere (λ g. eqb-false y o f)
            go (inr e) f = elsewhere (λ g. absurd (eqb-false x i e g))

  ------------------------------------------------------------------------
  -- a cell for each input, sent to its empty crosspoint

  abbrev pub Sendable : List ℕ → List (List ℕ) → (ℕ → ℕ) → ℕ → Type 0
  Sendable places cross f n = (i : ℕ) → i < n → f i < entry_limit
      → InTable table (f i)
      × (f i / section_room ≡ i)
      × (crossed_at places (f i) ≡ false)
      × (nowhere ≤ crosspoint_at cross i (output_at table (f i)))

  -- a cell for each output, at a crosspoint of it
  abbrev pub Pullable : List ℕ → (ℕ → ℕ) → ℕ → Type 0
  Pullable places f n = (o : ℕ) → o < n → f o < entry_limit
      → InTable table (f o) × (crossed_at places (f o) ≡ true) × (output_at table (f o) ≡ o)

  module _ (f : ℕ → ℕ) (cross : List (List ℕ)) (square : Square cross) (places : List ℕ) (size : length places ≡ entry_limit)
      (a : Agrees table places cross) where
    length-now : (v n : ℕ) → length (written f v n places) ≡ entry_limit
    length-now v n = length-written f v n places ∙ size

    module _ {n : ℕ} (s : Sendable places cross f (suc n)) (small : f n < entry_limit) where
      -- those sent before are of other inputs
      sent-other : (j : ℕ) → j < n → f j / section_room ≢ f n / section_room
      sent-other j p e = far (either (ltb (f j) entry_limit))
        where
          far : (ltb (f j) entry_limit ≡ true) ⊎ (ltb (f j) entry_limit ≡ false) → ⊥
          far (inl b) =
              let c = (s j (omega arith) (ltb-true _ _ b)).1 in
              let d = (s n (omega arith) small).1 in
              omega arith
          far (inr b) =
              let c : nowhere ≤ f j = ltb-false _ _ b in
              let d = (s n (omega arith) small).1 in
              omega arith

      -- so the crosspoint of the next is still empty
      pub sent-empty : nowhere ≤ crosspoint_at (sending table f n cross) (f n / section_room) (output_at table (f n))
      sent-empty =
          let w = s n (omega arith) small in
          rw (sending-row table f cross square n (f n / section_room) (output_at table (f n)) sent-other, w.1) w.3

    pub agrees-sending : (n : ℕ) → n ≤ 16 → Sendable places cross f n
        → Agrees table (written f 2 n places) (sending table f n cross)
    unfolding written sending
    agrees-sending zero l s = a
    agrees-sending (suc n) l s = go (either (ltb (f n) entry_limit)) (agrees-sending n (omega arith) (λ i p. s i (omega arith)))
      where
        go : (ltb (f n) entry_limit ≡ true) ⊎ (ltb (f n) entry_limit ≡ false)
            → Agrees table (written f 2 n places) (sending table f n cross)
            → Agrees table (set (written f 2 n places) (f n) 2)
            (cross_with (sending table f n cross) (f n / section_room) (output_at table (f n)) (f n))
        go (inl t) rec =
            agrees-send (written f 2 n places) (sending table f n cross) (length-now 2 n)
            (square-sending table f cross square n) rec
            w.0 (crossed-miss f 2 n places (f n) miss ∙ w.2) (sent-empty s small)
          where
            small : f n < entry_limit
            small = ltb-true _ _ t

            w : InTable table (f n)
                × (f n / section_room ≡ n)
                × (crossed_at places (f n) ≡ false)
                × (nowhere ≤ crosspoint_at cross n (output_at table (f n)))
            w = s n (omega arith) small

            miss : hit f n (f n) ≡ false
            miss = hit-miss f n (f n) (λ j p e. sent-other s small j p (ap (λ x. x / section_room) e))
        go (inr t) rec =
            let past : nowhere ≤ f n = ltb-false _ _ t in
            let end : length (written f 2 n places) ≤ f n = (let b = length-now 2 n in omega arith) in
            let beyond : 16 ≤ f n / section_room = omega arith in
            rw (
              set_out (written f 2 n places) (f n) 2 end,
              cross-nowhere (sending table f n cross) (square-sending table f cross square n) (f n / section_room) (output_at table (f n)) (f n) beyond,
            )
            rec

    pub agrees-pulling : (n : ℕ) → n ≤ 16 → Pullable places f n
        → Agrees table (written f 3 n places) (pulling f n cross)
    unfolding written pulling
    agrees-pulling zero l s = a
    agrees-pulling (suc n) l s = go (either (ltb (f n) entry_limit)) (agrees-pulling n (omega arith) (λ i p. s i (omega arith)))
      where
        go : (ltb (f n) entry_limit ≡ true) ⊎ (ltb (f n) entry_limit ≡ false)
            → Agrees table (written f 3 n places) (pulling f n cross)
            → Agrees table (set (written f 3 n places) (f n) 3) (cross_with (pulling f n cross) (f n / section_room) n nowhere)
        go (inl t) rec =
            subst (λ o. Agrees table (set (written f 3 n places) (f n) 3) (cross_with (pulling f n cross) (f n / section_room) o nowhere))
            w.2
            (agrees-pull (written f 3 n places) (pulling f n cross) (length-now 3 n) (square-pulling f cross square n) rec
            w.0 (crossed-miss f 3 n places (f n) miss ∙ w.1))
          where
            w : InTable table (f n) × (crossed_at places (f n) ≡ true) × (output_at table (f n) ≡ n)
            w = s n (omega arith) (ltb-true _ _ t)

            miss : hit f n (f n) ≡ false
            miss =
                hit-miss f n (f n) (λ j p e.
                let b : f j < entry_limit = (let c = ltb-true _ _ t in rw e c) in
                let c : output_at table (f j) ≡ j = (s j (omega arith) b).2 in
                let d : j ≡ n = sym c ∙ ap (output_at table) e ∙ w.2 in
                omega arith)
        go (inr t) rec =
            let past : nowhere ≤ f n = ltb-false _ _ t in
            let end : length (written f 3 n places) ≤ f n = (let b = length-now 3 n in omega arith) in
            let beyond : 16 ≤ f n / section_room = omega arith in
            rw (
              set_out (written f 3 n places) (f n) 3 end,
              cross-nowhere (pulling f n cross) (square-pulling f cross square n) (f n / section_room) n nowhere beyond,
            )
            rec
