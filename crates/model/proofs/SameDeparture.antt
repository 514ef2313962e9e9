-- The crossbar's departures by the bag of all its cells. Where every cell outside the buffers is beaten by a buffered
-- one, the buffers hold the first of all cells.
--     leaving-least      what leaves is what nothing beats
--     leaving-cells, staying-cells, departures-cells    said of the cells alone
--     departures-bag, staying-bag                       so they are read off the bag of the cells
use Prim.Native.Nat.{ℕ}
use mathlib.Core.Bool.{Bool, not-not, true, false, not, ◌&&◌}
use mathlib.Core.Path.{◌≡◌, refl, sym, ◌∙◌, ap, fun_ext}
use mathlib.Core.Logic.{◌⊎◌, inl, inr}
use mathlib.Core.List.{List, map, Memᴰ}
use mathlib.Core.Option
use borrow.Author.Tests.{eqb-true, eq-eqb}
use lib.Dec.{eqb}
use Rattle.laws.specs.Lists.{keep, some?, none?, least, pairwise, first?, up_to}
use Rattle.laws.proofs.Tests.{clash, by-pass, by-fail, same, and_i, and_r}
use Rattle.laws.proofs.Lists.{Passing, some?-i, some?-e, some?-map, none?-not-some?, none?-within, none?-i, none?-clash}
use Rattle.laws.proofs.Lists.{some?-ext, keep-mem, mem-keep-in, mem-keep-passes, keep-ext, keep-keep, keep-map}
use Rattle.laws.proofs.Least.{least-keeps, least-mem, mem-least-in, mem-least-none, mem-least-first, least-map, least-ext}
use Rattle.laws.proofs.Pairwise.{pairwise-e}
use Rattle.cell.specs.declared.Cell.{Cell}
use Rattle.cell.specs.Cell.{same_cell}
use Rattle.model.specs.State.{is_buffered}
use Rattle.model.specs.Phase.{Waiting, same_output, beats, among}
use Rattle.model.specs.Crossbar.{leaving, departures_of}
use Rattle.model.specs.CodeSlackness.{other_number, other_arrival}
use Rattle.model.proofs.Bags.{SameBag, bag-trans, bag-of-path, bag-keep, bag-least, bag-passed, bag-first?, first?-map}
use Rattle.model.proofs.WaitingOrder.{beats-trans, differ, same_number}
use Rattle.model.proofs.CellOrder.{goes_to, beats_cell, beats-cell-total, same-cell-refl, same-cell-path}

abbrev pub cells_of : List Waiting → List Cell
cells_of w = map (λ e. e.cell) w

-- every cell outside the buffers is beaten by a buffered one
abbrev pub Best : ℕ → List Waiting → Type 0
Best ports w = (e : Waiting) → Memᴰ e w → is_buffered e.place ≡ false
    → (f : Waiting) × Memᴰ f w × (is_buffered f.place ≡ true) × (beats ports f e ≡ true)

beats-cells : (ports : ℕ) (e f : Waiting) → beats ports e f ≡ beats_cell ports e.cell f.cell
unfolding beats same_output beats_cell
beats-cells ports e f = refl

------------------------------------------------------------------------
-- what leaves

in_buffer : Waiting → Bool
in_buffer e = is_buffered e.place

unbeaten : (ports : ℕ) → List Waiting → Waiting → Bool
unbeaten ports l e = none? (λ f. beats ports f e) l

module _ (ports : ℕ) (w : List Waiting) (best : Best ports w) where
  -- what nothing beats is in its buffer
  unbeaten-buffered : (e : Waiting) → Memᴰ e w → unbeaten ports w e ≡ true → in_buffer e ≡ true
  unfolding in_buffer unbeaten
  unbeaten-buffered e m n =
      by-pass (in_buffer e) (λ b. let v = best e m b in none?-clash (λ f. beats ports f e) n v.1 v.3)

  -- what no buffered cell beats, nothing beats
  unbeaten-all : (e : Waiting) → unbeaten ports (keep in_buffer w) e ≡ true → unbeaten ports w e ≡ true
  unfolding in_buffer unbeaten
  unbeaten-all e n =
      none?-i (λ f. beats ports f e) w (λ f m. by-fail (beats ports f e) (λ h. go f m h (in_buffer f) refl))
    where
      go : (f : Waiting) → Memᴰ f w → beats ports f e ≡ true → (b : Bool) → in_buffer f ≡ b → ⊥
      go f m h true b = none?-clash (λ f. beats ports f e) n (keep-mem in_buffer m b) h
      go f m h false b =
          let v = best f m b in
          none?-clash (λ f. beats ports f e) n (keep-mem in_buffer v.1 v.2) (beats-trans ports v.0 f e v.3 h)

  pub leaving-least : leaving ports w ≡ least (beats ports) w
  unfolding leaving in_buffer unbeaten
  leaving-least =
      least-keeps (beats ports) (keep in_buffer w)
      ∙ keep-keep in_buffer (unbeaten ports (keep in_buffer w)) w
      ∙ keep-ext (λ e. in_buffer e && unbeaten ports (keep in_buffer w) e) (unbeaten ports w) w agree
      ∙ sym (least-keeps (beats ports) w)
    where
      agree : (e : Waiting) → Memᴰ e w → (in_buffer e && unbeaten ports (keep in_buffer w) e) ≡ unbeaten ports w e
      agree e m =
          same (in_buffer e && unbeaten ports (keep in_buffer w) e) (unbeaten ports w e)
          (λ h. unbeaten-all e (and_r (in_buffer e) (unbeaten ports (keep in_buffer w) e) h))
          (λ h. and_i (in_buffer e) (unbeaten ports (keep in_buffer w) e) (unbeaten-buffered e m h)
          (none?-within (λ f. beats ports f e) (keep in_buffer w) w (λ f k t. mem-keep-in in_buffer w k) h))

  pub leaving-cells : cells_of (leaving ports w) ≡ least (beats_cell ports) (cells_of w)
  leaving-cells =
      ap (map (λ e. e.cell)) (leaving-least
      ∙ least-ext (beats ports) (λ e f. beats_cell ports e.cell f.cell) w (λ e f m k. beats-cells ports e f))
      ∙ sym (least-map (beats_cell ports) (λ e. e.cell) w)

------------------------------------------------------------------------
-- what stays

module _ (ports : ℕ) (w : List Waiting) (numbers : pairwise other_number w ≡ true) where
  -- a waiting cell is among those that nothing beats when nothing beats it
  among-least : (e : Waiting) → Memᴰ e w → among (least (beats ports) w) e ≡ none? (λ f. beats ports f e) w
  unfolding among
  among-least e m = same (among (least (beats ports) w) e) (none? (λ f. beats ports f e) w) out into
    where
      out : among (least (beats ports) w) e ≡ true → none? (λ f. beats ports f e) w ≡ true
      out s =
          let v : Passing (λ f. eqb f.at e.at) (least (beats ports) w) = some?-e (λ f. eqb f.at e.at) (least (beats ports) w) s in
          let p : e ≡ v.0 = same_number numbers m (mem-least-in (beats ports) w v.1) (sym (eqb-true v.0.at e.at v.2)) in
          mem-least-none (beats ports) w (mathlib.Core.List.Memᴰ.cast p v.1)

      into : none? (λ f. beats ports f e) w ≡ true → among (least (beats ports) w) e ≡ true
      into n = some?-i (λ f. eqb f.at e.at) (least-mem (beats ports) m n) (eq-eqb e.at e.at refl)

  pub staying-cells : Best ports w
      → cells_of (keep (λ e. not (among (leaving ports w) e)) w)
      ≡ keep (λ c. some? (λ d. beats_cell ports d c) (cells_of w)) (cells_of w)
  staying-cells best =
      ap (map (λ e. e.cell)) (keep-ext (λ e. not (among (leaving ports w) e)) (λ e. later e.cell) w agree)
      ∙ sym (keep-map later (λ e. e.cell) w)
    where
      later : Cell → Bool
      later c = some? (λ d. beats_cell ports d c) (cells_of w)

      agree : (e : Waiting) → Memᴰ e w → not (among (leaving ports w) e) ≡ later e.cell
      agree e m =
          ap (λ l. not (among l e)) (leaving-least ports w best)
          ∙ ap not (among-least e m ∙ none?-not-some? (λ f. beats ports f e) w)
          ∙ not-not (some? (λ f. beats ports f e) w)
          ∙ some?-ext (λ f. beats ports f e) (λ f. beats_cell ports f.cell e.cell) w (λ f k. beats-cells ports f e)
          ∙ sym (some?-map (λ d. beats_cell ports d e.cell) (λ f. f.cell) w)

------------------------------------------------------------------------
-- the departures

module _ (ports : ℕ) (w : List Waiting) (best : Best ports w) where
  pub departures-cells : departures_of ports (leaving ports w)
      ≡ map (λ o. first? (keep (goes_to o) (least (beats_cell ports) (cells_of w)))) (up_to ports)
  unfolding departures_of
  departures-cells = ap (λ f. map f (up_to ports)) (fun_ext at)
    where
      at : (o : ℕ) → Option.map (λ e. e.cell) (first? (keep (λ e. eqb e.cell.output o) (leaving ports w)))
          ≡ first? (keep (goes_to o) (least (beats_cell ports) (cells_of w)))
      at o =
          first?-map (λ e. e.cell) (keep (λ e. eqb e.cell.output o) (leaving ports w))
          ∙ ap first?
          (sym (keep-map (goes_to o) (λ e. e.cell) (leaving ports w)) ∙ ap (keep (goes_to o)) (leaving-cells ports w best))

-- where no two cells share input and slot, each output has one first cell
module _ (ports : ℕ) (w : List Waiting) (arrivals : pairwise other_arrival w ≡ true) where
  -- of two that differ in input or slot, one beats the other
  ordered : (e f : Waiting) → e.cell.output ≡ f.cell.output
      → Memᴰ e.cell (least (beats_cell ports) (cells_of w))
      → Memᴰ f.cell (least (beats_cell ports) (cells_of w))
      → other_arrival e f ≡ true → ⊥
  ordered e f h m k a = go (beats-cell-total ports e.cell f.cell h (differ e f a))
    where
      go : (beats_cell ports e.cell f.cell ≡ true) ⊎ (beats_cell ports f.cell e.cell ≡ true) → ⊥
      go (inl b) =
          clash b (mem-least-first (beats_cell ports) (cells_of w) k (mem-least-in (beats_cell ports) (cells_of w) m))
      go (inr b) =
          clash b (mem-least-first (beats_cell ports) (cells_of w) m (mem-least-in (beats_cell ports) (cells_of w) k))

  alone : {e f : Waiting} → Memᴰ e w → Memᴰ f w → e.cell.output ≡ f.cell.output
      → Memᴰ e.cell (least (beats_cell ports) (cells_of w))
      → Memᴰ f.cell (least (beats_cell ports) (cells_of w))
      → e.cell ≡ f.cell
  alone {e} {f} i j h m k = go (pairwise-e other_arrival w arrivals i j)
    where
      go : (e ≡ f) ⊎ ((other_arrival e f ≡ true) ⊎ (other_arrival f e ≡ true)) → e.cell ≡ f.cell
      go (inl p) = ap (λ x. x.cell) p
      go (inr (inl a)) = absurd (ordered e f h m k a)
      go (inr (inr a)) = absurd (ordered f e (sym h) k m a)

  first_alone : (o : ℕ) (c d : Cell) → Memᴰ c (keep (goes_to o) (least (beats_cell ports) (cells_of w)))
      → Memᴰ d (keep (goes_to o) (least (beats_cell ports) (cells_of w))) → c ≡ d
  first_alone o c d m k =
      let firsts = least (beats_cell ports) (cells_of w) in
      let c-first : Memᴰ c firsts = mem-keep-in (goes_to o) firsts m in
      let d-first : Memᴰ d firsts = mem-keep-in (goes_to o) firsts k in
      let e = mathlib.Core.List.Memᴰ.of_map (λ e. e.cell) w (mem-least-in (beats_cell ports) (cells_of w) c-first) in
      let f = mathlib.Core.List.Memᴰ.of_map (λ e. e.cell) w (mem-least-in (beats_cell ports) (cells_of w) d-first) in
      let to-o : c.output ≡ d.output =
      eqb-true c.output o (mem-keep-passes (goes_to o) firsts m)
      ∙ sym (eqb-true d.output o (mem-keep-passes (goes_to o) firsts k)) in
      let alike : e.0.cell.output ≡ f.0.cell.output =
      ap (λ x. x.output) e.2 ∙ to-o ∙ sym (ap (λ x. x.output) f.2) in
      sym e.2 ∙ alone e.1 f.1 alike (mathlib.Core.List.Memᴰ.cast e.2 c-first) (mathlib.Core.List.Memᴰ.cast f.2 d-first) ∙ f.2

  module _ (best : Best ports w) (ys : List Cell) (bag : SameBag (cells_of w) ys) where
    -- the departures are read off the bag of the cells
    pub departures-bag : departures_of ports (leaving ports w)
        ≡ map (λ o. first? (keep (goes_to o) (least (beats_cell ports) ys))) (up_to ports)
    departures-bag = departures-cells ports w best ∙ ap (λ f. map f (up_to ports)) (fun_ext at)
      where
        at : (o : ℕ)
            → first? (keep (goes_to o) (least (beats_cell ports) (cells_of w)))
            ≡ first? (keep (goes_to o) (least (beats_cell ports) ys))
        at o =
            bag-first? same_cell same-cell-refl same-cell-path (keep (goes_to o) (least (beats_cell ports) (cells_of w)))
            (keep (goes_to o) (least (beats_cell ports) ys))
            (bag-keep (least (beats_cell ports) (cells_of w)) (least (beats_cell ports) ys) (bag-least (cells_of w) ys bag (beats_cell ports)) (goes_to o))
            (first_alone o)

-- and so is the bag of what stays
pub staying-bag : (ports : ℕ) (w : List Waiting) → pairwise other_number w ≡ true → Best ports w
    → (ys : List Cell) → SameBag (cells_of w) ys
    → SameBag (cells_of (keep (λ e. not (among (leaving ports w) e)) w)) (keep (λ c. some? (λ d. beats_cell ports d c) ys) ys)
staying-bag ports w numbers best ys bag =
    bag-trans (cells_of (keep (λ e. not (among (leaving ports w) e)) w))
    (keep (λ c. some? (λ d. beats_cell ports d c) (cells_of w)) (cells_of w))
    (keep (λ c. some? (λ d. beats_cell ports d c) ys) ys)
    (bag-of-path (staying-cells ports w numbers best))
    (bag-passed (cells_of w) ys bag (beats_cell ports))
