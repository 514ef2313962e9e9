-- The best cell at the crosspoints of an output, crosspoint by crosspoint.
--     BestUpTo           the choice among the first inputs' crosspoints; best-zero, best-more
--     best_of_lem, of-best   over all inputs it is the definition's choice, and the definition's choice is it
use Prim.Native.Nat.{ℕ, zero, suc, ◌+◌, ◌/◌, ◌<◌, ◌≤◌}
use native.Mathlib.Numerals.{add-one}
use native.Mathlib.Omega.{arith}
use mathlib.Core.Bool.{Bool, true, false}
use mathlib.Core.Path.{◌≡◌, refl, sym, ◌∙◌, ap, ap₂, subst}
use mathlib.Core.Logic.{◌⊎◌, inl, inr}
use mathlib.Core.List.Memᴰ
use mathlib.Core.List.{List, [], ◌∷◌, Memᴰ}
use borrow.Author.Tests.{leb-true, leb-false, eqb-true, eq-eqb}
use lib.Dec.{leb, eqb}
use Rattle.laws.specs.Lists.{none?, least, first?}
use Rattle.laws.proofs.Tests.{clash, by-fail}
use Rattle.laws.proofs.Lists.{none?-i, keep-mem, mem-keep-in, mem-keep-passes}
use Rattle.laws.proofs.Least.{Below, least-below, least-mem, mem-least-in, mem-least-first}
use Rattle.cell.specs.Limits.{section_room}
use Rattle.cell.specs.Order.{over}
use Rattle.laws.proofs.Compared.{Compared, below, equal, above, compare}
use Rattle.cell.proofs.Order.{over-irrefl, over-trans, over-total}
use Rattle.model.specs.Phase.{Waiting, beats, best_for}
use Rattle.model.proofs.WaitingOrder.{beats-i, beats-output, beats-over, beats-strict}
use Rattle.layout.proofs.Records.{entry_at-input}
use Rattle.layout.specs.Entry.{entry_at}
use Rattle.layout.specs.Code.{ports_in}
use Rattle.layout.specs.Table.{entry_limit}
use Rattle.layout_table.specs.CodeEntries.{nowhere, better_of}
use Rattle.layout_table.proofs.Better.{better-none}
use Rattle.slot_view.specs.CodeView.{crosspoint_at}
use Rattle.slot_view.specs.CodeChoices.{number_of, to_output, best_of, BestAmong, empty, best}
use Rattle.slot_view.specs.CodeScan.{Holds}
use Rattle.slot_view.proofs.Choices
use Rattle.slot_view.proofs.Choices.{Ordered, best-same}

------------------------------------------------------------------------
-- the first of a list

-- where all members have one number, it is the first's
pub number_of-first : (l : List Waiting) {e : Waiting} (r : ℕ) → Memᴰ e l
    → ((f : Waiting) → Memᴰ f l → f.at ≡ r) → number_of (first? l) ≡ r
unfolding number_of first?
number_of-first [] r m h = absurd (Memᴰ.not-nil m)
number_of-first (x ∷ l) r m h = h x (Memᴰ.head refl)

pub number_of-one : (e : Waiting) → number_of (first? (e ∷ [])) ≡ e.at
unfolding number_of first?
number_of-one e = refl

pub number_of-nil : number_of (first? []) ≡ nowhere
unfolding number_of first?
number_of-nil = refl

pub number_of-none : (l : List Waiting) → ((f : Waiting) → Memᴰ f l → ⊥) → number_of (first? l) ≡ nowhere
unfolding number_of first?
number_of-none [] h = refl
number_of-none (x ∷ l) h = absurd (h x (Memᴰ.head refl))

------------------------------------------------------------------------
-- to an output

module _ (output : ℕ) where
  pub to_output-i : {e : Waiting} {l : List Waiting} → Memᴰ e l → e.cell.output ≡ output
      → Memᴰ e (to_output output l)
  unfolding to_output
  to_output-i {e} m h = keep-mem (λ e. eqb e.cell.output output) m (eq-eqb _ _ h)

  pub to_output-in : {e : Waiting} (l : List Waiting) → Memᴰ e (to_output output l) → Memᴰ e l
  unfolding to_output
  to_output-in l m = mem-keep-in (λ e. eqb e.cell.output output) l m

  pub to_output-output : {e : Waiting} (l : List Waiting) → Memᴰ e (to_output output l) → e.cell.output ≡ output
  unfolding to_output
  to_output-output l m = eqb-true _ _ (mem-keep-passes (λ e. eqb e.cell.output output) l m)

------------------------------------------------------------------------
-- the best of the crosspoints of the first inputs

-- a number that stands at a crosspoint of an output, of one of the first n inputs
pub record Crossed (cross : List (List ℕ)) (output n k : ℕ) : Type 0 where
  pub some : k < nowhere
  pub holder : ℕ
  pub early : holder < n
  pub held : crosspoint_at cross holder output ≡ k

module _ (table : List ℕ) (cross : List (List ℕ)) (output : ℕ) where
  -- the choice among those of the first n inputs
  abbrev pub BestUpTo : ℕ → ℕ → Type 0
  BestUpTo n r = BestAmong table (Crossed cross output n) r

  pub best-zero : BestUpTo 0 nowhere
  best-zero = empty refl (λ k c. omega (arith, c.early))

  later : (n k : ℕ) → Crossed cross output n k → Crossed cross output (n + 1) k
  later n k c = record { some = c.some; holder = c.holder; early = omega (arith, c.early); held = c.held }

  earlier : (n k : ℕ) → Crossed cross output (n + 1) k
      → Crossed cross output n k ⊎ (k ≡ crosspoint_at cross n output)
  earlier n k c = go (compare c.holder n)
    where
      go : Compared c.holder n → Crossed cross output n k ⊎ (k ≡ crosspoint_at cross n output)
      go (below l) = inl (record { some = c.some; holder = c.holder; early = l; held = c.held })
      go (equal e) = inr (sym c.held ∙ ap (λ i. crosspoint_at cross i output) e)
      go (above l) = absurd (omega (arith, c.early))

  module _ {cells : List Waiting} (h : Holds table cross cells) (o : output < 16) where
    -- the cell at a crosspoint is of its input
    pub held-input : (k i : ℕ) → i < 16 → k < nowhere → crosspoint_at cross i output ≡ k → (entry_at table k).cell.input ≡ i
    held-input k i l s e =
        let w = h.real i output l o (omega arith) in
        ap (λ n. (entry_at table n).cell.input) (sym (w.2 ∙ e)) ∙ ap (λ c. c.input) (sym (h.cell w.0 w.1)) ∙ w.3

    pub best-more : (n r : ℕ) → n < 16 → BestUpTo n r → BestUpTo (n + 1) (better_of table r (crosspoint_at cross n output))
    best-more n r s b = go (leb nowhere x) refl
      where
        x : ℕ
        x = crosspoint_at cross n output

        -- two crosspoints of an output have cells of two inputs
        apart : x < nowhere → Crossed cross output n r → Ordered table x r
        apart k c =
            inr (over-total (ports_in table) (entry_at table x).cell (entry_at table r).cell (inl (λ e.
            let own = held-input x n s k refl in
            let other = held-input r c.holder (omega (arith, c.early)) c.some c.held in
            omega (arith, c.early))))

        go : (t : Bool) → leb nowhere x ≡ t → BestUpTo (n + 1) (better_of table r x)
        go true e =
            let none = leb-true nowhere x e in
            subst (BestUpTo (n + 1)) (sym (better-none table r x none))
            (best-same table (later n) r (λ k c. back k c (earlier n k c)) b)
          where
            back : (k : ℕ) → Crossed cross output (n + 1) k → Crossed cross output n k ⊎ (k ≡ x) → Crossed cross output n k
            back k c (inl m) = m
            back k c (inr q) = absurd (omega (arith, c.some, leb-true nowhere x e))
        go false e =
            let some = leb-false nowhere x e in
            Choices.best-more table (later n) r x some
            (record { some = some; holder = n; early = omega arith; held = refl }) (earlier n) (apart some) b

    ------------------------------------------------------------------------
    -- over all inputs

    -- a cell at a crosspoint is of a port
    pub port : {e : Waiting} → Memᴰ e cells → e.cell.input < ports_in table
    port {e} m =
        let i : e.at / section_room ≡ e.cell.input =
        sym (ap (λ c. c.input) (h.cell e m) ∙ entry_at-input table e.at) in
        omega (arith, (h.inside e m).input)

    -- and stands at its crosspoint
    stands : ports_in table ≤ 16 → {e : Waiting} → Memᴰ e cells → e.cell.output ≡ output
        → Crossed cross output (ports_in table) e.at
    stands ports {e} m q =
        record {
          some = omega (arith, (h.inside e m).input);
          holder = e.cell.input;
          early = port m;
          held = rw q at (h.filled e m);
        }

    pub best_of_lem : (r : ℕ) → ports_in table ≤ 16 → BestUpTo (ports_in table) r → r ≡ best_of (ports_in table) cells output
    unfolding best_of best_for to_output
    best_of_lem r ports (empty e f) =
        e
        ∙ sym (number_of-none (to_output output (least (beats (ports_in table)) cells))
        (λ c m. none c (to_output-in output _ m) (to_output-output output _ m)))
      where
        none : (c : Waiting) → Memᴰ c (least (beats (ports_in table)) cells) → c.cell.output ≡ output → ⊥
        none c m q =
            let k = mem-least-in (beats (ports_in table)) cells m in
            f c.at (stands ports k q)
    best_of_lem r ports (best s b) =
        sym (number_of-first (to_output output (least (beats (ports_in table)) cells)) r
        (to_output-i output (least-mem (beats (ports_in table)) w.1 first) w.4)
        (λ g m. only g (to_output-in output _ m) (to_output-output output _ m)))
      where
        own : Crossed cross output (ports_in table) r
        own = b.own

        small : own.holder < 16
        small = omega (arith, own.early)

        full : crosspoint_at cross own.holder output < entry_limit
        full = omega (arith, own.held, s)

        w : (e : Waiting) × Memᴰ e cells × (e.at ≡ crosspoint_at cross own.holder output)
            × (e.cell.input ≡ own.holder) × (e.cell.output ≡ output)
        w = h.real own.holder output small o full

        at : w.0.at ≡ r
        at = w.2 ∙ own.held

        mine : (entry_at table r).cell ≡ w.0.cell
        mine = ap (λ k. (entry_at table k).cell) (sym at) ∙ sym (h.cell w.0 w.1)

        -- it is the best of each cell that goes to the output
        rank : (f : Waiting) → Memᴰ f cells → f.cell.output ≡ output
            → (f.at ≡ r) ⊎ (over (ports_in table) w.0.cell f.cell ≡ true)
        rank f m q = go (b.upper f.at (stands ports m q))
          where
            go : (f.at ≡ r) ⊎ (over (ports_in table) (entry_at table r).cell (entry_at table f.at).cell ≡ true)
                → (f.at ≡ r) ⊎ (over (ports_in table) w.0.cell f.cell ≡ true)
            go (inl e) = inl e
            go (inr t) = inr (ap₂ (over (ports_in table)) (sym mine) (h.cell f m) ∙ t)

        first : none? (λ f. beats (ports_in table) f w.0) cells ≡ true
        first =
            none?-i (λ f. beats (ports_in table) f w.0) cells
            (λ f m. by-fail (beats (ports_in table) f w.0) (λ t. go f m t (rank f m (beats-output (ports_in table) f w.0 t ∙ w.4))))
          where
            go : (f : Waiting) → Memᴰ f cells → beats (ports_in table) f w.0 ≡ true
                → (f.at ≡ r) ⊎ (over (ports_in table) w.0.cell f.cell ≡ true) → ⊥
            go f m t (inl e) =
                let same = sym mine ∙ ap (λ k. (entry_at table k).cell) (sym e) ∙ sym (h.cell f m) in
                clash (ap (λ c. over (ports_in table) c w.0.cell) same ∙ beats-over (ports_in table) f w.0 t)
                (over-irrefl (ports_in table) w.0.cell)
            go f m t (inr u) =
                clash
                (over-trans (ports_in table) w.0.cell f.cell w.0.cell u (beats-over (ports_in table) f w.0 t))
                (over-irrefl (ports_in table) w.0.cell)

        only : (g : Waiting) → Memᴰ g (least (beats (ports_in table)) cells) → g.cell.output ≡ output → g.at ≡ r
        only g m q = go (rank g (mem-least-in (beats (ports_in table)) cells m) q)
          where
            go : (g.at ≡ r) ⊎ (over (ports_in table) w.0.cell g.cell ≡ true) → g.at ≡ r
            go (inl e) = e
            go (inr t) =
                absurd
                (clash (beats-i (ports_in table) w.0 g (w.4 ∙ sym q) t) (mem-least-first (beats (ports_in table)) cells m w.1))

    -- the choice that is found input by input
    found : (n : ℕ) → n ≤ 16 → (r : ℕ) × BestUpTo n r
    found zero l = (nowhere, best-zero)
    found (suc n) l =
        let w = found n (omega arith) in
        (better_of table w.0 (crosspoint_at cross n output), rw (← add-one n) (best-more n w.0 (omega arith) w.1))

    pub of-best : ports_in table ≤ 16 → BestUpTo (ports_in table) (best_of (ports_in table) cells output)
    of-best ports =
        let w = found (ports_in table) ports in
        subst (BestUpTo (ports_in table)) (best_of_lem w.0 ports w.1) w.1

------------------------------------------------------------------------
-- the definition's choice, by its cell

module _ (table : List ℕ) (cross : List (List ℕ)) {cells : List Waiting} (h : Holds table cross cells) where
  -- the cell of highest output priority at the crosspoints of an output
  pub record Chief (output : ℕ) : Type 0 where
    pub chief : Waiting
    pub member : Memᴰ chief cells
    pub goes : chief.cell.output ≡ output
    pub number : chief.at ≡ best_of (ports_in table) cells output
    pub upper : (x : Waiting) → Memᴰ x cells → x.cell.output ≡ output
        → (x.cell ≡ chief.cell) ⊎ (beats (ports_in table) chief x ≡ true)

  -- two of the best of one output are one
  least-one : {x y : Waiting} → Memᴰ x (least (beats (ports_in table)) cells)
      → Memᴰ y (least (beats (ports_in table)) cells)
      → x.cell.output ≡ y.cell.output → x.cell ≡ y.cell
  least-one {x} {y} m k o = go (compare x.cell.input y.cell.input)
    where
      mx : Memᴰ x cells
      mx = mem-least-in (beats (ports_in table)) cells m

      my : Memᴰ y cells
      my = mem-least-in (beats (ports_in table)) cells k

      no : (x.cell.input ≡ y.cell.input → ⊥) → ⊥
      no d = one (over-total (ports_in table) x.cell y.cell (inl d))
        where
          one : (over (ports_in table) x.cell y.cell ≡ true) ⊎ (over (ports_in table) y.cell x.cell ≡ true)
              → ⊥
          one (inl t) = clash (beats-i (ports_in table) x y o t) (mem-least-first (beats (ports_in table)) cells k mx)
          one (inr t) =
              clash (beats-i (ports_in table) y x (sym o) t) (mem-least-first (beats (ports_in table)) cells m my)

      go : Compared x.cell.input y.cell.input → x.cell ≡ y.cell
      go (below l) = absurd (no (λ e. omega arith))
      go (above l) = absurd (no (λ e. omega arith))
      go (equal i) =
          h.cell x mx
          ∙ ap (λ n. (entry_at table n).cell) (sym (h.filled x mx) ∙ ap₂ (crosspoint_at cross) i o ∙ h.filled y my)
          ∙ sym (h.cell y my)

  -- the first of a list that has a member
  first_of : (l : List Waiting) {x : Waiting} → Memᴰ x l
      → (f : Waiting) × Memᴰ f l × (f.at ≡ number_of (first? l))
  unfolding number_of first?
  first_of [] m = absurd (Memᴰ.not-nil m)
  first_of (f ∷ l) m = (f, Memᴰ.head refl, refl)

  -- an output with a cell at its crosspoints has one
  pub chief-of : (output : ℕ) {x : Waiting} → Memᴰ x cells → x.cell.output ≡ output → Chief output
  unfolding best_of best_for to_output
  chief-of output {x} m o = record {
    chief = b.0;
    member = mem-least-in (beats (ports_in table)) cells (to_output-in output _ b.1);
    goes = to_output-output output _ b.1;
    number = b.2;
    upper = λ y k q. under y (below_of y k) q;
  }
    where
      below_of : (y : Waiting) → Memᴰ y cells → Below (beats (ports_in table)) cells y
      below_of y k = least-below (beats (ports_in table)) (beats-strict (ports_in table)) cells k

      sent_to : (y : Waiting) (w : Below (beats (ports_in table)) cells y) → w.0.cell.output ≡ y.cell.output
      sent_to y w = go w.2
        where
          go : (w.0 ≡ y) ⊎ (beats (ports_in table) w.0 y ≡ true) → w.0.cell.output ≡ y.cell.output
          go (inl e) = ap (λ z. z.cell.output) e
          go (inr t) = beats-output (ports_in table) w.0 y t

      b : (f : Waiting) × Memᴰ f (to_output output (least (beats (ports_in table)) cells))
          × (f.at ≡ number_of (first? (to_output output (least (beats (ports_in table)) cells))))
      b =
          first_of (to_output output (least (beats (ports_in table)) cells))
          (to_output-i output (below_of x m).1 (sent_to x (below_of x m) ∙ o))

      under : (y : Waiting) (w : Below (beats (ports_in table)) cells y) → y.cell.output ≡ output
          → (y.cell ≡ b.0.cell) ⊎ (beats (ports_in table) b.0 y ≡ true)
      under y w q = go w.2
        where
          one : w.0.cell ≡ b.0.cell
          one =
              least-one w.1 (to_output-in output _ b.1)
              (sent_to y w ∙ q ∙ sym (to_output-output output _ b.1))

          go : (w.0 ≡ y) ⊎ (beats (ports_in table) w.0 y ≡ true)
              → (y.cell ≡ b.0.cell) ⊎ (beats (ports_in table) b.0 y ≡ true)
          go (inl e) = inl (ap (λ z. z.cell) (sym e) ∙ one)
          go (inr t) =
              inr (beats-i (ports_in table) b.0 y (ap (λ c. c.output) (sym one) ∙ beats-output (ports_in table) w.0 y t)
              (ap (λ c. over (ports_in table) c y.cell) (sym one) ∙ beats-over (ports_in table) w.0 y t))
