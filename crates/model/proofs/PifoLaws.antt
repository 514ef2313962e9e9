-- The PIFO switch by the bag of all its cells.
--     Queues                     a queue for each output, with the cells that go there
--     queues-fresh, queues-join, queues-rest
--     join-count                 joining adds the new cells to the bag
--     queue-of                   the queue of an output is what goes there, of all cells
--     best-queues, rest-queues   what a slot sends and what stays, said of all cells
use Prim.Native.Nat.{ℕ, zero, suc, ◌+◌, ◌<◌}
use native.Mathlib.Omega.{arith}
use mathlib.Core.Bool.{Bool, true, false, ◌&&◌}
use mathlib.Core.Path.{◌≡◌, refl, sym, ◌∙◌, ap, ap₂}
use mathlib.Core.Logic.{◌⊎◌, inl, inr}
use mathlib.Core.List.Memᴰ
use mathlib.Core.List.{List, [], ◌∷◌, ◌++◌, map, flatten, Memᴰ}
use mathlib.Core.List.{append-nil}
use mathlib.Core.Option.{Option}
use borrow.Author.Tests.{eqb-true, eq-eqb, ne_eqb}
use lib.Dec.{eqb}
use lib.ListN.{length, get_or, replicate, length-map, length-replicate, get_or-map}
use Rattle.laws.specs.Lists.{keep, some?, count, least, update, first?, up_to}
use Rattle.laws.proofs.Lists.{keep-nil, keep_append, keep_all, keep-none, keep-ext, all?-i, none?-i, mem-keep-in}
use Rattle.laws.proofs.Lists.{some?-keep}
use Rattle.laws.proofs.Count.{count-nil, count-append}
use Rattle.laws.proofs.Least.{keep-least, least-ext}
use Rattle.cell.specs.declared.Cell.{Cell}
use Rattle.cell.specs.Order.{over}
use Rattle.model.specs.Pifo.{join, best, rest}
use Rattle.model.proofs.Bags.{keep-flatten, mem-flatten}
use Rattle.model.proofs.Bags.{length-update, mem-update, count-update}
use Rattle.model.proofs.Bags.{map-ext, map-up_to}
use Rattle.model.proofs.CellOrder.{goes_to, beats_cell, beats-cell-output, beats-cell-alike}
use Rattle.model.proofs.Sections.{empty-at}

-- a queue for each output, with the cells that go there
pub record Queues (ports : ℕ) (queues : List (List Cell)) : Type 0 where
  pub size : length queues ≡ ports
  pub outputs : (o : ℕ) (c : Cell) → Memᴰ c (get_or queues o []) → c.output ≡ o

------------------------------------------------------------------------
-- kept by every step

pub queues-fresh : (ports : ℕ) → Queues ports (replicate ports [])
queues-fresh ports =
    record {
      size = length-replicate ports [];
      outputs = λ o c m. absurd (Memᴰ.not-nil (rw (empty-at ports o) at m));
    }

-- one cell joins its output's queue
joined : Cell → List (List Cell) → List (List Cell)
joined c queues = update c.output (λ q. q ++ (c ∷ [])) queues

queues-joined : (ports : ℕ) (c : Cell) (queues : List (List Cell)) → Queues ports queues → Queues ports (joined c queues)
unfolding joined
queues-joined ports c queues q =
    record {
      size = length-update c.output (λ q. q ++ (c ∷ [])) queues ∙ q.size;
      outputs = λ o d m. go o d (mem-update c.output o (λ q. q ++ (c ∷ [])) queues m);
    }
  where
    new : (o : ℕ) (d : Cell) → o ≡ c.output
        → Memᴰ d (get_or queues c.output []) ⊎ Memᴰ d (c ∷ []) → d.output ≡ o
    new o d e (inl k) = q.outputs c.output d k ∙ sym e
    new o d e (inr k) = ap (λ x. x.output) (Memᴰ.eq_of_singleton k) ∙ sym e

    go : (o : ℕ) (d : Cell)
        → ((o ≡ c.output) × Memᴰ d (get_or queues c.output [] ++ (c ∷ []))) ⊎ Memᴰ d (get_or queues o [])
        → d.output ≡ o
    go o d (inl w) = new o d w.0 (Memᴰ.append_cases (get_or queues c.output []) w.1)
    go o d (inr k) = q.outputs o d k

pub queues-join : (ports : ℕ) (cs : List Cell) (queues : List (List Cell)) → Queues ports queues
    → Queues ports (join cs queues)
unfolding join joined
queues-join ports [] queues q = q
queues-join ports (c ∷ cs) queues q = queues-join ports cs (joined c queues) (queues-joined ports c queues q)

mem-rest : (ports : ℕ) (q : List Cell) {c : Cell} → Memᴰ c (rest ports q) → Memᴰ c q
unfolding rest
mem-rest ports q m = mem-keep-in _ q m

get_or-rest : (ports : ℕ) (queues : List (List Cell)) (o : ℕ)
    → get_or (map (rest ports) queues) o [] ≡ rest ports (get_or queues o [])
unfolding rest keep
get_or-rest ports queues o = get_or-map (rest ports) queues o []

pub queues-rest : (ports : ℕ) (queues : List (List Cell)) → Queues ports queues → Queues ports (map (rest ports) queues)
queues-rest ports queues q =
    record {
      size = length-map queues (rest ports) ∙ q.size;
      outputs = λ o c m. q.outputs o c (mem-rest ports (get_or queues o []) (rw (get_or-rest ports queues o) at m));
    }

------------------------------------------------------------------------
-- joining

joined-count : (p : Cell → Bool) (c : Cell) (queues : List (List Cell)) → c.output < length queues
    → count p (flatten (joined c queues)) ≡ count p (c ∷ []) + count p (flatten queues)
unfolding joined
joined-count p c queues h =
    omega (
      arith,
      count-update p c.output (λ q. q ++ (c ∷ [])) queues h,
      count-append p (get_or queues c.output []) (c ∷ []),
    )

pub join-count : (p : Cell → Bool) (cs : List Cell) (queues : List (List Cell))
    → ((c : Cell) → Memᴰ c cs → c.output < length queues)
    → count p (flatten (join cs queues)) ≡ count p cs + count p (flatten queues)
unfolding join joined
join-count p [] queues h = omega (arith, count-nil p)
join-count p (c ∷ cs) queues h =
    let same : length (joined c queues) ≡ length queues = length-update c.output (λ q. q ++ (c ∷ [])) queues in
    let rec : count p (flatten (join cs (joined c queues))) ≡ count p cs + count p (flatten (joined c queues))
    = join-count p cs (joined c queues) (λ d m. rw same (h d (Memᴰ.tail m))) in
    omega (arith, joined-count p c queues (h c (Memᴰ.head refl)), count-append p (c ∷ []) cs)

------------------------------------------------------------------------
-- a queue among all cells

-- of all cells those that go to an output are its queue
queue-from : (k : ℕ) (queues : List (List Cell))
    → ((i : ℕ) (c : Cell) → Memᴰ c (get_or queues i []) → c.output ≡ k + i)
    → (i : ℕ) → keep (goes_to (k + i)) (flatten queues) ≡ get_or queues i []
unfolding flatten
queue-from k [] h i = keep-nil (goes_to (k + i))
queue-from k (q ∷ qs) h zero =
    keep_append (goes_to (k + 0)) q (flatten qs)
    ∙ ap₂ ◌++◌
    (keep_all (goes_to (k + 0)) q (all?-i (goes_to (k + 0)) q (λ c m. eq-eqb c.output (k + 0) (h 0 c m))))
    (keep-none (goes_to (k + 0)) (flatten qs) (none?-i (goes_to (k + 0)) (flatten qs) (λ c m. later c (mem-flatten qs m))))
    ∙ append-nil q
  where
    later : (c : Cell) → (i : ℕ) × (i < length qs) × Memᴰ c (get_or qs i []) → goes_to (k + 0) c ≡ false
    later c w = ne_eqb c.output (k + 0) (λ e. omega (arith, h (suc w.0) c w.2))
queue-from k (q ∷ qs) h (suc i) =
    keep_append (goes_to (k + suc i)) q (flatten qs)
    ∙ ap₂ ◌++◌
    (keep-none (goes_to (k + suc i)) q (none?-i (goes_to (k + suc i)) q (λ c m. other c m)))
    (shifted ∙ queue-from (k + 1) qs (λ j c m. h (suc j) c m ∙ omega arith) i)
  where
    other : (c : Cell) → Memᴰ c q → goes_to (k + suc i) c ≡ false
    other c m = ne_eqb c.output (k + suc i) (λ e. omega (arith, h 0 c m))

    shifted : keep (goes_to (k + suc i)) (flatten qs) ≡ keep (goes_to (k + 1 + i)) (flatten qs)
    shifted = ap (λ n. keep (goes_to n) (flatten qs)) (omega arith)

module _ (ports : ℕ) (queues : List (List Cell)) (q : Queues ports queues) where
  -- of all cells those that go to an output are its queue
  pub queue-of : (o : ℕ) → keep (goes_to o) (flatten queues) ≡ get_or queues o []
  queue-of o =
      ap (λ n. keep (goes_to n) (flatten queues)) (omega arith)
      ∙ queue-from 0 queues (λ i c m. q.outputs i c m ∙ omega arith) o

  -- its first are those of its first among all cells
  pub least-queue : (o : ℕ)
      → least (over ports) (get_or queues o []) ≡ keep (goes_to o) (least (beats_cell ports) (flatten queues))
  least-queue o =
      least-ext (over ports) (beats_cell ports) (get_or queues o []) agree
      ∙ ap (least (beats_cell ports)) (sym (queue-of o))
      ∙ sym (keep-least (beats_cell ports) (goes_to o) (flatten queues) alike)
    where
      agree : (c d : Cell) → Memᴰ c (get_or queues o []) → Memᴰ d (get_or queues o [])
          → over ports c d ≡ beats_cell ports c d
      agree c d m k = sym (beats-cell-alike ports c d (q.outputs o c m ∙ sym (q.outputs o d k)))

      alike : (c d : Cell) → Memᴰ c (flatten queues) → Memᴰ d (flatten queues)
          → goes_to o c ≡ true → beats_cell ports d c ≡ true → goes_to o d ≡ true
      alike c d m k g b = eq-eqb d.output o (beats-cell-output ports d c b ∙ eqb-true c.output o g)

  -- each output sends the first of its cells
  pub best-queues : map (best ports) queues
      ≡ map (λ o. first? (keep (goes_to o) (least (beats_cell ports) (flatten queues)))) (up_to ports)
  unfolding best
  best-queues =
      map-up_to (best ports) first [] queues (λ o b. ap first? (least-queue o)) ∙ ap (λ n. map first (up_to n)) q.size
    where
      first : ℕ → Option Cell
      first o = first? (keep (goes_to o) (least (beats_cell ports) (flatten queues)))

  -- a cell has another of its queue before it when some cell beats it
  beaten : (o : ℕ) (c : Cell) → Memᴰ c (get_or queues o [])
      → some? (λ d. over ports d c) (get_or queues o []) ≡ some? (λ d. beats_cell ports d c) (flatten queues)
  unfolding beats_cell
  beaten o c m =
      ap (some? (λ d. over ports d c)) (sym (queue-of o))
      ∙ some?-keep (goes_to o) (λ d. over ports d c) (flatten queues)
      ∙ ap (λ n. some? (λ d. eqb d.output n && over ports d c) (flatten queues)) (sym (q.outputs o c m))

  -- and all others stay
  pub rest-queues : flatten (map (rest ports) queues)
      ≡ keep (λ c. some? (λ d. beats_cell ports d c) (flatten queues)) (flatten queues)
  unfolding rest
  rest-queues =
      ap flatten (map-ext (rest ports) (keep later) [] queues (λ o b. keep-ext _ later (get_or queues o []) (beaten o)))
      ∙ sym (keep-flatten later queues)
    where
      later : Cell → Bool
      later c = some? (λ d. beats_cell ports d c) (flatten queues)
