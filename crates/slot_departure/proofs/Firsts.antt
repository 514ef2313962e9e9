-- The first cell of each input that leaves, output by output.
use Prim.Native.Nat.{ℕ, ◌+◌, ◌/◌, ◌≤◌, ◌<◌, min}
use native.Mathlib.Nat.{min-eq_left, min-eq_right}
use native.Mathlib.Omega.{arith}
use mathlib.Core.Path.{◌≡◌, sym, ◌∙◌, ap, subst}
use mathlib.Core.Logic.{◌≢◌}
use mathlib.Core.List.{List}
use lib.ListN.{get_or, set, length-set}
use lib.Seq.{get_or-set_same, get_or-set_other, set-get_or}
use Rattle.cell.specs.Limits.{port_limit, section_room}
use Rattle.laws.proofs.Compared.{Compared, below, equal, above, compare}
use Rattle.layout_table.specs.CodeEntries.{nowhere}
use Rattle.slot_departure.specs.Code.{Firsts}

module _ (numbers : List ℕ) where
  module _ (o : ℕ) (firsts : List ℕ) (f : Firsts numbers o firsts) where
    abbrev n : ℕ
    n = get_or numbers o 0

    abbrev i : ℕ
    i = get_or numbers o 0 / section_room

    -- the output has no cell, or one that is no earlier
    pub firsts_same : (get_or numbers o 0 < nowhere → get_or firsts (get_or numbers o 0 / section_room) 0 ≤ get_or numbers o 0)
        → Firsts numbers (o + 1) firsts
    firsts_same h =
        record {
          size = f.size;
          least = λ p l s. go p l s (compare p o);
          real = λ j l s. let x = f.real j l s in (x.0, x.1, omega (arith, x.2), x.3);
        }
      where
        go : (p : ℕ) → p < o + 1 → get_or numbers p 0 < nowhere → Compared p o
            → get_or firsts (get_or numbers p 0 / section_room) 0 ≤ get_or numbers p 0
        go p l s (below d) = f.least p d s
        go p l s (equal d) = rw d (h (rw d at s))
        go p l s (above d) = absurd (omega arith)

    -- its cell is earlier
    module _ (small : get_or numbers o 0 < nowhere)
        (earlier : get_or numbers o 0 < get_or firsts (get_or numbers o 0 / section_room) 0) where
      abbrev new : List ℕ
      new = set firsts i n

      same : (j : ℕ) → j ≡ i → get_or new j 0 ≡ n
      same j e = ap (λ k. get_or new k 0) e ∙ get_or-set_same firsts i n 0 (omega (arith, f.size))

      other : (j : ℕ) → j ≢ i → get_or new j 0 ≡ get_or firsts j 0
      other j d = get_or-set_other firsts i j n 0 d

      lower : (j : ℕ) → Compared j i → get_or new j 0 ≤ get_or firsts j 0
      lower j (below d) = omega (arith, other j (omega arith))
      lower j (equal d) = omega (arith, same j d, ap (λ k. get_or firsts k 0) d)
      lower j (above d) = omega (arith, other j (omega arith))

      firsts-lower : Firsts numbers (o + 1) (set firsts (get_or numbers o 0 / section_room) (get_or numbers o 0))
      firsts-lower =
          record {
            size = length-set firsts i n ∙ f.size;
            least = λ p l s. go p l s (compare p o);
            real = λ j l s. own j l s (compare j i);
          }
        where
          go : (p : ℕ) → p < o + 1 → get_or numbers p 0 < nowhere → Compared p o
              → get_or new (get_or numbers p 0 / section_room) 0 ≤ get_or numbers p 0
          go p l s (below d) = omega (arith, lower _ (compare (get_or numbers p 0 / section_room) i), f.least p d s)
          go p l s (equal d) =
              let at : get_or numbers p 0 ≡ n = ap (λ q. get_or numbers q 0) d in
              omega (arith, same _ (ap (λ m. m / section_room) at))
          go p l s (above d) = absurd (omega arith)

          kept : (j : ℕ) → j < port_limit → get_or new j 0 < nowhere → j ≢ i
              → (get_or new j 0 / section_room ≡ j) × (p : ℕ) × (p < o + 1) × (get_or numbers p 0 ≡ get_or new j 0)
          kept j l s d =
              let x = f.real j l (omega (arith, other j d)) in
              (ap (λ m. m / section_room) (other j d) ∙ x.0, x.1, omega (arith, x.2), x.3 ∙ sym (other j d))

          own : (j : ℕ) → j < port_limit → get_or new j 0 < nowhere → Compared j i
              → (get_or new j 0 / section_room ≡ j) × (p : ℕ) × (p < o + 1) × (get_or numbers p 0 ≡ get_or new j 0)
          own j l s (below d) = kept j l s (omega arith)
          own j l s (equal d) =
              (ap (λ m. m / section_room) (same j d) ∙ sym d, o, omega arith, sym (same j d))
          own j l s (above d) = kept j l s (omega arith)

    -- its cell or the first so far, whichever is earlier
    pub firsts_min : (m : ℕ) → get_or numbers o 0 < nowhere
        → m ≡ min (get_or firsts (get_or numbers o 0 / section_room) 0) (get_or numbers o 0)
        → Firsts numbers (o + 1) (set firsts (get_or numbers o 0 / section_room) m)
    firsts_min m small e = go (compare (get_or firsts i 0) n)
      where
        stay : get_or firsts i 0 ≤ n → Firsts numbers (o + 1) (set firsts i m)
        stay h =
            subst (Firsts numbers (o + 1))
            (sym (ap (set firsts i) (e ∙ min-eq_left h) ∙ set-get_or firsts i 0))
            (firsts_same (λ l. h))

        go : Compared (get_or firsts i 0) n → Firsts numbers (o + 1) (set firsts i m)
        go (below d) = stay (omega arith)
        go (equal d) = stay (omega arith)
        go (above d) =
            subst (λ k. Firsts numbers (o + 1) (set firsts i k)) (sym (e ∙ min-eq_right (omega arith)))
            (firsts-lower small d)
