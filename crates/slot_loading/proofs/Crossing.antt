-- The crosspoints, cell by cell.
--     crossed-wider    up to a later end before which no crossed cell comes
--     crossed-put      one cell more
--     Crossing         those of an input, by a loop over their set
use Prim.Native.Nat.{ℕ, ◌+◌, ◌*◌, ◌/◌, ◌≤◌, ◌<◌}
use native.Mathlib.Omega.{arith}
use mathlib.Core.Bool.{Bool, true}
use mathlib.Core.Path.{◌≡◌, sym, ◌∙◌, ap, ap₂, subst}
use mathlib.Core.Logic.{◌⊎◌, inl, inr}
use mathlib.Core.List.{List}
use lib.ListN.{get_or, replicate}
use Rattle.laws.proofs.Pairwise.{pairwise-e}
use Rattle.sets.specs.Sets.{first_of}
use Rattle.cell.specs.Limits.{section_room}
use Rattle.cell.specs.Order.{key}
use Rattle.laws.proofs.Compared.{Compared, below, equal, above, compare}
use Rattle.sets.specs.Code.{rest_of}
use Rattle.model.specs.State.{is_crossed}
use Rattle.model.specs.Phase.{Waiting}
use Rattle.model.specs.CodeSlackness.{apart}
use Rattle.model.proofs.PhaseLimits.{apart-e}
use Rattle.model.proofs.WaitingOrder.{crosspoint-i}
use Rattle.layout.specs.Entry.{entry_at}
use Rattle.layout.specs.Table.{place_of, IsTable, entry_limit}
use Rattle.layout.specs.Code.{ports_in}
use Rattle.layout_table.specs.CodeEntries.{nowhere}
use Rattle.slot_view.specs.CodeView.{waiting_at, waiting_in, InTable, crosspoint_at, cross_with, places_in}
use Rattle.slot_view.specs.CodeScan.{Readable}
use Rattle.slot_view.specs.CodeViewed.{no_key, key_at, crossed_set}
use Rattle.slot_view.proofs.Keys.{key_at-cell, key_at-none}
use Rattle.slot_view.proofs.Own.{table-readable, waiting_in-single}
use Rattle.slot_view.proofs.Squares.{square-with, cross-same, cross-other, uniform-square, uniform-at}
use Rattle.slot_view.proofs.Window.{in_table-i, in_table-below, waiting_at-input}
use Rattle.slot_loading.specs.Code.{Crossed, CrossedBelow}
use Rattle.slot_loading.proofs.Walk.{Passing, passing-start, passing-end, passing-this, passing-below, passing-next}

-- where nothing is at the crosspoints
pub crossed-none : (table places : List ℕ)
    → CrossedBelow table places 0 (replicate 16 (replicate 16 nowhere)) (replicate 16 (replicate 16 no_key))
unfolding crosspoint_at
crossed-none table places =
    record {
      square = uniform-square nowhere;
      keyed =
          record {
            square = uniform-square no_key;
            at =
                λ i o li lo.
                uniform-at no_key o i lo li
                ∙ sym (ap (key_at table) (uniform-at nowhere i o li lo) ∙ key_at-none table nowhere (omega arith));
          };
      filled = λ k l c. absurd (omega arith);
      real = λ i o li lo h. absurd (omega (arith, uniform-at nowhere i o li lo));
    }

pub crossed-wider : {table places : List ℕ} {end later : ℕ} {cross keys : List (List ℕ)}
    → ((k : ℕ) → end ≤ k → k < later → Crossed table places k → ⊥)
    → CrossedBelow table places end cross keys → CrossedBelow table places later cross keys
crossed-wider {table} {places} {end} {later} {cross} {keys} none c =
    record { square = c.square; keyed = c.keyed; filled = λ k l h. go k l h (compare k end); real = c.real }
  where
    go : (k : ℕ) → k < later → Crossed table places k → Compared k end
        → crosspoint_at cross (k / section_room) (entry_at table k).cell.output ≡ k
    go k l h (below d) = c.filled k d h
    go k l h (equal d) = absurd (none k (omega arith) l h)
    go k l h (above d) = absurd (none k (omega arith) l h)

module _ (table : List ℕ) (good : IsTable table) where
  -- no crosspoint has two cells
  crossed-once : (k j : ℕ) → Crossed table (places_in table) k → Crossed table (places_in table) j
      → k / section_room ≡ j / section_room → (entry_at table k).cell.output ≡ (entry_at table j).cell.output → k ≡ j
  unfolding waiting_at
  crossed-once k j h g input output =
      go
      (pairwise-e apart (waiting_in table) (waiting_in-single table good) (in_table-i table (places_in table) readable k h.entry)
      (in_table-i table (places_in table) readable j g.entry))
    where
      readable : Readable table
      readable = table-readable table good

      cell_of : ℕ → Waiting
      cell_of n = waiting_at table (places_in table) n

      same : (cell_of k).cell.input ≡ (cell_of j).cell.input
      same = waiting_at-input table (places_in table) k ∙ input ∙ sym (waiting_at-input table (places_in table) j)

      go : (cell_of k ≡ cell_of j) ⊎ ((apart (cell_of k) (cell_of j) ≡ true) ⊎ (apart (cell_of j) (cell_of k) ≡ true)) → k ≡ j
      go (inl p) = ap (λ w. w.at) p
      go (inr (inl a)) = absurd (apart-e _ _ a h.place g.place (crosspoint-i _ _ same output))
      go (inr (inr a)) = absurd (apart-e _ _ a g.place h.place (crosspoint-i _ _ (sym same) (sym output)))

  module _ (k output number : ℕ) (h : Crossed table (places_in table) k) (own : output ≡ (entry_at table k).cell.output)
      (named : number ≡ key (entry_at table k).cell) (cross keys : List (List ℕ))
      (c : CrossedBelow table (places_in table) k cross keys) where
    input : ℕ
    input = k / section_room

    small : k < entry_limit
    small = in_table-below (table-readable table good) h.entry

    port : input < 16
    unfolding input
    port = omega (arith, small)

    column : output < 16
    column =
        let r = table-readable table good in
        omega (arith, own, r.outputs k h.entry, r.ports)

    -- its crosspoint or another
    data At (i o : ℕ) : Type 0 where
      here : i ≡ input → o ≡ output → At i o
      elsewhere : (i ≡ input → o ≡ output → ⊥) → At i o

    at : (i o : ℕ) → At i o
    at i o = go (compare i input) (compare o output)
      where
        go : Compared i input → Compared o output → At i o
        go (below l) d = elsewhere (λ p q. omega arith)
        go (above l) d = elsewhere (λ p q. omega arith)
        go (equal l) (below d) = elsewhere (λ p q. omega arith)
        go (equal l) (above d) = elsewhere (λ p q. omega arith)
        go (equal l) (equal d) = here l d

    new : List (List ℕ)
    new = cross_with cross input output k

    new-keys : List (List ℕ)
    new-keys = cross_with keys output input number

    pub crossed-put : CrossedBelow table (places_in table) (k + 1) (cross_with cross (k / section_room) output k)
        (cross_with keys output (k / section_room) number)
    unfolding input new new-keys crosspoint_at
    crossed-put =
        record {
          square = square-with cross c.square input output k;
          keyed =
              record {
                square = square-with keys c.keyed.square output input number;
                at = λ i o li lo. keyed i o li lo (at i o);
              };
          filled = λ j l g. filled j l g (compare j k);
          real = λ i o li lo l. real i o li lo (at i o) l;
        }
      where
        keyed : (i o : ℕ) → i < 16 → o < 16 → At i o → crosspoint_at new-keys o i ≡ key_at table (crosspoint_at new i o)
        keyed i o li lo (here p q) =
            ap₂ (λ i o. crosspoint_at new-keys o i) p q
            ∙ cross-same keys c.keyed.square output input number column port
            ∙ named
            ∙ sym (key_at-cell table k small)
            ∙ ap (key_at table) (sym (cross-same cross c.square input output k port column))
            ∙ ap₂ (λ i o. key_at table (crosspoint_at new i o)) (sym p) (sym q)
        keyed i o li lo (elsewhere d) =
            cross-other keys c.keyed.square output input number o i column (λ q p. d p q)
            ∙ c.keyed.at i o li lo
            ∙ ap (key_at table) (sym (cross-other cross c.square input output k i o port d))

        filled : (j : ℕ) → j < k + 1 → Crossed table (places_in table) j → Compared j k
            → crosspoint_at new (j / section_room) (entry_at table j).cell.output ≡ j
        filled j l g (below d) =
            cross-other cross c.square input output k (j / section_room) (entry_at table j).cell.output port
            (λ p q. omega (arith, crossed-once j k g h p (q ∙ own)))
            ∙ c.filled j d g
        filled j l g (equal d) =
            ap₂ (crosspoint_at new) (ap (λ n. n / section_room) d) (ap (λ n. (entry_at table n).cell.output) d ∙ sym own)
            ∙ cross-same cross c.square input output k port column
            ∙ sym d
        filled j l g (above d) = absurd (omega arith)

        Real : ℕ → ℕ → ℕ → Type 0
        Real i o n =
            Crossed table (places_in table) n × (n / section_room ≡ i) × ((entry_at table n).cell.output ≡ o)

        real : (i o : ℕ) → i < 16 → o < 16 → At i o → crosspoint_at new i o < entry_limit → Real i o (crosspoint_at new i o)
        real i o li lo (here p q) l =
            subst (Real i o)
            (sym (ap₂ (crosspoint_at new) p q ∙ cross-same cross c.square input output k port column))
            (h, sym p, sym own ∙ sym q)
        real i o li lo (elsewhere d) l =
            let kept = cross-other cross c.square input output k i o port d in
            subst (Real i o) (sym kept) (c.real i o li lo (subst (λ n. n < entry_limit) kept l))

------------------------------------------------------------------------
-- the loop over the crossed cells of an input

-- those passed are at their crosspoints
abbrev pub Crossing : List ℕ → ℕ → List (List ℕ) → List (List ℕ) → ℕ → Type 0
Crossing table input cross keys left =
    Passing (crossed_set table (places_in table) input) (section_room * input) left
    (λ end. CrossedBelow table (places_in table) end cross keys)

module _ (table : List ℕ) (good : IsTable table) (input : ℕ) (port : input < ports_in table) where
  is_at : ℕ → Bool
  is_at k = is_crossed (place_of (get_or (places_in table) k 0))

  wider : (cross keys : List (List ℕ)) (end later : ℕ) → end ≤ later
      → ((k : ℕ) → end ≤ k → k < later → InTable table k → is_at k ≡ true → ⊥)
      → CrossedBelow table (places_in table) end cross keys → CrossedBelow table (places_in table) later cross keys
  unfolding is_at
  wider cross keys end later l none = crossed-wider (λ k low high c. none k low high c.entry c.place)

  pub crossing-start : (cross keys : List (List ℕ))
      → CrossedBelow table (places_in table) (section_room * input) cross keys
      → Crossing table input cross keys (crossed_set table (places_in table) input)
  unfolding crossed_set is_at
  crossing-start cross keys c = passing-start table good input port is_at c

  module _ (cross keys : List (List ℕ)) (left : ℕ) (w : Crossing table input cross keys left) where
    pub crossing-end : left ≡ 0 → CrossedBelow table (places_in table) (section_room * (input + 1)) cross keys
    unfolding crossed_set is_at
    crossing-end done = passing-end table good input port is_at (wider cross keys) w done

    module _ (some : 0 < left) where
      pub crossing-this : Crossed table (places_in table) (section_room * input + first_of left)
          × CrossedBelow table (places_in table) (section_room * input + first_of left) cross keys
      unfolding crossed_set is_at
      crossing-this =
          let this = passing-this table good input port is_at (wider cross keys) w some in (
            record { entry = this.0; place = this.1 },
            passing-below table good input port is_at (wider cross keys) w some,
          )

      pub crossing-next : (cross' keys' : List (List ℕ))
          → CrossedBelow table (places_in table) (section_room * input + first_of left + 1) cross' keys'
          → Crossing table input cross' keys' (rest_of left)
      unfolding crossed_set is_at
      crossing-next cross' keys' c = passing-next table good input port is_at (wider cross keys) w some c
