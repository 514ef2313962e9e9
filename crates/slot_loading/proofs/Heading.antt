-- The heads of a list, found by a walk over it that looks at the flow of the cell before.
use Prim.Native.Nat.{ℕ, ◌+◌, ◌*◌, ◌/◌, ◌^◌, ◌≤◌, ◌<◌}
use native.Mathlib.Omega.{arith}
use mathlib.Core.Bool.{Bool, true, false, cond, not, ◌&&◌, ◌||◌}
use mathlib.Core.Path.{◌≡◌, refl, sym, ◌∙◌, ap, ap₂}
use mathlib.Core.Logic.{◌⊎◌, inl, inr, ◌≢◌}
use mathlib.Core.List.{List}
use borrow.Author.Tests.{eqb-true, eqb-false, eq-eqb, ne_eqb, lt-ltb, le-ltb}
use lib.Dec.{eqb, ltb}
use lib.ListN.{get_or}
use Rattle.laws.proofs.Tests.{either, clash, by-pass, by-fail, and-false-l, and_false_r}
use Rattle.sets.specs.Sets.{positions, has, first_of}
use Rattle.sets.proofs.Digits.{has-past, same-members}
use Rattle.sets.proofs.Members.{has-set_from, has-with_one, set_of-lt}
use Rattle.cell.specs.Flow.{same_flow}
use Rattle.cell.specs.Limits.{section_room}
use Rattle.cell.proofs.Flow.{flow-i, flow-e}
use Rattle.laws.proofs.Compared.{Compared, below, equal, above, compare}
use Rattle.sets.specs.Code.{with_one, rest_of}
use Rattle.model.specs.State.{is_listed}
use Rattle.layout.specs.Entry.{entry_at, count_in}
use Rattle.layout.specs.Table.{place_of, IsTable}
use Rattle.layout.proofs.Records.{entry_at-input}
use Rattle.layout.specs.Code.{ports_in}
use Rattle.layout_table.specs.CodeEntries.{flow_word}
use Rattle.slot_view.specs.CodeView.{waiting_at, waiting_in, InTable, places_in}
use Rattle.slot_view.specs.CodeViewed.{is_head, listed_set, head_set}
use Rattle.slot_view.specs.CodeScan.{Readable}
use Rattle.slot_view.proofs.Heads.{Listed, head-unlisted, head-none, head-same, head-after}
use Rattle.slot_view.proofs.Own.{table-readable}
use Rattle.slot_view.proofs.Together.{contiguous}
use Rattle.slot_loading.proofs.Walk.{Walk, walk_start, walk-member, walk-position, walk-next}
use Rattle.slot_loading.proofs.Walk.{section-fits, section-member, section-none, section-end}

-- above every flow word
abbrev pub no_flow : ℕ
no_flow = 65535

-- the listed cell right before the bound: none, or one whose flow word is `last`
pub data Before (table : List ℕ) (input bound last : ℕ) : Type 0 where
  none : bound ≡ 0 → last ≡ no_flow → Before table input bound last
  one : (b : ℕ) → bound ≡ b + 1 → Listed table (places_in table) (section_room * input + b)
      → last ≡ flow_word (entry_at table (section_room * input + b)).cell → Before table input bound last

-- the heads below the bound are found
pub record Heading (table : List ℕ) (input heads last left : ℕ) : Type 0 where
  pub bound : ℕ
  pub walk : Walk (listed_set table (places_in table) input) bound left
  pub fits : heads < 2 ^ positions
  pub found : (j : ℕ) → j < positions
      → has heads j ≡ (ltb j bound && has (head_set table (places_in table) input) j)
  pub before : Before table input bound last

module _ (table : List ℕ) (good : IsTable table) (input : ℕ) (port : input < ports_in table) where
  is_in : ℕ → Bool
  is_in k = is_listed (place_of (get_or (places_in table) k 0))

  head : ℕ → Bool
  head k = is_head (waiting_in table) (waiting_at table (places_in table) k)

  readable : Readable table
  readable = table-readable table good

  heads_fits : head_set table (places_in table) input < 2 ^ positions
  unfolding head_set head
  heads_fits = section-fits table good input port head

  pub list-fits : listed_set table (places_in table) input < 2 ^ positions
  unfolding listed_set is_in
  list-fits = section-fits table good input port is_in

  pub heading-start : Heading table input 0 no_flow (listed_set table (places_in table) input)
  heading-start =
      record {
        bound = 0;
        walk = walk_start _ list-fits;
        fits = omega arith;
        found =
            λ j h.
            has-past 0 0 j (omega arith) (omega arith)
            ∙ sym (and-false-l (ltb j 0) (has (head_set table (places_in table) input) j) (le-ltb j 0 (omega arith)));
        before = none refl refl;
      }

  module _ (heads last left : ℕ) (w : Heading table input heads last left) where
    -- a head is an entry of the list
    head_in : (j : ℕ) → has (head_set table (places_in table) input) j ≡ true
        → InTable table (section_room * input + j) × (is_listed (place_of (get_or (places_in table) (section_room * input + j) 0)) ≡ true)
    unfolding head_set head
    head_in j t =
        let m = section-member table good input port head j t in (
          m.0,
          by-pass _ (λ f. clash m.1 (head-unlisted table (places_in table) readable (section_room * input + j) f)),
        )

    pub heading-end : left ≡ 0 → heads ≡ head_set table (places_in table) input
    unfolding listed_set is_in
    heading-end done =
        same-members positions heads _ w.fits heads_fits
        (λ j h. w.found j h ∙ go j h (compare j w.bound))
      where
        behind : (j : ℕ) → j < positions → w.bound ≤ j
            → (ltb j w.bound && has (head_set table (places_in table) input) j)
            ≡ has (head_set table (places_in table) input) j
        behind j h l =
            let no : has (head_set table (places_in table) input) j ≡ false =
            by-fail _ (λ t.
            let m = head_in j t in
            section-end table good input port is_in w.walk done (section_room * input + j) (omega arith) (omega arith)
            m.0 m.1) in
            and_false_r (ltb j w.bound) _ no ∙ sym no

        go : (j : ℕ) → j < positions → Compared j w.bound
            → (ltb j w.bound && has (head_set table (places_in table) input) j)
            ≡ has (head_set table (places_in table) input) j
        go j h (below l) = ap (λ b. b && has (head_set table (places_in table) input) j) (lt-ltb j w.bound l)
        go j h (equal l) = behind j h (omega arith)
        go j h (above l) = behind j h (omega arith)

    module _ (some : 0 < left) where
      j : ℕ
      j = first_of left

      k : ℕ
      k = section_room * input + first_of left

      position : j < 64
      unfolding j
      position = walk-position w.walk some

      own : k / section_room ≡ input
      unfolding j k
      own = omega (arith, position)

      here : Listed table (places_in table) k
      unfolding listed_set is_in k
      here =
          let m = section-member table good input port is_in (first_of left) (walk-member w.walk some).0 in
          record { entry = m.0; place = m.1 }

      -- the listed cells before it are passed
      passed : (a : ℕ) → Listed table (places_in table) a → a < k → a < section_room * input + w.bound
      unfolding listed_set is_in k
      passed a l before = go (compare a (section_room * input + w.bound))
        where
          late : section_room * input + w.bound ≤ a → ⊥
          late low = section-none table good input port is_in w.walk some a low before l.entry l.place

          go : Compared a (section_room * input + w.bound) → a < section_room * input + w.bound
          go (below d) = d
          go (equal d) = absurd (late (omega arith))
          go (above d) = absurd (late (omega arith))

      module _ (flow : ℕ) (is : flow ≡ flow_word (entry_at table (section_room * input + first_of left)).cell) where
        small : flow < no_flow
        unfolding k
        small =
            omega (
              arith,
              is,
              readable.outputs k here.entry,
              readable.flows k here.entry,
              readable.ports,
            )

        -- it is a head exactly if the flow of the cell before it is another
        decides : not (eqb flow last) ≡ head k
        unfolding head j k
        decides = go w.before
          where
            go : Before table input w.bound last → not (eqb flow last) ≡ head k
            go (none start empty) =
                ap not (ne_eqb flow last (λ e. omega (arith, small)))
                ∙ sym
                (head-none table (places_in table) readable k here.place
                (λ a e. omega (arith, passed a e.listed e.before, e.input, own)))
            go (one b next listed word) = by-flow (either (eqb flow last))
              where
                x : ℕ
                x = section_room * input + b

                before : x < k
                before = omega (arith, (walk-member w.walk some).1, next)

                alike : x / section_room ≡ k / section_room
                alike = omega (arith, own, before, position)

                last_one : (a : ℕ) → Listed table (places_in table) a → a / section_room ≡ k / section_room → a < k → a ≤ x
                last_one a l _ h = omega (arith, passed a l h, next)

                same-words : flow ≡ last → same_flow (entry_at table x).cell (entry_at table k).cell ≡ true
                same-words e =
                    let outputs = readable.outputs x listed.entry in
                    let outputs-here = readable.outputs k here.entry in
                    let words : flow_word (entry_at table x).cell ≡ flow_word (entry_at table k).cell =
                    sym word ∙ sym e ∙ is in
                    flow-i
                    (record {
                      input = entry_at-input table x ∙ alike ∙ sym (entry_at-input table k);
                      output = omega (arith, readable.ports);
                      flow = omega (arith, readable.ports);
                    })

                other-words : (flow ≡ last → ⊥) → same_flow (entry_at table x).cell (entry_at table k).cell ≡ false
                other-words d =
                    by-fail _ (λ s.
                    let f = flow-e (entry_at table x).cell (entry_at table k).cell s in
                    d (is ∙ ap₂ (λ o n. o + 256 * n) (sym f.output) (sym f.flow) ∙ sym word))

                by-flow : (eqb flow last ≡ true) ⊎ (eqb flow last ≡ false) → not (eqb flow last) ≡ head k
                by-flow (inl t) =
                    ap not t
                    ∙ sym
                    (head-same table (places_in table) readable k (contiguous table good) here x listed alike before
                    last_one (same-words (eqb-true flow last t)))
                by-flow (inr t) =
                    ap not t
                    ∙ sym
                    (head-after table (places_in table) readable k (contiguous table good) here x listed alike before
                    last_one (other-words (eqb-false flow last t)))

        pub heading-next : Heading table input
            (cond (not (eqb flow last)) (with_one heads (first_of left)) heads) flow (rest_of left)
        unfolding j k head head_set with_one
        heading-next =
            record {
              bound = first_of left + 1;
              walk = walk-next w.walk some list-fits;
              fits = fits (not (eqb flow last));
              found = λ i h. found i h (compare i (first_of left));
              before = one (first_of left) refl here is;
            }
          where
            fits : (b : Bool) → cond b (with_one heads (first_of left)) heads < 2 ^ positions
            fits true = set_of-lt (λ i. has heads i || eqb i (first_of left))
            fits false = w.fits

            H : ℕ → Bool
            H i = has (head_set table (places_in table) input) i

            -- the other positions stay as they are
            else : (b : Bool) (i : ℕ) → i < positions → i ≢ first_of left
                → has (cond b (with_one heads (first_of left)) heads) i ≡ has heads i
            else true i h d =
                has-with_one heads (first_of left) i h
                ∙ ap (λ b. has heads i || b) (ne_eqb i (first_of left) d)
                ∙ mathlib.Core.Bool.or-false (has heads i)
            else false i h d = refl

            unseen : has heads (first_of left) ≡ false
            unseen =
                w.found (first_of left) position
                ∙ and-false-l _ _ (le-ltb (first_of left) w.bound (walk-member w.walk some).1)

            -- and the one at hand is as the test says
            this : (b : Bool) → has (cond b (with_one heads (first_of left)) heads) (first_of left) ≡ b
            this true =
                has-with_one heads (first_of left) (first_of left) position
                ∙ ap₂ ◌||◌ unseen (eq-eqb (first_of left) (first_of left) refl)
            this false = unseen

            -- no head comes between those passed and it
            between : (i : ℕ) → i < positions → i < first_of left
                → (ltb i w.bound && H i) ≡ H i
            between i h l = go (compare i w.bound)
              where
                skipped : w.bound ≤ i → (ltb i w.bound && H i) ≡ H i
                skipped low =
                    let no : H i ≡ false =
                    by-fail _ (λ t.
                    let m = head_in i t in
                    let early = passed (section_room * input + i) (record { entry = m.0; place = m.1 }) (omega arith) in
                    omega arith) in
                    and_false_r (ltb i w.bound) (H i) no ∙ sym no

                go : Compared i w.bound → (ltb i w.bound && H i) ≡ H i
                go (below d) = ap (λ b. b && H i) (lt-ltb i w.bound d)
                go (equal d) = skipped (omega arith)
                go (above d) = skipped (omega arith)

            -- it is in the set of heads exactly if it is one
            in-set : head k ≡ H (first_of left)
            in-set =
                let small : first_of left < count_in table input =
                omega (arith, mathlib.Core.Path.subst (λ i. k < section_room * i + count_in table i) own here.entry.position) in
                sym
                (has-set_from head (section_room * input) (count_in table input) (first_of left)
                ∙ ap (λ b. b && head k) (lt-ltb (first_of left) (count_in table input) small))

            found : (i : ℕ) → i < positions → Compared i (first_of left)
                → has (cond (not (eqb flow last)) (with_one heads (first_of left)) heads) i
                ≡ (ltb i (first_of left + 1) && has (head_set table (places_in table) input) i)
            found i h (below l) =
                let first : ltb i (first_of left + 1) ≡ true = lt-ltb i (first_of left + 1) (omega arith) in
                else (not (eqb flow last)) i h (omega arith)
                ∙ w.found i h
                ∙ between i h l
                ∙ sym (ap (λ b. b && H i) first)
            found i h (equal l) =
                let first : ltb i (first_of left + 1) ≡ true = lt-ltb i (first_of left + 1) (omega arith) in
                ap (has (cond (not (eqb flow last)) (with_one heads (first_of left)) heads)) l
                ∙ this (not (eqb flow last))
                ∙ decides
                ∙ in-set
                ∙ sym (ap₂ (λ b i. b && H i) first l)
            found i h (above l) =
                let low = (walk-member w.walk some).1 in
                else (not (eqb flow last)) i h (omega arith)
                ∙ w.found i h
                ∙ and-false-l (ltb i w.bound) (H i) (le-ltb i w.bound (omega arith))
                ∙ sym (and-false-l (ltb i (first_of left + 1)) (H i) (le-ltb i (first_of left + 1) (omega arith)))
