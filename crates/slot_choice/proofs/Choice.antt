-- The choices of a phase on a table, input by input, as the loops over the inputs make them.
--     ScannedTo, scanned-   the scheduled and the urgent cells of the first inputs
--     entered-candidates    the candidates of an input, where some cell is urgent
--     chosen-some, chosen_none   all of it
use Prim.Native.Nat.{ℕ, ◌+◌, ◌*◌, ◌/◌, ◌%◌, ◌<◌, ◌≤◌, ◌^◌}
use native.Mathlib.Omega.{arith}
use mathlib.Core.Bool.{Bool, true, false, not, ◌||◌}
use mathlib.Core.Path.{◌≡◌, refl, sym, ◌∙◌, ap, subst}
use mathlib.Core.Logic.{◌≢◌}
use mathlib.Core.List.{List, [], ◌∷◌, ◌++◌, map, Memᴰ}
use borrow.Author.Tests.{eqb-true, eqb-false, eq-eqb, ne_eqb, lt-ltb, le-leb, lt-leb, ltb-true}
use lib.Dec.{eqb, ltb}
use lib.ListN.{length, get_or, set, replicate, length-set, length-replicate, get_or-replicate}
use lib.Seq.{get_or-set_same, get_or-set_other}
use Rattle.laws.specs.Lists.{keep, none?, pairwise, first?}
use Rattle.laws.proofs.Tests.{clash, by-fail, same, and_i, and_l, and_r}
use Rattle.laws.proofs.Lists.{Passing, some?-i, some?-e, some?-false, none?-i, none?-clash, keep-nil, keep-mem}
use Rattle.laws.proofs.Lists.{mem-keep-in, mem-keep-passes}
use Rattle.laws.proofs.Pairwise.{pairwise-nil}
use Rattle.sets.specs.Sets.{positions, has, members, first_of}
use Rattle.sets.proofs.Members.{has-set_from, first-is, first-before, members-none, members-cons, members-with}
use Rattle.cell.specs.Limits.{section_room}
use Rattle.laws.proofs.Compared.{Compared, below, equal, above, compare}
use Rattle.sets.specs.Code.{with_one}
use Rattle.model.specs.State.{is_listed}
use Rattle.model.specs.Phase.{Waiting, ahead, phase, lists}
use Rattle.model.proofs.PhaseFacts.{lists-i, lists-all, lists-listed, head-listed, scheduled-head}
use Rattle.model.proofs.WaitingOrder.{ahead-i, ahead-at, ahead-input}
use Rattle.model.proofs.PhaseMatching.{urgent-all}
use Rattle.layout.specs.Entry.{count_in}
use Rattle.layout.specs.Table.{place_of, entry_limit}
use Rattle.layout.specs.Code.{ports_in}
use Rattle.layout_table.specs.CodeEntries.{nowhere}
use Rattle.slot_view.specs.CodeView.{places_in, waiting_in, waiting_at, InTable}
use Rattle.slot_view.specs.CodeChoices.{number_of, of_input, scheduled_of, candidates_of}
use Rattle.slot_view.specs.CodeScan.{Readable, Bests, some_urgent}
use Rattle.slot_view.specs.CodeViewed.{is_head, listed_set, ListsOf, Chosen}
use Rattle.slot_view.proofs.Window.{waiting_at-at, waiting_at-input, waiting_at-place, in_table-e, in_table-i, in_table-below}
use Rattle.slot_view.proofs.Window.{in_table-input, of_input-none}
use Rattle.slot_leaders.proofs.Best.{number_of-nil, number_of-one}
use Rattle.slot_leaders.proofs.Columns.{set_both}
use Rattle.slot_choice.specs.CodeWalk.{numbers_at, urgent_of, Scanned, ScannedAll, entered, Entered}
use Rattle.slot_choice.proofs.Candidates.{candidates-first, candidates-urgent, candidates-none}
use Rattle.slot_choice.proofs.Scans.{is_ready, heads_of, of_input-urgent, scheduled-none, scheduled-first}
use Rattle.slot_choice.proofs.Walked.{heads-ordered}

------------------------------------------------------------------------
-- the sets, input by input

module _ (listed scheduled urgent : ℕ) where
  pub entered-nowhere : nowhere ≤ scheduled → urgent ≡ entered listed scheduled urgent
  unfolding entered
  entered-nowhere h = rw (le-leb nowhere scheduled h)

  module _ (h : scheduled < nowhere) where
    pub entered-behind : first_of listed ≢ scheduled % section_room → urgent ≡ entered listed scheduled urgent
    unfolding entered
    entered-behind d = rw (lt-leb nowhere scheduled h, ne_eqb (first_of listed) (scheduled % section_room) d)

    pub entered-first : first_of listed ≡ scheduled % section_room
        → with_one 0 (scheduled % section_room) ≡ entered listed scheduled urgent
    unfolding entered
    entered-first e = rw (lt-leb nowhere scheduled h, eq-eqb (first_of listed) (scheduled % section_room) e)

module _ (listed scheduled old : List ℕ) where
  pub entered-more : (n v : ℕ) {new : List ℕ} → n < 16
      → v ≡ entered (get_or listed n 0) (get_or scheduled n 0) (get_or new n 0) → Entered listed scheduled old n new
      → Entered listed scheduled old (n + 1) (set new n v)
  entered-more n v {new} l e w = record {
    size = length-set new n v ∙ w.size;
    done = λ i h. go i h (compare i n);
    later = λ i h. get_or-set_other new n i v 0 (λ e. omega arith) ∙ w.later i (omega arith);
  }
    where
      go : (i : ℕ) → i < n + 1 → Compared i n
          → get_or (set new n v) i 0 ≡ entered (get_or listed i 0) (get_or scheduled i 0) (get_or old i 0)
      go i h (below c) = get_or-set_other new n i v 0 (λ e. omega arith) ∙ w.done i c
      go i h (equal c) =
          rw c
          (get_or-set_same new n v 0 (omega (arith, w.size))
          ∙ e
          ∙ ap (entered (get_or listed n 0) (get_or scheduled n 0)) (w.later n (omega arith)))
      go i h (above c) = absurd (omega arith)

module _ (table : List ℕ) where
  abbrev all : List Waiting
  all = waiting_in table

  abbrev places : List ℕ
  places = places_in table

  ------------------------------------------------------------------------
  -- the scheduled and the urgent cells of the first inputs

  -- some cell of the first n inputs is urgent
  pub data SomeTo (n : ℕ) : Bool → Type 0 where
    some-urgent : {e : Waiting} → Memᴰ e (phase (ports_in table) all).urgent → SomeTo n true
    none-urgent : ((i : ℕ) → i < n → urgent_of (phase (ports_in table) all) i ≡ []) → SomeTo n false

  -- they are written down for the first n inputs, and nothing yet for the others
  pub record ScannedTo (n : ℕ) (scheduled urgent : List ℕ) (some : Bool) : Type 0 where
    pub sizes : (length scheduled ≡ 16) × (length urgent ≡ 16)
    pub each : (i : ℕ) → i < n → Scanned table i (get_or scheduled i 0) (get_or urgent i 0)
    pub rest : (i : ℕ) → n ≤ i → i < 16 → (get_or scheduled i 0 ≡ nowhere) × ◌≡◌ {A = ℕ} (get_or urgent i 0) 0
    pub any : SomeTo n some

  pub scanned-none : {scheduled urgent : List ℕ} → scheduled ≡ replicate 16 nowhere → urgent ≡ replicate 16 0
      → ScannedTo 0 scheduled urgent false
  scanned-none a b = record {
    sizes = (ap length a ∙ length-replicate 16 nowhere, ap length b ∙ length-replicate {A = ℕ} 16 0);
    each = λ i l. absurd (omega arith);
    rest = λ i l h. (
      ap (λ l. get_or l i 0) a ∙ get_or-replicate 16 i nowhere 0 h,
      ap (λ l. get_or l i 0) b ∙ get_or-replicate 16 i 0 0 h,
    );
    any = none-urgent (λ i l. absurd (omega arith));
  }

  -- an urgent cell of an input
  urgent-member : (i : ℕ) {k : ℕ} {l : List ℕ} → urgent_of (phase (ports_in table) all) i ≡ k ∷ l
      → (e : Waiting) × Memᴰ e (phase (ports_in table) all).urgent
  unfolding urgent_of of_input
  urgent-member i {k} e =
      let m : Memᴰ k (urgent_of (phase (ports_in table) all) i) = subst (Memᴰ k) (sym e) (mathlib.Core.List.Memᴰ.head refl) in
      let w = mathlib.Core.List.Memᴰ.of_map (λ e. e.at) (keep (λ e. eqb e.cell.input i) (phase (ports_in table) all).urgent) m in
      (w.0, mem-keep-in (λ e. eqb e.cell.input i) (phase (ports_in table) all).urgent w.1)

  some_more : (n u : ℕ) {b : Bool} → u < 2 ^ positions → numbers_at n u ≡ urgent_of (phase (ports_in table) all) n
      → SomeTo n b
      → SomeTo (n + 1) (b || not (eqb u 0))
  some_more n u fits e (some-urgent m) = some-urgent m
  some_more n u fits e (none-urgent h) = go (eqb u 0) refl
    where
      go : (b : Bool) → eqb u 0 ≡ b → SomeTo (n + 1) (not b)
      go true z = none-urgent (λ i l. nil i (compare i n) l)
        where
          nil : (i : ℕ) → Compared i n → i < n + 1 → urgent_of (phase (ports_in table) all) i ≡ []
          nil i (below c) l = h i c
          nil i (equal c) l =
              ap (urgent_of (phase (ports_in table) all)) c
              ∙ sym e
              ∙ ap (λ s. map (λ j. section_room * n + j) s) (ap members (eqb-true u 0 z) ∙ members-none)
          nil i (above c) l = absurd (omega arith)
      go false z =
          let some : 0 < u = omega (arith, eqb-false u 0 z) in
          some-urgent (urgent-member n (sym e ∙ ap (map (λ j. section_room * n + j)) (members-cons u some fits))).1

  -- what the walk found for the next input
  pub scanned-more : (n s u : ℕ) {scheduled urgent : List ℕ} {some : Bool} → n < 16 → Scanned table n s u
      → ScannedTo n scheduled urgent some
      → ScannedTo (n + 1) (set scheduled n s) (set urgent n u) (some || not (eqb u 0))
  scanned-more n s u {scheduled} {urgent} l f w = record {
    sizes = (length-set scheduled n s ∙ w.sizes.0, length-set urgent n u ∙ w.sizes.1);
    each = set_both (Scanned table) scheduled urgent n s u (omega (arith, w.sizes.0))
        (omega (arith, w.sizes.1)) w.each f;
    rest = λ i a b. (
      get_or-set_other scheduled n i s 0 (λ e. omega arith) ∙ (w.rest i (omega arith) b).0,
      get_or-set_other urgent n i u 0 (λ e. omega arith) ∙ (w.rest i (omega arith) b).1,
    );
    any = some_more n u f.fits f.urgent-are w.any;
  }

  module _ (r : Readable table) where
    -- an input that the switch does not have has no head
    heads-none : (input : ℕ) → ports_in table ≤ input → heads_of (ports_in table) all input ≡ []
    unfolding heads_of
    heads-none input l =
        ap (keep (is_head all)) (of_input-none table places r input l) ∙ keep-nil (is_head all)

    scanned-beyond : (input : ℕ) → ports_in table ≤ input → Scanned table input nowhere 0
    unfolding scheduled_of urgent_of
    scanned-beyond input l =
        let nil = heads-none input l in
        let none : keep (is_ready all) (heads_of (ports_in table) all input) ≡ [] =
        ap (keep (is_ready all)) nil ∙ keep-nil (is_ready all) in
        record {
          scheduled-is = sym (ap (λ l. number_of (first? l)) (scheduled-none (ports_in table) all input none) ∙ number_of-nil);
          fits = omega arith;
          urgent-are =
              ap (map (λ j. section_room * input + j)) members-none
              ∙ sym (ap (map (λ e. e.at))
              (of_input-urgent (ports_in table) all input ∙ ap (keep _) nil ∙ keep-nil _));
        }

    some-all : {n : ℕ} {b : Bool} → n ≡ ports_in table → SomeTo n b → b ≡ some_urgent (phase (ports_in table) all)
    unfolding some_urgent urgent_of of_input
    some-all e (some-urgent m) = sym (some?-i (λ e. true) m refl)
    some-all e (none-urgent h) =
        sym (some?-false (λ e. true) (phase (ports_in table) all).urgent
        (none?-i (λ e. true) (phase (ports_in table) all).urgent (λ x m. absurd (go x m))))
      where
        go : (x : Waiting) → Memᴰ x (phase (ports_in table) all).urgent → ⊥
        go x m =
            let t = urgent-all (ports_in table) all m in
            let nil =
            h x.cell.input
            (omega (arith, in_table-input table places r t, (in_table-e table places r t).1.input)) in
            mathlib.Core.List.Memᴰ.not-nil (subst (Memᴰ x.at) nil
            (mathlib.Core.List.Memᴰ.map (λ e. e.at)
            (keep-mem (λ e. eqb e.cell.input x.cell.input) m (eq-eqb x.cell.input x.cell.input refl))))

    -- all inputs
    pub scanned-all : {n : ℕ} {scheduled urgent : List ℕ} {some : Bool} → n ≡ ports_in table
        → ScannedTo n scheduled urgent some → ScannedAll table scheduled urgent some
    scanned-all {n} {scheduled} {urgent} e w = record {
      sizes = w.sizes;
      each = λ i l. go i l (compare i n);
      some_is = some-all e w.any;
    }
      where
        beyond : (i : ℕ) → n ≤ i → i < 16 → Scanned table i (get_or scheduled i 0) (get_or urgent i 0)
        beyond i l h = rw ((w.rest i l h).0, (w.rest i l h).1) (scanned-beyond i (omega arith))

        go : (i : ℕ) → i < 16 → Compared i n → Scanned table i (get_or scheduled i 0) (get_or urgent i 0)
        go i h (below c) = w.each i c
        go i h (equal c) = beyond i (omega arith) h
        go i h (above c) = beyond i (omega arith) h

    ------------------------------------------------------------------------
    -- the scheduled cell of an input

    ordered : (input : ℕ) → pairwise ahead (heads_of (ports_in table) all input) ≡ true
    ordered input = go (compare input (ports_in table))
      where
        beyond : ports_in table ≤ input → pairwise ahead (heads_of (ports_in table) all input) ≡ true
        beyond l = ap (pairwise ahead) (heads-none input l) ∙ pairwise-nil ahead

        go : Compared input (ports_in table) → pairwise ahead (heads_of (ports_in table) all input) ≡ true
        go (below l) = heads-ordered table input r l
        go (equal l) = beyond (omega arith)
        go (above l) = beyond (omega arith)

    -- there is one or none
    data Schedule (input : ℕ) : Type 0 where
      nothing : of_input input (phase (ports_in table) all).scheduled ≡ [] → Schedule input
      one : (s : Waiting) → of_input input (phase (ports_in table) all).scheduled ≡ s ∷ [] → Schedule input

    schedule : (input : ℕ) → Schedule input
    schedule input = go (keep (is_ready all) (heads_of (ports_in table) all input)) refl
      where
        go : (l : List Waiting) → keep (is_ready all) (heads_of (ports_in table) all input) ≡ l → Schedule input
        go [] e = nothing (scheduled-none (ports_in table) all input e)
        go (s ∷ l) e = one s (scheduled-first (ports_in table) all input (ordered input) e)

    scheduled_of-nothing : (input : ℕ) → of_input input (phase (ports_in table) all).scheduled ≡ []
        → scheduled_of (phase (ports_in table) all) input ≡ nowhere
    unfolding scheduled_of
    scheduled_of-nothing input h = ap (λ l. number_of (first? l)) h ∙ number_of-nil

    scheduled_of-one : (input : ℕ) (s : Waiting) → of_input input (phase (ports_in table) all).scheduled ≡ s ∷ []
        → scheduled_of (phase (ports_in table) all) input ≡ s.at
    unfolding scheduled_of
    scheduled_of-one input s h = ap (λ l. number_of (first? l)) h ∙ number_of-one s

    ------------------------------------------------------------------------
    -- whether it stands first in its list

    module _ (input : ℕ) (s : Waiting) (h : of_input input (phase (ports_in table) all).scheduled ≡ s ∷ []) where
      abbrev listed : ℕ
      listed = listed_set table places input

      is : Waiting → Bool
      is e = eqb e.cell.input input

      mine : Memᴰ s (of_input input (phase (ports_in table) all).scheduled)
      mine = subst (Memᴰ s) (sym h) (mathlib.Core.List.Memᴰ.head refl)

      s-listed : Memᴰ s (lists all)
      unfolding of_input is
      s-listed =
          head-listed all
          (scheduled-head (ports_in table) all (mem-keep-in is (phase (ports_in table) all).scheduled mine))

      s-input : s.cell.input ≡ input
      unfolding of_input is
      s-input = eqb-true _ _ (mem-keep-passes is (phase (ports_in table) all).scheduled mine)

      -- where a listed cell of the input stands
      record Stands (e : Waiting) : Type 0 where
        inside : InTable table e.at
        place : e.at ≡ section_room * input + e.at % section_room
        member : has listed (e.at % section_room) ≡ true

      stands : {e : Waiting} → Memᴰ e (lists all) → e.cell.input ≡ input → Stands e
      unfolding listed_set
      stands {e} m i =
          let w = in_table-e table places r (lists-all all m) in
          let own : e.at / section_room ≡ input = sym (in_table-input table places r (lists-all all m)) ∙ i in
          let place : e.at ≡ section_room * input + e.at % section_room = omega arith in
          let count : e.at < section_room * input + count_in table input =
          subst (λ i. e.at < section_room * i + count_in table i) own w.1.position in
          let byte : is_listed (place_of (get_or places e.at 0)) ≡ true =
          ap is_listed (sym (waiting_at-place table places e.at))
          ∙ ap (λ w. is_listed w.place) (sym w.0)
          ∙ lists-listed all m in
          record {
            inside = w.1;
            place = place;
            member = has-set_from _ (section_room * input) (count_in table input) (e.at % section_room)
                ∙ and_i _ _ (lt-ltb (e.at % section_room) (count_in table input) (omega arith))
                (subst (λ k. is_listed (place_of (get_or places k 0)) ≡ true) place byte);
          }

      -- a cell of the list
      listed-member : (j : ℕ) → has listed j ≡ true
          → Memᴰ (waiting_at table places (section_room * input + j)) (lists all) × (j < section_room)
      unfolding listed_set
      listed-member j t =
          let k = section_room * input + j in
          let both = sym (has-set_from _ (section_room * input) (count_in table input) j) ∙ t in
          let port : input < ports_in table =
          omega (
            arith,
            s-input,
            in_table-input table places r (lists-all all s-listed),
            (stands s-listed s-input).inside.input,
          ) in
          let few : count_in table input ≤ section_room = r.counts input (omega (arith, r.ports)) in
          let inside : j < count_in table input = ltb-true _ _ (and_l (ltb j (count_in table input)) _ both) in
          let own : k / section_room ≡ input = omega arith in (
            lists-i all
                (in_table-i table places r k (record {
                  input = omega arith;
                  position = subst (λ i. k < section_room * i + count_in table i) (sym own) (omega arith);
                }))
                (ap is_listed (waiting_at-place table places k) ∙ and_r (ltb j (count_in table input)) _ both),
            omega arith,
          )

      stands-first : none? (λ f. ahead f s) (lists all) ≡ eqb (first_of listed) (s.at % section_room)
      stands-first = same (none? (λ f. ahead f s) (lists all)) (eqb (first_of listed) (s.at % section_room)) out into
        where
          at : Stands s
          at = stands s-listed s-input

          out : none? (λ f. ahead f s) (lists all) ≡ true → eqb (first_of listed) (s.at % section_room) ≡ true
          out n =
              eq-eqb _ _ (first-is listed (s.at % section_room) (omega arith)
              (λ j l. by-fail (has listed j) (λ t. go j l (listed-member j t))) (λ l. at.member))
            where
              go : (j : ℕ) → j < s.at % section_room
                  → Memᴰ (waiting_at table places (section_room * input + j)) (lists all) × (j < section_room) → ⊥
              go j l (m, b) =
                  let k = section_room * input + j in
                  let own : k / section_room ≡ input = omega arith in
                  none?-clash (λ f. ahead f s) n m
                  (ahead-i (waiting_at table places k) s
                  (waiting_at-input table places k ∙ own ∙ sym s-input)
                  (omega (arith, waiting_at-at table places k, at.place)))

          into : eqb (first_of listed) (s.at % section_room) ≡ true → none? (λ f. ahead f s) (lists all) ≡ true
          into t = none?-i (λ f. ahead f s) (lists all) (λ f m. by-fail (ahead f s) (λ a. go f m a))
            where
              go : (f : Waiting) → Memᴰ f (lists all) → ahead f s ≡ true → ⊥
              go f m a =
                  let w = stands m (ahead-input f s a ∙ s-input) in
                  clash w.member
                  (first-before listed (f.at % section_room)
                  (omega (arith, eqb-true (first_of listed) (s.at % section_room) t, ahead-at f s a, w.place, at.place)))

      s-small : s.at < entry_limit
      s-small = in_table-below r (stands s-listed s-input).inside

      s-place : s.at ≡ section_room * input + s.at % section_room
      s-place = (stands s-listed s-input).place

    ------------------------------------------------------------------------
    -- the candidates of an input

    unique : (e f : Waiting) → Memᴰ e all → Memᴰ f all → e.at ≡ f.at → e ≡ f
    unique e f m k q =
        (in_table-e table places r m).0
        ∙ ap (waiting_at table places) q
        ∙ sym (in_table-e table places r k).0

    entered-candidates : (input : ℕ) {s u : ℕ} → some_urgent (phase (ports_in table) all) ≡ true → Scanned table input s u
        → numbers_at input (entered (listed_set table places input) s u) ≡ candidates_of (phase (ports_in table) all) input
    unfolding some_urgent entered
    entered-candidates input {s} {u} t f = go (schedule input)
      where
        some : Passing (λ e. true) (phase (ports_in table) all).urgent
        some = some?-e (λ e. true) (phase (ports_in table) all).urgent t

        go : Schedule input
            → numbers_at input (entered (listed_set table places input) s u)
            ≡ candidates_of (phase (ports_in table) all) input
        go (nothing h) =
            let none : nowhere ≤ s = omega (arith, f.scheduled-is, scheduled_of-nothing input h) in
            rw (le-leb nowhere s none)
            (f.urgent-are
            ∙ sym
            (candidates-urgent (ports_in table) all unique input some.1 (λ e m x. mathlib.Core.List.Memᴰ.not-nil (subst (Memᴰ e) h m))))
        go (one e h) = tested (eqb (first_of (listed_set table places input)) (s % section_room)) refl
          where
            number : s ≡ e.at
            number = f.scheduled-is ∙ scheduled_of-one input e h

            small : s < nowhere
            small = omega (arith, number, s-small input e h)

            first : none? (λ f. ahead f e) (lists all)
                ≡ eqb (first_of (listed_set table places input)) (s % section_room)
            first =
                stands-first input e h
                ∙ ap (λ n. eqb (first_of (listed_set table places input)) (n % section_room)) (sym number)

            tested : (b : Bool) → eqb (first_of (listed_set table places input)) (s % section_room) ≡ b
                → numbers_at input (entered (listed_set table places input) s u)
                ≡ candidates_of (phase (ports_in table) all) input
            tested true q =
                let place : section_room * input + s % section_room ≡ e.at = omega (arith, number, s-place input e h) in
                rw (lt-leb nowhere s small, q)
                (ap (map (λ j. section_room * input + j))
                (members-with 0 (s % section_room) (omega arith)
                (λ i m. absurd (mathlib.Core.List.Memᴰ.not-nil (subst (Memᴰ i) members-none m)))
                ∙ ap (λ l. l ++ ((s % section_room) ∷ [])) members-none)
                ∙ ap (λ k. k ∷ []) place
                ∙ sym (candidates-first (ports_in table) all unique input some.1 e h (first ∙ q)))
            tested false q =
                rw (lt-leb nowhere s small, q)
                (f.urgent-are
                ∙ sym (candidates-urgent (ports_in table) all unique input some.1 (λ x m y.
                clash
                (subst (λ x. none? (λ f. ahead f x) (lists all) ≡ true)
                (mathlib.Core.List.Memᴰ.eq_of_singleton (subst (Memᴰ x) h m)) y)
                (first ∙ q))))

    -- where no cell is urgent, the urgent cells are matched: none
    none-candidates : (input : ℕ) → some_urgent (phase (ports_in table) all) ≡ false
        → urgent_of (phase (ports_in table) all) input ≡ candidates_of (phase (ports_in table) all) input
    unfolding some_urgent urgent_of of_input
    none-candidates input f = go (phase (ports_in table) all).urgent refl
      where
        go : (us : List Waiting) → (phase (ports_in table) all).urgent ≡ us
            → urgent_of (phase (ports_in table) all) input ≡ candidates_of (phase (ports_in table) all) input
        go (u ∷ us) e = absurd (clash (some?-i (λ e. true) (subst (Memᴰ u) (sym e) (mathlib.Core.List.Memᴰ.head refl)) refl) f)
        go [] e =
            ap (λ l. map (λ e. e.at) (keep (λ e. eqb e.cell.input input) l)) e
            ∙ ap (map (λ e. e.at)) (keep-nil (λ e. eqb e.cell.input input))
            ∙ sym (candidates-none (ports_in table) all input e)

    ------------------------------------------------------------------------
    -- all of it

    module _ {cross : List (List ℕ)} {best scheduled urgent : List ℕ}
        {some : Bool} (bests : Bests table cross best) (scanned : ScannedAll table scheduled urgent some) where
      chosen : {candidates : List ℕ} → length candidates ≡ 16
          → ((i : ℕ) → i < 16 → numbers_at i (get_or candidates i 0) ≡ candidates_of (phase (ports_in table) all) i)
          → Chosen table cross some scheduled candidates best
      chosen size each = record {
        urgent-is = scanned.some_is;
        scheduled-size = scanned.sizes.0;
        schedules = record { at = λ i l. (scanned.each i l).scheduled-is };
        candidates-size = size;
        candidates-are = each;
        bests = bests;
      }

      -- no cell is urgent
      pub chosen_none : some ≡ false → Chosen table cross some scheduled urgent best
      chosen_none f =
          chosen scanned.sizes.1
          (λ i l. (scanned.each i l).urgent-are ∙ none-candidates i (sym scanned.some_is ∙ f))

      -- some cell is
      pub chosen-some : {listed heads candidates : List ℕ} → ListsOf table places listed heads → some ≡ true
          → Entered listed scheduled urgent 16 candidates → Chosen table cross some scheduled candidates best
      chosen-some lists t e =
          chosen e.size
          (λ i l.
          ap (numbers_at i)
          (e.done i l ∙ ap (λ s. entered s (get_or scheduled i 0) (get_or urgent i 0)) (lists.listed-at i l))
          ∙ entered-candidates i (sym scanned.some_is ∙ t) (scanned.each i l))
