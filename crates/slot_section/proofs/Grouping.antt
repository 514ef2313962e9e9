-- Whether the cells of each flow stand together in output priority, and which are the first of their flow, found by a
-- walk from the first listed entry on.
use Prim.Native.Nat.{ℕ, ◌+◌, ◌/◌, ◌%◌, ◌^◌, ◌≤◌, ◌<◌}
use mathlib.Core.Bool.{Bool, true, false, cond, not, ◌&&◌, ◌||◌, or-false, and-true}
use mathlib.Core.Path.{◌≡◌, refl, sym, ◌∙◌, ap, ap₂, subst}
use mathlib.Core.List.{List, [], ◌∷◌, ◌++◌, map-append, Memᴰ}
use mathlib.Core.Logic.{◌⊎◌, inl, inr}
use native.Mathlib.Omega.{arith}
use borrow.Author.Tests.{eqb-true, eq-eqb, ne_eqb, ltb-true, ltb-false, le-leb, lt-leb}
use lib.Dec.{eqb, ltb, leb}
use lib.ListN.{length, get_or, set}
use Rattle.laws.specs.Lists.{some?, none?, all?, pairwise, up_to, numbers_from}
use Rattle.laws.proofs.Tests.{eqb-turned, either, clash, by-fail, same, and_i, and_l, and_r, and_false_r, not-or}
use Rattle.laws.proofs.Lists.{some?-i, some?-ext, some?-append, none?-e, none?-false, none?-append, none?-not-some?}
use Rattle.laws.proofs.Lists.{none?-i, none?-clash, none?-map, all?-i, all?-e, all?-map}
use Rattle.laws.proofs.Pairwise.{pairwise-split}
use Rattle.laws.proofs.Numbers.{numbers_from-mem, mem-numbers_from}
use Rattle.sets.specs.Sets.{positions, has, members, first_of}
use Rattle.sets.proofs.Digits.{has-past}
use Rattle.sets.proofs.Members.{Visited, visited-start, visited-cons, visited-next, visited-member, visited-end, in_members}
use Rattle.sets.proofs.Members.{members-in, members-rising, first-before, first-position, first_member, set_of-is}
use Rattle.sets.proofs.Members.{has-with_one, with_one-lt, has-without_one}
use Rattle.sets.specs.Code.{with_one, rest_of}
use Rattle.cell.specs.Flow.{same_flow}
use Rattle.cell.specs.Limits.{section_room, fits32}
use Rattle.cell.specs.Order.{over, key}
use Rattle.cell.proofs.Flow.{flow-i, flow-e, flow-sym, flow-trans}
use Rattle.cell.proofs.Keys.{over-key-input}
use Rattle.model.specs.State.{Entry}
use Rattle.model.specs.Sound.{together}
use Rattle.layout.specs.Entry.{entry_at}
use Rattle.layout.specs.Table.{table_size, entry_limit}
use Rattle.layout.specs.Code.{record_start}
use Rattle.slot_section.specs.Code.{in_range, entries_in, breaks_flow, MarksBelow, is_first_of_flow, heads_in}
use Rattle.layout_table.specs.CodeEntries.{flow_number}
use Rattle.layout.proofs.Records.{entry_at-input, entry_at-slot}
use Rattle.layout.proofs.Number.{bytes?, word_fits, fits32-below}
use Rattle.slot_section.proofs.Marks.{Marked, marked-none, marked-one}
use Rattle.slot_section.proofs.Walks.{in_range-e, entries_at, entries_at-more}

------------------------------------------------------------------------
-- together, with one entry more at the end

-- of the same flow
abbrev pub of_flow : Entry → Entry → Bool
of_flow e g = same_flow e.cell g.cell

-- e may stand behind l, of which f is the last: f is of its flow and goes before it, or none of l is of its flow
joins : ℕ → Entry → Entry → List Entry → Bool
joins ports f e l = cond (of_flow f e) (over ports f.cell e.cell) (none? (λ x. of_flow x e) l)

module _ (ports : ℕ) (x y f e : Entry) (r : List Entry) (last : Memᴰ f (y ∷ r)) where
  -- one of x's flow right behind it: where e is of that flow, so is one of those between
  follows-some : (of_flow x y && over ports x.cell y.cell) ≡ true → of_flow x e ≡ true
      → none? (λ g. of_flow g e) (y ∷ r) ≡ false
  follows-some h t =
      none?-false (λ g. of_flow g e) (y ∷ r)
      (some?-i (λ g. of_flow g e) (mathlib.Core.List.Memᴰ.head refl)
      (flow-trans y.cell x.cell e.cell
      (flow-sym x.cell y.cell (and_l (of_flow x y) (over ports x.cell y.cell) h)) t))

  -- none of x's flow behind it: where e is of that flow, the last is not of e's
  none_last : none? (of_flow x) (y ∷ r) ≡ true → of_flow x e ≡ true → of_flow f e ≡ false
  none_last h t =
      by-fail (of_flow f e) (λ s.
      clash (flow-trans x.cell e.cell f.cell t (flow-sym f.cell e.cell s)) (none?-e (of_flow x) h last))

  together-more : together ports ((y ∷ r) ++ (e ∷ [])) ≡ (together ports (y ∷ r) && joins ports f e (y ∷ r))
      → together ports (x ∷ (y ∷ r) ++ (e ∷ [])) ≡ (together ports (x ∷ y ∷ r) && joins ports f e (x ∷ y ∷ r))
  unfolding together none? joins
  together-more rec =
      ap₂ (λ a b. ((of_flow x y && over ports x.cell y.cell) || a) && b)
      (none?-append (of_flow x) (y ∷ r) (e ∷ [])) rec
      ∙ go (of_flow x y && over ports x.cell y.cell) (none? (of_flow x) (y ∷ r)) (of_flow x e)
      (together ports (y ∷ r))
      (of_flow f e) (over ports f.cell e.cell) (none? (λ g. of_flow g e) (y ∷ r)) follows-some none_last
    where
      go : (follows none this t same first others : Bool) → (follows ≡ true → this ≡ true → others ≡ false)
          → (none ≡ true → this ≡ true → same ≡ false)
          → ((follows || (none && (not this && true))) && (t && cond same first others))
          ≡ (((follows || none) && t) && cond same first (not this && others))
      go true none true t same first others h k = ap (λ n. t && cond same first n) (h refl refl)
      go true none false t same first others h k = refl
      go false true true t same first others h k =
          sym (ap (λ s. t && cond s first false) (k refl refl) ∙ and_false_r t false refl)
      go false true false t same first others h k = refl
      go false false this t same first others h k = refl

together-snoc : (ports : ℕ) (p : List Entry) (f e : Entry)
    → together ports ((p ++ (f ∷ [])) ++ (e ∷ [])) ≡ (together ports (p ++ (f ∷ [])) && joins ports f e (p ++ (f ∷ [])))
unfolding together none? joins
together-snoc ports [] f e = go (of_flow f e) (over ports f.cell e.cell)
  where
    go : (s o : Bool) → (((s && o) || (not s && true)) && true) ≡ (true && cond s o (not s && true))
    go true true = refl
    go true false = refl
    go false o = refl
together-snoc ports (x ∷ []) f e = together-more ports x f f e [] (mathlib.Core.List.Memᴰ.head refl) (together-snoc ports [] f e)
together-snoc ports (x ∷ z ∷ q) f e =
    together-more ports x z f e (q ++ (f ∷ [])) (mathlib.Core.List.Memᴰ.append_right (z ∷ q) (mathlib.Core.List.Memᴰ.head refl))
    (together-snoc ports (z ∷ q) f e)

------------------------------------------------------------------------
-- the flows of an input by number

-- an entry of the flow of this number
pub flow_is : ℕ → Entry → Bool
flow_is n e = eqb (flow_number e) n

-- an entry of a section: its fields are in range, and it is of the section's input
pub record Good (first : ℕ) (e : Entry) : Type 0 where
  pub range : in_range e ≡ true
  pub input : e.cell.input ≡ first / 64
  pub slot : e.cell.slot < 2 ^ 32

-- the entries at positions of a section, where all are in range
pub section-good : (bs : List ℕ) → bytes? bs ≡ true → length bs ≡ table_size → (first chosen : ℕ)
    → first + section_room ≤ entry_limit → ◌≡◌ {A = ℕ} (first % section_room) 0
    → all? in_range (entries_in bs first chosen) ≡ true
    → (g : Entry) → Memᴰ g (entries_in bs first chosen) → Good first g
unfolding entries_in
section-good bs bytes size first chosen room start ranges g m =
    let inputs =
    all (λ e. eqb e.cell.input (first / 64))
    (λ j h. eq-eqb _ (first / 64) (entry_at-input bs (first + j) ∙ omega arith)) in
    let slots =
    all (λ e. fits32 e.cell.slot)
    (λ j h. ap fits32 (entry_at-slot bs (first + j))
    ∙ word_fits bs (record_start (first + j) + 12) bytes (omega arith)) in
    record {
      range = all?-e in_range ranges m;
      input = eqb-true g.cell.input (first / 64) (all?-e (λ e. eqb e.cell.input (first / 64)) inputs m);
      slot = fits32-below g.cell.slot (all?-e (λ e. fits32 e.cell.slot) slots m);
    }
  where
    all : (p : Entry → Bool) → ((j : ℕ) → j < positions → p (entry_at bs (first + j)) ≡ true)
        → all? p (entries_in bs first chosen) ≡ true
    all p each =
        all?-map p (λ j. entry_at bs (first + j)) (members chosen)
        ∙ all?-i (λ j. p (entry_at bs (first + j))) (members chosen) (λ j i. each j (in_members chosen i).0)

module _ {first : ℕ} {e g : Entry} (he : Good first e) (hg : Good first g) where
  flow-number : of_flow e g ≡ eqb (flow_number e) (flow_number g)
  flow-number =
      same (of_flow e g) (eqb (flow_number e) (flow_number g))
      (λ t.
      let f = flow-e e.cell g.cell t in
      eq-eqb (flow_number e) (flow_number g) (omega (arith, f.output, f.flow)))
      (λ t.
      let be = in_range-e e he.range in
      let bg = in_range-e g hg.range in
      let number : flow_number e ≡ flow_number g = eqb-true (flow_number e) (flow_number g) t in
      flow-i (record { input = he.input ∙ sym hg.input; output = omega arith; flow = omega arith }))

  -- which goes first, by key
  key-first : (ports : ℕ) → over ports e.cell g.cell ≡ not (leb (key g.cell) (key e.cell))
  key-first ports =
      over-key-input ports e.cell g.cell he.slot hg.slot (he.input ∙ sym hg.input)
      ∙ turned (key e.cell) (key g.cell) (either (ltb (key e.cell) (key g.cell)))
    where
      turned : (m n : ℕ) → (ltb m n ≡ true) ⊎ (ltb m n ≡ false) → ltb m n ≡ not (leb n m)
      turned m n (inl t) = t ∙ ap not (sym (lt-leb n m (ltb-true m n t)))
      turned m n (inr t) = t ∙ ap not (sym (le-leb n m (ltb-false m n t)))

------------------------------------------------------------------------
-- the first of each flow

-- those of a set that were passed are its members before the first of those left
passed_none : (q : ℕ → Bool) (set : ℕ) (passed : List ℕ) (left : ℕ) → Visited set passed left → 0 < left
    → none? q passed ≡ none? (λ a. has set a && q a) (up_to (first_of left))
unfolding up_to
passed_none q set passed left v some =
    let position = first-position left some v.fits in
    same (none? q passed) (none? (λ a. has set a && q a) (numbers_from 0 (first_of left)))
    (λ none.
    none?-i (λ a. has set a && q a) (numbers_from 0 (first_of left))
    (λ a m. by-fail _ (λ t.
    let early = mem-numbers_from 0 (first_of left) m in
    go a none (and_r (has set a) (q a) t) (omega arith)
    (mathlib.Core.List.Memᴰ.append_cases passed
    (subst (Memᴰ a) v.split (members-in set a (omega arith) (and_l (has set a) (q a) t)))))))
    (λ none.
    none?-i q passed
    (λ a m. by-fail _ (λ t.
    let member = in_members set (subst (Memᴰ a) (sym v.split) (mathlib.Core.List.Memᴰ.append_left (members left) m)) in
    let before =
    pairwise-split ltb m (members-in left (first_of left) position (first_member left some v.fits))
    (ap (pairwise ltb) (sym v.split) ∙ members-rising set) in
    none?-clash (λ a. has set a && q a) none
    (numbers_from-mem 0 (first_of left) (omega arith) (omega (arith, ltb-true a (first_of left) before)))
    (and_i (has set a) (q a) member.1 t))))
  where
    go : (a : ℕ) → none? q passed ≡ true → q a ≡ true → a < first_of left
        → Memᴰ a passed ⊎ Memᴰ a (members left) → ⊥
    go a none t early (inl m) = none?-clash q none m t
    go a none t early (inr m) = clash (in_members left m).1 (first-before left a early)

------------------------------------------------------------------------
-- the walk

-- the number of the last entry's flow and its key, where there is one
pub data Ends (l : List Entry) (flow number : ℕ) : Type 0 where
  none : l ≡ [] → flow ≡ 128 → Ends l flow number
  last : (p : List Entry) (f : Entry) → l ≡ p ++ (f ∷ []) → flow ≡ flow_number f → number ≡ key f.cell
      → Ends l flow number

-- the entries passed stand together unless `broken`, the first of each flow are among `heads`, their flows are marked,
-- and the last of them is known
pub record Flows (bs : List ℕ) (first set mark : ℕ) (marks : List ℕ) (broken : Bool) (heads flow number left : ℕ)
    : Type 0 where
  pub passed : List ℕ
  pub visited : Visited set passed left
  pub stand : (ports : ℕ) → not broken ≡ together ports (entries_at bs first passed)
  pub few : heads < 2 ^ positions
  pub gathered : (j : ℕ) → j < positions → has heads j ≡ (not (has left j) && is_first_of_flow bs first set j)
  pub marked : Marked mark marks (λ n. some? (flow_is n) (entries_at bs first passed))
  pub ends : Ends (entries_at bs first passed) flow number

module _ (bs : List ℕ) (first chosen mark : ℕ) (marks : List ℕ) where
  pub flows-start : chosen < 2 ^ positions → MarksBelow mark marks → (number : ℕ)
      → Flows bs first chosen mark marks false 0 128 number chosen
  unfolding together some? is_first_of_flow
  flows-start fits below number =
      record {
        passed = [];
        visited = visited-start chosen fits;
        stand = λ ports. refl;
        few = omega arith;
        gathered = λ j h. has-past 0 0 j (omega arith) (omega arith) ∙ nothing (has chosen j) _;
        marked = marked-none mark marks (λ n. some? (flow_is n) []) below (λ n. refl);
        ends = none refl refl;
      }
    where
      nothing : (a b : Bool) → false ≡ (not a && (a && b))
      nothing true b = refl
      nothing false b = refl

  module _ (broken : Bool) (heads flow number left : ℕ)
      (w : Flows bs first chosen mark marks broken heads flow number left) where
    pub flows-end : left ≡ 0 → (ports : ℕ) → not broken ≡ together ports (entries_in bs first chosen)
    unfolding entries_in
    flows-end done ports =
        w.stand ports ∙ ap (λ js. together ports (entries_at bs first js)) (sym (visited-end w.visited done))

    pub flows-heads : left ≡ 0 → heads ≡ heads_in bs first chosen
    unfolding heads_in
    flows-heads done =
        set_of-is (is_first_of_flow bs first chosen) heads w.few
        (λ j h. w.gathered j h
        ∙ ap (λ b. not b && is_first_of_flow bs first chosen j)
        (ap (λ s. has s j) done ∙ has-past 0 0 j (omega arith) (omega arith)))

    -- the entry at hand
    module _ (some : 0 < left) (good : (g : Entry) → Memᴰ g (entries_in bs first chosen) → Good first g) where
      abbrev this : Entry
      this = entry_at bs (first + first_of left)

      abbrev before : List Entry
      before = entries_at bs first w.passed

      whole : entries_in bs first chosen ≡ before ++ (this ∷ entries_at bs first (members (rest_of left)))
      unfolding entries_in
      whole =
          ap (entries_at bs first) (visited-cons w.visited some)
          ∙ map-append (λ j. entry_at bs (first + j)) w.passed (first_of left ∷ members (rest_of left))

      pub this-good : Good first this
      this-good = good this (subst (Memᴰ this) (sym whole) (mathlib.Core.List.Memᴰ.append_right before (mathlib.Core.List.Memᴰ.head refl)))

      before-good : {g : Entry} → Memᴰ g before → Good first g
      before-good {g} m =
          good g
          (subst (Memᴰ g) (sym whole)
          (mathlib.Core.List.Memᴰ.append_left (this ∷ entries_at bs first (members (rest_of left))) m))

      module _ (n k : ℕ) (is : n ≡ flow_number this) (few : n < 128) (keyed : k ≡ key this.cell) where
        -- the mark says whether one before is of its flow
        met : eqb (get_or marks n 0) mark ≡ some? (λ x. of_flow x this) before
        unfolding flow_is
        met =
            w.marked.each n (omega arith)
            ∙ some?-ext (flow_is n) (λ x. of_flow x this) before
            (λ x m. ap (eqb (flow_number x)) is ∙ sym (flow-number (before-good m) this-good))

        fits-behind : (ports : ℕ)
            → (not broken && not (breaks_flow (eqb n flow) (leb k number) (eqb (get_or marks n 0) mark)))
            ≡ together ports (before ++ (this ∷ []))
        unfolding breaks_flow together some? joins
        fits-behind ports = go w.ends
          where
            split : (same early met : Bool) → not (cond same early met) ≡ cond same (not early) (not met)
            split true early met = refl
            split false early met = refl

            go : Ends before flow number
                → (not broken && not (breaks_flow (eqb n flow) (leb k number) (eqb (get_or marks n 0) mark)))
                ≡ together ports (before ++ (this ∷ []))
            go (none empty start) =
                let other : eqb n flow ≡ false = ne_eqb n flow (λ e. omega arith) in
                ap₂ (λ b t. b && not t) (w.stand ports ∙ ap (together ports) empty)
                (ap (λ s. breaks_flow s (leb k number) (eqb (get_or marks n 0) mark)) other
                ∙ met
                ∙ ap (some? (λ x. of_flow x this)) empty)
                ∙ sym (ap (λ l. together ports (l ++ (this ∷ []))) empty)
            go (last p f is_last flow-is number_is) =
                let here : Memᴰ f before =
                subst (Memᴰ f) (sym is_last) (mathlib.Core.List.Memᴰ.append_right p (mathlib.Core.List.Memᴰ.head refl)) in
                let hf = before-good here in
                let flows : eqb n flow ≡ of_flow f this =
                ap₂ eqb is flow-is ∙ eqb-turned (flow_number this) (flow_number f) ∙ sym (flow-number hf this-good) in
                let order : not (leb k number) ≡ over ports f.cell this.cell =
                ap₂ (λ x y. not (leb x y)) keyed number_is ∙ sym (key-first hf this-good ports) in
                let others : not (eqb (get_or marks n 0) mark) ≡ none? (λ x. of_flow x this) before =
                ap not met ∙ sym (none?-not-some? (λ x. of_flow x this) before) in
                ap₂ ◌&&◌ (w.stand ports)
                (split (eqb n flow) (leb k number) (eqb (get_or marks n 0) mark)
                ∙ ap (λ s. cond s (not (leb k number)) (not (eqb (get_or marks n 0) mark))) flows
                ∙ ap₂ (λ o m. cond (of_flow f this) o m) order others)
                ∙ sym
                (ap (λ l. together ports (l ++ (this ∷ []))) is_last
                ∙ together-snoc ports p f this
                ∙ ap (λ l. together ports l && joins ports f this l) (sym is_last))

        -- it is a head unless its flow was met
        head : is_first_of_flow bs first chosen (first_of left) ≡ not (eqb (get_or marks n 0) mark)
        unfolding is_first_of_flow
        head =
            ap (λ b. b && none? (λ a. has chosen a && of_flow (entry_at bs (first + a)) this) (up_to (first_of left)))
            (in_members chosen (visited-member w.visited some)).1
            ∙ sym (passed_none (λ a. of_flow (entry_at bs (first + a)) this) chosen w.passed left w.visited some)
            ∙ sym (none?-map (λ x. of_flow x this) (λ a. entry_at bs (first + a)) w.passed)
            ∙ none?-not-some? (λ x. of_flow x this) before
            ∙ ap not (sym met)

        heads-next : (new : Bool) → is_first_of_flow bs first chosen (first_of left) ≡ new → (j : ℕ) → j < positions
            → has (cond new (with_one heads (first_of left)) heads) j
            ≡ (not (has (rest_of left) j) && is_first_of_flow bs first chosen j)
        unfolding rest_of
        heads-next new is-head j h =
            with-if new
            ∙ ap (λ b. b || (eqb j (first_of left) && new)) (w.gathered j h)
            ∙ go (eqb j (first_of left)) (has left j) (is_first_of_flow bs first chosen j) new
            (λ t. ap (has left) (eqb-true j (first_of left) t) ∙ first_member left some w.visited.fits)
            (λ t. ap (is_first_of_flow bs first chosen) (eqb-true j (first_of left) t) ∙ is-head)
            ∙ ap (λ b. not b && is_first_of_flow bs first chosen j) (sym (has-without_one left (first_of left) j h))
          where
            with-if : (b : Bool)
                → has (cond b (with_one heads (first_of left)) heads) j ≡ (has heads j || (eqb j (first_of left) && b))
            with-if true =
                has-with_one heads (first_of left) j h
                ∙ ap (λ b. has heads j || b) (sym (and-true (eqb j (first_of left))))
            with-if false =
                sym
                (ap (λ b. has heads j || b) (and_false_r (eqb j (first_of left)) false refl) ∙ or-false (has heads j))

            go : (here old it new : Bool) → (here ≡ true → old ≡ true) → (here ≡ true → it ≡ new)
                → ((not old && it) || (here && new)) ≡ (not (old && not here) && it)
            go true true it new o i = sym (i refl)
            go true false it new o i = absurd (clash (o refl) refl)
            go false true it new o i = refl
            go false false it new o i = or-false it

        heads-few : (new : Bool) → cond new (with_one heads (first_of left)) heads < 2 ^ positions
        heads-few true = with_one-lt heads (first_of left)
        heads-few false = w.few

        pub flows-next : Flows bs first chosen mark (set marks n mark)
            (broken || breaks_flow (eqb n flow) (leb k number) (eqb (get_or marks n 0) mark))
            (cond (not (eqb (get_or marks n 0) mark)) (with_one heads (first_of left)) heads) n k (rest_of left)
        unfolding flow_is some?
        flows-next =
            let more = entries_at-more bs first w.passed (first_of left) in
            record {
              passed = w.passed ++ (first_of left ∷ []);
              visited = visited-next w.visited some;
              stand = λ ports. not-or broken _ ∙ fits-behind ports ∙ ap (together ports) (sym more);
              few = heads-few (not (eqb (get_or marks n 0) mark));
              gathered = heads-next (not (eqb (get_or marks n 0) mark)) head;
              marked =
                  marked-one w.marked n (omega arith)
                  (λ m. some? (flow_is m) (entries_at bs first (w.passed ++ (first_of left ∷ []))))
                  (λ m. ap (some? (flow_is m)) more
                  ∙ some?-append (flow_is m) before (this ∷ [])
                  ∙ ap (λ b. some? (flow_is m) before || b)
                  (or-false _ ∙ ap (λ f. eqb f m) (sym is) ∙ eqb-turned n m));
              ends = last before this more is keyed;
            }
