-- The walk along the heads of an input, as a loop: what holds when some positions are left, and what it has found at
-- the end.
--     heads-here, cell-here, heads-ordered      the heads of an input are those of its set
--     early-, scheduled-                        up to the first ready head, and that it is scheduled
--     walked-                                   along all heads, and what is found at the end
use Prim.Native.Nat.{ℕ, ◌+◌, ◌*◌, ◌/◌, ◌<◌, ◌≤◌, ◌^◌}
use native.Mathlib.Omega.{arith}
use mathlib.Core.Bool.{Bool, true, false, cond, ◌&&◌}
use mathlib.Core.Path.{◌≡◌, refl, sym, ◌∙◌, ap, ap₂, subst}
use mathlib.Core.List.{List, [], ◌∷◌, ◌++◌, map, map-map, map-append, append-nil, Memᴰ}
use borrow.Author.Tests.{ltb-true, lt-ltb, le-ltb}
use lib.Count.{count_trailing_zeros}
use lib.Dec.{ltb}
use Rattle.laws.specs.Lists.{keep, pairwise, first?, numbers_from}
use Rattle.laws.proofs.Tests.{and_l, and_r, cond-pass, cond-fail}
use Rattle.laws.proofs.Lists.{keep-nil, keep-pass, keep-fail, keep_append, keep-map, mem-keep-in}
use Rattle.laws.proofs.Pairwise.{pairwise-keep, pairwise-split}
use Rattle.sets.specs.Sets.{positions, members, first_of}
use Rattle.sets.proofs.Members.{has-set_from, members-none, in_members, members-rising, members-set_from}
use Rattle.sets.proofs.Members.{Visited, visited-start, visited-cons, visited-next, visited-member, visited-end}
use Rattle.sets.proofs.Members.{members-with, with_one-lt, first-trailing}
use Rattle.sets.specs.Code.{with_one, rest_of}
use Rattle.cell.specs.Limits.{section_room}
use Rattle.model.specs.Phase.{Waiting, ahead, crosspoint_empty, is_urgent, phase, crosspoints}
use Rattle.layout.specs.Entry.{count_in}
use Rattle.layout.specs.Code.{ports_in}
use Rattle.layout_table.specs.CodeEntries.{nowhere}
use Rattle.slot_view.specs.CodeView.{places_in, waiting_in, waiting_at, window}
use Rattle.slot_view.specs.CodeChoices.{number_of, scheduled_of, of_input}
use Rattle.slot_view.specs.CodeScan.{Readable}
use Rattle.slot_view.specs.CodeViewed.{is_head, head_set}
use Rattle.slot_view.proofs.Window.{waiting_at-at, waiting_at-input, window-ordered, of_input-window}
use Rattle.slot_leaders.proofs.Best.{number_of-nil, number_of-one}
use Rattle.slot_choice.specs.CodeWalk.{CellAt, cell_at, scheduled_at, Scanned, urgent_of}
use Rattle.slot_choice.proofs.Scans.{is_ready, heads_of, of_input-urgent, scheduled-none, scheduled-first}
use Rattle.slot_choice.proofs.Scans.{urgent-known, urgent-early}

------------------------------------------------------------------------
-- the heads of an input

module _ (table : List ℕ) (input : ℕ) where
  abbrev all : List Waiting
  all = waiting_in table

  -- the cell at a position, and the positions of the heads
  abbrev here : ℕ → Waiting
  here j = cell_at table input j

  abbrev heads : ℕ
  heads = head_set table (places_in table) input

  abbrev ready : ℕ → Bool
  ready j = is_ready all (here j)

  -- whether it is urgent
  abbrev urgent_here : ℕ → Bool
  urgent_here j = is_urgent (ports_in table) (crosspoints all) (phase (ports_in table) all).scheduled (here j)

  -- the positions of the urgent heads among those passed are gathered
  pub record Walked (urgent left : ℕ) : Type 0 where
    pub passed : List ℕ
    pub visited : Visited heads passed left
    pub urgents : members urgent ≡ keep urgent_here passed
    pub fits : urgent < 2 ^ positions

  -- and none of them was ready
  pub record Early (urgent left : ℕ) : Type 0 where
    pub walked : Walked urgent left
    pub none : keep ready walked.passed ≡ []

  pub early-start : heads < 2 ^ positions → Early 0 heads
  early-start fits = record {
    walked = record {
      passed = [];
      visited = visited-start heads fits;
      urgents = members-none ∙ sym (keep-nil urgent_here);
      fits = omega arith;
    };
    none = keep-nil ready;
  }

  module _ (r : Readable table) (port : input < ports_in table) where
    few : count_in table input ≤ section_room
    few = r.counts input (omega (arith, r.ports))

    heads-here : heads_of (ports_in table) all input ≡ map here (members heads)
    unfolding heads_of head_set window
    heads-here =
        ap (keep (is_head all)) (of_input-window table (places_in table) r input port)
        ∙ keep-map (is_head all) at numbers
        ∙ ap (map at) (sym (members-set_from (λ k. is_head all (at k)) (section_room * input) (count_in table input) few))
        ∙ map-map at (λ j. section_room * input + j) (members heads)
      where
        at : ℕ → Waiting
        at = waiting_at table (places_in table)

        numbers : List ℕ
        numbers = numbers_from (section_room * input) (count_in table input)

    cell-here : {j : ℕ} → Memᴰ j (members heads) → CellAt table input j × (is_head all (here j) ≡ true)
    unfolding head_set
    cell-here {j} m =
        let k = section_room * input + j in
        let w = in_members heads m in
        let both =
        sym (has-set_from (λ k. is_head all (waiting_at table (places_in table) k)) (section_room * input) (count_in table input) j)
        ∙ w.1 in
        let inside : j < count_in table input = ltb-true _ _ (and_l (ltb j (count_in table input)) _ both) in
        let own : k / section_room ≡ input = omega (arith, w.0) in (
          record {
            small = w.0;
            inside = record {
              input = omega (arith, own);
              position = subst (λ i. k < section_room * i + count_in table i) (sym own) (omega arith);
            };
          },
          and_r (ltb j (count_in table input)) _ both,
        )

    pub heads-ordered : pairwise ahead (heads_of (ports_in table) all input) ≡ true
    unfolding heads_of
    heads-ordered =
        pairwise-keep ahead (is_head all) (of_input input all)
        (ap (pairwise ahead) (of_input-window table (places_in table) r input port)
        ∙ window-ordered table (places_in table) input (count_in table input) few)

    ------------------------------------------------------------------------
    -- the walk

    -- the numbers of the cells at some positions
    numbers-here : (l : List ℕ) → map (λ e. e.at) (map here l) ≡ map (λ j. section_room * input + j) l
    unfolding waiting_at
    numbers-here l = map-map (λ e. e.at) here l

    -- the scheduled cell of the input stands at a position, or at none
    abbrev pub ScheduledAt : ℕ → Type 0
    ScheduledAt position = of_input input (phase (ports_in table) all).scheduled ≡ scheduled_at table input position

    module _ {urgent left : ℕ} (w : Walked urgent left) where
      -- at the end
      module _ (z : left ≡ 0) where
        gathered : map (λ j. section_room * input + j) (members urgent) ≡ urgent_of (phase (ports_in table) all) input
        unfolding urgent_of
        gathered =
            sym (ap (map (λ e. e.at))
            (of_input-urgent (ports_in table) all input
            ∙ ap (keep test) (heads-here ∙ ap (map here) (visited-end w.visited z))
            ∙ keep-map test here w.passed)
            ∙ numbers-here (keep urgent_here w.passed)
            ∙ ap (map (λ j. section_room * input + j)) (sym w.urgents))
          where
            test : Waiting → Bool
            test = is_urgent (ports_in table) (crosspoints all) (phase (ports_in table) all).scheduled

        pub walked_one : (s : ℕ) → ScheduledAt s → s < section_room → Scanned table input (section_room * input + s) urgent
        unfolding scheduled_of scheduled_at
        walked_one s known l = record {
          scheduled-is =
              sym (ap (λ l. number_of (first? l)) (known ∙ cond-pass (ltb s section_room) (here s ∷ []) [] (lt-ltb s section_room l))
              ∙ number_of-one (here s)
              ∙ waiting_at-at table (places_in table) (section_room * input + s));
          fits = w.fits;
          urgent-are = gathered;
        }

        pub walked_none : (s : ℕ) → ScheduledAt s → section_room ≤ s → Scanned table input nowhere urgent
        unfolding scheduled_of scheduled_at
        walked_none s known l = record {
          scheduled-is =
              sym (ap (λ l. number_of (first? l)) (known ∙ cond-fail (ltb s section_room) (here s ∷ []) [] (le-ltb s section_room l))
              ∙ number_of-nil);
          fits = w.fits;
          urgent-are = gathered;
        }

      -- at the next head
      module _ (some : 0 < left) where
        abbrev next : ℕ
        next = first_of left

        member : Memᴰ next (members heads)
        member = visited-member w.visited some

        pub walked-cell : CellAt table input next
        walked-cell = (cell-here member).0

        -- it is urgent by a scheduled cell that is known
        pub walked-known : (s : ℕ) → ScheduledAt s
            → is_urgent (ports_in table) (crosspoints all) (scheduled_at table input s) (here next) ≡ urgent_here next
        walked-known s known =
            urgent-known (ports_in table) all input (here next) (scheduled_at table input s)
            (let own : (section_room * input + next) / section_room ≡ input = omega (arith, walked-cell.small) in
            waiting_at-input table (places_in table) (section_room * input + next) ∙ own)
            known

        urgent-more : (b : Bool) → urgent_here next ≡ b
            → members (cond b (with_one urgent next) urgent) ≡ keep urgent_here (w.passed ++ (next ∷ []))
        urgent-more true t =
            members-with urgent next walked-cell.small
            (λ i m. passed-before i (mem-keep-in urgent_here w.passed (subst (Memᴰ i) w.urgents m)))
            ∙ ap (λ l. l ++ (next ∷ [])) w.urgents
            ∙ sym (keep_append urgent_here w.passed (next ∷ [])
            ∙ ap (λ l. keep urgent_here w.passed ++ l)
            (keep-pass urgent_here next [] t ∙ ap (λ l. next ∷ l) (keep-nil urgent_here)))
          where
            rising : pairwise ltb (w.passed ++ (next ∷ members (rest_of left))) ≡ true
            rising = ap (pairwise ltb) (sym (visited-cons w.visited some)) ∙ members-rising heads

            passed-before : (i : ℕ) → Memᴰ i w.passed → i < next
            passed-before i m = ltb-true i next (pairwise-split ltb m (Memᴰ.head refl) rising)
        urgent-more false g =
            w.urgents
            ∙ sym (keep_append urgent_here w.passed (next ∷ [])
            ∙ ap (λ l. keep urgent_here w.passed ++ l) (keep-fail urgent_here next [] g ∙ keep-nil urgent_here)
            ∙ append-nil (keep urgent_here w.passed))

        fits_more : (b : Bool) → cond b (with_one urgent next) urgent < 2 ^ positions
        fits_more true = with_one-lt urgent next
        fits_more false = w.fits

        -- past it
        pub walked_next : (b : Bool) → b ≡ urgent_here next → Walked (cond b (with_one urgent next) urgent) (rest_of left)
        walked_next b h = record {
          passed = w.passed ++ (next ∷ []);
          visited = visited-next w.visited some;
          urgents = urgent-more b (sym h);
          fits = fits_more b;
        }

    -- as long as none is ready
    module _ {urgent left : ℕ} (e : Early urgent left) where
      abbrev passed : List ℕ
      passed = e.walked.passed

      none_here : keep (is_ready all) (map here passed) ≡ []
      none_here = keep-map (is_ready all) here passed ∙ ap (map here) e.none

      -- at the end
      pub scheduled-end : left ≡ 0 → ScheduledAt (first_of left)
      unfolding scheduled_at count_trailing_zeros
      scheduled-end z =
          scheduled-none (ports_in table) all input
          (ap (keep (is_ready all)) (heads-here ∙ ap (map here) (visited-end e.walked.visited z)) ∙ none_here)
          ∙ ap (scheduled_at table input) (first-trailing 0 ∙ ap first_of (sym z))

      module _ (some : 0 < left) where
        split : heads_of (ports_in table) all input
            ≡ map here passed ++ (here (first_of left) ∷ map here (members (rest_of left)))
        split =
            heads-here
            ∙ ap (map here) (visited-cons e.walked.visited some)
            ∙ map-append here passed (first_of left ∷ members (rest_of left))

        -- the next head is ready if its crosspoint is empty
        ready-empty : {b : Bool} → crosspoint_empty (crosspoints all) (here (first_of left)) ≡ b → ready (first_of left) ≡ b
        unfolding is_ready
        ready-empty h = ap₂ ◌&&◌ (cell-here (member e.walked some)).1 h

        -- then it is scheduled
        pub scheduled-here : crosspoint_empty (crosspoints all) (here (first_of left)) ≡ true → ScheduledAt (first_of left)
        unfolding scheduled_at
        scheduled-here t =
            scheduled-first (ports_in table) all input heads-ordered
            (ap (keep (is_ready all)) split
            ∙ keep_append (is_ready all) (map here passed) (here (first_of left) ∷ map here (members (rest_of left)))
            ∙ ap₂ ◌++◌ none_here
            (keep-pass (is_ready all) (here (first_of left)) (map here (members (rest_of left))) (ready-empty t)))
            ∙ sym (cond-pass (ltb (first_of left) section_room) (here (first_of left) ∷ []) []
            (lt-ltb (first_of left) section_room (walked-cell e.walked some).small))

        -- otherwise it is urgent as if none were scheduled
        module _ (f : crosspoint_empty (crosspoints all) (here (first_of left)) ≡ false) where
          pub early-known :
              is_urgent (ports_in table) (crosspoints all) (scheduled_at table input section_room) (here (first_of left))
              ≡ urgent_here (first_of left)
          unfolding scheduled_at
          early-known =
              urgent-early (ports_in table) all input heads-ordered (map here passed) (map here (members (rest_of left)))
              (here (first_of left)) split none_here (ready-empty f)

          pub early-next : (b : Bool) → b ≡ urgent_here (first_of left)
              → Early (cond b (with_one urgent (first_of left)) urgent) (rest_of left)
          unfolding walked_next
          early-next b h = record {
            walked = walked_next e.walked some b h;
            none =
                keep_append ready passed (first_of left ∷ [])
                ∙ ap₂ ◌++◌ e.none (keep-fail ready (first_of left) [] (ready-empty f) ∙ keep-nil ready);
          }
