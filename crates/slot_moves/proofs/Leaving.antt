-- The lists and their heads while heads leave them.
--     HeadAt, head-i, head-e   a head by its number
--     leave-lists              a head leaves: its follower is a head, if it is of its flow
--     lists-leaving            heads leave one after the other
use Prim.Native.Nat.{ℕ, zero, suc, ◌+◌, ◌*◌, ◌/◌, ◌%◌, ◌^◌, ◌<◌, ◌≤◌}
use native.Mathlib.Omega.{arith}
use mathlib.Core.Bool.{Bool, true, false, not, ◌&&◌, ◌||◌}
use mathlib.Core.Path.{◌≡◌, refl, sym, ◌∙◌, ap, ap₂, subst}
use mathlib.Core.Logic.{◌⊎◌, inl, inr, ◌≢◌}
use mathlib.Core.List.{List, Memᴰ}
use borrow.Author.Tests.{eqb-true, eqb-false, eq-eqb, ne_eqb, ltb-true, ltb-false, lt-ltb, le-ltb, not-true}
use lib.Dec.{eqb, ltb}
use lib.ListN.{length, get_or, set, length-set}
use lib.Seq.{get_or-set_same, get_or-set_other, set_out}
use Rattle.laws.specs.Lists.{none?}
use Rattle.laws.proofs.Least.{mem-least-in, mem-least-none}
use Rattle.laws.proofs.Lists.{none?-i, none?-e}
use Rattle.laws.proofs.Tests.{either, clash, by-fail, same, and_i, and_l, and_r, and_false_r, or_l, or_r}
use Rattle.laws.proofs.Tests.{or_cases, not-i, cond-pass, cond-fail}
use Rattle.sets.specs.Sets.{positions, has, set_from, first_of}
use Rattle.sets.proofs.Digits.{trailing-member}
use Rattle.sets.proofs.Members.{has-set_from, set_from-ext, set_of-is, has-without_one, has-from}
use Rattle.sets.proofs.Members.{first-before, first-trailing, set_from-fits}
use Rattle.cell.specs.Flow.{same_flow}
use Rattle.cell.specs.Limits.{section_room, port_limit}
use Rattle.cell.proofs.Flow.{flow-input, flow-sym, flow-trans}
use Rattle.laws.proofs.Compared.{Compared, below, equal, above, compare}
use Rattle.sets.specs.Code.{with_one, without_one, from}
use Rattle.model.specs.State.{is_listed}
use Rattle.model.specs.Phase.{Waiting, ahead, lists, heads}
use Rattle.model.proofs.WaitingOrder.{ahead-i, ahead-at}
use Rattle.model.proofs.PhaseFacts.{firsts, lists-i, lists-all, lists-listed}
use Rattle.layout.specs.Entry.{entry_at, count_in}
use Rattle.layout.specs.Table.{place_of, entry_limit}
use Rattle.layout.proofs.Records.{entry_at-input}
use Rattle.layout_table.specs.CodeEntries.{flow_word, nowhere}
use Rattle.layout_table.proofs.Entries.{flow-word}
use Rattle.slot_view.specs.CodeScan.{Readable}
use Rattle.slot_view.specs.CodeView.{waiting_at, in_table, InTable}
use Rattle.slot_view.specs.CodeViewed.{is_head, listed_set, head_set, ListsOf}
use Rattle.slot_view.proofs.Together.{Contiguous}
use Rattle.slot_view.proofs.Window.{in_table-i, in_table-e, in_table-below, in_table-section, waiting_at-at, waiting_at-cell}
use Rattle.slot_view.proofs.Window.{waiting_at-input, waiting_at-place}
use Rattle.slot_steps.specs.CodeSteps.{left, next_of, heads_left, left_heads}
use Rattle.slot_moves.specs.CodeMoves.{written, leaving, leaving_heads}
use Rattle.slot_steps.proofs.Steps.{left-none, left_heads-none}
use Rattle.slot_moves.proofs.Written.{hit, hit-miss, length-written, written-hit, written-miss}

------------------------------------------------------------------------
-- sets

-- a position less
without-set_from : (p q : ℕ → Bool) (k n x : ℕ) → n ≤ positions
    → ((j : ℕ) → j < n → j ≢ x → q (k + j) ≡ p (k + j)) → q (k + x) ≡ false
    → set_from q k n ≡ without_one (set_from p k n) x
unfolding without_one
without-set_from p q k n x small others gone =
    set_of-is (λ j. has (set_from p k n) j && not (eqb j x)) (set_from q k n) (set_from-fits q k n small) (λ j h.
    has-set_from q k n j
    ∙ go j (either (ltb j n)) (either (eqb j x))
    ∙ ap (λ b. b && not (eqb j x)) (sym (has-set_from p k n j)))
  where
    go : (j : ℕ) → (ltb j n ≡ true) ⊎ (ltb j n ≡ false) → (eqb j x ≡ true) ⊎ (eqb j x ≡ false)
        → (ltb j n && q (k + j)) ≡ ((ltb j n && p (k + j)) && not (eqb j x))
    go j s (inl t) =
        and_false_r (ltb j n) (q (k + j)) (ap (λ i. q (k + i)) (eqb-true j x t) ∙ gone)
        ∙ sym (and_false_r (ltb j n && p (k + j)) (not (eqb j x)) (ap not t))
    go j (inl s) (inr t) =
        rw (others j (ltb-true _ _ s) (eqb-false j x t), s, t) (unit (p (k + j)))
      where
        unit : (b : Bool) → b ≡ (b && true)
        unit true = refl
        unit false = refl
    go j (inr s) (inr t) = rw s

-- a member of a run
run-member : (p : ℕ → Bool) (k n j : ℕ) → has (set_from p k n) j ≡ true → (j < n) × (p (k + j) ≡ true)
run-member p k n j h =
    let b : (ltb j n && p (k + j)) ≡ true = sym (has-set_from p k n j) ∙ h in
    (ltb-true _ _ (and_l (ltb j n) (p (k + j)) b), and_r (ltb j n) (p (k + j)) b)

member-run : (p : ℕ → Bool) (k n j : ℕ) → j < n → p (k + j) ≡ true → has (set_from p k n) j ≡ true
member-run p k n j l h = has-set_from p k n j ∙ and_i (ltb j n) (p (k + j)) (lt-ltb _ _ l) h

-- the first member
first-in : (l : ℕ) → first_of l < positions → has l (first_of l) ≡ true
first-in l h = ap (has l) (sym (first-trailing l)) ∙ trailing-member positions l (omega (arith, first-trailing l))

-- what stands behind a position in a list
module _ (list x : ℕ) where
  later : ℕ
  later = from (without_one list x) x

  has-later : (j : ℕ) → j < positions → has later j ≡ ((has list j && not (eqb j x)) && not (ltb j x))
  unfolding later
  has-later j l =
      has-from (without_one list x) x j l ∙ ap (λ b. b && not (ltb j x)) (has-without_one list x j l)

  next-none : (j : ℕ) → x < j → j < next_of list x → j < positions → has list j ≡ false
  unfolding next_of later
  next-none j a b l =
      by-fail (has list j) (λ h.
      clash
      (has-later j l
      ∙ and_i (has list j && not (eqb j x)) (not (ltb j x))
      (and_i (has list j) (not (eqb j x)) h (not-i (eqb j x) (ne_eqb j x (λ e. omega arith))))
      (not-i (ltb j x) (le-ltb j x (omega arith))))
      (first-before later j b))

  next-behind : next_of list x < positions → (has list (next_of list x) ≡ true) × (x < next_of list x)
  unfolding next_of later
  next-behind l = (and_l (has list n) (not (eqb n x)) front, omega (arith, apart, behind))
    where
      n : ℕ
      n = first_of later

      all : ((has list n && not (eqb n x)) && not (ltb n x)) ≡ true
      all = sym (has-later n l) ∙ first-in later l

      front : (has list n && not (eqb n x)) ≡ true
      front = and_l (has list n && not (eqb n x)) (not (ltb n x)) all

      apart : n ≢ x
      apart = eqb-false n x (not-true (eqb n x) (and_r (has list n) (not (eqb n x)) front))

      behind : x ≤ n
      behind = ltb-false n x (not-true (ltb n x) (and_r (has list n && not (eqb n x)) (not (ltb n x)) all))

------------------------------------------------------------------------
-- heads by their numbers

abbrev pub listed_at : List ℕ → ℕ → Bool
listed_at places k = is_listed (place_of (get_or places k 0))

abbrev flows_at : List ℕ → ℕ → ℕ → Bool
flows_at table a b = same_flow (entry_at table a).cell (entry_at table b).cell

-- an entry in a list, and none of its flow before it there
pub record HeadAt (table places : List ℕ) (m : ℕ) : Type 0 where
  pub in_list : listed_at places m ≡ true
  pub first : (a : ℕ) → InTable table a → a < m → listed_at places a ≡ true → flows_at table a m ≡ false

-- where fewer cells are in the lists, a head that is there stays one, and the flows stand together
pub head-fewer : {table places places' : List ℕ} {m : ℕ}
    → ((a : ℕ) → InTable table a → listed_at places' a ≡ true → listed_at places a ≡ true) → listed_at places' m ≡ true
    → HeadAt table places m → HeadAt table places' m
head-fewer fewer there h = record { in_list = there; first = λ a t l p. h.first a t l (fewer a t p) }

contiguous-fewer : (table places places' : List ℕ)
    → ((a : ℕ) → InTable table a → listed_at places' a ≡ true → listed_at places a ≡ true) → Contiguous table places
    → Contiguous table places'
contiguous-fewer table places places' fewer h a b c ta tb tc e l m p q s =
    h a b c ta tb tc e l m (fewer a ta p) (fewer b tb q) (fewer c tc s)

module _ {table : List ℕ} (r : Readable table) (places : List ℕ) where
  abbrev all : List Waiting
  all = in_table table places

  abbrev w : ℕ → Waiting
  w = waiting_at table places

  before : ℕ → Waiting → Bool
  before m f = same_flow f.cell (w m).cell && ahead f (w m)

  pub head-e : (m : ℕ) → is_head all (w m) ≡ true → HeadAt table places m
  unfolding is_head
  head-e m h =
      record {
        in_list = ap is_listed (sym (waiting_at-place table places m)) ∙ and_l (is_listed (w m).place) (none? _ (lists all)) h;
        first = λ a t l p. by-fail (flows_at table a m) (λ s.
            let there : Memᴰ (w a) (lists all) =
            lists-i all (in_table-i table places r a t) (ap is_listed (waiting_at-place table places a) ∙ p) in
            let input : (w a).cell.input ≡ (w m).cell.input =
            waiting_at-input table places a ∙ sym (entry_at-input table a)
            ∙ flow-input (entry_at table a).cell (entry_at table m).cell s
            ∙ entry_at-input table m ∙ sym (waiting_at-input table places m) in
            let number : (w a).at < (w m).at = omega (arith, waiting_at-at table places a, waiting_at-at table places m) in
            let flow : same_flow (w a).cell (w m).cell ≡ true =
            ap₂ same_flow (waiting_at-cell table places a) (waiting_at-cell table places m) ∙ s in
            clash (and_i (same_flow (w a).cell (w m).cell) (ahead (w a) (w m)) flow (ahead-i (w a) (w m) input number))
            (none?-e (λ f. same_flow f.cell (w m).cell && ahead f (w m))
            (and_r (is_listed (w m).place) (none? _ (lists all)) h) there));
      }

  pub head-i : (m : ℕ) → HeadAt table places m → is_head all (w m) ≡ true
  unfolding is_head before
  head-i m h =
      and_i (is_listed (w m).place) (none? (before m) (lists all))
      (ap is_listed (waiting_at-place table places m) ∙ h.in_list)
      (none?-i (before m) (lists all) (λ f k.
      by-fail (before m f) (λ s.
      let e : (f ≡ w f.at) × InTable table f.at = in_table-e table places r (lists-all all k) in
      let cell : f.cell ≡ (entry_at table f.at).cell = ap (λ x. x.cell) e.0 ∙ waiting_at-cell table places f.at in
      let there : listed_at places f.at ≡ true =
      ap is_listed (sym (ap (λ x. x.place) e.0 ∙ waiting_at-place table places f.at)) ∙ lists-listed all k in
      let number : f.at < m =
      omega (arith, ahead-at f (w m) (and_r (same_flow f.cell (w m).cell) (ahead f (w m)) s), waiting_at-at table places m) in
      clash
      (ap₂ same_flow (sym cell) (sym (waiting_at-cell table places m))
      ∙ and_l (same_flow f.cell (w m).cell) (ahead f (w m)) s)
      (h.first f.at e.1 number there))))

------------------------------------------------------------------------
-- a head leaves

module _ {table : List ℕ} (r : Readable table) (places : List ℕ) (size : length places ≡ entry_limit)
    (together : Contiguous table places) {k : ℕ} (entry : InTable table k) (head : HeadAt table places k) (v : ℕ)
    (out : is_listed (place_of v) ≡ false) where
  abbrev places' : List ℕ
  places' = set places k v

  abbrev i : ℕ
  i = k / section_room

  abbrev x : ℕ
  x = k % section_room

  abbrev n : ℕ
  n = count_in table i

  port : i < port_limit
  port = omega (arith, entry.input, r.ports)

  few : count_in table i ≤ section_room
  few = r.counts i port

  listed-other : (a : ℕ) → a ≢ k → listed_at places' a ≡ listed_at places a
  listed-other a d = ap (λ b. is_listed (place_of b)) (get_or-set_other places k a v 0 d)

  listed-gone : listed_at places' k ≡ false
  listed-gone =
      ap (λ b. is_listed (place_of b)) (get_or-set_same places k v 0 (omega (arith, in_table-below r entry))) ∙ out

  stays : (a : ℕ) → listed_at places' a ≡ true → a ≢ k
  stays a h e = clash h (ap (listed_at places') e ∙ listed-gone)

  fewer : (a : ℕ) → InTable table a → listed_at places' a ≡ true → listed_at places a ≡ true
  fewer a t h = sym (listed-other a (stays a h)) ∙ h

  -- the entry with a position in the section
  section-own : (j : ℕ) → j < n → InTable table (section_room * i + j)
  section-own j l = in_table-section r i (section_room * i + j) entry.input (omega arith) (omega arith)

  ------------------------------------------------------------------------
  -- the lists

  listed-section : (input : ℕ) → input < port_limit → input ≢ i → listed_set table places' input ≡ listed_set table places input
  unfolding listed_set
  listed-section input l d =
      set_from-ext (listed_at places') (listed_at places) (section_room * input) (count_in table input) (λ j b.
      listed-other (section_room * input + j) (λ e. d (omega (arith, r.counts input l))))

  listed-own : listed_set table places' i ≡ without_one (listed_set table places i) x
  unfolding listed_set
  listed-own =
      let at : section_room * i + x ≡ k = omega arith in
      without-set_from (listed_at places) (listed_at places') (section_room * i) n x few
      (λ j l d. listed-other (section_room * i + j) (λ e. d (omega arith)))
      (ap (listed_at places') at ∙ listed-gone)

  ------------------------------------------------------------------------
  -- the heads of the other inputs

  abbrev is_head_in : List ℕ → ℕ → Bool
  is_head_in column m = is_head (in_table table column) (waiting_at table column m)

  head-other : (m : ℕ) → m / section_room ≢ i → is_head_in places' m ≡ is_head_in places m
  head-other m d =
      same (is_head_in places' m) (is_head_in places m)
      (λ h.
      let g : HeadAt table places' m = head-e r places' m h in
      head-i r places m
      (record {
        in_list = sym (listed-other m far) ∙ g.in_list;
        first = λ a t l p. by-fail (flows_at table a m) (λ s.
            let near : a / section_room ≡ m / section_room =
            sym (entry_at-input table a) ∙ flow-input (entry_at table a).cell (entry_at table m).cell s ∙ entry_at-input table m in
            clash s (g.first a t l (listed-other a (λ e. d (sym near ∙ ap (λ y. y / section_room) e)) ∙ p)));
      }))
      (λ h.
      let g : HeadAt table places m = head-e r places m h in
      head-i r places' m (head-fewer fewer (listed-other m far ∙ g.in_list) g))
    where
      far : m ≢ k
      far e = d (ap (λ y. y / section_room) e)

  heads-section : (input : ℕ) → input < port_limit → input ≢ i → head_set table places' input ≡ head_set table places input
  unfolding head_set
  heads-section input l d =
      set_from-ext (is_head_in places') (is_head_in places) (section_room * input) (count_in table input) (λ j b.
      head-other (section_room * input + j) (λ e. d (omega (arith, r.counts input l))))

  ------------------------------------------------------------------------
  -- the heads of its own

  abbrev list : ℕ
  list = listed_set table places i

  abbrev heads-in : ℕ
  heads-in = head_set table places i

  abbrev others : ℕ
  others = without_one heads-in x

  abbrev next : ℕ
  next = next_of list x

  abbrev at : ℕ → ℕ
  at j = section_room * i + j

  list-e : (j : ℕ) → has list j ≡ true → (j < n) × (listed_at places (at j) ≡ true)
  unfolding listed_set
  list-e j h = run-member (listed_at places) (section_room * i) n j h

  list-i : (j : ℕ) → j < n → listed_at places (at j) ≡ true → has list j ≡ true
  unfolding listed_set
  list-i j l h = member-run (listed_at places) (section_room * i) n j l h

  -- a cell of the section by its position
  position : (a : ℕ) → InTable table a → a / section_room ≡ i → (a ≡ at (a % section_room)) × (a % section_room < n)
  position a t e =
      let b : a < section_room * i + n = subst (λ y. a < section_room * y + count_in table y) e t.position in
      (omega arith, omega arith)

  section-flow : (a m : ℕ) → m / section_room ≡ i → flows_at table a m ≡ true → a / section_room ≡ i
  section-flow a m e s =
      sym (entry_at-input table a) ∙ flow-input (entry_at table a).cell (entry_at table m).cell s ∙ entry_at-input table m ∙ e

  own : (j : ℕ) → j < n → at j / section_room ≡ i
  own j l = omega (arith, few)

  -- the follower is of its flow
  Follows : Type 0
  Follows = (next < positions) × (flows_at table (at next) k ≡ true)

  follows? : Bool
  follows? = ltb next positions && eqb (flow_word (entry_at table (at next)).cell) (flow_word (entry_at table k).cell)

  byte : (m : ℕ) → InTable table m → (entry_at table m).cell.output < 256
  byte m t = omega (arith, r.outputs m t, r.ports)

  next-entry : next < positions → InTable table (at next)
  next-entry l = section-own next (list-e next (next-behind list x l).0).0

  words : next < positions
      → eqb (flow_word (entry_at table (at next)).cell) (flow_word (entry_at table k).cell) ≡ flows_at table (at next) k
  words l =
      let inside : next < n = (list-e next (next-behind list x l).0).0 in
      flow-word (entry_at table (at next)).cell (entry_at table k).cell
      (entry_at-input table (at next) ∙ own next inside ∙ sym (entry_at-input table k)) (byte (at next) (next-entry l)) (byte k entry)

  follows-e : follows? ≡ true → Follows
  unfolding Follows follows?
  follows-e h =
      let l : next < positions = ltb-true _ _ (and_l (ltb next positions) _ h) in
      (l, sym (words l) ∙ and_r (ltb next positions) _ h)

  follows-i : Follows → follows? ≡ true
  unfolding Follows follows?
  follows-i (l, h) = and_i (ltb next positions) _ (lt-ltb _ _ l) (words l ∙ h)

  -- a head that stays
  head-stays : (j : ℕ) → j < n → j ≢ x → HeadAt table places (at j) → HeadAt table places' (at j)
  head-stays j l d g =
      head-fewer fewer (listed-other (at j) (λ e. d (omega (arith, few))) ∙ g.in_list) g

  -- the follower is one
  head-next : Follows → HeadAt table places' (at next)
  unfolding Follows
  head-next (l, flow) = record { in_list = there; first = first }
    where
      behind : (has list next ≡ true) × (x < next)
      behind = next-behind list x l

      inside : (next < n) × (listed_at places (at next) ≡ true)
      inside = list-e next behind.0

      there : listed_at places' (at next) ≡ true
      there = listed-other (at next) (λ e. omega (arith, behind.1)) ∙ inside.1

      first : (a : ℕ) → InTable table a → a < at next → listed_at places' a ≡ true → flows_at table a (at next) ≡ false
      first a t b p = by-fail (flows_at table a (at next)) (λ s. go s (compare a k))
        where
          go : flows_at table a (at next) ≡ true → Compared a k → ⊥
          go s (below c) =
              clash (flow-trans (entry_at table a).cell (entry_at table (at next)).cell (entry_at table k).cell s flow)
              (head.first a t c (fewer a t p))
          go s (equal c) = stays a p c
          go s (above c) =
              let q = position a t (section-flow a (at next) (own next inside.0) s) in
              clash
              (list-i (a % section_room) q.1 (ap (listed_at places) (sym q.0) ∙ fewer a t p))
              (next-none list x (a % section_room) (omega (arith, q.0)) (omega (arith, q.0)) (omega arith))

  -- a head that was none is the follower
  new-head : (j : ℕ) → j < n → HeadAt table places' (at j) → k < at j → flows_at table k (at j) ≡ true → (next ≡ j) × Follows
  unfolding Follows
  new-head j l g b s = (is, (omega (arith, is, few), flow-back))
    where
      old : listed_at places (at j) ≡ true
      old = fewer (at j) (section-own j l) g.in_list

      reached : next ≤ j
      reached = go (either (ltb j next))
        where
          go : (ltb j next ≡ true) ⊎ (ltb j next ≡ false) → next ≤ j
          go (inl t) =
              absurd (clash (list-i j l old) (next-none list x j (omega arith) (ltb-true _ _ t) (omega (arith, few))))
          go (inr t) = ltb-false _ _ t

      small : next < positions
      small = omega (arith, reached, few)

      behind : (has list next ≡ true) × (x < next)
      behind = next-behind list x small

      inside : (next < n) × (listed_at places (at next) ≡ true)
      inside = list-e next behind.0

      is : next ≡ j
      is = go (either (ltb next j))
        where
          go : (ltb next j ≡ true) ⊎ (ltb next j ≡ false) → next ≡ j
          go (inl t) =
              let c : next < j = ltb-true _ _ t in
              let after : k < at next = omega (arith, behind.1) in
              let mid : flows_at table k (at next) ≡ true =
              together k (at next) (at j) entry (next-entry small) (section-own j l) (sym (own j l)) after (omega arith)
              head.in_list inside.1 old s in
              absurd
              (clash
              (flow-trans (entry_at table (at next)).cell (entry_at table k).cell (entry_at table (at j)).cell
              (flow-sym (entry_at table k).cell (entry_at table (at next)).cell mid) s)
              (g.first (at next) (next-entry small) (omega arith)
              (listed-other (at next) (λ e. omega arith) ∙ inside.1)))
          go (inr t) = let c : j ≤ next = ltb-false _ _ t in omega (arith, reached)

      flow-back : flows_at table (at next) k ≡ true
      flow-back = rw is (flow-sym (entry_at table k).cell (entry_at table (at j)).cell s)

  -- the heads afterwards, position by position
  others-e : (j : ℕ) → j < positions → has others j ≡ true → (j < n) × HeadAt table places' (at j)
  unfolding head_set
  others-e j l h =
      let b : (has heads-in j && not (eqb j x)) ≡ true = sym (has-without_one heads-in x j l) ∙ h in
      let c = run-member (is_head_in places) (section_room * i) n j (and_l (has heads-in j) (not (eqb j x)) b) in
      (c.0, head-stays j c.0 (eqb-false j x (not-true (eqb j x) (and_r (has heads-in j) (not (eqb j x)) b))) (head-e r places (at j) c.1))

  others-i : (j : ℕ) → j < n → HeadAt table places' (at j) → HeadAt table places (at j) → has others j ≡ true
  unfolding head_set
  others-i j l g h =
      has-without_one heads-in x j (omega (arith, few))
      ∙ and_i (has heads-in j) (not (eqb j x))
      (member-run (is_head_in places) (section_room * i) n j l (head-i r places (at j) h))
      (not-i (eqb j x) (ne_eqb j x (λ e. stays (at j) g.in_list (omega arith))))

  -- a head after it left was one before, or is the follower
  was-head : (j : ℕ) → j < n → HeadAt table places' (at j) → HeadAt table places (at j) ⊎ ((next ≡ j) × Follows)
  was-head j l g = go (either (ltb k (at j))) (either (flows_at table k (at j)))
    where
      still : ((k < at j) → flows_at table k (at j) ≡ false) → HeadAt table places (at j)
      still d =
          record {
            in_list = fewer (at j) (section-own j l) g.in_list;
            first = λ a t b p. one a t b p (either (eqb a k));
          }
        where
          one : (a : ℕ) → InTable table a → a < at j → listed_at places a ≡ true → (eqb a k ≡ true) ⊎ (eqb a k ≡ false)
              → flows_at table a (at j) ≡ false
          one a t b p (inl e) = let q : a ≡ k = eqb-true a k e in rw q (d (omega arith))
          one a t b p (inr e) = g.first a t b (listed-other a (eqb-false a k e) ∙ p)

      go : (ltb k (at j) ≡ true) ⊎ (ltb k (at j) ≡ false)
          → (flows_at table k (at j) ≡ true) ⊎ (flows_at table k (at j) ≡ false)
          → HeadAt table places (at j) ⊎ ((next ≡ j) × Follows)
      go (inl t) (inl s) = inr (new-head j l g (ltb-true _ _ t) s)
      go (inl t) (inr s) = inl (still (λ b. s))
      go (inr t) s = inl (still (λ b. absurd (let c : at j ≤ k = ltb-false _ _ t in omega arith)))

  new-e : (j : ℕ) → has (head_set table places' i) j ≡ true → (j < n) × HeadAt table places' (at j)
  unfolding head_set
  new-e j h =
      let c = run-member (is_head_in places') (section_room * i) n j h in
      (c.0, head-e r places' (at j) c.1)

  new-i : (j : ℕ) → j < n → HeadAt table places' (at j) → has (head_set table places' i) j ≡ true
  unfolding head_set
  new-i j l g = member-run (is_head_in places') (section_room * i) n j l (head-i r places' (at j) g)

  new-fits : head_set table places' i < 2 ^ positions
  unfolding head_set
  new-fits = set_from-fits (is_head_in places') (section_room * i) n few

  next-inside : next < positions → next < n
  next-inside l = (list-e next (next-behind list x l).0).0

  heads-with : follows? ≡ true → head_set table places' i ≡ with_one others next
  unfolding with_one Follows
  heads-with t =
      let f : Follows = follows-e t in
      set_of-is (λ j. has others j || eqb j next) (head_set table places' i) new-fits (λ j l.
      same (has (head_set table places' i) j) (has others j || eqb j next)
      (λ h.
      let g = new-e j h in
      cases j g.0 g.1 (was-head j g.0 g.1))
      (λ h. back j l f (or_cases (has others j) (eqb j next) h)))
    where
      cases : (j : ℕ) → j < n → HeadAt table places' (at j) → HeadAt table places (at j) ⊎ ((next ≡ j) × Follows)
          → (has others j || eqb j next) ≡ true
      cases j l g (inl o) = or_l (has others j) (eqb j next) (others-i j l g o)
      cases j l g (inr q) = or_r (has others j) (eqb j next) (eq-eqb j next (sym q.0))

      back : (j : ℕ) → j < positions → Follows → (has others j ≡ true) ⊎ (eqb j next ≡ true)
          → has (head_set table places' i) j ≡ true
      back j l f (inl o) = let g = others-e j l o in new-i j g.0 g.1
      back j l f (inr q) =
          let e : j ≡ next = eqb-true j next q in
          rw e (new-i next (next-inside f.0) (head-next f))

  heads-without : follows? ≡ false → head_set table places' i ≡ others
  unfolding without_one
  heads-without t =
      set_of-is (λ j. has heads-in j && not (eqb j x)) (head_set table places' i) new-fits (λ j l.
      same (has (head_set table places' i) j) (has heads-in j && not (eqb j x))
      (λ h.
      let g = new-e j h in
      cases j l g.0 g.1 (was-head j g.0 g.1))
      (λ h. let g = others-e j l (has-without_one heads-in x j l ∙ h) in new-i j g.0 g.1))
    where
      cases : (j : ℕ) → j < positions → j < n → HeadAt table places' (at j)
          → HeadAt table places (at j) ⊎ ((next ≡ j) × Follows) → (has heads-in j && not (eqb j x)) ≡ true
      cases j p l g (inl o) = sym (has-without_one heads-in x j p) ∙ others-i j l g o
      cases j p l g (inr q) = absurd (clash (follows-i q.1) t)

  heads-own : head_set table places' i ≡ heads_left table list heads-in k
  unfolding heads_left follows?
  heads-own = go (either follows?)
    where
      go : (follows? ≡ true) ⊎ (follows? ≡ false) → head_set table places' i ≡ heads_left table list heads-in k
      go (inl t) = heads-with t ∙ sym (cond-pass follows? (with_one others next) others t)
      go (inr t) = heads-without t ∙ sym (cond-fail follows? (with_one others next) others t)

  ------------------------------------------------------------------------
  -- all of them

  pub leave-lists : (listed hs : List ℕ) → ListsOf table places listed hs
      → ListsOf table (set places k v) (left listed k) (left_heads table listed hs k)
  unfolding left left_heads
  leave-lists listed hs l =
      record {
        listed-size = length-set listed i _ ∙ l.listed-size;
        heads-size = length-set hs i _ ∙ l.heads-size;
        listed-at = λ input b. listed-one input b (either (eqb input i));
        heads-at = λ input b. heads-one input b (either (eqb input i));
      }
    where
      listed-one : (input : ℕ) → input < 16 → (eqb input i ≡ true) ⊎ (eqb input i ≡ false)
          → get_or (set listed i (without_one (get_or listed i 0) x)) input 0 ≡ listed_set table places' input
      listed-one input b (inl t) =
          rw (eqb-true input i t)
          (get_or-set_same listed i (without_one (get_or listed i 0) x) 0 (omega (arith, l.listed-size, port))
          ∙ ap (λ s. without_one s x) (l.listed-at i port)
          ∙ sym listed-own)
      listed-one input b (inr t) =
          let d : input ≢ i = eqb-false input i t in
          get_or-set_other listed i input (without_one (get_or listed i 0) x) 0 d
          ∙ l.listed-at input b ∙ sym (listed-section input b d)

      heads-one : (input : ℕ) → input < 16 → (eqb input i ≡ true) ⊎ (eqb input i ≡ false)
          → get_or (set hs i (heads_left table (get_or listed i 0) (get_or hs i 0) k)) input 0 ≡ head_set table places' input
      heads-one input b (inl t) =
          rw (eqb-true input i t)
          (get_or-set_same hs i (heads_left table (get_or listed i 0) (get_or hs i 0) k) 0 (omega (arith, l.heads-size, port))
          ∙ ap₂ (λ s h. heads_left table s h k) (l.listed-at i port) (l.heads-at i port)
          ∙ sym heads-own)
      heads-one input b (inr t) =
          let d : input ≢ i = eqb-false input i t in
          get_or-set_other hs i input (heads_left table (get_or listed i 0) (get_or hs i 0) k) 0 d
          ∙ l.heads-at input b ∙ sym (heads-section input b d)

------------------------------------------------------------------------
-- heads leave one after the other

-- they are heads, and no two of them are one
pub record Leavers (table places : List ℕ) (f : ℕ → ℕ) (n : ℕ) : Type 0 where
  pub entry : (a : ℕ) → a < n → f a < nowhere → InTable table (f a)
  pub head : (a : ℕ) → a < n → f a < nowhere → HeadAt table places (f a)
  pub other : (a b : ℕ) → a < b → b < n → f b < nowhere → f a ≢ f b

module _ {table : List ℕ} (r : Readable table) (f : ℕ → ℕ) (v : ℕ) (out : is_listed (place_of v) ≡ false) (places : List ℕ)
    (size : length places ≡ entry_limit) where
  pub written-fewer : (n a : ℕ) → InTable table a → listed_at (written f v n places) a ≡ true → listed_at places a ≡ true
  written-fewer n a t h = go (either (hit f n a))
    where
      go : (hit f n a ≡ true) ⊎ (hit f n a ≡ false) → listed_at places a ≡ true
      go (inl s) =
          absurd
          (clash h
          (ap (λ b. is_listed (place_of b)) (written-hit f v n places a 0 (omega (arith, in_table-below r t)) s) ∙ out))
      go (inr s) = ap (λ b. is_listed (place_of b)) (sym (written-miss f v n places a 0 s)) ∙ h

  module _ (together : Contiguous table places) (listed heads : List ℕ) (l : ListsOf table places listed heads) where
    pub lists-leaving : (n : ℕ) → Leavers table places f n
        → ListsOf table (written f v n places) (leaving f n listed) (leaving_heads table f n listed heads)
    unfolding written leaving leaving_heads
    lists-leaving zero s = l
    lists-leaving (suc n) s = go (either (ltb (f n) nowhere)) (lists-leaving n earlier)
      where
        earlier : Leavers table places f n
        earlier =
            record {
              entry = λ a b. s.entry a (omega arith);
              head = λ a b. s.head a (omega arith);
              other = λ a b c d. s.other a b c (omega arith);
            }

        go : (ltb (f n) nowhere ≡ true) ⊎ (ltb (f n) nowhere ≡ false)
            → ListsOf table (written f v n places) (leaving f n listed) (leaving_heads table f n listed heads)
            → ListsOf table (set (written f v n places) (f n) v) (left (leaving f n listed) (f n))
            (left_heads table (leaving f n listed) (leaving_heads table f n listed heads) (f n))
        go (inl t) rec =
            leave-lists r (written f v n places) (length-written f v n places ∙ size)
            (contiguous-fewer table places (written f v n places) (written-fewer n) together) (s.entry n (omega arith) small)
            (head-fewer (written-fewer n) still (s.head n (omega arith) small)) v out
            (leaving f n listed) (leaving_heads table f n listed heads) rec
          where
            small : f n < nowhere
            small = ltb-true _ _ t

            still : listed_at (written f v n places) (f n) ≡ true
            still =
                ap (λ b. is_listed (place_of b))
                (written-miss f v n places (f n) 0
                (hit-miss f n (f n) (λ j p e. s.other j n p (omega arith) small e)))
                ∙ (s.head n (omega arith) small).in_list
        go (inr t) rec =
            let past : nowhere ≤ f n = ltb-false _ _ t in
            rw (
              set_out (written f v n places) (f n) v (omega (arith, length-written f v n places)),
              left-none (f n) past (leaving f n listed) rec.listed-size,
              left_heads-none (f n) past table (leaving f n listed) (leaving_heads table f n listed heads) rec.heads-size,
            )
            rec

------------------------------------------------------------------------
-- the heads of a phase, and lists that stay

module _ {table : List ℕ} (r : Readable table) where
  pub firsts-head : (places : List ℕ) {e : Waiting} → Memᴰ e (firsts (in_table table places))
      → HeadAt table places e.at
  unfolding firsts heads is_head
  firsts-head places {e} m =
      let ls : List Waiting = lists (in_table table places) in
      let lt : Waiting → Waiting → Bool = λ e f. same_flow e.cell f.cell && ahead e f in
      let there : Memᴰ e ls = mem-least-in lt ls m in
      let self : e ≡ waiting_at table places e.at =
      (in_table-e table places r (lists-all (in_table table places) there)).0 in
      head-e r places e.at
      (ap (is_head (in_table table places)) (sym self)
      ∙ and_i (is_listed e.place) (none? (λ f. lt f e) ls) (lists-listed (in_table table places) there)
      (mem-least-none lt ls m))

  -- the same cells are in the lists
  module _ (places places' : List ℕ) (stay : (a : ℕ) → a < nowhere → listed_at places' a ≡ listed_at places a) where
    same_head : (m : ℕ) → m < nowhere
        → is_head (in_table table places') (waiting_at table places' m) ≡ is_head (in_table table places) (waiting_at table places m)
    same_head m b =
        same (is_head (in_table table places') (waiting_at table places' m)) (is_head (in_table table places) (waiting_at table places m))
        (λ h.
        let g : HeadAt table places' m = head-e r places' m h in
        head-i r places m (head-fewer (λ a t p. stay a (in_table-below r t) ∙ p) (sym (stay m b) ∙ g.in_list) g))
        (λ h.
        let g : HeadAt table places m = head-e r places m h in
        head-i r places' m (head-fewer (λ a t p. sym (stay a (in_table-below r t)) ∙ p) (stay m b ∙ g.in_list) g))

    pub lists-same : (listed hs : List ℕ) → ListsOf table places listed hs → ListsOf table places' listed hs
    unfolding listed_set head_set
    lists-same listed hs l =
        record {
          listed-size = l.listed-size;
          heads-size = l.heads-size;
          listed-at = λ input b.
              l.listed-at input b
              ∙ set_from-ext (listed_at places) (listed_at places') (section_room * input) (count_in table input) (λ j c.
              sym (stay (section_room * input + j) (omega (arith, r.counts input b))));
          heads-at = λ input b.
              l.heads-at input b
              ∙ set_from-ext (λ m. is_head (in_table table places) (waiting_at table places m))
              (λ m. is_head (in_table table places') (waiting_at table places' m)) (section_room * input) (count_in table input)
              (λ j c. sym (same_head (section_room * input + j) (omega (arith, r.counts input b))));
        }
