-- The numbered list of all waiting cells, and the sections that it comes from. Section k is `get_or sections k []`.
--     entry_of, numbered_at              from a waiting cell to its entry and back
--     number_from-, Placed, placed-     one section: where a numbered cell stands in it
--     numbered-at, numbered-entries    the sections
--     Stands, mem-waiting, waiting-mem a waiting cell stands in a section, and its number is its position there
--     waiting-cells, cells-waiting, count-waiting   the waiting cells are the entries of the sections
--     waiting-placed, waiting-moved, moved-   what a phase makes of them
--     flatten-without, without-        what a departure makes of them
--     waiting_few                      at most 64 of an input
--     numbers-rise, numbers-differ     no two waiting cells have one number
--     ahead-prefix                     the listed cells ahead of one are those that stand before it in its section
use Prim.Native.Nat.{ℕ, zero, suc, ◌+◌, ◌*◌, ◌≤◌, ◌<◌}
use native.Mathlib.Omega.{arith}
use mathlib.Core.Bool.{Bool, true, false, not, ◌&&◌, and-true}
use mathlib.Core.Path.{◌≡◌, refl, sym, ◌∙◌, ap, ap₂}
use mathlib.Core.Logic.{◌⊎◌, inl, inr, ◌≢◌}
use mathlib.Core.List.{List, [], ◌∷◌, ◌++◌, map, flatten, map-map, Memᴰ}
use lib.Dec.{ltb, eqb}
use lib.ListN.{length, get_or, length-append, length-map, get_or-map}
use borrow.Author.Tests.{ltb-true, lt-ltb, ne_eqb}
use Rattle.laws.specs.Lists.{keep, count, pairwise}
use Rattle.laws.proofs.Tests.{by-fail, and_false_r, not-i}
use Rattle.laws.proofs.Lists.{none?-i}
use Rattle.laws.proofs.Count.{count-append, count_map, count-ext, count-zero}
use Rattle.laws.proofs.Pairwise.{pairwise-nil, pairwise_cons, pairwise-mono}
use Rattle.cell.specs.Limits.{section_room}
use Rattle.model.specs.State.{Place, Entry, is_listed}
use Rattle.model.specs.Phase.{Waiting, number_from, number_sections, numbered, waiting, ahead, among, Phase}
use Rattle.model.specs.Phase.{place_after, placed_by, moved}
use Rattle.model.specs.Crossbar.{without}
use Rattle.model.specs.CodeSlackness.{relocate, relocated, other_number}
use Rattle.model.proofs.WaitingOrder.{ahead-i, ahead-input, ahead-at}
use Rattle.model.proofs.Bags.{mem-flatten, flatten-mem, keep-flatten}
use Rattle.model.proofs.Sections.{flatten-map, count-flatten-one, pairwise-flatten}

-- the entry that waits
abbrev pub entry_of : Waiting → Entry
entry_of w = record { cell = w.cell; place = w.place }

-- the waiting cell with this number
abbrev pub numbered_at : ℕ → Entry → Waiting
numbered_at at e = record { at = at; cell = e.cell; place = e.place }

------------------------------------------------------------------------
-- one section

pub number_from-append : (at : ℕ) (es fs : List Entry)
    → number_from at (es ++ fs) ≡ number_from at es ++ number_from (at + length es) fs
unfolding number_from
number_from-append at [] fs = ap (λ n. number_from n fs) (omega arith)
number_from-append at (e ∷ es) fs =
    ap (λ r. numbered_at at e ∷ r)
    (number_from-append (at + 1) es fs
    ∙ ap (λ n. number_from (at + 1) es ++ number_from n fs)
    (omega arith))

pub number_from-entries : (at : ℕ) (es : List Entry) → map entry_of (number_from at es) ≡ es
unfolding number_from
number_from-entries at [] = refl
number_from-entries at (e ∷ es) = ap (λ r. e ∷ r) (number_from-entries (at + 1) es)

-- entries that are made of the numbered ones get the same numbers
pub number_from-map : (f : Waiting → Entry) (at : ℕ) (es : List Entry)
    → number_from at (map f (number_from at es)) ≡ map (λ w. numbered_at w.at (f w)) (number_from at es)
unfolding number_from
number_from-map f at [] = refl
number_from-map f at (e ∷ es) = ap (λ r. numbered_at at (f (numbered_at at e)) ∷ r) (number_from-map f (at + 1) es)

-- where a numbered cell stands in its section
pub record Placed (from : ℕ) (es : List Entry) (w : Waiting) : Type 0 where
  pub pre : List Entry
  pub post : List Entry
  pub split : es ≡ pre ++ entry_of w ∷ post
  pub number : w.at ≡ from + length pre

pub mem-number_from : (from : ℕ) (es : List Entry) {w : Waiting} → Memᴰ w (number_from from es) → Placed from es w
unfolding number_from
mem-number_from from [] m = absurd (mathlib.Core.List.Memᴰ.not-nil m)
mem-number_from from (e ∷ es) {w} m = go (mathlib.Core.List.Memᴰ.cases_cons m) (mem-number_from (from + 1) es)
  where
    later : Placed (from + 1) es w → Placed from (e ∷ es) w
    later p =
        let n : w.at ≡ from + 1 + length p.pre = p.number in
        let o : w.at ≡ from + suc (length p.pre) = omega arith in
        record { pre = e ∷ p.pre; post = p.post; split = ap (λ r. e ∷ r) p.split; number = o }

    go : (w ≡ numbered_at from e) ⊎ Memᴰ w (number_from (from + 1) es)
        → (Memᴰ w (number_from (from + 1) es) → Placed (from + 1) es w) → Placed from (e ∷ es) w
    go (inl q) rec =
        let n : w.at ≡ from = ap (λ v. v.at) q in
        let o : w.at ≡ from + 0 = omega arith in
        record { pre = []; post = es; split = ap (λ v. entry_of v ∷ es) (sym q); number = o }
    go (inr i) rec = later (rec i)

pub number_from-mem : (from : ℕ) (pre : List Entry) (e : Entry) (post : List Entry)
    → Memᴰ (numbered_at (from + length pre) e) (number_from from (pre ++ e ∷ post))
unfolding number_from
number_from-mem from pre e post =
    rw (number_from-append from pre (e ∷ post)) (mathlib.Core.List.Memᴰ.append_right (number_from from pre) (mathlib.Core.List.Memᴰ.head refl))

pub placed-entry : (from : ℕ) (es : List Entry) (w : Waiting) → Placed from es w → Memᴰ (entry_of w) es
placed-entry from es w p = rw p.split (mathlib.Core.List.Memᴰ.append_right p.pre (mathlib.Core.List.Memᴰ.head refl))

-- the numbers of a section begin with `from`, and there are as many as entries
pub placed-from : (from : ℕ) (es : List Entry) (w : Waiting) → Placed from es w → from ≤ w.at
placed-from from es w p = let n = p.number in omega arith

pub placed_below : (from : ℕ) (es : List Entry) (w : Waiting) → Placed from es w → w.at < from + length es
placed_below from es w p =
    let n = p.number in
    omega (arith, ap length p.split, length-append p.pre (entry_of w ∷ p.post))

-- a larger number stands later
pub placed-later : (from : ℕ) (es : List Entry) (v w : Waiting) (p : Placed from es v)
    → Memᴰ w (number_from from es) → v.at < w.at → Memᴰ (entry_of w) p.post
unfolding number_from
placed-later from es v w p m l =
    front (mathlib.Core.List.Memᴰ.append_cases (number_from from p.pre)
    (rw (p.split, number_from-append from p.pre (entry_of v ∷ p.post)) at m))
  where
    at : ℕ
    at = from + length p.pre

    back : (w ≡ numbered_at at (entry_of v)) ⊎ Memᴰ w (number_from (at + 1) p.post)
        → Memᴰ (entry_of w) p.post
    back (inl q) = absurd (omega (arith, ap (λ u. u.at) q, p.number))
    back (inr i) = placed-entry (at + 1) p.post w (mem-number_from (at + 1) p.post i)

    front : Memᴰ w (number_from from p.pre) ⊎ Memᴰ w (number_from at (entry_of v ∷ p.post))
        → Memᴰ (entry_of w) p.post
    front (inl i) = absurd (omega (arith, placed_below from p.pre w (mem-number_from from p.pre i), p.number))
    front (inr i) = back (mathlib.Core.List.Memᴰ.cases_cons i)

-- within a section numbers rise
pub number_from-rises : (from : ℕ) (es : List Entry) → pairwise (λ v w. ltb v.at w.at) (number_from from es) ≡ true
unfolding number_from
number_from-rises from [] = pairwise-nil (λ v w. ltb v.at w.at)
number_from-rises from (e ∷ es) =
    pairwise_cons (λ v w. ltb v.at w.at) (numbered_at from e) (number_from (from + 1) es)
    (λ w m.
    let p : from + 1 ≤ w.at = placed-from (from + 1) es w (mem-number_from (from + 1) es m) in
    lt-ltb from w.at (omega arith))
    (number_from-rises (from + 1) es)

------------------------------------------------------------------------
-- the sections

pub number_sections-at : (input : ℕ) (sections : List (List Entry)) (k : ℕ)
    → get_or (number_sections input sections) k [] ≡ number_from (section_room * (input + k)) (get_or sections k [])
unfolding number_sections number_from
number_sections-at input [] k = refl
number_sections-at input (es ∷ sections) zero =
    ap (λ n. number_from (section_room * n) es) (omega arith)
number_sections-at input (es ∷ sections) (suc k) =
    number_sections-at (input + 1) sections k
    ∙ ap (λ n. number_from (section_room * n) (get_or sections k []))
    (omega arith)

pub numbered-at : (sections : List (List Entry)) (k : ℕ)
    → get_or (numbered sections) k [] ≡ number_from (section_room * k) (get_or sections k [])
unfolding numbered
numbered-at sections k =
    number_sections-at 0 sections k
    ∙ ap (λ n. number_from (section_room * n) (get_or sections k [])) (omega arith)

pub number_sections-entries : (input : ℕ) (sections : List (List Entry))
    → map (map entry_of) (number_sections input sections) ≡ sections
unfolding number_sections
number_sections-entries input [] = refl
number_sections-entries input (es ∷ sections) =
    ap₂ (λ l r. l ∷ r) (number_from-entries (section_room * input) es) (number_sections-entries (input + 1) sections)

pub numbered-entries : (sections : List (List Entry)) → map (map entry_of) (numbered sections) ≡ sections
unfolding numbered
numbered-entries sections = number_sections-entries 0 sections

pub length-numbered : (sections : List (List Entry)) → length (numbered sections) ≡ length sections
length-numbered sections =
    sym (length-map (numbered sections) (map entry_of)) ∙ ap length (numbered-entries sections)

pub number_sections-map : (f : Waiting → Entry) (input : ℕ) (sections : List (List Entry))
    → number_sections input (map (map f) (number_sections input sections))
    ≡ map (map (λ w. numbered_at w.at (f w))) (number_sections input sections)
unfolding number_sections
number_sections-map f input [] = refl
number_sections-map f input (es ∷ sections) =
    ap₂ (λ l r. l ∷ r) (number_from-map f (section_room * input) es) (number_sections-map f (input + 1) sections)

------------------------------------------------------------------------
-- all waiting cells

-- where a waiting cell stands
pub record Stands (sections : List (List Entry)) (w : Waiting) : Type 0 where
  pub input : ℕ
  pub within : input < length sections
  pub mem : Memᴰ w (number_from (section_room * input) (get_or sections input []))
  pub placed : Placed (section_room * input) (get_or sections input []) w

pub mem-waiting : (sections : List (List Entry)) {w : Waiting} → Memᴰ w (waiting sections) → Stands sections w
unfolding waiting
mem-waiting sections {w} m = go (mem-flatten (numbered sections) m)
  where
    go : (k : ℕ) × (k < length (numbered sections)) × Memᴰ w (get_or (numbered sections) k []) → Stands sections w
    go (k, b, i) =
        let j : Memᴰ w (number_from (section_room * k) (get_or sections k [])) = rw (numbered-at sections k) at i in
        record {
          input = k;
          within = rw (length-numbered sections) at b;
          mem = j;
          placed = mem-number_from (section_room * k) (get_or sections k []) j;
        }

pub stands-entry : (sections : List (List Entry)) (w : Waiting) (s : Stands sections w)
    → Memᴰ (entry_of w) (get_or sections s.input [])
stands-entry sections w s = placed-entry (section_room * s.input) (get_or sections s.input []) w s.placed

pub waiting-mem : (sections : List (List Entry)) (k : ℕ) (pre : List Entry) (e : Entry) (post : List Entry)
    → get_or sections k [] ≡ pre ++ e ∷ post
    → Memᴰ (numbered_at (section_room * k + length pre) e) (waiting sections)
unfolding waiting
waiting-mem sections k pre e post h =
    flatten-mem (numbered sections) k
    (rw (numbered-at sections k, h) (number_from-mem (section_room * k) pre e post))

-- the numbered cells of a section are waiting
pub section-waiting : (sections : List (List Entry)) (k : ℕ) {w : Waiting}
    → Memᴰ w (number_from (section_room * k) (get_or sections k [])) → Memᴰ w (waiting sections)
unfolding waiting
section-waiting sections k m = flatten-mem (numbered sections) k (rw (numbered-at sections k) m)

pub waiting-cells : (sections : List (List Entry)) → map entry_of (waiting sections) ≡ flatten sections
unfolding waiting
waiting-cells sections = sym (flatten-map entry_of (numbered sections)) ∙ ap flatten (numbered-entries sections)

-- a test that does not look at the number counts as many entries
pub count-waiting : (q : Entry → Bool) (sections : List (List Entry))
    → count (λ w. q (entry_of w)) (waiting sections) ≡ count q (flatten sections)
count-waiting q sections = sym (count_map q entry_of (waiting sections)) ∙ ap (count q) (waiting-cells sections)

-- and their cells are the same
pub cells-waiting : (sections : List (List Entry))
    → map (λ w. w.cell) (waiting sections) ≡ map (λ e. e.cell) (flatten sections)
cells-waiting sections =
    sym (map-map (λ e. e.cell) entry_of (waiting sections)) ∙ ap (map (λ e. e.cell)) (waiting-cells sections)

------------------------------------------------------------------------
-- after a phase, after a departure

-- the entry of a waiting cell after a phase
abbrev pub entry_after : Phase → Waiting → Entry
entry_after p e = record { cell = e.cell; place = place_after p e }

-- a waiting cell in another place
abbrev pub put_at : (Waiting → Place) → Waiting → Waiting
put_at place e = record { at = e.at; cell = e.cell; place = place e }

-- cells that are put elsewhere stand in the same order
pub waiting-placed : (place : Waiting → Place) (sections : List (List Entry))
    → waiting (placed_by place sections) ≡ map (put_at place) (waiting sections)
unfolding waiting placed_by numbered
waiting-placed place sections =
    ap flatten (number_sections-map (λ e. record { cell = e.cell; place = place e }) 0 sections)
    ∙ flatten-map (put_at place) (number_sections 0 sections)

-- a phase relocates the waiting cells and does not reorder them
pub waiting-moved : (p : Phase) (sections : List (List Entry))
    → waiting (moved p sections) ≡ relocated p (waiting sections)
unfolding moved relocated relocate
waiting-moved p sections = waiting-placed (place_after p) sections

pub moved_at : (p : Phase) (sections : List (List Entry)) (k : ℕ)
    → get_or (moved p sections) k [] ≡ map (entry_after p) (number_from (section_room * k) (get_or sections k []))
unfolding moved placed_by
moved_at p sections k =
    get_or-map (map (entry_after p)) (numbered sections) k [] ∙ ap (map (entry_after p)) (numbered-at sections k)

pub length_moved : (p : Phase) (sections : List (List Entry)) → length (moved p sections) ≡ length sections
unfolding moved placed_by
length_moved p sections = length-map (numbered sections) (map (entry_after p)) ∙ length-numbered sections

-- the cells are the same
pub moved-cells : (p : Phase) (sections : List (List Entry))
    → map (λ e. e.cell) (flatten (moved p sections)) ≡ map (λ e. e.cell) (flatten sections)
unfolding moved placed_by waiting
moved-cells p sections =
    ap (map (λ e. e.cell)) (flatten-map (entry_after p) (numbered sections))
    ∙ map-map (λ e. e.cell) (entry_after p) (waiting sections)
    ∙ cells-waiting sections

-- departure keeps the entries whose number is not among those that leave
pub flatten-without : (out : List Waiting) (sections : List (List Entry))
    → flatten (without out sections) ≡ map entry_of (keep (λ e. not (among out e)) (waiting sections))
unfolding without waiting
flatten-without out sections =
    ap flatten (sym (map-map (map entry_of) (keep stays) (numbered sections)))
    ∙ flatten-map entry_of (map (keep stays) (numbered sections))
    ∙ ap (map entry_of) (sym (keep-flatten stays (numbered sections)))
  where
    stays : Waiting → Bool
    stays e = not (among out e)

pub without-cells : (out : List Waiting) (sections : List (List Entry))
    → map (λ e. e.cell) (flatten (without out sections))
    ≡ map (λ w. w.cell) (keep (λ e. not (among out e)) (waiting sections))
without-cells out sections =
    ap (map (λ e. e.cell)) (flatten-without out sections)
    ∙ map-map (λ e. e.cell) entry_of (keep (λ e. not (among out e)) (waiting sections))

pub without_at : (out : List Waiting) (sections : List (List Entry)) (k : ℕ)
    → get_or (without out sections) k []
    ≡ map entry_of (keep (λ e. not (among out e)) (number_from (section_room * k) (get_or sections k [])))
unfolding without keep
without_at out sections k =
    get_or-map stay (numbered sections) k [] ∙ ap stay (numbered-at sections k)
  where
    stay : List Waiting → List Entry
    stay s = map entry_of (keep (λ e. not (among out e)) s)

pub length_without : (out : List Waiting) (sections : List (List Entry))
    → length (without out sections) ≡ length sections
unfolding without
length_without out sections =
    length-map (numbered sections) (λ s. map entry_of (keep (λ e. not (among out e)) s)) ∙ length-numbered sections

------------------------------------------------------------------------
-- numbers differ

-- no section has over 64 entries
abbrev pub Short : List (List Entry) → Type 0
Short sections = (k : ℕ) → length (get_or sections k []) ≤ section_room

-- so the switch has at most 64 for each input
flatten-few : (sections : List (List Entry)) → Short sections → length (flatten sections) ≤ section_room * length sections
unfolding flatten
flatten-few [] short = omega arith
flatten-few (es ∷ sections) short =
    omega (arith, length-append es (flatten sections), short 0, flatten-few sections (λ k. short (suc k)))

pub waiting_few : (sections : List (List Entry)) → Short sections
    → length (waiting sections) ≤ section_room * length sections
waiting_few sections short =
    omega (
      arith,
      length-map (waiting sections) entry_of,
      ap length (waiting-cells sections),
      flatten-few sections short,
    )

pub other_number-i : (v w : Waiting) → v.at < w.at → other_number v w ≡ true
unfolding other_number
other_number-i v w h = not-i (eqb v.at w.at) (ne_eqb v.at w.at (omega arith))

pub numbers-rise : (sections : List (List Entry)) → Short sections
    → pairwise (λ v w. ltb v.at w.at) (waiting sections) ≡ true
unfolding waiting
numbers-rise sections short =
    pairwise-flatten (λ v w. ltb v.at w.at) (numbered sections)
    (λ k. rw (numbered-at sections k) (number_from-rises (section_room * k) (get_or sections k [])))
    (λ i j v w o m n.
    across i j v w o
    (mem-number_from (section_room * i) (get_or sections i []) (rw (numbered-at sections i) at m))
    (mem-number_from (section_room * j) (get_or sections j []) (rw (numbered-at sections j) at n)))
  where
    across : (i j : ℕ) (v w : Waiting) → i < j → Placed (section_room * i) (get_or sections i []) v
        → Placed (section_room * j) (get_or sections j []) w → ltb v.at w.at ≡ true
    across i j v w o p q =
        let a : v.at < 64 * i + length (get_or sections i []) =
        placed_below (section_room * i) (get_or sections i []) v p in
        let b : length (get_or sections i []) ≤ 64 = short i in
        let c : 64 * j ≤ w.at = placed-from (section_room * j) (get_or sections j []) w q in
        lt-ltb v.at w.at (omega arith)

pub numbers-differ : (sections : List (List Entry)) → Short sections → pairwise other_number (waiting sections) ≡ true
numbers-differ sections short =
    pairwise-mono (λ v w. ltb v.at w.at) other_number (waiting sections)
    (λ v w m n h. other_number-i v w (ltb-true v.at w.at h))
    (numbers-rise sections short)

------------------------------------------------------------------------
-- who stands ahead

-- each entry stands in the section of its input
abbrev pub Housed : List (List Entry) → Type 0
Housed sections = (k : ℕ) (e : Entry) → Memᴰ e (get_or sections k []) → e.cell.input ≡ k

pub stands-input : (sections : List (List Entry)) → Housed sections → (w : Waiting) (s : Stands sections w)
    → w.cell.input ≡ s.input
stands-input sections housed w s = housed s.input (entry_of w) (stands-entry sections w s)

ahead-fail : (v w : Waiting) → (v.cell.input ≡ w.cell.input → v.at < w.at → ⊥) → ahead v w ≡ false
ahead-fail v w h = by-fail (ahead v w) (λ a. h (ahead-input v w a) (ahead-at v w a))

-- the listed cells ahead of a cell are those that stand before it in its section
pub ahead-prefix : (sections : List (List Entry)) → Housed sections
    → (k : ℕ) (pre : List Entry) (e : Entry) (post : List Entry) → get_or sections k [] ≡ pre ++ e ∷ post
    → count (λ f. is_listed f.place && ahead f (numbered_at (section_room * k + length pre) e)) (waiting sections)
    ≡ count (λ f. is_listed f.place) pre
unfolding waiting number_from
ahead-prefix sections housed k pre e post split =
    count-flatten-one q (numbered sections) k (λ j n. none?-i q (get_or (numbered sections) j []) (elsewhere j n))
    ∙ ap (count q) (numbered-at sections k ∙ ap (number_from from) split ∙ number_from-append from pre (e ∷ post))
    ∙ count-append q (number_from from pre) (w ∷ number_from (from + length pre + 1) post)
    ∙ ap₂ ◌+◌ front back
    ∙ (omega arith)
  where
    from : ℕ
    from = section_room * k

    w : Waiting
    w = numbered_at (from + length pre) e

    q : Waiting → Bool
    q f = is_listed f.place && ahead f w

    listed_entry : Entry → Bool
    listed_entry f = is_listed f.place

    home : (f : Entry) → Memᴰ f (pre ++ e ∷ post) → f.cell.input ≡ k
    home f m = housed k f (rw split m)

    elsewhere : (j : ℕ) → j ≢ k → (f : Waiting) → Memᴰ f (get_or (numbered sections) j []) → q f ≡ false
    elsewhere j n f m =
        let p : Placed (section_room * j) (get_or sections j []) f =
        mem-number_from (section_room * j) (get_or sections j []) (rw (numbered-at sections j) at m) in
        let i : f.cell.input ≡ j = housed j (entry_of f) (placed-entry (section_room * j) (get_or sections j []) f p) in
        let o : e.cell.input ≡ k = home e (mathlib.Core.List.Memᴰ.append_right pre (mathlib.Core.List.Memᴰ.head refl)) in
        and_false_r (is_listed f.place) (ahead f w) (ahead-fail f w (λ s l. n (sym i ∙ s ∙ o)))

    front : count q (number_from from pre) ≡ count listed_entry pre
    front =
        count-ext q (λ f. listed_entry (entry_of f)) (number_from from pre) (λ f m. same f (mem-number_from from pre m))
        ∙ sym (count_map listed_entry entry_of (number_from from pre))
        ∙ ap (count listed_entry) (number_from-entries from pre)
      where
        same : (f : Waiting) → Placed from pre f → q f ≡ is_listed f.place
        same f p =
            ap (λ b. is_listed f.place && b)
            (ahead-i f w
            (home (entry_of f) (mathlib.Core.List.Memᴰ.append_left (e ∷ post) (placed-entry from pre f p))
            ∙ sym (home e (mathlib.Core.List.Memᴰ.append_right pre (mathlib.Core.List.Memᴰ.head refl))))
            (placed_below from pre f p))
            ∙ and-true (is_listed f.place)

    back : ◌≡◌ {A = ℕ} (count q (w ∷ number_from (from + length pre + 1) post)) 0
    back =
        count-zero q (w ∷ number_from (from + length pre + 1) post)
        (none?-i q (w ∷ number_from (from + length pre + 1) post) (λ f m. late f (mathlib.Core.List.Memᴰ.cases_cons m)))
      where
        fails : (f : Waiting) → from + length pre ≤ f.at → q f ≡ false
        fails f h =
            and_false_r (is_listed f.place) (ahead f w)
            (ahead-fail f w (λ s l. omega arith))

        late : (f : Waiting) → (f ≡ w) ⊎ Memᴰ f (number_from (from + length pre + 1) post) → q f ≡ false
        late f (inl i) =
            let n : f.at ≡ from + length pre = ap (λ v. v.at) i in
            fails f (omega arith)
        late f (inr m) =
            let n : from + length pre + 1 ≤ f.at = placed-from _ _ f (mem-number_from (from + length pre + 1) post m) in
            fails f (omega arith)
