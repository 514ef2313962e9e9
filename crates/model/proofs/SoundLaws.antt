-- The laws of a sound table. Nothing else looks inside `sound` and its parts; section k is `get_or sections k []`.
--     together-           cells of a flow stand together in output priority: its clauses; -over, two of one flow;
--                         -keep, fewer cells; -insert, one more at the end of its flow
--     entry-i, entry-e    a sound entry, field by field
--     section-i, section-e
--     sections-i, sections-e   every section, from its number
--     sound-i, sound-e    the whole table
--     section-later       a later clock
use Prim.Native.Nat.{ℕ, zero, suc, ◌+◌, ◌≤◌, ◌<◌}
use native.Mathlib.Omega.{arith}
use mathlib.Core.Bool.{Bool, true, false, ◌&&◌, ◌||◌}
use mathlib.Core.Path.{◌≡◌, refl, sym, ◌∙◌, ap, ap₂}
use mathlib.Core.Logic.{◌⊎◌, inl, inr}
use mathlib.Core.List.Memᴰ
use mathlib.Core.List.{List, [], ◌∷◌, ◌++◌, map, Memᴰ}
use lib.Dec.{leb}
use lib.ListN.{length, get_or}
use borrow.Author.Tests.{ltb-true, leb-true, eqb-true, lt-ltb, le-leb, eq-eqb}
use Rattle.laws.specs.Lists.{keep, none?, all?, pairwise}
use Rattle.laws.proofs.Tests.{clash, by-fail, and_i, and_l, and_r, or_l, or_r, or_cases}
use Rattle.laws.proofs.Lists.{none?-e, none?-i, none?-clash, none?-mono, none?-within, none?-map, all?-e, all?-i}
use Rattle.laws.proofs.Lists.{keep-pass, keep-fail, keep-nil, mem-keep-in}
use Rattle.cell.specs.declared.Cell.{Cell}
use Rattle.cell.specs.Flow.{same_flow}
use Rattle.cell.specs.Limits.{ports_in_range, flow_in_range, fits32, section_room}
use Rattle.cell.specs.Order.{over}
use Rattle.cell.proofs.Flow.{flow-sym, flow-trans}
use Rattle.cell.proofs.Order.{over-trans}
use Rattle.model.specs.State.{Place, Entry, Switch, is_listed}
use Rattle.model.specs.Sound.{sound_entry, together, other_slot, other_crosspoint, sound_section, sound_sections}
use Rattle.model.specs.Sound.{sound}

------------------------------------------------------------------------
-- together

-- of the same flow
abbrev pub of_flow : Entry → Entry → Bool
of_flow e g = same_flow e.cell g.cell

-- of the same flow, and comes after
abbrev pub after : ℕ → Entry → Entry → Bool
after ports e f = of_flow e f && over ports e.cell f.cell

-- the next one is of the same flow and comes after, or no later one is of the same flow
pub data Next (ports : ℕ) (e f : Entry) (es : List Entry) : Type 0 where
  follows : of_flow e f ≡ true → over ports e.cell f.cell ≡ true → Next ports e f es
  last : none? (of_flow e) (f ∷ es) ≡ true → Next ports e f es

pub together-one : (ports : ℕ) (e : Entry) → together ports (e ∷ []) ≡ true
unfolding together
together-one ports e = refl

pub together-next : (ports : ℕ) (e f : Entry) (es : List Entry) → together ports (e ∷ f ∷ es) ≡ true → Next ports e f es
unfolding together
together-next ports e f es h =
    go (or_cases (after ports e f) (none? (of_flow e) (f ∷ es))
    (and_l (after ports e f || none? (of_flow e) (f ∷ es)) (together ports (f ∷ es)) h))
  where
    go : (after ports e f ≡ true) ⊎ (none? (of_flow e) (f ∷ es) ≡ true) → Next ports e f es
    go (inl b) =
        follows (and_l (of_flow e f) (over ports e.cell f.cell) b)
        (and_r (of_flow e f) (over ports e.cell f.cell) b)
    go (inr a) = last a

pub together-tail : (ports : ℕ) (e : Entry) (es : List Entry) → together ports (e ∷ es) ≡ true
    → together ports es ≡ true
unfolding together
together-tail ports e [] h = refl
together-tail ports e (f ∷ es) h = and_r (after ports e f || none? (of_flow e) (f ∷ es)) (together ports (f ∷ es)) h

pub together-cons : (ports : ℕ) (e f : Entry) (es : List Entry) → Next ports e f es → together ports (f ∷ es) ≡ true
    → together ports (e ∷ f ∷ es) ≡ true
unfolding together
together-cons ports e f es n t = and_i (after ports e f || none? (of_flow e) (f ∷ es)) (together ports (f ∷ es)) (go n) t
  where
    go : Next ports e f es → (after ports e f || none? (of_flow e) (f ∷ es)) ≡ true
    go (follows s o) =
        or_l (after ports e f) (none? (of_flow e) (f ∷ es)) (and_i (of_flow e f) (over ports e.cell f.cell) s o)
    go (last a) = or_r (after ports e f) (none? (of_flow e) (f ∷ es)) a

-- one whose flow has no later cell may stand at the front
pub together-front : (ports : ℕ) (e : Entry) (es : List Entry) → none? (of_flow e) es ≡ true → together ports es ≡ true
    → together ports (e ∷ es) ≡ true
together-front ports e [] n t = together-one ports e
together-front ports e (f ∷ es) n t = together-cons ports e f es (last n) t

-- none later is of the flow of one that is of the same flow
none_alike : (e f : Entry) (es : List Entry) → of_flow e f ≡ true → none? (of_flow f) es ≡ true
    → none? (of_flow e) es ≡ true
none_alike e f es s n =
    none?-mono (of_flow f) (of_flow e) es
    (λ g m t. flow-trans f.cell e.cell g.cell (flow-sym e.cell f.cell s) t) n

-- the second may go
together-skip : (ports : ℕ) (e f : Entry) (es : List Entry) → together ports (e ∷ f ∷ es) ≡ true
    → together ports (e ∷ es) ≡ true
together-skip ports e f [] h = together-one ports e
together-skip ports e f (g ∷ es) h =
    let t : together ports (f ∷ g ∷ es) ≡ true = together-tail ports e (f ∷ g ∷ es) h in
    together-cons ports e g es (go (together-next ports e f (g ∷ es) h) (together-next ports f g es t))
    (together-tail ports f (g ∷ es) t)
  where
    go : Next ports e f (g ∷ es) → Next ports f g es → Next ports e g es
    go (follows s o) (follows s' o') =
        follows (flow-trans e.cell f.cell g.cell s s') (over-trans ports e.cell f.cell g.cell o o')
    go (follows s o) (last n) = last (none_alike e f (g ∷ es) s n)
    go (last n) k = last (none?-within (of_flow e) (g ∷ es) (f ∷ g ∷ es) (λ x m t. Memᴰ.tail m) n)

-- of two cells of one flow the earlier is over the later
pub together-over : (ports : ℕ) (e : Entry) (es : List Entry) {g : Entry} → together ports (e ∷ es) ≡ true
    → Memᴰ g es
    → of_flow e g ≡ true → over ports e.cell g.cell ≡ true
together-over ports e [] h m s = absurd (Memᴰ.not-nil m)
together-over ports e (f ∷ es) {g} h m s =
    go (together-next ports e f es h) (Memᴰ.cases_cons m) (together-over ports e es (together-skip ports e f es h))
  where
    go : Next ports e f es → (g ≡ f) ⊎ Memᴰ g es
        → (Memᴰ g es → of_flow e g ≡ true → over ports e.cell g.cell ≡ true)
        → over ports e.cell g.cell ≡ true
    go (follows t o) (inl q) rec = rw q o
    go (last n) (inl q) rec = absurd (none?-clash (of_flow e) n m s)
    go k (inr i) rec = rec i s

-- an entry that stands before another of its flow in a list is over it
pub together-split : (ports : ℕ) (pre : List Entry) (e : Entry) (post : List Entry) {g : Entry}
    → together ports (pre ++ e ∷ post) ≡ true → Memᴰ g post → of_flow e g ≡ true
    → over ports e.cell g.cell ≡ true
together-split ports [] e post h m s = together-over ports e post h m s
together-split ports (f ∷ pre) e post h m s =
    together-split ports pre e post (together-tail ports f (pre ++ e ∷ post) h) m s

module _ (ports : ℕ) {A : Type 0} (f : A → Entry) (p : A → Bool) where
  together-keep-after : (x : A) (l : List A) → together ports (f x ∷ map f l) ≡ true
      → together ports (map f (keep p l)) ≡ true
      → together ports (f x ∷ map f (keep p l)) ≡ true
  together-keep-after x [] h t = rw (keep-nil p) (together-one ports (f x))
  together-keep-after x (y ∷ l) h t =
      go (p y) refl (together-keep-after x l (together-skip ports (f x) (f y) (map f l) h))
    where
      next : Next ports (f x) (f y) (map f l) → Next ports (f x) (f y) (map f (keep p l))
      next (follows s o) = follows s o
      next (last n) =
          last
          (none?-within (of_flow (f x)) (f y ∷ map f (keep p l)) (f y ∷ map f l)
          (λ g m t. fewer g (Memᴰ.cases_cons m)) n)
        where
          fewer : (g : Entry) → (g ≡ f y) ⊎ Memᴰ g (map f (keep p l)) → Memᴰ g (f y ∷ map f l)
          fewer g (inl q) = Memᴰ.head q
          fewer g (inr m) =
              let w = Memᴰ.of_map f (keep p l) m in
              Memᴰ.tail (Memᴰ.cast (sym w.2) (Memᴰ.map f (mem-keep-in p l w.1)))

      go : (b : Bool) → p y ≡ b
          → (together ports (map f (keep p l)) ≡ true → together ports (f x ∷ map f (keep p l)) ≡ true)
          → together ports (f x ∷ map f (keep p (y ∷ l))) ≡ true
      go true e rec =
          rw (keep-pass p y l e)
          (together-cons ports (f x) (f y) (map f (keep p l)) (next (together-next ports (f x) (f y) (map f l) h))
          (rw (keep-pass p y l e) at t))
      go false e rec = rw (keep-fail p y l e) (rec (rw (keep-fail p y l e) at t))

  -- fewer cells still stand together
  pub together-keep : (l : List A) → together ports (map f l) ≡ true → together ports (map f (keep p l)) ≡ true
  together-keep [] h = rw (keep-nil p) h
  together-keep (x ∷ l) h = go (p x) refl (together-keep l (together-tail ports (f x) (map f l) h))
    where
      go : (b : Bool) → p x ≡ b → together ports (map f (keep p l)) ≡ true
          → together ports (map f (keep p (x ∷ l))) ≡ true
      go true e rec = rw (keep-pass p x l e) (together-keep-after x l h rec)
      go false e rec = rw (keep-fail p x l e) rec

-- the places take no part
pub together-places : (ports : ℕ) {A : Type 0} (c : A → Cell) (u v : A → Place) (l : List A)
    → together ports (map (λ x. record { cell = c x; place = u x }) l)
    ≡ together ports (map (λ x. record { cell = c x; place = v x }) l)
unfolding together
together-places ports c u v [] = refl
together-places ports c u v (x ∷ []) = refl
together-places ports c u v (x ∷ y ∷ l) =
    ap₂ (λ n t. ((same_flow (c x) (c y) && over ports (c x) (c y)) || n) && t)
    (none?-map (λ g. same_flow (c x) g.cell) (λ z. record { cell = c z; place = u z }) (y ∷ l)
    ∙ sym (none?-map (λ g. same_flow (c x) g.cell) (λ z. record { cell = c z; place = v z }) (y ∷ l)))
    (together-places ports c u v (y ∷ l))

-- one more of the flow of e right after e adds nothing to the other flows
none-insert : (a : Entry) (l : List Entry) (e n : Entry) (post : List Entry) → of_flow e n ≡ true
    → none? (of_flow a) (l ++ e ∷ post) ≡ true → none? (of_flow a) (l ++ e ∷ n ∷ post) ≡ true
none-insert a l e n post s h = none?-i (of_flow a) (l ++ e ∷ n ∷ post) (λ g m. front g (Memᴰ.append_cases l m))
  where
    old : (g : Entry) → Memᴰ g (l ++ e ∷ post) → of_flow a g ≡ false
    old g m = none?-e (of_flow a) h m

    new : of_flow a n ≡ false
    new =
        by-fail (of_flow a n) (λ t.
        clash (flow-trans a.cell n.cell e.cell t (flow-sym e.cell n.cell s))
        (old e (Memᴰ.append_right l (Memᴰ.head refl))))

    second : (g : Entry) → (g ≡ n) ⊎ Memᴰ g post → of_flow a g ≡ false
    second g (inl q) = ap (of_flow a) q ∙ new
    second g (inr m) = old g (Memᴰ.append_right l (Memᴰ.tail m))

    first : (g : Entry) → (g ≡ e) ⊎ Memᴰ g (n ∷ post) → of_flow a g ≡ false
    first g (inl q) = old g (Memᴰ.append_right l (Memᴰ.head q))
    first g (inr m) = second g (Memᴰ.cases_cons m)

    front : (g : Entry) → Memᴰ g l ⊎ Memᴰ g (e ∷ n ∷ post) → of_flow a g ≡ false
    front g (inl m) = old g (Memᴰ.append_left (e ∷ post) m)
    front g (inr m) = first g (Memᴰ.cases_cons m)

-- one more cell right after the last one of its flow
pub together-insert : (ports : ℕ) (pre : List Entry) (e n : Entry) (post : List Entry)
    → together ports (pre ++ e ∷ post) ≡ true
    → of_flow e n ≡ true → over ports e.cell n.cell ≡ true → none? (of_flow n) post ≡ true
    → together ports (pre ++ e ∷ n ∷ post) ≡ true
together-insert ports [] e n post h s o z =
    together-cons ports e n post (follows s o) (together-front ports n post z (together-tail ports e post h))
together-insert ports (a ∷ []) e n post h s o z =
    together-cons ports a e (n ∷ post) (more (together-next ports a e post h))
    (together-insert ports [] e n post (together-tail ports a (e ∷ post) h) s o z)
  where
    more : Next ports a e post → Next ports a e (n ∷ post)
    more (follows t k) = follows t k
    more (last k) = last (none-insert a [] e n post s k)
together-insert ports (a ∷ b ∷ pre) e n post h s o z =
    together-cons ports a b (pre ++ e ∷ n ∷ post) (more (together-next ports a b (pre ++ e ∷ post) h))
    (together-insert ports (b ∷ pre) e n post (together-tail ports a (b ∷ pre ++ e ∷ post) h) s o z)
  where
    more : Next ports a b (pre ++ e ∷ post) → Next ports a b (pre ++ e ∷ n ∷ post)
    more (follows t k) = follows t k
    more (last k) = last (none-insert a (b ∷ pre) e n post s k)

------------------------------------------------------------------------
-- one entry

pub record SoundEntry (ports clock k : ℕ) (e : Entry) : Type 0 where
  pub input : e.cell.input ≡ k
  pub output : e.cell.output < ports
  pub flow : flow_in_range e.cell.flow ≡ true
  pub rank : fits32 e.cell.rank ≡ true
  pub tag : fits32 e.cell.tag ≡ true
  pub slot : e.cell.slot < clock

pub entry-e : (ports clock k : ℕ) (e : Entry) → sound_entry ports clock k e ≡ true → SoundEntry ports clock k e
unfolding sound_entry
entry-e ports clock k e h =
    record {
      input = search (and_l, eqb-true);
      output = search (and_l, and_r, ltb-true) depth 9;
      flow = search (and_l, and_r) depth 9;
      rank = search (and_l, and_r) depth 9;
      tag = search (and_l, and_r) depth 9;
      slot = search (and_l, and_r, ltb-true) depth 9;
    }

pub entry-i : (ports clock k : ℕ) (e : Entry) → SoundEntry ports clock k e → sound_entry ports clock k e ≡ true
unfolding sound_entry
entry-i ports clock k e s = search (and_i, eq-eqb, lt-ltb) depth 9

------------------------------------------------------------------------
-- one section

pub record SoundSection (ports clock k : ℕ) (es : List Entry) : Type 0 where
  pub short : length es ≤ section_room
  pub entries : (e : Entry) → Memᴰ e es → SoundEntry ports clock k e
  pub flows : together ports (keep (λ e. is_listed e.place) es) ≡ true
  pub slots : pairwise other_slot es ≡ true
  pub crosspoints : pairwise other_crosspoint es ≡ true

pub section-e : (ports clock k : ℕ) (es : List Entry) → sound_section ports clock k es ≡ true
    → SoundSection ports clock k es
unfolding sound_section
section-e ports clock k es h =
    let short : leb (length es) section_room ≡ true = search and_l in
    let entries : all? (sound_entry ports clock k) es ≡ true = search (and_l, and_r) depth 9 in
    record {
      short = leb-true (length es) section_room short;
      entries = λ e m. entry-e ports clock k e (all?-e (sound_entry ports clock k) entries m);
      flows = search (and_l, and_r) depth 9;
      slots = search (and_l, and_r) depth 9;
      crosspoints = search (and_l, and_r) depth 9;
    }

pub section-i : (ports clock k : ℕ) (es : List Entry) → SoundSection ports clock k es
    → sound_section ports clock k es ≡ true
unfolding sound_section
section-i ports clock k es s =
    let entries : all? (sound_entry ports clock k) es ≡ true =
    all?-i (sound_entry ports clock k) es (λ e m. entry-i ports clock k e (s.entries e m)) in
    search (and_i, le-leb) depth 9

pub section-nil : (ports clock k : ℕ) → sound_section ports clock k [] ≡ true
unfolding sound_section all? together keep pairwise
section-nil ports clock k = refl

------------------------------------------------------------------------
-- every section

-- past the end a section is empty
pub sections-at : (ports clock input : ℕ) (sections : List (List Entry))
    → sound_sections ports clock input sections ≡ true
    → (k : ℕ) → sound_section ports clock (input + k) (get_or sections k []) ≡ true
unfolding sound_sections
sections-at ports clock input [] h k = section-nil ports clock (input + k)
sections-at ports clock input (es ∷ sections) h zero =
    let n : input + 0 ≡ input = omega arith in
    rw n (and_l (sound_section ports clock input es) (sound_sections ports clock (input + 1) sections) h)
sections-at ports clock input (es ∷ sections) h (suc k) =
    let n : input + suc k ≡ input + 1 + k = omega arith in
    rw n
    (sections-at ports clock (input + 1) sections
    (and_r (sound_section ports clock input es) (sound_sections ports clock (input + 1) sections) h) k)

pub sections-by : (ports clock input : ℕ) (sections : List (List Entry))
    → ((k : ℕ) → sound_section ports clock (input + k) (get_or sections k []) ≡ true)
    → sound_sections ports clock input sections ≡ true
unfolding sound_sections
sections-by ports clock input [] h = refl
sections-by ports clock input (es ∷ sections) h =
    let n : input + 0 ≡ input = omega arith in
    and_i (sound_section ports clock input es) (sound_sections ports clock (input + 1) sections)
    (rw n at (h 0))
    (sections-by ports clock (input + 1) sections (λ k.
    let m : input + suc k ≡ input + 1 + k = omega arith in
    rw m at (h (suc k))))

pub sections-e : (ports clock : ℕ) (sections : List (List Entry)) → sound_sections ports clock 0 sections ≡ true
    → (k : ℕ) → SoundSection ports clock k (get_or sections k [])
sections-e ports clock sections h k =
    let n : 0 + k ≡ k = omega arith in
    section-e ports clock k (get_or sections k []) (rw n at (sections-at ports clock 0 sections h k))

pub sections-i : (ports clock : ℕ) (sections : List (List Entry))
    → ((k : ℕ) → SoundSection ports clock k (get_or sections k [])) → sound_sections ports clock 0 sections ≡ true
sections-i ports clock sections h =
    sections-by ports clock 0 sections (λ k.
    let n : 0 + k ≡ k = omega arith in
    rw n (section-i ports clock k (get_or sections k []) (h k)))

-- a later clock
pub section-later : (ports clock k : ℕ) (es : List Entry) → SoundSection ports clock k es
    → SoundSection ports (clock + 1) k es
section-later ports clock k es s =
    record {
      short = s.short;
      entries = λ e m. later (s.entries e m);
      flows = s.flows;
      slots = s.slots;
      crosspoints = s.crosspoints;
    }
  where
    later : {e : Entry} → SoundEntry ports clock k e → SoundEntry ports (clock + 1) k e
    later t =
        record {
          input = t.input;
          output = t.output;
          flow = t.flow;
          rank = t.rank;
          tag = t.tag;
          slot = omega (arith, t.slot);
        }

------------------------------------------------------------------------
-- the table

pub record SoundTable (s : Switch) : Type 0 where
  pub ports : ports_in_range s.ports ≡ true
  pub clock : fits32 s.clock ≡ true
  pub inputs : length s.sections ≡ s.ports
  pub sections : sound_sections s.ports s.clock 0 s.sections ≡ true

pub sound-e : (s : Switch) → sound s ≡ true → SoundTable s
unfolding sound
sound-e s h =
    record {
      ports = search and_l;
      clock = search (and_l, and_r) depth 9;
      inputs = search (and_l, and_r, eqb-true) depth 9;
      sections = search (and_l, and_r) depth 9;
    }

pub sound-i : (s : Switch) → SoundTable s → sound s ≡ true
unfolding sound
sound-i s t = search (and_i, eq-eqb) depth 9
