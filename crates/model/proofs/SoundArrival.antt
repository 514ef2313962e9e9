-- Arrival keeps the table sound, for the clock of the next slot.
--     Enters, enters             where a new cell enters a section: in front, or behind the last one of its flow
--     Inserted, inserted         between which entries it stands then
--     enter-sound                of one section
--     Arrived, arrive-at         each section gets at most one cell
--     length-arrive, arrive-entries, arrive-count
--     arrival-follows, arrival-room   what the checks 7 and 8 say of the table
--     arrival-entry, arrival-rooms    what all checks say of each new cell
--     arrival-sound              of the whole table
use Prim.Native.Nat.{ℕ, ◌+◌, ◌≤◌, ◌<◌}
use native.Mathlib.Omega.{arith}
use mathlib.Core.Bool.{Bool, true, false, cond, not, ◌&&◌}
use mathlib.Core.Path.{◌≡◌, refl, sym, ◌∙◌, ap}
use mathlib.Core.Logic.{◌⊎◌, inl, inr}
use mathlib.Core.List.Memᴰ
use mathlib.Core.List.{List, [], ◌∷◌, ◌++◌, map, flatten, Memᴰ}
use mathlib.Core.Option.{none}
use lib.Dec.{ltb, eqb}
use lib.ListN.{length, get_or}
use lib.Seq.{append_snoc}
use borrow.Author.Tests.{ltb-false, leb-false, eq-eqb}
use Rattle.laws.specs.Lists.{keep, some?, none?, all?, count, pairwise, update}
use Rattle.laws.proofs.Tests.{clash, by-fail, and_i, and_l, and_r, and_false_r, or_cases}
use Rattle.laws.proofs.Lists.{some?-i, none?-not-some?, none?-false, none?-i, all?-e, all?-i, keep_append, keep-pass}
use Rattle.laws.proofs.Lists.{mem-keep-in, mem-keep-passes, none?-clash}
use Rattle.laws.proofs.Count.{count_map, count-all}
use Rattle.cell.specs.declared.Arrival.{Arrival}
use Rattle.cell.specs.declared.Cell.{Cell}
use Rattle.cell.specs.Cell.{accepted, arrival_fits}
use Rattle.cell.specs.Flow.{same_flow}
use Rattle.cell.specs.Limits.{cell_limit, section_room, fits32}
use Rattle.cell.proofs.Flow.{flow-sym}
use Rattle.cell.proofs.Order.{over-in-flow}
use Rattle.model.specs.State.{Place, listed, Entry, Switch, cells, is_listed, is_crossed}
use Rattle.model.specs.Checks.{falling_rank, full, first_fault}
use Rattle.model.specs.Crossbar.{in_list_of, new_entry, enter, enter_after, arrive}
use Rattle.model.specs.Sound.{together, sound_sections, sound}
use Rattle.model.proofs.Admitted.{Admitted, admitted}
use Rattle.model.proofs.Bags.{flatten-mem, mem-flatten}
use Rattle.model.proofs.Enter.{new-cell, new-listed, in_list, in-flow, is_last, enter_after-last, enter_after-next}
use Rattle.model.proofs.Enter.{enter-after, enter-front}
use Rattle.model.proofs.Insert.{Between, count-between, between-sound, Came, come-at}
use Rattle.model.proofs.Insert.{length-come, come-count, come-sound}
pub use Rattle.model.proofs.Insert.{kept, entered}
use Rattle.model.proofs.Sections.{count-flatten-at}
use Rattle.model.proofs.SlackArrival.{Follows, FollowAll}
use Rattle.model.proofs.SoundLaws.{of_flow, together-front, together-insert, SoundEntry, SoundSection, sections-e}
use Rattle.model.proofs.SoundLaws.{SoundTable, sound-e}

------------------------------------------------------------------------
-- where a new cell enters

pub data Enters (c : Cell) (es : List Entry) : Type 0 where
  front : none? (in_list_of c) es ≡ true → enter c es ≡ new_entry c ∷ es → Enters c es
  behind : (pre : List Entry) (e : Entry) (post : List Entry) → es ≡ pre ++ e ∷ post → in_list_of c e ≡ true
      → none? (in_list_of c) post ≡ true → enter c es ≡ pre ++ e ∷ new_entry c ∷ post → Enters c es

-- the same of enter_after
record EntersAfter (c : Cell) (es : List Entry) : Type 0 where
  pre : List Entry
  e : Entry
  post : List Entry
  split : es ≡ pre ++ e ∷ post
  flow : in_list_of c e ≡ true
  last : none? (in_list_of c) post ≡ true
  entered : enter_after c es ≡ pre ++ e ∷ new_entry c ∷ post

enters-after : (c : Cell) (es : List Entry) → some? (in_list_of c) es ≡ true → EntersAfter c es
unfolding some? is_last
enters-after c [] s = absurd (mathlib.Core.Bool.false≢true s)
enters-after c (x ∷ es) s = go (some? (in_list_of c) es) refl (enters-after c es)
  where
    later : some? (in_list_of c) es ≡ true → EntersAfter c es → EntersAfter c (x ∷ es)
    later h w =
        record {
          pre = x ∷ w.pre;
          e = w.e;
          post = w.post;
          split = ap (λ r. x ∷ r) w.split;
          flow = w.flow;
          last = w.last;
          entered =
              enter_after-next c x es
              (and_false_r (in_list_of c x) (none? (in_list_of c) es) (none?-false (in_list_of c) es h))
              ∙ ap (λ r. x ∷ r) w.entered;
        }

    none-later : some? (in_list_of c) es ≡ false → none? (in_list_of c) es ≡ true
    none-later h = none?-not-some? (in_list_of c) es ∙ ap not h

    first : some? (in_list_of c) es ≡ false → (in_list_of c x ≡ true) ⊎ (some? (in_list_of c) es ≡ true)
        → in_list_of c x ≡ true
    first h (inl f) = f
    first h (inr t) = absurd (clash t h)

    here : some? (in_list_of c) es ≡ false → in_list_of c x ≡ true → EntersAfter c (x ∷ es)
    here h f =
        record {
          pre = [];
          e = x;
          post = es;
          split = refl;
          flow = f;
          last = none-later h;
          entered = enter_after-last c x es (and_i (in_list_of c x) (none? (in_list_of c) es) f (none-later h));
        }

    go : (b : Bool) → some? (in_list_of c) es ≡ b → (some? (in_list_of c) es ≡ true → EntersAfter c es)
        → EntersAfter c (x ∷ es)
    go true h rec = later h (rec h)
    go false h rec = here h (first h (or_cases (in_list_of c x) (some? (in_list_of c) es) s))

pub enters : (c : Cell) (es : List Entry) → Enters c es
enters c es = go (some? (in_list_of c) es) refl
  where
    go : (b : Bool) → some? (in_list_of c) es ≡ b → Enters c es
    go true h =
        let w = enters-after c es h in
        behind w.pre w.e w.post w.split w.flow w.last (enter-after c es h ∙ w.entered)
    go false h = front (none?-not-some? (in_list_of c) es ∙ ap not h) (enter-front c es h)

-- between which entries it stands then
abbrev pub Inserted : Cell → List Entry → Type 0
Inserted c es = Between (new_entry c) es (enter c es)

pub inserted : (c : Cell) (es : List Entry) → Inserted c es
inserted c es = go (enters c es)
  where
    go : Enters c es → Inserted c es
    go (front n e) = record { pre = []; post = es; split = refl; entered = e }
    go (behind pre d post s f n e) =
        record {
          pre = pre ++ (d ∷ []);
          post = post;
          split = s ∙ sym (append_snoc pre d post);
          entered = e ∙ sym (append_snoc pre d (new_entry c ∷ post));
        }

-- the new entry and those that were there
count-enter : (p : Entry → Bool) (c : Cell) (es : List Entry)
    → count p (enter c es) ≡ cond (p (new_entry c)) 1 0 + count p es
count-enter p c es = count-between (new_entry c) es (enter c es) (inserted c es) p

------------------------------------------------------------------------
-- one section

new-uncrossed : (c : Cell) → is_crossed (new_entry c).place ≡ false
unfolding new_entry is_crossed
new-uncrossed c = refl

abbrev listed_entry : Entry → Bool
listed_entry e = is_listed e.place

-- in the list the new cell stands together with its flow
enter-together : (ports : ℕ) (c : Cell) (es : List Entry) → together ports (keep listed_entry es) ≡ true
    → Follows ports es c
    → together ports (keep listed_entry (enter c es)) ≡ true
unfolding new_entry in_list_of
enter-together ports c es h follows = go (enters c es)
  where
    n : Entry
    n = new_entry c

    -- no listed one of the flow
    alone : (l : List Entry) → none? (in_list_of c) l ≡ true → none? (of_flow n) (keep listed_entry l) ≡ true
    alone l z =
        none?-i (of_flow n) (keep listed_entry l) (λ g m.
        by-fail (of_flow n g) (λ t.
        none?-clash (in_list_of c) z (mem-keep-in listed_entry l m)
        (and_i (is_listed g.place) (same_flow g.cell c)
        (mem-keep-passes listed_entry l m)
        (flow-sym c g.cell t))))

    go : Enters c es → together ports (keep listed_entry (enter c es)) ≡ true
    go (front z e) =
        rw (e, keep-pass listed_entry n es (new-listed c)) (together-front ports n (keep listed_entry es) (alone es z) h)
    go (behind pre d post s f z e) =
        let old : keep listed_entry es ≡ keep listed_entry pre ++ d ∷ keep listed_entry post =
        ap (keep listed_entry) s
        ∙ keep_append listed_entry pre (d ∷ post)
        ∙ ap (λ r. keep listed_entry pre ++ r) (keep-pass listed_entry d post (in_list c d f)) in
        let now : keep listed_entry (enter c es) ≡ keep listed_entry pre ++ d ∷ n ∷ keep listed_entry post =
        ap (keep listed_entry) e
        ∙ keep_append listed_entry pre (d ∷ n ∷ post)
        ∙ ap (λ r. keep listed_entry pre ++ r)
        (keep-pass listed_entry d (n ∷ post) (in_list c d f)
        ∙ ap (λ r. d ∷ r) (keep-pass listed_entry n post (new-listed c))) in
        rw now
        (together-insert ports (keep listed_entry pre) d n (keep listed_entry post) (rw old at h)
        (in-flow c d f)
        (follows d (rw s (Memᴰ.append_right pre (Memᴰ.head refl))) (in-flow c d f))
        (alone post z))

-- a new cell, fit for the section, with room for it
pub enter-sound : (ports clock k : ℕ) (c : Cell) (es : List Entry) → SoundSection ports clock k es
    → SoundEntry ports (clock + 1) k (new_entry c) → c.slot ≡ clock → length es < section_room → Follows ports es c
    → SoundSection ports (clock + 1) k (enter c es)
enter-sound ports clock k c es s new slot room follows =
    between-sound (new_entry c) es (enter c es) (inserted c es) ports clock k s new
    (ap (λ d. d.slot) (new-cell c) ∙ slot)
    (new-uncrossed c) room
    (enter-together ports c es s.flows follows)

------------------------------------------------------------------------
-- all sections

arrive-nil : (sections : List (List Entry)) → arrive [] sections ≡ sections
unfolding arrive
arrive-nil sections = refl

arrive-cons : (c : Cell) (cs : List Cell) (sections : List (List Entry))
    → arrive (c ∷ cs) sections ≡ arrive cs (update c.input (enter c) sections)
unfolding arrive
arrive-cons c cs sections = refl

-- what arrival makes of section k: nothing has come, or one cell
abbrev pub Arrived : List Cell → List (List Entry) → ℕ → Type 0
Arrived cs sections k = Came enter cs sections (arrive cs sections) k

pub arrive-at : (cs : List Cell) (sections : List (List Entry))
    → ((c : Cell) → Memᴰ c cs → c.input < length sections)
    → pairwise (λ c d. ltb c.input d.input) cs ≡ true → (k : ℕ) → Arrived cs sections k
arrive-at = come-at enter arrive arrive-nil arrive-cons

pub length-arrive : (cs : List Cell) (sections : List (List Entry)) → length (arrive cs sections) ≡ length sections
length-arrive = length-come enter arrive arrive-nil arrive-cons

-- the entries, and so the cells, are those that were there and those that came
pub arrive-entries : (p : Entry → Bool) (cs : List Cell) (sections : List (List Entry))
    → ((c : Cell) → Memᴰ c cs → c.input < length sections)
    → count p (flatten (arrive cs sections)) ≡ count (λ c. p (new_entry c)) cs + count p (flatten sections)
arrive-entries = come-count enter arrive arrive-nil arrive-cons new_entry count-enter

pub arrive-count : (p : Cell → Bool) (cs : List Cell) (sections : List (List Entry))
    → ((c : Cell) → Memᴰ c cs → c.input < length sections)
    → count p (map (λ e. e.cell) (flatten (arrive cs sections)))
    ≡ count p cs + count p (map (λ e. e.cell) (flatten sections))
unfolding new_entry
arrive-count p cs sections within =
    omega (
      arith,
      arrive-entries (λ e. p e.cell) cs sections within,
      count_map p (λ e. e.cell) (flatten (arrive cs sections)),
      count_map p (λ e. e.cell) (flatten sections),
    )

-- each cell that comes is fit for its section, with room for it, and comes after its flow
pub arrive-sound : (ports clock : ℕ) (cs : List Cell) (sections : List (List Entry))
    → sound_sections ports clock 0 sections ≡ true
    → ((c : Cell) → Memᴰ c cs → c.input < length sections)
    → pairwise (λ c d. ltb c.input d.input) cs ≡ true
    → ((c : Cell) → Memᴰ c cs → SoundEntry ports (clock + 1) c.input (new_entry c))
    → ((c : Cell) → Memᴰ c cs → c.slot ≡ clock)
    → ((c : Cell) → Memᴰ c cs → length (get_or sections c.input []) < section_room)
    → FollowAll ports (flatten sections) cs
    → sound_sections ports (clock + 1) 0 (arrive cs sections) ≡ true
arrive-sound ports clock cs sections h within turns fit slots rooms follow =
    come-sound enter arrive arrive-nil arrive-cons ports clock cs sections h within turns (λ c m s.
    enter-sound ports clock c.input c (get_or sections c.input []) s (fit c m) (slots c m) (rooms c m)
    (λ d j t. follow c m d (flatten-mem sections c.input j) t))

------------------------------------------------------------------------
-- the checks of the records

-- 7: where no rank falls, each waiting cell of the flow has at most this rank
pub rank_rises : (waiting : List Cell) (c d : Cell) → falling_rank waiting c ≡ false → Memᴰ d waiting
    → same_flow d c ≡ true → d.rank ≤ c.rank
unfolding falling_rank
rank_rises waiting c d h m s = go (ltb c.rank d.rank) refl
  where
    go : (b : Bool) → ltb c.rank d.rank ≡ b → d.rank ≤ c.rank
    go true e =
        absurd (clash (some?-i (λ d. same_flow d c && ltb c.rank d.rank) m
        (and_i (same_flow d c) (ltb c.rank d.rank) s e)) h)
    go false e = ltb-false c.rank d.rank e

-- 8: where the input is not full, its section has room: the limit of its cells is no more than that
pub room-below : (waiting : List Cell) (c : Cell) → full waiting c ≡ false
    → count (λ d. eqb d.input c.input) waiting < section_room
unfolding full
room-below waiting c h =
    let few : count (λ d. eqb d.input c.input) waiting < cell_limit = leb-false cell_limit _ h in
    omega (arith, few)

module _ (ports clock : ℕ) (sections : List (List Entry)) (h : sound_sections ports clock 0 sections ≡ true) where
  -- each waiting cell was accepted before this slot
  pub sound-slot : (e : Entry) → Memᴰ e (flatten sections) → e.cell.slot < clock
  sound-slot e m = let w = mem-flatten sections m in ((sections-e ports clock sections h w.0).entries e w.2).slot

  pub arrival-follows : (c : Cell) → c.slot ≡ clock → falling_rank (map (λ e. e.cell) (flatten sections)) c ≡ false
      → Follows ports (flatten sections) c
  arrival-follows c slot rank e m s =
      let older : e.cell.slot < c.slot = omega (arith, sound-slot e m) in
      over-in-flow ports e.cell c
      (rank_rises (map (λ e. e.cell) (flatten sections)) c e.cell rank (Memᴰ.map (λ e. e.cell) m) s)
      older

  -- the cells of an input are those of its section
  pub arrival-room : (c : Cell) → full (map (λ e. e.cell) (flatten sections)) c ≡ false
      → length (get_or sections c.input []) < section_room
  arrival-room c room =
      omega (
        arith,
        room-below (map (λ e. e.cell) (flatten sections)) c room,
        count_map (λ d. eqb d.input c.input) (λ e. e.cell) (flatten sections),
        count-flatten-at own sections c.input,
        count-all own (get_or sections c.input []) (all?-i own (get_or sections c.input []) mine),
      )
    where
      own : Entry → Bool
      own e = eqb e.cell.input c.input

      mine : (e : Entry) → Memᴰ e (get_or sections c.input []) → own e ≡ true
      mine e m = eq-eqb _ _ ((sections-e ports clock sections h c.input).entries e m).input

fits-rank : (a : Arrival) → arrival_fits a ≡ true → fits32 a.rank ≡ true
unfolding arrival_fits
fits-rank a h = search (and_l, and_r) depth 9

fits-tag : (a : Arrival) → arrival_fits a ≡ true → fits32 a.tag ≡ true
unfolding arrival_fits
fits-tag a h = search (and_l, and_r) depth 9

-- the records of a slot, accepted
module _ (slot : ℕ) (records : List Arrival) where
  pub accepted-slot : (c : Cell) → Memᴰ c (map (accepted slot) records) → c.slot ≡ slot
  unfolding accepted
  accepted-slot c m = let w = Memᴰ.of_map (accepted slot) records m in ap (λ d. d.slot) (sym w.2)

  accepted-rank : all? arrival_fits records ≡ true → (c : Cell) → Memᴰ c (map (accepted slot) records)
      → fits32 c.rank ≡ true
  unfolding accepted
  accepted-rank fits c m =
      let w = Memᴰ.of_map (accepted slot) records m in
      ap (λ d. fits32 d.rank) (sym w.2) ∙ fits-rank w.0 (all?-e arrival_fits fits w.1)

  accepted-tag : all? arrival_fits records ≡ true → (c : Cell) → Memᴰ c (map (accepted slot) records)
      → fits32 c.tag ≡ true
  unfolding accepted
  accepted-tag fits c m =
      let w = Memᴰ.of_map (accepted slot) records m in
      ap (λ d. fits32 d.tag) (sym w.2) ∙ fits-tag w.0 (all?-e arrival_fits fits w.1)

-- the records of an accepted slot
module _ (s : Switch) (records : List Arrival) (h : sound s ≡ true)
    (clear : first_fault s.ports (cells s) (map (accepted s.clock) records) ≡ none) where
  table : SoundTable s
  table = sound-e s h

  pub arrival-admitted : Admitted s.ports (cells s) (map (accepted s.clock) records)
  arrival-admitted = admitted s.ports (cells s) (map (accepted s.clock) records) clear

  pub arrival-inputs : (c : Cell) → Memᴰ c (map (accepted s.clock) records) → c.input < length s.sections
  arrival-inputs c m = rw table.inputs (arrival-admitted.inputs c m)

  pub arrival-turns : pairwise (λ c d. ltb c.input d.input) (map (accepted s.clock) records) ≡ true
  arrival-turns = arrival-admitted.turns

  pub arrival-follow-all : FollowAll s.ports (flatten s.sections) (map (accepted s.clock) records)
  unfolding cells
  arrival-follow-all c m =
      arrival-follows s.ports s.clock s.sections table.sections c
      (accepted-slot s.clock records c m)
      (arrival-admitted.ranks c m)

  -- each is fit for the section of its input, wherever it is put
  pub arrival-entry : all? arrival_fits records ≡ true → (c : Cell) → Memᴰ c (map (accepted s.clock) records)
      → (place : Place) → SoundEntry s.ports (s.clock + 1) c.input (record { cell = c; place = place })
  arrival-entry fits c m place =
      record {
        input = refl;
        output = arrival-admitted.outputs c m;
        flow = arrival-admitted.flows c m;
        rank = accepted-rank s.clock records fits c m;
        tag = accepted-tag s.clock records fits c m;
        slot = omega (arith, accepted-slot s.clock records c m);
      }

  -- and the section has room for it
  pub arrival-rooms : (c : Cell) → Memᴰ c (map (accepted s.clock) records)
      → length (get_or s.sections c.input []) < section_room
  unfolding cells
  arrival-rooms c m = arrival-room s.ports s.clock s.sections table.sections c (arrival-admitted.rooms c m)

  -- the table is sound when the cells have come
  pub arrival-sound : all? arrival_fits records ≡ true
      → sound_sections s.ports (s.clock + 1) 0 (arrive (map (accepted s.clock) records) s.sections) ≡ true
  unfolding new_entry
  arrival-sound fits =
      arrive-sound s.ports s.clock (map (accepted s.clock) records) s.sections table.sections
      arrival-inputs arrival-turns
      (λ c m. arrival-entry fits c m listed)
      (accepted-slot s.clock records) arrival-rooms arrival-follow-all
