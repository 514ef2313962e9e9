-- Every slot keeps the table of an output-queued switch sound, with all cells in buffers, from any such table.
--     all-buffered-mem, -at, -i    every entry is in a buffer: of the whole table, and of one section
--     all-buffered-join            one more cell
--     sound-oq-i, -table, -buffered    the two halves of a sound state
--     all-buffered-fresh, sound-oq-fresh   a fresh switch
--     joined_length, joined-sound, joined-count, joined-buffered   the new cells have joined
--     CalledOq, called-oq          an accepted slot runs, any other is refused
--     slot-oq-broken, slot-oq-refused, slot-oq-runs    no whole number of records; where the crossbar refuses; no fault
--     run-oq-cells                 the cells that stay
--     run-oq-sound, oq-after-sound     of an accepted slot, and of a call
use Prim.Native.Nat.{ℕ, ◌+◌, ◌<◌}
use native.Mathlib.Omega.{arith}
use mathlib.Core.Bool.{Bool, true, false, cond, not}
use mathlib.Core.Path.{◌≡◌, refl, sym, ◌∙◌, ap}
use mathlib.Core.Logic.{◌⊎◌, inl, inr}
use mathlib.Core.List.Memᴰ
use mathlib.Core.List.{List, [], ◌∷◌, ◌++◌, map, flatten, append-nil, Memᴰ}
use mathlib.Core.Option.{Option, none, some}
use lib.Dec.{eqb}
use lib.ListN.{length, get_or}
use Rattle.laws.specs.Lists.{keep, all?, count, update}
use Rattle.laws.proofs.Tests.{and_i, and_l, and_r}
use Rattle.laws.proofs.Lists.{all?-e, all?-i, mem-keep-in, keep_append, keep-fail, keep-nil}
use Rattle.laws.proofs.Count.{count-append, count_map}
use Rattle.cell.specs.declared.Arrival.{Arrival}
use Rattle.cell.specs.declared.Cell.{Cell}
use Rattle.cell.specs.declared.Refusal.{Refusal}
use Rattle.cell.specs.declared.Refusal.TheVariants.{BrokenTable, ClockEnd}
use Rattle.cell.specs.Cell.{arrival_fits}
use Rattle.cell.specs.Limits.{clock_end, ports_in_range, fits32, section_room}
use Rattle.model.specs.State.{buffered, Entry, Switch, fresh, cells, is_listed, is_crossed, is_buffered}
use Rattle.model.specs.Checks.{Outcome, done, refused, first_fault}
use Rattle.model.specs.Crossbar.{Course, leaving, without, run, slot}
use Rattle.model.specs.Emulation.{lent}
use Rattle.model.specs.Oq.{join_buffer, join_buffers, all_buffered, sound_oq, run_oq, slot_oq, oq_after}
use Rattle.model.specs.Phase.{Waiting, waiting, among}
use Rattle.model.specs.Sound.{together, sound_sections, sound}
use Rattle.model.proofs.Bags.{flatten-mem, mem-flatten, mem-update}
use Rattle.model.proofs.Insert.{Between, count-between, between-mem, between-sound, length-come}
use Rattle.model.proofs.Insert.{come-count, come-sound}
use Rattle.model.proofs.Numbering.{entry_of, waiting-cells, cells-waiting, flatten-without, without-cells}
use Rattle.model.proofs.Numbering.{length_without}
use Rattle.model.proofs.Sections.{empty-at}
use Rattle.model.proofs.SoundArrival.{accepted-slot, arrival-inputs, arrival-turns, arrival-entry, arrival-rooms}
use Rattle.model.proofs.SoundDeparture.{without-sound}
use Rattle.model.proofs.SoundLaws.{SoundEntry, SoundSection, SoundTable, sound-e, sound-i}
use Rattle.model.proofs.SoundSlot.{sound-fresh, next-clock, came}

------------------------------------------------------------------------
-- all cells in buffers

-- every entry of the sections is in a buffer
abbrev Buffered : List (List Entry) → Type 0
Buffered sections = (e : Entry) → Memᴰ e (flatten sections) → is_buffered e.place ≡ true

pub all-buffered-mem : (s : Switch) → all_buffered s ≡ true
    → (e : Entry) → Memᴰ e (flatten s.sections) → is_buffered e.place ≡ true
unfolding all_buffered
all-buffered-mem s h e m = all?-e (λ e. is_buffered e.place) h m

pub all-buffered-at : (s : Switch) → all_buffered s ≡ true
    → (i : ℕ) (e : Entry) → Memᴰ e (get_or s.sections i []) → is_buffered e.place ≡ true
all-buffered-at s h i e m = all-buffered-mem s h e (flatten-mem s.sections i m)

pub all-buffered-i : (s : Switch)
    → ((e : Entry) → Memᴰ e (flatten s.sections) → is_buffered e.place ≡ true) → all_buffered s ≡ true
unfolding all_buffered
all-buffered-i s h = all?-i (λ e. is_buffered e.place) (flatten s.sections) h

-- the entry of a new cell, which stands last in its section
abbrev joining : Cell → Entry
joining c = record { cell = c; place = buffered }

join-between : (c : Cell) (es : List Entry) → Between (joining c) es (join_buffer c es)
unfolding join_buffer
join-between c es = record { pre = es; post = []; split = sym (append-nil es); entered = refl }

-- one more cell
join-buffered : (c : Cell) (sections : List (List Entry)) → Buffered sections
    → Buffered (update c.input (join_buffer c) sections)
unfolding is_buffered
join-buffered c sections h e m =
    let w = mem-flatten (update c.input (join_buffer c) sections) m in
    go w.0 (mem-update c.input w.0 (join_buffer c) sections w.2)
  where
    own : List Entry
    own = get_or sections c.input []

    new : (e ≡ joining c) ⊎ Memᴰ e own → is_buffered e.place ≡ true
    new (inl q) = ap (λ x. is_buffered x.place) q
    new (inr k) = h e (flatten-mem sections c.input k)

    go : (i : ℕ) → ((i ≡ c.input) × Memᴰ e (join_buffer c own)) ⊎ Memᴰ e (get_or sections i [])
        → is_buffered e.place ≡ true
    go i (inl w) = new (between-mem (joining c) own (join_buffer c own) (join-between c own) w.1)
    go i (inr k) = h e (flatten-mem sections i k)

pub all-buffered-join : (c : Cell) (s : Switch) → all_buffered s ≡ true
    → all_buffered (record { ports = s.ports; clock = s.clock; sections = update c.input (join_buffer c) s.sections })
    ≡ true
all-buffered-join c s h =
    all-buffered-i
    (record { ports = s.ports; clock = s.clock; sections = update c.input (join_buffer c) s.sections })
    (join-buffered c s.sections (all-buffered-mem s h))

-- all new cells
joins-buffered : (cs : List Cell) (sections : List (List Entry)) → Buffered sections
    → Buffered (join_buffers cs sections)
unfolding join_buffers
joins-buffered [] sections h = h
joins-buffered (c ∷ cs) sections h =
    joins-buffered cs (update c.input (join_buffer c) sections) (join-buffered c sections h)

-- whatever leaves
without-buffered : (out : List Waiting) (sections : List (List Entry)) → Buffered sections
    → Buffered (without out sections)
without-buffered out sections h e m =
    go (Memᴰ.of_map entry_of (keep stays (waiting sections)) (rw (flatten-without out sections) at m))
  where
    stays : Waiting → Bool
    stays w = not (among out w)

    go : (w : Waiting) × Memᴰ w (keep stays (waiting sections)) × (entry_of w ≡ e) → is_buffered e.place ≡ true
    go (w, k, q) =
        h e (rw (← waiting-cells sections) (Memᴰ.cast (sym q) (Memᴰ.map entry_of (mem-keep-in stays (waiting sections) k))))

-- and of the waiting cells
buffered-waiting : (sections : List (List Entry)) → Buffered sections
    → (w : Waiting) → Memᴰ w (waiting sections) → is_buffered w.place ≡ true
buffered-waiting sections h w m = h (entry_of w) (rw (← waiting-cells sections) (Memᴰ.map entry_of m))

------------------------------------------------------------------------
-- a sound state

module _ (s : Switch) where
  pub sound-oq-i : sound s ≡ true → all_buffered s ≡ true → sound_oq s ≡ true
  unfolding sound_oq
  sound-oq-i h b = and_i (sound s) (all_buffered s) h b

  pub sound-oq-table : sound_oq s ≡ true → sound s ≡ true
  unfolding sound_oq
  sound-oq-table h = and_l (sound s) (all_buffered s) h

  pub sound-oq-buffered : sound_oq s ≡ true → all_buffered s ≡ true
  unfolding sound_oq
  sound-oq-buffered h = and_r (sound s) (all_buffered s) h

pub all-buffered-fresh : (n first : ℕ) → all_buffered (fresh n first) ≡ true
unfolding fresh
all-buffered-fresh n first =
    all-buffered-i (fresh n first) (λ e m.
    let w = mem-flatten (fresh n first).sections m in
    absurd (Memᴰ.not-nil (rw (empty-at n w.0) at w.2)))

pub sound-oq-fresh : (n first : ℕ) → ports_in_range n ≡ true → fits32 first ≡ true → sound_oq (fresh n first) ≡ true
sound-oq-fresh n first p f = sound-oq-i (fresh n first) (sound-fresh n first p f) (all-buffered-fresh n first)

------------------------------------------------------------------------
-- the new cells have joined

count-join : (p : Entry → Bool) (c : Cell) (es : List Entry)
    → count p (join_buffer c es) ≡ cond (p (joining c)) 1 0 + count p es
count-join p c es = count-between (joining c) es (join_buffer c es) (join-between c es) p

-- the list is as it was
join-listed : (c : Cell) (es : List Entry)
    → keep (λ e. is_listed e.place) (join_buffer c es) ≡ keep (λ e. is_listed e.place) es
unfolding join_buffer is_listed
join-listed c es =
    let p : Entry → Bool = λ e. is_listed e.place in
    keep_append p es (joining c ∷ [])
    ∙ ap (λ l. keep p es ++ l) (keep-fail p (joining c) [] refl ∙ keep-nil p)
    ∙ append-nil (keep p es)

-- a new cell, fit for the section, with room for it
join-sound : (ports clock k : ℕ) (c : Cell) (es : List Entry) → SoundSection ports clock k es
    → SoundEntry ports (clock + 1) k (joining c) → c.slot ≡ clock → length es < section_room
    → SoundSection ports (clock + 1) k (join_buffer c es)
unfolding is_crossed
join-sound ports clock k c es s new slot room =
    between-sound (joining c) es (join_buffer c es) (join-between c es) ports clock k s new slot refl room
    (ap (together ports) (join-listed c es) ∙ s.flows)

joins-nil : (sections : List (List Entry)) → join_buffers [] sections ≡ sections
unfolding join_buffers
joins-nil sections = refl

joins-cons : (c : Cell) (cs : List Cell) (sections : List (List Entry))
    → join_buffers (c ∷ cs) sections ≡ join_buffers cs (update c.input (join_buffer c) sections)
unfolding join_buffers
joins-cons c cs sections = refl

-- there are as many sections as before
pub joined_length : (cs : List Cell) (sections : List (List Entry)) → length (join_buffers cs sections) ≡ length sections
joined_length = length-come join_buffer join_buffers joins-nil joins-cons

-- an accepted slot
module _ (s : Switch) (records : List Arrival) where
  -- the table is sound when the cells have joined
  pub joined-sound : sound s ≡ true → first_fault s.ports (cells s) (came s records) ≡ none
      → all? arrival_fits records ≡ true
      → sound_sections s.ports (s.clock + 1) 0 (join_buffers (came s records) s.sections) ≡ true
  joined-sound h clear fits =
      come-sound join_buffer join_buffers joins-nil joins-cons s.ports s.clock (came s records) s.sections
      (sound-e s h).sections (arrival-inputs s records h clear) (arrival-turns s records h clear) (λ c m sound.
      join-sound s.ports s.clock c.input c (get_or s.sections c.input []) sound
      (arrival-entry s records h clear fits c m buffered)
      (accepted-slot s.clock records c m)
      (arrival-rooms s records h clear c m))

  -- the cells are those that were there and those that came
  pub joined-count : sound s ≡ true → first_fault s.ports (cells s) (came s records) ≡ none → (p : Cell → Bool)
      → count p (map (λ w. w.cell) (waiting (join_buffers (came s records) s.sections)))
      ≡ count p (came s records ++ cells s)
  unfolding cells
  joined-count h clear p =
      omega (
        arith,
        ap (count p) (cells-waiting (join_buffers (came s records) s.sections)),
        count_map p (λ e. e.cell) (flatten (join_buffers (came s records) s.sections)),
        come-count join_buffer join_buffers joins-nil joins-cons joining count-join (λ e. p e.cell) (came s records)
            s.sections (arrival-inputs s records h clear),
        count_map p (λ e. e.cell) (flatten s.sections),
        count-append p (came s records) (cells s),
      )

-- all wait in buffers
pub joined-buffered : (s : Switch) (cs : List Cell) → all_buffered s ≡ true
    → (w : Waiting) → Memᴰ w (waiting (join_buffers cs s.sections)) → is_buffered w.place ≡ true
joined-buffered s cs h =
    buffered-waiting (join_buffers cs s.sections) (joins-buffered cs s.sections (all-buffered-mem s h))

------------------------------------------------------------------------
-- a call

pub slot-oq-broken : (s : Switch) → slot_oq s none ≡ refused BrokenTable 0
unfolding slot_oq
slot-oq-broken s = refl

module _ (s : Switch) (records : List Arrival) where
  slot-oq-end : eqb s.clock clock_end ≡ true → slot_oq s (some records) ≡ refused ClockEnd 0
  unfolding slot_oq
  slot-oq-end h = rw (h, slot_oq)

  slot-oq-fault : eqb s.clock clock_end ≡ false → (f : Refusal × ℕ)
      → first_fault s.ports (cells s) (came s records) ≡ some f → slot_oq s (some records) ≡ refused f.0 f.1
  unfolding slot_oq
  slot-oq-fault h f k = rw (h, k, slot_oq)

  pub slot-oq-runs : eqb s.clock clock_end ≡ false → first_fault s.ports (cells s) (came s records) ≡ none
      → slot_oq s (some records) ≡ done (run_oq s (came s records))
  unfolding slot_oq
  slot-oq-runs h k = rw (h, k, slot_oq)

-- an accepted slot runs; any other is refused
pub data CalledOq (s : Switch) (records : List Arrival) : Type 0 where
  runs : eqb s.clock clock_end ≡ false → first_fault s.ports (cells s) (came s records) ≡ none
      → slot_oq s (some records) ≡ done (run_oq s (came s records)) → CalledOq s records
  refuses : (r : Refusal) (place : ℕ) → slot_oq s (some records) ≡ refused r place → CalledOq s records

pub called-oq : (s : Switch) (records : List Arrival) → CalledOq s records
called-oq s records = go (eqb s.clock clock_end) refl (first_fault s.ports (cells s) (came s records)) refl
  where
    go : (b : Bool) → eqb s.clock clock_end ≡ b → (f : Option (Refusal × ℕ))
        → first_fault s.ports (cells s) (came s records) ≡ f → CalledOq s records
    go true e f q = refuses ClockEnd 0 (slot-oq-end s records e)
    go false e (some f) q = refuses f.0 f.1 (slot-oq-fault s records e f q)
    go false e none q = runs e q (slot-oq-runs s records e q)

-- where the crossbar refuses, so does this switch
pub slot-oq-refused : (s : Switch) (a : Option (List Arrival)) {r : Refusal} {place : ℕ}
    → slot s a ≡ refused r place → slot_oq s a ≡ refused r place
unfolding slot
slot-oq-refused s none {r} {place} h =
    let z : ◌≡◌ {A = Outcome Course} (refused BrokenTable 0) (refused r place) = h in
    slot-oq-broken s ∙ cc
slot-oq-refused s (some records) {r} {place} h =
    go (eqb s.clock clock_end) refl (first_fault s.ports (cells s) (came s records)) refl
  where
    go : (b : Bool) → eqb s.clock clock_end ≡ b → (f : Option (Refusal × ℕ))
        → first_fault s.ports (cells s) (came s records) ≡ f → slot_oq s (some records) ≡ refused r place
    go true e f q =
        let z : ◌≡◌ {A = Outcome Course} (refused ClockEnd 0) (refused r place) = rw (e, slot) at h in
        slot-oq-end s records e ∙ cc
    go false e (some f) q =
        let z : ◌≡◌ {A = Outcome Course} (refused f.0 f.1) (refused r place) = rw (e, q, slot) at h in
        slot-oq-fault s records e f q ∙ cc
    go false e none q =
        let z : done (run s (came s records)) ≡ refused r place = rw (e, q, slot) at h in
        let y : ◌≡◌ {A = ℕ} 0 1 = cc in
        absurd (omega arith)

------------------------------------------------------------------------
-- an accepted slot

-- the cells that stay
pub run-oq-cells : (s : Switch) (cs : List Cell) → cells (run_oq s cs).switch
    ≡ map (λ w. w.cell)
    (keep (λ e. not (among (leaving s.ports (waiting (join_buffers cs s.sections))) e))
    (waiting (join_buffers cs s.sections)))
unfolding run_oq cells
run-oq-cells s cs =
    without-cells (leaving s.ports (waiting (join_buffers cs s.sections))) (join_buffers cs s.sections)

pub run-oq-sound : (s : Switch) (records : List Arrival) → sound_oq s ≡ true → all? arrival_fits records ≡ true
    → eqb s.clock clock_end ≡ false → first_fault s.ports (cells s) (came s records) ≡ none
    → sound_oq (run_oq s (came s records)).switch ≡ true
unfolding run_oq
run-oq-sound s records h fits ticks clear =
    sound-oq-i after
    (sound-i after
    (record {
      ports = table.ports;
      clock = next-clock s.clock table.clock ticks;
      inputs = length_without out joined ∙ joined_length (came s records) s.sections ∙ table.inputs;
      sections =
          without-sound s.ports (s.clock + 1) out joined (joined-sound s records (sound-oq-table s h) clear fits);
    }))
    (all-buffered-i after
    (without-buffered out joined
    (joins-buffered (came s records) s.sections (all-buffered-mem s (sound-oq-buffered s h)))))
  where
    after : Switch
    after = (run_oq s (came s records)).switch

    joined : List (List Entry)
    joined = join_buffers (came s records) s.sections

    out : List Waiting
    out = leaving s.ports (waiting joined)

    table : SoundTable s
    table = sound-e s (sound-oq-table s h)

-- the switch after a call, whatever its outcome
pub oq-after-sound : (s : Switch) (a : Option (List Arrival)) → sound_oq s ≡ true → lent a ≡ true
    → sound_oq (oq_after s (slot_oq s a)) ≡ true
unfolding lent oq_after
oq-after-sound s none h l = rw (slot-oq-broken s) h
oq-after-sound s (some records) h l = go (called-oq s records)
  where
    go : CalledOq s records → sound_oq (oq_after s (slot_oq s (some records))) ≡ true
    go (runs t f e) = rw e (run-oq-sound s records h l t f)
    go (refuses r place e) = rw e h
