-- The departures that go into the answer.
--     leaves-i, leaves-e, among-leaving   the cells that leave are the outputs' choices
--     departure_at-                        what an output sends
--     departures_bytes-                    the bytes of an output's departure among all
--     sent-                               the answer with one departure more
--     departures-chosen                   all of them are the definition's
use Prim.Native.Nat.{ℕ, zero, suc, ◌+◌, ◌*◌, ◌-◌, ◌≤◌, ◌<◌}
use native.Mathlib.Nat.{zero-add, suc-add}
use native.Mathlib.Omega.{arith}
use mathlib.Core.Bool.{Bool, true}
use mathlib.Core.Path.{◌≡◌, refl, sym, ◌∙◌, ap, ap₂, subst}
use mathlib.Core.Logic.{◌⊎◌, inl, inr}
use mathlib.Core.List.Memᴰ
use mathlib.Core.List.{List, [], ◌∷◌, ◌++◌, map, Memᴰ}
use mathlib.Core.Option
use mathlib.Core.Option.{Option, none, some}
use borrow.Author.Tests.{eqb-true, eq-eqb, le-leb, lt-leb}
use lib.Dec.{eqb}
use lib.ListN
use lib.ListN.{length, get_or, take, drop, length-map, get_or-eq_default}
use lib.Seq.{take-add, take_at, take_all, drop_at, drop-drop, get_or-drop, length-take-le}
use Rattle.laws.specs.Lists.{keep, first?, up_to}
use Rattle.laws.proofs.Tests.{clash, by-fail, same}
use Rattle.laws.proofs.Lists.{none?-i, keep-mem, mem-keep-in, mem-keep-passes, first_of, get_d_any}
use Rattle.laws.proofs.Least.{least-mem}
use Rattle.laws.proofs.Numbers.{numbers_from-at}
use Rattle.cell.specs.declared.Cell.{Cell}
use Rattle.cell.specs.Order.{over}
use Rattle.laws.proofs.Compared.{Compared, below, equal, above, compare}
use Rattle.cell.proofs.Order.{over-trans, over-irrefl}
use Rattle.model.specs.State.{is_buffered}
use Rattle.model.specs.Phase.{Waiting, waiting, beats, among}
use Rattle.model.specs.Crossbar.{leaving, departures_of}
use Rattle.model.proofs.WaitingOrder.{beats-i, beats-output, beats-over, among-i, among-e}
use Rattle.model.proofs.SlackDeparture.{leaving-in, leaving-buffered, leaving-first}
use Rattle.layout.specs.Answer.{departure_size, departure_bytes, departures_bytes, departures_size}
use Rattle.layout.specs.Host.{filled}
use Rattle.layout.specs.Entry.{entry_at}
use Rattle.layout.specs.Table.{state_of, IsTable}
use Rattle.layout.proofs.Answer.{length-departure_bytes, length-departures_bytes}
use Rattle.slot_view.specs.CodeView.{waiting_at, InTable, places_in, waiting_in}
use Rattle.slot_view.specs.CodeChoices.{Best, BestAmong, empty, best}
use Rattle.slot_view.specs.CodeScan.{Readable}
use Rattle.slot_view.specs.CodeViewed.{Buffered, BestBuffered}
use Rattle.slot_departure.specs.Code.{departure_at}
use Rattle.slot_view.proofs.Window
use Rattle.slot_view.proofs.Own.{table-readable, waiting_in-state, waiting_in-orderly}
use Rattle.slot_view.proofs.Placed.{length-numbers}
use Rattle.layout.proofs.Put.{put_next}
use Rattle.layout.specs.Code.{put, ports_in}
use Rattle.layout_table.specs.CodeEntries.{nowhere}

------------------------------------------------------------------------
-- the cells that leave are the outputs' choices

module _ (table : List ℕ) (good : IsTable table) where
  abbrev all : List Waiting
  all = waiting_in table

  abbrev cell_at : ℕ → Waiting
  cell_at k = waiting_at table (places_in table) k

  abbrev Held : ℕ → ℕ → Type 0
  Held output k = Buffered table (places_in table) output k

  readable : Readable table
  readable = table-readable table good

  is_in : Waiting → Bool
  is_in e = is_buffered e.place

  -- a waiting cell by its number
  known : {e : Waiting} → Memᴰ e all → (e ≡ cell_at e.at) × InTable table e.at
  known = Window.in_table-e table (places_in table) readable

  known-i : {k : ℕ} → InTable table k → Memᴰ (cell_at k) all
  known-i {k} t = Window.in_table-i table (places_in table) readable k t

  port : {e : Waiting} → Memᴰ e all → e.cell.output < 16
  unfolding waiting_at
  port {e} m =
      let x = known m in
      omega (arith, ap (λ w. w.cell.output) x.0, readable.outputs e.at x.1, readable.ports)

  buffered-e : {e : Waiting} → Memᴰ e all → is_buffered e.place ≡ true → Held e.cell.output e.at
  unfolding waiting_at
  buffered-e {e} m b =
      let x = known m in
      record {
        entry = x.1;
        place = ap (λ w. is_buffered w.place) (sym x.0) ∙ b;
        goes = ap (λ w. w.cell.output) (sym x.0);
      }

  leaves-i : (output n : ℕ) → Best table (Held output) n → Memᴰ (cell_at n) (leaving (ports_in table) all)
  unfolding leaving waiting_at is_in
  leaves-i output n h =
      least-mem (beats (ports_in table)) (keep-mem is_in (known-i h.own.entry) h.own.place)
      (none?-i (λ e. beats (ports_in table) e (cell_at n)) (keep is_in all)
      (λ e m. by-fail _ (λ w. go e (mem-keep-in is_in all m) (mem-keep-passes is_in all m) w)))
    where
      go : (e : Waiting) → Memᴰ e all → is_buffered e.place ≡ true → beats (ports_in table) e (cell_at n) ≡ true
          → ⊥
      go e m b w =
          past (h.upper e.at (subst (λ o. Held o e.at) (beats-output (ports_in table) e (cell_at n) w ∙ h.own.goes) (buffered-e m b)))
        where
          wins : over (ports_in table) (entry_at table e.at).cell (entry_at table n).cell ≡ true
          wins =
              ap (λ d. over (ports_in table) d.cell (entry_at table n).cell) (sym (known m).0)
              ∙ beats-over (ports_in table) e (cell_at n) w

          past : (e.at ≡ n) ⊎ (over (ports_in table) (entry_at table n).cell (entry_at table e.at).cell ≡ true) → ⊥
          past (inl q) = clash (rw q at wins) (over-irrefl (ports_in table) (entry_at table n).cell)
          past (inr q) =
              clash (over-trans (ports_in table) _ _ _ wins q)
              (over-irrefl (ports_in table) (entry_at table e.at).cell)

  module _ {numbers : List ℕ} (c : BestBuffered table (places_in table) numbers) where
    leaves-e : {e : Waiting} → Memᴰ e (leaving (ports_in table) all) → get_or numbers e.cell.output 0 ≡ e.at
    unfolding waiting_at
    leaves-e {e} m = go (c.each e.cell.output (port mem))
      where
        mem : Memᴰ e all
        mem = leaving-in (ports_in table) all m

        own : Held e.cell.output e.at
        own = buffered-e mem (leaving-buffered (ports_in table) all m)

        past : (n : ℕ) → Best table (Held e.cell.output) n
            → (e.at ≡ n) ⊎ (over (ports_in table) (entry_at table n).cell (entry_at table e.at).cell ≡ true)
            → n ≡ e.at
        past n b (inl q) = sym q
        past n b (inr q) =
            absurd
            (clash
            (beats-i (ports_in table) (cell_at n) e b.own.goes (ap (λ w. over (ports_in table) (entry_at table n).cell w.cell) (known mem).0 ∙ q))
            (leaving-first (ports_in table) all m (known-i b.own.entry) b.own.place))

        go : BestAmong table (Held e.cell.output) (get_or numbers e.cell.output 0)
            → get_or numbers e.cell.output 0 ≡ e.at
        go (empty q f) = absurd (f e.at own)
        go (best s b) = past _ b (b.upper e.at own)

    -- a cell leaves if it is its output's choice
    pub among-leaving : {e : Waiting} → Memᴰ e all
        → among (leaving (ports_in table) all) e ≡ eqb (get_or numbers e.cell.output 0) e.at
    among-leaving {e} m =
        same _ _
        (λ h. eq-eqb _ _ (leaves-e (among-e (waiting_in-orderly table good) (leaving (ports_in table) all) (λ f. leaving-in (ports_in table) all) m h)))
        (λ h. go (eqb-true _ _ h) (c.each e.cell.output (port m)))
      where
        go : get_or numbers e.cell.output 0 ≡ e.at
            → BestAmong table (Held e.cell.output) (get_or numbers e.cell.output 0)
            → among (leaving (ports_in table) all) e ≡ true
        go q (empty d f) = absurd (omega (arith, Window.in_table-below readable (known m).1))
        go q (best s b) = among-i (Memᴰ.cast ((known m).0 ∙ ap cell_at (sym q)) (leaves-i e.cell.output _ b))

------------------------------------------------------------------------
-- what an output sends

module _ (table : List ℕ) (n : ℕ) where
  pub departure_at-none : nowhere ≤ n → departure_at table n ≡ none
  unfolding departure_at
  departure_at-none h = rw (le-leb nowhere n h, departure_at)

  pub departure_at-some : n < nowhere → departure_at table n ≡ some (entry_at table n).cell
  unfolding departure_at
  departure_at-some h = rw (lt-leb nowhere n h, departure_at)

------------------------------------------------------------------------
-- the bytes of an output's departure among all

departures_bytes-first : (n : ℕ) (ds : List (Option Cell))
    → departures_bytes (suc n) ds ≡ departure_bytes (get_or ds 0 none) ++ departures_bytes n (drop 1 ds)
unfolding departures_bytes
departures_bytes-first n [] = refl
departures_bytes-first n (d ∷ ds) = refl

departures_bytes-drop : (o n : ℕ) (ds : List (Option Cell))
    → drop (departure_size * o) (departures_bytes (o + n) ds) ≡ departures_bytes n (drop o ds)
departures_bytes-drop zero n ds = ap (λ m. departures_bytes m ds) (zero-add n)
departures_bytes-drop (suc o) n ds =
    let next : departure_size * suc o ≡ departure_size + departure_size * o = omega arith in
    let one : 1 + o ≡ suc o = omega arith in
    ap₂ drop next (ap (λ m. departures_bytes m ds) (suc-add o n) ∙ departures_bytes-first (o + n) ds)
    ∙ sym
    (drop-drop (departure_size * o) departure_size (departure_bytes (get_or ds 0 none) ++ departures_bytes (o + n) (drop 1 ds)))
    ∙ ap (drop (departure_size * o))
    (drop_at (departure_bytes (get_or ds 0 none)) (departures_bytes (o + n) (drop 1 ds)) departure_size
    (length-departure_bytes (get_or ds 0 none)))
    ∙ departures_bytes-drop o n (drop 1 ds)
    ∙ ap (departures_bytes n) (drop-drop o 1 ds ∙ ap (λ m. drop m ds) one)

-- the departures decide the bytes
departures_bytes-ext : (n : ℕ) (ds es : List (Option Cell)) → ((o : ℕ) → o < n → get_or ds o none ≡ get_or es o none)
    → departures_bytes n ds ≡ departures_bytes n es
unfolding departures_bytes
departures_bytes-ext zero ds es h = refl
departures_bytes-ext (suc n) ds es h =
    departures_bytes-first n ds
    ∙ ap₂ (λ d l. departure_bytes d ++ l) (h 0 (omega arith)) (departures_bytes-ext n (drop 1 ds) (drop 1 es) later)
    ∙ sym (departures_bytes-first n es)
  where
    later : (o : ℕ) → o < n → get_or (drop 1 ds) o none ≡ get_or (drop 1 es) o none
    later o l = get_or-drop 1 ds o none ∙ h (1 + o) (omega arith) ∙ sym (get_or-drop 1 es o none)

------------------------------------------------------------------------
-- the answer with one departure more

-- the answer with the departures of the first o outputs
pub sent : List (Option Cell) → List ℕ → ℕ → List ℕ
sent ds old o = take (departure_size * o) (departures_bytes 16 ds) ++ drop (departure_size * o) old

module _ (ds : List (Option Cell)) (old : List ℕ) (room : departures_size ≤ length old) where
  whole : length (departures_bytes 16 ds) ≡ departures_size
  whole = length-departures_bytes 16 ds

  -- the bytes of an output's departure
  own : (o : ℕ) → o < 16 → take (departure_size * o) (departures_bytes 16 ds) ++ departure_bytes (get_or ds o none)
      ≡ take (departure_size * o + departure_size) (departures_bytes 16 ds)
  own o l =
      let m : ℕ = 15 - o in
      let sum : 16 ≡ o + suc m = omega arith in
      let at : o + 0 ≡ o = omega arith in
      let here : take departure_size (drop (departure_size * o) (departures_bytes 16 ds)) ≡ departure_bytes (get_or ds o none) =
      ap (take departure_size)
      (ap (λ n. drop (departure_size * o) (departures_bytes n ds)) sum
      ∙ departures_bytes-drop o (suc m) ds
      ∙ departures_bytes-first m (drop o ds))
      ∙ take_at (departure_bytes (get_or (drop o ds) 0 none)) (departures_bytes m (drop 1 (drop o ds))) departure_size
      (length-departure_bytes (get_or (drop o ds) 0 none))
      ∙ ap departure_bytes (get_or-drop o ds 0 none ∙ ap (λ n. get_or ds n none) at) in
      sym (take-add (departure_size * o) departure_size (departures_bytes 16 ds) ∙ ap (λ bs. take (departure_size * o) (departures_bytes 16 ds) ++ bs) here)

  pub sent-none : old ≡ sent ds old 0
  unfolding sent
  sent-none = refl

  pub sent-more : (o : ℕ) (mid new : List ℕ) → o < 16 → mid ≡ sent ds old o
      → new ≡ put (departure_size * o) departure_size (departure_bytes (get_or ds o none)) mid → new ≡ sent ds old (o + 1)
  unfolding sent
  sent-more o mid new l first second =
      let n : ℕ = departure_size * o in
      let more : n + departure_size ≡ departure_size * (o + 1) = omega arith in
      let size : length (take n (departures_bytes 16 ds)) ≡ n =
      length-take-le n (departures_bytes 16 ds) (omega (arith, whole)) in
      let from : mid ≡ put 0 n (take n (departures_bytes 16 ds)) old =
      first ∙ ap (λ k. take n (departures_bytes 16 ds) ++ drop k old) (sym (zero-add n)) in
      let to : new ≡ put (0 + n) departure_size (departure_bytes (get_or ds o none)) mid =
      second ∙ ap (λ k. put k departure_size (departure_bytes (get_or ds o none)) mid) (sym (zero-add n)) in
      put_next 0 n departure_size (take n (departures_bytes 16 ds)) (departure_bytes (get_or ds o none)) old mid new size
      (length-departure_bytes (get_or ds o none)) (omega arith) from to
      ∙ ap₂ (λ bs k. bs ++ drop k old) (own o l) (zero-add (n + departure_size))
      ∙ ap (λ k. take k (departures_bytes 16 ds) ++ drop k old) more

  pub sent-all : sent ds old 16 ≡ filled (departures_bytes 16 ds) old
  unfolding sent filled
  sent-all =
      ap₂ (λ bs k. bs ++ drop k old) (take_all departures_size (departures_bytes 16 ds) (omega (arith, whole))) (sym whole)

------------------------------------------------------------------------
-- all of them are the definition's

pub get_d_map : {A B : Type 0} (f : A → B) (l : List A) (i : ℕ) (d : A) (e : B) → i < length l
    → get_or (map f l) i e ≡ f (get_or l i d)
get_d_map f l i d e h = get_d_any (map f l) i e (f d) (omega (arith, length-map l f)) ∙ ListN.get_or-map f l i d

first-none : (l : List Waiting) → ((f : Waiting) → Memᴰ f l → ⊥) → first? l ≡ none
unfolding first?
first-none [] h = refl
first-none (x ∷ l) h = absurd (h x (Memᴰ.head refl))

goes_to : ℕ → Waiting → Bool
goes_to o e = eqb e.cell.output o

module _ (table : List ℕ) (good : IsTable table) {numbers : List ℕ} (c : BestBuffered table (places_in table) numbers)
  where
    abbrev out : List Waiting
    out = leaving (ports_in table) (waiting_in table)

    -- the cells that leave for an output
    abbrev sends_to : ℕ → List Waiting
    sends_to o = keep (goes_to o) out

    module _ (o : ℕ) {e : Waiting} (m : Memᴰ e (sends_to o)) where
      member : Memᴰ e out
      member = mem-keep-in (goes_to o) out m

      output-is : e.cell.output ≡ o
      unfolding goes_to
      output-is = eqb-true _ _ (mem-keep-passes (goes_to o) out m)

      is-buffered : Buffered table (places_in table) o e.at
      is-buffered =
          subst (λ p. Buffered table (places_in table) p e.at) output-is
          (buffered-e table good (leaving-in (ports_in table) (waiting_in table) member) (leaving-buffered (ports_in table) (waiting_in table) member))

      chosen_is : e ≡ waiting_at table (places_in table) (get_or numbers o 0)
      chosen_is =
          (known table good (leaving-in (ports_in table) (waiting_in table) member)).0
          ∙ ap (waiting_at table (places_in table)) (sym (leaves-e table good c member) ∙ ap (λ p. get_or numbers p 0) output-is)

    -- what an output sends
    sends : ℕ → Option Cell
    sends o = Option.map (λ e. e.cell) (first? (sends_to o))

    departure-chosen : (o : ℕ) → o < 16 → departure_at table (get_or numbers o 0) ≡ sends o
    unfolding goes_to waiting_at sends
    departure-chosen o l = go (c.each o l)
      where
        n : ℕ
        n = get_or numbers o 0

        go : BestAmong table (Buffered table (places_in table) o) (get_or numbers o 0)
            → departure_at table (get_or numbers o 0) ≡ Option.map (λ e. e.cell) (first? (sends_to o))
        go (empty q f) =
            departure_at-none table n (omega arith)
            ∙ sym (ap (Option.map (λ e. e.cell)) (first-none _ (λ e m. f e.at (is-buffered o m))))
        go (best s b) =
            departure_at-some table n s
            ∙ sym
            (ap (Option.map (λ e. e.cell))
            (first_of _ (keep-mem (goes_to o) (leaves-i table good o n b) (eq-eqb _ _ b.own.goes)) (λ e m. chosen_is o m)))

    -- an output that the switch does not have sends none
    departure-past : (o : ℕ) → o < 16 → ports_in table ≤ o → departure_at table (get_or numbers o 0) ≡ none
    departure-past o l h = go (c.each o l)
      where
        go : BestAmong table (Buffered table (places_in table) o) (get_or numbers o 0)
            → departure_at table (get_or numbers o 0) ≡ none
        go (empty q f) = departure_at-none table (get_or numbers o 0) (omega arith)
        go (best s b) =
            absurd (omega (arith, b.own.goes, (table-readable table good).outputs (get_or numbers o 0) b.own.entry))

    departures-out : departures_bytes 16 (map (departure_at table) numbers)
        ≡ departures_bytes 16 (departures_of (ports_in table) out)
    unfolding departures_of goes_to sends up_to
    departures-out =
        departures_bytes-ext 16 (map (departure_at table) numbers) (departures_of (ports_in table) out)
        (λ o l. get_d_map (departure_at table) numbers o 0 none (omega (arith, c.size)) ∙ go o l (compare o (ports_in table)))
      where
        past : (o : ℕ) → o < 16 → ports_in table ≤ o
            → departure_at table (get_or numbers o 0) ≡ get_or (departures_of (ports_in table) out) o none
        past o l h =
            departure-past o l h
            ∙ sym (get_or-eq_default (departures_of (ports_in table) out) none
            (omega (arith, length-numbers sends 0 (ports_in table))))

        go : (o : ℕ) → o < 16 → Compared o (ports_in table)
            → departure_at table (get_or numbers o 0) ≡ get_or (departures_of (ports_in table) out) o none
        go o l (below h) =
            departure-chosen o l ∙ sym (numbers_from-at sends 0 (ports_in table) o none h ∙ ap sends (zero-add o))
        go o l (equal h) = past o l (omega arith)
        go o l (above h) = past o l (omega arith)

    pub departures-chosen : departures_bytes 16 (map (departure_at table) numbers)
        ≡ departures_bytes 16 (departures_of (ports_in table) (leaving (ports_in table) (waiting (state_of table).sections)))
    departures-chosen =
        departures-out
        ∙ ap (λ all. departures_bytes 16 (departures_of (ports_in table) (leaving (ports_in table) all)))
        (waiting_in-state table good)
