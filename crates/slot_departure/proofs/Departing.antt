-- The table without the cells that leave.
--     mixed           the sections of the inputs so far are new
--     staying-new     what stays of a section is the definition's
--     partly          the switch while its sections close up
--     removable       the next section can close up
--     partly-next     and then one more is new
use Prim.Native.Nat.{ℕ, zero, suc, ◌+◌, ◌*◌, ◌-◌, ◌/◌, ◌≤◌, ◌<◌}
use native.Mathlib.Omega.{arith}
use native.Mathlib.Nat.{zero-add}
use mathlib.Core.Bool.{Bool, true, not}
use mathlib.Core.Path.{◌≡◌, refl, sym, ◌∙◌, ap, ap₂, subst}
use mathlib.Core.List.{List, [], ◌∷◌, ◌++◌, map, append-nil, Memᴰ}
use lib.ListN.{length, get_or, set, take, drop, replicate, length-append, get_or-eq_default}
use lib.Seq.{take_all, take-suc, drop_at, drop-cons, drop-drop, length-take-le}
use lib.Seq.{set_at, get_or-drop, get_or_at, drop-nil, drop-length, append_snoc}
use Rattle.laws.specs.Lists.{keep, numbers_from, up_to, between}
use Rattle.laws.proofs.Numbers.{numbers_from-at}
use Rattle.laws.proofs.Lists.{keep-ext}
use Rattle.cell.specs.Limits.{section_room, port_limit}
use Rattle.laws.proofs.Compared.{Compared, below, equal, above, compare}
use Rattle.model.specs.State.{Entry, Switch}
use Rattle.model.specs.Phase.{Waiting, number_from, waiting, among}
use Rattle.model.specs.Crossbar.{leaving, without}
use Rattle.model.proofs.Numbering.{Short, entry_of, section-waiting, without_at, length_without}
use Rattle.layout.specs.Table.{header_size, entry_size, section_size, table_size, entries_bytes, section_bytes, entry_bytes}
use Rattle.layout.specs.Table.{sections_bytes, encode, state_of, IsTable}
use Rattle.layout.specs.Entry.{entry_at, count_in}
use Rattle.layout.specs.Code.{record_start, entries_between, section_at, ports_in}
use Rattle.layout.proofs.Table.{length-entries_bytes, encode-decode}
use Rattle.layout_table.specs.CodeEntries.{nowhere}
use Rattle.slot_view.specs.CodeChoices.{BestAmong, empty, best}
use Rattle.slot_view.specs.CodeScan.{Readable}
use Rattle.slot_view.specs.CodeView.{InTable, places_in}
use Rattle.slot_view.specs.CodeViewed.{Buffered, BestBuffered}
use Rattle.slot_departure.specs.Code.{departed, Firsts, waits_at, stays, staying, Removable, removed}
use Rattle.slot_view.proofs.Bytes.{encode-from, encode-rest}
use Rattle.slot_view.proofs.Own.{table-readable, waiting_in-state}
use Rattle.slot_view.proofs.Placed.{length-numbers, map-numbers, encode-count, section-short}
use Rattle.slot_view.proofs.Placed.{decode-sections, decode-record, in_table-number}
use Rattle.slot_view.proofs.Window.{in_table-below}
use Rattle.slot_departure.proofs.Exchange.{encode-set}
use Rattle.slot_departure.proofs.Sending.{among-leaving}
use Rattle.slot_departure.proofs.Staying.{entry_at-same, record_at-same, stays-i, length-staying}

------------------------------------------------------------------------
-- the sections of the inputs so far are new

mixed : List (List Entry) → List (List Entry) → ℕ → List (List Entry)
mixed new old i = take i new ++ drop i old

mixed-short : (i : ℕ) (new old : List (List Entry)) → Short new → Short old → Short (mixed new old i)
unfolding mixed
mixed-short zero new old hn ho k = ho k
mixed-short (suc i) [] old hn ho k = rw (get_or-drop (suc i) old k []) (ho (suc i + k))
mixed-short (suc i) (n ∷ new) old hn ho zero = hn 0
mixed-short (suc i) (n ∷ new) [] hn ho (suc k) =
    subst (λ l. length (get_or (take i new ++ l) k []) ≤ section_room) (drop-nil i)
    (mixed-short i new [] (λ k. hn (suc k)) ho k)
mixed-short (suc i) (n ∷ new) (o ∷ old) hn ho (suc k) = mixed-short i new old (λ k. hn (suc k)) (λ k. ho (suc k)) k

module _ (new old : List (List Entry)) (same : length new ≡ length old) where
  mixed-all : mixed new old (length old) ≡ new
  unfolding mixed
  mixed-all = ap₂ ◌++◌ (take_all (length old) new (omega arith)) (drop-length old) ∙ append-nil new

  module _ (i : ℕ) (l : i < length old) where
    front : length (take i new) ≡ i
    front = length-take-le i new (omega arith)

    drop-mixed : drop i (mixed new old i) ≡ drop i old
    unfolding mixed
    drop-mixed = drop_at (take i new) (drop i old) i front

    parts : mixed new old i ≡ take i new ++ (get_or old i [] ∷ drop (suc i) old)
    unfolding mixed
    parts = ap (λ l. take i new ++ l) (drop-cons old i [] l)

    mixed-at : get_or (mixed new old i) i [] ≡ get_or old i []
    mixed-at = ap (λ l. get_or l i []) parts ∙ get_or_at (take i new) (get_or old i []) (drop (suc i) old) [] i front

    length-mixed : i < length (mixed new old i)
    length-mixed = omega (arith, ap length parts, length-append (take i new) (get_or old i [] ∷ drop (suc i) old), front)

    mixed-next : set (mixed new old i) i (get_or new i []) ≡ mixed new old (i + 1)
    unfolding mixed
    mixed-next =
        let more : suc i ≡ i + 1 = omega arith in
        ap (λ l. set l i (get_or new i [])) parts
        ∙ set_at (take i new) (get_or old i []) (drop (suc i) old) (get_or new i []) i front
        ∙ sym
        (append_snoc (take i new) (get_or new i []) (drop (suc i) old))
        ∙ ap (λ l. l ++ drop (suc i) old) (sym (take-suc new i [] (omega arith)))
        ∙ ap (λ n. take n new ++ drop n old) more

------------------------------------------------------------------------
-- what stays of a section

numbered-own : (table : List ℕ) (k n : ℕ)
    → number_from k (map (entry_at table) (numbers_from k n)) ≡ map (waits_at table) (numbers_from k n)
unfolding number_from numbers_from waits_at
numbered-own table k zero = refl
numbered-own table k (suc n) = ap (λ l. waits_at table k ∷ l) (numbered-own table (k + 1) n)

-- entries that are the same
staying-same : (table other numbers : List ℕ) (from n : ℕ)
    → ((k : ℕ) → from ≤ k → k < from + n → entry_at other k ≡ entry_at table k)
    → staying other numbers from n ≡ staying table numbers from n
unfolding staying waits_at
staying-same table other numbers from n h =
    ap (λ l. map entry_of (keep (stays numbers) l))
    (map-numbers (waits_at other) (waits_at table) from n
    (λ k low high. ap (λ e. record { at = k; cell = e.cell; place = e.place }) (h k low high)))

module _ (table : List ℕ) where
  abbrev old : List (List Entry)
  old = (state_of table).sections

  abbrev after : List (List Entry)
  after = without (leaving (ports_in table) (waiting (state_of table).sections)) (state_of table).sections

  -- the switch whose first inputs are without the cells that leave
  pub partly : ℕ → Switch
  partly i = record { ports = (state_of table).ports; clock = (state_of table).clock; sections = mixed after old i }

module _ (table : List ℕ) (good : IsTable table) where
  readable : Readable table
  readable = table-readable table good

  section-is : (i : ℕ) → i < ports_in table
      → get_or (old table) i [] ≡ map (entry_at table) (numbers_from (section_room * i) (count_in table i))
  unfolding up_to section_at entries_between between
  section-is i l =
      let size : section_room * i + count_in table i - section_room * i ≡ count_in table i = omega arith in
      ap (λ l. get_or l i []) (decode-sections table (state_of table) good)
      ∙ numbers_from-at (section_at table) 0 (ports_in table) i [] l
      ∙ ap (section_at table) (zero-add i)
      ∙ ap (λ n. map (entry_at table) (numbers_from (section_room * i) n)) size

  length-old : length (old table) ≡ ports_in table
  unfolding up_to
  length-old = ap length (decode-sections table (state_of table) good) ∙ length-numbers (section_at table) 0 (ports_in table)

  old-short : Short (old table)
  old-short = section-short table (state_of table) good

  lengths : length (after table) ≡ length (old table)
  lengths = length_without (leaving (ports_in table) (waiting (old table))) (old table)

  pub partly_none : table ≡ encode (partly table 0)
  unfolding partly mixed
  partly_none = sym (encode-decode table (state_of table) good)

  pub partly-all : encode (partly table (ports_in table)) ≡ encode (departed (state_of table))
  unfolding partly departed state_of ports_in
  partly-all =
      ap (λ n. encode (partly table n)) (sym length-old)
      ∙ ap (λ l. encode (record { ports = (state_of table).ports; clock = (state_of table).clock; sections = l }))
      (mixed-all (after table) (old table) lengths)

  module _ {numbers : List ℕ} (c : BestBuffered table (places_in table) numbers) where
    -- what stays of an input
    staying-new : (i : ℕ) → i < ports_in table
        → get_or (after table) i [] ≡ staying table numbers (section_room * i) (count_in table i)
    unfolding staying stays
    staying-new i l =
        without_at (leaving (ports_in table) (waiting (old table))) (old table) i
        ∙ ap (λ w. map entry_of (keep stay w)) numbered
        ∙ ap (map entry_of) (keep-ext stay (stays numbers) (map (waits_at table) ks) agree)
      where
        ks : List ℕ
        ks = numbers_from (section_room * i) (count_in table i)

        stay : Waiting → Bool
        stay e = not (among (leaving (ports_in table) (waiting (old table))) e)

        numbered : number_from (section_room * i) (get_or (old table) i []) ≡ map (waits_at table) ks
        numbered =
            ap (number_from (section_room * i)) (section-is i l) ∙ numbered-own table (section_room * i) (count_in table i)

        agree : (e : Waiting) → Memᴰ e (map (waits_at table) ks) → stay e ≡ stays numbers e
        agree e m =
            ap not
            (ap (λ all. among (leaving (ports_in table) all) e) (sym (waiting_in-state table good))
            ∙ among-leaving table good c
            (subst (Memᴰ e) (sym (waiting_in-state table good))
            (section-waiting (old table) i (subst (Memᴰ e) (sym numbered) m))))

    fresh-short : Short (after table)
    fresh-short i = go (compare i (ports_in table))
      where
        past : ports_in table ≤ i → length (get_or (after table) i []) ≤ section_room
        past h =
            let none : get_or (after table) i [] ≡ [] =
            get_or-eq_default (after table) [] (omega (arith, lengths, length-old)) in
            rw none (omega arith)

        go : Compared i (ports_in table) → length (get_or (after table) i []) ≤ section_room
        go (below h) =
            omega (
              arith,
              ap length (staying-new i h),
              length-staying table numbers (section_room * i) (count_in table i),
              readable.counts i (omega (arith, readable.ports)),
            )
        go (equal h) = past (omega arith)
        go (above h) = past (omega arith)

    ------------------------------------------------------------------------
    -- the table while its sections close up

    module _ (i : ℕ) (l : i < ports_in table) (now : List ℕ) (e : now ≡ encode (partly table i)) where
      within : i < length (old table)
      within = omega (arith, length-old)

      port : i < port_limit
      port = omega (arith, readable.ports)

      short : Short (partly table i).sections
      unfolding partly
      short = mixed-short i (after table) (old table) fresh-short old-short

      own-section : get_or (partly table i).sections i [] ≡ get_or (old table) i []
      unfolding partly
      own-section = mixed-at (after table) (old table) lengths i within

      -- from section i on the bytes are the table's
      tail-same : drop (header_size + section_size * i) now ≡ drop (header_size + section_size * i) table
      unfolding partly
      tail-same =
          let m : ℕ = port_limit - i in
          let sum : i + m ≡ port_limit = omega (arith, port) in
          ap (drop (header_size + section_size * i)) e
          ∙ encode-from (partly table i) i m short sum
          ∙ ap (sections_bytes m) (drop-mixed (after table) (old table) lengths i within)
          ∙ sym (encode-from (state_of table) i m old-short sum)
          ∙ ap (drop (header_size + section_size * i)) (encode-decode table (state_of table) good)

      count-own : count_in now i ≡ length (get_or (partly table i).sections i [])
      count-own = ap (λ bs. count_in bs i) e ∙ encode-count (partly table i) i port (short i)

      count_same : count_in now i ≡ count_in table i
      count_same =
          count-own
          ∙ ap length own-section
          ∙ sym (encode-count (state_of table) i port (old-short i))
          ∙ ap (λ bs. count_in bs i) (encode-decode table (state_of table) good)

      -- and so from each record of it on
      rest-same : (k : ℕ) → section_room * i ≤ k → drop (record_start k) now ≡ drop (record_start k) table
      rest-same k h =
          let at : record_start k ≡ header_size + section_size * i + entry_size * (k - section_room * i) = omega arith in
          ap (λ n. drop n now) at
          ∙ sym (drop-drop (entry_size * (k - section_room * i)) (header_size + section_size * i) now)
          ∙ ap (drop (entry_size * (k - section_room * i))) tail-same
          ∙ drop-drop (entry_size * (k - section_room * i)) (header_size + section_size * i) table
          ∙ ap (λ n. drop n table) (sym at)

      entry-same : (k : ℕ) → section_room * i ≤ k → entry_at now k ≡ entry_at table k
      entry-same k h = entry_at-same table now k (rest-same k h)

      -- the next section can close up
      module _ (size : length now ≡ table_size) {firsts : List ℕ} (f : Firsts numbers 16 firsts) where
        number : (k : ℕ) → section_room * i ≤ k → k < section_room * i + count_in now i → InTable table k
        number k low high = in_table-number table (state_of table) good i k l low (omega (arith, count_same))

        output : (k : ℕ) → section_room * i ≤ k → k < section_room * i + count_in now i → (entry_at now k).cell.output < port_limit
        output k low high =
            rw (entry-same k low) (omega (arith, readable.outputs k (number k low high), readable.ports))

        -- a cell before the first that leaves stays
        early : (k : ℕ) → section_room * i ≤ k → k < section_room * i + count_in now i → k < get_or firsts i 0
            → stays numbers (waits_at now k) ≡ true
        early k low high h =
            stays-i now numbers k k
            (λ q.
            let small : k < nowhere = in_table-below readable (number k low high) in
            let own : get_or numbers (entry_at now k).cell.output 0 / section_room ≡ i =
            omega (arith, count_same, readable.counts i port) in
            omega (
              arith,
              f.least (entry_at now k).cell.output (output k low high) (omega arith),
              ap (λ j. get_or firsts j 0) own,
            ))

        -- its first cell that leaves is one of its entries
        own_first : get_or firsts i 0 < nowhere
            → (section_room * i ≤ get_or firsts i 0) × (get_or firsts i 0 ≤ section_room * i + count_in now i)
        own_first h = go (f.real i port h)
          where
            entry : (o : ℕ) → get_or numbers o 0 ≡ get_or firsts i 0
                → BestAmong table (Buffered table (places_in table) o) (get_or numbers o 0) → InTable table (get_or firsts i 0)
            entry o q (empty d g) = absurd (omega arith)
            entry o q (best s b) = subst (InTable table) q b.own.entry

            go : (get_or firsts i 0 / section_room ≡ i) × (o : ℕ) × (o < 16) × (get_or numbers o 0 ≡ get_or firsts i 0)
                → (section_room * i ≤ get_or firsts i 0) × (get_or firsts i 0 ≤ section_room * i + count_in now i)
            go (at, o, s, q) =
                let end : get_or firsts i 0 < section_room * i + count_in table i =
                rw at at (entry o q (c.each o s)).position in
                (omega arith, omega (arith, count_same))

        pub removable : Removable now numbers i (get_or firsts i 0)
        removable =
            record {
              size = size;
              port = port;
              count = omega (arith, count_same, readable.counts i port);
              own = own_first;
              before = early;
              outputs = output;
              bytes =
                  λ k low high.
                  record_at-same table now k (rest-same k low)
                  ∙ decode-record table (state_of table) good k (number k low high)
                  ∙ ap entry_bytes (sym (entry-same k low));
              rest =
                  ap₂ (λ n bs. drop (record_start (section_room * i + n)) bs) count-own e
                  ∙ encode-rest (partly table i) i short port
                  ∙ ap₂ (λ w bs. replicate w 0 ++ drop (header_size + section_size * (i + 1)) bs) zeros (sym e);
            }
          where
            zeros : section_size - length (entries_bytes (get_or (partly table i).sections i []))
                ≡ section_size - entry_size * count_in now i
            zeros = omega (arith, count-own, length-entries_bytes (get_or (partly table i).sections i []))

      -- then one more is new
      pub partly-next : (new : List ℕ) → new ≡ removed now numbers i → new ≡ encode (partly table (i + 1))
      unfolding partly removed
      partly-next new h =
          h
          ∙ ap₂
          (λ es bs.
          set
          (take (header_size + section_size * i) bs ++ (section_bytes es ++ drop (header_size + section_size * (i + 1)) bs))
          (16 + i)
          (length es))
          kept e
          ∙ sym
          (encode-set (partly table i) i (get_or (after table) i []) short port
          (length-mixed (after table) (old table) lengths i within) (fresh-short i))
          ∙ ap (λ l. encode (record { ports = (state_of table).ports; clock = (state_of table).clock; sections = l }))
          (mixed-next (after table) (old table) lengths i within)
        where
          kept : staying now numbers (section_room * i) (count_in now i) ≡ get_or (after table) i []
          kept =
              ap (staying now numbers (section_room * i)) count_same
              ∙ staying-same table now numbers (section_room * i) (count_in table i) (λ k low high. entry-same k low)
              ∙ sym (staying-new i l)
