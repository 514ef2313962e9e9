-- The entries that stay close up in a section.
--     cleared-            one record more is cleared
--     free-, closed-      one entry leaves or stays
--     staying-            the entries that stay, of a run with one more
--     Closing, closing-   the table while a section closes up
--     removed-            a section that has closed up, and one that keeps all its cells
use Prim.Native.Nat.{ℕ, zero, suc, ◌+◌, ◌*◌, ◌-◌, ◌/◌, ◌≤◌, ◌<◌}
use native.Mathlib.Omega.{arith}
use native.Mathlib.Nat.{add-zero}
use mathlib.Core.Bool.{Bool, true, false, not}
use mathlib.Core.Path.{◌≡◌, refl, sym, ◌∙◌, ap, ap₂, subst}
use mathlib.Core.List.{List, [], ◌∷◌, ◌++◌, map, map-append, append_assoc, append-nil}
use borrow.Author.Tests.{eq-eqb, ne_eqb}
use lib.ListN.{length, get_or, set, take, drop, replicate, take-append-drop, length-append, length-map, length-replicate}
use lib.ListN.{replicate-append-replicate}
use lib.Seq.{drop-drop, set-get_or}
use Rattle.laws.specs.Lists.{keep, numbers_from}
use Rattle.laws.proofs.Tests.{cond-pass, cond-fail}
use Rattle.laws.proofs.Lists.{keep_append, keep-pass, keep-fail, keep-nil}
use Rattle.laws.proofs.Count.{length-keep, count-le-length}
use Rattle.laws.proofs.Numbers.{length-numbers_from, numbers_from-add}
use Rattle.cell.specs.Limits.{section_room}
use Rattle.model.specs.State.{Entry}
use Rattle.model.specs.Phase.{Waiting}
use Rattle.model.proofs.Numbering
use Rattle.layout.specs.Number.{bytes_of}
use Rattle.layout.specs.Table.{header_size, entry_size, section_size, table_size, entry_of, entry_bytes, entries_bytes}
use Rattle.layout.specs.Table.{section_bytes, entry_limit}
use Rattle.layout.specs.Entry.{entry_at, count_in}
use Rattle.layout.specs.Code.{record_start, record_at, put}
use Rattle.layout.proofs.Table.{length-entry_bytes, length-entries_bytes, entries_bytes-append}
use Rattle.slot_departure.specs.Code.{waits_at, stays, staying, free_after, closed_one, cleared_from, Removable, removed}
use Rattle.layout.proofs.Put.{put_next, drop-put, length-put}
use Rattle.layout_table.specs.CodeEntries.{nowhere}

------------------------------------------------------------------------
-- one record more is cleared

pub zero-words : bytes_of 8 0 ++ bytes_of 8 0 ≡ replicate 16 0
unfolding bytes_of
zero-words = refl

-- nothing put in changes nothing
put-nil : (at : ℕ) (old : List ℕ) → take at old ++ ([] ++ drop (at + 0) old) ≡ old
put-nil at old = ap (λ n. take at old ++ drop n old) (add-zero at) ∙ take-append-drop at old

pub cleared-none : (table : List ℕ) (first : ℕ) → cleared_from table first 0 ≡ table
unfolding cleared_from
cleared-none table first = put-nil (record_start first) table

pub cleared_more : (table mid new : List ℕ) (first n : ℕ) → record_start (first + n) + 16 ≤ length table
    → mid ≡ cleared_from table first n → new ≡ put (record_start (first + n)) 16 (replicate 16 0) mid
    → new ≡ cleared_from table first (n + 1)
unfolding cleared_from
cleared_more table mid new first n room one two =
    let at : record_start (first + n) ≡ record_start first + entry_size * n = omega arith in
    let more : entry_size * n + 16 ≡ entry_size * (n + 1) = omega arith in
    put_next (record_start first) (entry_size * n) 16 (replicate (entry_size * n) 0) (replicate 16 0) table mid new
    (length-replicate (entry_size * n) 0) refl (omega arith) one (two ∙ ap (λ k. put k 16 (replicate 16 0) mid) at)
    ∙ ap (λ bs. put (record_start first) (entry_size * n + 16) bs table) (replicate-append-replicate (entry_size * n) 16 0)
    ∙ ap (λ m. put (record_start first) m (replicate m 0) table) more

------------------------------------------------------------------------
-- one entry

-- a record copied to itself
copied-self : (k : ℕ) (old : List ℕ) → old ≡ put (record_start k) entry_size (record_at old k) old
unfolding record_at
copied-self k old =
    let at : ℕ = record_start k in
    sym
    (ap (λ bs. take at old ++ (take entry_size (drop at old) ++ bs)) (sym (drop-drop entry_size at old))
    ∙ ap (λ bs. take at old ++ bs) (take-append-drop entry_size (drop at old))
    ∙ take-append-drop at old)

module _ (table numbers : List ℕ) (k free : ℕ) where
  -- it leaves
  module _ (h : get_or numbers (entry_at table k).cell.output 0 ≡ k) where
    leaves : stays numbers (waits_at table k) ≡ false
    unfolding stays waits_at
    leaves = ap not (eq-eqb _ _ h)

    pub free-leave : free ≡ free_after table numbers k free
    unfolding free_after
    free-leave = sym (cond-fail _ _ _ leaves)

    pub closed-leave : table ≡ closed_one table numbers k free
    unfolding closed_one
    closed-leave = sym (cond-fail _ _ _ leaves)

  -- it stays
  pub stays-i : (get_or numbers (entry_at table k).cell.output 0 ≡ k → ⊥) → stays numbers (waits_at table k) ≡ true
  unfolding stays waits_at
  stays-i h = ap not (ne_eqb _ _ h)

  module _ (h : stays numbers (waits_at table k) ≡ true) where
    pub free-stay : free + 1 ≡ free_after table numbers k free
    unfolding free_after
    free-stay = sym (cond-pass _ _ _ h)

    pub closed-stay : put (record_start free) entry_size (record_at table k) table ≡ closed_one table numbers k free
    unfolding closed_one
    closed-stay = sym (cond-pass _ _ _ h)

------------------------------------------------------------------------
-- the entries that stay

-- the bytes from a record on decide it and its entry
pub entry_at-same : (old new : List ℕ) (k : ℕ) → drop (record_start k) new ≡ drop (record_start k) old
    → entry_at new k ≡ entry_at old k
unfolding entry_at
entry_at-same old new k h = ap (λ bs. entry_of (k / section_room) (take entry_size bs)) h

pub record_at-same : (old new : List ℕ) (k : ℕ) → drop (record_start k) new ≡ drop (record_start k) old
    → record_at new k ≡ record_at old k
unfolding record_at
record_at-same old new k h = ap (take entry_size) h

entries_bytes-last : (es : List Entry) (e : Entry) → entries_bytes (es ++ (e ∷ [])) ≡ entries_bytes es ++ entry_bytes e
unfolding entries_bytes
entries_bytes-last es e = entries_bytes-append es (e ∷ []) ∙ ap (λ bs. entries_bytes es ++ bs) (append-nil (entry_bytes e))

module _ (table numbers : List ℕ) (first : ℕ) where
  staying-none : staying table numbers first 0 ≡ []
  unfolding staying numbers_from keep
  staying-none = refl

  staying-stay : stays numbers (waits_at table first) ≡ true → staying table numbers first 1 ≡ entry_at table first ∷ []
  unfolding staying numbers_from waits_at
  staying-stay h =
      ap (map Numbering.entry_of)
      (keep-pass (stays numbers) (waits_at table first) [] h
      ∙ ap (λ l. waits_at table first ∷ l) (keep-nil (stays numbers)))

  staying-leave : stays numbers (waits_at table first) ≡ false → staying table numbers first 1 ≡ []
  unfolding staying numbers_from
  staying-leave h =
      ap (map Numbering.entry_of) (keep-fail (stays numbers) (waits_at table first) [] h ∙ keep-nil (stays numbers))

  staying-next : (n : ℕ)
      → staying table numbers first (n + 1) ≡ staying table numbers first n ++ staying table numbers (first + n) 1
  unfolding staying
  staying-next n =
      ap (λ l. map Numbering.entry_of (keep (stays numbers) (map (waits_at table) l))) (numbers_from-add first n 1)
      ∙ ap (λ l. map Numbering.entry_of (keep (stays numbers) l))
      (map-append (waits_at table) (numbers_from first n) (numbers_from (first + n) 1))
      ∙ ap (map Numbering.entry_of)
      (keep_append (stays numbers) (map (waits_at table) (numbers_from first n))
      (map (waits_at table) (numbers_from (first + n) 1)))
      ∙ map-append Numbering.entry_of (keep (stays numbers) (map (waits_at table) (numbers_from first n)))
      (keep (stays numbers) (map (waits_at table) (numbers_from (first + n) 1)))

  pub length-staying : (n : ℕ) → length (staying table numbers first n) ≤ n
  unfolding staying
  length-staying n =
      let all : List Waiting = map (waits_at table) (numbers_from first n) in
      omega (
        arith,
        length-map (keep (stays numbers) all) Numbering.entry_of,
        length-keep (stays numbers) all,
        count-le-length (stays numbers) all,
        length-map (numbers_from first n) (waits_at table),
        length-numbers_from first n,
      )

------------------------------------------------------------------------
-- the table while a section closes up

module _ (table numbers : List ℕ) (first : ℕ) where
  -- n entries have closed up
  abbrev closed : ℕ → List ℕ
  closed n =
      let es = staying table numbers first n in
      put (record_start first) (entry_size * length es) (entries_bytes es) table

  -- the entries from `first` up to k have
  pub record Closing (k free : ℕ) (now : List ℕ) : Type 0 where
    pub low : first ≤ k
    pub next : free ≡ first + length (staying table numbers first (k - first))
    pub bytes : now ≡ closed (k - first)

  closing-none : Closing first first table
  unfolding entries_bytes
  closing-none =
      let none : staying table numbers first (first - first) ≡ [] =
      ap (staying table numbers first) (omega arith) ∙ staying-none table numbers first in
      record {
        low = omega arith;
        next = omega (arith, ap length none);
        bytes =
            sym (ap (λ es. put (record_start first) (entry_size * length es) (entries_bytes es) table) none
            ∙ put-nil (record_start first) table);
      }

module _ (table numbers : List ℕ) {input from : ℕ} (r : Removable table numbers input from) where
  abbrev first : ℕ
  first = section_room * input

  abbrev count : ℕ
  count = count_in table input

  module _ {k free : ℕ} {now : List ℕ} (c : Closing table numbers (section_room * input) k free now)
      (l : k < section_room * input + count_in table input) where
    abbrev kept : List Entry
    kept = staying table numbers first (k - first)

    pub closing-free : free ≤ k
    closing-free = omega (arith, c.next, c.low, length-staying table numbers first (k - first))

    pub closing-number : k < entry_limit
    closing-number = omega (arith, r.count, r.port)

    room : record_start first + entry_size * length kept ≤ record_start k
    room = omega (arith, c.next, closing-free)

    fits : record_start k + entry_size ≤ length table
    fits = omega (arith, closing-number, r.size)

    pub closing-size : length now ≡ table_size
    closing-size =
        ap length c.bytes
        ∙ length-put (record_start first) (entry_size * length kept) (entries_bytes kept) table (length-entries_bytes kept)
        (omega (arith, room, fits))
        ∙ r.size

    -- from this record on the bytes are the table's
    closing-rest : drop (record_start k) now ≡ drop (record_start k) table
    closing-rest =
        ap (drop (record_start k)) c.bytes
        ∙ drop-put (record_start first) (entry_size * length kept) (entries_bytes kept) table (length-entries_bytes kept)
        (omega (arith, room, fits)) (record_start k) room

    closing-entry : entry_at now k ≡ entry_at table k
    closing-entry = entry_at-same table now k closing-rest

    pub closing-output : (entry_at now k).cell.output < 16
    closing-output = rw closing-entry (r.outputs k c.low l)

    stays_same : stays numbers (waits_at now k) ≡ stays numbers (waits_at table k)
    unfolding waits_at
    stays_same = ap (λ e. stays numbers (record { at = k; cell = e.cell; place = e.place })) closing-entry

    pub closing-more : (next : ℕ) (new : List ℕ) → next ≡ free_after now numbers k free
        → new ≡ closed_one now numbers k free → Closing table numbers (section_room * input) (k + 1) next new
    unfolding free_after closed_one
    closing-more next new e d = go (stays numbers (waits_at table k)) refl
      where
        at : first + (k - first) ≡ k
        at = omega (arith, c.low)

        grown : staying table numbers first (k + 1 - first) ≡ kept ++ staying table numbers k 1
        grown =
            ap (staying table numbers first) (omega (arith, c.low))
            ∙ staying-next table numbers first (k - first)
            ∙ ap (λ j. kept ++ staying table numbers j 1) at

        go : (b : Bool) → stays numbers (waits_at table k) ≡ b → Closing table numbers first (k + 1) next new
        go true h =
            let stay : stays numbers (waits_at now k) ≡ true = stays_same ∙ h in
            let x : Entry = entry_at table k in
            let one : staying table numbers first (k + 1 - first) ≡ kept ++ (x ∷ []) =
            grown ∙ ap (λ l. kept ++ l) (staying-stay table numbers k h) in
            let put_in : new ≡ put (record_start free) entry_size (entry_bytes x) now =
            d
            ∙ cond-pass _ _ _ stay
            ∙ ap (λ bs. put (record_start free) entry_size bs now)
            (record_at-same table now k closing-rest ∙ r.bytes k c.low l) in
            let size : length (kept ++ (x ∷ [])) ≡ length kept + 1 = length-append kept (x ∷ []) in
            let start : record_start free ≡ record_start first + entry_size * length kept = omega (arith, c.next) in
            let width : entry_size * length kept + entry_size ≡ entry_size * length (kept ++ (x ∷ [])) = omega arith in
            record {
              low = omega (arith, c.low);
              next = omega (arith, e, cond-pass _ (free + 1) free stay, c.next, ap length one);
              bytes =
                  put_next (record_start first) (entry_size * length kept) entry_size (entries_bytes kept) (entry_bytes x)
                  table now new (length-entries_bytes kept) (length-entry_bytes x) (omega (arith, room, fits)) c.bytes
                  (put_in ∙ ap (λ j. put j entry_size (entry_bytes x) now) start)
                  ∙ ap₂ (λ w bs. put (record_start first) w bs table) width (sym (entries_bytes-last kept x))
                  ∙ ap (λ es. put (record_start first) (entry_size * length es) (entries_bytes es) table) (sym one);
            }
        go false h =
            let leave : stays numbers (waits_at now k) ≡ false = stays_same ∙ h in
            let same : staying table numbers first (k + 1 - first) ≡ kept =
            grown ∙ ap (λ l. kept ++ l) (staying-leave table numbers k h) ∙ append-nil kept in
            record {
              low = omega (arith, c.low);
              next = e ∙ cond-fail _ _ _ leave ∙ c.next ∙ ap (λ es. first + length es) (sym same);
              bytes =
                  d
                  ∙ cond-fail _ _ _ leave
                  ∙ c.bytes
                  ∙ ap (λ es. put (record_start first) (entry_size * length es) (entries_bytes es) table) (sym same);
            }

  -- the entries before `from` have closed up
  closed-before : (n k : ℕ) → k ≡ first + n → k ≤ from → k ≤ first + count → Closing table numbers first k k table
  closed-before zero k e h l =
      let at : first ≡ k = omega arith in
      subst (λ k. Closing table numbers first k k table) at (closing-none table numbers first)
  closed-before (suc n) k e h l =
      let j : ℕ = first + n in
      let stay : stays numbers (waits_at table j) ≡ true = r.before j (omega arith) (omega arith) (omega arith) in
      let next : j + 1 ≡ k = omega arith in
      subst (λ k. Closing table numbers first k k table) next
      (closing-more (closed-before n j refl (omega arith) (omega arith)) (omega arith) (j + 1) table
      (free-stay table numbers j j stay) (copied-self j table ∙ closed-stay table numbers j j stay))

  pub closing-from : from < nowhere → Closing table numbers (section_room * input) from from table
  closing-from h =
      closed-before (from - first) from (omega (arith, r.own h)) (omega arith) (omega (arith, r.own h))

  pub closing-all : nowhere ≤ from
      → Closing table numbers (section_room * input) (section_room * input + count_in table input)
      (section_room * input + count_in table input) table
  closing-all h = closed-before count (first + count) refl (omega (arith, r.count, r.port)) (omega arith)

------------------------------------------------------------------------
-- a section that has closed up

-- two runs of zeros are one
zeros-join : (a b c : List ℕ) (m z n : ℕ) → m + z ≡ n
    → a ++ ((b ++ replicate m 0) ++ (replicate z 0 ++ c)) ≡ a ++ ((b ++ replicate n 0) ++ c)
zeros-join a b c m z n e =
    ap (λ bs. a ++ bs)
    (append_assoc b (replicate m 0) (replicate z 0 ++ c)
    ∙ ap (λ bs. b ++ bs) (sym (append_assoc (replicate m 0) (replicate z 0) c)
    ∙ ap (λ bs. bs ++ c) (replicate-append-replicate m z 0 ∙ ap (λ k. replicate k 0) e))
    ∙ sym (append_assoc b (replicate n 0) c))

module _ (table numbers : List ℕ) {input from : ℕ} (r : Removable table numbers input from) where
  abbrev start : ℕ
  start = section_room * input

  abbrev entries : ℕ
  entries = count_in table input

  abbrev left : List Entry
  left = staying table numbers start entries

  module _ {free : ℕ} {mid : List ℕ}
      (c : Closing table numbers (section_room * input) (section_room * input + count_in table input) free mid) where
    all : start + entries - start ≡ entries
    all = omega arith

    free-is : free ≡ start + length left
    free-is = c.next ∙ ap (λ n. start + length (staying table numbers start n)) all

    pub closed-high : free ≤ section_room * input + count_in table input
    closed-high = omega (arith, free-is, length-staying table numbers start entries)

    closed-cleared : (new : List ℕ) → new ≡ cleared_from mid free (start + entries - free)
        → new
        ≡ put (record_start start) (entry_size * entries)
        (entries_bytes left ++ replicate (entry_size * (entries - length left)) 0) table
    unfolding cleared_from
    closed-cleared new e =
        let m : ℕ = entries - length left in
        let few : length left ≤ entries = length-staying table numbers start entries in
        let freed : start + entries - free ≡ m = omega (arith, free-is) in
        let at : record_start free ≡ record_start start + entry_size * length left = omega (arith, free-is) in
        let whole : entry_size * length left + entry_size * m ≡ entry_size * entries = omega arith in
        put_next (record_start start) (entry_size * length left) (entry_size * m) (entries_bytes left)
        (replicate (entry_size * m) 0) table mid new (length-entries_bytes left) (length-replicate (entry_size * m) 0)
        (omega (arith, r.size, r.count, r.port))
        (c.bytes
        ∙ ap (λ n. closed table numbers start n) all)
        (e
        ∙ ap₂ (λ j n. put j (entry_size * n) (replicate (entry_size * n) 0) mid) at freed)
        ∙ ap (λ w. put (record_start start) w (entries_bytes left ++ replicate (entry_size * m) 0) table) whole

    -- with zeros up to the next section the bytes are the section's
    pub removed-section : (new : List ℕ) → new ≡ cleared_from mid free (section_room * input + count_in table input - free)
        → set new (16 + input) (free - section_room * input) ≡ removed table numbers input
    unfolding removed section_bytes
    removed-section new e =
        let rest : List ℕ = drop (header_size + section_size * (input + 1)) table in
        let at : record_start start ≡ header_size + section_size * input = omega arith in
        let end : record_start start + entry_size * entries ≡ record_start (start + entries) = omega arith in
        let few : length left ≤ entries = length-staying table numbers start entries in
        let zeros : entry_size * (entries - length left) + (section_size - entry_size * entries)
        ≡ section_size - length (entries_bytes left) =
        omega (arith, r.count, length-entries_bytes left) in
        ap₂ (λ bs n. set bs (16 + input) n)
        (closed-cleared new e
        ∙ ap₂ (λ n bs. take n table ++ ((entries_bytes left ++ replicate (entry_size * (entries - length left)) 0) ++ bs)) at
        (ap (λ n. drop n table) end ∙ r.rest)
        ∙ zeros-join (take (header_size + section_size * input) table) (entries_bytes left) rest
        (entry_size * (entries - length left)) (section_size - entry_size * entries)
        (section_size - length (entries_bytes left)) zeros)
        (omega (arith, free-is))

  -- no cell leaves
  pub removed-none : nowhere ≤ from → table ≡ removed table numbers input
  unfolding count_in
  removed-none h =
      let end : ℕ = start + entries in
      let none : end - end ≡ 0 = omega arith in
      let count : end - start ≡ entries = omega arith in
      sym (set-get_or table (16 + input) 0)
      ∙ ap (set table (16 + input)) (sym count)
      ∙ removed-section (closing-all table numbers r h) table
      (sym (ap (cleared_from table end) none ∙ cleared-none table end))
