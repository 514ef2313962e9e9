-- A table in which the byte of a place is written.
--     Kept              a table with the ports, the clock, the counts and the cells of another
--     placed-kept       where a place is written, all of that is kept
--     places_in-placed   and of the places all but that one
--     kept-..           what the view takes from a table is the same in one that keeps it
use Prim.Native.Nat.{ℕ, ◌+◌, ◌*◌, ◌-◌, ◌/◌, ◌≤◌, ◌<◌}
use native.Mathlib.Omega.{arith}
use mathlib.Core.Bool.{true, false}
use mathlib.Core.Path.{◌≡◌, refl, sym, ◌∙◌, ap, ap₂, subst, fun_ext}
use mathlib.Core.Logic.{◌⊎◌, inl, inr, ◌≢◌}
use mathlib.Core.List.{List, map, flatten, Memᴰ}
use borrow.Author.Tests.{eqb-true, eqb-false, ltb-true, ltb-false}
use lib.Dec.{eqb, ltb}
use lib.ListN.{length, get_or, set, take, drop, length-set}
use lib.Seq.{get_or-set_same, get_or-set_other, set_out, ext_get_or, drop-set-lt, drop-set-add, take-set-le}
use Rattle.laws.specs.Lists.{numbers_from, up_to}
use Rattle.laws.proofs.Tests.{either}
use Rattle.sets.specs.Sets.{set_from}
use Rattle.cell.specs.Limits.{section_room, port_limit}
use Rattle.model.specs.State.{is_listed}
use Rattle.layout.specs.Number.{number_of, number_at, word}
use Rattle.layout.specs.Entry.{entry_at, clock_in, count_in}
use Rattle.layout.specs.Code.{record_start, ports_in}
use Rattle.layout.specs.Table.{table_size, place_of, entry_limit}
use Rattle.layout.proofs.Records.{entry_at-input, entry_at-output, entry_at-flow, entry_at-rank, entry_at-tag, entry_at-slot}
use Rattle.layout.proofs.Records.{place_byte_at-byte}
use Rattle.layout_table.specs.CodeEntries.{nowhere}
use Rattle.slot_view.specs.CodeChoices.{BestAmong, empty, best}
use Rattle.slot_view.specs.CodeScan.{Readable}
use Rattle.slot_view.specs.CodeView.{waiting_at, window, in_table, InTable, crosspoint_at, Agrees, places_in}
use Rattle.slot_view.specs.CodeViewed.{is_head, listed_set, head_set, ListsOf, key_at, Buffered, BestBuffered, ViewOf}
use Rattle.slot_view.proofs.Own.{length-places_in, places_in-at}
use Rattle.slot_view.proofs.Placed.{map-numbers}

------------------------------------------------------------------------
-- one byte written

number_at-set : (w at p v : ℕ) (bs : List ℕ) → (p < at) ⊎ (at + w ≤ p) → number_at w at (set bs p v) ≡ number_at w at bs
unfolding number_at
number_at-set w at p v bs (inl h) = ap (λ l. number_of (take w l)) (drop-set-lt at bs p v h)
number_at-set w at p v bs (inr h) =
    let split : p ≡ at + (p - at) = omega arith in
    ap (λ n. number_of (take w (drop at (set bs n v)))) split
    ∙ ap (λ l. number_of (take w l)) (drop-set-add at bs (p - at) v)
    ∙ ap number_of (take-set-le w (drop at bs) (p - at) v (omega arith))

word_set : (at p v : ℕ) (bs : List ℕ) → (p < at) ⊎ (at + 4 ≤ p) → word (set bs p v) at ≡ word bs at
unfolding word
word_set at p v bs h = number_at-set 4 at p v bs h

------------------------------------------------------------------------
-- a table that keeps all but the places

pub record Kept (old new : List ℕ) : Type 0 where
  pub size : length new ≡ length old
  pub ports : ports_in new ≡ ports_in old
  pub clock : clock_in new ≡ clock_in old
  pub counts : (input : ℕ) → input < port_limit → count_in new input ≡ count_in old input
  pub cells : (k : ℕ) → (entry_at new k).cell ≡ (entry_at old k).cell

pub kept_same : (table : List ℕ) → Kept table table
kept_same table = record { size = refl; ports = refl; clock = refl; counts = λ i l. refl; cells = λ k. refl }

pub kept_trans : {old mid new : List ℕ} → Kept old mid → Kept mid new → Kept old new
kept_trans a b =
    record {
      size = b.size ∙ a.size;
      ports = b.ports ∙ a.ports;
      clock = b.clock ∙ a.clock;
      counts = λ i l. b.counts i l ∙ a.counts i l;
      cells = λ k. b.cells k ∙ a.cells k;
    }

module _ (table : List ℕ) (k v : ℕ) where
  abbrev new : List ℕ
  new = set table (record_start k + 2) v

  -- the words of a record stand behind its place, and before that of the next
  apart : (j at : ℕ) → 4 ≤ at → at ≤ 12
      → (record_start k + 2 < record_start j + at) ⊎ (record_start j + at + 4 ≤ record_start k + 2)
  apart j at low high = go (either (ltb j k))
    where
      go : (ltb j k ≡ true) ⊎ (ltb j k ≡ false)
          → (record_start k + 2 < record_start j + at) ⊎ (record_start j + at + 4 ≤ record_start k + 2)
      go (inl t) = let l : j < k = ltb-true _ _ t in inr (omega arith)
      go (inr t) = let l : k ≤ j = ltb-false _ _ t in inl (omega arith)

  byte-kept : (p : ℕ) → p ≢ record_start k + 2 → get_or new p 0 ≡ get_or table p 0
  byte-kept p n = get_or-set_other table (record_start k + 2) p v 0 n

  placed-output : (j : ℕ) → (entry_at new j).cell.output ≡ (entry_at table j).cell.output
  placed-output j =
      entry_at-output new j ∙ byte-kept (record_start j) (λ e. omega arith) ∙ sym (entry_at-output table j)

  placed-flow : (j : ℕ) → (entry_at new j).cell.flow ≡ (entry_at table j).cell.flow
  placed-flow j = entry_at-flow new j ∙ byte-kept (record_start j + 1) (λ e. omega arith) ∙ sym (entry_at-flow table j)

  word_kept : (j at : ℕ) → 4 ≤ at → at ≤ 12 → word new (record_start j + at) ≡ word table (record_start j + at)
  word_kept j at low high = word_set (record_start j + at) (record_start k + 2) v table (apart j at low high)

  placed-cell : (j : ℕ) → (entry_at new j).cell ≡ (entry_at table j).cell
  placed-cell j =
      λ z.
      record {
        input = (entry_at-input new j ∙ sym (entry_at-input table j)) z;
        output = placed-output j z;
        flow = placed-flow j z;
        rank = (entry_at-rank new j ∙ word_kept j 4 (omega arith) (omega arith) ∙ sym (entry_at-rank table j)) z;
        tag = (entry_at-tag new j ∙ word_kept j 8 (omega arith) (omega arith) ∙ sym (entry_at-tag table j)) z;
        slot = (entry_at-slot new j ∙ word_kept j 12 (omega arith) (omega arith) ∙ sym (entry_at-slot table j)) z;
      }

  pub placed-kept : Kept table (set table (record_start k + 2) v)
  unfolding ports_in clock_in count_in
  placed-kept =
      record {
        size = length-set table (record_start k + 2) v;
        ports = word_set 4 (record_start k + 2) v table (inr (omega arith));
        clock = word_set 8 (record_start k + 2) v table (inr (omega arith));
        counts = λ i l. byte-kept (16 + i) (λ e. omega arith);
        cells = placed-cell;
      }

  -- past the last record there is nothing to write
  pub placed_past : length table ≡ table_size → nowhere ≤ k → set table (record_start k + 2) v ≡ table
  placed_past size past = set_out table (record_start k + 2) v (omega arith)

  pub places_in-placed : length table ≡ table_size
      → places_in (set table (record_start k + 2) v) ≡ set (places_in table) k v
  places_in-placed size = go (either (ltb k nowhere))
    where
      at : k < nowhere → (i : ℕ) → i < length (places_in new) → get_or (places_in new) i 0 ≡ get_or (set (places_in table) k v) i 0
      at small i l =
          let b : i < entry_limit = omega (arith, length-places_in new) in
          places_in-at new i b ∙ place_byte_at-byte new i ∙ one b (either (eqb i k))
        where
          one : i < entry_limit → (eqb i k ≡ true) ⊎ (eqb i k ≡ false)
              → get_or new (record_start i + 2) 0 ≡ get_or (set (places_in table) k v) i 0
          one b (inl t) =
              let q : i ≡ k = eqb-true i k t in
              rw q
              (get_or-set_same table (record_start k + 2) v 0 (omega arith)
              ∙ sym (get_or-set_same (places_in table) k v 0 (omega (arith, length-places_in table))))
          one b (inr t) =
              let n : i ≢ k = eqb-false i k t in
              byte-kept (record_start i + 2) (λ e. n (omega arith))
              ∙ sym (place_byte_at-byte table i)
              ∙ sym (places_in-at table i b)
              ∙ sym (get_or-set_other (places_in table) k i v 0 n)

      go : (ltb k nowhere ≡ true) ⊎ (ltb k nowhere ≡ false) → places_in new ≡ set (places_in table) k v
      go (inl t) =
          ext_get_or 0 (places_in new) (set (places_in table) k v)
          (length-places_in new ∙ sym (length-set (places_in table) k v ∙ length-places_in table))
          (at (ltb-true _ _ t))
      go (inr t) =
          let past : nowhere ≤ k = ltb-false _ _ t in
          ap places_in (placed_past size past)
          ∙ sym (set_out (places_in table) k v (omega (arith, length-places_in table)))

------------------------------------------------------------------------
-- the view of a table and of one that keeps it

pub kept-key : {old new : List ℕ} → Kept old new → (k : ℕ) → key_at new k ≡ key_at old k
unfolding key_at
kept-key kept k = rw (kept.cells k)

module _ {old new : List ℕ} (kept : Kept old new) (r : Readable old) where
  kept_entry : {k : ℕ} → InTable old k → InTable new k
  kept_entry {k} t =
      record {
        input = omega (arith, kept.ports, t.input);
        position = omega (arith, t.position, kept.counts (k / section_room) (omega (arith, t.input, r.ports)));
      }

  kept_back : {k : ℕ} → InTable new k → InTable old k
  kept_back {k} t =
      let port : k / section_room < ports_in old = omega (arith, kept.ports, t.input) in
      record {
        input = port;
        position = omega (arith, t.position, kept.counts (k / section_room) (omega (arith, r.ports)));
      }

  module _ (places : List ℕ) where
    same-waiting : (k : ℕ) → waiting_at new places k ≡ waiting_at old places k
    unfolding waiting_at
    same-waiting k = λ z. record { at = k; cell = kept.cells k z; place = place_of (get_or places k 0) }

    same-window : (i n : ℕ) → window new places i n ≡ window old places i n
    unfolding window
    same-window i n = ap (λ f. map f (numbers_from (section_room * i) n)) (fun_ext same-waiting)

    kept-in_table : in_table new places ≡ in_table old places
    unfolding in_table up_to
    kept-in_table =
        ap (λ n. flatten (map (λ i. window new places i (count_in new i)) (numbers_from 0 n))) kept.ports
        ∙ ap flatten
        (map-numbers (λ i. window new places i (count_in new i)) (λ i. window old places i (count_in old i)) 0 (ports_in old)
        (λ i low high.
        ap (window new places i) (kept.counts i (omega (arith, r.ports))) ∙ same-window i (count_in old i)))

    kept-lists : (listed heads : List ℕ) → ListsOf old places listed heads → ListsOf new places listed heads
    unfolding listed_set head_set
    kept-lists listed heads l =
        record {
          listed-size = l.listed-size;
          heads-size = l.heads-size;
          listed-at = λ i b.
              l.listed-at i b
              ∙ ap (set_from (λ k. is_listed (place_of (get_or places k 0))) (section_room * i)) (sym (kept.counts i b));
          heads-at = λ i b.
              l.heads-at i b
              ∙ ap₂ (λ all n. set_from (λ k. is_head all (waiting_at old places k)) (section_room * i) n)
              (sym kept-in_table) (sym (kept.counts i b))
              ∙ ap (λ w. set_from (λ k. is_head (in_table new places) (w k)) (section_room * i) (count_in new i))
              (sym (fun_ext same-waiting));
        }

    kept-agrees : (cross : List (List ℕ)) → Agrees old places cross → Agrees new places cross
    kept-agrees cross a =
        record {
          filled = λ e m h. a.filled e (subst (Memᴰ e) kept-in_table m) h;
          real = λ i o p q h.
              let w = a.real i o p q h in
              rw (same-waiting (crosspoint_at cross i o)) (kept_entry w.0, w.1, w.2, w.3);
        }

    kept-bests : (bests : List ℕ) → BestBuffered old places bests → BestBuffered new places bests
    kept-bests bests b = record { size = b.size; each = λ o l. go o (get_or bests o 0) (b.each o l) }
      where
        back : (o k : ℕ) → Buffered new places o k → Buffered old places o k
        back o k m = record { entry = kept_back m.entry; place = m.place; goes = rw (kept.cells k) at m.goes }

        go : (o n : ℕ) → BestAmong old (Buffered old places o) n → BestAmong new (Buffered new places o) n
        go o n (empty e f) = empty e (λ k m. f k (back o k m))
        go o n (best s u) =
            let own : Buffered old places o n = u.own in
            best s
            (record {
              own =
                  record { entry = kept_entry own.entry; place = own.place; goes = rw (kept.cells n) own.goes };
              upper = λ k m. rw (kept.ports, kept.cells n, kept.cells k) (u.upper k (back o k m));
            })

  pub kept-view : {places listed heads : List ℕ} {cross keys : List (List ℕ)} {bests : List ℕ}
      → ViewOf old places listed heads cross keys bests → ViewOf new places listed heads cross keys bests
  kept-view {places} {listed} {heads} {cross} {keys} {bests} v =
      record {
        lists = kept-lists places listed heads v.lists;
        square = v.square;
        agrees = kept-agrees places cross v.agrees;
        keyed =
            record {
              square = v.keyed.square;
              at = λ i o p q. v.keyed.at i o p q ∙ sym (kept-key kept (crosspoint_at cross i o));
            };
        bests = kept-bests places bests v.bests;
      }
