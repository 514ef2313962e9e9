-- The view, input by input.
--     sets-start, sets-put, sets_end      the sets of no input, of one more, of all: the table's
--     loaded-start, loaded-end            the crosspoints and buffers of no input, and of all
use Prim.Native.Nat.{ℕ, ◌+◌, ◌*◌, ◌≤◌, ◌<◌}
use native.Mathlib.Omega.{arith}
use mathlib.Core.Bool.{Bool, true}
use mathlib.Core.Path.{◌≡◌, refl, sym, ◌∙◌, ap, ap₂}
use mathlib.Core.List.{List, [], Memᴰ}
use lib.ListN.{length, get_or, set, replicate, length-set, get_or-replicate, get_or-eq_default}
use lib.Seq.{get_or-set_same, get_or-set_other}
use Rattle.sets.specs.Sets.{set_from}
use Rattle.cell.specs.Limits.{section_room}
use Rattle.laws.proofs.Compared.{Compared, below, equal, above, compare}
use Rattle.model.specs.State.{Switch, is_crossed}
use Rattle.model.specs.Phase.{Waiting}
use Rattle.layout.specs.Entry.{count_in}
use Rattle.layout.specs.Table.{state_of, IsTable}
use Rattle.layout.proofs.Table.{decode-sound, sound-length}
use Rattle.layout.specs.Code.{ports_in}
use Rattle.slot_view.specs.CodeView.{waiting_at, waiting_in, crosspoint_at, places_in, Agrees}
use Rattle.slot_view.specs.CodeViewed.{no_key, listed_set, head_set, crossed_set, buffered_set, SetsOf, NoSets}
use Rattle.slot_view.specs.CodeViewed.{Occupied, Blank}
use Rattle.slot_view.specs.CodeScan.{Readable}
use Rattle.slot_view.proofs.Own.{table-readable}
use Rattle.slot_view.proofs.Placed.{decode-ports, decode-count}
use Rattle.slot_view.proofs.Window.{in_table-e, in_table-input, waiting_at-input}
use Rattle.slot_loading.specs.Code.{Sorted, FilledBelow, SetsBelow, Crossed, LoadedBelow}
use Rattle.slot_loading.proofs.Crossing.{crossed-none}
use Rattle.slot_loading.proofs.Buffers.{best_none, best-all}

------------------------------------------------------------------------
-- no input

none_filled : (is : ℕ → ℕ) → FilledBelow is 0 (replicate 16 0)
none_filled is =
    record { size = refl; at = λ i h. absurd (omega arith); rest = λ i _ h. get_or-replicate 16 i 0 0 h }

pub sets-start : (table listed heads crossed buffered : List ℕ) → NoSets listed heads crossed buffered
    → SetsBelow table 0 listed heads crossed buffered
sets-start table listed heads crossed buffered b =
    rw (b.no-lists, b.no-heads, b.no-crossed, b.no-buffered)
    (record {
      lists = none_filled (listed_set table (places_in table));
      firsts = none_filled (head_set table (places_in table));
      crosses = none_filled (crossed_set table (places_in table));
      buffers = none_filled (buffered_set table (places_in table));
    })

pub loaded-start : (table : List ℕ) (cross keys : List (List ℕ)) (best : List ℕ) → Blank cross keys best
    → LoadedBelow table 0 cross keys best (replicate 16 no_key)
loaded-start table cross keys best b =
    rw (b.no-crosspoints, b.no_keys, b.no-buffers)
    (record { crossed = crossed-none table (places_in table); bests = best_none table (places_in table) })

------------------------------------------------------------------------
-- one input more

-- a number written for it
filled_more : {is : ℕ → ℕ} {input : ℕ} {l : List ℕ} (n : ℕ) → input < 16 → n ≡ is input → FilledBelow is input l
    → FilledBelow is (input + 1) (set l input n)
filled_more {is} {input} {l} n port own w =
    record {
      size = length-set l input n ∙ w.size;
      at = λ i h. at i h (compare i input);
      rest = λ i low h. get_or-set_other l input i n 0 (omega arith) ∙ w.rest i (omega arith) h;
    }
  where
    at : (i : ℕ) → i < input + 1 → Compared i input → get_or (set l input n) i 0 ≡ is i
    at i h (below d) = get_or-set_other l input i n 0 (omega arith) ∙ w.at i d
    at i h (equal d) =
        ap (λ i. get_or (set l input n) i 0) d ∙ get_or-set_same l input n 0 (omega (arith, w.size)) ∙ own ∙ ap is (sym d)
    at i h (above d) = absurd (omega arith)

pub sets-put : (table : List ℕ) (input : ℕ) (listed heads crossed buffered : List ℕ) (l h c b : ℕ) → input < 16
    → Sorted table (places_in table) input l c b → h ≡ head_set table (places_in table) input
    → SetsBelow table input listed heads crossed buffered
    → SetsBelow table (input + 1) (set listed input l) (set heads input h) (set crossed input c) (set buffered input b)
sets-put table input listed heads crossed buffered l h c b port own own-h w =
    record {
      lists = filled_more l port own.listed-is w.lists;
      firsts = filled_more h port own-h w.firsts;
      crosses = filled_more c port own.crossed-is w.crosses;
      buffers = filled_more b port own.buffered-is w.buffers;
    }

------------------------------------------------------------------------
-- all inputs

module _ (table : List ℕ) (good : IsTable table) where
  abbrev s : Switch
  s = state_of table

  readable : Readable table
  readable = table-readable table good

  -- an input that the switch does not have has no entries
  no-entries : (input : ℕ) → ports_in table ≤ input → input < 16 → count_in table input ≡ 0
  no-entries input l h =
      let past : length s.sections ≤ input =
      omega (arith, sound-length s (decode-sound table s good), decode-ports table s good) in
      decode-count table s good input h ∙ ap length (get_or-eq_default s.sections [] past)

  no-set : (p : ℕ → Bool) (input : ℕ) → ports_in table ≤ input → input < 16
      → set_from p (section_room * input) (count_in table input) ≡ 0
  unfolding set_from
  no-set p input l h = ap (set_from p (section_room * input)) (no-entries input l h)

  -- an array of sets
  all-filled : (p : ℕ → Bool) {l : List ℕ}
      → FilledBelow (λ input. set_from p (section_room * input) (count_in table input)) (ports_in table) l
      → (input : ℕ) → input < 16 → get_or l input 0 ≡ set_from p (section_room * input) (count_in table input)
  all-filled p {l} w i h = go (compare i (ports_in table))
    where
      go : Compared i (ports_in table) → get_or l i 0 ≡ set_from p (section_room * i) (count_in table i)
      go (below d) = w.at i d
      go (equal d) = w.rest i (omega arith) h ∙ sym (no-set p i (omega arith) h)
      go (above d) = w.rest i (omega arith) h ∙ sym (no-set p i (omega arith) h)

  pub sets_end : (listed heads crossed buffered : List ℕ) → SetsBelow table (ports_in table) listed heads crossed buffered
      → SetsOf table (places_in table) listed heads crossed buffered
  unfolding listed_set head_set crossed_set buffered_set
  sets_end listed heads crossed buffered w =
      record {
        lists = record {
          listed-size = w.lists.size;
          heads-size = w.firsts.size;
          listed-at = all-filled _ w.lists;
          heads-at = all-filled _ w.firsts;
        };
        crossed-size = w.crosses.size;
        buffered-size = w.buffers.size;
        crossed-at = all-filled _ w.crosses;
        buffered-at = all-filled _ w.buffers;
      }

  module _ (cross keys : List (List ℕ)) (best rivals : List ℕ)
      (w : LoadedBelow table (ports_in table) cross keys best rivals) where
    agrees : Agrees table (places_in table) cross
    unfolding waiting_at
    agrees =
        record {
          filled = filled;
          real =
              λ i o li lo h.
              let x = w.crossed.real i o li lo h in
              (x.0.entry, x.0.place, waiting_at-input table (places_in table) (crosspoint_at cross i o) ∙ x.1, x.2);
        }
      where
        filled : (e : Waiting) → Memᴰ e (waiting_in table) → is_crossed e.place ≡ true
            → crosspoint_at cross e.cell.input e.cell.output ≡ e.at
        filled e m h =
            let x = in_table-e table (places_in table) readable m in
            let crossed : Crossed table (places_in table) e.at =
            record { entry = x.1; place = ap (λ v. is_crossed v.place) (sym x.0) ∙ h } in
            ap₂ (crosspoint_at cross) (in_table-input table (places_in table) readable m) (ap (λ v. v.cell.output) x.0)
            ∙ w.crossed.filled e.at (omega (arith, x.1.input)) crossed

    pub loaded-end : Occupied table cross keys best
    loaded-end =
        record {
          square = w.crossed.square;
          agrees = agrees;
          keyed = w.crossed.keyed;
          bests = best-all table best rivals w.bests;
        }
