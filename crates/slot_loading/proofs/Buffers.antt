-- The best buffered cell of each output, cell by cell.
--     key-held                           a number with the key of a cell is that of a cell
--     better-order, better-key           which of two is the better, by their order or by their keys
--     best_none, best-wider, best-all    the choices of all outputs: of no cells, up to a later end, of all cells
--     best-choose, picked-came           with one cell more, chosen by a test
--     Choosing                           with those of an input, by a loop over their set
use Prim.Native.Nat.{ℕ, ◌+◌, ◌*◌, ◌^◌, ◌≤◌, ◌<◌}
use native.Mathlib.Omega.{arith}
use mathlib.Core.Bool.{Bool, true, false, cond}
use mathlib.Core.Path.{◌≡◌, refl, sym, ◌∙◌, ap, subst}
use mathlib.Core.Logic.{◌⊎◌, inl, inr, ◌≢◌}
use mathlib.Core.List.{List, Memᴰ}
use borrow.Author.Tests.{lt-ltb}
use lib.Dec.{ltb}
use lib.ListN.{get_or, set, replicate, length-set, get_or-replicate}
use lib.Seq.{get_or-set_same, get_or-set_other}
use Rattle.sets.specs.Sets.{first_of}
use Rattle.cell.specs.Limits.{section_room}
use Rattle.cell.specs.Order.{over, key}
use Rattle.laws.proofs.Compared.{Compared, below, equal, above, compare}
use Rattle.sets.specs.Code.{rest_of}
use Rattle.model.specs.State.{is_buffered}
use Rattle.model.specs.Phase.{beats}
use Rattle.model.proofs.WaitingOrder.{beats-over, beats-total}
use Rattle.layout.specs.Entry.{entry_at}
use Rattle.layout.specs.Table.{place_of, state_of, IsTable}
use Rattle.layout.proofs.Table.{decode-bytes}
use Rattle.layout.specs.Code.{ports_in}
use Rattle.layout_table.specs.CodeEntries.{nowhere, better_of}
use Rattle.layout_table.proofs.Better.{better-first, better-over, better-under}
use Rattle.layout_table.proofs.Keys.{slot-below, over-keys}
use Rattle.slot_view.specs.CodeChoices.{BestAmong, empty}
use Rattle.slot_view.specs.CodeView.{waiting_at, waiting_in, places_in, InTable}
use Rattle.slot_view.specs.CodeViewed.{no_key, key_at, Buffered, BestBuffered, buffered_set}
use Rattle.slot_view.proofs.Choices.{Ordered, best-same, best-more}
use Rattle.slot_view.proofs.Own.{table-readable, waiting_in-orderly}
use Rattle.slot_view.proofs.Window.{in_table-i, in_table-below}
use Rattle.slot_loading.specs.Code.{BufferedBelow, BestBelow}
use Rattle.slot_loading.proofs.Walk.{Passing, passing-start, passing-end, passing-this, passing-below, passing-next}
use Rattle.slot_view.proofs.Keys.{key_at-cell, key_at-none, key_below}

------------------------------------------------------------------------
-- which of two is the better

module _ (table : List ℕ) (good : IsTable table) where
  slot-fits : (k : ℕ) → k < nowhere → (entry_at table k).cell.slot < 2 ^ 32
  slot-fits = slot-below table (table-readable table good).size (decode-bytes table (state_of table) good)

  -- the key of a cell is below that of none
  below_none : (k : ℕ) → InTable table k → key (entry_at table k).cell < no_key
  below_none = key_below table (table-readable table good) (decode-bytes table (state_of table) good)

  -- a key that is equal to a cell's is that of a cell
  pub key-held : (k held : ℕ) → InTable table k → key (entry_at table k).cell ≡ key_at table held → held < nowhere
  key-held k held t e = go (compare held nowhere)
    where
      none : nowhere ≤ held → ⊥
      none l = omega (arith, below_none k t, key_at-none table held l)

      go : Compared held nowhere → held < nowhere
      go (below l) = l
      go (equal l) = absurd (none (omega arith))
      go (above l) = absurd (none (omega arith))

  module _ (k held : ℕ) (t : InTable table k) where
    small : k < nowhere
    small = in_table-below (table-readable table good) t

    -- by the order of the cells
    pub better-order : held < nowhere → (r : Bool)
        → r ≡ over (ports_in table) (entry_at table k).cell (entry_at table held).cell
        → better_of table held k ≡ cond r k held
    better-order l true e = better-over table held k small l (sym e)
    better-order l false e = better-under table held k small l (sym e)

    -- where their keys differ, by these; the other may be none
    pub better-key : key (entry_at table k).cell ≢ key_at table held
        → better_of table held k ≡ cond (ltb (key (entry_at table k).cell) (key_at table held)) k held
    better-key d = go (compare held nowhere)
      where
        first : nowhere ≤ held → better_of table held k ≡ cond (ltb (key (entry_at table k).cell) (key_at table held)) k held
        first l =
            better-first table held k small l
            ∙ sym
            (ap (λ b. cond b k held)
            (lt-ltb (key (entry_at table k).cell) (key_at table held) (omega (arith, below_none k t, key_at-none table held l))))

        go : Compared held nowhere → better_of table held k ≡ cond (ltb (key (entry_at table k).cell) (key_at table held)) k held
        go (below l) =
            let rival = key_at-cell table held l in
            better-order l (ltb (key (entry_at table k).cell) (key_at table held))
            (ap (ltb (key (entry_at table k).cell)) rival
            ∙ over-keys (ports_in table) (entry_at table k).cell (entry_at table held).cell (slot-fits k small)
            (slot-fits held l)
            (λ e. d (e ∙ sym rival)))
        go (equal l) = first (omega arith)
        go (above l) = first (omega arith)

------------------------------------------------------------------------
-- the choices of all outputs

pub best_none : (table places : List ℕ) → BestBelow table places 0 (replicate 16 nowhere) (replicate 16 no_key)
best_none table places =
    record {
      size = refl;
      keys-size = refl;
      each = λ o l. empty (get_or-replicate 16 o nowhere 0 l) (λ k b. omega (arith, b.early));
      keys =
          λ o l.
          get_or-replicate 16 o no_key 0 l
          ∙ sym (ap (key_at table) (get_or-replicate 16 o nowhere 0 l) ∙ key_at-none table nowhere (omega arith));
    }

-- up to a later end before which no cell of the output comes
among-wider : {table places : List ℕ} {output end later n : ℕ} → end ≤ later
    → ((k : ℕ) → end ≤ k → k < later → Buffered table places output k → ⊥)
    → BestAmong table (BufferedBelow table places output end) n
    → BestAmong table (BufferedBelow table places output later) n
among-wider {table} {places} {output} {end} {later} {n} l none =
    best-same table (λ k b. record { early = omega (arith, b.early); cell = b.cell }) n (λ k b. go k b (compare k end))
  where
    go : (k : ℕ) → BufferedBelow table places output later k → Compared k end → BufferedBelow table places output end k
    go k b (below c) = record { early = c; cell = b.cell }
    go k b (equal c) = absurd (none k (omega arith) b.early b.cell)
    go k b (above c) = absurd (none k (omega arith) b.early b.cell)

pub best-wider : {table places : List ℕ} {end later : ℕ} {numbers rivals : List ℕ} → end ≤ later
    → ((output k : ℕ) → end ≤ k → k < later → Buffered table places output k → ⊥)
    → BestBelow table places end numbers rivals → BestBelow table places later numbers rivals
best-wider l none c =
    record {
      size = c.size;
      keys-size = c.keys-size;
      each = λ o h. among-wider l (none o) (c.each o h);
      keys = c.keys;
    }

-- of all cells
pub best-all : (table best rivals : List ℕ) → BestBelow table (places_in table) (section_room * ports_in table) best rivals
    → BestBuffered table (places_in table) best
best-all table best rivals w =
    record {
      size = w.size;
      each =
          λ o h.
          best-same table (λ k b. b.cell) (get_or best o 0)
          (λ k b. record { early = omega (arith, b.entry.input); cell = b }) (w.each o h);
    }

module _ (table : List ℕ) (good : IsTable table) (k output : ℕ) (b : Buffered table (places_in table) output k)
    (numbers rivals : List ℕ) (c : BestBelow table (places_in table) k numbers rivals) where
  held : ℕ
  held = get_or numbers output 0

  pub buffered-port : output < 16
  buffered-port =
      let r = table-readable table good in
      omega (arith, b.goes, r.outputs k b.entry, r.ports)

  -- of two buffered cells of an output one is over the other
  ordered : (n : ℕ) → Buffered table (places_in table) output n → Ordered table k n
  unfolding waiting_at
  ordered n d = go (beats-total (waiting_in-orderly table good) (mem k b) (mem n d) (b.goes ∙ sym d.goes))
    where
      mem : (j : ℕ) → Buffered table (places_in table) output j
          → Memᴰ (waiting_at table (places_in table) j) (waiting_in table)
      mem j b = in_table-i table (places_in table) (table-readable table good) j b.entry

      go : (waiting_at table (places_in table) k ≡ waiting_at table (places_in table) n)
          ⊎ ((beats (ports_in table) (waiting_at table (places_in table) k) (waiting_at table (places_in table) n) ≡ true)
          ⊎ (beats (ports_in table) (waiting_at table (places_in table) n) (waiting_at table (places_in table) k) ≡ true))
          → Ordered table k n
      go (inl p) = inl (ap (λ w. w.at) p)
      go (inr (inl p)) = inr (inl (beats-over (ports_in table) _ _ p))
      go (inr (inr p)) = inr (inr (beats-over (ports_in table) _ _ p))

  -- its output's choice
  chosen : BestAmong table (BufferedBelow table (places_in table) output (k + 1)) (better_of table held k)
  unfolding held
  chosen =
      best-more table (λ j b. record { early = omega (arith, b.early); cell = b.cell }) held k
      (in_table-below (table-readable table good) b.entry) (record { early = omega arith; cell = b })
      (λ j d. go j d (compare j k)) (λ d. ordered held d.cell) (c.each output buffered-port)
    where
      go : (j : ℕ) → BufferedBelow table (places_in table) output (k + 1) j → Compared j k
          → BufferedBelow table (places_in table) output k j ⊎ (j ≡ k)
      go j d (below l) = inl (record { early = l; cell = d.cell })
      go j d (equal l) = inr l
      go j d (above l) = absurd (omega (arith, d.early))

  -- that of another
  other : (o : ℕ) → o ≢ output → o < 16 → BestAmong table (BufferedBelow table (places_in table) o (k + 1)) (get_or numbers o 0)
  other o d h = among-wider (omega arith) (λ j low high b'. none j low high b') (c.each o h)
    where
      none : (j : ℕ) → k ≤ j → j < k + 1 → Buffered table (places_in table) o j → ⊥
      none j low high b' =
          let same : j ≡ k = omega arith in
          d (sym b'.goes ∙ ap (λ n. (entry_at table n).cell.output) same ∙ b.goes)

  -- the better of the cell and the one so far, with its key
  pub best-choose : (first : Bool) (number own rival : ℕ) → better_of table (get_or numbers output 0) k ≡ cond first k (get_or numbers output 0)
      → number ≡ cond first k (get_or numbers output 0) → own ≡ key (entry_at table k).cell
      → rival ≡ cond first own (get_or rivals output 0)
      → BestBelow table (places_in table) (k + 1) (set numbers output number) (set rivals output rival)
  unfolding held
  best-choose first number own rival better picked named keyed =
      record {
        size = length-set numbers output number ∙ c.size;
        keys-size = length-set rivals output rival ∙ c.keys-size;
        each = λ o h. each o h (compare o output);
        keys = λ o h. keys o h (compare o output);
      }
    where
      here : get_or (set numbers output number) output 0 ≡ number
      here = get_or-set_same numbers output number 0 (omega (arith, c.size, buffered-port))

      of : (b : Bool) → cond b own (get_or rivals output 0) ≡ key_at table (cond b k (get_or numbers output 0))
      of true = named ∙ sym (key_at-cell table k (in_table-below (table-readable table good) b.entry))
      of false = c.keys output buffered-port

      kept : (o : ℕ) → o ≢ output → get_or (set numbers output number) o 0 ≡ get_or numbers o 0
      kept o d = get_or-set_other numbers output o number 0 d

      old : (o : ℕ) → o < 16 → o ≢ output
          → BestAmong table (BufferedBelow table (places_in table) o (k + 1)) (get_or (set numbers output number) o 0)
      old o h d = subst (BestAmong table (BufferedBelow table (places_in table) o (k + 1))) (sym (kept o d)) (other o d h)

      each : (o : ℕ) → o < 16 → Compared o output
          → BestAmong table (BufferedBelow table (places_in table) o (k + 1)) (get_or (set numbers output number) o 0)
      each o h (below d) = old o h (omega arith)
      each o h (equal d) =
          subst (λ o. BestAmong table (BufferedBelow table (places_in table) o (k + 1)) (get_or (set numbers output number) o 0))
          (sym d)
          (subst (BestAmong table (BufferedBelow table (places_in table) output (k + 1))) (better ∙ sym picked ∙ sym here) chosen)
      each o h (above d) = old o h (omega arith)

      old-key : (o : ℕ) → o < 16 → o ≢ output
          → get_or (set rivals output rival) o 0 ≡ key_at table (get_or (set numbers output number) o 0)
      old-key o h d = get_or-set_other rivals output o rival 0 d ∙ c.keys o h ∙ ap (key_at table) (sym (kept o d))

      keys : (o : ℕ) → o < 16 → Compared o output
          → get_or (set rivals output rival) o 0 ≡ key_at table (get_or (set numbers output number) o 0)
      keys o h (below d) = old-key o h (omega arith)
      keys o h (equal d) =
          subst (λ o. get_or (set rivals output rival) o 0 ≡ key_at table (get_or (set numbers output number) o 0)) (sym d)
          (get_or-set_same rivals output rival 0 (omega (arith, c.keys-size, buffered-port))
          ∙ keyed
          ∙ of first
          ∙ ap (key_at table) (sym (here ∙ picked)))
      keys o h (above d) = old-key o h (omega arith)

-- one of two numbers, by a test
pub picked-came : {A B : Type 0} {first : Bool} {n x y : ℕ} → (A → first ≡ true) → (B → first ≡ false)
    → (A × (n ≡ x)) ⊎ (B × (n ≡ y)) → n ≡ cond first x y
picked-came {A} {B} {first} {n} {x} {y} holds fails (inl (a, e)) = e ∙ sym (ap (λ b. cond b x y) (holds a))
picked-came {A} {B} {first} {n} {x} {y} holds fails (inr (a, e)) = e ∙ sym (ap (λ b. cond b x y) (fails a))

------------------------------------------------------------------------
-- the loop over the buffered cells of an input

-- those passed are looked at for their outputs
abbrev pub Choosing : List ℕ → ℕ → List ℕ → List ℕ → ℕ → Type 0
Choosing table input numbers rivals left =
    Passing (buffered_set table (places_in table) input) (section_room * input) left
    (λ end. BestBelow table (places_in table) end numbers rivals)

module _ (table : List ℕ) (good : IsTable table) (input : ℕ) (port : input < ports_in table) where
  is_at : ℕ → Bool
  is_at k = is_buffered (place_of (get_or (places_in table) k 0))

  wider : (numbers rivals : List ℕ) (end later : ℕ) → end ≤ later
      → ((k : ℕ) → end ≤ k → k < later → InTable table k → is_at k ≡ true → ⊥)
      → BestBelow table (places_in table) end numbers rivals → BestBelow table (places_in table) later numbers rivals
  unfolding is_at
  wider numbers rivals end later l none = best-wider l (λ o k low high b. none k low high b.entry b.place)

  pub choosing-start : (numbers rivals : List ℕ)
      → BestBelow table (places_in table) (section_room * input) numbers rivals
      → Choosing table input numbers rivals (buffered_set table (places_in table) input)
  unfolding buffered_set is_at
  choosing-start numbers rivals c = passing-start table good input port is_at c

  module _ (numbers rivals : List ℕ) (left : ℕ) (w : Choosing table input numbers rivals left) where
    pub choosing-end : left ≡ 0 → BestBelow table (places_in table) (section_room * (input + 1)) numbers rivals
    unfolding buffered_set is_at
    choosing-end done = passing-end table good input port is_at (wider numbers rivals) w done

    module _ (some : 0 < left) where
      pub choosing-this : Buffered table (places_in table) (entry_at table (section_room * input + first_of left)).cell.output
          (section_room * input + first_of left)
          × BestBelow table (places_in table) (section_room * input + first_of left) numbers rivals
      unfolding buffered_set is_at
      choosing-this =
          let this = passing-this table good input port is_at (wider numbers rivals) w some in (
            record { entry = this.0; place = this.1; goes = refl },
            passing-below table good input port is_at (wider numbers rivals) w some,
          )

      pub choosing-next : (numbers' rivals' : List ℕ)
          → BestBelow table (places_in table) (section_room * input + first_of left + 1) numbers' rivals'
          → Choosing table input numbers' rivals' (rest_of left)
      unfolding buffered_set is_at
      choosing-next numbers' rivals' c = passing-next table good input port is_at (wider numbers rivals) w some c
