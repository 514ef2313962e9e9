-- The rounds over the ports: how each begins, what one port more adds, and what it keeps.
--     placing-kept, places_in-placing   the table after a round, and its places
--     straightened-, sent-, pulled-    the three rounds
use Prim.Native.Nat.{ℕ, zero, suc, ◌+◌, ◌/◌}
use native.Mathlib.Numerals.{add-one}
use mathlib.Core.Bool.{Bool, true, false}
use mathlib.Core.Path.{◌≡◌, refl, sym, ◌∙◌, ap, ap₂, subst}
use mathlib.Core.List.{List}
use lib.ListN.{length, set, replicate, length-set}
use Rattle.cell.specs.Limits.{section_room, port_limit}
use Rattle.layout.specs.Entry.{entry_at}
use Rattle.layout.specs.Table.{table_size}
use Rattle.layout_table.specs.CodeEntries.{nowhere}
use Rattle.slot_view.specs.CodeView.{cross_with, Square, places_in}
use Rattle.slot_view.specs.CodeViewed.{no_key, key_at}
use Rattle.slot_view.proofs.Placing.{Kept, kept_same, kept_trans, placed-kept, places_in-placed, kept-key}
use Rattle.slot_moves.specs.CodeMoves.{written, placing, leaving, leaving_heads, sending}
use Rattle.slot_moves.specs.CodeMoves.{keying, pulling, unkeying, entering}
use Rattle.slot_steps.specs.CodeSteps.{place_at, left, left_heads, entered, mark_of, Bound, Straight, Crossed, Taken}
use Rattle.slot_moves.specs.CodeMoves.{Straightened, Sent, Pulled}
use Rattle.slot_moves.proofs.Written.{length-written}
use Rattle.slot_view.proofs.Squares.{square-with}
use Rattle.slot_moves.proofs.Agreeing.{square-sending, square-pulling}
use Rattle.slot_moves.proofs.Entering.{length-entering}
use Rattle.slot_steps.proofs.Steps.{entered-kept, left_heads-kept}

------------------------------------------------------------------------
-- the table

module _ (f : ℕ → ℕ) (v : ℕ) where
  pub placing-kept : (n : ℕ) (table : List ℕ) → Kept table (placing f v n table)
  unfolding written
  placing-kept zero table = kept_same table
  placing-kept (suc n) table = kept_trans (placing-kept n table) (placed-kept (placing f v n table) (f n) v)

  pub places_in-placing : (n : ℕ) (table : List ℕ) → length table ≡ table_size
      → places_in (placing f v n table) ≡ written f v n (places_in table)
  unfolding written
  places_in-placing zero table size = refl
  places_in-placing (suc n) table size =
      places_in-placed (placing f v n table) (f n) v ((placing-kept n table).size ∙ size)
      ∙ ap (λ l. set l (f n) v) (places_in-placing n table size)

-- a table that a round has left
kept_by : {table table' : List ℕ} (f : ℕ → ℕ) (v n : ℕ) → table' ≡ placing f v n table → Kept table table'
kept_by {table} {table'} f v n e = subst (Kept table) (sym e) (placing-kept f v n table)

pub bound-kept : {table table' : List ℕ} → Kept table table' → (k : ℕ) → Bound table k → Bound table' k
bound-kept kept k b h = rw (kept.cells k) (b h)

-- a write more
written-more : {A : Type 0} (f : ℕ → ℕ) (v : A) (n : ℕ) (l : List A) {l' l'' : List A} {i : ℕ} → l' ≡ written f v n l
    → i ≡ f n → l'' ≡ set l' i v → l'' ≡ written f v (n + 1) l
unfolding written
written-more f v n l e h p = rw (add-one n, ← e, ← h) p

------------------------------------------------------------------------
-- the lists and the best of each output

module _ (f : ℕ → ℕ) where
  length-leaving : (n : ℕ) (listed : List ℕ) → length (leaving f n listed) ≡ length listed
  unfolding leaving left
  length-leaving zero listed = refl
  length-leaving (suc n) listed = length-set (leaving f n listed) (f n / section_room) _ ∙ length-leaving n listed

  length-leaving_heads : (n : ℕ) (table listed heads : List ℕ)
      → length (leaving_heads table f n listed heads) ≡ length heads
  unfolding leaving_heads left_heads
  length-leaving_heads zero table listed heads = refl
  length-leaving_heads (suc n) table listed heads =
      length-set (leaving_heads table f n listed heads) (f n / section_room) _ ∙ length-leaving_heads n table listed heads

  leaving-more : (n : ℕ) (listed : List ℕ) {listed' listed'' : List ℕ} {k : ℕ} → listed' ≡ leaving f n listed → k ≡ f n
      → listed'' ≡ left listed' k → listed'' ≡ leaving f (n + 1) listed
  unfolding leaving
  leaving-more n listed s e q = rw (add-one n, ← s, ← e) q

  module _ (n : ℕ) {table table' : List ℕ} (kept : Kept table table') {k : ℕ} (e : k ≡ f n) where
    heads-more : (listed heads : List ℕ) {listed' heads' heads'' : List ℕ} → listed' ≡ leaving f n listed
        → heads' ≡ leaving_heads table f n listed heads → heads'' ≡ left_heads table' listed' heads' k
        → heads'' ≡ leaving_heads table f (n + 1) listed heads
    unfolding leaving_heads
    heads-more listed heads {listed'} {heads'} s t q =
        rw (add-one n, ← s, ← t, ← e) (q ∙ left_heads-kept kept listed' heads' k)

    entering-more : (best : List ℕ) {best' best'' : List ℕ} → best' ≡ entering table f n best
        → best'' ≡ entered table' best' k → best'' ≡ entering table f (n + 1) best
    unfolding entering
    entering-more best {best'} s q = rw (add-one n, ← s, ← e) (q ∙ entered-kept kept best' k)

------------------------------------------------------------------------
-- straight cells

pub straightened-none : (f : ℕ → ℕ) (table listed heads best : List ℕ)
    → Straightened f 0 table table listed listed heads heads best best (replicate port_limit false) (replicate port_limit false)
unfolding written leaving leaving_heads entering
straightened-none f table listed heads best =
    record {
      to-buffers = refl;
      lists = refl;
      list-heads = refl;
      bests = refl;
      from-inputs = refl;
      to-outputs = refl;
    }

module _ {f : ℕ → ℕ} {n : ℕ} {table table' listed listed' heads heads' best best' : List ℕ} {inputs outputs : List Bool}
    (s : Straightened f n table table' listed listed' heads heads' best best' inputs outputs) where
  pub kept-straightened : Kept table table'
  kept-straightened = kept_by f 3 n s.to-buffers

  pub straightened-more : {k : ℕ} {table'' listed'' heads'' best'' : List ℕ} {inputs'' outputs'' : List Bool} → k ≡ f n
      → Straight table' k n table'' listed' listed'' heads' heads'' best' best'' inputs inputs'' outputs outputs''
      → Straightened f (n + 1) table table'' listed listed'' heads heads'' best best'' inputs'' outputs''
  straightened-more e p =
      record {
        to-buffers = written-more (λ i. place_at (f i)) 3 n table s.to-buffers (ap place_at e) p.to-buffer;
        lists = leaving-more f n listed s.lists e p.left-list;
        list-heads = heads-more f n kept-straightened e listed heads s.lists s.list-heads p.left-heads;
        bests = entering-more f n kept-straightened e best s.bests p.best-in;
        from-inputs =
            written-more (λ o. f o / section_room) true n (replicate port_limit false) s.from-inputs
            (ap (λ x. x / section_room) e) p.from-input;
        to-outputs =
            written-more (λ o. mark_of (f o) o) true n (replicate port_limit false) s.to-outputs
            (ap (λ x. mark_of x n) e) p.to-output;
      }

  pub length-straight-lists : length listed' ≡ length listed
  length-straight-lists = ap length s.lists ∙ length-leaving f n listed

  pub length-straight-heads : length heads' ≡ length heads
  length-straight-heads = ap length s.list-heads ∙ length-leaving_heads f n table listed heads

  pub length-straight-best : length best' ≡ length best
  length-straight-best = ap length s.bests ∙ length-entering table f n best

  pub length-inputs : length inputs ≡ port_limit
  length-inputs = ap length s.from-inputs ∙ length-written (λ o. f o / section_room) true n (replicate port_limit false)

  pub length-outputs : length outputs ≡ port_limit
  length-outputs = ap length s.to-outputs ∙ length-written (λ o. mark_of (f o) o) true n (replicate port_limit false)

------------------------------------------------------------------------
-- sent cells

square-keying : (table : List ℕ) (f : ℕ → ℕ) (keys : List (List ℕ)) → Square keys → (n : ℕ)
    → Square (keying table f n keys)
unfolding keying
square-keying table f keys h zero = h
square-keying table f keys h (suc n) =
    square-with (keying table f n keys) (square-keying table f keys h n) (entry_at table (f n)).cell.output
    (f n / section_room) (key_at table (f n))

pub sent-none : (f : ℕ → ℕ) (table listed heads : List ℕ) (cross keys : List (List ℕ)) (best : List ℕ)
    → Sent f 0 table table listed listed heads heads cross cross keys keys best best
unfolding written leaving leaving_heads sending keying entering
sent-none f table listed heads cross keys best =
    record {
      to-crosspoints = refl;
      lists = refl;
      list-heads = refl;
      filled = refl;
      keyed = refl;
      bests = refl;
    }

module _ {f : ℕ → ℕ} {n : ℕ} {table table' listed listed' heads heads' : List ℕ} {cross cross' keys keys' : List (List ℕ)}
    {best best' : List ℕ} (s : Sent f n table table' listed listed' heads heads' cross cross' keys keys' best best') where
  pub kept-sent : Kept table table'
  kept-sent = kept_by f 2 n s.to-crosspoints

  sending-more : {k : ℕ} {cross'' : List (List ℕ)} → k ≡ f n
      → cross'' ≡ cross_with cross' (k / section_room) (entry_at table' k).cell.output k → cross'' ≡ sending table f (n + 1) cross
  unfolding sending
  sending-more {k} e q =
      rw (add-one n, ← s.filled, ← e)
      (q ∙ ap (λ c. cross_with cross' (k / section_room) c.output k) (kept-sent.cells k))

  keying-more : {k : ℕ} {keys'' : List (List ℕ)} → k ≡ f n
      → keys'' ≡ cross_with keys' (entry_at table' k).cell.output (k / section_room) (key_at table' k)
      → keys'' ≡ keying table f (n + 1) keys
  unfolding keying
  keying-more {k} e q =
      rw (add-one n, ← s.keyed, ← e)
      (q
      ∙ ap (λ c. cross_with keys' c.output (k / section_room) (key_at table' k)) (kept-sent.cells k)
      ∙ ap (cross_with keys' (entry_at table k).cell.output (k / section_room)) (kept-key kept-sent k))

  pub sent-more : {k : ℕ} {table'' listed'' heads'' : List ℕ} {cross'' keys'' : List (List ℕ)} {best'' : List ℕ} → k ≡ f n
      → Crossed table' k table'' listed' listed'' heads' heads'' cross' cross'' keys' keys'' best' best''
      → Sent f (n + 1) table table'' listed listed'' heads heads'' cross cross'' keys keys'' best best''
  sent-more e p =
      record {
        to-crosspoints = written-more (λ i. place_at (f i)) 2 n table s.to-crosspoints (ap place_at e) p.to-crosspoint;
        lists = leaving-more f n listed s.lists e p.left-list;
        list-heads = heads-more f n kept-sent e listed heads s.lists s.list-heads p.left-heads;
        filled = sending-more e p.filled;
        keyed = keying-more e p.keyed;
        bests = entering-more f n kept-sent e best s.bests p.best-in;
      }

  pub length-sent-lists : length listed' ≡ length listed
  length-sent-lists = ap length s.lists ∙ length-leaving f n listed

  pub length-sent-heads : length heads' ≡ length heads
  length-sent-heads = ap length s.list-heads ∙ length-leaving_heads f n table listed heads

  pub length-sent-best : length best' ≡ length best
  length-sent-best = ap length s.bests ∙ length-entering table f n best

  pub square-sent : Square cross → Square cross'
  square-sent h = rw s.filled (square-sending table f cross h n)

  pub square-sent-keys : Square keys → Square keys'
  square-sent-keys h = rw s.keyed (square-keying table f keys h n)

------------------------------------------------------------------------
-- pulled cells

square-unkeying : (f : ℕ → ℕ) (keys : List (List ℕ)) → Square keys → (n : ℕ) → Square (unkeying f n keys)
unfolding unkeying
square-unkeying f keys h zero = h
square-unkeying f keys h (suc n) =
    square-with (unkeying f n keys) (square-unkeying f keys h n) n (f n / section_room) no_key

pub pulled-none : (f : ℕ → ℕ) (table : List ℕ) (cross keys : List (List ℕ)) (best : List ℕ)
    → Pulled f 0 table table cross cross keys keys best best
unfolding written pulling unkeying entering
pulled-none f table cross keys best = record { to-buffers = refl; emptied = refl; unkeyed = refl; bests = refl }

module _ {f : ℕ → ℕ} {n : ℕ} {table table' : List ℕ} {cross cross' keys keys' : List (List ℕ)} {best best' : List ℕ}
    (s : Pulled f n table table' cross cross' keys keys' best best') where
  pub kept-pulled : Kept table table'
  kept-pulled = kept_by f 3 n s.to-buffers

  pulling-more : {k : ℕ} {cross'' : List (List ℕ)} → k ≡ f n → cross'' ≡ cross_with cross' (k / section_room) n nowhere
      → cross'' ≡ pulling f (n + 1) cross
  unfolding pulling
  pulling-more e q = rw (add-one n, ← s.emptied, ← e) q

  unkeying-more : {k : ℕ} {keys'' : List (List ℕ)} → k ≡ f n → keys'' ≡ cross_with keys' n (k / section_room) no_key
      → keys'' ≡ unkeying f (n + 1) keys
  unfolding unkeying
  unkeying-more e q = rw (add-one n, ← s.unkeyed, ← e) q

  pub pulled-more : {k : ℕ} {table'' : List ℕ} {cross'' keys'' : List (List ℕ)} {best'' : List ℕ} → k ≡ f n
      → Taken table' k n table'' cross' cross'' keys' keys'' best' best''
      → Pulled f (n + 1) table table'' cross cross'' keys keys'' best best''
  pulled-more e p =
      record {
        to-buffers = written-more (λ i. place_at (f i)) 3 n table s.to-buffers (ap place_at e) p.to-buffer;
        emptied = pulling-more e p.emptied;
        unkeyed = unkeying-more e p.unkeyed;
        bests = entering-more f n kept-pulled e best s.bests p.best-in;
      }

  pub length-pulled-best : length best' ≡ length best
  length-pulled-best = ap length s.bests ∙ length-entering table f n best

  pub square-pulled : Square cross → Square cross'
  square-pulled h = rw s.emptied (square-pulling f cross h n)

  pub square-pulled-keys : Square keys → Square keys'
  square-pulled-keys h = rw s.unkeyed (square-unkeying f keys h n)

------------------------------------------------------------------------
-- the rounds on a table that is kept

module _ {old new : List ℕ} (kept : Kept old new) (f : ℕ → ℕ) where
  pub heads-kept : (n : ℕ) (listed heads : List ℕ) → leaving_heads new f n listed heads ≡ leaving_heads old f n listed heads
  unfolding leaving_heads
  heads-kept zero listed heads = refl
  heads-kept (suc n) listed heads =
      left_heads-kept kept (leaving f n listed) (leaving_heads new f n listed heads) (f n)
      ∙ ap (λ h. left_heads old (leaving f n listed) h (f n)) (heads-kept n listed heads)

  pub sending-kept : (n : ℕ) (cross : List (List ℕ)) → sending new f n cross ≡ sending old f n cross
  unfolding sending
  sending-kept zero cross = refl
  sending-kept (suc n) cross =
      ap (λ c. cross_with (sending new f n cross) (f n / section_room) c.output (f n)) (kept.cells (f n))
      ∙ ap (λ x. cross_with x (f n / section_room) (entry_at old (f n)).cell.output (f n)) (sending-kept n cross)

  pub keying-kept : (n : ℕ) (keys : List (List ℕ)) → keying new f n keys ≡ keying old f n keys
  unfolding keying
  keying-kept zero keys = refl
  keying-kept (suc n) keys =
      ap (λ c. cross_with (keying new f n keys) c.output (f n / section_room) (key_at new (f n))) (kept.cells (f n))
      ∙ ap₂ (λ x y. cross_with x (entry_at old (f n)).cell.output (f n / section_room) y) (keying-kept n keys) (kept-key kept (f n))

  pub entering-kept : (n : ℕ) (best : List ℕ) → entering new f n best ≡ entering old f n best
  unfolding entering
  entering-kept zero best = refl
  entering-kept (suc n) best =
      entered-kept kept (entering new f n best) (f n) ∙ ap (λ b. entered old b (f n)) (entering-kept n best)
