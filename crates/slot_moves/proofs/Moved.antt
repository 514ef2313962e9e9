-- A phase's moves on the table and on its view are those of the definitions.
--     straight-    after rule 5's straight cells
--     send-        what the inputs send
--     take-        what the outputs take
--     moved-       where each cell is afterwards
use Prim.Native.Nat.{ℕ, zero, suc, ◌/◌, ◌<◌, ◌≤◌}
use native.Mathlib.Omega.{arith}
use mathlib.Core.Bool.{Bool, true, false, cond}
use mathlib.Core.Path.{◌≡◌, refl, sym, ◌∙◌, ap, ap₂, subst}
use mathlib.Core.Logic.{◌⊎◌, inl, inr, ◌≢◌}
use mathlib.Core.List.Memᴰ
use mathlib.Core.List.{List, ◌++◌, Memᴰ}
use borrow.Author.Tests.{eqb-true, ltb-true, ltb-false}
use lib.Dec.{eqb, ltb}
use lib.ListN.{length, get_or, replicate}
use Rattle.laws.proofs.Tests.{either, clash, by-fail}
use Rattle.laws.specs.Lists.{keep, none?, all?, least, first?}
use Rattle.laws.proofs.Lists.{none?-i, all?-i, keep-comm, keep_all, mem-keep-passes}
use Rattle.cell.specs.Limits.{section_room, port_limit}
use Rattle.model.specs.State.{crossed, buffered, is_listed, is_crossed, is_buffered}
use Rattle.model.specs.Phase.{Waiting, phase, beats, same_input, same_output, pulled, among, place_sent, place_after}
use Rattle.model.specs.Phase.{crosspoints, best_for}
use Rattle.model.specs.Crossbar.{occupancies}
use Rattle.model.specs.CodeSlackness.{Orderly, relocated}
use Rattle.model.proofs.WaitingOrder.{input-i, input-e, output-i, output-e, crosspoint-i, among-e}
use Rattle.model.proofs.PhaseFacts.{crosspoints-i, crosspoints-all, crosspoints-crossed, urgent-head, scheduled-head}
use Rattle.model.proofs.PhaseFacts.{scheduled-empty}
use Rattle.model.proofs.PhaseFacts.{sent-i, sent-scheduled, sent-free, pulled-free}
use Rattle.model.proofs.PhaseMatching.{straight-all, straight-urgent, sent-all, pulled-all}
use Rattle.model.proofs.PhasePlaces.{straight-listed, sent-listed, listed-not-crossed, listed-not-buffered, crossed-not-buffered}
use Rattle.layout.specs.Table.{place_of, encode, state_of, IsTable, entry_limit}
use Rattle.layout.specs.Code.{ports_in}
use Rattle.layout_table.specs.CodeEntries.{nowhere}
use Rattle.slot_view.specs.CodeView.{waiting_at, in_table, crosspoint_at, InTable, Agrees, Square, places_in}
use Rattle.slot_view.specs.CodeViewed.{ListsOf, Keyed, BestBuffered, Viewed}
use Rattle.slot_view.specs.CodeScan.{Readable, Holds, Bests}
use Rattle.slot_view.specs.CodeChoices.{number_of, to_output, best_of}
use Rattle.slot_view.proofs.Encoding.{state_placed}
use Rattle.slot_view.proofs.Own.{length-places_in, table-readable, waiting_in-orderly, waiting_in-state}
use Rattle.slot_view.proofs.Placed.{decode-ports}
use Rattle.slot_view.proofs.Placing.{Kept, kept_trans, kept-view}
use Rattle.slot_view.proofs.Together.{contiguous}
use Rattle.slot_view.proofs.Window.{in_table-i, in_table-below, waiting_at-at, waiting_at-cell, waiting_at-input, waiting_at-place}
use Rattle.slot_leaders.proofs.Best.{best_of_lem}
use Rattle.slot_moves.specs.CodeMoved.{after_phase, Settled, OccupanciesOf}
use Rattle.slot_moves.specs.CodeMoves.{written, sending, entering}
use Rattle.slot_steps.specs.CodeSteps.{straight_to, mark_of, send_of, take_of}
use Rattle.slot_moves.specs.CodeMoves.{sent_of, pulled_of, AllBound}
use Rattle.slot_moves.specs.CodeMoves.{Straightened, Sent, Pulled, Counted}
use Rattle.slot_moves.proofs.Agreeing.{output_at, crossed_at, agrees-filled, agrees-real, agrees-straight, Sendable, output-small}
use Rattle.slot_moves.proofs.Agreeing.{Stands, crossed-hit, crossed-miss, buffered-byte, crossed-byte, agrees-sending}
use Rattle.slot_moves.proofs.Buffering.{buffered_at, buffered-entering, buffered-same}
use Rattle.slot_moves.proofs.Counting.{counted-occupancies}
use Rattle.slot_moves.proofs.Encoded.{encode-start, encode-placing, encode-end, after_table}
use Rattle.slot_moves.proofs.Entering.{BestOfEach, best-start, best-entering}
use Rattle.slot_moves.proofs.Keying.{keyed-sending, keyed-pulling}
use Rattle.slot_moves.proofs.Known.{Known, known}
use Rattle.slot_moves.proofs.Leaving.{listed_at, HeadAt, Leavers, firsts-head, head-fewer, written-fewer, lists-leaving, lists-same}
use Rattle.slot_moves.proofs.Ports.{number_by, ByPort, has, lacks, by-is, by-none, by_cases, by_one}
use Rattle.slot_moves.proofs.Ports.{input_of, output_of, among-hit}
use Rattle.slot_moves.proofs.Ports.{straight-output, scheduled-input, sent-input, pulled-output}
use Rattle.slot_moves.proofs.Ports.{scheduled_of-by, straight_of-by, sent_of-by, pulled_of-by}
use Rattle.slot_moves.proofs.Pulling.{pullable, pulled-agrees}
use Rattle.slot_moves.proofs.Relocated.{in_table-relocated}
use Rattle.slot_moves.proofs.Rounds.{places_in-placing, bound-kept, kept-straightened, kept-sent, kept-pulled}
use Rattle.slot_moves.proofs.Rounds.{heads-kept, sending-kept, keying-kept, entering-kept}
use Rattle.slot_moves.proofs.Rounds.{square-sent, square-pulled}
use Rattle.slot_steps.proofs.Rules.{mark-some, mark-none, send-none, send-scheduled, take_none, take-best}
use Rattle.slot_moves.proofs.Written.{hit, Hit, hit-i, hit-e, hit-miss, written-hit, written-miss, written_is}

------------------------------------------------------------------------
-- marks

get_d_replicate : (n i : ℕ) → get_or (replicate n false) i false ≡ false
get_d_replicate zero i = refl
get_d_replicate (suc n) zero = refl
get_d_replicate (suc n) (suc i) = get_d_replicate n i

-- a mark stands where it was set
pub marked : (f : ℕ → ℕ) (n i : ℕ) → i < port_limit → get_or (written f true n (replicate port_limit false)) i false ≡ hit f n i
marked f n i l = go (either (hit f n i))
  where
    go : (hit f n i ≡ true) ⊎ (hit f n i ≡ false) → get_or (written f true n (replicate port_limit false)) i false ≡ hit f n i
    go (inl t) = written-hit f true n (replicate port_limit false) i false l t ∙ sym t
    go (inr t) = written-miss f true n (replicate port_limit false) i false t ∙ get_d_replicate port_limit i ∙ sym t

-- the place after the writes: a straight or pulled cell is in a buffer, any other that was sent at its crosspoint
places-after : (s p t : Bool) (b : ℕ) → (s ≡ true → t ≡ true → ⊥)
    → place_of (cond p 3 (cond t 2 (cond s 3 b))) ≡ cond p buffered (cond s buffered (cond t crossed (place_of b)))
unfolding place_of
places-after s true t b h = refl
places-after true false true b h = absurd (h refl refl)
places-after true false false b h = refl
places-after false false true b h = refl
places-after false false false b h = refl

-- a byte of a place that is not a list's
not_listed : is_listed (place_of 3) ≡ false
unfolding is_listed place_of
not_listed = refl

not-listed-crossed : is_listed (place_of 2) ≡ false
unfolding is_listed place_of
not-listed-crossed = refl

not-buffered : is_buffered (place_of 2) ≡ false
unfolding is_buffered place_of
not-buffered = refl

------------------------------------------------------------------------
-- rule 5

module _ {table : List ℕ} (good : IsTable table) {listed heads : List ℕ} {cross keys : List (List ℕ)} {best : List ℕ}
    (view : Viewed table listed heads cross keys best) {scheduled held : List ℕ} (se : Settled table scheduled held) where
  abbrev places : List ℕ
  places = places_in table

  abbrev all : List Waiting
  all = in_table table places

  abbrev F : ℕ → ℕ
  F = straight_to scheduled held

  abbrev r : Readable table
  r = table-readable table good

  o : Orderly (ports_in table) all
  o = waiting_in-orderly table good

  ports : ports_in table ≤ port_limit
  ports = r.ports

  size : length places ≡ entry_limit
  size = length-places_in table

  -- a straight cell of a port
  StraightBy : (Waiting → ℕ) → ℕ → Type 0
  StraightBy key x = (e : Waiting) × Memᴰ e (phase (ports_in table) all).straight × (key e ≡ x)

  straight-cell : (x : ℕ) → x < port_limit → F x < nowhere
      → (e : Waiting) × Memᴰ e (phase (ports_in table) all).straight × (output_of e ≡ x) × (F x ≡ e.at)
  straight-cell x l h = go (by_cases output_of (phase (ports_in table) all).straight x)
    where
      is : F x ≡ number_by output_of (phase (ports_in table) all).straight x
      is = se.straight-is x l ∙ straight_of-by (phase (ports_in table) all) x

      go : ByPort output_of (phase (ports_in table) all).straight x
          → (e : Waiting) × Memᴰ e (phase (ports_in table) all).straight × (output_of e ≡ x) × (F x ≡ e.at)
      go (has e m k n) = (e, m, k, is ∙ n)
      go (lacks u n) = absurd (omega (arith, is))

  straight-number : {e : Waiting} → Memᴰ e (phase (ports_in table) all).straight → F (output_of e) ≡ e.at
  straight-number {e} m =
      let k : Known r places e = known r places (straight-all (ports_in table) all m) in
      se.straight-is (output_of e) (omega (arith, k.to, ports))
      ∙ straight_of-by (phase (ports_in table) all) (output_of e)
      ∙ by_one output_of (phase (ports_in table) all).straight (straight-output all o) m

  straight-entry : (x : ℕ) → x < port_limit → F x < nowhere → InTable table (F x)
  straight-entry x l h =
      let w = straight-cell x l h in
      subst (InTable table) (sym w.3) (known r places (straight-all (ports_in table) all w.1)).entry

  -- it is a head of its input, and goes to this output
  straight-leaver : (x : ℕ) → x < port_limit → F x < nowhere → HeadAt table places (F x)
  straight-leaver x l h =
      let w = straight-cell x l h in
      subst (HeadAt table places) (sym w.3)
      (firsts-head r places (urgent-head (ports_in table) all (straight-urgent (ports_in table) all o w.1)))

  straight-goes : (x : ℕ) → x < port_limit → F x < nowhere → output_at table (F x) ≡ x
  straight-goes x l h =
      let w = straight-cell x l h in
      ap (output_at table) w.3 ∙ sym (known r places (straight-all (ports_in table) all w.1)).output ∙ w.2

  straight-other : (a b : ℕ) → a < b → b < port_limit → F b < nowhere → F a ≢ F b
  straight-other a b l m h e =
      omega (arith, straight-goes a (omega arith) (omega arith), straight-goes b m h, ap (output_at table) e)

  straight-leavers : Leavers table places F port_limit
  straight-leavers = record { entry = straight-entry; head = straight-leaver; other = straight-other }

  pub can-go : AllBound table F
  can-go x l h = output-small r (straight-entry x l h)

  module _ {table₁ listed₁ heads₁ best₁ : List ℕ} {inputs outputs : List Bool}
      (s : Straightened F port_limit table table₁ listed listed₁ heads heads₁ best best₁ inputs outputs) where
    abbrev places₁ : List ℕ
    places₁ = places_in table₁

    -- the column after the straight cells
    straight-places : places₁ ≡ written F 3 port_limit places
    straight-places = ap places_in s.to-buffers ∙ places_in-placing F 3 port_limit table r.size

    straight-length : length places₁ ≡ entry_limit
    straight-length = length-places_in table₁

    input-mark : (i : ℕ) → i < port_limit → get_or inputs i false ≡ hit (λ x. F x / section_room) port_limit i
    input-mark i l = ap (λ m. get_or m i false) s.from-inputs ∙ marked (λ x. F x / section_room) port_limit i l

    output-mark : (x : ℕ) → x < port_limit → get_or outputs x false ≡ hit (λ y. mark_of (F y) y) port_limit x
    output-mark x l = ap (λ m. get_or m x false) s.to-outputs ∙ marked (λ y. mark_of (F y) y) port_limit x l

    input-marked : (i : ℕ) → i < port_limit → get_or inputs i false ≡ true → StraightBy input_of i
    unfolding StraightBy
    input-marked i l h = go (hit-e (λ x. F x / section_room) port_limit i (sym (input-mark i l) ∙ h))
      where
        go : Hit (λ x. F x / section_room) port_limit i → StraightBy input_of i
        go (x, b, q) =
            let w = straight-cell x b (omega arith) in
            let k : Known r places w.0 = known r places (straight-all (ports_in table) all w.1) in
            (w.0, w.1, k.input ∙ ap (λ n. n / section_room) (sym w.3) ∙ q)

    input-unmarked : (i : ℕ) → i < port_limit → get_or inputs i false ≡ false → StraightBy input_of i → ⊥
    unfolding StraightBy
    input-unmarked i l h (e, m, k) =
        let n : Known r places e = known r places (straight-all (ports_in table) all m) in
        clash
        (hit-i (λ x. F x / section_room) port_limit (output_of e) (omega (arith, n.to, ports))
        (ap (λ x. x / section_room) (straight-number m) ∙ sym n.input ∙ k))
        (sym (input-mark i l) ∙ h)

    output-marked : (x : ℕ) → x < port_limit → get_or outputs x false ≡ true → StraightBy output_of x
    unfolding StraightBy
    output-marked x l h = go (hit-e (λ y. mark_of (F y) y) port_limit x (sym (output-mark x l) ∙ h))
      where
        go : Hit (λ y. mark_of (F y) y) port_limit x → StraightBy output_of x
        go (y, b, q) = case (either (ltb (F y) nowhere))
          where
            case : (ltb (F y) nowhere ≡ true) ⊎ (ltb (F y) nowhere ≡ false) → StraightBy output_of x
            case (inl t) =
                let w = straight-cell y b (ltb-true _ _ t) in
                (w.0, w.1, w.2 ∙ sym (mark-some (F y) y (ltb-true _ _ t)) ∙ q)
            case (inr t) = absurd (omega (arith, mark-none (F y) y (ltb-false _ _ t)))

    output-unmarked : (x : ℕ) → x < port_limit → get_or outputs x false ≡ false → StraightBy output_of x → ⊥
    unfolding StraightBy
    output-unmarked x l h (e, m, k) =
        let n : Known r places e = known r places (straight-all (ports_in table) all m) in
        let q : F x ≡ e.at = ap F (sym k) ∙ straight-number m in
        clash
        (hit-i (λ y. mark_of (F y) y) port_limit x l (mark-some (F x) x (omega (arith, n.small))))
        (sym (output-mark x l) ∙ h)

    abbrev G : ℕ → ℕ
    G = send_of inputs scheduled

    pub send-is : (i : ℕ) → i < port_limit → G i ≡ sent_of (phase (ports_in table) all) i
    unfolding StraightBy
    send-is i l = go (either (get_or inputs i false)) ∙ sym (sent_of-by (phase (ports_in table) all) i)
      where
        go : (get_or inputs i false ≡ true) ⊎ (get_or inputs i false ≡ false)
            → G i ≡ number_by input_of (phase (ports_in table) all).sent i
        go (inl t) =
            send-none inputs scheduled i t
            ∙ sym (by-none input_of (phase (ports_in table) all).sent i (λ f m h.
            let w : StraightBy input_of i = input-marked i l t in
            clash (input-i f w.0 (h ∙ sym w.2)) (sent-free (ports_in table) all m w.1)))
        go (inr t) =
            send-scheduled inputs scheduled i t ∙ se.scheduled-is i l ∙ scheduled_of-by (phase (ports_in table) all) i
            ∙ case (by_cases input_of (phase (ports_in table) all).scheduled i)
          where
            case : ByPort input_of (phase (ports_in table) all).scheduled i
                → number_by input_of (phase (ports_in table) all).scheduled i
                ≡ number_by input_of (phase (ports_in table) all).sent i
            case (has e m k n) =
                n ∙ sym (by-is input_of (phase (ports_in table) all).sent i
                (sent-i (ports_in table) all m (none?-i (same_input e) (phase (ports_in table) all).straight (λ u j.
                by-fail (same_input e u) (λ b. input-unmarked i l t (u, j, sym (input-e e u b) ∙ k)))))
                k (λ f j h. ap (λ x. x.at) (scheduled-input all o f e (sent-scheduled (ports_in table) all j) m (h ∙ sym k))))
            case (lacks u n) =
                n ∙ sym
                (by-none input_of (phase (ports_in table) all).sent i (λ f j h. u f (sent-scheduled (ports_in table) all j) h))

    straight-out : {e : Waiting} → Memᴰ e all → is_listed e.place ≡ true → crossed_at places e.at ≡ false
    straight-out {e} m h = sym (known r places m).crossed ∙ listed-not-crossed e.place h

    straight-agrees : Agrees table places₁ cross
    straight-agrees =
        rw straight-places
        (agrees-straight r F port_limit places cross size view.agrees (λ x l h.
        let w = straight-cell x l h in
        rw w.3
        (straight-out (straight-all (ports_in table) all w.1) (straight-listed (ports_in table) all w.1))))

    -- a cell in a list is at no crosspoint then
    straight-still : (k : ℕ) → k < nowhere → crossed_at places k ≡ false → crossed_at places₁ k ≡ false
    straight-still k l h = ap (λ q. crossed_at q k) straight-places ∙ go (either (hit F port_limit k))
      where
        go : (hit F port_limit k ≡ true) ⊎ (hit F port_limit k ≡ false) → crossed_at (written F 3 port_limit places) k ≡ false
        go (inl t) = crossed-hit F 3 port_limit places k (omega (arith, size)) t ∙ buffered-byte
        go (inr t) = crossed-miss F 3 port_limit places k t ∙ h

    -- and a cell at a crosspoint stays there
    straight-kept : (k : ℕ) → k < nowhere → crossed_at places k ≡ true → crossed_at places₁ k ≡ true
    straight-kept k l h = ap (λ q. crossed_at q k) straight-places ∙ crossed-miss F 3 port_limit places k miss ∙ h
      where
        miss : hit F port_limit k ≡ false
        miss =
            hit-miss F port_limit k (λ x b q.
            let w = straight-cell x b (omega arith) in
            clash h
            (ap (crossed_at places) (sym q ∙ w.3) ∙ straight-out (straight-all (ports_in table) all w.1) (straight-listed (ports_in table) all w.1)))

    send_cell : (i : ℕ) → i < port_limit → G i < nowhere
        → (e : Waiting) × Memᴰ e (phase (ports_in table) all).sent × (input_of e ≡ i) × (G i ≡ e.at)
    send_cell i l h = go (by_cases input_of (phase (ports_in table) all).sent i)
      where
        is : G i ≡ number_by input_of (phase (ports_in table) all).sent i
        is = send-is i l ∙ sent_of-by (phase (ports_in table) all) i

        go : ByPort input_of (phase (ports_in table) all).sent i
            → (e : Waiting) × Memᴰ e (phase (ports_in table) all).sent × (input_of e ≡ i) × (G i ≡ e.at)
        go (has e m k n) = (e, m, k, is ∙ n)
        go (lacks u n) = absurd (omega (arith, is))

    send-number : {e : Waiting} → Memᴰ e (phase (ports_in table) all).sent → hit G port_limit e.at ≡ true
    send-number {e} m =
        let k : Known r places e = known r places (sent-all (ports_in table) all m) in
        let port : input_of e < port_limit = omega (arith, k.from, ports) in
        hit-i G port_limit (input_of e) port
        (send-is (input_of e) port ∙ sent_of-by (phase (ports_in table) all) (input_of e) ∙ by_one input_of (phase (ports_in table) all).sent (sent-input all o) m)

    sendable : Sendable r places₁ cross G port_limit
    sendable i l h = rw w.3 (k.entry, sym k.input ∙ w.2, straight-still e.at k.small out, empty)
      where
        w : (e : Waiting) × Memᴰ e (phase (ports_in table) all).sent × (input_of e ≡ i) × (G i ≡ e.at)
        w = send_cell i l h

        e : Waiting
        e = w.0

        k : Known r places e
        k = known r places (sent-all (ports_in table) all w.1)

        out : crossed_at places e.at ≡ false
        out = straight-out (sent-all (ports_in table) all w.1) (sent-listed (ports_in table) all w.1)

        empty : nowhere ≤ crosspoint_at cross i (output_at table e.at)
        empty = go (either (ltb (crosspoint_at cross i (output_at table e.at)) entry_limit))
          where
            go : (ltb (crosspoint_at cross i (output_at table e.at)) entry_limit ≡ true)
                ⊎ (ltb (crosspoint_at cross i (output_at table e.at)) entry_limit ≡ false)
                → nowhere ≤ crosspoint_at cross i (output_at table e.at)
            go (inl t) =
                absurd (clash (crosspoint-i e x row column)
                (scheduled-empty (ports_in table) all (sent-scheduled (ports_in table) all w.1) (crosspoints-i all (in_table-i table places r c v.0) there)))
              where
                c : ℕ
                c = crosspoint_at cross i (output_at table e.at)

                x : Waiting
                x = waiting_at table places c

                v : Stands table places i (output_at table e.at) c
                v =
                    agrees-real r places cross view.agrees i (output_at table e.at) l (omega (arith, k.to, k.output, ports))
                    (ltb-true _ _ t)

                row : e.cell.input ≡ x.cell.input
                row = w.2 ∙ sym (waiting_at-input table places c ∙ v.2)

                column : e.cell.output ≡ x.cell.output
                column = k.output ∙ sym (ap (λ d. d.output) (waiting_at-cell table places c) ∙ v.3)

                there : is_crossed x.place ≡ true
                there = ap is_crossed (waiting_at-place table places c) ∙ v.1
            go (inr t) = ltb-false _ _ t

    pub can-send : AllBound table₁ G
    can-send i l = bound-kept (kept-straightened s) (G i) (λ h. output-small r (sendable i l h).0)

    -- it is still a head when the straight cells have gone
    send-listed : (i : ℕ) → i < port_limit → G i < nowhere → listed_at places₁ (G i) ≡ true
    send-listed i l h =
        ap (λ q. listed_at q (G i)) straight-places
        ∙ ap (λ b. is_listed (place_of b)) (written-miss F 3 port_limit places (G i) 0 miss)
        ∙ send-leaver.in_list
      where
        w : (e : Waiting) × Memᴰ e (phase (ports_in table) all).sent × (input_of e ≡ i) × (G i ≡ e.at)
        w = send_cell i l h

        send-leaver : HeadAt table places (G i)
        send-leaver =
            subst (HeadAt table places) (sym w.3)
            (firsts-head r places (scheduled-head (ports_in table) all (sent-scheduled (ports_in table) all w.1)))

        miss : hit F port_limit (G i) ≡ false
        miss =
            hit-miss F port_limit (G i) (λ x b q.
            let v = straight-cell x b (omega arith) in
            let same : w.0.cell.input ≡ v.0.cell.input =
            (known r places (sent-all (ports_in table) all w.1)).input
            ∙ ap (λ n. n / section_room) (sym w.3 ∙ sym q ∙ v.3)
            ∙ sym (known r places (straight-all (ports_in table) all v.1)).input in
            clash (input-i w.0 v.0 same) (sent-free (ports_in table) all w.1 v.1))

    straight-fewer : (a : ℕ) → InTable table a → listed_at places₁ a ≡ true → listed_at places a ≡ true
    straight-fewer a t h =
        written-fewer r F 3 not_listed places size port_limit a t (ap (λ q. listed_at q a) (sym straight-places) ∙ h)

    send-leavers : Leavers table places₁ G port_limit
    send-leavers =
        record {
          entry = λ i l h. (sendable i l h).0;
          head = λ i l h.
              let w = send_cell i l h in
              head-fewer straight-fewer (send-listed i l h)
              (subst (HeadAt table places) (sym w.3) (firsts-head r places (scheduled-head (ports_in table) all (sent-scheduled (ports_in table) all w.1))));
          other = λ a b l m h e. omega (arith, (sendable a (omega arith) (omega arith)).1, (sendable b m h).1, ap (λ n. n / section_room) e);
        }

    straight-lists : ListsOf table places₁ listed₁ heads₁
    straight-lists =
        rw (straight-places, s.lists, s.list-heads)
        (lists-leaving r F 3 not_listed places size (contiguous table good) listed heads view.lists port_limit straight-leavers)

    straight-bests : BestBuffered table places₁ best₁
    straight-bests =
        rw (straight-places, s.bests)
        (buffered-entering r places o F places size best view.bests port_limit straight-entry
        (λ a l h. listed-not-buffered (place_of (get_or places (F a) 0)) (straight-leaver a l h).in_list) straight-other)

    ------------------------------------------------------------------------
    -- rule 6

    module _ {table₂ listed₂ heads₂ : List ℕ} {cross₂ keys₂ : List (List ℕ)} {held-best crossed₂ : List ℕ}
        (b : Bests table cross held-best)
        (t : Sent G port_limit table₁ table₂ listed₁ listed₂ heads₁ heads₂ cross cross₂ keys keys₂ held-best crossed₂) where
      abbrev places₂ : List ℕ
      places₂ = places_in table₂

      kept₁ : Kept table table₁
      kept₁ = kept-straightened s

      sent-places : places₂ ≡ written G 2 port_limit places₁
      sent-places = ap places_in t.to-crosspoints ∙ places_in-placing G 2 port_limit table₁ (kept₁.size ∙ r.size)

      sent-filled : cross₂ ≡ sending table G port_limit cross
      sent-filled = t.filled ∙ sending-kept kept₁ G port_limit cross

      sent-entered : crossed₂ ≡ entering table G port_limit held-best
      sent-entered = t.bests ∙ entering-kept kept₁ G port_limit held-best

      sent-length : length places₂ ≡ entry_limit
      sent-length = length-places_in table₂

      sent-square : Square cross₂
      sent-square = square-sent t view.square

      send-agrees : Agrees table places₂ cross₂
      send-agrees =
          rw (sent-places, sent-filled)
          (agrees-sending r G cross view.square places₁ straight-length straight-agrees port_limit (omega arith) sendable)

      sent-best : BestOfEach table cross₂ crossed₂
      sent-best =
          rw (sent-filled, sent-entered)
          (best-entering r G cross view.square places₁ straight-length straight-agrees held-best b.size
          (best-start r places cross held-best view.agrees b) port_limit (omega arith) sendable)

      -- the cells at the crosspoints, those just filled included
      cells : List Waiting
      cells = crosspoints all ++ (phase (ports_in table) all).sent

      cells-all : {e : Waiting} → Memᴰ e cells → Memᴰ e all
      unfolding cells
      cells-all {e} m = go (Memᴰ.append_cases (crosspoints all) m)
        where
          go : Memᴰ e (crosspoints all) ⊎ Memᴰ e (phase (ports_in table) all).sent → Memᴰ e all
          go (inl i) = crosspoints-all all i
          go (inr i) = sent-all (ports_in table) all i

      -- they are at the crosspoints by the column
      cells-crossed : {e : Waiting} → Memᴰ e cells → crossed_at places₂ e.at ≡ true
      unfolding cells
      cells-crossed {e} m = ap (λ q. crossed_at q e.at) sent-places ∙ go (either (hit G port_limit e.at))
        where
          k : Known r places e
          k = known r places (cells-all m)

          go : (hit G port_limit e.at ≡ true) ⊎ (hit G port_limit e.at ≡ false)
              → crossed_at (written G 2 port_limit places₁) e.at ≡ true
          go (inl h) = crossed-hit G 2 port_limit places₁ e.at (omega (arith, k.small, straight-length)) h ∙ crossed-byte
          go (inr h) =
              crossed-miss G 2 port_limit places₁ e.at h ∙ case (Memᴰ.append_cases (crosspoints all) m)
            where
              case : Memᴰ e (crosspoints all) ⊎ Memᴰ e (phase (ports_in table) all).sent
                  → crossed_at places₁ e.at ≡ true
              case (inl i) = straight-kept e.at k.small (sym k.crossed ∙ crosspoints-crossed all i)
              case (inr i) = absurd (clash (send-number i) h)

      -- and no others are
      crossed-cells : {k : ℕ} → InTable table k → crossed_at places₂ k ≡ true → Memᴰ (waiting_at table places k) cells
      unfolding cells
      crossed-cells {k} i c = go (either (hit G port_limit k)) (either (crossed_at places k))
        where
          now : crossed_at (written G 2 port_limit places₁) k ≡ true
          now = ap (λ q. crossed_at q k) (sym sent-places) ∙ c

          go : (hit G port_limit k ≡ true) ⊎ (hit G port_limit k ≡ false)
              → (crossed_at places k ≡ true) ⊎ (crossed_at places k ≡ false) → Memᴰ (waiting_at table places k) cells
          go (inl h) b = case (hit-e G port_limit k h)
            where
              case : Hit G port_limit k → Memᴰ (waiting_at table places k) cells
              case (j, l, q) =
                  let w = send_cell j l (omega (arith, in_table-below r i)) in
                  Memᴰ.append_right (crosspoints all)
                  (Memᴰ.cast
                  (ap (waiting_at table places) (sym q ∙ w.3) ∙ sym (known r places (sent-all (ports_in table) all w.1)).self)
                  w.1)
          go (inr h) (inl b) =
              Memᴰ.append_left (phase (ports_in table) all).sent
              (crosspoints-i all (in_table-i table places r k i) (ap is_crossed (waiting_at-place table places k) ∙ b))
          go (inr h) (inr b) =
              absurd (clash now (crossed-miss G 2 port_limit places₁ k h ∙ straight-still k (in_table-below r i) b))

      -- so the crosspoints hold them
      cells-held : Holds table cross₂ cells
      cells-held =
          record {
            cell = λ e m.
                let k : Known r places e = known r places (cells-all m) in
                ap (λ x. x.cell) k.self ∙ waiting_at-cell table places e.at;
            inside = λ e m. (known r places (cells-all m)).entry;
            filled = λ e m.
                let k : Known r places e = known r places (cells-all m) in
                ap₂ (crosspoint_at cross₂) k.input k.output
                ∙ agrees-filled r places₂ cross₂ send-agrees e.at k.entry (cells-crossed m);
            real = λ i x p q h.
                let c : ℕ = crosspoint_at cross₂ i x in
                let w : Stands table places₂ i x c = agrees-real r places₂ cross₂ send-agrees i x p q h in (
                  waiting_at table places c,
                  crossed-cells w.0 w.1,
                  waiting_at-at table places c,
                  waiting_at-input table places c ∙ w.2,
                  ap (λ d. d.output) (waiting_at-cell table places c) ∙ w.3,
                );
          }

      -- and when the outputs choose, so many of each output's crosspoints hold one
      pub told-occupancies : {told : List ℕ} → Counted cross₂ port_limit told → OccupanciesOf (state_of table) told
      unfolding cells phase
      told-occupancies {told} c x l =
          counted-occupancies r cells-held (phase (ports_in table) all) told refl c x l
          ∙ ap₂ (λ n a. get_or (occupancies n (phase n a)) x 0) (decode-ports table (state_of table) good)
          (waiting_in-state table good)

      abbrev H : ℕ → ℕ
      H = take_of outputs crossed₂

      -- the cells that an output without a straight cell takes from
      pulled-best : (x : ℕ) → (StraightBy output_of x → ⊥)
          → pulled_of (phase (ports_in table) all) x ≡ best_of (ports_in table) cells x
      unfolding pulled_of best_of best_for to_output phase pulled cells StraightBy
      pulled-best x none = ap (λ l. number_of (first? l)) (keep-comm free to L ∙ keep_all free (keep to L) pass)
        where
          L : List Waiting
          L = least (beats (ports_in table)) cells

          free : Waiting → Bool
          free e = none? (same_output e) (phase (ports_in table) all).straight

          to : Waiting → Bool
          to e = eqb e.cell.output x

          pass : all? free (keep to L) ≡ true
          pass =
              all?-i free (keep to L) (λ e m.
              none?-i (same_output e) (phase (ports_in table) all).straight (λ u j.
              by-fail (same_output e u) (λ b.
              none (u, j, sym (output-e e u b) ∙ eqb-true _ _ (mem-keep-passes to L m)))))

      take-is : (x : ℕ) → x < port_limit → H x ≡ pulled_of (phase (ports_in table) all) x
      unfolding StraightBy
      take-is x l = go (either (get_or outputs x false))
        where
          go : (get_or outputs x false ≡ true) ⊎ (get_or outputs x false ≡ false)
              → H x ≡ pulled_of (phase (ports_in table) all) x
          go (inl h) =
              take_none outputs crossed₂ x h
              ∙ sym
              (pulled_of-by (phase (ports_in table) all) x ∙ by-none output_of (phase (ports_in table) all).pulled x (λ f m q.
              let w : StraightBy output_of x = output-marked x l h in
              clash (output-i f w.0 (q ∙ sym w.2)) (pulled-free (ports_in table) all m w.1)))
          go (inr h) =
              take-best outputs crossed₂ x h
              ∙ best_of_lem table cross₂ x cells-held l (get_or crossed₂ x 0) ports (sent-best x l)
              ∙ sym (pulled-best x (output-unmarked x l h))

      -- what an output takes stands at one of its crosspoints
      taking : (x : ℕ) → x < port_limit → H x < nowhere
          → InTable table (H x) × (crossed_at places₂ (H x) ≡ true) × (output_at table (H x) ≡ x)
      taking = pullable r outputs places₂ cross₂ sent-length sent-square send-agrees crossed₂ sent-best port_limit (omega arith)

      pub can-take : AllBound table₂ H
      can-take x l =
          bound-kept (kept_trans kept₁ (kept-sent t)) (H x) (λ h. output-small r (taking x l h).0)

      sent-lists : ListsOf table places₂ listed₂ heads₂
      sent-lists =
          rw (sent-places, t.lists, t.list-heads ∙ heads-kept kept₁ G port_limit listed₁ heads₁)
          (lists-leaving r G 2 not-listed-crossed places₁ straight-length
          (λ a c d ta tc td e l m p q u. contiguous table good a c d ta tc td e l m (straight-fewer a ta p) (straight-fewer c tc q) (straight-fewer d td u))
          listed₁ heads₁ straight-lists port_limit send-leavers)

      sent-keyed : Keyed table cross₂ keys₂
      sent-keyed =
          rw (sent-filled, t.keyed ∙ keying-kept kept₁ G port_limit keys)
          (keyed-sending table G cross keys view.square view.keyed port_limit
          (λ a l h. output-small r (sendable a l h).0))

      sent-bests : BestBuffered table places₂ best₁
      sent-bests = buffered-same r places o places₁ places₂ stay best₁ straight-bests
        where
          stay : (a : ℕ) → InTable table a → buffered_at places₂ a ≡ buffered_at places₁ a
          stay a i = ap (λ q. buffered_at q a) sent-places ∙ go (either (hit G port_limit a))
            where
              go : (hit G port_limit a ≡ true) ⊎ (hit G port_limit a ≡ false)
                  → buffered_at (written G 2 port_limit places₁) a ≡ buffered_at places₁ a
              go (inl h) =
                  ap (λ x. is_buffered (place_of x))
                  (written-hit G 2 port_limit places₁ a 0 (omega (arith, in_table-below r i, straight-length)) h)
                  ∙ not-buffered
                  ∙ sym (case (hit-e G port_limit a h))
                where
                  case : Hit G port_limit a → buffered_at places₁ a ≡ false
                  case (j, l, q) =
                      subst (λ k. buffered_at places₁ k ≡ false) q
                      (listed-not-buffered (place_of (get_or places₁ (G j) 0))
                      (send-listed j l (omega (arith, in_table-below r i))))
              go (inr h) = ap (λ x. is_buffered (place_of x)) (written-miss G 2 port_limit places₁ a 0 h)

      ------------------------------------------------------------------------
      -- where each cell is afterwards

      module _ {table₃ : List ℕ} {cross₃ keys₃ : List (List ℕ)} {best₃ : List ℕ}
          (u : Pulled H port_limit table₂ table₃ cross₂ cross₃ keys₂ keys₃ best₁ best₃) where
        abbrev places₃ : List ℕ
        places₃ = places_in table₃

        kept₂ : Kept table table₂
        kept₂ = kept_trans kept₁ (kept-sent t)

        moved-places : places₃ ≡ written H 3 port_limit places₂
        moved-places = ap places_in u.to-buffers ∙ places_in-placing H 3 port_limit table₂ (kept₂.size ∙ r.size)

        moved-agrees : Agrees table places₃ cross₃
        moved-agrees =
            rw (moved-places, u.emptied)
            (pulled-agrees r outputs places₂ cross₂ sent-length sent-square send-agrees crossed₂ sent-best port_limit (omega arith))

        module _ {e : Waiting} (m : Memᴰ e all) where
          k : Known r places e
          k = known r places m

          among-straight : among (phase (ports_in table) all).straight e ≡ hit F port_limit e.at
          among-straight =
              among-hit o output_of (phase (ports_in table) all).straight (λ x i. straight-all (ports_in table) all i)
              (straight-output all o) F port_limit
              (λ x l. se.straight-is x l ∙ straight_of-by (phase (ports_in table) all) x)
              (λ x i. omega (arith, (known r places (straight-all (ports_in table) all i)).to, ports)) m k.small

          among-sent : among (phase (ports_in table) all).sent e ≡ hit G port_limit e.at
          among-sent =
              among-hit o input_of (phase (ports_in table) all).sent (λ x i. sent-all (ports_in table) all i)
              (sent-input all o) G port_limit
              (λ x l. send-is x l ∙ sent_of-by (phase (ports_in table) all) x)
              (λ x i. omega (arith, (known r places (sent-all (ports_in table) all i)).from, ports)) m k.small

          among-pulled : among (phase (ports_in table) all).pulled e ≡ hit H port_limit e.at
          among-pulled =
              among-hit o output_of (phase (ports_in table) all).pulled (λ x i. pulled-all (ports_in table) all i)
              (pulled-output all o) H port_limit
              (λ x l. take-is x l ∙ pulled_of-by (phase (ports_in table) all) x)
              (λ x i. omega (arith, (known r places (pulled-all (ports_in table) all i)).to, ports)) m k.small

          -- the byte of a cell's place
          moved-byte : get_or places₃ e.at 0
              ≡ cond (among (phase (ports_in table) all).pulled e) 3
              (cond (among (phase (ports_in table) all).sent e) 2 (cond (among (phase (ports_in table) all).straight e) 3 (get_or places e.at 0)))
          moved-byte =
              rw (among-pulled, among-sent, among-straight)
              (ap (λ q. get_or q e.at 0) moved-places
              ∙ written_is H 3 port_limit places₂ e.at 0 (omega (arith, k.small, sent-length))
              ∙ ap (cond (hit H port_limit e.at) 3)
              (ap (λ q. get_or q e.at 0) sent-places
              ∙ written_is G 2 port_limit places₁ e.at 0 (omega (arith, k.small, straight-length))
              ∙ ap (cond (hit G port_limit e.at) 2)
              (ap (λ q. get_or q e.at 0) straight-places
              ∙ written_is F 3 port_limit places e.at 0 (omega (arith, k.small, size)))))

          -- no straight cell is sent
          apart : among (phase (ports_in table) all).straight e ≡ true
              → among (phase (ports_in table) all).sent e ≡ true → ⊥
          apart p q =
              let i = among-e o (phase (ports_in table) all).straight (λ x j. straight-all (ports_in table) all j) m p in
              let j = among-e o (phase (ports_in table) all).sent (λ x j. sent-all (ports_in table) all j) m q in
              clash (input-i e e refl) (sent-free (ports_in table) all j i)

          moved-place : place_of (get_or places₃ e.at 0) ≡ place_after (phase (ports_in table) all) e
          unfolding place_after place_sent
          moved-place =
              ap place_of moved-byte
              ∙ places-after (among (phase (ports_in table) all).straight e)
              (among (phase (ports_in table) all).pulled e) (among (phase (ports_in table) all).sent e)
              (get_or places e.at 0) apart
              ∙ ap (λ q. cond (among (phase (ports_in table) all).pulled e) buffered
              (cond (among (phase (ports_in table) all).straight e) buffered (cond (among (phase (ports_in table) all).sent e) crossed q)))
              (sym (ap (λ x. x.place) k.self ∙ waiting_at-place table places e.at))

        moved-cells : in_table table places₃ ≡ relocated (phase (ports_in table) all) all
        moved-cells =
            in_table-relocated r (phase (ports_in table) all) places places₃ (λ k i.
            ap (λ n. place_of (get_or places₃ n 0)) (sym (waiting_at-at table places k)) ∙ moved-place (in_table-i table places r k i))

        ------------------------------------------------------------------------
        -- the table and its view

        moved_lists : ListsOf table places₃ listed₂ heads₂
        moved_lists = lists-same r places₂ places₃ stay listed₂ heads₂ sent-lists
          where
            stay : (a : ℕ) → a < nowhere → listed_at places₃ a ≡ listed_at places₂ a
            stay a l = ap (λ q. listed_at q a) moved-places ∙ go (either (hit H port_limit a))
              where
                go : (hit H port_limit a ≡ true) ⊎ (hit H port_limit a ≡ false)
                    → listed_at (written H 3 port_limit places₂) a ≡ listed_at places₂ a
                go (inl h) =
                    ap (λ x. is_listed (place_of x)) (written-hit H 3 port_limit places₂ a 0 (omega (arith, sent-length)) h)
                    ∙ not_listed
                    ∙ sym (case (hit-e H port_limit a h))
                  where
                    case : Hit H port_limit a → listed_at places₂ a ≡ false
                    case (x, c, q) =
                        by-fail (listed_at places₂ a) (λ p.
                        clash
                        (subst (λ k. crossed_at places₂ k ≡ true) q (taking x c (omega arith)).1)
                        (listed-not-crossed (place_of (get_or places₂ a 0)) p))
                go (inr h) = ap (λ x. is_listed (place_of x)) (written-miss H 3 port_limit places₂ a 0 h)

        moved-bests : BestBuffered table places₃ best₃
        moved-bests =
            rw (moved-places, u.bests ∙ entering-kept kept₂ H port_limit best₁)
            (buffered-entering r places o H places₂ sent-length best₁ sent-bests port_limit (λ x l h. (taking x l h).0)
            (λ x l h. crossed-not-buffered (place_of (get_or places₂ (H x) 0)) (taking x l h).1)
            (λ a c l m h e.
            omega (arith, (taking a (omega arith) (omega arith)).2, (taking c m h).2, ap (output_at table) e)))

        moved-keyed : Keyed table cross₃ keys₃
        moved-keyed =
            rw (u.emptied, u.unkeyed) (keyed-pulling table H cross₂ keys₂ sent-square sent-keyed port_limit (omega arith))

        pub moved_view : Viewed table₃ listed₂ heads₂ cross₃ keys₃ best₃
        moved_view =
            kept-view (kept_trans kept₂ (kept-pulled u)) r
            (record {
              lists = moved_lists;
              square = square-pulled u sent-square;
              agrees = moved-agrees;
              keyed = moved-keyed;
              bests = moved-bests;
            })

        pub moved-table : table₃ ≡ encode (after_phase (state_of table))
        moved-table =
            u.to-buffers
            ∙ encode-placing table good H 3 (omega arith) (omega arith) places₂ sent-length table₂ (kept₂.size ∙ r.size) second
            port_limit (λ x l h. (taking x l h).0)
            ∙ ap (λ l. encode (state_placed table l)) (sym moved-places)
            ∙ encode-end table good places₃ moved-cells
          where
            first : table₁ ≡ encode (state_placed table places₁)
            first =
                s.to-buffers
                ∙ encode-placing table good F 3 (omega arith) (omega arith) places size table r.size (encode-start table good)
                port_limit straight-entry
                ∙ ap (λ l. encode (state_placed table l)) (sym straight-places)

            second : table₂ ≡ encode (state_placed table places₂)
            second =
                t.to-crosspoints
                ∙ encode-placing table good G 2 (omega arith) (omega arith) places₁ straight-length table₁ (kept₁.size ∙ r.size)
                first port_limit (λ i l h. (sendable i l h).0)
                ∙ ap (λ l. encode (state_placed table l)) (sym sent-places)

        pub moved-good : IsTable table₃
        moved-good = subst IsTable (sym moved-table) (after_table table good)
