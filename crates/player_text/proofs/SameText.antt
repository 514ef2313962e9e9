-- Players over two machines that answer alike print the same text: so those of the crossbar and of the output-queued
-- switch print what a player over the PIFO switch would. By induction over the blocks of a text, with what the switches
-- keep between slot calls; that the records fit 32 bits, as they must, is the grammar's.
--     header-first                   a header's first slot fits 32 bits
--     Simulation, simulated          two machines that answer alike; their players print the same text
--     seen, seen_alike               from what two switches answer
--     crossbar-pifo, oq-pifo         the crossbar and the output-queued switch answer as the PIFO switch does
--     same_text, same-text-oq        so for every text the players of all three print the same
--     oq-pieces, oq-end              and the output-queued player does so however the text arrives,
--     oq-same-end                    and ends as the crossbar's player does
-- Assumes nothing.
use Prim.Native.Nat.{ℕ, zero, suc, ◌+◌}
use mathlib.Core.Bool.{Bool, true, false}
use mathlib.Core.List.{List, [], ◌++◌, flatten}
use mathlib.Core.Option.{Option, some, none-ne-some, some-injective}
use mathlib.Core.Path.{◌≡◌, refl, sym, ap, ◌∙◌}
use lib.ListN.{length}
use Rattle.laws.specs.Lists.{all?}
use Rattle.cell.specs.declared.Arrival.{Arrival}
use Rattle.cell.specs.declared.Cell.{Cell}
use Rattle.cell.specs.declared.Refusal.{Refusal}
use Rattle.cell.specs.Cell.{arrival_fits}
use Rattle.cell.specs.Limits.{fits32, ports_in_range}
use Rattle.model.specs.Checks.{Outcome, done, refused, refusal}
use Rattle.model.specs.Crossbar.{answer_of, slot_answer, slot, switch_after}
use Rattle.model.specs.Emulation.{lent}
use Rattle.model.specs.Oq.{slot_oq, served_departures, oq_after}
use Rattle.model.specs.Pifo.{sent_departures, slot_pifo}
use Rattle.model.specs.CodeFair.{pifo_after}
use Rattle.model.proofs.Demand3.{Kept, step, kept_fresh}
use Rattle.model.proofs.OqAlike.{KeptOq, oq-step, kept-oq-fresh}
use Rattle.trace.specs.declared.Key.TheVariants.{Ports, First, Slot}
use Rattle.trace.specs.Line.{line}
use Rattle.trace.specs.Reader.{Cursor, Read, got, bad_at, number, Next, slot_ahead, finished, faulty, next}
use Rattle.trace.specs.Reader.{Header, opened, refused_at, header}
use Rattle.trace.proofs.Blocks.{at, number-exact, block_fits-e, Stands, next-exact}
use Rattle.trace.proofs.RoundTrip.{header-bad-ports, header-bad-size, header-bad-first, header-opened}
use Rattle.trace.proofs.RoundTrip.{Opens, header-exact}
use Rattle.trace.specs.Lines.{departures_text}
use Rattle.player_text.specs.Player.{Machine, play_from, play}
use Rattle.player_text.specs.Player.{crossbar, oq, pifo, play_crossbar, play_oq, play_pifo}
use Rattle.player_text.specs.Turn.{Standing, opening}
use Rattle.player_text.proofs.Pieces.{Plays, plays-over, EndsAs, ends-once, whatever-pieces, whatever-end}
use Rattle.player_text.proofs.Ticks.{crossbar-ticks, oq-ticks}
use Rattle.player_text.proofs.Written.{play-finished, play-faulty, play-refused, play-done, play-turned-back, play-opened}

pub header-first : (t : List ℕ) {n first : ℕ} {d : Cursor} → header t ≡ opened n first d → fits32 first ≡ true
header-first t {first} h = go (number Ports (at 1 t)) refl
  where
    in_range : (m : ℕ) (c : Cursor) → number Ports (at 1 t) ≡ got m c → (b : Bool) → ports_in_range m ≡ b
        → (r : Read ℕ) → number First c ≡ r → fits32 first ≡ true
    in_range m c p false b r q = cc (header-bad-size t p b)
    in_range m c p true b (bad_at l) q = cc (header-bad-first t p b q)
    in_range m c p true b (got f e) q =
        let x : f ≡ first = cc (header-opened t p b q) in
        rw (← x) (number-exact First c f e q).1

    go : (r : Read ℕ) → number Ports (at 1 t) ≡ r → fits32 first ≡ true
    go (bad_at l) p = cc (header-bad-ports t p)
    go (got m c) p = in_range m c p (ports_in_range m) refl (number First c) refl

------------------------------------------------------------------------
-- two machines

-- A slot answered alike: both refuse, with the same refusal and place; or both are done, with the same departures and
-- switches that stand in a relation.
pub data AnsweredAlike {S T : Type 0} (R : S → T → Type 0)
    : Outcome (List (Option Cell) × S) → Outcome (List (Option Cell) × T) → Type 0 where
  both-refused : {r : Refusal} {place : ℕ} → AnsweredAlike R (refused r place) (refused r place)
  both-done : {ds : List (Option Cell)} {s : S} {q : T} → R s q → AnsweredAlike R (done (ds, s)) (done (ds, q))

-- Machines whose switches stand in a relation from fresh ones on, and so answer alike every slot of records that fit.
pub record Simulation {S T : Type 0} (m : Machine S) (n : Machine T) : Type 1 where
  pub Related : S → T → Type 0
  pub fresh : (ports first : ℕ) → ports_in_range ports ≡ true → fits32 first ≡ true
      → Related (m.fresh ports first) (n.fresh ports first)
  pub slot : (s : S) (q : T) → Related s q → (records : List Arrival) → all? arrival_fits records ≡ true
      → AnsweredAlike Related (m.slot s records) (n.slot q records)

module _ {S T : Type 0} {m : Machine S} {n : Machine T} (same : Simulation m n) where
  -- from a cursor on

  abbrev Same : ℕ → ℕ → Type 0
  Same most clock =
      (s : S) (q : T) (c : Cursor) → same.Related s q → play_from m most clock s c ≡ play_from n most clock q c

  -- one slot, by the two answers, where what follows it comes out the same
  same-slot : (most clock : ℕ) (s : S) (q : T) (c : Cursor) {records : List Arrival} {d : Cursor}
      → next clock c ≡ slot_ahead records d → Same most (clock + 1)
      → (o : Outcome (List (Option Cell) × S)) (p : Outcome (List (Option Cell) × T)) → m.slot s records ≡ o
      → n.slot q records ≡ p → AnsweredAlike same.Related o p
      → play_from m (suc most) clock s c ≡ play_from n (suc most) clock q c
  same-slot most clock s q c ahead rest o p e f both-refused =
      play-refused m most clock s c ahead e ∙ sym (play-refused n most clock q c ahead f)
  same-slot most clock s q c {d = d} ahead rest o p e f (both-done {ds = ds} {s = s'} {q = q'} kept) =
      play-done m most clock s c ahead e
      ∙ ap (λ t. line Slot clock ++ (departures_text ds ++ t)) (rest s' q' d kept)
      ∙ sym (play-done n most clock q c ahead f)

  same_from : (most clock : ℕ) → Same most clock
  unfolding play_from
  same_from zero clock s q c kept = refl
  same_from (suc most) clock s q c kept = go (next clock c) refl (next-exact clock c) (same_from most (clock + 1))
    where
      go : (k : Next) → next clock c ≡ k → Stands clock c (next clock c) → Same most (clock + 1)
          → play_from m (suc most) clock s c ≡ play_from n (suc most) clock q c
      go finished k stands rest = play-finished m most clock s c k ∙ sym (play-finished n most clock q c k)
      go (faulty l) k stands rest = play-faulty m most clock s c k ∙ sym (play-faulty n most clock q c k)
      go (slot_ahead records d) k stands rest =
          let (i, j) = rw k at stands in
          same-slot most clock s q c k rest _ _ refl refl (same.slot s q kept records (block_fits-e records j).1)

  -- whole texts

  pub simulated : (t : List ℕ) → play m t ≡ play n t
  simulated t = go (header t) refl (header-exact t)
    where
      go : (k : Header) → header t ≡ k → Opens t (header t) → play m t ≡ play n t
      go (refused_at r l) k opens = play-turned-back m t k ∙ sym (play-turned-back n t k)
      go (opened ports first c) k opens =
          let (i, j) = rw k at opens in
          play-opened m t k
          ∙ ap (λ x. line Ports ports ++ (line First first ++ x))
          (same_from (length c.text) first _ _ c (same.fresh ports first i (header-first t k)))
          ∙ sym (play-opened n t k)

------------------------------------------------------------------------
-- what a player sees of a switch's answer

-- an outcome as a player sees it
abbrev pub seen : {A B : Type 0} → (A → B) → Outcome A → Outcome B
seen f o = elim o [ done x ↦ done (f x) | refused r place ↦ refused r place ]

module _ {A B S T : Type 0} (R : S → T → Type 0) (f : A → List (Option Cell) × S) (g : B → List (Option Cell) × T) where
  seen_alike : (o : Outcome A) (p : Outcome B) → refusal o ≡ refusal p
      → ((x : A) (y : B) → o ≡ done x → p ≡ done y → ((f x).0 ≡ (g y).0) × R (f x).1 (g y).1)
      → AnsweredAlike R (seen f o) (seen g p)
  unfolding refusal
  seen_alike (done x) (done y) same ran =
      let (e, kept) = ran x y refl refl in
      rw e (both-done kept)
  seen_alike (done x) (refused r place) same ran = absurd (none-ne-some (r, place) same)
  seen_alike (refused r place) (done y) same ran = absurd (none-ne-some (r, place) (sym same))
  seen_alike (refused r place) (refused r' place') same ran =
      let e = some-injective (r, place) (r', place') same in
      rw (ap (λ x. x.0) e, ap (λ x. x.1) e) both-refused

------------------------------------------------------------------------
-- the engines

pub crossbar-pifo : Simulation crossbar pifo
unfolding crossbar pifo lent switch_after pifo_after slot_answer answer_of sent_departures
crossbar-pifo =
    record {
      Related = Kept;
      fresh = kept_fresh;
      slot = λ s q kept records fits.
          let t = step s q kept (some records) fits in
          seen_alike Kept (λ c. (c.departures, c.switch)) (λ c. (c.departures, c.pifo)) (slot s (some records))
          (slot_pifo q (some records)) (t.answers 0).refusals
          (λ x y e f. (rw (e, f) at (t.answers 0).departures, rw (e, f) at t.kept));
    }

pub oq-pifo : Simulation oq pifo
unfolding oq pifo lent oq_after pifo_after served_departures sent_departures
oq-pifo =
    record {
      Related = KeptOq;
      fresh = kept-oq-fresh;
      slot = λ s q kept records fits.
          let t = oq-step s q kept (some records) fits in
          seen_alike KeptOq (λ d. (d.departures, d.switch)) (λ c. (c.departures, c.pifo)) (slot_oq s (some records))
          (slot_pifo q (some records)) (t.answers 0).0
          (λ x y e f. (rw (e, f) at (t.answers 0).1, rw (e, f) at t.kept));
    }

pub same_text : (t : List ℕ) → play_crossbar t ≡ play_pifo t
unfolding play_crossbar play_pifo
same_text t = simulated crossbar-pifo t

pub same-text-oq : (t : List ℕ) → play_oq t ≡ play_crossbar t
unfolding play_oq play_pifo
same-text-oq t = simulated oq-pifo t ∙ sym (same_text t)

-- Whatever the pieces and the run over them, the output-queued player writes the text of the crossbar's player, and by
-- the last lines of that text the trace was played to its end or turned back, as the run ended.
module _ (ps : List (List ℕ)) (w : List ℕ) (e : Standing) (r : Plays oq opening [] ps w e) where
  pub oq-pieces : w ≡ play_crossbar (flatten ps)
  unfolding play_oq
  oq-pieces = whatever-pieces oq oq-ticks ps w e r ∙ same-text-oq (flatten ps)

  pub oq-end : EndsAs e (play_crossbar (flatten ps))
  unfolding play_oq
  oq-end = rw (same-text-oq (flatten ps)) at (whatever-end oq oq-ticks ps w e r)

  -- so does each run of the crossbar's player over that text end
  pub oq-same-end : (qs : List (List ℕ)) (v : List ℕ) (d : Standing) → Plays crossbar opening [] qs v d
      → flatten qs ≡ flatten ps → e ≡ d
  unfolding play_crossbar
  oq-same-end qs v d q same =
      ends-once (plays-over oq r) (plays-over crossbar q) (play_crossbar (flatten ps)) oq-end
      (rw same at (whatever-end crossbar crossbar-ticks qs v d q))
