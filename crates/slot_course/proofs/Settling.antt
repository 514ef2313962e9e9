-- What the outputs hold when the matching is found says which cells go straight.
--     match-held       the cell that an output holds is its match
--     match-of         and every match is held
--     settled          so the code's straight cells are those of the phase
use Prim.Native.Nat.{ℕ, ◌/◌, ◌<◌, ◌≤◌}
use native.Mathlib.Omega.{arith}
use mathlib.Core.Bool.{Bool, true, false}
use mathlib.Core.Path.{◌≡◌, sym, ◌∙◌, ap}
use mathlib.Core.Logic.{◌⊎◌, inl, inr}
use mathlib.Core.List.Memᴰ
use mathlib.Core.List.{List, map, Memᴰ}
use borrow.Author.Tests.{eqb-true, eqb-false, eq-eqb, ltb-true, ltb-false}
use lib.Dec.{ltb, eqb}
use lib.ListN.{length, get_or}
use Rattle.laws.specs.Lists.{keep}
use Rattle.laws.proofs.Tests.{either, clash}
use Rattle.laws.proofs.Lists.{keep-mem, mem-keep-passes, get_d_any}
use Rattle.cell.specs.Limits.{section_room, port_limit}
use Rattle.model.specs.Phase.{Waiting, phase, blocked, crosspoints}
use Rattle.model.specs.CodeSlackness.{Orderly}
use Rattle.model.proofs.WaitingOrder.{same_number}
use Rattle.model.proofs.PhaseFacts.{scheduled-normal, urgent-blocked}
use Rattle.model.proofs.PhaseMatching.{straight-i, straight-matched, straight-urgent, match-all, match-kind, match-output}
use Rattle.model.proofs.PhaseMatching.{scheduled-all}
use Rattle.layout.specs.Entry.{entry_at}
use Rattle.layout_table.specs.CodeEntries.{nowhere}
use Rattle.slot_view.specs.CodeView.{waiting_at, waiting_in, places_in}
use Rattle.slot_view.specs.CodeViewed.{Chosen}
use Rattle.slot_view.specs.CodeScan.{Readable}
use Rattle.slot_view.proofs.Window.{waiting_at-at, waiting_at-cell, waiting_at-input}
use Rattle.slot_moves.proofs.Ports.{number_by, ByPort, has, lacks, by-none, by_cases, by_one, input_of, output_of}
use Rattle.slot_moves.proofs.Ports.{straight-output, scheduled-input, scheduled_of-by, straight_of-by}
use Rattle.slot_moves.proofs.Known.{Known, known}
use Rattle.slot_steps.proofs.Rules.{straight-free, straight-scheduled, straight-match}
use Rattle.slot_matching.specs.CodeFound.{numbers_of, Found}
use Rattle.slot_steps.specs.CodeSteps.{straight_to}
use Rattle.slot_moves.specs.CodeMoves.{straight_of}
use Rattle.slot_moves.specs.CodeMoved.{Settled}
use Rattle.layout.specs.Code.{ports_in}
use Rattle.slot_course.proofs.Numbers.{matched-numbers, proposals-numbers}

module _ {table : List ℕ} (r : Readable table) (o : Orderly (ports_in table) (waiting_in table)) {cross : List (List ℕ)} {urgent : Bool}
    {scheduled sets best held : List ℕ} {made : ℕ} (c : Chosen table cross urgent scheduled sets best)
    (found : Found table sets held made) where
  abbrev places : List ℕ
  places = places_in table

  abbrev all : List Waiting
  all = waiting_in table

  abbrev cell : ℕ → Waiting
  cell k = waiting_at table places k

  -- a candidate is matched
  test : ℕ → Bool
  test k = eqb (get_or held (entry_at table k).cell.output nowhere) k

  matches-are : (phase (ports_in table) all).matched ≡ map cell (keep test (numbers_of sets))
  unfolding test
  matches-are = matched-numbers r places sets c.candidates-are ∙ ap (map cell) found.matching

  -- the match that an output holds
  record Held (x : ℕ) : Type 0 where
    mem : Memᴰ (cell (get_or held x 0)) (phase (ports_in table) all).matched
    to : output_of (cell (get_or held x 0)) ≡ x

  match-held : (x : ℕ) → x < port_limit → get_or held x 0 < nowhere → Held x
  unfolding test
  match-held x l h =
      let w = found.held_in x l h in
      let k = get_or held x 0 in
      let room : x < length held = omega (arith, found.size) in
      record {
        mem =
            rw matches-are (Memᴰ.map cell (keep-mem test w.0
            (eq-eqb _ _ (ap (λ y. get_or held y nowhere) w.1 ∙ get_d_any held x nowhere 0 room))));
        to = ap (λ d. d.output) (waiting_at-cell table places k) ∙ w.1;
      }

  -- an output holds each match that goes to it
  match-of : {e : Waiting} → Memᴰ e (phase (ports_in table) all).matched → get_or held (output_of e) nowhere ≡ e.at
  unfolding test
  match-of {e} m = go (Memᴰ.of_map cell (keep test (numbers_of sets)) (rw matches-are at m))
    where
      go : (k : ℕ) × Memᴰ k (keep test (numbers_of sets)) × (cell k ≡ e) → get_or held (output_of e) nowhere ≡ e.at
      go (k, i, q) =
          ap (λ y. get_or held y nowhere)
          (ap output_of (sym q) ∙ ap (λ d. d.output) (waiting_at-cell table places k))
          ∙ eqb-true _ _ (mem-keep-passes test (numbers_of sets) i)
          ∙ sym (waiting_at-at table places k)
          ∙ ap (λ w. w.at) q

  straight-is : (x : ℕ) → x < port_limit → straight_to scheduled held x ≡ straight_of (phase (ports_in table) all) x
  straight-is x l = go (either (ltb k nowhere)) ∙ sym (straight_of-by (phase (ports_in table) all) x)
    where
      k : ℕ
      k = get_or held x 0

      chosen : ℕ
      chosen = number_by output_of (phase (ports_in table) all).straight x

      -- no straight cell goes to the output
      none : ((e : Waiting) → Memᴰ e (phase (ports_in table) all).straight → output_of e ≡ x → ⊥) → chosen ≡ nowhere
      none u = by-none output_of (phase (ports_in table) all).straight x u

      go : (ltb k nowhere ≡ true) ⊎ (ltb k nowhere ≡ false) → straight_to scheduled held x ≡ chosen
      go (inr t) =
          sym (straight-free scheduled held x (ltb-false _ _ t))
          ∙ sym (none (λ e m q.
          let w : Known r places e = known r places (match-all (ports_in table) all (straight-matched (ports_in table) all m)) in
          let room : x < length held = omega (arith, found.size) in
          let b : k ≡ e.at =
          get_d_any held x 0 nowhere room ∙ ap (λ y. get_or held y nowhere) (sym q)
          ∙ match-of (straight-matched (ports_in table) all m) in
          let h : nowhere ≤ k = ltb-false _ _ t in
          omega (arith, w.small)))
      go (inl t) = case (either (eqb k (get_or scheduled i 0)))
        where
          i : ℕ
          i = k / section_room

          small : k < nowhere
          small = ltb-true _ _ t

          w : Held x
          w = match-held x l small

          e : Waiting
          e = cell k

          number : e.at ≡ k
          number = waiting_at-at table places k

          from : input_of e ≡ i
          from = waiting_at-input table places k

          port : i < port_limit
          port = omega (arith, small)

          -- the scheduled cell of the input
          due : get_or scheduled i 0 ≡ number_by input_of (phase (ports_in table) all).scheduled i
          due = c.schedules.at i port ∙ scheduled_of-by (phase (ports_in table) all) i

          -- the match is the scheduled cell, which is not urgent
          not-urgent : k ≡ get_or scheduled i 0 → Memᴰ e (phase (ports_in table) all).urgent → ⊥
          not-urgent q u = here (by_cases input_of (phase (ports_in table) all).scheduled i)
            where
              here : ByPort input_of (phase (ports_in table) all).scheduled i → ⊥
              here (has s j _ n) =
                  let one : e ≡ s = same_number o.numbers (match-all (ports_in table) all w.mem) (scheduled-all (ports_in table) all j) (number ∙ q ∙ due ∙ n) in
                  clash (urgent-blocked (ports_in table) all u)
                  (ap (blocked (ports_in table) (crosspoints all)) one ∙ scheduled-normal (ports_in table) all j)
              here (lacks _ n) = omega (arith, q, due, n, small)

          -- another match is urgent
          urgent-match : (k ≡ get_or scheduled i 0 → ⊥) → Memᴰ e (phase (ports_in table) all).urgent
          urgent-match n = here (match-kind (ports_in table) all o w.mem)
            where
              here : Memᴰ e (phase (ports_in table) all).urgent ⊎ Memᴰ e (phase (ports_in table) all).scheduled
                  → Memᴰ e (phase (ports_in table) all).urgent
              here (inl u) = u
              here (inr j) =
                  absurd (n (sym number
                  ∙ sym (by_one input_of (phase (ports_in table) all).scheduled (scheduled-input all o) j)
                  ∙ ap (number_by input_of (phase (ports_in table) all).scheduled) from
                  ∙ sym due))

          case : (eqb k (get_or scheduled i 0) ≡ true) ⊎ (eqb k (get_or scheduled i 0) ≡ false) → straight_to scheduled held x ≡ chosen
          case (inl q) =
              sym (straight-scheduled scheduled held x (eqb-true _ _ q))
              ∙ sym (none (λ f j to.
              let one : f ≡ e = match-output (ports_in table) all o (straight-matched (ports_in table) all j) w.mem (to ∙ sym w.to) in
              not-urgent (eqb-true _ _ q) (Memᴰ.cast (sym one) (straight-urgent (ports_in table) all o j))))
          case (inr q) =
              sym (straight-match scheduled held x small (eqb-false _ _ q))
              ∙ sym number
              ∙ sym (ap (number_by output_of (phase (ports_in table) all).straight) (sym w.to)
              ∙ by_one output_of (phase (ports_in table) all).straight (straight-output all o)
              (straight-i (ports_in table) all (urgent-match (eqb-false _ _ q)) w.mem))

  pub settled : Settled table scheduled held
  settled =
      record {
        scheduled-size = c.scheduled-size;
        held-size = found.size;
        scheduled-is = c.schedules.at;
        straight-is = straight-is;
      }

  pub proposals-are : made ≡ (phase (ports_in table) all).proposals
  proposals-are = found.counted ∙ sym (proposals-numbers r places sets c.candidates-are)
