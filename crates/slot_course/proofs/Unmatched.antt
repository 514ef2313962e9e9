-- Where no cell is urgent, there is no candidate, and nothing is held or proposed.
use Prim.Native.Nat.{ℕ, zero, suc, ◌<◌}
use native.Mathlib.Omega.{arith}
use mathlib.Core.Bool.{Bool, true, false}
use mathlib.Core.Path.{◌≡◌, refl, sym, ◌∙◌, ap}
use mathlib.Core.List.{List, [], ◌∷◌, Memᴰ}
use lib.Dec.{eqb}
use lib.ListN.{get_or, replicate}
use Rattle.laws.specs.Lists.{keep, up_to}
use Rattle.laws.proofs.Tests.{clash}
use Rattle.laws.proofs.Lists.{keep-nil, some?-i}
use Rattle.laws.proofs.Numbers.{mem-numbers_from}
use Rattle.cell.specs.Limits.{port_limit}
use Rattle.matching.specs.Matching.{matched, proposals}
use Rattle.matching.proofs.Matching.{matched-nil, proposals-nil}
use Rattle.model.specs.Phase.{Waiting, Phase, phase}
use Rattle.model.proofs.PhaseFacts.{lists-all}
use Rattle.model.proofs.PhaseMatching.{candidate-listed}
use Rattle.layout.specs.Entry.{entry_at}
use Rattle.layout_table.specs.CodeEntries.{nowhere}
use Rattle.slot_view.specs.CodeScan.{Readable, some_urgent}
use Rattle.slot_view.specs.CodeView.{waiting_in, places_in}
use Rattle.slot_view.specs.CodeViewed.{Chosen}
use Rattle.slot_view.proofs.Window.{waiting_at-cell}
use Rattle.slot_choice.proofs.Candidates.{candidates-none}
use Rattle.slot_moves.proofs.Known.{known}
use Rattle.slot_matching.specs.CodeFound.{numbers_in, numbers_of, Found, ToOutputs, ahead_at, over_at}
use Rattle.layout.specs.Code.{ports_in}
use Rattle.slot_course.proofs.Numbers.{flatten-empty, number-candidate}

mem-up_to : {n : ℕ} (i : ℕ) → Memᴰ i (up_to n) → i < n
unfolding up_to
mem-up_to {n} i m = omega (arith, (mem-numbers_from 0 n m).1)

no-urgent : (p : Phase) → some_urgent p ≡ false → p.urgent ≡ []
unfolding some_urgent
no-urgent p h = go p.urgent refl
  where
    go : (l : List Waiting) → p.urgent ≡ l → p.urgent ≡ []
    go [] e = e
    go (x ∷ l) e = absurd (clash (some?-i (λ e. true) {x = x} (rw e (Memᴰ.head refl)) refl) h)

get_or-nowhere : (n o : ℕ) → o < n → get_or (replicate n nowhere) o 0 ≡ nowhere
get_or-nowhere zero o h = absurd (omega arith)
get_or-nowhere (suc n) zero h = refl
get_or-nowhere (suc n) (suc o) h = get_or-nowhere n o (omega arith)

get_or-nowhere-le : (n o : ℕ) → get_or (replicate n nowhere) o nowhere ≡ nowhere
get_or-nowhere-le zero o = refl
get_or-nowhere-le (suc n) zero = refl
get_or-nowhere-le (suc n) (suc o) = get_or-nowhere-le n o

abbrev matched_numbers : List ℕ → List ℕ → List ℕ
matched_numbers table l = matched ahead_at (over_at table) l

abbrev proposed_numbers : List ℕ → List ℕ → ℕ
proposed_numbers table l = proposals ahead_at (over_at table) l

abbrev held_by : List ℕ → ℕ → Bool
held_by table k = eqb (get_or (replicate port_limit nowhere) (entry_at table k).cell.output nowhere) k

-- without a candidate nothing is found
pub found_none : (table sets : List ℕ) → numbers_of sets ≡ [] → Found table sets (replicate port_limit nowhere) 0
found_none table sets e =
    record {
      matching =
          ap (matched_numbers table) e ∙ matched-nil ahead_at (over_at table)
          ∙ sym (ap (keep (held_by table)) e ∙ keep-nil (held_by table));
      counted = sym (ap (proposed_numbers table) e ∙ proposals-nil ahead_at (over_at table));
      made-le = omega arith;
      size = refl;
      held_in = λ o l h. absurd (omega (arith, get_or-nowhere port_limit o l));
      held-le = λ o. omega (arith, get_or-nowhere-le port_limit o);
    }

module _ {table : List ℕ} (r : Readable table) {cross : List (List ℕ)} {urgent : Bool} {scheduled sets best : List ℕ}
    (c : Chosen table cross urgent scheduled sets best) where
  pub unmatched : urgent ≡ false → numbers_of sets ≡ []
  unfolding numbers_of numbers_in
  unmatched f =
      flatten-empty _ (up_to port_limit) (λ i m.
      c.candidates-are i (few i m)
      ∙ candidates-none (ports_in table) (waiting_in table) i
      (no-urgent (phase (ports_in table) (waiting_in table)) (sym c.urgent-is ∙ f)))
    where
      few : (i : ℕ) → Memᴰ i (up_to port_limit) → i < port_limit
      few i m = omega (arith, mem-up_to i m)

  -- each candidate goes to one of the outputs
  pub to-outputs : ToOutputs table (numbers_of sets)
  to-outputs =
      record {
        small = λ k m.
            let e = known r (places_in table) (lists-all (waiting_in table) (candidate-listed (ports_in table) (waiting_in table)
            (number-candidate r (places_in table) sets c.candidates-are m))) in
            omega (arith, e.to, r.ports, ap (λ d. d.output) (waiting_at-cell table (places_in table) k));
      }
