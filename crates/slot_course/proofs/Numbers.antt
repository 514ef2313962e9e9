-- The candidates of a phase as numbers of entries, and their matching.
--     candidates-numbers                    the cells with the numbers of the candidates are the candidates, in their order
--     matched-numbers, proposals-numbers    so the matching is that of the numbers
use Prim.Native.Nat.{ℕ, ◌+◌, ◌*◌, ◌-◌, ◌<◌}
use native.Mathlib.Omega.{arith}
use mathlib.Core.Bool.{Bool, false, ◌&&◌}
use mathlib.Core.Path.{◌≡◌, refl, sym, ◌∙◌, ap, ap₂}
use mathlib.Core.List.Memᴰ
use mathlib.Core.List.{List, [], ◌∷◌, ◌++◌, map, flatten, append-nil, Memᴰ}
use lib.Dec.{ltb, eqb}
use lib.ListN.{get_or}
use Rattle.laws.specs.Lists.{keep, numbers_from, up_to}
use Rattle.laws.proofs.Lists.{keep-nil, keep_append, keep-comm, keep-keep, keep-none, none?-i, mem-keep-in}
use Rattle.laws.proofs.Lists.{flatten-map-append}
use Rattle.laws.proofs.Numbers.{mem-numbers_from, numbers_from-add}
use Rattle.sets.specs.Sets.{members}
use Rattle.cell.specs.Limits.{section_room, port_limit}
use Rattle.matching.specs.Matching.{matched, proposals}
use Rattle.matching.proofs.Renaming.{matched-map, proposals-map, Agree, matched-ext, proposals-ext}
use Rattle.model.specs.State.{is_listed}
use Rattle.model.specs.Phase.{Waiting, phase, ahead, beats, same_input, same_output, candidates, takes_part, lists}
use Rattle.model.proofs.PhaseFacts.{lists-all}
use Rattle.model.proofs.PhaseMatching.{candidate-listed}
use Rattle.layout.specs.Entry.{count_in}
use Rattle.layout.proofs.Records.{entry_at-input}
use Rattle.layout.specs.Code.{ports_in}
use Rattle.slot_view.specs.CodeView.{waiting_at, in_table, window}
use Rattle.slot_view.specs.CodeScan.{Readable}
use Rattle.slot_view.specs.CodeChoices.{of_input, candidates_of}
use Rattle.slot_view.proofs.Window.{of_input-window, of_input-none, in_table-e}
use Rattle.slot_moves.proofs.Relocated.{flatten-through}
use Rattle.slot_matching.specs.CodeFound.{numbers_in, numbers_of, ahead_at, over_at}

------------------------------------------------------------------------
-- lists of lists

module _ {A : Type 0} where
  flatten-map-ext : (g h : ℕ → List A) (l : List ℕ) → ((i : ℕ) → Memᴰ i l → g i ≡ h i)
      → flatten (map g l) ≡ flatten (map h l)
  unfolding flatten
  flatten-map-ext g h [] e = refl
  flatten-map-ext g h (x ∷ l) e =
      ap₂ ◌++◌ (e x (Memᴰ.head refl)) (flatten-map-ext g h l (λ i m. e i (Memᴰ.tail m)))

  pub flatten-empty : (g : ℕ → List A) (l : List ℕ) → ((i : ℕ) → Memᴰ i l → g i ≡ []) → flatten (map g l) ≡ []
  unfolding flatten
  flatten-empty g [] e = refl
  flatten-empty g (x ∷ l) e = ap₂ ◌++◌ (e x (Memᴰ.head refl)) (flatten-empty g l (λ i m. e i (Memᴰ.tail m)))

  keep-sections : (p : A → Bool) (g : ℕ → List A) (l : List ℕ)
      → flatten (map (λ i. keep p (g i)) l) ≡ keep p (flatten (map g l))
  unfolding flatten
  keep-sections p g [] = sym (keep-nil p)
  keep-sections p g (x ∷ l) =
      ap (λ r. keep p (g x) ++ r) (keep-sections p g l) ∙ sym (keep_append p (g x) (flatten (map g l)))

------------------------------------------------------------------------
-- the candidates, input by input

-- the candidates are some of the waiting cells, in their order
candidates-keep : (ls us ss : List Waiting) → (q : Waiting → Bool) × (candidates ls us ss ≡ keep q ls)
unfolding candidates
candidates-keep ls [] ss = ((λ e. false), sym (keep-none (λ e. false) ls (none?-i (λ e. false) ls (λ e m. refl))))
candidates-keep ls (u ∷ us) ss = (takes_part ls (u ∷ us) ss, refl)

matched-of : (ports : ℕ) (all : List Waiting)
    → (phase ports all).matched ≡ matched ahead (beats ports) (phase ports all).candidates
unfolding phase
matched-of ports all = refl

proposals-of : (ports : ℕ) (all : List Waiting)
    → (phase ports all).proposals ≡ proposals ahead (beats ports) (phase ports all).candidates
unfolding phase
proposals-of ports all = refl

module _ {table : List ℕ} (r : Readable table) (places : List ℕ) where
  abbrev all : List Waiting
  all = in_table table places

  all-sections : flatten (map (λ i. of_input i all) (up_to port_limit)) ≡ all
  unfolding in_table up_to
  all-sections =
      ap (λ l. flatten (map part l)) split
      ∙ flatten-map-append part (numbers_from 0 n) (numbers_from n (16 - n))
      ∙ ap₂ ◌++◌
      (flatten-map-ext part (λ i. window table places i (count_in table i)) (numbers_from 0 n) (λ i m.
      of_input-window table places r i (omega (arith, (mem-numbers_from 0 n m).1))))
      (flatten-empty part (numbers_from n (16 - n)) (λ i m.
      of_input-none table places r i (mem-numbers_from n (16 - n) m).0))
      ∙ append-nil (flatten (map (λ i. window table places i (count_in table i)) (numbers_from 0 n)))
    where
      n : ℕ
      n = ports_in table

      part : ℕ → List Waiting
      part i = of_input i all

      split : numbers_from 0 16 ≡ numbers_from 0 n ++ numbers_from n (16 - n)
      split =
          let e : 16 ≡ n + (16 - n) = omega (arith, r.ports) in
          let z : 0 + n ≡ n = omega arith in
          ap (numbers_from 0) e ∙ numbers_from-add 0 n (16 - n) ∙ ap (λ k. numbers_from 0 n ++ numbers_from k (16 - n)) z

  -- a test that gives the candidates
  candidate : (q : Waiting → Bool) × ((phase (ports_in table) all).candidates ≡ keep q all)
  unfolding phase lists
  candidate =
      let w = candidates-keep (lists all) (phase (ports_in table) all).urgent (phase (ports_in table) all).scheduled in
      ((λ e. is_listed e.place && w.0 e), w.1 ∙ keep-keep (λ e. is_listed e.place) w.0 all)

  candidates-sections : flatten (map (λ i. of_input i (phase (ports_in table) all).candidates) (up_to port_limit))
      ≡ (phase (ports_in table) all).candidates
  unfolding of_input
  candidates-sections =
      ap (λ l. flatten (map (λ i. of_input i l) (up_to port_limit))) candidate.1
      ∙ flatten-map-ext (λ i. of_input i (keep q all)) (λ i. keep q (of_input i all)) (up_to port_limit) (λ i m.
      keep-comm q (λ e. eqb e.cell.input i) all)
      ∙ keep-sections q (λ i. of_input i all) (up_to port_limit)
      ∙ ap (keep q) all-sections
      ∙ sym candidate.1
    where
      q : Waiting → Bool
      q = candidate.0

  -- a candidate is the cell with its number
  candidate-self : {e : Waiting} → Memᴰ e (phase (ports_in table) all).candidates
      → e ≡ waiting_at table places e.at
  candidate-self m = (in_table-e table places r (lists-all all (candidate-listed (ports_in table) all m))).0

  self-map : (l : List Waiting) → ((e : Waiting) → Memᴰ e l → e ≡ waiting_at table places e.at)
      → l ≡ map (waiting_at table places) (map (λ e. e.at) l)
  self-map [] h = refl
  self-map (e ∷ l) h = ap₂ ◌∷◌ (h e (Memᴰ.head refl)) (self-map l (λ f m. h f (Memᴰ.tail m)))

  module _ (sets : List ℕ)
      (are : (input : ℕ) → input < port_limit → map (λ j. section_room * input + j) (members (get_or sets input 0))
      ≡ candidates_of (phase (ports_in table) all) input) where
    pub candidates-numbers : map (waiting_at table places) (numbers_of sets) ≡ (phase (ports_in table) all).candidates
    unfolding numbers_of numbers_in up_to of_input candidates_of
    candidates-numbers =
        sym (flatten-through (waiting_at table places) (λ i. of_input i (phase (ports_in table) all).candidates)
        (λ i. numbers_in (get_or sets i 0) i) (up_to port_limit) (λ i m. part i (omega (arith, (mem-numbers_from 0 port_limit m).1))))
        ∙ candidates-sections
      where
        part : (i : ℕ) → i < port_limit
            → of_input i (phase (ports_in table) all).candidates
            ≡ map (waiting_at table places) (numbers_in (get_or sets i 0) i)
        part i l =
            self-map (of_input i (phase (ports_in table) all).candidates)
            (λ e m. candidate-self (mem-keep-in (λ e. eqb e.cell.input i) (phase (ports_in table) all).candidates m))
            ∙ ap (map (waiting_at table places)) (sym (are i l))

    -- the cell with the number of a candidate is one
    pub number-candidate : {k : ℕ} → Memᴰ k (numbers_of sets)
        → Memᴰ (waiting_at table places k) (phase (ports_in table) all).candidates
    number-candidate m = rw (← candidates-numbers) (Memᴰ.map (waiting_at table places) m)

    -- numbers stand to each other as their cells do
    agree : Agree (λ k l. ahead (waiting_at table places k) (waiting_at table places l))
        (λ k l. beats (ports_in table) (waiting_at table places k) (waiting_at table places l)) ahead_at (over_at table)
        (numbers_of sets)
    unfolding ahead same_input beats same_output ahead_at over_at waiting_at
    agree =
        record {
          on-ahead = λ k l _ _. ap₂ (λ i j. eqb i j && ltb k l) (entry_at-input table k) (entry_at-input table l);
          on-over = λ k l _ _. refl;
        }

    pub matched-numbers : (phase (ports_in table) all).matched
        ≡ map (waiting_at table places) (matched ahead_at (over_at table) (numbers_of sets))
    matched-numbers =
        matched-of (ports_in table) all
        ∙ ap (matched ahead (beats (ports_in table))) (sym candidates-numbers)
        ∙ matched-map ahead (beats (ports_in table)) (waiting_at table places) (numbers_of sets)
        ∙ ap (map (waiting_at table places)) (matched-ext _ _ ahead_at (over_at table) (numbers_of sets) agree)

    pub proposals-numbers : (phase (ports_in table) all).proposals ≡ proposals ahead_at (over_at table) (numbers_of sets)
    proposals-numbers =
        proposals-of (ports_in table) all
        ∙ ap (proposals ahead (beats (ports_in table))) (sym candidates-numbers)
        ∙ proposals-map ahead (beats (ports_in table)) (waiting_at table places) (numbers_of sets)
        ∙ proposals-ext _ _ ahead_at (over_at table) (numbers_of sets) agree
