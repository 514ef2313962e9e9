-- What a phase needs of the waiting cells holds in a sound table.
--     sound-short, sound-housed     of each section its length and its inputs
--     sound-orderly                 numbers and arrivals differ, flows stand in output priority
--     sound-one-crosspoint          no crosspoint holds two cells
use Prim.Native.Nat.{ℕ, ◌*◌}
use native.Mathlib.Omega.{arith}
use mathlib.Core.Bool.{Bool, true, false, not, ◌&&◌}
use mathlib.Core.Path.{◌≡◌, refl, sym, ◌∙◌, ap}
use mathlib.Core.Logic.{◌≢◌}
use mathlib.Core.List.{List, [], ◌∷◌, ◌++◌, Memᴰ}
use lib.Dec.{eqb}
use lib.ListN.{get_or}
use borrow.Author.Tests.{ne_eqb, not-true}
use Rattle.laws.specs.Lists.{keep, pairwise}
use Rattle.laws.proofs.Tests.{not-i, and-false-l, and_false_r}
use Rattle.laws.proofs.Lists.{keep_append, keep-pass, keep-mem}
use Rattle.laws.proofs.Pairwise.{pairwise-mono, pairwise_map}
use Rattle.cell.specs.Flow.{same_flow}
use Rattle.cell.specs.Limits.{section_room}
use Rattle.cell.specs.Order.{over}
use Rattle.model.specs.State.{Entry, is_listed, is_crossed}
use Rattle.model.specs.Phase.{Waiting, number_from, numbered, waiting, ahead, same_input, same_output}
use Rattle.model.specs.Phase.{same_crosspoint}
use Rattle.model.specs.CodeSlackness.{other_arrival, Orderly, apart, OneCrosspoint}
use Rattle.model.specs.Sound.{other_slot, other_crosspoint, sound_sections}
use Rattle.model.proofs.Sections.{pairwise-flatten}
use Rattle.model.proofs.SoundLaws.{SoundSection, sections-e, together-split}
use Rattle.model.proofs.Numbering.{entry_of, Placed, mem-number_from, placed-entry, placed-later}
use Rattle.model.proofs.Numbering.{number_from-entries, numbered-at, Stands, mem-waiting, Short, numbers-differ}
use Rattle.model.proofs.Numbering.{Housed, stands-input}
use Rattle.model.proofs.WaitingOrder.{ahead-input, ahead-at}

------------------------------------------------------------------------
-- two cells of a section, two cells of two sections

other_slot-arrival : (v w : Waiting) → other_slot (entry_of v) (entry_of w) ≡ true → other_arrival v w ≡ true
unfolding other_slot other_arrival
other_slot-arrival v w h =
    not-i (eqb v.cell.input w.cell.input && eqb v.cell.slot w.cell.slot)
    (and_false_r (eqb v.cell.input w.cell.input) (eqb v.cell.slot w.cell.slot)
    (not-true (eqb v.cell.slot w.cell.slot) h))

other_input-arrival : (v w : Waiting) → v.cell.input ≢ w.cell.input → other_arrival v w ≡ true
unfolding other_arrival
other_input-arrival v w h =
    not-i (eqb v.cell.input w.cell.input && eqb v.cell.slot w.cell.slot)
    (and-false-l (eqb v.cell.input w.cell.input) (eqb v.cell.slot w.cell.slot) (ne_eqb _ _ h))

not-all : (a b : Bool) → not (a && (b && false)) ≡ true
not-all true true = refl
not-all true false = refl
not-all false b = refl

other_crosspoint-apart : (v w : Waiting) → other_crosspoint (entry_of v) (entry_of w) ≡ true → apart v w ≡ true
unfolding other_crosspoint apart same_crosspoint same_input same_output
other_crosspoint-apart v w h =
    go (is_crossed v.place) (is_crossed w.place) (eqb v.cell.input w.cell.input)
    (eqb v.cell.output w.cell.output) h
  where
    go : (a b i o : Bool) → not (a && (b && o)) ≡ true → not (a && (b && (i && o))) ≡ true
    go a b true o t = t
    go a b false o t = not-all a b

other_input-apart : (v w : Waiting) → v.cell.input ≢ w.cell.input → apart v w ≡ true
unfolding apart same_crosspoint same_input same_output
other_input-apart v w h = rw (ne_eqb _ _ h) (not-all (is_crossed v.place) (is_crossed w.place))

-- a test of two cells that holds within each section and between cells of two inputs
pairwise-waiting : (r : Waiting → Waiting → Bool) (q : Entry → Entry → Bool) (sections : List (List Entry))
    → Housed sections → ((k : ℕ) → pairwise q (get_or sections k []) ≡ true)
    → ((v w : Waiting) → q (entry_of v) (entry_of w) ≡ true → r v w ≡ true)
    → ((v w : Waiting) → v.cell.input ≢ w.cell.input → r v w ≡ true) → pairwise r (waiting sections) ≡ true
unfolding waiting
pairwise-waiting r q sections housed each within across =
    pairwise-flatten r (numbered sections) (λ k. rw (numbered-at sections k) (inside k)) (λ i j v w l m n.
    across v w (λ e. omega (arith, home i v m, home j w n)))
  where
    inside : (k : ℕ) → pairwise r (number_from (section_room * k) (get_or sections k [])) ≡ true
    inside k =
        pairwise-mono (λ v w. q (entry_of v) (entry_of w)) r (number_from (section_room * k) (get_or sections k []))
        (λ v w m n h. within v w h)
        (sym (pairwise_map q entry_of (number_from (section_room * k) (get_or sections k [])))
        ∙ ap (pairwise q) (number_from-entries (section_room * k) (get_or sections k []))
        ∙ each k)

    home : (k : ℕ) (w : Waiting) → Memᴰ w (get_or (numbered sections) k []) → w.cell.input ≡ k
    home k w m =
        housed k (entry_of w)
        (placed-entry (section_room * k) (get_or sections k []) w
        (mem-number_from (section_room * k) (get_or sections k []) (rw (numbered-at sections k) at m)))

------------------------------------------------------------------------
-- a sound table

module _ (ports clock : ℕ) (sections : List (List Entry)) (sound : sound_sections ports clock 0 sections ≡ true) where
  pub sound-section : (k : ℕ) → SoundSection ports clock k (get_or sections k [])
  sound-section k = sections-e ports clock sections sound k

  pub sound-short : Short sections
  sound-short k = (sound-section k).short

  pub sound-housed : Housed sections
  sound-housed k e m = ((sound-section k).entries e m).input

  -- of two listed cells of one flow the one ahead is over the other
  pub sound-flows : (e f : Waiting) → Memᴰ e (waiting sections) → Memᴰ f (waiting sections)
      → is_listed e.place ≡ true → is_listed f.place ≡ true
      → same_flow e.cell f.cell ≡ true → ahead e f ≡ true → over ports e.cell f.cell ≡ true
  sound-flows e f m n le lf s a = go (mem-waiting sections m) (mem-waiting sections n)
    where
      listed : Entry → Bool
      listed g = is_listed g.place

      within : (k : ℕ) → Placed (section_room * k) (get_or sections k []) e
          → Memᴰ f (number_from (section_room * k) (get_or sections k [])) → over ports e.cell f.cell ≡ true
      within k p i =
          let later : Memᴰ (entry_of f) p.post =
          placed-later (section_room * k) (get_or sections k []) e f p i (ahead-at e f a) in
          let parts : keep listed (get_or sections k []) ≡ keep listed p.pre ++ entry_of e ∷ keep listed p.post =
          ap (keep listed) p.split
          ∙ keep_append listed p.pre (entry_of e ∷ p.post)
          ∙ ap (λ r. keep listed p.pre ++ r) (keep-pass listed (entry_of e) p.post le) in
          together-split ports (keep listed p.pre) (entry_of e) (keep listed p.post)
          (rw parts at (sound-section k).flows)
          (keep-mem listed later lf) s

      go : Stands sections e → Stands sections f → over ports e.cell f.cell ≡ true
      go v w =
          let one : w.input ≡ v.input =
          sym (stands-input sections sound-housed f w)
          ∙ sym (ahead-input e f a)
          ∙ stands-input sections sound-housed e v in
          within v.input v.placed (rw one at w.mem)

  pub sound-orderly : Orderly ports (waiting sections)
  sound-orderly =
      record {
        numbers = numbers-differ sections sound-short;
        arrivals =
            pairwise-waiting other_arrival other_slot sections sound-housed (λ k. (sound-section k).slots)
            other_slot-arrival other_input-arrival;
        flows = sound-flows;
      }

  pub sound-one-crosspoint : OneCrosspoint (waiting sections)
  sound-one-crosspoint =
      pairwise-waiting apart other_crosspoint sections sound-housed (λ k. (sound-section k).crosspoints)
      other_crosspoint-apart other_input-apart
