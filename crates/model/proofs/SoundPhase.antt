-- A phase keeps the table sound: no cell comes back to a list, and no crosspoint gets a second cell.
--     moved-sound    of whatever moves cells so
--     phase-sound    of a phase on the waiting cells
use Prim.Native.Nat.{ℕ, ◌*◌}
use mathlib.Core.Bool.{Bool, true, ◌&&◌}
use mathlib.Core.Path.{◌≡◌, refl, sym, ◌∙◌, ap}
use mathlib.Core.List.Memᴰ
use mathlib.Core.List.{List, [], map, Memᴰ}
use lib.ListN.{get_or, length-map}
use borrow.Author.Tests.{eq-eqb}
use Rattle.laws.specs.Lists.{keep, pairwise}
use Rattle.laws.proofs.Tests.{same, and_i, and_r}
use Rattle.laws.proofs.Lists.{keep-ext, keep-keep, keep-map}
use Rattle.laws.proofs.Pairwise.{pairwise-mono, pairwise_map}
use Rattle.cell.specs.Limits.{section_room}
use Rattle.model.specs.State.{Entry, is_listed}
use Rattle.model.specs.Phase.{Waiting, number_from, numbered, waiting, same_input, same_output, same_crosspoint}
use Rattle.model.specs.Phase.{Phase, phase, place_after, moved}
use Rattle.model.specs.CodeSlackness.{relocate, relocated, apart, Orderly, OneCrosspoint}
use Rattle.model.specs.Sound.{other_slot, other_crosspoint, together, sound_sections}
use Rattle.model.proofs.Numbering.{entry_of, entry_after, number_from-entries, mem-number_from, placed-entry}
use Rattle.model.proofs.Numbering.{section-waiting, numbered-at, moved_at}
use Rattle.model.proofs.Sections.{pairwise-flatten-at}
use Rattle.model.proofs.SoundOrderly.{sound-housed, sound-orderly, sound-one-crosspoint}
use Rattle.model.proofs.PhaseLimits.{phase-crosspoint}
use Rattle.model.proofs.PhasePlaces.{listed-forward}
use Rattle.model.proofs.SoundLaws.{together-keep, together-places, SoundEntry, SoundSection, sections-e}
use Rattle.model.proofs.SoundLaws.{sections-i}

-- no look at the place
entry-moved : (ports clock k : ℕ) (p : Phase) (w : Waiting) → SoundEntry ports clock k (entry_of w)
    → SoundEntry ports clock k (entry_after p w)
entry-moved ports clock k p w s =
    record {
      input = s.input;
      output = s.output;
      flow = s.flow;
      rank = s.rank;
      tag = s.tag;
      slot = s.slot;
    }

other_slot-moved : (p : Phase) (v w : Waiting)
    → other_slot (entry_of v) (entry_of w) ≡ other_slot (entry_after p v) (entry_after p w)
unfolding other_slot
other_slot-moved p v w = refl

-- cells of one input are apart only at two crosspoints
apart-other_crosspoint : (v w : Waiting) → v.cell.input ≡ w.cell.input → apart v w ≡ true
    → other_crosspoint (entry_of v) (entry_of w) ≡ true
unfolding apart other_crosspoint same_crosspoint same_input same_output
apart-other_crosspoint v w i h = rw (eq-eqb _ _ i) at h

------------------------------------------------------------------------
-- one section

module _ (ports : ℕ) (p : Phase) (ws : List Waiting)
    (forward : (w : Waiting) → Memᴰ w ws → is_listed (place_after p w) ≡ true → is_listed w.place ≡ true) where
  -- the listed cells are some of those that were listed
  flows-moved : together ports (keep (λ e. is_listed e.place) (map entry_of ws)) ≡ true
      → together ports (keep (λ e. is_listed e.place) (map (entry_after p) ws)) ≡ true
  flows-moved h =
      ap (together ports) (keep-map (λ e. is_listed e.place) (entry_after p) ws ∙ ap (map (entry_after p)) fewer)
      ∙ together-places ports (λ w. w.cell) (place_after p) (λ w. w.place) (keep later (keep now ws))
      ∙ together-keep ports entry_of later (keep now ws)
      (ap (together ports) (sym (keep-map (λ e. is_listed e.place) entry_of ws)) ∙ h)
    where
      now : Waiting → Bool
      now w = is_listed w.place

      later : Waiting → Bool
      later w = is_listed (place_after p w)

      fewer : keep later ws ≡ keep later (keep now ws)
      fewer =
          keep-ext later (λ w. now w && later w) ws
          (λ w m. same (later w) (now w && later w)
          (λ t. and_i (now w) (later w) (forward w m t) t)
          (λ t. and_r (now w) (later w) t))
          ∙ sym (keep-keep now later ws)

  section-moved : (clock k : ℕ) → SoundSection ports clock k (map entry_of ws)
      → pairwise other_crosspoint (map (entry_after p) ws) ≡ true → SoundSection ports clock k (map (entry_after p) ws)
  section-moved clock k s c =
      record {
        short = rw (length-map ws (entry_after p)) (rw (length-map ws entry_of) at s.short);
        entries = λ e m. each e (Memᴰ.of_map (entry_after p) ws m);
        flows = flows-moved s.flows;
        slots =
            pairwise_map other_slot (entry_after p) ws
            ∙ pairwise-mono
            (λ v w. other_slot (entry_of v) (entry_of w))
            (λ v w. other_slot (entry_after p v) (entry_after p w)) ws
            (λ v w m n t. sym (other_slot-moved p v w) ∙ t)
            (sym (pairwise_map other_slot entry_of ws) ∙ s.slots);
        crosspoints = c;
      }
    where
      each : (e : Entry) → (w : Waiting) × Memᴰ w ws × (entry_after p w ≡ e) → SoundEntry ports clock k e
      each e (w, m, q) = rw (sym q) (entry-moved ports clock k p w (s.entries (entry_of w) (Memᴰ.map entry_of m)))

------------------------------------------------------------------------
-- all sections

module _ (ports clock : ℕ) (p : Phase) (sections : List (List Entry)) (h : sound_sections ports clock 0 sections ≡ true)
    (forward : (e : Waiting) → Memᴰ e (waiting sections) → is_listed (place_after p e) ≡ true
    → is_listed e.place ≡ true)
    (crosspoint : OneCrosspoint (relocated p (waiting sections))) where
  -- those of one section
  crosspoint-at : (k : ℕ)
      → pairwise other_crosspoint (map (entry_after p) (number_from (section_room * k) (get_or sections k []))) ≡ true
  unfolding relocated relocate waiting
  crosspoint-at k =
      pairwise_map other_crosspoint (entry_after p) ws
      ∙ pairwise-mono near (λ v w. other_crosspoint (entry_after p v) (entry_after p w)) ws
      (λ v w m n t. apart-other_crosspoint (relocate p v) (relocate p w) (home v m ∙ sym (home w n)) t)
      (ap (pairwise near) (sym (numbered-at sections k))
      ∙ pairwise-flatten-at near (numbered sections) k
      (sym (pairwise_map apart (relocate p) (waiting sections)) ∙ crosspoint))
    where
      ws : List Waiting
      ws = number_from (section_room * k) (get_or sections k [])

      near : Waiting → Waiting → Bool
      near v w = apart (relocate p v) (relocate p w)

      home : (w : Waiting) → Memᴰ w ws → w.cell.input ≡ k
      home w m =
          sound-housed ports clock sections h k (entry_of w)
          (placed-entry (section_room * k) (get_or sections k []) w (mem-number_from (section_room * k) (get_or sections k []) m))

  pub moved-sound : sound_sections ports clock 0 (moved p sections) ≡ true
  moved-sound =
      sections-i ports clock (moved p sections) (λ k.
      rw (moved_at p sections k)
      (section-moved ports p (number_from (section_room * k) (get_or sections k []))
      (λ w m. forward w (section-waiting sections k m)) clock k
      (rw (number_from-entries (section_room * k) (get_or sections k [])) (sections-e ports clock sections h k))
      (crosspoint-at k)))

pub phase-sound : (ports clock : ℕ) (sections : List (List Entry)) → sound_sections ports clock 0 sections ≡ true
    → sound_sections ports clock 0 (moved (phase ports (waiting sections)) sections) ≡ true
phase-sound ports clock sections h =
    moved-sound ports clock (phase ports (waiting sections)) sections h
    (λ e m. listed-forward ports (waiting sections) orderly m)
    (phase-crosspoint (waiting sections) orderly (sound-one-crosspoint ports clock sections h))
  where
    orderly : Orderly ports (waiting sections)
    orderly = sound-orderly ports clock sections h
