-- A departure keeps the table sound, whichever cells leave.
--     without-sound
use Prim.Native.Nat.{ℕ, ◌*◌, ◌≤◌}
use native.Mathlib.Omega.{arith}
use mathlib.Core.Bool.{Bool, true, not}
use mathlib.Core.Path.{◌≡◌, sym, ◌∙◌, ap}
use mathlib.Core.List.Memᴰ
use mathlib.Core.List.{List, [], map, Memᴰ}
use lib.ListN.{length, get_or, length-map}
use Rattle.laws.specs.Lists.{keep, pairwise}
use Rattle.laws.proofs.Lists.{mem-keep-in, keep-comm, keep-map}
use Rattle.laws.proofs.Count.{length-keep, count-le-length}
use Rattle.laws.proofs.Pairwise.{pairwise-keep, pairwise_map}
use Rattle.cell.specs.Limits.{section_room}
use Rattle.model.specs.State.{Entry, is_listed}
use Rattle.model.specs.Phase.{Waiting, number_from, among}
use Rattle.model.specs.Crossbar.{without}
use Rattle.model.specs.Sound.{other_slot, other_crosspoint, together, sound_sections}
use Rattle.model.proofs.Numbering.{entry_of, number_from-entries, without_at}
use Rattle.model.proofs.SoundLaws.{together-keep, SoundEntry, SoundSection, sections-e, sections-i}

module _ (ports : ℕ) (stays : Waiting → Bool) (ws : List Waiting) where
  pairwise-stay : (r : Entry → Entry → Bool) → pairwise r (map entry_of ws) ≡ true
      → pairwise r (map entry_of (keep stays ws)) ≡ true
  pairwise-stay r h =
      pairwise_map r entry_of (keep stays ws)
      ∙ pairwise-keep (λ v w. r (entry_of v) (entry_of w)) stays ws (sym (pairwise_map r entry_of ws) ∙ h)

  flows-stay : together ports (keep (λ e. is_listed e.place) (map entry_of ws)) ≡ true
      → together ports (keep (λ e. is_listed e.place) (map entry_of (keep stays ws))) ≡ true
  flows-stay h =
      ap (together ports)
      (keep-map (λ e. is_listed e.place) entry_of (keep stays ws) ∙ ap (map entry_of) (keep-comm stays listed ws))
      ∙ together-keep ports entry_of stays (keep listed ws)
      (ap (together ports) (sym (keep-map (λ e. is_listed e.place) entry_of ws)) ∙ h)
    where
      listed : Waiting → Bool
      listed w = is_listed w.place

  section-stay : (clock k : ℕ) → SoundSection ports clock k (map entry_of ws)
      → SoundSection ports clock k (map entry_of (keep stays ws))
  section-stay clock k s =
      record {
        short =
            let a : length ws ≤ section_room = rw (length-map ws entry_of) at s.short in
            omega (arith, length-map (keep stays ws) entry_of, length-keep stays ws, count-le-length stays ws);
        entries = λ e m. each e (Memᴰ.of_map entry_of (keep stays ws) m);
        flows = flows-stay s.flows;
        slots = pairwise-stay other_slot s.slots;
        crosspoints = pairwise-stay other_crosspoint s.crosspoints;
      }
    where
      each : (e : Entry) → (w : Waiting) × Memᴰ w (keep stays ws) × (entry_of w ≡ e) → SoundEntry ports clock k e
      each e (w, m, q) = s.entries e (Memᴰ.cast (sym q) (Memᴰ.map entry_of (mem-keep-in stays ws m)))

pub without-sound : (ports clock : ℕ) (out : List Waiting) (sections : List (List Entry))
    → sound_sections ports clock 0 sections ≡ true → sound_sections ports clock 0 (without out sections) ≡ true
without-sound ports clock out sections h =
    sections-i ports clock (without out sections) (λ k.
    rw (without_at out sections k)
    (section-stay ports (λ e. not (among out e)) (number_from (section_room * k) (get_or sections k [])) clock k
    (rw (number_from-entries (section_room * k) (get_or sections k [])) (sections-e ports clock sections h k))))
