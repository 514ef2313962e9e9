-- An older cue store and the same cues in the new layout.
--     sound_cues-with             cues with other switches, as sound
--     sound_fair-marked, converted-sound    an older switch and older cues, converted
--     convert_cues_call-..         what the call of the host comes to
use Prim.Native.Nat.{ℕ, ◌^◌, ◌≤◌, ◌<◌}
use mathlib.Core.Bool.{Bool, true}
use mathlib.Core.Path.{◌≡◌, refl, ◌∙◌}
use mathlib.Core.List.{List, map}
use mathlib.Core.Option.{Option, none, some}
use borrow.Author.Tests.{lt-ltb, le-ltb, eq-eqb}
use lib.Dec.{eqb}
use lib.ListN.{length, length-map}
use lib.Pow.{pow_pos}
use Rattle.laws.specs.Lists.{all?, pairwise}
use Rattle.laws.proofs.Lists.{all?-map, all?-mono}
use Rattle.laws.proofs.Pairwise.{pairwise_map, pairwise-mono}
use Rattle.laws.proofs.Tests.{and_i, and_r}
use Rattle.cell.specs.declared.Refusal.TheVariants.{BrokenTable, ShortBuffer}
use Rattle.model.specs.Checks.{done, refused}
use Rattle.model.specs.Cues.{cue_limit, well_named, Cue, Cues, is_named, sound_cue, other_name, sound_cues}
use Rattle.model.specs.Fair.{marks_in_range, sound_memory, no_memory, marked}
use Rattle.model.specs.Sound.{sound}
use Rattle.model.specs.State.{Switch}
use Rattle.model.proofs.FairMemory.{memory-fresh}
use Rattle.layout.specs.Cues.{sound_fair, store_size, decode_old_store, cue_with, converted, convert_cues_call}
use Rattle.layout.proofs.Stores.{sound_cue-name, sound_cue-switch, sound_cues-length, sound_cues-each}

-- cues with other switches, each as sound as its first
module _ {S T : Type 0} (p : S → Bool) (q : T → Bool) (f : S → T) (kept : (s : S) → p s ≡ true → q (f s) ≡ true) where
  sound-with : (c : Option (Cue S)) → sound_cue p c ≡ true → sound_cue q (cue_with f c) ≡ true
  unfolding sound_cue cue_with
  sound-with none h = refl
  sound-with (some c) h =
      and_i (well_named c.name) (q (f c.switch)) (sound_cue-name p c h) (kept c.switch (sound_cue-switch p c h))

  other-with : (c d : Option (Cue S)) → other_name c d ≡ true → other_name (cue_with f c) (cue_with f d) ≡ true
  unfolding other_name is_named cue_with
  other-with none d h = refl
  other-with (some c) none h = refl
  other-with (some c) (some d) h = h

  pub sound_cues-with : (cues : Cues S) → sound_cues p cues ≡ true → sound_cues q (map (cue_with f) cues) ≡ true
  unfolding sound_cues
  sound_cues-with cues h =
      let others : pairwise other_name cues ≡ true = search and_r in
      let with : Cues T = map (cue_with f) cues in
      and_i (eqb (length with) cue_limit) _
      (eq-eqb (length with) cue_limit (length-map cues (cue_with f) ∙ sound_cues-length p cues h))
      (and_i (all? (sound_cue q) with) _
      (all?-map (sound_cue q) (cue_with f) cues
      ∙ all?-mono (sound_cue p) (λ c. sound_cue q (cue_with f c)) cues (λ c m. sound-with c) (sound_cues-each p cues h))
      (pairwise_map other_name (cue_with f) cues
      ∙ pairwise-mono other_name (λ c d. other_name (cue_with f c) (cue_with f d)) cues (λ c d m n. other-with c d) others))

pub sound_fair-marked : (s : Switch) → sound s ≡ true → sound_fair (marked 0 s) ≡ true
unfolding sound_fair marked marks_in_range
sound_fair-marked s h =
    and_i (sound s) (sound_memory s.ports (no_memory 0)) h
    (memory-fresh s.ports 0 (lt-ltb 0 (2 ^ s.ports) (pow_pos s.ports)))

pub converted-sound : (cues : Cues Switch) → sound_cues sound cues ≡ true → sound_cues sound_fair (converted cues) ≡ true
unfolding converted
converted-sound = sound_cues-with sound sound_fair (marked 0) sound_fair-marked

module _ (old buffer : List ℕ) where
  pub convert_cues_call-broken : decode_old_store old ≡ none → convert_cues_call old buffer ≡ refused BrokenTable 0
  unfolding convert_cues_call
  convert_cues_call-broken e = rw (e, convert_cues_call)

  module _ (cues : Cues Switch) (e : decode_old_store old ≡ some cues) where
    pub convert_cues_call-short : length buffer < store_size → convert_cues_call old buffer ≡ refused ShortBuffer 0
    unfolding convert_cues_call
    convert_cues_call-short short = rw (e, lt-ltb (length buffer) store_size short, convert_cues_call)

    pub convert_cues_call-done : store_size ≤ length buffer → convert_cues_call old buffer ≡ done (converted cues)
    unfolding convert_cues_call
    convert_cues_call-done room = rw (e, le-ltb (length buffer) store_size room, convert_cues_call)
