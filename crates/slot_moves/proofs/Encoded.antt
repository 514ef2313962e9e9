-- The bytes of a table after the moves of a phase are those of the state after the phase.
--     encode-start, encode-placing   the bytes follow the places
--     encode-end                     where the cells are relocated as the phase says, the state is that after it
--     after_table                    which is a table
use Prim.Native.Nat.{ℕ, zero, suc, ◌+◌, ◌*◌, ◌≤◌, ◌<◌}
use native.Mathlib.Omega.{arith}
use mathlib.Core.Bool.{true, false}
use mathlib.Core.Path.{◌≡◌, refl, sym, ◌∙◌, ap, ap₂}
use mathlib.Core.Logic.{◌⊎◌, inl, inr}
use mathlib.Core.List.{List, [], ◌∷◌, map}
use mathlib.Core.Option.{some}
use borrow.Author.Tests.{ltb-true, ltb-false}
use lib.Dec.{ltb}
use lib.ListN.{length, set, length-map}
use lib.Seq.{set_out}
use Rattle.laws.specs.Lists.{up_to}
use Rattle.laws.proofs.Tests.{either}
use Rattle.cell.specs.Limits.{section_room}
use Rattle.model.specs.State.{Entry, Switch}
use Rattle.model.specs.Sound.{sound}
use Rattle.model.specs.Phase.{Phase, number_from, number_sections, numbered, waiting, phase, placed_by, moved}
use Rattle.model.specs.CodeSlackness.{relocated}
use Rattle.model.proofs.Numbering.{waiting-moved, entry_after, length_moved}
use Rattle.model.proofs.Shapes.{length-number, waiting-injective}
use Rattle.model.proofs.SoundLaws.{SoundTable, sound-e, sound-i}
use Rattle.model.proofs.SoundPhase.{phase-sound}
use Rattle.layout.specs.Entry.{count_in}
use Rattle.layout.specs.Table.{table_size, encode, state_of, IsTable, entry_limit}
use Rattle.layout.proofs.Table.{decode-sound, decode-encode, state_of-encode, encode-decode}
use Rattle.layout.specs.Code.{ports_in}
use Rattle.layout_table.specs.CodeEntries.{nowhere}
use Rattle.slot_view.specs.CodeView.{in_table, InTable, places_in, waiting_in}
use Rattle.slot_view.specs.CodeSections.{entry_placed, section_placed, sections_placed}
use Rattle.slot_view.proofs.Encoding.{state_placed, encode-placed}
use Rattle.slot_view.proofs.Own.{table-readable, own-sections, waiting_in-state}
use Rattle.slot_view.proofs.Placed.{in_table-waiting, length-numbers, decode-ports, decode-clock}
use Rattle.slot_view.proofs.Placing.{placed_past}
use Rattle.slot_moves.specs.CodeMoved.{after_phase}
use Rattle.slot_steps.specs.CodeSteps.{place_at}
use Rattle.slot_moves.specs.CodeMoves.{written, placing}
use Rattle.slot_moves.proofs.Rounds.{placing-kept}
use Rattle.slot_moves.proofs.Written.{length-written}

------------------------------------------------------------------------
-- lengths of sections

lengths : {A : Type 0} (f g : A → List Entry) → ((a : A) → length (f a) ≡ length (g a)) → (l : List A)
    → map length (map f l) ≡ map length (map g l)
lengths f g h [] = refl
lengths f g h (a ∷ l) = ap₂ (λ x y. x ∷ y) (h a) (lengths f g h l)

lengths-numbered : (p : Phase) (input : ℕ) (ss : List (List Entry))
    → map length (map (map (entry_after p)) (number_sections input ss)) ≡ map length ss
unfolding number_sections
lengths-numbered p input [] = refl
lengths-numbered p input (s ∷ ss) =
    ap₂ (λ x y. x ∷ y)
    (length-map (number_from (section_room * input) s) (entry_after p) ∙ length-number (section_room * input) s)
    (lengths-numbered p (input + 1) ss)

lengths-moved : (p : Phase) (ss : List (List Entry)) → map length (moved p ss) ≡ map length ss
unfolding moved placed_by numbered
lengths-moved p ss = lengths-numbered p 0 ss

------------------------------------------------------------------------
-- the bytes

module _ (table : List ℕ) (good : IsTable table) where
  abbrev s : Switch
  s = state_of table

  pub encode-start : table ≡ encode (state_placed table (places_in table))
  encode-start =
      sym (encode-decode table s good)
      ∙ (λ z.
      encode
      (record {
        ports = sym (decode-ports table s good) z;
        clock = sym (decode-clock table s good) z;
        sections = sym (own-sections table good) z;
      }))

  module _ (f : ℕ → ℕ) (v : ℕ) (low : 1 ≤ v) (high : v ≤ 3) (places : List ℕ) (size : length places ≡ entry_limit) (now : List ℕ)
      (whole : length now ≡ table_size) (is : now ≡ encode (state_placed table places)) where
    pub encode-placing : (n : ℕ) → ((a : ℕ) → a < n → f a < nowhere → InTable table (f a))
        → placing f v n now ≡ encode (state_placed table (written f v n places))
    unfolding written
    encode-placing zero entry = is
    encode-placing (suc n) entry = go (either (ltb (f n) nowhere)) (encode-placing n (λ a l. entry a (omega arith)))
      where
        go : (ltb (f n) nowhere ≡ true) ⊎ (ltb (f n) nowhere ≡ false)
            → placing f v n now ≡ encode (state_placed table (written f v n places))
            → set (placing f v n now) (place_at (f n)) v ≡ encode (state_placed table (set (written f v n places) (f n) v))
        go (inl t) rec =
            ap (λ bs. set bs (place_at (f n)) v) rec
            ∙ sym
            (encode-placed (table-readable table good) (written f v n places) (length-written f v n places ∙ size) (f n) v
            (entry n (omega arith) (ltb-true _ _ t)) low high)
        go (inr t) rec =
            let past : nowhere ≤ f n = ltb-false _ _ t in
            placed_past (placing f v n now) (f n) v ((placing-kept f v n now).size ∙ whole) past
            ∙ rec
            ∙ ap (λ l. encode (state_placed table l))
            (sym (set_out (written f v n places) (f n) v (omega (arith, length-written f v n places))))

  ------------------------------------------------------------------------
  -- the state

  lengths-placed : (places : List ℕ) → map length (sections_placed table places) ≡ map length s.sections
  unfolding sections_placed section_placed
  lengths-placed places =
      lengths (section_placed table places) (section_placed table (places_in table))
      (λ i. length-numbers (entry_placed table places) (section_room * i) (count_in table i)
      ∙ sym (length-numbers (entry_placed table (places_in table)) (section_room * i) (count_in table i)))
      (up_to (ports_in table))
      ∙ ap (map length) (own-sections table good)

  sections-after : (places : List ℕ)
      → in_table table places ≡ relocated (phase (ports_in table) (waiting_in table)) (waiting_in table)
      → sections_placed table places ≡ moved (phase s.ports (waiting s.sections)) s.sections
  sections-after places h =
      waiting-injective (sections_placed table places) (moved (phase s.ports (waiting s.sections)) s.sections)
      (lengths-placed places ∙ sym (lengths-moved (phase s.ports (waiting s.sections)) s.sections))
      (in_table-waiting table places ∙ h ∙ ap₂ (λ n l. relocated (phase n l) l) (decode-ports table s good) (waiting_in-state table good)
      ∙ sym (waiting-moved (phase s.ports (waiting s.sections)) s.sections))

  pub encode-end : (places : List ℕ)
      → in_table table places ≡ relocated (phase (ports_in table) (waiting_in table)) (waiting_in table)
      → encode (state_placed table places) ≡ encode (after_phase s)
  unfolding after_phase
  encode-end places h =
      λ z.
      encode
      (record {
        ports = decode-ports table s good z;
        clock = decode-clock table s good z;
        sections = sections-after places h z;
      })

  after-sound : sound (after_phase s) ≡ true
  unfolding after_phase
  after-sound =
      let w : SoundTable s = sound-e s (decode-sound table s good) in
      sound-i (after_phase s)
      (record {
        ports = w.ports;
        clock = w.clock;
        inputs = length_moved (phase s.ports (waiting s.sections)) s.sections ∙ w.inputs;
        sections = phase-sound s.ports s.clock s.sections w.sections;
      })

  pub after-state : state_of (encode (after_phase s)) ≡ after_phase s
  after-state = state_of-encode (after_phase s) after-sound

  pub after_table : IsTable (encode (after_phase s))
  after_table = decode-encode (after_phase s) after-sound ∙ ap some (sym after-state)
