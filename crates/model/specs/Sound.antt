-- Scope 5.1: a sound table.
use Rattle.std.specs.Prelude.{ℕ, ◌+◌, Bool, true, not, ◌&&◌, ◌||◌, List, [], ◌∷◌, ltb, leb, eqb, length}
use Rattle.laws.specs.Lists.{keep, none?, all?, pairwise}
use Rattle.cell.specs.Flow.{same_flow}
use Rattle.cell.specs.Limits.{ports_in_range, flow_in_range, fits32, section_room}
use Rattle.cell.specs.Order.{over}
use Rattle.model.specs.State.{Entry, Switch, is_listed, is_crossed}

-- each cell's fields are in range, its slot is below the clock, and it stands in the section of its input
unfoldable pub sound_entry : ℕ → ℕ → ℕ → Entry → Bool
sound_entry ports clock input e =
    eqb e.cell.input input
    && (ltb e.cell.output ports
    && (flow_in_range e.cell.flow
    && (fits32 e.cell.rank
    && (fits32 e.cell.tag
    && ltb e.cell.slot clock))))

-- in a list the cells of a flow stand together in output priority: the next one is of the same flow and comes after,
-- or no later one is of the same flow
unfoldable pub together : ℕ → List Entry → Bool
together ports [] = true
together ports (e ∷ []) = true
together ports (e ∷ f ∷ es) =
    ((same_flow e.cell f.cell && over ports e.cell f.cell)
    || none? (λ g. same_flow e.cell g.cell) (f ∷ es))
    && together ports (f ∷ es)

-- no two cells share input and slot
unfoldable pub other_slot : Entry → Entry → Bool
other_slot e f = not (eqb e.cell.slot f.cell.slot)

-- no crosspoint holds two cells
unfoldable pub other_crosspoint : Entry → Entry → Bool
other_crosspoint e f = not (is_crossed e.place && (is_crossed f.place && eqb e.cell.output f.cell.output))

-- no input has over 64 cells
unfoldable pub sound_section : ℕ → ℕ → ℕ → List Entry → Bool
sound_section ports clock input es =
    leb (length es) section_room
    && (all? (sound_entry ports clock input) es
    && (together ports (keep (λ e. is_listed e.place) es)
    && (pairwise other_slot es
    && pairwise other_crosspoint es)))

unfoldable pub sound_sections : ℕ → ℕ → ℕ → List (List Entry) → Bool
sound_sections ports clock input [] = true
sound_sections ports clock input (es ∷ sections) =
    sound_section ports clock input es && sound_sections ports clock (input + 1) sections

-- N is in range, there is a section for each input, and each is sound
unfoldable pub sound : Switch → Bool
sound s =
    ports_in_range s.ports
    && (fits32 s.clock
    && (eqb (length s.sections) s.ports
    && sound_sections s.ports s.clock 0 s.sections))
