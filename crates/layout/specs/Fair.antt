-- The table of a switch with its memory: a number of its own, then the table of its cells, then the memory. The crossbar's
-- and the output-queued switch's differ in the number. Each sound state has one table, and neither switch takes the
-- other's, nor one of an older layout.
use Rattle.std.specs.Prelude.{ℕ, ◌+◌, Bool, true, false, ◌&&◌, List, ◌++◌, take, drop}
use Rattle.std.proofs.Math.Option.{Option, none, some}
use Rattle.model.specs.State.{Switch}
use Rattle.model.specs.Sound.{sound}
use Rattle.model.specs.Oq.{sound_oq}
use Rattle.model.specs.Fair.{Fair, sound_memory}
use Rattle.layout.specs.Number.{bytes_of, same_bytes}
use Rattle.layout.specs.Table.{encode, state_of, table_size}
use Rattle.layout.specs.Memory.{word_size, memory_size, memory_bytes, memory_of}

abbrev pub fair_number : ℕ
fair_number = 2

abbrev pub fair_number_oq : ℕ
fair_number_oq = 102

-- where the table of the cells stands, and the memory
abbrev pub core_start : ℕ
core_start = word_size

abbrev pub memory_start : ℕ
memory_start = core_start + table_size

abbrev pub fair_size : ℕ
fair_size = memory_start + memory_size

unfoldable pub fair_bytes : ℕ → Fair Switch → List ℕ
fair_bytes number x = bytes_of word_size number ++ (encode x.core ++ memory_bytes x.memory)

abbrev pub core_in : List ℕ → List ℕ
core_in bs = take table_size (drop core_start bs)

abbrev pub memory_in : List ℕ → List ℕ
memory_in bs = drop memory_start bs

-- the state that bytes would stand for, whatever they are
unfoldable pub fair_of : List ℕ → Fair Switch
fair_of bs = record { core = state_of (core_in bs); memory = memory_of (memory_in bs) }

-- the state of a table with this number; none if the bytes are no table of a sound state
unfoldable pub decode_with : ℕ → (Switch → Bool) → List ℕ → Option (Fair Switch)
decode_with number sound_core bs =
    let x = fair_of bs in
    elim (sound_core x.core && (sound_memory x.core.ports x.memory && same_bytes (fair_bytes number x) bs)) [
      | true ↦ some x
      | false ↦ none
    ]

abbrev pub decode_fair : List ℕ → Option (Fair Switch)
decode_fair = decode_with fair_number sound

abbrev pub decode_fair_oq : List ℕ → Option (Fair Switch)
decode_fair_oq = decode_with fair_number_oq sound_oq
