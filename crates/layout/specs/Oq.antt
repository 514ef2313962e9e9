-- The older table of the output-queued switch: a number of its own, then a table in which every cell waits in a buffer. Each
-- sound state has one.
use Rattle.std.specs.Prelude.{ℕ, true, false, ◌&&◌, List, ◌++◌, drop}
use Rattle.std.proofs.Math.Option.{Option, none, some}
use Rattle.model.specs.State.{Switch}
use Rattle.model.specs.Oq.{sound_oq}
use Rattle.layout.specs.Number.{bytes_of, same_bytes}
use Rattle.layout.specs.Table.{encode, state_of}

abbrev pub oq_number : ℕ
oq_number = 101

abbrev pub oq_number_size : ℕ
oq_number_size = 4

unfoldable pub encode_oq : Switch → List ℕ
encode_oq s = bytes_of oq_number_size oq_number ++ encode s

-- the state that bytes would stand for, whatever they are
unfoldable pub state_of_oq : List ℕ → Switch
state_of_oq bs = state_of (drop oq_number_size bs)

-- the state of a table; none if the bytes are no table of a sound state
unfoldable pub decode_oq : List ℕ → Option Switch
decode_oq bs =
    let s = state_of_oq bs in
    elim (sound_oq s && same_bytes (encode_oq s) bs) [ true ↦ some s | false ↦ none ]
