-- The bytes of the tally: slots run, slots refused, cells in, cells out, each 64 bits.
use Rattle.std.specs.Prelude.{ℕ, List, ◌++◌}
use Rattle.cell.specs.declared.Tally.{Tally}
use Rattle.layout.specs.Number.{bytes_of, number_at}

abbrev pub tally_size : ℕ
tally_size = 32

unfoldable pub tally_bytes : Tally → List ℕ
tally_bytes t =
    bytes_of 8 t.run ++ (bytes_of 8 t.refused ++ (bytes_of 8 t.arrived ++ bytes_of 8 t.departed))

unfoldable pub tally_of : List ℕ → Tally
tally_of bs =
    record {
      run = number_at 8 0 bs;
      refused = number_at 8 8 bs;
      arrived = number_at 8 16 bs;
      departed = number_at 8 24 bs;
    }
