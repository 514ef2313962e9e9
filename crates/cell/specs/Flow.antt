-- Scope 2.2: a flow means the triple input, output, flow number.
use Rattle.std.specs.Prelude.{Bool, ◌&&◌, ◌==◌}
use Rattle.cell.specs.declared.Cell.{Cell}

unfoldable pub same_flow : Cell → Cell → Bool
same_flow c d = c.input == d.input && (c.output == d.output && c.flow == d.flow)
