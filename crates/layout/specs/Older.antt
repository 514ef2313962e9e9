-- The older layouts, and the calls that write them in the new one: no output is fair, and all else is kept. The older table
-- of the crossbar is the table of its cells alone, that of the output-queued switch is in Oq. A call refuses with 2 what is
-- not sound by its own rules, and last with 10.
use Rattle.std.specs.Prelude.{ℕ, true, false, List, ltb, length}
use Rattle.std.proofs.Math.Option.{Option, none, some}
use Rattle.cell.specs.declared.Refusal.TheVariants.{BrokenTable, ShortBuffer}
use Rattle.model.specs.State.{Switch}
use Rattle.model.specs.Checks.{Outcome, done, refused}
use Rattle.model.specs.Fair.{Fair, marked}
use Rattle.layout.specs.Fair.{fair_size}

-- by what an older layout's reader makes of the bytes
unfoldable pub convert_call : (List ℕ → Option Switch) → List ℕ → List ℕ → Outcome (Fair Switch)
convert_call older old buffer =
    elim (older old) [
      | none ↦ refused BrokenTable 0
      | some s ↦ elim (ltb (length buffer) fair_size) [ true ↦ refused ShortBuffer 0 | false ↦ done (marked 0 s) ]
    ]
