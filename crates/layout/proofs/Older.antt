-- Laws of the call that writes an older table in the new layout: what it is refused for, and what it comes to.
use Prim.Native.Nat.{ℕ, ◌≤◌, ◌<◌}
use mathlib.Core.Path.{◌≡◌}
use mathlib.Core.List.{List}
use mathlib.Core.Option.{Option, none, some}
use borrow.Author.Tests.{lt-ltb, le-ltb}
use lib.ListN.{length}
use Rattle.cell.specs.declared.Refusal.TheVariants.{BrokenTable, ShortBuffer}
use Rattle.model.specs.Checks.{done, refused}
use Rattle.model.specs.Fair.{marked}
use Rattle.model.specs.State.{Switch}
use Rattle.layout.specs.Fair.{fair_size}
use Rattle.layout.specs.Older.{convert_call}

-- 2, then 10
module _ (older : List ℕ → Option Switch) (old buffer : List ℕ) where
  pub convert_call-broken : older old ≡ none → convert_call older old buffer ≡ refused BrokenTable 0
  unfolding convert_call
  convert_call-broken h = rw (h, convert_call)

  module _ (s : Switch) (h : older old ≡ some s) where
    pub convert_call-short : length buffer < fair_size → convert_call older old buffer ≡ refused ShortBuffer 0
    unfolding convert_call
    convert_call-short short = rw (h, lt-ltb (length buffer) fair_size short, convert_call)

    pub convert_call-done : fair_size ≤ length buffer → convert_call older old buffer ≡ done (marked 0 s)
    unfolding convert_call
    convert_call-done room = rw (h, le-ltb (length buffer) fair_size room, convert_call)
