-- What the walk asks of the best crosspoint cells of the outputs, by what leads there.
--     leading-known    they and their keys are known
use Prim.Native.Nat.{ℕ}
use mathlib.Core.Bool.{true}
use mathlib.Core.Path.{◌≡◌}
use mathlib.Core.List.{List}
use Rattle.layout.specs.Code.{ports_in}
use Rattle.layout.proofs.Number.{bytes?}
use Rattle.slot_view.specs.CodeView.{places_in, Agrees}
use Rattle.slot_view.specs.CodeScan.{Readable}
use Rattle.slot_view.specs.CodeViewed.{Keyed}
use Rattle.slot_view.proofs.Keys.{key_below}
use Rattle.slot_view.proofs.Window.{agrees-holds}
use Rattle.slot_leaders.specs.CodeKeys.{LeadingTo}
use Rattle.slot_leaders.proofs.Keys.{leading-bests, leading-keys}
use Rattle.slot_choice.specs.CodeWalk.{BestKnown}

pub leading-known : (table : List ℕ) (r : Readable table) (bytes : bytes? table ≡ true) {ports : ℕ}
    {cross keys : List (List ℕ)} {best least : List ℕ} → ports ≡ ports_in table → Keyed table cross keys
    → LeadingTo ports cross keys 16 best least → Agrees table (places_in table) cross → BestKnown table keys best least
leading-known table r bytes {cross = cross} is keyed found a = record {
  known = record {
    readable = r;
    cross = cross;
    agrees = a;
    keyed = keyed;
    below = key_below table r bytes;
  };
  bests = (leading-bests table r bytes is keyed found).at _ (agrees-holds table (places_in table) r cross a);
  leasts = leading-keys table r bytes is keyed found;
}
