-- What check answers, and what is no older table.
use Prim.Native.Nat.{ℕ}
use mathlib.Core.Bool.{true, false}
use mathlib.Core.List.{List}
use mathlib.Core.Option.{Option, none, some}
use mathlib.Core.Path.{◌≡◌, refl, sym, ◌∙◌}
use Rattle.laws.proofs.Tests.{clash}
use Rattle.model.specs.Sound.{sound}
use Rattle.model.specs.State.{Switch}
use Rattle.layout.specs.Frame.{is_fair_table}
use Rattle.layout.specs.Engine.{crossbar, check_call}
use Rattle.layout.specs.Fair.{fair_number}
use Rattle.layout.specs.Table.{decode, is_table}
use Rattle.layout.proofs.Engine.{check_call-table, check_call-broken}
use Rattle.layout.proofs.Fair.{is-table-with, is_table_with-none}
use Rattle.layout.proofs.Table.{is_table-some}

pub check-passes : (table : List ℕ) → is_fair_table table ≡ true → 0 ≡ check_call crossbar table
check-passes table h = sym (check_call-table crossbar table _ (is-table-with fair_number sound table h))

pub check-refuses : (table : List ℕ) (result : ℕ) → is_fair_table table ≡ false → result ≡ 2
    → result ≡ check_call crossbar table
check-refuses table result h r = r ∙ sym (check_call-broken crossbar table (is_table_with-none fair_number sound table h))

pub older-none : (old : List ℕ) → is_table old ≡ false → decode old ≡ none
older-none old h = go (decode old) refl
  where
    go : (o : Option Switch) → decode old ≡ o → decode old ≡ none
    go none e = e
    go (some s) e = absurd (clash (is_table-some old s e) h)
