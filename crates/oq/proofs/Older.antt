-- An older table of the output-queued switch.
--     older-none                 what is none
--     older-core, older-state    the cells of one, behind its number
use Prim.Native.Nat.{ℕ, ◌-◌}
use mathlib.Core.Bool.{true, false}
use mathlib.Core.List.{List}
use mathlib.Core.Option.{Option, none, some}
use mathlib.Core.Path.{◌≡◌, refl, ap, ◌∙◌}
use lib.ListN.{length, take, drop}
use Rattle.laws.proofs.Tests.{clash}
use Rattle.model.specs.State.{Switch}
use Rattle.layout.specs.CodeOq.{is_oq_table}
use Rattle.layout.specs.Oq.{oq_number_size, state_of_oq, decode_oq}
use Rattle.layout.specs.Table.{state_of, is_table}
use Rattle.layout.proofs.Oq.{is_oq_table-some, is-oq-table, oq-inner}
use Rattle.layout.proofs.Parts.{part-behind}
use Rattle.layout.proofs.Table.{is_table-some}

pub older-none : (bs : List ℕ) → is_oq_table bs ≡ false → decode_oq bs ≡ none
older-none bs h = go (decode_oq bs) refl
  where
    go : (o : Option Switch) → decode_oq bs ≡ o → decode_oq bs ≡ none
    go none e = e
    go (some s) e = absurd (clash (is_oq_table-some bs s e) h)

module _ (bs : List ℕ) (h : is_oq_table bs ≡ true) where
  pub older-core : is_table (take (length bs - oq_number_size) (drop oq_number_size bs)) ≡ true
  older-core =
      ap is_table (part-behind bs oq_number_size) ∙ is_table-some _ _ (oq-inner bs (state_of_oq bs) (is-oq-table bs h))

  pub older-state : state_of (take (length bs - oq_number_size) (drop oq_number_size bs)) ≡ state_of_oq bs
  unfolding state_of_oq
  older-state = ap state_of (part-behind bs oq_number_size)
