-- What a slot call of the host answers and leaves, from what the slot on its lent bytes does.
--     Answers                  what the call answers and leaves
--     slot-tally, slot-called  a tally of another length; the slot itself
use Prim.Native.Nat.{ℕ, ◌+◌, ◌*◌}
use native.Mathlib.Omega.{arith}
use mathlib.Core.List.{List}
use mathlib.Core.Path.{◌≡◌, refl, sym, ap, ◌∙◌}
use lib.ListN.{length}
use Rattle.cell.specs.Checked.{Checked}
use Rattle.cell.specs.declared.Refusal.TheVariants.{BrokenTable}
use Rattle.cell.specs.Refusal.{number}
use Rattle.layout.specs.Engine.{crossbar, lent_slot, slot_call, table_after, answer_after, CallLeaves}
use Rattle.layout.specs.Host.{fault_result, result_of}
use Rattle.layout.specs.TallyBytes.{tally_size}
use Rattle.layout.proofs.Engine.{slot_call-tally, tally_bytes_after-broken, tally_bytes_after-counts}
use Rattle.layout.proofs.Host.{result-fault}
use Rattle.fair_slot.specs.Code.{SlotLeaves}
use Rattle.fair_slot.specs.Code as Fair

module _ (table arrivals answer tally : List ℕ) where
  -- the result of a call, and the table, the answer and the tally that it leaves
  abbrev pub Answers : ℕ → List ℕ → List ℕ → List ℕ → Type 0
  Answers = CallLeaves crossbar (slot_call crossbar table arrivals answer tally) table arrivals answer tally

  -- 2: a tally of another length is kept
  pub slot-tally : (length tally ≡ tally_size → ⊥) → (result : ℕ) → result ≡ number BrokenTable
      → Answers result table answer tally
  unfolding result_of table_after answer_after
  slot-tally h result r =
      rw (slot_call-tally crossbar table arrivals answer tally h) (
        let k : result ≡ 2 + 256 * 0 = omega arith in k,
        (refl, (refl, sym (tally_bytes_after-broken crossbar arrivals tally _ h))),
      )

  module _ (size : length tally ≡ tally_size) where
    -- a call with a tally of the right length comes to the slot on lent bytes
    call-lent : slot_call crossbar table arrivals answer tally ≡ Fair.lent_slot table arrivals (length answer)
    unfolding slot_call lent_slot
    call-lent = rw size

    pub slot-called : (fault : Checked) (table' answer' tally' : List ℕ)
        → SlotLeaves (Fair.lent_slot table arrivals (length answer)) table arrivals answer tally
        fault table' answer' tally'
        → (result : ℕ) → result ≡ fault_result fault → Answers result table' answer' tally'
    slot-called fault table' answer' tally' left result r =
        rw call-lent (
          r ∙ ap fault_result left.0 ∙ result-fault _,
          (left.1.0, (left.1.1.0, left.1.1.1 ∙ sym (tally_bytes_after-counts crossbar arrivals tally _ size))),
        )
