-- What a check of a call comes to: nothing turns it back, or a fault does.
use Rattle.std.specs.Prelude.{ℕ, Result, Ok, Err}
use Rattle.cell.specs.declared.Fault.{Fault}
use Rattle.cell.specs.declared.Refusal.{Refusal}

abbrev pub Checked : Type 0
Checked = Result Unit Fault

-- nothing turns it back
abbrev pub no_fault : Checked
no_fault = Ok tt

-- this refusal does, at this place
abbrev pub fault_with : Refusal → ℕ → Checked
fault_with refusal place = Err (record { refusal = refusal; place = place })
