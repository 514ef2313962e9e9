-- How many crosspoints of each output hold a cell.
--     filled_at-more, filled_at-few       one input more
--     counted-occupancies               where the crosspoints hold the cells of a phase, that is its occupancies
use Prim.Native.Nat.{ℕ, ◌+◌, ◌-◌, ◌/◌, ◌≤◌, ◌<◌}
use native.Mathlib.Omega.{arith}
use native.Mathlib.Numerals.{add-one}
use mathlib.Core.Bool.{Bool, true, false, cond}
use mathlib.Core.Path.{◌≡◌, refl, sym, ◌∙◌, ap, ap₂}
use mathlib.Core.Logic.{◌⊎◌, inl, inr}
use mathlib.Core.List.{List, [], ◌∷◌}
use borrow.Author.Tests.{eqb-true, eq-eqb, ltb-true, ltb-false, lt-ltb}
use lib.Dec.{ltb, eqb}
use lib.ListN.{length, get_or, get_or-eq_default}
use mir.Val.{bool_byte}
use Rattle.laws.specs.Lists.{some?, count, numbers_from, up_to}
use Rattle.laws.proofs.Tests.{either, clash, by-fail, and_i, and_l, and_r}
use Rattle.laws.proofs.Lists.{some?-i, some?-e, none?-i}
use Rattle.laws.proofs.Count.{count-append, count-ext, count-le-length, count-zero}
use Rattle.laws.proofs.Numbers.{length-numbers_from, mem-numbers_from, numbers_from-add, numbers_from-at, numbers_from-more}
use Rattle.cell.specs.Limits.{port_limit, section_room}
use Rattle.layout_table.specs.CodeEntries.{nowhere}
use Rattle.layout.specs.Code.{ports_in}
use Rattle.model.specs.Phase.{Waiting, Phase, at_crosspoint, occupancy, output_choice}
use Rattle.model.specs.Crossbar.{occupancies}
use Rattle.model.proofs.OutputChoice.{length-occupancies}
use Rattle.layout.specs.Entry.{entry_at}
use Rattle.layout.proofs.Records.{entry_at-input}
use Rattle.slot_view.specs.CodeView.{crosspoint_at, InTable}
use Rattle.slot_view.specs.CodeScan.{Readable, Holds}
use Rattle.slot_view.proofs.Window.{in_table-below}
use Rattle.slot_moves.specs.CodeMoves.{filled_at, Counted}

-- what a crosspoint counts for
pub counts-is : (filled : Bool) → bool_byte filled ≡ cond filled 1 0
counts-is true = refl
counts-is false = refl

pub counts-few : (filled : Bool) → bool_byte filled ≤ 1
counts-few true = omega arith
counts-few false = omega arith

module _ (cross : List (List ℕ)) where
  pub filled_at-more : (n output : ℕ)
      → filled_at cross (n + 1) output ≡ filled_at cross n output + cond (ltb (crosspoint_at cross n output) nowhere) 1 0
  unfolding filled_at up_to count
  filled_at-more n output =
      let same : 0 + n ≡ n = omega arith in
      let full : ℕ → Bool = λ input. ltb (crosspoint_at cross input output) nowhere in
      ap (λ k. count full (up_to k)) (add-one n)
      ∙ ap (count full) (numbers_from-more 0 n)
      ∙ count-append full (numbers_from 0 n) ((0 + n) ∷ [])
      ∙ ap (λ k. count full (numbers_from 0 n) + count full (k ∷ [])) same
      ∙ omega arith

  pub filled_at-few : (n output : ℕ) → filled_at cross n output ≤ n
  unfolding filled_at up_to
  filled_at-few n output =
      let all : length (up_to n) ≡ n = length-numbers_from 0 n in
      omega (arith, count-le-length (λ input. ltb (crosspoint_at cross input output) nowhere) (up_to n))

------------------------------------------------------------------------
-- the crosspoints that hold some cells

at-input : (input output : ℕ) (x : Waiting) → at_crosspoint input output x ≡ true → x.cell.input ≡ input
unfolding at_crosspoint
at-input input output x h = eqb-true _ _ (and_l (eqb x.cell.input input) (eqb x.cell.output output) h)

at-output : (input output : ℕ) (x : Waiting) → at_crosspoint input output x ≡ true → x.cell.output ≡ output
unfolding at_crosspoint
at-output input output x h = eqb-true _ _ (and_r (eqb x.cell.input input) (eqb x.cell.output output) h)

module _ {table : List ℕ} {cross : List (List ℕ)} {filled : List Waiting} (r : Readable table) (h : Holds table cross filled) where
  filled-same : (input output : ℕ) → input < port_limit → output < port_limit
      → ltb (crosspoint_at cross input output) nowhere ≡ some? (at_crosspoint input output) filled
  unfolding at_crosspoint
  filled-same input output l m = go (either (ltb k nowhere))
    where
      k : ℕ
      k = crosspoint_at cross input output

      go : (ltb k nowhere ≡ true) ⊎ (ltb k nowhere ≡ false) → ltb k nowhere ≡ some? (at_crosspoint input output) filled
      go (inl t) =
          let w = h.real input output l m (ltb-true k nowhere t) in
          t ∙ sym (some?-i (at_crosspoint input output) w.1 (and_i _ _ (eq-eqb _ _ w.3) (eq-eqb _ _ w.4)))
      go (inr f) =
          f
          ∙ sym (by-fail (some? (at_crosspoint input output) filled) (λ s.
          let w = some?-e (at_crosspoint input output) filled s in
          let row = at-input input output w.0 w.2 in
          let column = at-output input output w.0 w.2 in
          let here : k ≡ w.0.at = ap₂ (crosspoint_at cross) (sym row) (sym column) ∙ h.filled w.0 w.1 in
          clash (lt-ltb k nowhere (omega (arith, in_table-below r (h.inside w.0 w.1)))) f))

  -- they are of the switch's ports
  record Within (input output : ℕ) : Type 0 where
    input-small : input < ports_in table
    output-small : output < ports_in table

  within : (input output : ℕ) → some? (at_crosspoint input output) filled ≡ true → Within input output
  within input output s =
      let w = some?-e (at_crosspoint input output) filled s in
      let e = w.0 in
      let row : e.cell.input ≡ input = at-input input output e w.2 in
      let column : e.cell.output ≡ output = at-output input output e w.2 in
      let inside : InTable table e.at = h.inside e w.1 in
      let own : e.cell ≡ (entry_at table e.at).cell = h.cell e w.1 in
      let from : e.cell.input ≡ e.at / section_room = ap (λ c. c.input) own ∙ entry_at-input table e.at in
      let to : e.cell.output ≡ (entry_at table e.at).cell.output = ap (λ c. c.output) own in
      record { input-small = omega (arith, inside.input); output-small = omega (arith, r.outputs e.at inside) }

  at-no-input : (input output : ℕ) → ports_in table ≤ input → some? (at_crosspoint input output) filled ≡ false
  at-no-input input output l =
      by-fail (some? (at_crosspoint input output) filled) (λ s. omega (arith, (within input output s).input-small))

  at-no-output : (input output : ℕ) → ports_in table ≤ output → some? (at_crosspoint input output) filled ≡ false
  at-no-output input output l =
      by-fail (some? (at_crosspoint input output) filled) (λ s. omega (arith, (within input output s).output-small))

  -- counted over all sixteen inputs, they are those of the definition
  filled_at-held : (output : ℕ) → output < port_limit → filled_at cross port_limit output ≡ occupancy (ports_in table) filled output
  unfolding filled_at occupancy up_to
  filled_at-held output l =
      let ports = ports_in table in
      let held : ℕ → Bool = λ input. some? (at_crosspoint input output) filled in
      let more : ℕ = port_limit - ports in
      let split : port_limit ≡ ports + more = omega (arith, r.ports) in
      let none : count held (numbers_from (0 + ports) more) ≡ 0 =
      count-zero held (numbers_from (0 + ports) more)
      (none?-i held (numbers_from (0 + ports) more) (λ input m. at-no-input input output (omega (arith, (mem-numbers_from (0 + ports) more m).0)))) in
      count-ext (λ input. ltb (crosspoint_at cross input output) nowhere) held (up_to port_limit)
      (λ input m. filled-same input output (omega (arith, (mem-numbers_from 0 port_limit m).1)) l)
      ∙ ap (λ n. count held (numbers_from 0 n)) split
      ∙ ap (count held) (numbers_from-add 0 ports more)
      ∙ count-append held (numbers_from 0 ports) (numbers_from (0 + ports) more)
      ∙ omega (arith, none)

  -- an output that the switch does not have has none
  occupancy-past : (output : ℕ) → ports_in table ≤ output → occupancy (ports_in table) filled output ≡ 0
  unfolding occupancy
  occupancy-past output l =
      count-zero (λ input. some? (at_crosspoint input output) filled) (up_to (ports_in table))
      (none?-i (λ input. some? (at_crosspoint input output) filled) (up_to (ports_in table)) (λ input m. at-no-output input output l))

  pub counted-occupancies : (p : Phase) (held : List ℕ) → p.filled ≡ filled → Counted cross port_limit held
      → (output : ℕ) → output < port_limit → get_or held output 0 ≡ get_or (occupancies (ports_in table) p) output 0
  unfolding occupancies output_choice up_to
  counted-occupancies p held same c output l =
      c.at output l ∙ filled_at-held output l ∙ go (either (ltb output ports))
    where
      ports : ℕ
      ports = ports_in table

      go : (ltb output ports ≡ true) ⊎ (ltb output ports ≡ false)
          → occupancy ports filled output ≡ get_or (occupancies ports p) output 0
      go (inl t) =
          let here : 0 + output ≡ output = omega arith in
          ap₂ (occupancy ports) (sym same) (sym here)
          ∙ sym (numbers_from-at (occupancy ports p.filled) 0 ports output 0 (ltb-true output ports t))
      go (inr f) =
          let past : ports ≤ output = ltb-false output ports f in
          occupancy-past output past
          ∙ sym (get_or-eq_default (occupancies ports p) 0 (omega (arith, length-occupancies ports p)))
