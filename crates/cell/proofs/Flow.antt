-- The laws of the flow's identity. Nothing else looks inside `same_flow`:
--     flow-by-number            where input and output are equal, the flow number decides
--     flow-sym, flow-trans      an equivalence
--     flow-input, flow-output   cells of a flow have one input and one output
use Rattle.std.proofs.Common.{◌≡◌, Bool, true, false, ◌&&◌, eqb, sym, refl, ◌∙◌, eq-eqb, eqb-true}
use Rattle.cell.specs.declared.Cell.{Cell}
use Rattle.cell.specs.Flow.{same_flow}

pub flow-by-number : (c d : Cell) → c.input ≡ d.input → c.output ≡ d.output → same_flow c d ≡ eqb c.flow d.flow
unfolding same_flow
flow-by-number c d h k = simp (eq-eqb _ _ h, eq-eqb _ _ k)

-- what it is to be of one flow
pub record Flow (c d : Cell) : Type 0 where
  pub input : c.input ≡ d.input
  pub output : c.output ≡ d.output
  pub flow : c.flow ≡ d.flow

pub flow-i : {c d : Cell} → Flow c d → same_flow c d ≡ true
flow-i {c} {d} f = flow-by-number c d f.input f.output ∙ eq-eqb _ _ f.flow

pub flow-e : (c d : Cell) → same_flow c d ≡ true → Flow c d
unfolding same_flow
flow-e c d h = go _ refl _ refl _ refl h
  where
    go : (i : Bool) → eqb c.input d.input ≡ i → (o : Bool) → eqb c.output d.output ≡ o
        → (f : Bool) → eqb c.flow d.flow ≡ f → (i && (o && f)) ≡ true → Flow c d
    go true i true o true f e = record { input = eqb-true _ _ i; output = eqb-true _ _ o; flow = eqb-true _ _ f }
    go true i true o false f e = absurd (mathlib.Core.Bool.false≢true e)
    go true i false o f g e = absurd (mathlib.Core.Bool.false≢true e)
    go false i o p f g e = absurd (mathlib.Core.Bool.false≢true e)

pub flow-sym : (c d : Cell) → same_flow c d ≡ true → same_flow d c ≡ true
flow-sym c d h =
    let f = flow-e c d h in
    flow-i (record { input = sym f.input; output = sym f.output; flow = sym f.flow })

pub flow-trans : (b c d : Cell) → same_flow b c ≡ true → same_flow c d ≡ true → same_flow b d ≡ true
flow-trans b c d h k =
    let f = flow-e b c h in
    let g = flow-e c d k in
    flow-i
    (record { input = f.input ∙ g.input; output = f.output ∙ g.output; flow = f.flow ∙ g.flow })

pub flow-input : (c d : Cell) → same_flow c d ≡ true → c.input ≡ d.input
flow-input c d h = (flow-e c d h).input

pub flow-output : (c d : Cell) → same_flow c d ≡ true → c.output ≡ d.output
flow-output c d h = (flow-e c d h).output
