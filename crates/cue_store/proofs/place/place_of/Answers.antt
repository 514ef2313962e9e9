use Rattle.std.proofs.Common.{◌∙◌, sym, arith}
use Rattle.cue_store.proofs.PlaceLoops.{place-first, place_here, place-next, place_end}
use Rattle.cue_store.proofs.place.place_of.Goals as goal

pub loop-k-init : goal.loop-k-init
loop-k-init c = place-first _ _

pub returns-then-name_at-number : goal.returns-then-name_at-number
returns-then-name_at-number c =
    let l = c.loop-k in
    (sym (l.invariant ∙ place_here _ _ l.k (omega arith) (sym c.name_at.ensures ∙ c.if-name_at-number.true)), omega arith)

pub loop-k-preserved : goal.loop-k-preserved
loop-k-preserved c =
    let l = c.loop-k in
    l.invariant ∙ place-next _ _ l.k (omega arith) (λ e. c.if-name_at-number.false (c.name_at.ensures ∙ e))

pub returns : goal.returns
returns c = let l = c.loop-k in l.invariant ∙ place_end _ _ l.k (omega arith) (omega arith)
