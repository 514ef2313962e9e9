-- Each byte is looked at.
use Rattle.std.proofs.Common.{◌≡◌, ◌∙◌, ap, rules, tests, length, take, drop, eqb, arith, length-drop}
use Rattle.std.proofs.lemmas.Iterator.{YieldsList-from_slice}
use Rattle.std.proofs.lemmas.Iterator.Search.{all_from_yields_List}
use lib.Seq.{length-take-le}
use Rattle.layout.proofs.Runs.{zeros-all}
use Rattle.layout.proofs.run.is_clear.Goals as goal

pub returns : goal.returns
returns c =
    let a = c.args in
    let run = take a.count (drop a.at a.bytes.now) in
    let size : length run ≡ a.count = length-take-le a.count (drop a.at a.bytes.now) (simp length-drop (omega arith)) in
    let all : c.iter.result.rest.now ≡ run =
    c.iter.ensures.rest ∙ ap (λ n. take n (drop a.at a.bytes.now)) (omega arith) in
    all_from_yields_List (eqb 0) _ _ _ c.all.ensures.ran (YieldsList-from_slice run all) (λ x b q k. search (rules, tests))
    ∙ zeros-all a.count run size
