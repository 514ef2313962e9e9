use Rattle.std.proofs.Common.{◌*◌, ◌∙◌, ap, arith, rules}
use lib.ListN.{length-set}
use Rattle.trace.specs.Flat.{arrival_at}
use Rattle.layout.proofs.Parts.{part-behind}
use Rattle.player_lines.proofs.Records.{records-none, records-next}
use Rattle.player_lines.proofs.records_of.Goals as goal

pub loop-n-init : goal.loop-n-init
loop-n-init c = (search rules, records-none c.args.numbers.now)

pub loop-n-preserved : goal.loop-n-preserved
loop-n-preserved c =
    let l = c.loop-n in (
      length-set l.records l.n _ ∙ l.invariant.0,
      records-next l.records c.args.numbers.now l.n _ (omega (arith, l.invariant.0, c.requires.1)) l.invariant.1
          (c.arrival_at.ensures ∙ ap arrival_at (part-behind c.args.numbers.now (5 * l.n))),
    )
