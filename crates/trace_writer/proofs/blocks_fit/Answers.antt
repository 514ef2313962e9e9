use Rattle.std.proofs.Common.{rules, ◌≤◌, ◌<◌}
use Rattle.std.proofs.lemmas.Iterator.{cases_from_all, YieldsList-from_slice}
use borrow.Author.Tests.{tests}
use Rattle.trace.specs.Contents.{block_limit}
use Rattle.trace_writer.proofs.Flat.{all_few-found}
use Rattle.trace_writer.proofs.blocks_fit.Goals as goal

pub returns : goal.returns
returns c =
    all_few-found _ _
    (cases_from_all _ _ _ (λ n. n ≤ block_limit) (λ n. block_limit < n) c.all.ensures.ran
    (YieldsList-from_slice c.args.counts.now cc)
    (λ x q k. search (rules, tests))
    (λ x q k. search (rules, tests)))
