use Rattle.jobs.specs.Jobs.{fresh}
use Rattle.loftmark.proofs.input.mark_input.Goals as goal

pub returns : goal.returns
returns g c =
    let opened = c.in_ok-job.ensures in
    let held = c.in_ok-feed_input.ensures c.args.card.now (fresh c.args.label) opened in
    (held.0, c.close.ensures _ _ held.1)
