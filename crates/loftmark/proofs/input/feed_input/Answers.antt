use Rattle.std.proofs.Common.{◌++◌, subst, arith}
use Rattle.jobs.specs.Jobs.{Holds}
use Rattle.jobs.proofs.Feeding.{fed_twice}
use Rattle.loftmark.proofs.input.feed_input.Goals as goal

pub loop-preserved : goal.loop-preserved
loop-preserved g c = (
  omega arith,
  (λ card j h.
      let before = c.loop.invariant.1 card j h in
      let after = c.in_ok-feed.ensures.holds card _ before.1 in
      (before.0 ++ _, subst (λ job. Holds g.F.Family.meaning card job c.feed.new.self) (fed_twice j before.0 _) after)),
)
