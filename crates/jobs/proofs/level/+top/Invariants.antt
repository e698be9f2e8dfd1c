use Rattle.std.proofs.Common.{length}
use Rattle.jobs.proofs.level.+top.Given as goal

abbrev pub decreases-top : goal.decreases-top
decreases-top g l = length l.levels.now
