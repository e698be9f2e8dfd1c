use Rattle.std.proofs.Common.{length}
use Rattle.jobs.proofs.level.+push_all.Given as goal

abbrev pub decreases-push_all : goal.decreases-push_all
decreases-push_all g l = length l.levels.now
