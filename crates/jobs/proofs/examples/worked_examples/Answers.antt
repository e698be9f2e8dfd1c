use Rattle.jobs.proofs.Worked.{worked}
use Rattle.jobs.proofs.examples.worked_examples.Goals as goal

pub returns : goal.returns
returns c = worked
