use Rattle.exchange.proofs.Sampling.{run_exists}
use Rattle.exchange.proofs.laws.run_exists.Goals as goal

pub returns : goal.returns
returns c = run_exists
