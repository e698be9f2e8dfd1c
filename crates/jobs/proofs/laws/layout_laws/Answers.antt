use Rattle.jobs.proofs.Cuts.{cut_well}
use Rattle.jobs.proofs.Apart.{one_top, jobs_apart}
use Rattle.jobs.proofs.laws.layout_laws.Goals as goal

pub returns : goal.returns
returns g c = record { blocks = cut_well; top = one_top g.F.Family.meaning; apart = jobs_apart g.F.Family.meaning }
