use Rattle.std.proofs.lemmas.List.{drop-replicate}
use Rattle.jobs.proofs.block.fill_up.Goals as goal

pub returns : goal.returns
returns c = rw (c.copy_from_slice.ensures.after, drop-replicate)
