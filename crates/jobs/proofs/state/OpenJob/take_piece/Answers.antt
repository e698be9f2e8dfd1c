use Rattle.std.proofs.Common.{refl}
use Rattle.jobs.proofs.Feeding.{taken, bytes_typed}
use Rattle.jobs.proofs.state.OpenJob.take_piece.Goals as goal

pub returns : goal.returns
returns g c =
    taken g.F.Family.meaning c.args.self.now _ c.args.piece.now (bytes_typed c.args.piece.now c.type_inv.piece) refl refl refl c.feed.ensures.waits c.feed.ensures.holds
