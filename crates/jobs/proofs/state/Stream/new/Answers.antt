use Rattle.std.proofs.Common.{refl}
use Rattle.jobs.proofs.Streams.{empty_stream}
use Rattle.jobs.proofs.state.Stream.new.Goals as goal

pub returns-clause-holds : goal.returns-clause-holds
returns-clause-holds g c = λ card.
    empty_stream g.F.Family.meaning card _ _ _ _ _ c.new.ensures refl c.new-2.ensures c.new-3.ensures c.new-4.ensures c.new-5.ensures
