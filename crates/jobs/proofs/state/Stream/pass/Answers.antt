use Rattle.std.proofs.Common.{take, refl, arith}
use Rattle.std.proofs.lemmas.Slice.{between_to_end}
use Rattle.jobs.proofs.Streams.{passed}
use Rattle.jobs.proofs.state.Stream.pass.Goals as goal

pub returns-clause-holds : goal.returns-clause-holds
returns-clause-holds g c = λ doc h.
    passed g.F.Family.meaning c.args.self.now _ c.args.block.now c.first_tag-tag.result c.args.card.now (take 32 c.args.card.now) c.requires c.told-block refl c.first_tag-tag.ensures (rw (between_to_end c.args.card.now 32 164 (omega (arith, c.told-card))) at c.push_all.ensures) doc h c.requires
