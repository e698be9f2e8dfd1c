use Rattle.std.proofs.Common.{ap, ◌∙◌, arith}
use Rattle.std.proofs.lemmas.Slice.{between_to_end}
use Rattle.jobs.specs.Holding.{bytes_tag}
use Rattle.jobs.proofs.Streams.{closed}
use Rattle.jobs.proofs.state.Stream.close.Goals as goal

pub returns : goal.returns
returns g c =
    closed g.F.Family.meaning c.args.self.now c.last_tag-tag.result c.top.result c.args.card.now c.stretch.result.now c.stretch.ensures
    (c.last_tag-tag.ensures ∙ ap (bytes_tag g.F.Family.meaning c.stretch.result.now) c.as_slice.ensures.value) (omega (arith, c.top.auto.levels))
    (rw (between_to_end c.args.card.now 32 164 (omega (arith, c.told-card))) at c.top.ensures)
