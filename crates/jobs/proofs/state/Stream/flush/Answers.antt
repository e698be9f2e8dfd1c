use Rattle.std.proofs.Common.{length, take, sym, refl, ap, ◌∙◌, arith}
use Rattle.std.proofs.lemmas.Slice.{between_to_end}
use Rattle.jobs.proofs.Streams.{flushed}
use Rattle.jobs.proofs.state.Stream.flush.Goals as goal

pub returns-clause-holds : goal.returns-clause-holds
returns-clause-holds g c = λ doc h.
    flushed g.F.Family.meaning c.args.self.now _ c.full.result.now c.first_tag-tag.result c.args.card.now (take 32 c.args.card.now) c.clear.ensures (ap length c.full.ensures ∙ c.requires)
    refl c.first_tag-tag.ensures (rw (between_to_end c.args.card.now 32 164 (omega (arith, c.told-card))) at c.push_all.ensures) doc h (sym c.full.ensures)
