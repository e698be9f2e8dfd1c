use Rattle.std.proofs.Common.{refl}
use Rattle.exchange.proofs.Transfers.{transferred}
use Rattle.exchange.proofs.one_job.transfer.Goals as goal

pub returns-clause-collision : goal.returns-clause-collision
returns-clause-collision g c = λ card accepted sent a s differ.
    transferred _ (c.in_ok-office.ensures.law refl) g.F.Family.meaning g.F.Family.COUNT g.met.F.Family.lawful
    card a.keyed accepted sent a.proper s.proper differ _ _ a.root s.root
    c.in_ok-pad.pad c.in_ok-number.number c.in_ok-number.sealed c.args.tag _ _ _
    c.in_ok-pad.ensures.answer c.in_ok-pad.ensures.book
    c.in_ok-number.ensures.answer c.in_ok-number.ensures.book
    c.in_ok-check.ensures.answer c.in_ok-check.ensures.book
