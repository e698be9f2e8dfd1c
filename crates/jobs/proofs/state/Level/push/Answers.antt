use Rattle.jobs.proofs.Levels.{pushed}
use Rattle.jobs.proofs.state.Level.push.Goals as goal

pub returns : goal.returns
returns g c = λ ks.
    let took = c.take_full-up.ensures in
    pushed g.F.Family.meaning ks c.args.keys.now c.args.self.now c.take_full-up.new.self _ c.args.tag c.take_full-up.result took.room took.tag took.full took.empty took.kept c.push.ensures
