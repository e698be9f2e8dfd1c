use Rattle.std.proofs.Common.{sym}
use Rattle.line.specs.Commands.{order_of}
use Rattle.line.proofs.Serving.{serves_on, serves_stop, serves_end}
use Rattle.line.proofs.serve.serve.Goals as goal

pub loop-place-preserved : goal.loop-place-preserved
loop-place-preserved g c =
    let on = c.loop-place.invariant in
    let step = c.in-Some.ensures.steps in
    serves_on g.F.Family.meaning g.S.PadSource.pads on (order_of c.in-Ok.command) step (sym (rw c.in-Ok.is at step.read)) (c.obey.ensures on.job on.stands) c.respond.ensures

pub returns-in-Err : goal.returns-in-Err
returns-in-Err g c =
    let step = c.in-Some.ensures.steps in
    serves_stop c.loop-place.invariant c.in-Err.fault step (sym (rw c.in-Err.is at step.read)) c.respond-in-Err.ensures

pub returns : goal.returns
returns g c =
    let on = c.loop-place.invariant in
    serves_end on {now = c.respond-2.new.self} c.finish.result c.in-None.ensures.steps.0 (c.finish.ensures on.job on.stands) (rw c.end-end.ensures at c.respond-2.ensures)
