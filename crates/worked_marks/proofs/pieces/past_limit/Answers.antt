use Rattle.std.proofs.Common.{sym, ◌∙◌, subst}
use Rattle.jobs.specs.Jobs.{Holds, fed, fresh}
use Rattle.worked_marks.proofs.Results.{taken, refused}
use Rattle.worked_marks.proofs.pieces.past_limit.Goals as goal

pub returns : goal.returns
returns g c =
    let m = g.F.Family.meaning in
    let card = c.args.card.now in
    let opened = taken _ _ _ _ c.in_ok-job.ensures.value c.open.ensures in
    let all = taken _ _ _ _ c.in_ok-ok.ensures.value c.feed.ensures.holds card (fresh c.args.label) opened in
    let same = refused _ _ _ c.if-is_ok.ensures.value c.feed-2.ensures.holds in
    let kept = subst (Holds m card (fed (fresh c.args.label) c.args.document.now)) (sym same) all in
    c.root_tag.ensures ∙ (c.close.ensures _ _ kept).root
