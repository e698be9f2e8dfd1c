use Rattle.std.proofs.Common.{◌≡◌, ◌++◌, length, sym, ap, ◌∙◌, subst, append_assoc, append-nil, take-append-drop, arith}
use Rattle.std.proofs.lemmas.List.{nil_from_length}
use Rattle.jobs.specs.Jobs.{Holds, fed, fresh}
use Rattle.jobs.proofs.Feeding.{fed_twice}
use Rattle.worked_marks.proofs.Results.{taken}
use Rattle.worked_marks.proofs.pieces.in_pieces.Goals as goal

pub loop-rest-preserved : goal.loop-rest-preserved
loop-rest-preserved g c =
    let done = c.loop-rest.invariant.0 in
    let front = c.split_at.result.0.now in
    let back = c.split_at.result.1.now in
    let job = fresh c.args.label in
    let cut : front ++ back ≡ c.loop-rest.rest.now = rw (c.split_at.ensures.front, c.split_at.ensures.back) (take-append-drop _ _) in
    let more = taken _ _ _ _ c.in_ok-ok.ensures.value c.feed.ensures.holds c.args.card.now _ c.loop-rest.invariant.2 in (
      done ++ front,
      c.loop-rest.invariant.1 ∙ ap (λ r. done ++ r) (sym cut) ∙ sym (append_assoc done front back),
      subst (λ j. Holds g.F.Family.meaning c.args.card.now j c.feed.new.self) (fed_twice job done front) more,
    )

pub returns : goal.returns
returns g c =
    let done = c.loop-rest.invariant.0 in
    let none : length c.loop-rest.rest.now ≡ 0 = grind arith in
    let all : done ≡ c.args.document.now = sym (c.loop-rest.invariant.1 ∙ ap (λ r. done ++ r) (nil_from_length _ none) ∙ append-nil done) in
    let whole = subst (λ doc. Holds g.F.Family.meaning c.args.card.now (fed (fresh c.args.label) doc) c.loop-rest.job) all c.loop-rest.invariant.2 in
    c.root_tag.ensures ∙ (c.close.ensures _ _ whole).root
