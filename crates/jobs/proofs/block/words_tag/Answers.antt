use Rattle.std.proofs.Common.{length, take, sym, ◌∙◌, arith}
use Rattle.std.proofs.lemmas.List.{length-take-le}
use Rattle.families.specs.Meanings.{Sized}
use Rattle.families.proofs.Widths.{tag_given}
use Rattle.jobs.proofs.Levels.{tag_of_front}
use Rattle.jobs.proofs.block.words_tag.Goals as goal

pub returns : goal.returns
returns g c =
    let ks = c.args.keys.now in
    let ws = c.args.words.now in
    let l = length-take-le (length ws) ks (omega arith) in
    let sized : Sized (take (length ws) ks) ws = record { same = omega arith; even = omega arith; short = omega arith } in
    tag_given g.F.Family.meaning (take (length ws) ks) ws c.unwrap.result sized (sym c.unwrap.ensures ∙ c.tag.ensures) ∙ tag_of_front g.F.Family.meaning ks ws (omega arith)
