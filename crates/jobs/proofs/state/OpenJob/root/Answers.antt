use Rattle.std.proofs.Common.{◌≡◌, length, take, drop, sym, ap, ◌∙◌, arith}
use Rattle.std.proofs.lemmas.List.{length-drop, take_all}
use Rattle.families.specs.Meanings.{Sized}
use Rattle.families.proofs.Widths.{tag_given}
use Rattle.jobs.proofs.Feeding.{rooted}
use Rattle.jobs.proofs.state.OpenJob.root.Goals as goal

pub returns : goal.returns
returns g c = λ card job h.
    let m = g.F.Family.meaning in
    let o = c.args.self.now in
    let ks = take 4 (drop 160 o.card) in
    let ws = c.root_words-words.result in
    let words : length o.card ≡ 164 = ap length h.on ∙ h.keyed.long in
    let left = length-drop 160 o.card in
    let all : ks ≡ drop 160 o.card = take_all 4 (drop 160 o.card) (omega (arith, left, words)) in
    let long = ap length all in
    let four = ap length c.root_words-words.ensures in
    let sized : Sized ks ws = record { same = omega (arith, long, left, words, four); even = omega arith; short = omega arith } in
    let tag = tag_given m ks ws c.unwrap.result sized (sym c.unwrap.ensures ∙ c.tag.ensures) in
    rooted m o c.close-top.result c.unwrap.result (tag ∙ ap (λ k. m.tag k ws) all ∙ ap (m.tag (drop 160 o.card)) c.root_words-words.ensures) c.close-top.ensures card job h
