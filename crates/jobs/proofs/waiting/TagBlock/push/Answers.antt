use Rattle.std.proofs.Common.{◌+◌, ◌*◌, ◌<◌, List, ℕ, ◌++◌, length, take, ap, ◌∙◌, arith}
use Rattle.std.proofs.lemmas.List.{length-take-le}
use Rattle.jobs.specs.Reading.{tag_words}
use Rattle.jobs.proofs.Cuts.{take_two}
use Rattle.jobs.proofs.waiting.TagBlock.push.Goals as goal

pub returns : goal.returns
returns c =
    let ws = c.self.inside.words in
    let n = c.self.inside.tags in
    let few = c.self.invariant in
    let front = length-take-le (2 * n) ws (omega (arith, few, c.self.told)) in
    let now = ap length c.self.view_is in
    let room : 2 * n + 1 < length ws = omega (arith, front, now, c.self.told, c.requires) in
    take_two ws n c.split_tag-low.result.0 c.split_tag-low.result.1 room
    ∙ ap (λ (xs : List ℕ). take (2 * n) ws ++ xs) c.split_tag-low.ensures
    ∙ ap (λ (xs : List ℕ). xs ++ tag_words c.args.tag) c.self.view_is
