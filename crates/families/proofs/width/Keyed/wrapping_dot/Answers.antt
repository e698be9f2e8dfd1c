use Rattle.std.proofs.Common.{◌%◌, ◌^◌, ap, ◌∙◌}
use Rattle.families.specs.Laws.Dots.{dot_pairs}
use Rattle.families.proofs.width.Keyed.wrapping_dot.Goals as goal

pub returns : goal.returns
returns c =
    let keyed = c.args.self.now in
    c.pair_sum.ensures ∙ ap (λ n. n % 2 ^ 64) (dot_pairs keyed.keys.now keyed.words.now keyed.same keyed.even)
