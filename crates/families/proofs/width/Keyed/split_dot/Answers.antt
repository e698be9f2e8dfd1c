use Rattle.std.proofs.Common.{◌*◌, ◌^◌, ◌<◌, ap₂, arith, rules}
use Rattle.std.proofs.lemmas.Nat.{and_mask, mul-lt}
use Rattle.families.specs.Dots.{products}
use Rattle.families.proofs.Chunks.{turn, ended}
use Rattle.families.specs.Laws.Dots.{dot_pairs}
use Rattle.families.proofs.width.Keyed.split_dot.Goals as goal

pub loop-k-preserved : goal.loop-k-preserved
loop-k-preserved c =
    let steps = c.in-Some.ensures.steps in
    let inv = c.loop-k.invariant in
    let t = turn c.loop-k.k-iterator c.next.new.self c.in-Some.k c.in-Some.w inv.in_pairs steps.0 steps.1 in
    let more = t.more products in
    let one = c.from.result * c.from-in-loop-k.result in
    let two = c.from-in-loop-k-2.result * c.from-in-loop-k-3.result in
    let one_is = ap₂ (λ a b. a * b) c.from.ensures c.from-in-loop-k.ensures in
    let two_is = ap₂ (λ a b. a * b) c.from-in-loop-k-2.ensures c.from-in-loop-k-3.ensures in
    let one_low : one < 2 ^ 32 * 2 ^ 32 = mul-lt _ _ (2 ^ 32) (2 ^ 32) (search rules) (search rules) in
    let two_low : two < 2 ^ 32 * 2 ^ 32 = mul-lt _ _ (2 ^ 32) (2 ^ 32) (search rules) (search rules) in
    let one_bits = and_mask one 16 in
    let two_bits = and_mask two 16 in
    record { in_pairs = t.in_pairs; low = omega arith; high = omega arith; sum = omega arith }

pub returns-clause-value : goal.returns-clause-value
returns-clause-value c =
    let none = ended products c.loop-k.k-iterator c.loop-k.invariant.in_pairs c.in-None.ensures.steps in
    let keyed = c.args.self.now in
    let all = dot_pairs keyed.keys.now keyed.words.now keyed.same keyed.even in
    omega arith
