use Rattle.std.proofs.Common.{◌≡◌, ◌+◌, ◌%◌, ◌^◌, ◌<◌}
use Rattle.families.specs.Pairs.{pair_sum}
use Rattle.families.proofs.Chunks.{InPairs, keys_left, words_left}
use Rattle.families.proofs.width.Keyed.pair_sum.Given as goal

abbrev pub invariant-loop-k : goal.invariant-loop-k
invariant-loop-k g l =
    let f = g.P.Pairing.gives in
    let i = l.k-iterator in
    record {
      in_pairs : InPairs i;
      fits : l.sum < 2 ^ 64;
      sum : (l.sum + pair_sum f (keys_left i) (words_left i)) % 2 ^ 64 ≡ pair_sum f l.self.keys.now l.self.words.now % 2 ^ 64;
    }
