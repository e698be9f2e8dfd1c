use Rattle.std.proofs.Common.{◌≡◌, ◌+◌, ◌*◌, ◌^◌, ◌≤◌, length}
use Rattle.families.specs.Dots.{products}
use Rattle.families.specs.Pairs.{pair_sum}
use Rattle.families.proofs.Chunks.{InPairs, keys_left, words_left}
use Rattle.families.proofs.width.Keyed.split_dot.Given as goal

-- each word that is left adds less than 2^16 to the one sum, and less than 2^48 to the other
abbrev pub invariant-loop-k : goal.invariant-loop-k
invariant-loop-k l =
    let i = l.k-iterator in
    record {
      in_pairs : InPairs i;
      low : l.low + length (words_left i) * 2 ^ 16 ≤ 2 ^ 21;
      high : l.high + length (words_left i) * 2 ^ 48 ≤ 2 ^ 53;
      sum : l.low + 2 ^ 16 * l.high + pair_sum products (keys_left i) (words_left i) ≡ pair_sum products l.self.keys.now l.self.words.now;
    }
