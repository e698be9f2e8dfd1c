use Rattle.std.proofs.Common.{◌≡◌, ℕ, ◌<◌, length, get_or}
use Rattle.jobs.specs.Reading.{word_at}
use Rattle.jobs.proofs.block.read_words.Given as goal

abbrev pub invariant-loop-i : goal.invariant-loop-i
invariant-loop-i g l = record { long : length l.word-items ≡ g.row.N; read : (k : ℕ) → k < l.i → get_or l.word-items k 0 ≡ word_at l.bytes k }
