use Rattle.std.proofs.Common.{◌≡◌, ◌+◌, ◌-◌, ◌*◌, ◌/◌, length, take, ap, ◌∙◌, arith}
use Rattle.jobs.specs.Reading.{byte_words, words_of}
use Rattle.jobs.specs.Roots.{block_tag}
use Rattle.jobs.proofs.Reading.{take-words_of, same_words, zeros_read}
use Rattle.jobs.proofs.block.last_tag.Goals as goal

pub returns : goal.returns
returns g c =
    let bs = c.args.bytes.now in
    let n = 2 * ((length bs + 7) / 8) in
    let many : 2 * c.div_ceil.result ≡ n = omega (arith, c.div_ceil.ensures) in
    let words : take (2 * c.div_ceil.result) c.read_words-words.result ≡ byte_words bs
    = ap (λ k. take k c.read_words-words.result) many
    ∙ ap (take n) c.read_words-words.ensures
    ∙ take-words_of n 32 c.fill_up.result (omega arith)
    ∙ ap (words_of n) c.fill_up.ensures
    ∙ same_words n _ bs (zeros_read bs (128 - length bs)) in
    c.words_tag.ensures ∙ ap (block_tag g.F.Family.meaning c.args.keys.now) words
