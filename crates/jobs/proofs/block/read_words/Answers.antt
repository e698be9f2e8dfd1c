use Rattle.std.proofs.Common.{[], length, ◌/◌, get_or, ap, ◌∙◌, arith}
use Rattle.std.proofs.lemmas.List.{length-set}
use Rattle.jobs.proofs.Cuts.{chunk_at}
use Rattle.jobs.proofs.Reading.{words_all, word_more, word_of_chunk}
use Rattle.jobs.proofs.block.read_words.Goals as goal

pub loop-i-preserved : goal.loop-i-preserved
loop-i-preserved g c =
    let bs = c.args.bytes.now in
    let i = c.loop-i.i in
    let inv = c.loop-i.invariant in
    let four = ap (λ fs. get_or fs i []) c.as_chunks.ensures.front ∙ chunk_at 4 (length bs / 4) bs i [] (omega arith) in
    record {
      long = simp length-set inv.long;
      read = word_more bs c.loop-i.word-items i c.from_le_bytes.result (omega arith) (c.from_le_bytes.ensures ∙ word_of_chunk bs _ i four) inv.read;
    }

pub returns : goal.returns
returns g c =
    let inv = c.loop-i.invariant in
    words_all c.args.bytes.now c.loop-i.word-items _ inv.long (λ k l. inv.read k (omega arith))
