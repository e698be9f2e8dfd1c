use Rattle.std.proofs.Common.{◌≡◌, ◌*◌, ◌++◌, take, ap, ◌∙◌, subst, append_assoc, arith}
use Rattle.std.proofs.lemmas.List.{take-append-drop}
use Rattle.jobs.specs.Holding.{StreamHolds}
use Rattle.jobs.proofs.Cuts.{chunk_next}
use Rattle.jobs.proofs.state.Stream.take_blocks.Goals as goal

pub loop-block-preserved : goal.loop-block-preserved
loop-block-preserved g c =
    let bs = c.args.bytes.now in
    let i = c.loop-block.block-index in
    let front = c.as_chunks.ensures.front_len in
    let next = chunk_next bs c.split_at.result.0.now c.as_chunks.result.0.now _ i c.split_at.ensures.front c.as_chunks.ensures.front (omega arith) in
    record {
      none = c.pass.ensures.block;
      holds = λ doc h. subst (StreamHolds g.F.Family.meaning c.args.card.now c.pass.new.self)
          (append_assoc doc (take (128 * i) bs) _ ∙ ap (λ xs. doc ++ xs) next)
          (c.pass.ensures.holds _ (c.loop-block.invariant.holds doc h));
    }

pub returns-clause-holds : goal.returns-clause-holds
returns-clause-holds g c = λ doc h.
    let bs = c.args.bytes.now in
    let rest = c.split_at.result.1.now in
    let i = c.loop-block.block-index in
    let w = c.whole_blocks.result in
    let at : 128 * i ≡ w = omega (arith, c.as_chunks.ensures.front_len, c.split_at.ensures.front_len, c.whole_blocks.ensures.whole) in
    let all : take (128 * i) bs ++ rest ≡ bs = ap (λ n. take n bs ++ rest) at ∙ ap (λ xs. take w bs ++ xs) c.split_at.ensures.back ∙ take-append-drop w bs in
    subst (StreamHolds g.F.Family.meaning c.args.card.now c.keep.new.self)
    (append_assoc doc (take (128 * i) bs) rest ∙ ap (λ xs. doc ++ xs) all)
    (c.keep.ensures.holds c.args.card.now _ (c.loop-block.invariant.holds doc h))
