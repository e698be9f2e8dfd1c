use Rattle.std.proofs.Common.{◌≡◌, ℕ, ◌*◌, List, [], ◌++◌, take}
use Rattle.jobs.specs.Holding.{StreamHolds}
use Rattle.jobs.proofs.state.Stream.take_blocks.Given as goal

abbrev pub invariant-loop-block : goal.invariant-loop-block
invariant-loop-block g l = record {
  none : l.self.block ≡ [];
  holds : (doc : List ℕ) → StreamHolds g.F.Family.meaning l.card l.initial.self doc → StreamHolds g.F.Family.meaning l.card l.self (doc ++ take (128 * l.block-index) l.bytes);
}
