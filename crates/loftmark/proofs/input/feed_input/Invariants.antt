use Rattle.std.proofs.Common.{◌≡◌, ℕ, List, length}
use Rattle.jobs.specs.Roots.{Job}
use Rattle.jobs.specs.Jobs.{Holds, fed}
use Rattle.loftmark.proofs.input.feed_input.Given as goal

abbrev pub invariant-loop : goal.invariant-loop
invariant-loop g l =
    (length l.piece ≡ 65536)
    × ((card : List ℕ) (j : Job) → Holds g.F.Family.meaning card j l.initial.job → (doc : List ℕ) × Holds g.F.Family.meaning card (fed j doc) l.job)
