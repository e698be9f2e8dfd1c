use Rattle.std.proofs.Common.{◌≡◌, List, ℕ, ◌++◌, length}
use Rattle.jobs.specs.Jobs.{Holds, fed, fresh}
use Rattle.worked_marks.proofs.pieces.in_pieces.Given as goal

abbrev pub invariant-loop-rest : goal.invariant-loop-rest
invariant-loop-rest g l =
    (done : List ℕ) × (l.document ≡ done ++ l.rest) × Holds g.F.Family.meaning l.card (fed (fresh l.label) done) l.job

abbrev pub decreases-loop-rest : goal.decreases-loop-rest
decreases-loop-rest g l = length l.rest
