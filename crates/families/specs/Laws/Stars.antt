-- The law of MMH*: modulo a prime, one word gives a difference at most.
use Rattle.std.specs.Prelude.{ℕ, ◌*◌}
use Rattle.std.proofs.Common.{mod-lt, arith, lit<, lit≤}
use Rattle.families.specs.Counting.{AtMost}
use Rattle.families.specs.Dots.{mmh_star, star_reduced}
use Rattle.families.specs.Meanings.{Lawful}
use Rattle.families.specs.Laws.Classes.{by_class}
use Rattle.families.specs.Laws.Dots.{Lines, Meets, dot_lawful}
use Rattle.families.specs.Laws.Primes.{one_word}
use Rattle.families.specs.Laws.Residues.{subtract}
use Rattle.families.specs.Laws.Trials.{prime}

one : (l : Lines) (d : ℕ) → AtMost 1 (Meets star_reduced 4294967311 l d)
one l d =
    by_class _ 1 (λ v. 0) (λ v hv. lit< tt) (λ v w hv hw same.
    one_word 4294967311 prime v w l.m l.n (omega arith) (omega arith) (omega arith) (omega arith) l.differ
    (subtract 4294967311 l.a l.b d (v * l.m) (v * l.n) (w * l.m) (w * l.n) (lit< tt) hv.1 hw.1))

pub star_lawful : Lawful mmh_star 1
star_lawful = dot_lawful star_reduced 4294967311 1 (lit≤ tt) (lit≤ tt) (lit≤ tt) (lit≤ tt) (λ s. mod-lt s (lit< tt)) (λ l d small. one l d)
