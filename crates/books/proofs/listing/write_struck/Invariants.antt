use Rattle.std.proofs.Common.{length}
use Rattle.std.proofs.lemmas.Iterator.{YieldsList}
use Rattle.pads.proofs.Fronts.{Filled}
use Rattle.books.proofs.Strucks.{numbered, strucks}
use Rattle.books.proofs.listing.write_struck.Given as goal

abbrev pub invariant-loop-place : goal.invariant-loop-place
invariant-loop-place l = record {
  -- what the loop goes over
  chain : YieldsList (goal.iterator-loop-place).next_gives (λ p. (p.0, (p.1.0, p.1.1.now))) l.initial.place-iterator (numbered l.fates);
  filled : Filled (strucks 0 l.fates) l.initial.places l.places (length l.yielded);
}
