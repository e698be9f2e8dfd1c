use Rattle.std.proofs.Common.{◌^◌, ◌<◌, refl, arith}
use Rattle.std.proofs.ByRecursion.{All-from_get_or}
use Rattle.jobs.proofs.state.OpenJob.start.Goals as goal

pub returns : goal.returns
returns g c = record {
  keyed = record { long = c.told-card; words = All-from_get_or (λ w. w < 2 ^ 32) c.args.card.now 0 (λ i _. c.fits-card i) };
  proper = record { label_word = c.ranges.label.fits; bytes = tt; long = omega arith };
  on = refl;
  under = refl;
  long = refl;
  waits = λ p. absurd (omega arith);
  stream = c.new.ensures.holds c.args.card.now;
}
