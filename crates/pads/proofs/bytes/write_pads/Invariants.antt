use Rattle.pads.specs.Stored.{pads_of}
use Rattle.pads.proofs.Fronts.{Filled}
use Rattle.pads.proofs.bytes.write_pads.Given as goal

abbrev pub invariant-loop-number : goal.invariant-loop-number
invariant-loop-number l = Filled (pads_of l.bytes) l.initial.places l.places l.number
