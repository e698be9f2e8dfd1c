use Rattle.line.specs.Beginnings.{GoesOn}
use Rattle.line.specs.Lines.{unchosen_from}
use Rattle.line.proofs.begin.until_choice.Given as goal

abbrev pub invariant-loop-place : goal.invariant-loop-place
invariant-loop-place l = GoesOn unchosen_from l.initial.commands l.commands l.initial.output l.output
