use Rattle.line.proofs.Serving.{Serves}
use Rattle.line.proofs.serve.serve.Given as goal

abbrev pub invariant-loop-place : goal.invariant-loop-place
invariant-loop-place g l =
    Serves g.F.Family.meaning g.S.PadSource.pads l.fn.desk l.session l.fn.commands l.place-iterator l.initial.output l.output
