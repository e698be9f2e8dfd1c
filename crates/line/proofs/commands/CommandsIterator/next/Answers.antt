use Rattle.std.proofs.Common.{sym, arith}
use Rattle.line.specs.Commands.{order_of}
use Rattle.line.proofs.Lines.{next_within}
use Rattle.line.proofs.commands.CommandsIterator.next.Goals as goal
use Rattle.line.proofs.commands.CommandsIterator.next.Goals.{in-Ok, in-Err}

pub invariant_of-self-clause-inside : goal.invariant_of-self-clause-inside
invariant_of-self-clause-inside c =
    let given = c.args.self.now in
    elim c.match-read.branch [
      | in-Ok w ↦
          let h = next_within given.line.now given.at (order_of w.in-Ok.command) (sym w.in-Ok.ensures.command) given.inside in
          omega (arith, w.self-is, w.size.ensures)
      | in-Err w ↦ omega (arith, w.self-is)
    ]
