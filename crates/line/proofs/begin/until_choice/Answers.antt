use Rattle.std.proofs.Common.{sym, refl, ap, ◌∙◌, arith}
use Rattle.std.specs.Option.{ok_or}
use Rattle.line.specs.declared.refusal.Refusal.TheVariants.{Line, Session}
use Rattle.line.specs.declared.refusal.SessionFault.TheVariants.{Choice}
use Rattle.line.proofs.Choosing.{chosen_on, refused_on}
use Rattle.line.proofs.Puts.{left_nothing}
use Rattle.line.proofs.Turns.{before_end}
use Rattle.line.proofs.begin.until_choice.Goals as goal

pub returns-in-Some-chosen_family : goal.returns-in-Some-chosen_family
returns-in-Some-chosen_family c =
    chosen_on c.loop-place.invariant c.in-Some.ensures.steps c.in-Some-chosen_family.family
    (rw c.in-Ok.is (ap (λ o. ok_or o (Session Choice)) (sym c.chosen_family.ensures ∙ c.in-Some-chosen_family.is)))

pub loop-place-preserved-in-None : goal.loop-place-preserved-in-None
loop-place-preserved-in-None c =
    refused_on c.loop-place.invariant c.in-Some.ensures.steps (Session Choice)
    (rw c.in-Ok.is (ap (λ o. ok_or o (Session Choice)) (sym c.chosen_family.ensures ∙ c.in-None.is))) c.respond.ensures

pub loop-place-preserved : goal.loop-place-preserved
loop-place-preserved c =
    refused_on c.loop-place.invariant c.in-Some.ensures.steps (Line c.in-Err.fault) (rw c.in-Err.is refl) c.respond-in-Err.ensures

pub returns : goal.returns
returns c card s =
    let commands = c.loop-place.commands in
    left_nothing (c.loop-place.invariant.left card s) (before_end card commands.line.now commands.at s (omega (arith, c.in_default.ensures.steps.0)))
