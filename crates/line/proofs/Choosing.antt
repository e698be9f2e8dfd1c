-- The loop over the commands before the choice.
use Rattle.std.proofs.Common.{◌≡◌, ℕ, ◌+◌, ◌<◌, ◌≤◌, List, length, drop, Ok, Err, Result, sym, refl, ap, ◌∙◌, arith}
use Rattle.std.specs.Result.{result_map_both}
use Rattle.line.specs.Beginnings.{GoesOn, choice_of}
use Rattle.line.specs.Buffers.{answers_bytes}
use Rattle.families.specs.Names.{meaning_of}
use Rattle.line.specs.Commands.{Order, first, order_of}
use Rattle.line.specs.Lines.{answers_from, unchosen_from}
use Rattle.line.specs.Outputs.{Writes}
use Rattle.line.specs.Sessions.{replies}
use Rattle.line.specs.Steps.{Step}
use Rattle.families.specs.declared.name.FamilyName.{FamilyName}
use Rattle.line.specs.declared.command.Command.{Command}
use Rattle.line.specs.declared.commands.Commands.{Commands}
use Rattle.line.specs.declared.output.Output.{Output}
use Rattle.line.specs.declared.refusal.LineFault.{LineFault}
use Rattle.line.specs.declared.refusal.Refusal.{Refusal}
use Rattle.line.proofs.Lines.{past_more}
use Rattle.line.proofs.Puts.{left_same, left_next, writes_long}
use Rattle.line.proofs.Turns.{at_choice, at_refusal}

module _
    {start before after : Commands} {given : ℕ × Result Command LineFault} {held output : Output}
    (on : GoesOn unchosen_from start before held output)
    (step : Step before after given)
  where
    abbrev line : List ℕ
    line = before.line.now

    abbrev here : Result Order LineFault
    here = first (drop before.at line)

    -- a choice leaves the line to the family
    pub chosen_on : (f : FamilyName) → choice_of (result_map_both order_of (λ e. e) given.1) ≡ Ok f → GoesOn (answers_from (meaning_of f)) start after held output
    chosen_on f is =
        let more = past_more here before.at (length line) (omega (arith, step.place, step.inside)) in
        record {
          same_line = step.same_line ∙ on.same_line;
          room = rw step.same_line (omega (arith, step.next, on.room));
          left = λ card s. left_same (on.left card s) _ (rw (step.same_line, step.next) (at_choice card line before.at s here f refl (ap choice_of (sym step.read) ∙ is)));
        }

    -- a refusal is written
    pub refused_on :
        (r : Refusal) {now : Output} →
        choice_of (result_map_both order_of (λ e. e) given.1) ≡ Err r →
        Writes (answers_bytes (replies given.0 (Err r))) output now →
        GoesOn unchosen_from start after held now
    refused_on r {now} is w =
        let low : before.at < length line = omega (arith, step.place, step.inside) in
        let more = past_more here before.at (length line) low in
        let fits : output.used + 7 ≤ length output.answers.now = omega (arith, on.room) in
        let long = writes_long fits w in
        record {
          same_line = step.same_line ∙ on.same_line;
          room = rw step.same_line (omega (arith, step.next, on.room, w.end));
          left = λ card s.
              left_next (on.left card s) (answers_bytes (replies given.0 (Err r))) _
              (rw (step.same_line, step.next, step.place) (at_refusal card line before.at s here r low refl (ap choice_of (sym step.read) ∙ is)))
              fits w;
        }
