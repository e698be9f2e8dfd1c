-- Where the first commands of a line lead.
use Rattle.std.specs.Option.{ok_or}
use Rattle.std.specs.Prelude.{◌≡◌, ℕ, List, Some, None, Ok, Err, Option, Result}
use Rattle.families.specs.Names.{meaning_of}
use Rattle.line.specs.Choices.{chosen}
use Rattle.line.specs.Commands.{Order}
use Rattle.line.specs.Lines.{answers_from, unchosen_from}
use Rattle.line.specs.Outputs.{HasRoom, Writes, Left}
use Rattle.line.specs.Sessions.{State}
use Rattle.line.specs.Standing.{state_at}
use Rattle.families.specs.declared.name.FamilyName.{FamilyName}
use Rattle.line.specs.declared.commands.Commands.{Commands}
use Rattle.line.specs.declared.output.Output.{Output}
use Rattle.line.specs.declared.refusal.LineFault.{LineFault}
use Rattle.line.specs.declared.refusal.Refusal.{Refusal}
use Rattle.line.specs.declared.refusal.Refusal.TheVariants as refusal
use Rattle.line.specs.declared.session.Desk.{Desk}
use Rattle.line.specs.declared.refusal.SessionFault.TheVariants as session

-- the family that is chosen by what stands at a place, or why none is
abbrev pub choice_of : Result Order LineFault → Result FamilyName Refusal
choice_of (Ok order) = ok_or (chosen order) (refusal.Session session.Choice)
choice_of (Err fault) = Err (refusal.Line fault)

-- what is left of the line answers the rest of what the whole line answers, and has the room for it
pub record GoesOn (rest : List ℕ → List ℕ → ℕ → State → List ℕ) (before after : Commands) (held output : Output) : Type 0 where
  pub same_line : after.line.now ≡ before.line.now
  pub room : HasRoom after output
  pub left : (card : List ℕ) (s : State) → Left (unchosen_from card before.line.now before.at s) (rest card after.line.now after.at s) held output

-- Up to the choice nothing depends on the card or the books; what follows it is what the chosen family answers. Without a
-- choice all is answered.
abbrev pub Begun : (before after : Commands) (held output : Output) → Option FamilyName → Type 0
Begun before after held output (Some family) = GoesOn (answers_from (meaning_of family)) before after held output
Begun before after held output None = (card : List ℕ) (s : State) → Writes (unchosen_from card before.line.now before.at s) held output

-- what the rest of a line answers before a choice, with the card and the books at a desk and no job open
abbrev pub whole_answers : {S : Type 0} → (S → List ℕ) → Desk S → Commands → List ℕ
whole_answers pads desk commands = unchosen_from desk.card commands.line.now commands.at (state_at pads desk None)
