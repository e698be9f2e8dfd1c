-- The loop over a session's commands.
use Rattle.std.proofs.Common.{◌≡◌, ℕ, ◌+◌, ◌-◌, ◌*◌, ◌≤◌, List, ◌++◌, length, drop, None, Ok, Err, Option, Result, sym, ap, ◌∙◌, arith}
use Rattle.families.specs.Meanings.{Meaning}
use Rattle.families.specs.declared.family.Family.{Ghosts}
use Rattle.jobs.specs.Roots.{Job}
use Rattle.line.specs.Buffers.{answers_bytes}
use Rattle.line.specs.Commands.{Order, first, width}
use Rattle.line.specs.Lines.{answers_from}
use Rattle.line.specs.Outputs.{Left, Writes}
use Rattle.line.specs.Sessions.{Reply, replies, obeyed, finished}
use Rattle.line.specs.Standing.{Goes, Stands, state_at, state_of}
use Rattle.line.specs.Steps.{Step, past}
use Rattle.line.specs.declared.command.Command.{Command}
use Rattle.line.specs.declared.commands.Commands.{Commands}
use Rattle.line.specs.declared.output.Output.{Output}
use Rattle.line.specs.declared.refusal.LineFault.{LineFault}
use Rattle.line.specs.declared.refusal.Refusal.TheVariants as refusal
use Rattle.line.specs.declared.session.Desk.{Desk}
use Rattle.line.specs.declared.session.Session.{Session}
use Rattle.line.proofs.Puts.{left_next, left_end, writes_long}
use Rattle.line.proofs.Turns.{from_next, from_stop, from_end, room, owes}

module _ {F S : Type 0} {G : Ghosts F} (m : Meaning) (pads : S → List ℕ) where
  -- The session stands for a job, and what is left of the line answers the rest of what it answers from the start. Behind
  -- the room for the commands there is room for what the end may still answer.
  pub record Serves (desk : Desk S) (session : Session F S G) (commands rest : Commands) (held output : Output) : Type 0 where
    pub job : Option Job
    pub stands : Stands m session job
    pub same_card : session.desk.card ≡ desk.card
    pub same_line : rest.line.now ≡ commands.line.now
    pub room : output.used + owes job + 13 * (length rest.line.now - rest.at) ≤ length output.answers.now
    pub left :
        Left (answers_from m desk.card commands.line.now commands.at (state_at pads desk None))
        (answers_from m session.desk.card rest.line.now rest.at (state_of pads session job)) held output

  -- a command is obeyed, and its answer is written
  pub serves_on :
      {desk : Desk S} {session next : Session F S G} {commands rest after : Commands} {held output now : Output} {given : ℕ × Result Command LineFault} {reply : Reply}
      (on : Serves desk session commands rest held output)
      (o : Order) →
      Step rest after given →
      first (drop rest.at rest.line.now) ≡ Ok o →
      Goes pads m session next reply (obeyed m session.desk.card o (state_of pads session on.job)) →
      Writes (answers_bytes (replies given.0 reply)) output now →
      Serves desk next commands after held now
  serves_on {desk} {session} {next} {commands} {rest} {after} {held} {output} {now} {given} {reply} on o step is goes w =
      let s = state_of pads session on.job in
      let should = obeyed m session.desk.card o s in
      let at : after.at ≡ rest.at + width o = step.next ∙ ap (λ x. past x rest.at (length rest.line.now)) is in
      let within = after.inside in
      let long : length after.line.now ≡ length rest.line.now = ap length step.same_line in
      let part : List ℕ = answers_bytes (replies given.0 reply) in
      let part_is : part ≡ answers_bytes (replies rest.at should.0) =
      ap (λ r. answers_bytes (replies given.0 r)) goes.replied ∙ ap (λ n. answers_bytes (replies n should.0)) step.place
      in
      let part_long : length part ≡ length (answers_bytes (replies rest.at should.0)) = ap length part_is in
      let little = room m session.desk.card rest.at o s in
      let fits : output.used + length part ≤ length output.answers.now = omega (arith, on.room) in
      record {
        job = should.1.job;
        stands = goes.stands;
        same_card = goes.same_card ∙ on.same_card;
        same_line = step.same_line ∙ on.same_line;
        room = let same = writes_long fits w in omega (arith, on.room, w.end);
        left =
            left_next on.left part _
            (rw (goes.same_card, step.same_line, at, goes.state) (from_next m session.desk.card rest.line.now rest.at s o is
            ∙ ap (λ (xs : List ℕ). xs ++ answers_from m session.desk.card rest.line.now (rest.at + width o) should.1) (sym part_is)))
            fits w;
      }

module _
    {F S : Type 0} {G : Ghosts F} {m : Meaning} {pads : S → List ℕ} {desk : Desk S} {session : Session F S G} {commands rest : Commands} {held output : Output}
    (on : Serves m pads desk session commands rest held output)
  where
    -- a fault is the last
    pub serves_stop :
        {after : Commands} {given : ℕ × Result Command LineFault} {now : Output} (fault : LineFault) →
        Step rest after given →
        first (drop rest.at rest.line.now) ≡ Err fault →
        Writes (answers_bytes (replies given.0 (Err (refusal.Line fault)))) output now →
        Writes (answers_from m desk.card commands.line.now commands.at (state_at pads desk None)) held now
    serves_stop {given = given} fault step is w =
        left_end on.left (answers_bytes (replies given.0 (Err (refusal.Line fault))))
        (rw step.place (from_stop m session.desk.card rest.line.now rest.at (state_of pads session on.job) fault (omega (arith, step.place, step.inside)) is)) w

    -- at the end no job may be open
    pub serves_end :
        {now : Output} (reply : Reply) →
        rest.at ≡ length rest.line.now →
        reply ≡ finished on.job →
        Writes (answers_bytes (replies (length commands.line.now) reply)) output now →
        Writes (answers_from m desk.card commands.line.now commands.at (state_at pads desk None)) held now
    serves_end reply end is w =
        left_end on.left (answers_bytes (replies (length commands.line.now) reply))
        (rw (is, ← on.same_line) (from_end m session.desk.card rest.line.now rest.at (state_of pads session on.job) (omega arith))) w
