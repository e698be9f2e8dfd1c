-- The buffer of the answers as the code writes it.
use Rattle.std.specs.Prelude.{◌≡◌, ℕ, ◌+◌, ◌-◌, ◌*◌, ◌≤◌, List, length}
use Rattle.line.specs.Buffers.{put}
use Rattle.line.specs.declared.commands.Commands.{Commands}
use Rattle.line.specs.declared.output.Output.{Output}

-- there are thirteen bytes for each byte of what is left of the line
abbrev pub HasRoom : Commands → Output → Type 0
HasRoom commands output = output.used + 13 * (length commands.line.now - commands.at) ≤ length output.answers.now

-- these bytes were written behind those that were used
pub record Writes (bytes : List ℕ) (before after : Output) : Type 0 where
  pub same_buffer : after.answers.ghost_name ≡ before.answers.ghost_name
  pub end : after.used ≡ before.used + length bytes
  pub buffer : after.answers.now ≡ put before.used bytes before.answers.now

-- What is left to write is `rest`: with it, `whole` was written.
pub record Left (whole rest : List ℕ) (before after : Output) : Type 0 where
  pub same_buffer : after.answers.ghost_name ≡ before.answers.ghost_name
  pub end : after.used + length rest ≡ before.used + length whole
  pub buffer : put after.used rest after.answers.now ≡ put before.used whole before.answers.now
