-- The commands of a line as the code goes through them.
use Rattle.std.specs.Prelude.{◌≡◌, ℕ, ◌+◌, ◌*◌, ◌<◌, ◌≤◌, List, length, drop, Ok, Err, Option, Result, MatchOption}
use Rattle.line.specs.Commands.{Order, first, width, order_of}
use Rattle.line.specs.declared.command.Command.{Command}
use Rattle.line.specs.declared.commands.Commands.{Commands}
use Rattle.line.specs.declared.refusal.LineFault.{LineFault}
use Rattle.std.specs.Result.{result_map_both}

-- all of a line is left, and there is room for what it may answer
pub record IsStartOf (line : List ℕ) (room : ℕ) (commands : Commands) : Type 0 where
  pub same_line : commands.line.now ≡ line
  pub first_place : commands.at ≡ 0
  pub enough : 13 * length line ≤ room

-- the place behind a command at a place; behind a fault it is the line's end
abbrev pub past : Result Order LineFault → (at long : ℕ) → ℕ
past (Ok order) at long = at + width order
past (Err fault) at long = long

-- what stands at the first place that is left was given, and what is behind it is left
pub record Step (before after : Commands) (given : ℕ × Result Command LineFault) : Type 0 where
  pub place : given.0 ≡ before.at
  pub inside : given.0 < length before.line.now
  pub read : result_map_both order_of (λ e. e) given.1 ≡ first (drop before.at before.line.now)
  pub same_line : after.line.now ≡ before.line.now
  pub next : after.at ≡ past (first (drop before.at before.line.now)) before.at (length before.line.now)

-- so it goes until nothing is left
abbrev pub Steps : Commands → Option (ℕ × Result Command LineFault) → Commands → Type 0
Steps before given after = MatchOption given ((before.at ≡ length before.line.now) × (after ≡ before)) (Step before after)
