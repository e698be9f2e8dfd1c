-- Laws of commands and lines.
use Rattle.std.specs.Prelude.{◌≡◌, ℕ, ◌+◌, ◌^◌, ◌<◌, ◌⊎◌, List, [], ◌∷◌, ◌++◌, map, length, take, Ok}
use Rattle.jobs.specs.Reading.{Bytes}
use Rattle.line.specs.Commands.{Order, Placed, encoded, width, first, read_at}
use Rattle.line.specs.Commands.Order.{choose, open_job, feed_byte, feed_block, seal_job, strike_pad, check_job}
use Rattle.line.specs.Commands.End.{all_read}
use Rattle.line.specs.Lines.{line_answers}
use Rattle.line.specs.declared.answer.Answer.{Answer}
use Rattle.line.specs.declared.answer.Answer.TheVariants.{Refused}
use Rattle.line.specs.declared.refusal.Refusal.TheVariants as refusal
use Rattle.line.specs.declared.refusal.SessionFault.TheVariants as session
use Rattle.std.specs.List.{flat_map, AllByRecursion}

-- operands that fit their widths
abbrev pub Fitting : Order → Type 0
Fitting (choose family) = family < 2 ^ 8
Fitting (open_job label) = label < 2 ^ 32
Fitting (feed_byte byte) = byte < 2 ^ 8
Fitting (feed_block bytes) = (length bytes ≡ 16) × Bytes bytes
Fitting seal_job = Unit {0}
Fitting strike_pad = Unit {0}
Fitting (check_job number tag) = (number < 2 ^ 32) × (tag < 2 ^ 64)

-- a command that was written is read again, whatever follows it
abbrev pub WrittenRead : Type 0
WrittenRead = (o : Order) → Fitting o → (more : List ℕ) → first (encoded o ++ more) ≡ Ok o

-- and a command that was read is written in the bytes that it was read from
abbrev pub ReadWritten : Type 0
ReadWritten = (bytes : List ℕ) → Bytes bytes → (o : Order) → first bytes ≡ Ok o → Fitting o × (take (width o) bytes ≡ encoded o)

-- commands one behind the other, in bytes, and with their places from a place on
abbrev pub encoded_all : List Order → List ℕ
encoded_all os = flat_map encoded os

abbrev pub placed_from : ℕ → List Order → List Placed
placed_from at [] = []
placed_from at (o ∷ os) = record { place = at; order = o } ∷ placed_from (at + width o) os

-- a list of commands that was written is read again, and what follows it is read behind it
abbrev pub AllRead : Type 0
AllRead =
    (os : List Order) →
    AllByRecursion Fitting os →
    (more : List ℕ) →
    read_at (encoded_all os ++ more) 0
    ≡ record { commands = placed_from 0 os ++ (read_at (encoded_all os ++ more) (length (encoded_all os))).commands; end = (read_at (encoded_all os ++ more) (length (encoded_all os))).end }

-- and a line that was read to its end is its commands in bytes
abbrev pub AllWritten : Type 0
AllWritten = (line : List ℕ) → Bytes line → (read_at line 0).end ≡ all_read → encoded_all (map (λ p. p.order) (read_at line 0).commands) ≡ line

-- A longer line answers what the commands at its beginning answer, and then more. The beginning alone answers the same,
-- and then at most that a job is open at its end.
pub record Extends (card pads front more : List ℕ) : Type 0 where
  pub said : List Answer
  pub later : List Answer
  pub longer : line_answers card pads (front ++ more) ≡ said ++ later
  pub ending : List Answer
  pub alone : line_answers card pads front ≡ said ++ ending
  pub only : (ending ≡ []) ⊎ (ending ≡ Refused (refusal.Session session.Job) (length front) ∷ [])

abbrev pub LinesExtend : Type 0
LinesExtend = (card pads : List ℕ) (os : List Order) → AllByRecursion Fitting os → (more : List ℕ) → Extends card pads (encoded_all os) more
