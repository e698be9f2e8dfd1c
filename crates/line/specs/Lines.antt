-- What a line answers.
use Rattle.std.specs.Prelude.{ℕ, ◌*◌, ◌/◌, ◌%◌, cond, List, length, take, None, Ok, Err, Result, ◌==◌, nat_le, nat_lt}
use Rattle.families.specs.Meanings.{Meaning}
use Rattle.jobs.specs.Reading.{byte_words}
use Rattle.pads.specs.Stored.{pads_of}
use Rattle.books.specs.Opening.{fits}
use Rattle.books.specs.Runs.{started}
use Rattle.books.specs.declared.refusals.PadCountError.{PadCountError}
use Rattle.line.specs.Buffers.{put, answers_bytes}
use Rattle.line.specs.Commands.{read_at}
use Rattle.line.specs.Sessions.{State, answers_to, answers_before}
use Rattle.line.specs.declared.answer.Answer.{Answer}
use Rattle.line.specs.declared.refusal.Refusal.{Refusal}
use Rattle.line.specs.declared.refusal.Refusal.TheVariants as refusal
use Rattle.line.specs.declared.refusal.BookFault.TheVariants as book
use Rattle.line.specs.declared.refusal.LineFault.{LineFault}
use Rattle.line.specs.declared.refusal.LineFault.TheVariants as line
use Rattle.line.specs.declared.refusal.PadFault.TheVariants as pad

-- the answers from a place of the line on, once a family was chosen, in bytes
unfoldable pub answers_from : Meaning → List ℕ → List ℕ → ℕ → State → List ℕ
answers_from m card line at s = answers_bytes (answers_to m card (read_at line at).commands (read_at line at).end (length line) s)

-- and before
unfoldable pub unchosen_from : List ℕ → List ℕ → ℕ → State → List ℕ
unchosen_from card line at s = answers_bytes (answers_before card (read_at line at).commands (read_at line at).end (length line) s)

-- no job is open at first, and both books are over the same pads
abbrev pub at_first : List ℕ → State
at_first pads = record { books = started pads pads; job = None }

-- all answers of a line over a card's words and pads
abbrev pub line_answers : (card pads line : List ℕ) → List Answer
line_answers card pads line = answers_before card (read_at line 0).commands (read_at line 0).end (length line) (at_first pads)

-- and in bytes
abbrev pub line_bytes : (card pads line : List ℕ) → List ℕ
line_bytes card pads line = answers_bytes (line_answers card pads line)

-- the line and the room for its answers
abbrev pub sized : (long room : ℕ) → Result (Unit {0}) LineFault
sized long room = cond (nat_lt 4096 long) (Err line.LongLine) (cond (nat_lt room (13 * long)) (Err line.ShortBuffer) (Ok tt))

-- the first places, or the refusal of more than there are
abbrev pub lent : List ℕ → ℕ → Result (List ℕ) PadCountError
lent places count = cond (nat_le count (length places)) (Ok (take count places)) (Err (record {}))

-- what is tested before the first command, in this order: the card's words and the pads, or the first refusal
abbrev pub admitted : (card sheet : List ℕ) → (long room : ℕ) → Result (List ℕ × List ℕ) Refusal
admitted card sheet long room =
    elim (sized long room) [
      | Err fault ↦ Err (refusal.Line fault)
      | Ok u ↦
          cond (length card == 656)
          (cond (length sheet % 8 == 0)
          (cond (fits (length sheet / 8)) (Ok (byte_words card, pads_of sheet)) (Err (refusal.Book book.PadCount)))
          (Err (refusal.Pad pad.SheetSize)))
          (Err (refusal.Book book.Card))
    ]

-- what a line answers and what the buffer then holds
abbrev pub ran_with : Result (List ℕ × List ℕ) Refusal → (line buffer : List ℕ) → Result ℕ Refusal × List ℕ
ran_with (Err e) line buffer = (Err e, buffer)
ran_with (Ok x) line buffer = (Ok (length (line_bytes x.0 x.1 line)), put 0 (line_bytes x.0 x.1 line) buffer)

abbrev pub line_run : (card sheet line buffer : List ℕ) → Result ℕ Refusal × List ℕ
line_run card sheet line buffer = ran_with (admitted card sheet (length line) (length buffer)) line buffer
