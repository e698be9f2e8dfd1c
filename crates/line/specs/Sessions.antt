-- What a list of commands answers.
use Rattle.std.specs.Prelude.{ℕ, List, [], ◌∷◌, ◌++◌, length, Some, None, Ok, Err, Option, Result}
use Rattle.families.specs.Meanings.{Meaning}
use Rattle.jobs.specs.Roots.{Job, root_tag}
use Rattle.jobs.specs.Jobs.{fresh, fed, feed_answer}
use Rattle.jobs.specs.declared.open_job.TooLong.{TooLong}
use Rattle.books.specs.Office.{Office, taken, sealed, struck}
use Rattle.books.specs.Table.{Table, checked}
use Rattle.books.specs.Runs.{Books}
use Rattle.books.specs.declared.pad.Pad.{Pad}
use Rattle.books.specs.declared.refusals.TakeError.{TakeError}
use Rattle.families.specs.Names.{meaning_of}
use Rattle.line.specs.Choices.{chosen}
use Rattle.line.specs.Commands.{Order, Placed, End}
use Rattle.line.specs.Commands.Order.{choose, open_job, feed_byte, feed_block, seal_job, strike_pad, check_job}
use Rattle.line.specs.Commands.End.{all_read, stopped}
use Rattle.line.specs.Faults.{take_refusal, check_refusal}
use Rattle.line.specs.declared.answer.Answer.{Answer}
use Rattle.line.specs.declared.answer.Answer.TheVariants.{Sealed, Struck, Accepted, Refused}
use Rattle.line.specs.declared.refusal.Refusal.{Refusal}
use Rattle.line.specs.declared.refusal.Refusal.TheVariants as refusal
use Rattle.line.specs.declared.refusal.SessionFault.TheVariants as session
use Rattle.line.specs.declared.refusal.BookFault.TheVariants as book
use Rattle.std.specs.Result.{result_map_both}

-- the books of the two ends, and the open job
pub record State : Type 0 where
  pub books : Books
  pub job : Option Job

-- what a command comes to: an answer or none, or a refusal
abbrev pub Reply : Type 0
Reply = Result (Option Answer) Refusal

abbrev pub with_job : Option Job → State → State
with_job job s = record { books = s.books; job = job }

abbrev pub with_office : Office → State → State
with_office office s = record { books = record { office = office; table = s.books.table }; job = s.job }

abbrev pub with_table : Table → State → State
with_table table s = record { books = record { office = s.books.office; table = table }; job = s.job }

-- the refusal of a command that wants an open job, or wants none
abbrev pub wrong_job : Reply
wrong_job = Err (refusal.Session session.Job)

-- opening a job
abbrev pub opens_by : Option Job → ℕ → State → Reply × State
opens_by None label s = (Ok None, with_job (Some (fresh label)) s)
opens_by (Some job) label s = (wrong_job, s)

abbrev pub opens : ℕ → State → Reply × State
opens label s = opens_by s.job label s

-- feeding it, by what the job answers
abbrev pub feeds_job : Result (Unit {0}) TooLong → Job → List ℕ → State → Reply × State
feeds_job (Ok u) job piece s = (Ok None, with_job (Some (fed job piece)) s)
feeds_job (Err e) job piece s = (Err (refusal.Book book.TooLong), s)

abbrev pub feeds_by : Option Job → List ℕ → State → Reply × State
feeds_by None piece s = (wrong_job, s)
feeds_by (Some job) piece s = feeds_job (feed_answer (length job.document) (length piece)) job piece s

abbrev pub feeds : List ℕ → State → Reply × State
feeds piece s = feeds_by s.job piece s

-- sealing, by what taking a pad answers and leaves
abbrev pub seals_with : (modulus root : ℕ) → Result Pad TakeError → Office → State → Reply × State
seals_with modulus root (Err e) office s = (Err (take_refusal e), with_office office s)
seals_with modulus root (Ok pad) office s = (
  result_map_both (λ x. Some (Sealed x.0 x.1)) (λ _. refusal.Book book.WrongPad) (sealed modulus root pad office).0,
  with_office (sealed modulus root pad office).1 s,
)

-- a job that was open ends, whatever the books answer
abbrev pub seals_by : Meaning → List ℕ → Option Job → State → Reply × State
seals_by m card None s = (wrong_job, s)
seals_by m card (Some job) s =
    seals_with m.modulus (root_tag m card job) (taken s.books.office).0 (taken s.books.office).1 (with_job None s)

abbrev pub seals : Meaning → List ℕ → State → Reply × State
seals m card s = seals_by m card s.job s

-- striking, by what taking a pad answers and leaves; an open job stays open
abbrev pub strikes_with : Result Pad TakeError → Office → State → Reply × State
strikes_with (Err e) office s = (Err (take_refusal e), with_office office s)
strikes_with (Ok pad) office s = (
  result_map_both (λ _. Some (Struck pad.number)) (λ _. refusal.Book book.WrongPad) (struck pad office).0,
  with_office (struck pad office).1 s,
)

abbrev pub strikes : State → Reply × State
strikes s = strikes_with (taken s.books.office).0 (taken s.books.office).1 s

-- checking; a job that was open ends
abbrev pub checks_by : Meaning → List ℕ → Option Job → ℕ → ℕ → State → Reply × State
checks_by m card None number tag s = (wrong_job, s)
checks_by m card (Some job) number tag s = (
  result_map_both (λ _. Some (Accepted number)) check_refusal (checked m.modulus (root_tag m card job) number tag s.books.table).0,
  with_table (checked m.modulus (root_tag m card job) number tag s.books.table).1 (with_job None s),
)

abbrev pub checks : Meaning → List ℕ → ℕ → ℕ → State → Reply × State
checks m card number tag s = checks_by m card s.job number tag s

-- a command once a family was chosen
abbrev pub obeyed : Meaning → List ℕ → Order → State → Reply × State
obeyed m card (choose family) s = (Err (refusal.Session session.Choice), s)
obeyed m card (open_job label) s = opens label s
obeyed m card (feed_byte byte) s = feeds (byte ∷ []) s
obeyed m card (feed_block bytes) s = feeds bytes s
obeyed m card seal_job s = seals m card s
obeyed m card strike_pad s = strikes s
obeyed m card (check_job number tag) s = checks m card number tag s

-- the answer to what stands at a place
abbrev pub replies : ℕ → Reply → List Answer
replies place (Ok None) = []
replies place (Ok (Some answer)) = answer ∷ []
replies place (Err e) = Refused e place ∷ []

-- no job may be open at the end
abbrev pub finished : Option Job → Reply
finished None = Ok None
finished (Some job) = wrong_job

-- the answer to the end of a line of this length
abbrev pub ended : End → ℕ → Option Job → List Answer
ended all_read long job = replies long (finished job)
ended (stopped fault place) long job = replies place (Err (refusal.Line fault))

-- what the commands and the end answer, once a family was chosen
unfoldable pub answers_to : Meaning → List ℕ → List Placed → End → ℕ → State → List Answer
answers_to m card [] end long s = ended end long s.job
answers_to m card (p ∷ ps) end long s =
    replies p.place (obeyed m card p.order s).0 ++ answers_to m card ps end long (obeyed m card p.order s).1

-- and before: every command is refused until one chooses a family
unfoldable pub answers_before : List ℕ → List Placed → End → ℕ → State → List Answer
answers_before card [] end long s = ended end long None
answers_before card (p ∷ ps) end long s =
    elim (chosen p.order) [
      | Some family ↦ answers_to (meaning_of family) card ps end long s
      | None ↦ Refused (refusal.Session session.Choice) p.place ∷ answers_before card ps end long s
    ]
