-- What a line grants is a run of the two books.
use Rattle.std.specs.Prelude.{◌≡◌, ℕ, ◌≤◌, List, [], ◌∷◌, ◌++◌, length, Some, None, Ok, Err, Option, Result}
use Rattle.families.specs.Meanings.{Meaning, Lawful}
use Rattle.jobs.specs.Reading.{Bytes, byte_words}
use Rattle.jobs.specs.Roots.{Card, Job, root_tag}
use Rattle.pads.specs.Stored.{pads_of}
use Rattle.books.specs.Counting.{times}
use Rattle.books.specs.Law.{Once, Collides}
use Rattle.books.specs.Office.{Office, taken, sealed, struck}
use Rattle.books.specs.Runs.{Books, Event, Run, started}
use Rattle.books.specs.Runs.Event.{take, seal, strike, call_in, check}
use Rattle.books.specs.Table.{checked}
use Rattle.books.specs.declared.pad.Pad.{Pad}
use Rattle.books.specs.declared.refusals.TakeError.{TakeError}
use Rattle.families.specs.Names.{meaning_of}
use Rattle.line.specs.Choices.{chosen}
use Rattle.line.specs.Commands.{Order, Placed, read_at}
use Rattle.line.specs.Commands.Order.{choose, open_job, feed_byte, feed_block, seal_job, strike_pad, check_job}
use Rattle.line.specs.Lines.{line_answers, at_first}
use Rattle.line.specs.Sessions.{State, obeyed}
use Rattle.line.specs.declared.answer.Answer.{Answer}
use Rattle.line.specs.declared.answer.Answer.TheVariants.{Sealed, Struck, Accepted, Refused}
use Rattle.families.specs.declared.name.FamilyName.{FamilyName}
use Rattle.std.specs.List.{flat_map}

-- ---- the calls on the books

-- sealing a job: taking a pad, and sealing with it where one was given out
abbrev pub seal_calls : (modulus root : ℕ) → Job → Result Pad TakeError → Office → List Event
seal_calls modulus root job (Err e) office = take (Err e) ∷ []
seal_calls modulus root job (Ok pad) office = take (Ok pad) ∷ seal pad job (sealed modulus root pad office).0 ∷ []

abbrev pub strike_calls : Result Pad TakeError → Office → List Event
strike_calls (Err e) office = take (Err e) ∷ []
strike_calls (Ok pad) office = take (Ok pad) ∷ strike pad (struck pad office).0 ∷ []

-- with no job open there is nothing to seal or check
abbrev pub seal_calls_of : Meaning → List ℕ → Option Job → Office → List Event
seal_calls_of m card None office = []
seal_calls_of m card (Some job) office = seal_calls m.modulus (root_tag m card job) job (taken office).0 (taken office).1

abbrev pub check_calls_of : Meaning → List ℕ → Option Job → ℕ → ℕ → State → List Event
check_calls_of m card None number tag s = []
check_calls_of m card (Some job) number tag s =
    check job number tag (checked m.modulus (root_tag m card job) number tag s.books.table).0 ∷ []

-- the calls that a command makes
abbrev pub calls : Meaning → List ℕ → Order → State → List Event
calls m card (choose family) s = []
calls m card (open_job label) s = []
calls m card (feed_byte byte) s = []
calls m card (feed_block bytes) s = []
calls m card seal_job s = seal_calls_of m card s.job s.books.office
calls m card strike_pad s = strike_calls (taken s.books.office).0 (taken s.books.office).1
calls m card (check_job number tag) s = check_calls_of m card s.job number tag s

-- those of a list of commands, each in the state that the commands before it leave
unfoldable pub calls_to : Meaning → List ℕ → List Placed → State → List Event
calls_to m card [] s = []
calls_to m card (p ∷ ps) s = calls m card p.order s ++ calls_to m card ps (obeyed m card p.order s).1

-- those behind the choice of a family
unfoldable pub calls_in : List ℕ → List Placed → State → List Event
calls_in card [] s = []
calls_in card (p ∷ ps) s = elim (chosen p.order) [ Some family ↦ calls_to (meaning_of family) card ps s | None ↦ calls_in card ps s ]

-- the family that is chosen
unfoldable pub chosen_in : List Placed → Option FamilyName
chosen_in [] = None
chosen_in (p ∷ ps) = elim (chosen p.order) [ Some family ↦ Some family | None ↦ chosen_in ps ]

-- ---- what is granted

-- the answer to a call that was granted, but for a taking, which a seal or a strike answers
abbrev pub granted_by : Event → List Answer
granted_by (take r) = []
granted_by (seal p j (Ok x)) = Sealed x.0 x.1 ∷ []
granted_by (seal p j (Err e)) = []
granted_by (strike p (Ok u)) = Struck p.number ∷ []
granted_by (strike p (Err e)) = []
granted_by (call_in r) = []
granted_by (check j n t (Ok u)) = Accepted n ∷ []
granted_by (check j n t (Err e)) = []

-- an answer that is no refusal
abbrev pub grants : Answer → List Answer
grants (Sealed number tag) = Sealed number tag ∷ []
grants (Struck number) = Struck number ∷ []
grants (Accepted number) = Accepted number ∷ []
grants (Refused refusal place) = []

-- the number that an answer seals, or accepts
abbrev pub sealing : Answer → List ℕ
sealing (Sealed number tag) = number ∷ []
sealing (Struck number) = []
sealing (Accepted number) = []
sealing (Refused refusal place) = []

abbrev pub accepting : Answer → List ℕ
accepting (Sealed number tag) = []
accepting (Struck number) = []
accepting (Accepted number) = number ∷ []
accepting (Refused refusal place) = []

-- ---- the law

-- What a line over a card and pads does once it chooses a family: its calls are a run of the opened books, it answers
-- what they grant, in order, and the law over runs holds of it. So it seals no number twice and accepts none twice, and
-- where it accepts a job other than the one sealed under that number, the two jobs collide.
pub record LineLaw (m : Meaning) (count : ℕ) (card pads : List ℕ) (events : List Event) (answers : List Answer) : Type 0 where
  pub after : Books
  pub run : Run m.modulus (root_tag m card) (started pads pads) events after
  pub granted : flat_map grants answers ≡ flat_map granted_by events
  pub once : Once events after
  pub forged : Collides m count card events
  pub sealed_once : (n : ℕ) → times n (flat_map sealing answers) ≤ 1
  pub accepted_once : (n : ℕ) → times n (flat_map accepting answers) ≤ 1

-- by the family that it chooses; without a choice nothing is granted
abbrev pub LawBy : Option FamilyName → (card pads line : List ℕ) → Type 0
LawBy None card pads line = flat_map grants (line_answers card pads line) ≡ []
LawBy (Some family) card pads line =
    (count : ℕ) →
    Lawful (meaning_of family) count →
    LineLaw (meaning_of family) count card pads (calls_in card (read_at line 0).commands (at_first pads)) (line_answers card pads line)

abbrev pub LinesLawful : Type 0
LinesLawful =
    (card pads line : List ℕ) → Card card → length pads ≤ 256 → Bytes line → LawBy (chosen_in (read_at line 0).commands) card pads line

-- of a card and a sheet in bytes
abbrev pub LineLawful : (card sheet line : List ℕ) → Type 0
LineLawful card sheet line = LawBy (chosen_in (read_at line 0).commands) (byte_words card) (pads_of sheet) line
