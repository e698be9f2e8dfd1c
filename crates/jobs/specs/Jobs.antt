-- What an open and a closed job stand for, and what the calls on them answer.
use Rattle.std.specs.Prelude.{◌≡◌, ℕ, ◌+◌, ◌<◌, cond, ◌≢◌, List, [], ◌++◌, length, Ok, Err, Result, MatchResult, ◌==◌, nat_le}
use Rattle.families.specs.Meanings.{Meaning}
use Rattle.families.specs.declared.family.Family.{Ghosts}
use Rattle.jobs.specs.Reading.{byte_words}
use Rattle.jobs.specs.Roots.{Card, Job, Proper, root_tag}
use Rattle.jobs.specs.Holding.{StreamHolds}
use Rattle.jobs.specs.declared.card.CardError.{CardError}
use Rattle.jobs.specs.declared.state.OpenJob.{OpenJob}
use Rattle.jobs.specs.declared.state.ClosedJob.{ClosedJob}
use Rattle.jobs.specs.declared.open_job.TooLong.{TooLong}

-- what reading a card from bytes answers: its words, or the refusal of any other number of bytes
abbrev pub card_read : List ℕ → Result (List ℕ) CardError
card_read bytes = cond (length bytes == 656) (Ok (byte_words bytes)) (Err (record {}))

-- an open job on `card` that stands for `job`: its label, and the document as far as it was fed
pub record Holds {F : Type 0} {G : Ghosts F} (m : Meaning) (card : List ℕ) (job : Job) (o : OpenJob F G) : Type 0 where
  pub keyed : Card card
  pub proper : Proper job
  pub on : o.card ≡ card
  pub under : o.label ≡ job.label
  pub long : o.length ≡ length job.document
  pub waits : 0 < length job.document → 0 < length o.stream.block
  pub stream : StreamHolds m card o.stream job.document

-- a closed job on `card` that stands for `job`: it has the job's root tag, label and length
pub record Closed {F : Type 0} (m : Meaning) (card : List ℕ) (job : Job) (closed : ClosedJob F) : Type 0 where
  pub keyed : Card card
  pub proper : Proper job
  pub root : closed.root ≡ root_tag m card job
  pub label : closed.label ≡ job.label
  pub long : closed.length ≡ length job.document

-- a job as it is opened
abbrev pub fresh : ℕ → Job
fresh label = record { label = label; document = [] }

-- a job that is fed a piece
abbrev pub fed : Job → List ℕ → Job
fed job piece = record { label = job.label; document = job.document ++ piece }

-- what opening answers: a job with an empty document, or the refusal of exactly the cards of another length
abbrev pub Opened : {F : Type 0} {G : Ghosts F} → Meaning → List ℕ → ℕ → Result (OpenJob F G) CardError → Type 0
Opened m card label r = MatchResult r (λ o. Holds m card (fresh label) o) (λ _. length card ≢ 164)

-- what feeding answers, by the bytes that the job has and those that come
abbrev pub feed_answer : ℕ → ℕ → Result (Unit {0}) TooLong
feed_answer has more = cond (nat_le (has + more) 8388608) (Ok tt) (Err (record {}))

-- what feeding does, whatever job the open job stands for: the piece comes behind the document, or nothing changes
abbrev pub Fed : {F : Type 0} {G : Ghosts F} → Meaning → OpenJob F G → List ℕ → OpenJob F G → Result (Unit {0}) TooLong → Type 0
Fed m before piece after r =
    MatchResult r (λ _. (card : List ℕ) (job : Job) → Holds m card job before → Holds m card (fed job piece) after) (λ _. after ≡ before)
