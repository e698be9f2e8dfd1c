-- What a session of the code stands for.
use Rattle.std.specs.Prelude.{◌≡◌, ℕ, List, Some, None, Err, Option, Result, MatchResult}
use Rattle.families.specs.Meanings.{Meaning}
use Rattle.families.specs.declared.family.Family.{Ghosts}
use Rattle.jobs.specs.Roots.{Job}
use Rattle.jobs.specs.Jobs.{Holds, Closed}
use Rattle.jobs.specs.declared.state.ClosedJob.{ClosedJob}
use Rattle.jobs.specs.declared.state.OpenJob.{OpenJob}
use Rattle.books.specs.Views.{office_view, table_view}
use Rattle.line.specs.Sessions.{State, Reply}
use Rattle.line.specs.declared.session.Desk.{Desk}
use Rattle.line.specs.declared.session.Session.{Session}
use Rattle.line.specs.declared.refusal.SessionFault.{SessionFault}
use Rattle.line.specs.declared.refusal.SessionFault.TheVariants as session

-- the job of the code, if one is open, stands for this one
abbrev pub JobStands : {F : Type 0} {G : Ghosts F} → Meaning → List ℕ → Option (OpenJob F G) → Option Job → Type 0
JobStands m card None None = Unit {0}
JobStands m card None (Some job) = ⊥
JobStands m card (Some code) None = ⊥
JobStands m card (Some code) (Some job) = Holds m card job code

-- the session stands for its books and this job
abbrev pub Stands : {F S : Type 0} {G : Ghosts F} → Meaning → Session F S G → Option Job → Type 0
Stands m code job = JobStands m code.desk.card code.job job

-- the state of the books at a desk, with this job open
abbrev pub state_at : {S : Type 0} → (S → List ℕ) → Desk S → Option Job → State
state_at pads desk job = record { books = record { office = office_view pads desk.office; table = table_view pads desk.table }; job = job }

-- the state that a session stands for
abbrev pub state_of : {F S : Type 0} {G : Ghosts F} → (S → List ℕ) → Session F S G → Option Job → State
state_of pads code job = state_at pads code.desk job

-- the session with no job open
abbrev pub idle : {F S : Type 0} {G : Ghosts F} → Session F S G → Session F S G
idle code = record { desk = code.desk; job = None }

-- what ending the open job answers
abbrev pub Ends : {F : Type 0} → Meaning → List ℕ → Option Job → Result (ClosedJob F) SessionFault → Type 0
Ends m card None r = r ≡ Err session.Job
Ends m card (Some job) r = MatchResult r (λ closed. Closed m card job closed) (λ _. ⊥)

-- the session went from one state to another with a reply, as it should
pub record Goes {F S : Type 0} {G : Ghosts F} (pads : S → List ℕ) (m : Meaning) (before after : Session F S G) (reply : Reply) (should : Reply × State) : Type 0 where
  pub same_card : after.desk.card ≡ before.desk.card
  pub replied : reply ≡ should.0
  pub state : state_of pads after should.1.job ≡ should.1
  pub stands : Stands m after should.1.job

-- so it goes for every job that the session may stand for
abbrev pub Does : {F S : Type 0} {G : Ghosts F} → (S → List ℕ) → Meaning → Session F S G → Session F S G → Reply → (State → Reply × State) → Type 0
Does pads m before after reply step =
    (job : Option Job) → Stands m before job → Goes pads m before after reply (step (state_of pads before job))
