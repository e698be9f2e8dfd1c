-- A run with every kind of event, granted and refused.
use Rattle.std.specs.Prelude.{ℕ, ◌+◌, ◌%◌, List, [], ◌∷◌, Ok, Err}
use Rattle.families.specs.Meanings.{Meaning, Lawful}
use Rattle.jobs.specs.Roots.{Job, Proper, root_tag}
use Rattle.books.specs.Runs.{Books, Event, Run, started}
use Rattle.books.specs.Runs.Event.{take, seal, strike, call_in, check}
use Rattle.books.specs.declared.pad.Pad.{Pad}
use Rattle.books.specs.declared.refusals.CheckError.TheVariants.{OldNumber}
use Rattle.books.specs.declared.refusals.TakeError.TheVariants.{PadOut, AllTaken}

abbrev pub three : List ℕ
three = 5 ∷ 6 ∷ 7 ∷ []

abbrev pub pad_of : ℕ → ℕ → Pad
pad_of number value = record { number = number; value = value }

-- number 0 is sealed and accepted, number 1 struck, number 2 called in
abbrev pub sample : Job → ℕ → List Event
sample job tag =
    take (Ok (pad_of 0 5)) ∷ take (Err PadOut) ∷ seal (pad_of 0 5) job (Ok (0, tag)) ∷ check job 0 tag (Ok tt) ∷ check job 0 tag (Err OldNumber)
    ∷ take (Ok (pad_of 1 6)) ∷ strike (pad_of 1 6) (Ok tt)
    ∷ take (Ok (pad_of 2 7)) ∷ call_in (Ok 2) ∷ seal (pad_of 2 7) job (Err (record {})) ∷ call_in (Err (record {})) ∷ take (Err AllTaken) ∷ []

abbrev pub RunExists : Type 0
RunExists =
    (m : Meaning) (count : ℕ) →
    Lawful m count →
    (card : List ℕ) (job : Job) →
    Proper job →
    (d : Books) × Run m.modulus (root_tag m card) (started three three) (sample job ((root_tag m card job + 5) % m.modulus)) d
