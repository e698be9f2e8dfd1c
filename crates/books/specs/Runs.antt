-- Runs: calls on the two books in any order, granted or refused.
use Rattle.std.specs.Prelude.{◌≡◌, ℕ, cond, ◌&&◌, List, [], ◌∷◌, length, Ok, Err, Result}
use Rattle.jobs.specs.Roots.{Job, Proper}
use Rattle.books.specs.Office.{Office, opened, taken, sealed, struck, called_in}
use Rattle.books.specs.Opening.{fits}
use Rattle.books.specs.Table.{Table, laid, checked}
use Rattle.books.specs.declared.pad.Pad.{Pad}
use Rattle.books.specs.declared.refusals.CheckError.{CheckError}
use Rattle.books.specs.declared.refusals.NoneOut.{NoneOut}
use Rattle.books.specs.declared.refusals.PadCountError.{PadCountError}
use Rattle.books.specs.declared.refusals.TakeError.{TakeError}
use Rattle.books.specs.declared.refusals.WrongPad.{WrongPad}

-- the books of the two ends
pub record Books : Type 0 where
  pub office : Office
  pub table : Table

abbrev pub started : List ℕ → List ℕ → Books
started ps qs = record { office = opened ps; table = laid qs }

-- what opening both answers
abbrev pub starting : List ℕ → List ℕ → Result Books PadCountError
starting ps qs = cond (fits (length ps) && fits (length qs)) (Ok (started ps qs)) (Err (record {}))

-- A call with what it brings, and its answer. A sealing brings a pad and a job; a check brings a job, a number and a tag.
pub data Event : Type 0 where
  take : Result Pad TakeError → Event
  seal : Pad → Job → Result (ℕ × ℕ) WrongPad → Event
  strike : Pad → Result (Unit {0}) WrongPad → Event
  call_in : Result ℕ NoneOut → Event
  check : Job → ℕ → ℕ → Result (Unit {0}) CheckError → Event

-- under a family's modulus, with the root tag of each job
module _ (modulus : ℕ) (root : Job → ℕ) where
  -- what the contracts of the calls say of answer and books; every closed job stands for a proper one
  abbrev pub Step : Books → Event → Books → Type 0
  Step b (take r) c = (r ≡ (taken b.office).0) × (c.office ≡ (taken b.office).1) × (c.table ≡ b.table)
  Step b (seal p j r) c =
      (r ≡ (sealed modulus (root j) p b.office).0) × (c.office ≡ (sealed modulus (root j) p b.office).1)
      × (c.table ≡ b.table)
      × Proper j
  Step b (strike p r) c = (r ≡ (struck p b.office).0) × (c.office ≡ (struck p b.office).1) × (c.table ≡ b.table)
  Step b (call_in r) c = (r ≡ (called_in b.office).0) × (c.office ≡ (called_in b.office).1) × (c.table ≡ b.table)
  Step b (check j n t r) c =
      (r ≡ (checked modulus (root j) n t b.table).0) × (c.office ≡ b.office)
      × (c.table ≡ (checked modulus (root j) n t b.table).1)
      × Proper j

  -- from the books b through these events to the books d
  abbrev pub Run : Books → List Event → Books → Type 0
  Run b [] d = d ≡ b
  Run b (e ∷ es) d = (c : Books) × Step b e c × Run c es d
