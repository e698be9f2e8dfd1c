-- What the table book holds, and what a check answers and leaves.
use Rattle.std.specs.Prelude.{ℕ, ◌+◌, ◌%◌, cond, List, Ok, Err, Result, ◌==◌, nat_lt}
use Rattle.pads.specs.Sources.{asked}
use Rattle.pads.specs.declared.source.NoSuchPad.{NoSuchPad}
use Rattle.books.specs.declared.refusals.CheckError.{CheckError}
use Rattle.books.specs.declared.refusals.CheckError.TheVariants.{Source, OldNumber, NotATag, WrongTag}

-- The table's record: its pads, and the floor, the lowest number that may still be accepted.
pub record Table : Type 0 where
  pub pads : List ℕ
  pub floor : ℕ

abbrev pub laid : List ℕ → Table
laid pads = record { pads = pads; floor = 0 }

-- the number is accepted
abbrev pub passed : ℕ → Table → Table
passed number b = record { pads = b.pads; floor = number + 1 }

-- a check of a job with this root tag, by what the source answers: refused by the source, for an old number, for a
-- number that is no tag, for another tag, in this order
abbrev pub checked_by : Result ℕ NoSuchPad → (modulus root number tag : ℕ) → Table → Result (Unit {0}) CheckError × Table
checked_by (Err e) modulus root number tag b = (Err (Source e), b)
checked_by (Ok pad) modulus root number tag b =
    cond (nat_lt number b.floor) (Err OldNumber, b)
    (cond (nat_lt tag modulus) (cond (tag == (root + pad) % modulus) (Ok tt, passed number b) (Err WrongTag, b)) (Err NotATag, b))

abbrev pub checked : (modulus root number tag : ℕ) → Table → Result (Unit {0}) CheckError × Table
checked modulus root number tag b = checked_by (asked b.pads number) modulus root number tag b
