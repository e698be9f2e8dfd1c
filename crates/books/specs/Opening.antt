-- How many pads a book is opened over.
use Rattle.std.specs.Prelude.{ℕ, Bool, cond, ◌&&◌, Ok, Err, Result, nat_le}
use Rattle.books.specs.declared.refusals.PadCountError.{PadCountError}

-- 1 to 256
abbrev pub fits : ℕ → Bool
fits count = nat_le 1 count && nat_le count 256

-- what opening a book over so many pads answers
abbrev pub opening : {B : Type 0} → ℕ → B → Result B PadCountError
opening count book = cond (fits count) (Ok book) (Err (record {}))
