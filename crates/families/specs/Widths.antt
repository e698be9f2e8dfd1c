-- Which keys and messages have a tag.
use Rattle.std.specs.Prelude.{ℕ, ◌%◌, Bool, cond, ◌&&◌, List, length, Ok, Err, Result, ◌==◌, nat_le}
use Rattle.families.specs.Meanings.{Meaning}
use Rattle.families.specs.declared.width.WidthError.{WidthError}

-- whether a family takes k key words with n message words: as many of both, an even number, at most 32
abbrev pub takes : ℕ → ℕ → Bool
takes k n = k == n && (n % 2 == 0 && nat_le n 32)

-- what the check of the two lengths answers
abbrev pub checked : ℕ → ℕ → Result (Unit {0}) WidthError
checked k n = cond (takes k n) (Ok tt) (Err (record {}))

-- what a family answers: the tag, or the refusal where it does not take the lengths
abbrev pub tagged : Meaning → List ℕ → List ℕ → Result ℕ WidthError
tagged m ks xs = cond (takes (length ks) (length xs)) (Ok (m.tag ks xs)) (Err (record {}))
