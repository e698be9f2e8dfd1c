-- What a source of pads answers.
use Rattle.std.specs.Prelude.{ℕ, ◌+◌, ◌%◌, ◌^◌, cond, List, [], ◌∷◌, length, Ok, Err, Result, nat_lt, slice_index}
use Rattle.pads.specs.declared.source.NoSuchPad.{NoSuchPad}

-- the pad of this number, or the refusal of a number that is not below the list's length
abbrev pub asked : List ℕ → ℕ → Result ℕ NoSuchPad
asked pads number = cond (nat_lt number (length pads)) (Ok (slice_index pads number)) (Err (record {}))

-- pads that are split over two lists: each the sum of the two, modulo 2^64, as far as both lists go
abbrev pub summed : List ℕ → List ℕ → List ℕ
summed [] ys = []
summed (x ∷ xs) [] = []
summed (x ∷ xs) (y ∷ ys) = (x + y) % 2 ^ 64 ∷ summed xs ys
