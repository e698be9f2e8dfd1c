-- The list of struck numbers.
use Rattle.std.specs.Prelude.{◌≡◌, ℕ, ◌+◌, cond, List, [], ◌∷◌, length, take, drop, Ok, Err, Result, nat_lt, slice_index_or}
use Rattle.books.specs.Counting.{times}
use Rattle.books.specs.Fates.{fate_is}
use Rattle.books.specs.declared.fate.Fate.{Fate}
use Rattle.books.specs.declared.fate.Fate.TheVariants.{Unspent, Struck}
use Rattle.books.specs.declared.refusals.FewPlaces.{FewPlaces}

-- how many numbers are struck
abbrev pub struck_count : List Fate → ℕ
struck_count [] = 0
struck_count (fate ∷ fates) = cond (fate_is Struck fate) 1 0 + struck_count fates

-- what listing into so many places answers
abbrev pub listing : List Fate → ℕ → Result ℕ FewPlaces
listing fates places = cond (nat_lt places (struck_count fates)) (Err (record {})) (Ok (struck_count fates))

-- the first k places hold each struck number once, in an order left open, and the others are as they were
pub record Listed (fates : List Fate) (before after : List ℕ) (k : ℕ) : Type 0 where
  pub count : k ≡ struck_count fates
  pub each : (n : ℕ) → times n (take k after) ≡ cond (fate_is Struck (slice_index_or fates n Unspent)) 1 0
  pub rest : drop k after ≡ drop k before
  pub long : length after ≡ length before
