-- How many numbers have a property, at most.
use Rattle.std.specs.Prelude.{ℕ, ◌≤◌, ◌≢◌, List, [], ◌∷◌, length}
use Rattle.std.specs.List.{AllByRecursion}

-- no number stands twice in the list
abbrev pub Distinct : List ℕ → Type 0
Distinct [] = Unit {0}
Distinct (v ∷ vs) = AllByRecursion (λ w. v ≢ w) vs × Distinct vs

-- at most n numbers have P: a list of distinct numbers that all have it is no longer than n
abbrev pub AtMost : ℕ → (ℕ → Type 0) → Type 0
AtMost n P = (vs : List ℕ) → Distinct vs → AllByRecursion P vs → length vs ≤ n
