-- Lists cut into blocks.
use Rattle.std.specs.Prelude.{◌≡◌, ℕ, zero, suc, ◌-◌, ◌/◌, ◌≤◌, List, [], ◌∷◌, ◌++◌, length, take, drop}
use Rattle.std.specs.List.{flat_map, AllByRecursion}

-- the first `count` blocks of n items
abbrev pub cut : {X : Type 0} → ℕ → ℕ → List X → List (List X)
cut n zero xs = []
cut n (suc count) xs = take n xs ∷ cut n count (drop n xs)

-- a list in blocks of n, the last perhaps shorter; an empty list is one empty block
abbrev pub blocks : {X : Type 0} → ℕ → List X → List (List X)
blocks n xs = cut n (suc ((length xs - 1) / n)) xs

-- a list as whole blocks of n, one behind the other, and a rest of at most n
pub record Split {X : Type 0} (n : ℕ) (xs : List X) (whole : List (List X)) (rest : List X) : Type 0 where
  pub joins : xs ≡ flat_map (λ b. b) whole ++ rest
  pub full : AllByRecursion (λ b. length b ≡ n) whole
  pub short : length rest ≤ n
