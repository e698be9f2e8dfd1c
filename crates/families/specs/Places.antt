-- Places in lists of words.
use Rattle.std.specs.Prelude.{ℕ, zero, suc, cond, List, [], ◌∷◌, ◌==◌}

-- the first place where two lists differ
abbrev pub difference : List ℕ → List ℕ → ℕ
difference [] ys = 0
difference (x ∷ xs) [] = 0
difference (x ∷ xs) (y ∷ ys) = cond (x == y) (suc (difference xs ys)) 0

-- the other place of a pair; places 0 and 1 are a pair, 2 and 3, and so on
abbrev pub partner : ℕ → ℕ
partner zero = 1
partner (suc zero) = 0
partner (suc (suc i)) = suc (suc (partner i))
