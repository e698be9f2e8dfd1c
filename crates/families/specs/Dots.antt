-- The families that reduce the sum of the products of key and message words.
use Rattle.std.specs.Prelude.{ℕ, ◌+◌, ◌*◌, ◌%◌, ◌^◌, List, [], ◌∷◌}
use Rattle.families.specs.Meanings.{Meaning}
use Rattle.families.specs.Places.{difference}

-- the sum of the products of the words at one place
abbrev pub dot : List ℕ → List ℕ → ℕ
dot [] xs = 0
dot (k ∷ ks) [] = 0
dot (k ∷ ks) (x ∷ xs) = k * x + dot ks xs

-- what a pair adds to that sum
abbrev pub products : ℕ → ℕ → ℕ → ℕ → ℕ
products k x l y = k * x + l * y

-- the family whose tag is g of the sum, below a modulus: the pivot is the first place where the messages differ
abbrev pub dotted : (ℕ → ℕ) → ℕ → Meaning
dotted g modulus = record { modulus = modulus; tag = λ ks xs. g (dot ks xs); pivot = difference }

-- MMH* reduces modulo 2^32 + 15, a prime
abbrev pub star_reduced : ℕ → ℕ
star_reduced s = s % 4294967311

abbrev pub mmh_star : Meaning
mmh_star = dotted star_reduced 4294967311

-- MMH reduces the whole sum once: modulo 2^64, then 2^32 + 15, then 2^32
abbrev pub mmh_reduced : ℕ → ℕ
mmh_reduced s = s % 2 ^ 64 % 4294967311 % 2 ^ 32

abbrev pub mmh : Meaning
mmh = dotted mmh_reduced (2 ^ 32)
