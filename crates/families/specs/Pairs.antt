-- The families that multiply the two words of a pair.
use Rattle.std.specs.Prelude.{ℕ, suc, ◌+◌, ◌-◌, ◌*◌, ◌%◌, ◌^◌, List, [], ◌∷◌, ℤ, pos, negsuc, ◌+ℤ◌, ◌*ℤ◌}
use Rattle.std.proofs.Common.{to_z}
use Rattle.std.specs.Int.{int_wrap, w32}
use Rattle.families.specs.Meanings.{Meaning}
use Rattle.families.specs.Places.{difference, partner}

-- the sum over the pairs of a key and a message: a pair with the key words k and l and the message words x and y
-- gives f k x l y
abbrev pub pair_sum : (ℕ → ℕ → ℕ → ℕ → ℕ) → List ℕ → List ℕ → ℕ
pair_sum f [] xs = 0
pair_sum f (k ∷ []) xs = 0
pair_sum f (k ∷ l ∷ ks) [] = 0
pair_sum f (k ∷ l ∷ ks) (x ∷ []) = 0
pair_sum f (k ∷ l ∷ ks) (x ∷ y ∷ xs) = f k x l y + pair_sum f ks xs

-- the family in which a pair gives f: the pivot is the partner of the first place where the messages differ
abbrev pub paired : (ℕ → ℕ → ℕ → ℕ → ℕ) → Meaning
paired f = record {
  modulus = 2 ^ 64;
  tag = λ ks xs. pair_sum f ks xs % 2 ^ 64;
  pivot = λ xs ys. partner (difference xs ys);
}

-- a pair of NH gives the product of two sums modulo 2^32
abbrev pub product : ℕ → ℕ → ℕ → ℕ → ℕ
product k x l y = ((k + x) % 2 ^ 32) * ((l + y) % 2 ^ 32)

abbrev pub nh : Meaning
nh = paired product

-- the sum of two words, each read as a signed number from -2^31 to 2^31 - 1, wrapped into that range
abbrev pub signed_sum : ℕ → ℕ → ℤ
signed_sum k x = int_wrap w32 (to_z w32 k +ℤ to_z w32 x)

-- z modulo 2^64
abbrev pub residue : ℤ → ℕ
residue (pos n) = n % 2 ^ 64
residue (negsuc n) = 2 ^ 64 - suc (n % 2 ^ 64)

-- a pair of NHS gives the product of two signed sums, modulo 2^64
abbrev pub signed_product : ℕ → ℕ → ℕ → ℕ → ℕ
signed_product k x l y = residue (signed_sum k x *ℤ signed_sum l y)

abbrev pub nhs : Meaning
nhs = paired signed_product
