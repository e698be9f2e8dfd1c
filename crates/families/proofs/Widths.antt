-- The lengths that a family takes, as facts.
use Rattle.std.proofs.Common.{◌≡◌, ℕ, ◌%◌, ◌≤◌, true, List, length, Ok, ◌∙◌, arith}
use Rattle.families.specs.Meanings.{Meaning, Sized}
use Rattle.families.specs.Widths.{takes, tagged}

pub takes_true : (k n : ℕ) → k ≡ n → n % 2 ≡ 0 → n ≤ 32 → takes k n ≡ true
takes_true k n same even short = grind arith

-- a family has a tag for a key and a message that it takes
pub tagged_sized : (m : Meaning) (ks xs : List ℕ) → Sized ks xs → tagged m ks xs ≡ Ok (m.tag ks xs)
tagged_sized m ks xs s = rw (takes_true (length ks) (length xs) s.same s.even s.short)

-- and the tag that it gave is the defined one
pub tag_given : (m : Meaning) (ks xs : List ℕ) (t : ℕ) → Sized ks xs → Ok t ≡ tagged m ks xs → t ≡ m.tag ks xs
tag_given m ks xs t s was = let e = was ∙ tagged_sized m ks xs s in cc
