-- Worked examples: tags of two words, and root tags under a card of ones.
use Rattle.std.specs.Prelude.{◌≡◌, ℕ, List, [], ◌∷◌, replicate}
use Rattle.families.specs.Meanings.{Meaning}
use Rattle.families.specs.Pairs.{nh, nhs}
use Rattle.families.specs.Dots.{mmh_star, mmh}
use Rattle.jobs.specs.Roots.{root_tag}

-- the tag of a message of two words under a key of two words
abbrev pub of_pair : Meaning → ℕ → ℕ → ℕ → ℕ → ℕ
of_pair m k l x y = m.tag (k ∷ l ∷ []) (x ∷ y ∷ [])

-- the root tag of NH under a card of ones
abbrev pub under_ones : ℕ → List ℕ → ℕ
under_ones label doc = root_tag nh (replicate 164 1) (record { label = label; document = doc })

pub record WorkedExamples : Type 0 where
  pub nh_largest : of_pair nh 0 0 4294967295 4294967295 ≡ 18446744065119617025
  pub nhs_largest : of_pair nhs 0 0 4294967295 4294967295 ≡ 1
  pub nh_middle : of_pair nh 0 0 2147483648 1 ≡ 2147483648
  pub nhs_middle : of_pair nhs 0 0 2147483648 1 ≡ 18446744071562067968
  pub star_largest : of_pair mmh_star 4294967295 4294967295 4294967295 4294967295 ≡ 512
  pub mmh_largest : of_pair mmh 4294967295 4294967295 4294967295 4294967295 ≡ 287
  pub star_square : of_pair mmh_star 65536 0 65536 0 ≡ 4294967296
  pub mmh_square : of_pair mmh 65536 0 65536 0 ≡ 0
  -- two values of one key word, at which two messages have equal tags
  pub nhs_first : of_pair nhs 2147483647 1 0 0 ≡ of_pair nhs 2147483647 1 2147483648 2147483648
  pub nhs_second : of_pair nhs 2147483649 1 0 0 ≡ of_pair nhs 2147483649 1 2147483648 2147483648
  pub empty_0 : under_ones 0 [] ≡ 6
  pub empty_7 : under_ones 7 [] ≡ 13
  pub byte_2 : under_ones 0 (2 ∷ []) ≡ 10
  pub byte_0 : under_ones 0 (0 ∷ []) ≡ 8
