-- Laws of blocks and root lists, in the words of the subject.
use Rattle.std.specs.Prelude.{◌≡◌, ℕ, ◌<◌, ◌≢◌, ◌⊎◌, List, [], ◌∷◌, ◌++◌, length}
use Rattle.families.specs.Meanings.{Meaning}
use Rattle.jobs.specs.Cutting.{blocks, Split}
use Rattle.jobs.specs.Roots.{Job, Proper, first_words, level_tags, root_list}

-- the blocks of xs: all but the last are full, the last is empty only where xs is, and joined they are xs
pub record CutWell (n : ℕ) (xs : List ℕ) : Type 0 where
  pub whole : List (List ℕ)
  pub rest : List ℕ
  pub are : blocks n xs ≡ whole ++ rest ∷ []
  pub split : Split n xs whole rest
  pub some : 0 < length xs → 0 < length rest

abbrev pub BlocksJoin : Type 0
BlocksJoin = (n : ℕ) (xs : List ℕ) → 0 < n → CutWell n xs

-- level 5 gives exactly one tag
abbrev pub OneTop : Meaning → Type 0
OneTop m = (card : List ℕ) (job : Job) → Proper job → length (level_tags m 4 card job.document) ≡ 1

-- two different jobs have different root lists, or different words enter level 1
abbrev pub JobsApart : Meaning → Type 0
JobsApart m =
    (card : List ℕ) (a b : Job) → Proper a → Proper b → a ≢ b
    → (root_list m card a ≢ root_list m card b) ⊎ (first_words a.document ≢ first_words b.document)
