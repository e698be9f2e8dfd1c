-- Where two jobs collide, and how few values of one card word let them.
use Rattle.std.specs.Prelude.{◌≡◌, ℕ, zero, suc, ◌+◌, ◌*◌, ◌%◌, ◌^◌, ◌<◌, ◌≢◌, List, [], length, get_or, take, drop, slice_index, slice_index_or, slice_set}
use Rattle.families.specs.Counting.{AtMost}
use Rattle.families.specs.Meanings.{Meaning}
use Rattle.jobs.specs.Roots.{Job, block_tag, first_words, next_words, level_tags, root_list, root_tag}

-- what enters level n + 1, in blocks of words
abbrev pub entering : Meaning → ℕ → List ℕ → List ℕ → List (List ℕ)
entering m zero card doc = first_words doc
entering m (suc n) card doc = next_words (level_tags m n card doc)

-- i is the first place where two lists of blocks differ
pub record FirstApart (xs ys : List (List ℕ)) (i : ℕ) : Type 0 where
  pub within : i < length xs
  pub within' : i < length ys
  pub before : take i xs ≡ take i ys
  pub apart : get_or xs i [] ≢ slice_index_or ys i []

-- Where the jobs a and b collide with difference d: the place of the card where the key words begin, and the two
-- lists of words that collide, that of a first.
pub data Place (m : Meaning) (card : List ℕ) (d : ℕ) (a b : Job) : ℕ → List ℕ → List ℕ → Type 0 where
  -- the root lists differ, and the root tags differ by d
  root : root_list m card a ≢ root_list m card b → root_tag m card a ≡ (root_tag m card b + d) % m.modulus
      → Place m card d a b 160 (root_list m card a) (root_list m card b)
  -- the root lists agree, and the first block that differs at level n + 1 gets equal tags
  level : (n i : ℕ) → n < 5 → d ≡ 0 → root_list m card a ≡ root_list m card b
      → FirstApart (entering m n card a.document) (entering m n card b.document) i
      → block_tag m (drop (32 * n) card) (slice_index_or (entering m n card a.document) i []) ≡ block_tag m (drop (32 * n) card) (slice_index_or (entering m n card b.document) i [])
      → Place m card d a b (32 * n) (slice_index_or (entering m n card a.document) i []) (slice_index_or (entering m n card b.document) i [])

-- the key words of a list of words, from a place of the card on
abbrev pub keys_from : List ℕ → ℕ → List ℕ → List ℕ
keys_from card start ws = take (length ws) (drop start card)

-- the word v, put at this place of the card with all its other words kept, makes the tag of xs that of ys plus d
abbrev pub Lets : Meaning → List ℕ → ℕ → ℕ → List ℕ → List ℕ → ℕ → ℕ → Type 0
Lets m card start place xs ys d v =
    (v < 2 ^ 32) × (m.tag (keys_from (slice_set card place v) start xs) xs ≡ (m.tag (keys_from (slice_set card place v) start ys) ys + d) % m.modulus)

-- The jobs a and b collide with difference d: at the root, or at one level. The card word at the pivot of the two
-- lists is among the words that let them collide, and at most `count` words are.
pub record Collision (m : Meaning) (count : ℕ) (card : List ℕ) (d : ℕ) (a b : Job) : Type 0 where
  pub start : ℕ
  pub xs : List ℕ
  pub ys : List ℕ
  pub at : Place m card d a b start xs ys
  pub differ : xs ≢ ys
  pub inside : start + m.pivot xs ys < 164
  pub holds : Lets m card start (start + m.pivot xs ys) xs ys d (slice_index card (start + m.pivot xs ys))
  pub few : AtMost count (Lets m card start (start + m.pivot xs ys) xs ys d)
