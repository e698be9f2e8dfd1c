-- What a family of universal hashes computes, and the law that makes it one.
use Rattle.std.specs.Prelude.{◌≡◌, ℕ, ◌+◌, ◌%◌, ◌^◌, ◌<◌, ◌≤◌, ◌≢◌, List, length, slice_set}
use Rattle.std.specs.List.{AllByRecursion}
use Rattle.families.specs.Counting.{AtMost}

-- A family by what it means: tags are below `modulus`; `tag` takes key words and message words;
-- `pivot` takes two messages and names the place of the key that decides how far apart their tags are.
pub record Meaning : Type 0 where
  pub modulus : ℕ
  pub tag : List ℕ → List ℕ → ℕ
  pub pivot : List ℕ → List ℕ → ℕ

-- each is a word: below 2^32
abbrev pub Words : List ℕ → Type 0
Words xs = AllByRecursion (λ x. x < 2 ^ 32) xs

-- the word v, put at the pivot with the other words of the key ks kept, makes the tag of xs that of ys plus d
abbrev pub Yields : Meaning → List ℕ → List ℕ → List ℕ → ℕ → ℕ → Type 0
Yields m ks xs ys d v =
    (v < 2 ^ 32) × (m.tag (slice_set ks (m.pivot xs ys) v) xs ≡ (m.tag (slice_set ks (m.pivot xs ys) v) ys + d) % m.modulus)

-- at most `count` words at the pivot do
unfoldable pub Few : Meaning → ℕ → List ℕ → List ℕ → List ℕ → ℕ → Type 0
Few m count ks xs ys d = AtMost count (Yields m ks xs ys d)

-- a key and a message that a family takes
pub record Sized (ks xs : List ℕ) : Type 0 where
  pub same : length ks ≡ length xs
  pub even : length xs % 2 ≡ 0
  pub short : length xs ≤ 32

-- the law of a family of universal hashes
pub record Lawful (m : Meaning) (count : ℕ) : Type 0 where
  pub modulus_low : 2 ≤ m.modulus
  pub modulus_high : m.modulus ≤ 2 ^ 64
  pub count_low : 1 ≤ count
  pub count_high : count ≤ 65535
  -- every tag is below the modulus
  pub below : (ks xs : List ℕ) → m.tag ks xs < m.modulus
  -- the pivot of two different messages of one even length is a place of their key
  pub inside : (xs ys : List ℕ) → length xs ≡ length ys → length xs % 2 ≡ 0 → xs ≢ ys → m.pivot xs ys < length xs
  -- with every other key word kept, few words at the pivot give two different messages one difference
  pub few : (ks xs ys : List ℕ) (d : ℕ) → Words ks → Words xs → Words ys → Sized ks xs → Sized ks ys → xs ≢ ys → d < m.modulus → Few m count ks xs ys d
