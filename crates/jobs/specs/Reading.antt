-- Bytes and tags as words.
use Rattle.std.specs.Prelude.{ℕ, ◌+◌, ◌*◌, ◌/◌, ◌%◌, ◌^◌, ◌<◌, List, [], ◌∷◌, map, length, slice_index}
use Rattle.std.specs.List.{range_with_len, flat_map, AllByRecursion}

-- each is a byte
abbrev pub Bytes : List ℕ → Type 0
Bytes bs = AllByRecursion (λ b. b < 256) bs

-- the word at place i of some bytes, lowest byte first; bytes past the end are zero
abbrev pub word_at : List ℕ → ℕ → ℕ
word_at bs i =
    slice_index bs (4 * i) + slice_index bs (4 * i + 1) * 256 + slice_index bs (4 * i + 2) * 65536 + slice_index bs (4 * i + 3) * 16777216

-- the first n words of some bytes
unfoldable pub words_of : ℕ → List ℕ → List ℕ
words_of n bs = map (word_at bs) (range_with_len 0 n)

-- bytes as words, filled with zero bytes to a multiple of eight
abbrev pub byte_words : List ℕ → List ℕ
byte_words bs = words_of (2 * ((length bs + 7) / 8)) bs

-- a tag as two words, the low one first
abbrev pub tag_words : ℕ → List ℕ
tag_words t = t % 2 ^ 32 ∷ t / 2 ^ 32 ∷ []

-- tags as words, two for each
abbrev pub tags_words : List ℕ → List ℕ
tags_words ts = flat_map tag_words ts
