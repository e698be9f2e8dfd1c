-- The root tag of a job under a key card.
use Rattle.std.specs.Prelude.{◌≡◌, ℕ, zero, suc, ◌^◌, ◌<◌, ◌≤◌, List, [], ◌∷◌, ◌++◌, map, length, take, drop, slice_index}
use Rattle.families.specs.Meanings.{Meaning, Words}
use Rattle.jobs.specs.Cutting.{blocks}
use Rattle.jobs.specs.Reading.{Bytes, byte_words, tag_words, tags_words}

-- A key card: 164 secret words that the office and the cutting table share. Levels 1 to 5 have 32 words each,
-- in order, and the root has the last four.
pub record Card (card : List ℕ) : Type 0 where
  pub long : length card ≡ 164
  pub words : Words card

-- A job: a label and a document.
pub record Job : Type 0 where
  pub label : ℕ
  pub document : List ℕ

-- the label is one word, and the document at most 8,388,608 bytes
pub record Proper (job : Job) : Type 0 where
  pub label_word : job.label < 2 ^ 32
  pub bytes : Bytes job.document
  pub long : length job.document ≤ 8388608

-- the tag of a block of words, under as many words of its level's stretch of the card, which begins ks
abbrev pub block_tag : Meaning → List ℕ → List ℕ → ℕ
block_tag m ks ws = m.tag (take (length ws) (take 32 ks)) ws

-- what enters level 1: the document in blocks of 128 bytes, each as words
unfoldable pub first_words : List ℕ → List (List ℕ)
first_words doc = map byte_words (blocks 128 doc)

-- what enters a level above the first: the tags below in blocks of 16, each as words
unfoldable pub next_words : List ℕ → List (List ℕ)
next_words ts = map tags_words (blocks 16 ts)

-- the tags that n further levels make of the tags ts; the stretch of the lowest begins ks
abbrev pub climb : Meaning → ℕ → List ℕ → List ℕ → List ℕ
climb m zero ks ts = ts
climb m (suc n) ks ts = climb m n (drop 32 ks) (map (block_tag m ks) (next_words ts))

-- the tags of level n + 1
unfoldable pub level_tags : Meaning → ℕ → List ℕ → List ℕ → List ℕ
level_tags m n card doc = climb m n (drop 32 card) (map (block_tag m card) (first_words doc))

-- the one tag of level 5
unfoldable pub top_tag : Meaning → List ℕ → List ℕ → ℕ
top_tag m card doc = slice_index (level_tags m 4 card doc) 0

-- the root list of a document's top tag and length, and a label
abbrev pub root_words : ℕ → ℕ → ℕ → List ℕ
root_words top len label = tag_words top ++ len ∷ label ∷ []

abbrev pub root_list : Meaning → List ℕ → Job → List ℕ
root_list m card job = root_words (top_tag m card job.document) (length job.document) job.label

-- the root tag: that of the root list under the card's last four words
abbrev pub root_tag : Meaning → List ℕ → Job → ℕ
root_tag m card job = m.tag (drop 160 card) (root_list m card job)
