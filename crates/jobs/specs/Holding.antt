-- What the state of an open job stands for.
use Rattle.std.specs.Prelude.{◌≡◌, ℕ, ◌<◌, List, [], ◌∷◌, map, length, drop}
use Rattle.families.specs.Meanings.{Meaning}
use Rattle.jobs.specs.Cutting.{Split}
use Rattle.jobs.specs.Reading.{byte_words, tags_words}
use Rattle.jobs.specs.Roots.{block_tag}
use Rattle.jobs.specs.declared.state.Level.{Level}
use Rattle.jobs.specs.declared.state.Stream.{Stream}

-- the tag of a block of bytes, and of a block of tags
abbrev pub bytes_tag : Meaning → List ℕ → List ℕ → ℕ
bytes_tag m ks bs = block_tag m ks (byte_words bs)

abbrev pub tags_tag : Meaning → List ℕ → List ℕ → ℕ
tags_tag m ks ts = block_tag m ks (tags_words ts)

-- A level, whose stretch begins the words ks, that took the tags ts and handed on the tags ups. A full block waits for the
-- next tag, so something waits as soon as a tag came.
pub record LevelHolds (m : Meaning) (ks : List ℕ) (l : Level) (ts ups : List ℕ) : Type 0 where
  pub whole : List (List ℕ)
  pub rest : List ℕ
  pub split : Split 16 ts whole rest
  pub waits : 0 < length ts → 0 < length rest
  pub words : l.tags ≡ tags_words rest
  pub passed : ups ≡ map (tags_tag m ks) whole

-- levels above one another; what the last hands on is let go
abbrev pub LevelsHold : Meaning → List ℕ → List Level → List ℕ → Type 0
LevelsHold m ks [] ts = Unit {0}
LevelsHold m ks (l ∷ ls) ts = (ups : List ℕ) × LevelHolds m ks l ts ups × LevelsHold m (drop 32 ks) ls ups

-- a stream that took the bytes doc
pub record StreamHolds {F : Type 0} (m : Meaning) (card : List ℕ) (s : Stream F) (doc : List ℕ) : Type 0 where
  pub whole : List (List ℕ)
  pub split : Split 128 doc whole s.block
  pub above : LevelsHold m (drop 32 card) s.levels (map (bytes_tag m card) whole)
