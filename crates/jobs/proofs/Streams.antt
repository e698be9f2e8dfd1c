-- What a stream holds, from one part of a document to the next.
use Rattle.std.proofs.Common.{◌≡◌, ℕ, ◌^◌, ◌<◌, ◌≤◌, List, [], ◌∷◌, ◌++◌, map, length, get_or, take, drop, sym, ap, ◌∙◌, subst, arith}
use mathlib.Core.List.{map-map}
use Rattle.std.proofs.lemmas.List.{map_push, length-map}
use Rattle.families.specs.Meanings.{Meaning}
use native.Mathlib.Decide.{dec_lt}
use Rattle.jobs.specs.Cutting.{blocks, Split}
use Rattle.jobs.specs.Reading.{byte_words}
use Rattle.jobs.specs.Roots.{block_tag, first_words, climb, level_tags, top_tag}
use Rattle.jobs.specs.Holding.{bytes_tag, LevelsHold, StreamHolds}
use Rattle.jobs.specs.declared.state.Level.{Level}
use Rattle.jobs.specs.declared.state.Stream.{Stream}
use Rattle.jobs.proofs.Cuts.{split_none, split-append, split_flush, split_long, blocks_are}
use Rattle.jobs.proofs.Levels.{tag_of_stretch, empty_level}

-- a full block was tagged, and none waits then
module _ {F : Type 0} (m : Meaning) (s s' : Stream F) (block : List ℕ) (tag : ℕ) (card keys : List ℕ) (none : s'.block ≡ []) (long : length block ≡ 128) (first : keys ≡ take 32 card) (e : tag ≡ bytes_tag m keys block)
    (push : (ts : List ℕ) → LevelsHold m (drop 32 card) s.levels ts → LevelsHold m (drop 32 card) s'.levels (ts ++ tag ∷ [])) (doc : List ℕ) (h : StreamHolds m card s doc) where
  tagged : (doc' : List ℕ) → Split 128 doc' h.whole block → StreamHolds m card s' doc'
  tagged doc' split =
      let ts = map (bytes_tag m card) h.whole in
      let tag_is = e ∙ tag_of_stretch m card keys (byte_words block) first in record {
        whole = h.whole ++ block ∷ [];
        split = subst (Split 128 doc' (h.whole ++ block ∷ [])) (sym none) (split_flush split long);
        above = subst (LevelsHold m (drop 32 card) s'.levels) (ap (λ t. ts ++ t ∷ []) tag_is ∙ sym (map_push (bytes_tag m card) h.whole block)) (push ts h.above);
      }

  -- the block that waited
  pub flushed : s.block ≡ block → StreamHolds m card s' doc
  flushed is = tagged doc (subst (Split 128 doc h.whole) is h.split)

  -- a block that came while none waited
  pub passed : s.block ≡ [] → StreamHolds m card s' (doc ++ block)
  passed is = tagged (doc ++ block) (split-append block (subst (Split 128 doc h.whole) is h.split) (omega arith))

-- a stream that is closed gives the tag of all that it took
module _ {F : Type 0} (m : Meaning) (s : Stream F) (tag r : ℕ) (card keys : List ℕ) where
  pub closed : keys ≡ take 32 card → tag ≡ bytes_tag m keys s.block → length s.levels ≡ 4
      → ((ts : List ℕ) → LevelsHold m (drop 32 card) s.levels ts → length ts < 16 ^ length s.levels → r ≡ get_or (climb m (length s.levels) (drop 32 card) (ts ++ tag ∷ [])) 0 0)
      → (doc : List ℕ) → StreamHolds m card s doc → (0 < length doc → 0 < length s.block) → length doc ≤ 8388608 → r ≡ top_tag m card doc
  unfolding top_tag level_tags first_words
  closed first e four top doc h waits small =
      let ts = map (bytes_tag m card) h.whole in
      let all = split_long h.split in
      let many : length ts ≡ length h.whole = length-map h.whole (bytes_tag m card) in
      let room : 16 ^ length s.levels ≡ 65536 = ap (λ i. 16 ^ i) four in
      let few : length h.whole ≤ 65535 = elim (dec_lt 0 (length doc)) [ yes p ↦ let q = waits p in omega arith | no p ↦ omega arith ] in
      let tag_is = e ∙ tag_of_stretch m card keys (byte_words s.block) first in
      top ts h.above (omega arith)
      ∙ ap (λ i. get_or (climb m i (drop 32 card) (ts ++ tag ∷ [])) 0 0) four
      ∙ ap (λ us. get_or (climb m 4 (drop 32 card) us) 0 0) (ap (λ t. ts ++ t ∷ []) tag_is ∙ sym (tags doc h waits))
    where
      tags : (doc : List ℕ) (h : StreamHolds m card s doc) → (0 < length doc → 0 < length s.block) → map (block_tag m card) (first_words doc) ≡ map (bytes_tag m card) h.whole ++ bytes_tag m card s.block ∷ []
      tags doc h waits =
          map-map (block_tag m card) byte_words (blocks 128 doc)
          ∙ ap (map (bytes_tag m card)) (blocks_are (omega arith) h.split waits)
          ∙ map_push (bytes_tag m card) h.whole s.block

-- a stream that took nothing
pub empty_stream : {F : Type 0} (m : Meaning) (card : List ℕ) (s : Stream F) (a b c d : Level) → s.block ≡ [] → s.levels ≡ a ∷ b ∷ c ∷ d ∷ []
    → a.tags ≡ [] → b.tags ≡ [] → c.tags ≡ [] → d.tags ≡ [] → StreamHolds m card s []
empty_stream m card s a b c d none levels ea eb ec ed = record {
  whole = [];
  split = subst (Split 128 [] []) (sym none) split_none;
  above = subst (λ ls. LevelsHold m (drop 32 card) ls []) (sym levels)
      ([], empty_level m _ a ea, ([], empty_level m _ b eb, ([], empty_level m _ c ec, ([], empty_level m _ d ed, tt))));
}
