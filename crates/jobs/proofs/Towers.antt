-- What levels above one another hold, and the tag at their top.
use Rattle.std.proofs.Common.{◌≡◌, ℕ, suc, ◌+◌, ◌*◌, ◌^◌, ◌<◌, ◌≤◌, List, [], ◌∷◌, ◌++◌, map, length, Option, get_or, take, drop, sym, ap, ◌∙◌, subst, pow-suc, arith}
use mathlib.Core.List.{map-map}
use Rattle.std.proofs.lemmas.List.{length_push, map_push, length-map}
use Rattle.std.specs.Option.{option_to_list}
use Rattle.families.specs.Meanings.{Meaning}
use Rattle.jobs.specs.Cutting.{blocks}
use Rattle.jobs.specs.Reading.{tags_words}
use Rattle.jobs.specs.Roots.{block_tag, next_words, climb}
use Rattle.jobs.specs.Holding.{tags_tag, LevelHolds, LevelsHold}
use Rattle.jobs.specs.declared.state.Level.{Level}
use Rattle.jobs.proofs.Cuts.{blocks_are, split_long}
use Rattle.jobs.proofs.Levels.{tag_of_stretch}

module _ {m : Meaning} {ks : List ℕ} {l : Level} {ts ups : List ℕ} (h : LevelHolds m ks l ts ups) where
  -- the tags above a level, from its own state
  above_is : (keys : List ℕ) (tag : ℕ) → keys ≡ take 32 ks → tag ≡ block_tag m keys l.tags → map (block_tag m ks) (next_words ts) ≡ ups ++ tag ∷ []
  unfolding next_words
  above_is keys tag stretch e =
      map-map (block_tag m ks) tags_words (blocks 16 ts)
      ∙ ap (map (tags_tag m ks)) (blocks_are (omega arith) h.split h.waits)
      ∙ map_push (tags_tag m ks) h.whole h.rest
      ∙ ap (λ us. us ++ tags_tag m ks h.rest ∷ []) (sym h.passed)
      ∙ ap (λ u. ups ++ u ∷ []) (sym (e ∙ ap (block_tag m keys) h.words ∙ tag_of_stretch m ks keys (tags_words h.rest) stretch))

  ups_long : 0 < length ts → 16 * length ups + 1 ≤ length ts
  ups_long p = let w = h.waits p in let n = split_long h.split in let e = ap length h.passed ∙ length-map h.whole (tags_tag m ks) in omega arith

-- the lowest level took a tag in, and those above what it handed on
pub handed : (m : Meaning) (ks keys rest : List ℕ) (ls : List Level) (l l' : Level) (above above' : List Level) (tag : ℕ) (up : Option ℕ) → ls ≡ l ∷ above → keys ≡ take 32 ks → rest ≡ drop 32 ks
    → ((ks ts ups : List ℕ) → keys ≡ take 32 ks → LevelHolds m ks l ts ups → LevelHolds m ks l' (ts ++ tag ∷ []) (ups ++ option_to_list up))
    → ((ups : List ℕ) → LevelsHold m rest above ups → LevelsHold m rest above' (ups ++ option_to_list up))
    → (ts : List ℕ) → LevelsHold m ks ls ts → LevelsHold m ks (l' ∷ above') (ts ++ tag ∷ [])
handed m ks keys rest ls l l' above above' tag up is stretch behind push next ts h =
    let all = subst (λ xs. LevelsHold m ks xs ts) is h in
    let went = next all.0 (subst (λ ks'. LevelsHold m ks' above all.0) (sym behind) all.2) in
    (all.0 ++ option_to_list up, push ks ts all.0 stretch all.1, subst (λ ks'. LevelsHold m ks' above' (all.0 ++ option_to_list up)) behind went)

-- the last tag went in, and the lowest level's tag went into those above
pub top_more : (m : Meaning) (ks keys rest : List ℕ) (ls ls' above : List Level) (l : Level) (last tag r : ℕ) → keys ≡ take 32 ks → rest ≡ drop 32 ks
    → ls' ≡ l ∷ above → length ls' ≡ length ls → tag ≡ block_tag m keys l.tags
    → ((ts : List ℕ) → LevelsHold m ks ls ts → LevelsHold m ks ls' (ts ++ last ∷ []))
    → ((ts : List ℕ) → LevelsHold m rest above ts → length ts < 16 ^ length above → r ≡ get_or (climb m (length above) rest (ts ++ tag ∷ [])) 0 0)
    → (ts : List ℕ) → LevelsHold m ks ls ts → length ts < 16 ^ length ls → r ≡ get_or (climb m (length ls) ks (ts ++ last ∷ [])) 0 0
top_more m ks keys rest ls ls' above l last tag r stretch behind is same e push top ts h few =
    let all = subst (λ xs. LevelsHold m ks xs (ts ++ last ∷ [])) is (push ts h) in
    let long : length ls ≡ suc (length above) = sym same ∙ ap length is in
    let n = length_push ts last in
    let few' = subst (λ i. length ts < 16 ^ i) long few in
    let p = pow-suc 16 (length above) in
    let b = ups_long all.1 (omega arith) in
    top all.0 (subst (λ ks'. LevelsHold m ks' above all.0) (sym behind) all.2) (omega arith)
    ∙ ap (λ ks'. get_or (climb m (length above) ks' (all.0 ++ tag ∷ [])) 0 0) behind
    ∙ ap (λ us. get_or (climb m (length above) (drop 32 ks) us) 0 0) (sym (above_is all.1 keys tag stretch e))
    ∙ ap (λ i. get_or (climb m i ks (ts ++ last ∷ [])) 0 0) (sym long)
