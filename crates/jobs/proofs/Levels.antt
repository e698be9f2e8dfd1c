-- What a level holds, from one tag to the next.
use Rattle.std.proofs.Common.{◌≡◌, ℕ, ◌*◌, ◌<◌, ◌≤◌, List, [], ◌∷◌, ◌++◌, map, length, take, Some, None, Option, IfSome, OnSome, IfNone, sym, refl, ap, ◌∙◌, arith}
use Rattle.std.proofs.lemmas.List.{append-nil, take-take, map_push, length_push}
use Rattle.std.specs.Option.{option_to_list}
use Rattle.families.specs.Meanings.{Meaning}
use Rattle.jobs.specs.Reading.{tag_words, tags_words}
use Rattle.jobs.specs.Roots.{block_tag}
use Rattle.jobs.specs.Holding.{tags_tag, LevelHolds}
use Rattle.jobs.specs.declared.state.Level.{Level}
use Rattle.jobs.proofs.Cuts.{split_none, split-append, split_flush}

-- a tag under the front of a stretch is a block's
pub tag_of_front : (m : Meaning) (ks ws : List ℕ) → length ws ≤ 32 → m.tag (take (length ws) ks) ws ≡ block_tag m ks ws
tag_of_front m ks ws small = ap (λ xs. m.tag xs ws) (sym (take-take (length ws) 32 ks small))

-- a block's tag is that under its stretch alone
pub tag_of_stretch : (m : Meaning) (ks keys ws : List ℕ) → keys ≡ take 32 ks → block_tag m keys ws ≡ block_tag m ks ws
tag_of_stretch m ks keys ws e =
    ap (λ xs. m.tag (take (length ws) (take 32 xs)) ws) e ∙ ap (λ xs. m.tag (take (length ws) xs) ws) (take-take 32 32 ks (omega arith))

-- the words of one tag more
pub tags_words_push : (ts : List ℕ) (t : ℕ) → tags_words (ts ++ t ∷ []) ≡ tags_words ts ++ tag_words t
tags_words_push [] t = refl
tags_words_push (u ∷ ts) t = ap (λ ws. tag_words u ++ ws) (tags_words_push ts t)

length-tags_words : (ts : List ℕ) → length (tags_words ts) ≡ 2 * length ts
length-tags_words [] = refl
length-tags_words (t ∷ ts) = let e = length-tags_words ts in omega arith

pub empty_level : (m : Meaning) (ks : List ℕ) (l : Level) → l.tags ≡ [] → LevelHolds m ks l [] []
empty_level m ks l none = record {
  whole = [];
  rest = [];
  split = split_none;
  waits = λ p. absurd (omega arith);
  words = none;
  passed = refl;
}

-- a level took a tag in, behind what was left when a full block was taken out
pub pushed : (m : Meaning) (ks keys : List ℕ) (l left l' : Level) (t : ℕ) (up : Option ℕ) → length left.tags < 32
    → IfSome up (λ u. u ≡ block_tag m keys l.tags) → OnSome up (length l.tags ≡ 32) → OnSome up (left.tags ≡ []) → IfNone up (left.tags ≡ l.tags)
    → l'.tags ≡ left.tags ++ tag_words t → (ts ups : List ℕ) → keys ≡ take 32 ks → LevelHolds m ks l ts ups → LevelHolds m ks l' (ts ++ t ∷ []) (ups ++ option_to_list up)
pushed m ks keys l left l' t None room tag full empty kept more ts ups stretch h =
    let n = length-tags_words h.rest in
    let w = ap length h.words in
    let p = length_push h.rest t in
    let q = ap length kept in record {
      whole = h.whole;
      rest = h.rest ++ t ∷ [];
      split = split-append (t ∷ []) h.split (omega arith);
      waits = λ _. omega arith;
      words = more ∙ ap (λ xs. xs ++ tag_words t) (kept ∙ h.words) ∙ sym (tags_words_push h.rest t);
      passed = append-nil ups ∙ h.passed;
    }
pushed m ks keys l left l' t (Some up) room tag full empty kept more ts ups stretch h =
    let n = length-tags_words h.rest in
    let w = ap length h.words in
    let sixteen : length h.rest ≡ 16 = omega arith in record {
      whole = h.whole ++ h.rest ∷ [];
      rest = t ∷ [];
      split = split-append (t ∷ []) (split_flush h.split sixteen) (omega arith);
      waits = λ _. omega arith;
      words = more ∙ ap (λ xs. xs ++ tag_words t) empty;
      passed =
          ap (λ us. us ++ up ∷ []) h.passed
          ∙ ap (λ u. map (tags_tag m ks) h.whole ++ u ∷ []) (tag ∙ ap (block_tag m keys) h.words ∙ tag_of_stretch m ks keys (tags_words h.rest) stretch)
          ∙ sym (map_push (tags_tag m ks) h.whole h.rest);
    }
