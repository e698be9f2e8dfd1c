-- The blocks that enter a level: how long they are, and what they are made of.
use Rattle.std.proofs.Common.{◌≡◌, ℕ, zero, suc, ◌+◌, ◌-◌, ◌*◌, ◌/◌, ◌%◌, ◌^◌, ◌<◌, ◌≤◌, min, ◌≢◌, ◌⊎◌, List, [], ◌∷◌, map, length, get_or, take, drop, sym, refl, ap, ◌∙◌, subst, inl, inr, mul-suc, arith}
use Rattle.std.specs.List.{AllByRecursion}
use Rattle.std.proofs.ByRecursion.{All-take, All-drop, All-map, All-weaker, All-from_get_or}
use Rattle.std.proofs.lemmas.List.{length-map, length-take, length-drop, drop-drop, get_or-map, get_or_past}
use Rattle.std.proofs.lemmas.Bool.{cases_eq, cases_lt}
use Rattle.families.specs.Meanings.{Meaning, Words, Lawful}
use Rattle.jobs.specs.Cutting.{cut, blocks}
use Rattle.jobs.specs.Reading.{Bytes, word_at, byte_words, tags_words}
use Rattle.jobs.specs.Roots.{block_tag, first_words, next_words, climb, level_tags}
use Rattle.jobs.specs.Collisions.{entering, FirstApart}
use Rattle.jobs.proofs.Reading.{byte_low, length-words_of, get_or-words_of}
use Rattle.jobs.proofs.Apart.{length_cut}

-- one more level on top of n levels
climb_last : (m : Meaning) (n : ℕ) (ks ts : List ℕ) → climb m (suc n) ks ts ≡ map (block_tag m (drop (32 * n) ks)) (next_words (climb m n ks ts))
climb_last m zero ks ts = refl
climb_last m (suc n) ks ts =
    let up = map (block_tag m ks) (next_words ts) in
    let place : 32 + 32 * n ≡ 32 * suc n = let e = mul-suc 32 n in omega arith in
    climb_last m n (drop 32 ks) up ∙ ap (λ js. map (block_tag m js) (next_words (climb m n (drop 32 ks) up))) (drop-drop (32 * n) 32 ks ∙ ap (λ k. drop k ks) place)

-- the tags of a level are those of the blocks that enter it
pub level_tags_lem : (m : Meaning) (n : ℕ) (card doc : List ℕ) → level_tags m n card doc ≡ map (block_tag m (drop (32 * n) card)) (entering m n card doc)
unfolding level_tags
level_tags_lem m zero card doc = refl
level_tags_lem m (suc n) card doc =
    let place : 32 + 32 * n ≡ 32 * suc n = let e = mul-suc 32 n in omega arith in
    climb_last m n (drop 32 card) (map (block_tag m card) (first_words doc))
    ∙ ap (λ js. map (block_tag m js) (entering m (suc n) card doc)) (drop-drop (32 * n) 32 card ∙ ap (λ k. drop k card) place)

-- two lists of blocks of the same lengths
pub record SameShape (xs ys : List (List ℕ)) : Type 0 where
  pub count : length xs ≡ length ys
  pub each : (i : ℕ) → length (get_or xs i []) ≡ length (get_or ys i [])

cut_shape : (n c : ℕ) (xs ys : List ℕ) → length xs ≡ length ys → (i : ℕ) → length (get_or (cut n c xs) i []) ≡ length (get_or (cut n c ys) i [])
cut_shape n zero xs ys long i = refl
cut_shape n (suc c) xs ys long zero = length-take n xs ∙ ap (min n) long ∙ sym (length-take n ys)
cut_shape n (suc c) xs ys long (suc i) = cut_shape n c (drop n xs) (drop n ys) (length-drop n xs ∙ ap (λ l. l - n) long ∙ sym (length-drop n ys)) i

-- blocks of lists of one length have the same shape as words
module _ (f : List ℕ → List ℕ) (size : ℕ → ℕ) (sized : (b : List ℕ) → length (f b) ≡ size (length b)) where
  blocks_shape : (n : ℕ) (xs ys : List ℕ) → length xs ≡ length ys → SameShape (map f (blocks n xs)) (map f (blocks n ys))
  blocks_shape n xs ys long = record { count = count; each = λ i. each i (cases_lt i (length (blocks n xs))) }
    where
      many : suc ((length ys - 1) / n) ≡ suc ((length xs - 1) / n)
      many = ap (λ l. suc ((l - 1) / n)) (sym long)

      blocks_count : length (blocks n xs) ≡ length (blocks n ys)
      blocks_count = length_cut n (suc ((length xs - 1) / n)) xs ∙ sym (length_cut n (suc ((length ys - 1) / n)) ys ∙ many)

      count : length (map f (blocks n xs)) ≡ length (map f (blocks n ys))
      count = length-map (blocks n xs) f ∙ blocks_count ∙ sym (length-map (blocks n ys) f)

      block : (i : ℕ) → length (get_or (blocks n xs) i []) ≡ length (get_or (blocks n ys) i [])
      block i = cut_shape n (suc ((length xs - 1) / n)) xs ys long i ∙ ap (λ c. length (get_or (cut n c ys) i [])) (sym many)

      each : (i : ℕ) → (i < length (blocks n xs)) ⊎ (length (blocks n xs) ≤ i) → length (get_or (map f (blocks n xs)) i []) ≡ length (get_or (map f (blocks n ys)) i [])
      each i (inl low) =
          let low' : i < length (blocks n ys) = omega (arith, blocks_count) in
          ap length (get_or-map f (blocks n xs) i [] [] low) ∙ sized _ ∙ ap size (block i) ∙ sym (ap length (get_or-map f (blocks n ys) i [] [] low') ∙ sized _)
      each i (inr high) =
          let c = count in
          let l = length-map (blocks n xs) f in
          ap length (get_or_past (map f (blocks n xs)) i [] (omega arith)) ∙ sym (ap length (get_or_past (map f (blocks n ys)) i [] (omega arith)))

pub length-tags_words : (ts : List ℕ) → length (tags_words ts) ≡ 2 * length ts
length-tags_words [] = refl
length-tags_words (t ∷ ts) = let e = length-tags_words ts in omega arith

-- what enters a level has the same shape for documents of one length
pub same_shape : (m : Meaning) (n : ℕ) (card doc doc' : List ℕ) → length doc ≡ length doc' → SameShape (entering m n card doc) (entering m n card doc')
unfolding first_words next_words
same_shape m zero card doc doc' long = blocks_shape byte_words (λ l. 2 * ((l + 7) / 8)) (λ b. length-words_of _ b) 128 doc doc' long
same_shape m (suc n) card doc doc' long =
    let below = same_shape m n card doc doc' long in
    let tags : length (level_tags m n card doc) ≡ length (level_tags m n card doc')
    = ap length (level_tags_lem m n card doc) ∙ length-map (entering m n card doc) _ ∙ below.count ∙ sym (ap length (level_tags_lem m n card doc') ∙ length-map (entering m n card doc') _) in
    blocks_shape tags_words (λ l. 2 * l) length-tags_words 16 (level_tags m n card doc) (level_tags m n card doc') tags

-- a block that a family takes: words, an even number and at most 32
pub record Block (ws : List ℕ) : Type 0 where
  pub words : Words ws
  pub even : length ws % 2 ≡ 0
  pub short : length ws ≤ 32

cut_all : (P : ℕ → Type 0) (n c : ℕ) (xs : List ℕ) → AllByRecursion P xs → AllByRecursion (λ b. AllByRecursion P b × (length b ≤ n)) (cut n c xs)
cut_all P n zero xs ok = tt
cut_all P n (suc c) xs ok = ((All-take P n xs ok, let e = length-take n xs in omega arith), cut_all P n c (drop n xs) (All-drop P n xs ok))

bytes_block : (b : List ℕ) → Bytes b × (length b ≤ 128) → Block (byte_words b)
bytes_block b (bytes, short) =
    let n = 2 * ((length b + 7) / 8) in
    let l = length-words_of n b in
    record {
      words = All-from_get_or (λ w. w < 2 ^ 32) (byte_words b) 0 (λ i low. subst (λ w. w < 2 ^ 32) (sym (get_or-words_of n b i (omega arith))) (low_word i));
      even = omega arith;
      short = omega arith;
    }
  where
    low_word : (i : ℕ) → word_at b i < 2 ^ 32
    low_word i =
        let p = byte_low b bytes (4 * i) in
        let q = byte_low b bytes (4 * i + 1) in
        let r = byte_low b bytes (4 * i + 2) in
        let s = byte_low b bytes (4 * i + 3) in
        omega arith

tags_words_lem : (ts : List ℕ) → AllByRecursion (λ t. t < 2 ^ 64) ts → Words (tags_words ts)
tags_words_lem [] ok = tt
tags_words_lem (t ∷ ts) ok = let low : t < 2 ^ 64 = ok.0 in (omega arith, (omega arith, tags_words_lem ts ok.1))

tags_block : (ts : List ℕ) → AllByRecursion (λ t. t < 2 ^ 64) ts × (length ts ≤ 16) → Block (tags_words ts)
tags_block ts (low, short) =
    let l = length-tags_words ts in
    record { words = tags_words_lem ts low; even = omega arith; short = omega arith }

-- the tags of a level fit 64 bits
pub tags_low : (m : Meaning) (count : ℕ) → Lawful m count → (n : ℕ) (card doc : List ℕ) → AllByRecursion (λ t. t < 2 ^ 64) (level_tags m n card doc)
tags_low m count lawful n card doc =
    subst (AllByRecursion (λ t. t < 2 ^ 64)) (sym (level_tags_lem m n card doc))
    (All-map (λ t. t < 2 ^ 64) (block_tag m (drop (32 * n) card)) (entering m n card doc) (low (entering m n card doc)))
  where
    low : (ws : List (List ℕ)) → AllByRecursion (λ b. block_tag m (drop (32 * n) card) b < 2 ^ 64) ws
    low [] = tt
    low (w ∷ ws) =
        let b = lawful.below (take (length w) (take 32 (drop (32 * n) card))) w in
        let h = lawful.modulus_high in
        (omega arith, low ws)

pub all_blocks : (m : Meaning) (count : ℕ) → Lawful m count → (n : ℕ) (card doc : List ℕ) → Bytes doc → AllByRecursion Block (entering m n card doc)
unfolding first_words next_words
all_blocks m count lawful zero card doc bytes =
    All-map Block byte_words (blocks 128 doc) (All-weaker (λ b. Bytes b × (length b ≤ 128)) (λ b. Block (byte_words b)) bytes_block (blocks 128 doc) (cut_all (λ b. b < 256) 128 (suc ((length doc - 1) / 128)) doc bytes))
all_blocks m count lawful (suc n) card doc bytes =
    let ts = level_tags m n card doc in
    All-map Block tags_words (blocks 16 ts) (All-weaker (λ b. AllByRecursion (λ t. t < 2 ^ 64) b × (length b ≤ 16)) (λ b. Block (tags_words b)) tags_block (blocks 16 ts) (cut_all (λ t. t < 2 ^ 64) 16 (suc ((length ts - 1) / 16)) ts (tags_low m count lawful n card doc)))

-- lists are the same or not, where their items are
pub cases_lists : {X : Type 0} → ((x y : X) → (x ≡ y) ⊎ (x ≡ y → ⊥)) → (xs ys : List X) → (xs ≡ ys) ⊎ (xs ≡ ys → ⊥)
cases_lists same [] [] = inl refl
cases_lists same [] (y ∷ ys) = inr (λ e. let l = ap length e in omega arith)
cases_lists same (x ∷ xs) [] = inr (λ e. let l = ap length e in omega arith)
cases_lists {X} same (x ∷ xs) (y ∷ ys) = go (same x y) (cases_lists same xs ys)
  where
    go : (x ≡ y) ⊎ (x ≡ y → ⊥) → (xs ≡ ys) ⊎ (xs ≡ ys → ⊥) → (x ∷ xs ≡ y ∷ ys) ⊎ (x ∷ xs ≡ y ∷ ys → ⊥)
    go (inl e) (inl e') = inl (ap (λ z. z ∷ xs) e ∙ ap (λ zs. y ∷ zs) e')
    go (inr d) e' = inr (λ e. let h : x ≡ y = cc in d h)
    go (inl e) (inr d) = inr (λ e'. let h : xs ≡ ys = cc in d h)

-- lists of blocks that differ, as many of both, have a first place where they do
pub first_apart : (xs ys : List (List ℕ)) → length xs ≡ length ys → xs ≢ ys → (i : ℕ) × FirstApart xs ys i
first_apart [] [] long ne = absurd (ne refl)
first_apart [] (y ∷ ys) long ne = absurd (omega arith)
first_apart (x ∷ xs) [] long ne = absurd (omega arith)
first_apart (x ∷ xs) (y ∷ ys) long ne = go (cases_lists cases_eq x y) (first_apart xs ys (omega arith))
  where
    go : (x ≡ y) ⊎ (x ≡ y → ⊥) → (xs ≢ ys → (i : ℕ) × FirstApart xs ys i) → (i : ℕ) × FirstApart (x ∷ xs) (y ∷ ys) i
    go (inr d) rec = (0, record { within = omega arith; within' = omega arith; before = refl; apart = d })
    go (inl e) rec =
        let rest = rec (λ same. ne (ap (λ z. z ∷ xs) e ∙ ap (λ zs. y ∷ zs) same)) in
        let w = rest.1.within in
        let w' = rest.1.within' in
        (suc rest.0, record { within = omega arith; within' = omega arith; before = ap (λ z. z ∷ take rest.0 xs) e ∙ ap (λ zs. y ∷ zs) rest.1.before; apart = rest.1.apart })
