-- Two different jobs whose root tags differ by d collide with that difference.
use Rattle.std.proofs.Common.{◌≡◌, ℕ, zero, suc, ◌+◌, ◌-◌, ◌*◌, ◌/◌, ◌%◌, ◌^◌, ◌<◌, ◌≤◌, ◌≢◌, ◌⊎◌, List, [], ◌∷◌, map, length, get_or, take, drop, set, sym, refl, ap, ◌∙◌, subst, inl, inr, add-zero, mod-eq_of_lt, arith}
use native.Mathlib.Nat.{mod-eq-sub-mod}
use lib.Seq.{take-set-lt}
use Rattle.std.specs.List.{AllByRecursion}
use Rattle.std.proofs.ByRecursion.{All-take, All-drop, All-get_or, All-weaker}
use Rattle.std.proofs.lemmas.List.{length-drop, length-take-le, length-map, take_all, take-take, drop-set-add, set-get_or, get_or-map}
use Rattle.std.proofs.lemmas.Bool.{cases_eq, cases_lt}
use Rattle.families.specs.Counting.{AtMost}
use Rattle.families.specs.Meanings.{Meaning, Words, Sized, Yields, Few, Lawful}
use Rattle.jobs.specs.Reading.{tags_words}
use Rattle.jobs.specs.Roots.{Card, Job, Proper, block_tag, first_words, next_words, level_tags, top_tag, root_list, root_tag}
use Rattle.jobs.specs.Collisions.{entering, Place, keys_from, Lets, Collision}
use Rattle.jobs.specs.Collisions.Place.{root, level}
use Rattle.jobs.proofs.Apart.{blocks_same, one_top, jobs_apart}
use Rattle.jobs.proofs.Shapes.{level_tags_lem, same_shape, Block, tags_low, all_blocks, cases_lists, first_apart}

-- what is added below the modulus and changes nothing is 0
none_added : (n r d : ℕ) → r < n → d < n → r ≡ (r + d) % n → d ≡ 0
none_added n r d low small e = go (cases_lt (r + d) n)
  where
    go : (r + d < n) ⊎ (n ≤ r + d) → d ≡ 0
    go (inl h) = let s = mod-eq_of_lt h in omega arith
    go (inr h) =
        let s = mod-eq-sub-mod h in
        let under : r + d - n < n = omega arith in
        let t = mod-eq_of_lt under in
        omega arith

one_item : (xs : List ℕ) → length xs ≡ 1 → xs ≡ get_or xs 0 0 ∷ []
one_item [] e = absurd (omega arith)
one_item (x ∷ []) e = refl
one_item (x ∷ y ∷ xs) e = absurd (omega arith)

-- tags that make the same words are the same
tags_words_same : (P : ℕ → Type 0) (ts us : List ℕ) → AllByRecursion P ts → AllByRecursion P us → length ts ≡ length us → tags_words ts ≡ tags_words us → ts ≡ us
tags_words_same P [] [] ok ok' long e = refl
tags_words_same P [] (u ∷ us) ok ok' long e = absurd (omega arith)
tags_words_same P (t ∷ ts) [] ok ok' long e = absurd (omega arith)
tags_words_same P (t ∷ ts) (u ∷ us) ok ok' long e =
    let low : t % 2 ^ 32 ≡ u % 2 ^ 32 = cc in
    let high : t / 2 ^ 32 ≡ u / 2 ^ 32 = cc in
    let rest : tags_words ts ≡ tags_words us = cc in
    let same : t ≡ u = omega (arith, low, high) in
    ap (λ x. x ∷ ts) same ∙ ap (λ xs. u ∷ xs) (tags_words_same P ts us ok.1 ok'.1 (omega arith) rest)

module _ (m : Meaning) (count : ℕ) (lawful : Lawful m count) (card : List ℕ) (keyed : Card card) (a b : Job) (pa : Proper a) (pb : Proper b) where
  -- two lists of words that a family takes collide where their tags differ by d
  module _ (d start : ℕ) (xs ys : List ℕ) (place : Place m card d a b start xs ys) (bx : Block xs) (by' : Block ys) (long : length xs ≡ length ys) (ne : xs ≢ ys)
      (fits : start + length xs ≤ 164) (small : d < m.modulus) (apart : m.tag (keys_from card start xs) xs ≡ (m.tag (keys_from card start ys) ys + d) % m.modulus) where
    ks : List ℕ
    ks = keys_from card start xs

    p : ℕ
    p = m.pivot xs ys

    inside : p < length xs
    unfolding p
    inside = lawful.inside xs ys long bx.even ne

    keys_long : length ks ≡ length xs
    unfolding ks
    keys_long =
        let l = length-drop start card in
        let c = keyed.long in
        length-take-le (length xs) (drop start card) (omega arith)

    keys_words : Words ks
    unfolding ks
    keys_words = All-take (λ w. w < 2 ^ 32) (length xs) (drop start card) (All-drop (λ w. w < 2 ^ 32) start card keyed.words)

    changed : (v : ℕ) → keys_from (set card (start + p) v) start xs ≡ set ks p v
    unfolding ks
    changed v = ap (take (length xs)) (drop-set-add start card p v) ∙ take-set-lt (length xs) (drop start card) p v inside

    changed' : (v : ℕ) → keys_from (set card (start + p) v) start ys ≡ set ks p v
    changed' v = ap (λ e. take e (drop start (set card (start + p) v))) (sym long) ∙ changed v

    yields : (v : ℕ) → Lets m card start (start + p) xs ys d v → Yields m ks xs ys d v
    unfolding p
    yields v (low, e) = (low, ap (λ k. m.tag k xs) (sym (changed v)) ∙ e ∙ ap (λ k. (m.tag k ys + d) % m.modulus) (changed' v))

    few : AtMost count (Lets m card start (start + p) xs ys d)
    unfolding Few
    few vs distinct lets =
        let sized : Sized ks xs = record { same = keys_long; even = bx.even; short = bx.short } in
        let sized' : Sized ks ys = record { same = keys_long ∙ long; even = by'.even; short = by'.short } in
        lawful.few ks xs ys d keys_words bx.words by'.words sized sized' ne small vs distinct (All-weaker (Lets m card start (start + p) xs ys d) (Yields m ks xs ys d) yields vs lets)

    within : start + p < 164
    within = let i = inside in omega arith

    holds : Lets m card start (start + p) xs ys d (get_or card (start + p) 0)
    holds =
        let same = set-get_or card (start + p) 0 in
        let c = keyed.long in
        let w = within in (
          All-get_or (λ w. w < 2 ^ 32) card (start + p) 0 (omega arith) keyed.words,
          ap (λ k. m.tag (keys_from k start xs) xs) same ∙ apart ∙ ap (λ k. (m.tag (keys_from k start ys) ys + d) % m.modulus) (sym same),
        )

    collided : Collision m count card d a b
    unfolding p
    collided = record { start = start; xs = xs; ys = ys; at = place; differ = ne; inside = within; holds = holds; few = few }

  top_low : (job : Job) → Proper job → top_tag m card job.document < 2 ^ 64
  unfolding top_tag
  top_low job proper =
      let one = one_top m card job proper in
      All-get_or (λ t. t < 2 ^ 64) (level_tags m 4 card job.document) 0 0 (omega arith) (tags_low m count lawful 4 card job.document)

  root_block : (job : Job) → Proper job → Block (root_list m card job)
  root_block job proper =
      let t = top_low job proper in
      let l = proper.long in
      record { words = (omega arith, (omega arith, (omega arith, (proper.label_word, tt)))); even = refl; short = omega arith }

  root_keys : take 4 (drop 160 card) ≡ drop 160 card
  root_keys = let c = keyed.long in let l = length-drop 160 card in take_all 4 (drop 160 card) (omega arith)

  at_root : (d : ℕ) → d < m.modulus → root_tag m card a ≡ (root_tag m card b + d) % m.modulus → root_list m card a ≢ root_list m card b → Collision m count card d a b
  at_root d small e ne =
      collided d 160 (root_list m card a) (root_list m card b) (root ne e) (root_block a pa) (root_block b pb) refl ne (omega arith) small
      (ap (λ k. m.tag k (root_list m card a)) root_keys ∙ e ∙ ap (λ k. (m.tag k (root_list m card b) + d) % m.modulus) (sym root_keys))

  module _ (lists : root_list m card a ≡ root_list m card b) (ne : a ≢ b) where
    lengths : length a.document ≡ length b.document
    lengths = ap (λ ws. get_or ws 2 0) lists

    tops : top_tag m card a.document ≡ top_tag m card b.document
    tops =
        let low : top_tag m card a.document % 2 ^ 32 ≡ top_tag m card b.document % 2 ^ 32 = ap (λ ws. get_or ws 0 0) lists in
        let high : top_tag m card a.document / 2 ^ 32 ≡ top_tag m card b.document / 2 ^ 32 = ap (λ ws. get_or ws 1 0) lists in
        omega (arith, low, high)

    last_tags : level_tags m 4 card a.document ≡ level_tags m 4 card b.document
    unfolding top_tag
    last_tags = one_item _ (one_top m card a pa) ∙ ap (λ t. t ∷ []) tops ∙ sym (one_item _ (one_top m card b pb))

    first_words_lem : first_words a.document ≢ first_words b.document
    first_words_lem = go (jobs_apart m card a b pa pb ne)
      where
        go : (root_list m card a ≢ root_list m card b) ⊎ (first_words a.document ≢ first_words b.document) → first_words a.document ≢ first_words b.document
        go (inl d) = absurd (d lists)
        go (inr d) = d

    -- the tags of a level agree, and what enters it differs
    at_level : (n : ℕ) → n < 5 → entering m n card a.document ≢ entering m n card b.document → level_tags m n card a.document ≡ level_tags m n card b.document → Collision m count card 0 a b
    at_level n low differ agree =
        let ea = entering m n card a.document in
        let eb = entering m n card b.document in
        let ks = drop (32 * n) card in
        let shape = same_shape m n card a.document b.document lengths in
        let found = first_apart ea eb shape.count differ in
        let i = found.0 in
        let f = found.1 in
        let x = get_or ea i [] in
        let y = get_or eb i [] in
        let bx : Block x = All-get_or Block ea i [] f.within (all_blocks m count lawful n card a.document pa.bytes) in
        let by' : Block y = All-get_or Block eb i [] f.within' (all_blocks m count lawful n card b.document pb.bytes) in
        let tags : map (block_tag m ks) ea ≡ map (block_tag m ks) eb = sym (level_tags_lem m n card a.document) ∙ agree ∙ level_tags_lem m n card b.document in
        let same : block_tag m ks x ≡ block_tag m ks y
        = sym (get_or-map (block_tag m ks) ea i [] 0 f.within) ∙ ap (λ ts. get_or ts i 0) tags ∙ get_or-map (block_tag m ks) eb i [] 0 f.within' in
        let kx : keys_from card (32 * n) x ≡ take (length x) (take 32 ks) = sym (take-take (length x) 32 ks bx.short) in
        let ky : keys_from card (32 * n) y ≡ take (length y) (take 32 ks) = sym (take-take (length y) 32 ks by'.short) in
        let below = lawful.below (take (length y) (take 32 ks)) y in
        let some = lawful.modulus_low in
        let shifted : block_tag m ks y ≡ (block_tag m ks y + 0) % m.modulus = sym (ap (λ t. t % m.modulus) (add-zero (block_tag m ks y)) ∙ mod-eq_of_lt below) in
        let short = bx.short in
        collided 0 (32 * n) x y (level n i low refl lists f same) bx by' (shape.each i) f.apart (omega arith) (omega arith)
        (ap (λ k. m.tag k x) kx ∙ same ∙ shifted ∙ ap (λ k. (m.tag k y + 0) % m.modulus) (sym ky))

    -- what enters the next level differs where the tags do
    differ_above : (n : ℕ) → level_tags m n card a.document ≢ level_tags m n card b.document → entering m (suc n) card a.document ≢ entering m (suc n) card b.document
    unfolding next_words
    differ_above n differ e =
        let ta = level_tags m n card a.document in
        let tb = level_tags m n card b.document in
        let shape = same_shape m n card a.document b.document lengths in
        let long : length ta ≡ length tb
        = ap length (level_tags_lem m n card a.document) ∙ length-map (entering m n card a.document) _ ∙ shape.count ∙ sym (ap length (level_tags_lem m n card b.document) ∙ length-map (entering m n card b.document) _) in
        differ (blocks_same (λ t. t < 2 ^ 64) tags_words (tags_words_same (λ t. t < 2 ^ 64)) 16 ta tb (omega arith) (tags_low m count lawful n card a.document) (tags_low m count lawful n card b.document) long e)

    -- from level n + 1 on, with k levels above it
    climbing : (k n : ℕ) → n + k ≡ 4 → entering m n card a.document ≢ entering m n card b.document → Collision m count card 0 a b
    climbing zero n at differ = at_level n (omega arith) differ (subst (λ i. level_tags m i card a.document ≡ level_tags m i card b.document) (sym four) last_tags)
      where
        four : n ≡ 4
        four = omega arith
    climbing (suc k) n at differ = go (cases_lists cases_eq (level_tags m n card a.document) (level_tags m n card b.document)) (climbing k (suc n) (omega arith))
      where
        go : (level_tags m n card a.document ≡ level_tags m n card b.document) ⊎ (level_tags m n card a.document ≡ level_tags m n card b.document → ⊥)
            → (entering m (suc n) card a.document ≢ entering m (suc n) card b.document → Collision m count card 0 a b) → Collision m count card 0 a b
        go (inl agree) up = at_level n (omega arith) differ agree
        go (inr d) up = up (differ_above n d)

    agreeing : Collision m count card 0 a b
    agreeing = climbing 4 0 refl first_words_lem

-- two different jobs whose root tags differ by d collide with difference d: at the root where their root lists differ, else at a level with d = 0
pub collide : (m : Meaning) (count : ℕ) → Lawful m count → (card : List ℕ) → Card card → (a b : Job) → Proper a → Proper b → a ≢ b → (d : ℕ) → d < m.modulus → root_tag m card a ≡ (root_tag m card b + d) % m.modulus → Collision m count card d a b
collide m count lawful card keyed a b pa pb ne d small e = go (cases_lists cases_eq (root_list m card a) (root_list m card b))
  where
    go : (root_list m card a ≡ root_list m card b) ⊎ (root_list m card a ≡ root_list m card b → ⊥) → Collision m count card d a b
    go (inr differ) = at_root m count lawful card keyed a b pa pb d small e differ
    go (inl lists) =
        let tags : root_tag m card a ≡ root_tag m card b = ap (m.tag (drop 160 card)) lists in
        let none : d ≡ 0 = none_added m.modulus (root_tag m card b) d (lawful.below (drop 160 card) (root_list m card b)) small (sym tags ∙ e) in
        subst (λ d. Collision m count card d a b) (sym none) (agreeing m count lawful card keyed a b pa pb lists ne)
