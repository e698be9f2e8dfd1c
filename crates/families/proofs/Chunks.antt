-- The sum over pairs, a chunk of two at a time.
use Rattle.std.proofs.Common.{◌≡◌, ℕ, ◌+◌, ◌%◌, ◌^◌, ◌<◌, List, [], ◌∷◌, ◌++◌, length, get_or, Some, None, ◌⊎◌, inl, inr, sym, ap, ◌∙◌, add_assoc, arith, Bor}
use native.Mathlib.Nat.{mod-add-mod, add-mod-mod}
use Rattle.std.proofs.lemmas.List.{nil_from_length, length-append}
use Rattle.std.specs.Iterator.Adapters.{zip_first, zip_second}
use Rattle.std.specs.Slice.Iter.{chunks_exact_rest, chunks_exact_size, chunks_exact_steps}
use Rattle.std.specs.declared.iter.Zip.{Zip}
use Rattle.std.specs.declared.slice.ChunksExact.{ChunksExact}
use Rattle.families.specs.Pairs.{pair_sum}

-- an iterator over the chunks of a key and of a message
abbrev pub Chunks : Type 0
Chunks = Zip (ChunksExact ℕ) (ChunksExact ℕ)

-- the key words and the message words that are left
abbrev pub keys_left : Chunks → List ℕ
keys_left i = chunks_exact_rest (zip_first i)

abbrev pub words_left : Chunks → List ℕ
words_left i = chunks_exact_rest (zip_second i)

-- chunks of two, of as many key words as message words, an even number
pub record InPairs (i : Chunks) : Type 0 where
  pub key_size : chunks_exact_size (zip_first i) ≡ 2
  pub word_size : chunks_exact_size (zip_second i) ≡ 2
  pub same : length (keys_left i) ≡ length (words_left i)
  pub even : length (words_left i) % 2 ≡ 0

-- a list of two
two : (xs : List ℕ) → length xs ≡ 2 → xs ≡ get_or xs 0 0 ∷ get_or xs 1 0 ∷ []
two [] e = absurd (omega arith)
two (x ∷ []) e = absurd (omega arith)
two (x ∷ y ∷ xs) e = ap (λ zs. x ∷ y ∷ zs) (nil_from_length xs (omega arith))

-- what the chunks k and x of a pair give
abbrev pub chunk : (ℕ → ℕ → ℕ → ℕ → ℕ) → List ℕ → List ℕ → ℕ
chunk f k x = f (get_or k 0 0) (get_or x 0 0) (get_or k 1 0) (get_or x 1 0)

chunk_more : (f : ℕ → ℕ → ℕ → ℕ → ℕ) (ks k ks' xs x xs' : List ℕ) → ks ≡ k ++ ks' → xs ≡ x ++ xs' → length k ≡ 2 → length x ≡ 2 → pair_sum f ks xs ≡ chunk f k x + pair_sum f ks' xs'
chunk_more f ks k ks' xs x xs' ek ex lk lx =
    ap (λ zs. pair_sum f zs xs) (ek ∙ ap (λ zs. zs ++ ks') (two k lk))
    ∙ ap (λ zs. pair_sum f (get_or k 0 0 ∷ get_or k 1 0 ∷ ks') zs) (ex ∙ ap (λ zs. zs ++ xs') (two x lx))

-- a turn of a loop: the chunks k and x are taken, and j is what i becomes
pub record Turn (i : Chunks) (k x : List ℕ) (j : Chunks) : Type 0 where
  pub in_pairs : InPairs j
  pub shorter : length (words_left i) ≡ 2 + length (words_left j)
  pub more : (f : ℕ → ℕ → ℕ → ℕ → ℕ) → pair_sum f (keys_left i) (words_left i) ≡ chunk f k x + pair_sum f (keys_left j) (words_left j)

pub turn : (i j : Chunks) (k x : Bor (List ℕ)) → InPairs i → chunks_exact_steps (zip_first i) (Some k) (zip_first j) → chunks_exact_steps (zip_second i) (Some x) (zip_second j) → Turn i k.now x.now j
turn i j k x p q r =
    let lk : length k.now ≡ 2 = q.1.1 ∙ p.key_size in
    let lx : length x.now ≡ 2 = r.1.1 ∙ p.word_size in
    let keys : length (keys_left i) ≡ 2 + length (keys_left j) = ap length q.1.0 ∙ length-append k.now (keys_left j) ∙ ap (λ n. n + length (keys_left j)) lk in
    let words : length (words_left i) ≡ 2 + length (words_left j) = ap length r.1.0 ∙ length-append x.now (words_left j) ∙ ap (λ n. n + length (words_left j)) lx in
    record {
      in_pairs = record { key_size = q.0 ∙ p.key_size; word_size = r.0 ∙ p.word_size; same = omega (arith, p.same); even = omega (arith, p.even) };
      shorter = words;
      more = λ f. chunk_more f (keys_left i) k.now (keys_left j) (words_left i) x.now (words_left j) q.1.0 r.1.0 lk lx;
    }

-- a turn of a loop that sums modulo 2^64
pub wrapped_more : (f : ℕ → ℕ → ℕ → ℕ → ℕ) (sum term all : ℕ) (i : Chunks) (k x : List ℕ) (j : Chunks) → Turn i k x j → term ≡ chunk f k x % 2 ^ 64 → (sum + pair_sum f (keys_left i) (words_left i)) % 2 ^ 64 ≡ all → ((sum + term) % 2 ^ 64 + pair_sum f (keys_left j) (words_left j)) % 2 ^ 64 ≡ all
wrapped_more f sum term all i k x j t et e =
    let left = pair_sum f (keys_left j) (words_left j) in
    let more : sum + chunk f k x + left ≡ sum + pair_sum f (keys_left i) (words_left i) = add_assoc sum (chunk f k x) left ∙ ap (λ n. sum + n) (sym (t.more f)) in
    let whole : (sum + term) % 2 ^ 64 ≡ (sum + chunk f k x) % 2 ^ 64 = ap (λ n. (sum + n) % 2 ^ 64) et ∙ add-mod-mod sum (chunk f k x) (2 ^ 64) in
    ap (λ n. (n + left) % 2 ^ 64) whole ∙ mod-add-mod (sum + chunk f k x) (2 ^ 64) left ∙ ap (λ n. n % 2 ^ 64) more ∙ e

-- where one of the two has no more, nothing is left
pub ended : (f : ℕ → ℕ → ℕ → ℕ → ℕ) (i : Chunks) → InPairs i → ((u : ChunksExact ℕ) × chunks_exact_steps (zip_first i) None u) ⊎ ((u : ChunksExact ℕ) × chunks_exact_steps (zip_second i) None u) → pair_sum f (keys_left i) (words_left i) ≡ 0
ended f i p steps = ap (λ zs. pair_sum f zs (words_left i)) (nil_from_length (keys_left i) (none steps))
  where
    none : ((u : ChunksExact ℕ) × chunks_exact_steps (zip_first i) None u) ⊎ ((u : ChunksExact ℕ) × chunks_exact_steps (zip_second i) None u) → length (keys_left i) ≡ 0
    none (inl e) = let short : length (keys_left i) < chunks_exact_size (zip_first i) = e.1.1.0 in omega arith
    none (inr e) = let short : length (words_left i) < chunks_exact_size (zip_second i) = e.1.1.0 in omega arith
