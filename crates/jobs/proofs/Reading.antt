-- Bytes as words.
use Rattle.std.proofs.Common.{◌≡◌, ℕ, zero, suc, ◌+◌, ◌-◌, ◌*◌, ◌/◌, ◌%◌, ◌<◌, ◌≤◌, ◌⊎◌, List, ◌++◌, length, get_or, take, drop, set, replicate, sym, refl, ap, ◌∙◌, inl, inr, add-zero, arith}
use Rattle.std.proofs.ByRecursion.{All-get_or}
use Rattle.std.proofs.lemmas.List.Edits.{fill_by_more}
use Rattle.std.proofs.lemmas.List.FromFn.{fill_by_all, length-map-range_with_len, get_or-map-range_with_len, take-map-range_with_len}
use Rattle.std.proofs.lemmas.List.{ext_get_or, get_or-take, get_or-drop, get_or_append_left, get_or-append_right, get_or_past}
use Rattle.std.proofs.lemmas.Bool.{cases_lt}
use Rattle.jobs.specs.Reading.{Bytes, word_at, words_of, byte_words}

-- a list that holds the word of each place is the words of the bytes
pub words_all : (bs ws : List ℕ) (n : ℕ) → length ws ≡ n → ((k : ℕ) → k < n → get_or ws k 0 ≡ word_at bs k) → ws ≡ words_of n bs
unfolding words_of
words_all bs ws n long h = fill_by_all (word_at bs) ws n 0 long h

pub word_more : (bs ws : List ℕ) (i w : ℕ) → i < length ws → w ≡ word_at bs i → ((k : ℕ) → k < i → get_or ws k 0 ≡ word_at bs k) → (k : ℕ) → k < i + 1 → get_or (set ws i w) k 0 ≡ word_at bs k
word_more bs ws i w le e h k l = ap (λ v. get_or (set ws i v) k 0) e ∙ fill_by_more (word_at bs) ws i 0 le h k l

-- the word that a chunk of four bytes makes
pub word_of_chunk : (bs four : List ℕ) (i : ℕ) → four ≡ take 4 (drop (4 * i) bs) → get_or four 0 0 + get_or four 1 0 * 256 + get_or four 2 0 * 65536 + get_or four 3 0 * 16777216 ≡ word_at bs i
word_of_chunk bs four i e =
    let a = byte 0 (omega arith) ∙ ap (λ n. get_or bs n 0) (add-zero (4 * i)) in
    let b = byte 1 (omega arith) in
    let c = byte 2 (omega arith) in
    let d = byte 3 (omega arith) in
    omega arith
  where
    byte : (j : ℕ) → j < 4 → get_or four j 0 ≡ get_or bs (4 * i + j) 0
    byte j low = ap (λ xs. get_or xs j 0) e ∙ get_or-take 4 (drop (4 * i) bs) j 0 low ∙ get_or-drop (4 * i) bs j 0

pub length-words_of : (n : ℕ) (bs : List ℕ) → length (words_of n bs) ≡ n
unfolding words_of
length-words_of n bs = length-map-range_with_len (word_at bs) 0 n

pub get_or-words_of : (n : ℕ) (bs : List ℕ) (i : ℕ) → i < n → get_or (words_of n bs) i 0 ≡ word_at bs i
unfolding words_of
get_or-words_of n bs i low = get_or-map-range_with_len (word_at bs) 0 n i i 0 low (omega arith)

pub take-words_of : (k n : ℕ) (bs : List ℕ) → k ≤ n → take k (words_of n bs) ≡ words_of k bs
unfolding words_of
take-words_of k n bs le = take-map-range_with_len (word_at bs) 0 n k le

-- bytes that agree, also past their ends, make the same words
pub same_words : (n : ℕ) (bs cs : List ℕ) → ((i : ℕ) → get_or bs i 0 ≡ get_or cs i 0) → words_of n bs ≡ words_of n cs
same_words n bs cs same =
    ext_get_or 0 (words_of n bs) (words_of n cs) (length-words_of n bs ∙ sym (length-words_of n cs))
    (λ i low. let l = length-words_of n bs in get_or-words_of n bs i (omega arith) ∙ word i ∙ sym (get_or-words_of n cs i (omega arith)))
  where
    word : (i : ℕ) → word_at bs i ≡ word_at cs i
    word i =
        let a = same (4 * i) in
        let b = same (4 * i + 1) in
        let c = same (4 * i + 2) in
        let d = same (4 * i + 3) in
        omega arith

get_or-zeros : (k i : ℕ) → get_or {A = ℕ} (replicate k 0) i 0 ≡ 0
get_or-zeros zero i = refl
get_or-zeros (suc k) zero = refl
get_or-zeros (suc k) (suc i) = get_or-zeros k i

-- zero bytes behind some bytes do not change what is read
pub zeros_read : (bs : List ℕ) (k i : ℕ) → get_or (bs ++ replicate k 0) i 0 ≡ get_or bs i 0
zeros_read bs k i = go (cases_lt i (length bs))
  where
    go : (i < length bs) ⊎ (length bs ≤ i) → get_or (bs ++ replicate k 0) i 0 ≡ get_or bs i 0
    go (inl low) = get_or_append_left bs (replicate k 0) 0 i low
    go (inr high) = get_or-append_right bs (replicate k 0) (length bs) i 0 refl high ∙ get_or-zeros k (i - length bs) ∙ sym (get_or_past bs i 0 high)

pub byte_low : (bs : List ℕ) → Bytes bs → (i : ℕ) → get_or bs i 0 < 256
byte_low bs bytes i = go (cases_lt i (length bs))
  where
    go : (i < length bs) ⊎ (length bs ≤ i) → get_or bs i 0 < 256
    go (inl low) = All-get_or (λ b. b < 256) bs i 0 low bytes
    go (inr high) = let e = get_or_past bs i 0 high in omega arith

-- two words of four bytes each are equal only byte by byte
pub record SameBytes (a b c d a' b' c' d' : ℕ) : Type 0 where
  pub first : a ≡ a'
  pub second : b ≡ b'
  pub third : c ≡ c'
  pub fourth : d ≡ d'

same_bytes : (a b c d a' b' c' d' : ℕ) → a < 256 → b < 256 → c < 256 → d < 256 → a' < 256 → b' < 256 → c' < 256 → d' < 256
    → a + b * 256 + c * 65536 + d * 16777216 ≡ a' + b' * 256 + c' * 65536 + d' * 16777216 → SameBytes a b c d a' b' c' d'
same_bytes a b c d a' b' c' d' la lb lc ld la' lb' lc' ld' e = record { first = omega arith; second = omega arith; third = omega arith; fourth = omega arith }

-- bytes of one length that make the same words are the same
module _ (bs cs : List ℕ) (bytes : Bytes bs) (bytes' : Bytes cs) (long : length bs ≡ length cs) (same : byte_words bs ≡ byte_words cs) where
  word_same : (k : ℕ) → 4 * k < length bs → word_at bs k ≡ word_at cs k
  word_same k low =
      let n = 2 * ((length bs + 7) / 8) in
      let many : n ≡ 2 * ((length cs + 7) / 8) = ap (λ l. 2 * ((l + 7) / 8)) long in
      let within : k < n = omega arith in
      sym (get_or-words_of n bs k within) ∙ ap (λ ws. get_or ws k 0) same ∙ ap (λ i. get_or (words_of i cs) k 0) (sym many) ∙ get_or-words_of n cs k within

  bytes_same : (k : ℕ) → 4 * k < length bs → SameBytes (get_or bs (4 * k) 0) (get_or bs (4 * k + 1) 0) (get_or bs (4 * k + 2) 0) (get_or bs (4 * k + 3) 0) (get_or cs (4 * k) 0) (get_or cs (4 * k + 1) 0) (get_or cs (4 * k + 2) 0) (get_or cs (4 * k + 3) 0)
  bytes_same k low =
      same_bytes _ _ _ _ _ _ _ _ (byte_low bs bytes _) (byte_low bs bytes _) (byte_low bs bytes _) (byte_low bs bytes _)
      (byte_low cs bytes' _) (byte_low cs bytes' _) (byte_low cs bytes' _) (byte_low cs bytes' _) (word_same k low)

  byte_same : (i j : ℕ) → i ≡ j → get_or bs j 0 ≡ get_or cs j 0 → get_or bs i 0 ≡ get_or cs i 0
  byte_same i j at e = ap (λ n. get_or bs n 0) at ∙ e ∙ ap (λ n. get_or cs n 0) (sym at)

  place_same : (i : ℕ) → i < length bs → (i % 4 < 1) ⊎ (1 ≤ i % 4) → (i % 4 < 2) ⊎ (2 ≤ i % 4) → (i % 4 < 3) ⊎ (3 ≤ i % 4) → get_or bs i 0 ≡ get_or cs i 0
  place_same i low (inl a) b c = let k = i / 4 in byte_same i (4 * k) (omega arith) (bytes_same k (omega arith)).first
  place_same i low (inr a) (inl b) c = let k = i / 4 in byte_same i (4 * k + 1) (omega arith) (bytes_same k (omega arith)).second
  place_same i low (inr a) (inr b) (inl c) = let k = i / 4 in byte_same i (4 * k + 2) (omega arith) (bytes_same k (omega arith)).third
  place_same i low (inr a) (inr b) (inr c) = let k = i / 4 in byte_same i (4 * k + 3) (omega arith) (bytes_same k (omega arith)).fourth

  pub byte_words_same : bs ≡ cs
  byte_words_same = ext_get_or 0 bs cs long (λ i low. place_same i low (cases_lt (i % 4) 1) (cases_lt (i % 4) 2) (cases_lt (i % 4) 3))
