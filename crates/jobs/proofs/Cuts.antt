-- Lists cut into blocks.
use Rattle.std.proofs.Common.{◌≡◌, ℕ, zero, suc, ◌+◌, ◌-◌, ◌*◌, ◌/◌, ◌<◌, ◌≤◌, ◌⊎◌, List, [], ◌∷◌, ◌++◌, length, get_or, take, drop, set, sym, refl, ap, ◌∙◌, subst, inl, inr, append_assoc, mod-lt, mul_comm, mul-zero, mul-suc, mul-add, arith, length-append}
use native.Mathlib.Nat.{div-eq_of_lt-le, zero-div, div-add-mod}
use Rattle.std.specs.Simd.{first_chunks}
use Rattle.std.specs.List.{flat_map, AllByRecursion}
use Rattle.std.proofs.ByRecursion.{All-push}
use Rattle.std.proofs.lemmas.List.{take_more_set, append-nil, length-set, length-take, length-take-le, length-drop, drop-drop, take_at, drop_at, take_all, take-append-drop, take-take, nil_from_length}
use Rattle.std.proofs.Math.Seq.{take-add}
use Rattle.std.proofs.lemmas.Grind.{flat_map-append}
use Rattle.std.proofs.lemmas.Bool.{cases_lt}
use Rattle.jobs.specs.Cutting.{cut, blocks, Split}
use Rattle.jobs.specs.Laws.{CutWell}

-- two words written at the end of a front
pub take_two : (ws : List ℕ) (n a b : ℕ) → 2 * n + 1 < length ws → take (2 * (n + 1)) (set (set ws (2 * n) a) (2 * n + 1) b) ≡ take (2 * n) ws ++ a ∷ b ∷ []
take_two ws n a b h =
    let e : 2 * (n + 1) ≡ 2 * n + 1 + 1 = omega arith in
    let l : 2 * n + 1 < length (set ws (2 * n) a) = simp length-set h in
    let l' : 2 * n < length ws = omega arith in
    ap (λ k. take k (set (set ws (2 * n) a) (2 * n + 1) b)) e
    ∙ take_more_set (set ws (2 * n) a) (2 * n + 1) b l
    ∙ ap (λ xs. xs ++ b ∷ []) (take_more_set ws (2 * n) a l')
    ∙ append_assoc (take (2 * n) ws) (a ∷ []) (b ∷ [])

-- the chunk at place i of the first k chunks of n items
pub chunk_at : {X : Type 0} (n k : ℕ) (xs : List X) (i : ℕ) (d : List X) → i < k → get_or (first_chunks n k xs) i d ≡ take n (drop (n * i) xs)
chunk_at n zero xs i d le = absurd (omega arith)
chunk_at n (suc k) xs zero d le = ap (λ j. take n (drop j xs)) (sym (mul-zero n))
chunk_at n (suc k) xs (suc i) d le =
    let place : n + n * i ≡ n * suc i = let e = mul-suc n i in omega arith in
    chunk_at n k (drop n xs) i d (omega arith) ∙ ap (take n) (drop-drop (n * i) n xs ∙ ap (λ j. drop j xs) place)

-- a front, and what comes next
pub take_next : {X : Type 0} (xs : List X) (at n : ℕ) → take at xs ++ take n (drop at xs) ≡ take (at + n) xs
take_next xs at n = sym (take-add at n xs)

-- the chunks of 128 items of a front, one behind the other
pub chunk_next : {X : Type 0} (xs ys : List X) (cs : List (List X)) (w i : ℕ) → ys ≡ take w xs → cs ≡ first_chunks 128 (length ys / 128) ys → i < length ys / 128 → take (128 * i) xs ++ get_or cs i [] ≡ take (128 * (i + 1)) xs
chunk_next xs ys cs w i front chunks low =
    let long = ap length front ∙ length-take w xs in
    let more : 128 * i + 128 ≡ 128 * (i + 1) = omega arith in
    ap (λ zs. zs ++ get_or cs i []) (sym (ap (take (128 * i)) front ∙ take-take (128 * i) w xs (omega arith)))
    ∙ ap (λ zs. take (128 * i) ys ++ zs) (ap (λ ds. get_or ds i []) chunks ∙ chunk_at 128 (length ys / 128) ys i [] low)
    ∙ take_next ys (128 * i) 128
    ∙ ap (take (128 * i + 128)) front
    ∙ take-take (128 * i + 128) w xs (omega arith)
    ∙ ap (λ n. take n xs) more

-- a part goes to the rest, as far as there is room
pub split-append : {X : Type 0} {n : ℕ} {xs : List X} {whole : List (List X)} {rest : List X} (p : List X) → Split n xs whole rest → length rest + length p ≤ n → Split n (xs ++ p) whole (rest ++ p)
split-append {whole = whole} {rest = rest} p s h = record {
  joins = ap (λ ys. ys ++ p) s.joins ∙ append_assoc (flat_map (λ b. b) whole) rest p;
  full = s.full;
  short = simp length-append h;
}

-- a full rest becomes a whole block
pub split_flush : {X : Type 0} {n : ℕ} {xs : List X} {whole : List (List X)} {rest : List X} → Split n xs whole rest → length rest ≡ n → Split n xs (whole ++ rest ∷ []) []
split_flush {n = n} {whole = whole} {rest = rest} s e = record {
  joins = s.joins ∙ sym (append-nil _ ∙ flat_map-append (λ b. b) whole (rest ∷ []) ∙ ap (λ ys. flat_map (λ b. b) whole ++ ys) (append-nil rest));
  full = All-push (λ b. length b ≡ n) whole rest s.full e;
  short = omega arith;
}

pub split_none : {X : Type 0} {n : ℕ} → Split {X = X} n [] [] []
split_none = record { joins = refl; full = tt; short = omega arith }

-- how long a list is that is cut so
split_length : {X : Type 0} (n : ℕ) (whole : List (List X)) (rest : List X) → AllByRecursion (λ b. length b ≡ n) whole → length (flat_map (λ b. b) whole ++ rest) ≡ n * length whole + length rest
split_length n [] rest f = omega arith
split_length n (b ∷ whole) rest f =
    ap length (append_assoc b (flat_map (λ c. c) whole) rest)
    ∙ length-append b (flat_map (λ c. c) whole ++ rest)
    ∙ let h = split_length n whole rest f.1 in let e = f.0 in let m = mul-add n (length whole) 1 in omega arith

pub split_long : {X : Type 0} {n : ℕ} {xs : List X} {whole : List (List X)} {rest : List X} → Split n xs whole rest → length xs ≡ n * length whole + length rest
split_long {n = n} {whole = whole} {rest = rest} s = ap length s.joins ∙ split_length n whole rest s.full

-- the blocks of a list that is cut so
cut_whole : {X : Type 0} (n : ℕ) (whole : List (List X)) (rest : List X) → AllByRecursion (λ b. length b ≡ n) whole → length rest ≤ n → cut n (suc (length whole)) (flat_map (λ b. b) whole ++ rest) ≡ whole ++ rest ∷ []
cut_whole n [] rest f h = ap (λ b. b ∷ []) (take_all n rest h)
cut_whole n (b ∷ whole) rest f h =
    let e = append_assoc b (flat_map (λ c. c) whole) rest in
    let hd : take n ((b ++ flat_map (λ c. c) whole) ++ rest) ≡ b = ap (take n) e ∙ take_at b _ n f.0 in
    let tl : drop n ((b ++ flat_map (λ c. c) whole) ++ rest) ≡ flat_map (λ c. c) whole ++ rest = ap (drop n) e ∙ drop_at b _ n f.0 in
    let more = cut_whole n whole rest f.1 h in
    ap (λ c. c ∷ cut n (suc (length whole)) (drop n ((b ++ flat_map (λ c. c) whole) ++ rest))) hd
    ∙ ap (λ ys. b ∷ cut n (suc (length whole)) ys) tl
    ∙ ap (λ bs. b ∷ bs) more

-- how many blocks lie before the last
before_last : (n w r l : ℕ) → 0 < n → r ≤ n → l ≡ n * w + r → (0 < l → 0 < r) → (l - 1) / n ≡ w
before_last n w r l pos short long some = go w long (cases_lt 0 l)
  where
    go : (w : ℕ) → l ≡ n * w + r → (0 < l) ⊎ (l ≤ 0) → (l - 1) / n ≡ w
    go w long (inl p) =
        let q = some p in
        let low : w * n ≤ l - 1 = let e = mul_comm w n in omega arith in
        let high : l - 1 < (w + 1) * n = let e = mul_comm (w + 1) n in let m = mul-add n w 1 in omega arith in
        div-eq_of_lt-le n low high
    go zero long (inr none) = let e : l - 1 ≡ 0 = omega arith in ap (λ k. k / n) e ∙ zero-div n
    go (suc w) long (inr none) = let m = mul-add n w 1 in absurd (omega arith)

pub blocks_are : {X : Type 0} {n : ℕ} {xs : List X} {whole : List (List X)} {rest : List X} → 0 < n → Split n xs whole rest → (0 < length xs → 0 < length rest) → blocks n xs ≡ whole ++ rest ∷ []
blocks_are {n = n} {xs = xs} {whole = whole} {rest = rest} pos s some =
    ap (λ k. cut n (suc k) xs) (before_last n (length whole) (length rest) (length xs) pos s.short (split_long s) some)
    ∙ ap (cut n (suc (length whole))) s.joins
    ∙ cut_whole n whole rest s.full s.short

-- the next block goes in front
split_front : {X : Type 0} {n : ℕ} {xs : List X} {whole : List (List X)} {rest : List X} → n ≤ length xs → Split n (drop n xs) whole rest → Split n xs (take n xs ∷ whole) rest
split_front {n = n} {xs = xs} {whole = whole} {rest = rest} le s = record {
  joins = sym (take-append-drop n xs) ∙ ap (λ ys. take n xs ++ ys) s.joins ∙ sym (append_assoc (take n xs) (flat_map (λ b. b) whole) rest);
  full = (length-take-le n xs le, s.full);
  short = s.short;
}

-- a list of more than n * w items, and at most n more, has w whole blocks and a rest
record Rested (n w : ℕ) (xs : List ℕ) : Type 0 where
  whole : List (List ℕ)
  rest : List ℕ
  split : Split n xs whole rest
  some : 0 < length rest

rested : (n w : ℕ) (xs : List ℕ) → n * w < length xs → length xs ≤ n * w + n → Rested n w xs
rested n zero xs low high =
    let z = mul-zero n in
    record { whole = []; rest = xs; split = record { joins = refl; full = tt; short = omega arith }; some = omega arith }
rested n (suc w) xs low high =
    let m = mul-add n w 1 in
    let d = length-drop n xs in
    let r = rested n w (drop n xs) (omega arith) (omega arith) in
    record { whole = take n xs ∷ r.whole; rest = r.rest; split = split_front (omega arith) r.split; some = r.some }

pub cut_well : (n : ℕ) (xs : List ℕ) → 0 < n → CutWell n xs
cut_well n xs pos = go (cases_lt 0 (length xs))
  where
    go : (0 < length xs) ⊎ (length xs ≤ 0) → CutWell n xs
    go (inl p) =
        let w = (length xs - 1) / n in
        let e = div-add-mod (length xs - 1) n in
        let l = mod-lt (length xs - 1) pos in
        let r = rested n w xs (omega arith) (omega arith) in
        record { whole = r.whole; rest = r.rest; are = blocks_are pos r.split (λ _. r.some); split = r.split; some = λ _. r.some }
    go (inr none) =
        let e : xs ≡ [] = nil_from_length xs (omega arith) in
        subst (CutWell n) (sym e) (record { whole = []; rest = []; are = blocks_are pos split_none (λ p. p); split = split_none; some = λ p. p })
