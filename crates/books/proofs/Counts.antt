-- How often a number stands in a list.
use Rattle.std.proofs.Common.{◌≡◌, ℕ, zero, suc, ◌+◌, ◌<◌, ◌≤◌, Bool, true, false, cond, eqb, ◌≢◌, List, [], ◌∷◌, ◌++◌, refl, ap, ⊎_elim, add-zero, zero-add, arith}
use Rattle.std.specs.List.{range_with_len}
use Rattle.std.proofs.lemmas.Bool.{eq-eqb, ne_eqb, cases_eq, cond-true, cond-false}
use Rattle.books.specs.Counting.{times}

pub times-append : (n : ℕ) (xs ys : List ℕ) → times n (xs ++ ys) ≡ times n xs + times n ys
times-append n [] ys = omega arith
times-append n (x ∷ xs) ys = let ih = times-append n xs ys in omega arith

pub times_same : (x n : ℕ) → x ≡ n → times n (x ∷ []) ≡ 1
times_same x n e = let h : ◌≡◌ {A = ℕ} (cond (eqb x n) 1 0) 1 = cond-true (eqb x n) 1 0 (eq-eqb x n e) in omega arith

pub times_other : (x n : ℕ) → x ≢ n → times n (x ∷ []) ≡ 0
times_other x n ne = let h : ◌≡◌ {A = ℕ} (cond (eqb x n) 1 0) 0 = cond-false (eqb x n) 1 0 (ne_eqb x n ne) in omega arith

-- of one number, if it stands there
pub times_one : (x n : ℕ) → times n (x ∷ []) ≤ 1
times_one x n = go (eqb x n)
  where
    go : (t : Bool) → cond t 1 0 + 0 ≤ 1
    go true = omega arith
    go false = omega arith

-- a number counts in `cond t (s ∷ []) []` as it does in `s ∷ []`, if t
pub times_cond : (n s : ℕ) (t : Bool) (k : ℕ) → times n (s ∷ []) ≡ k → times n (cond t (s ∷ []) []) ≡ cond t k 0
times_cond n s true k e = e
times_cond n s false k e = refl

pub cond_none : (t : Bool) → ◌≡◌ {A = ℕ} (cond t 0 0) 0
cond_none true = refl
cond_none false = refl

-- the numbers from s on
times_below : (n s k : ℕ) → n < s → times n (range_with_len s k) ≡ 0
times_below n s zero low = refl
times_below n s (suc k) low =
    let here : times n (s ∷ []) ≡ 0 = times_other s n (omega arith) in
    let rest = times_below n (s + 1) k (omega arith) in
    omega arith

pub times_above : (n s k : ℕ) → s + k ≤ n → times n (range_with_len s k) ≡ 0
times_above n s zero high = refl
times_above n s (suc k) high =
    let here : times n (s ∷ []) ≡ 0 = times_other s n (omega arith) in
    let rest = times_above n (s + 1) k (omega arith) in
    omega arith

pub times_inside : (n s k : ℕ) → s ≤ n → n < s + k → times n (range_with_len s k) ≡ 1
times_inside n s zero high low = omega arith
times_inside n s (suc k) high low =
    ⊎_elim
    (λ (e : s ≡ n).
    let here = times_same s n e in
    let rest = times_below n (s + 1) k (omega arith) in
    omega arith)
    (λ (ne : s ≡ n → ⊥).
    let here = times_other s n ne in
    let rest = times_inside n (s + 1) k (omega arith) (omega arith) in
    omega arith)
    (cases_eq s n)

pub counting-append : (s k l : ℕ) → range_with_len s k ++ range_with_len (s + k) l ≡ range_with_len s (k + l)
counting-append s zero l = rw (add-zero s, zero-add l) refl
counting-append s (suc k) l =
    let e : s + suc k ≡ s + 1 + k = omega arith in
    let f : suc k + l ≡ suc (k + l) = omega arith in
    rw (e, f) (ap (λ xs. s ∷ xs) (counting-append (s + 1) k l))
