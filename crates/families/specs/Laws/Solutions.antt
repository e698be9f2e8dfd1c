-- The families over pairs: how many words at the pivot give two messages tags that differ by a given number.
use Rattle.std.specs.Prelude.{◌≡◌, ℕ, ◌+◌, ◌*◌, ◌%◌, ◌^◌, ◌<◌, ◌≤◌, cond, ◌≢◌, ◌⊎◌, length, nat_lt, refl}
use Rattle.std.proofs.Common.{sym, ap₂, ◌∙◌, inl, inr, mul_comm, arith, lit<}
use Rattle.std.proofs.Math.Path.{ap}
use Rattle.std.proofs.ByRecursion.{All-weaker}
use Rattle.std.proofs.lemmas.Bool.{cases_lt}
use Rattle.families.specs.Counting.{AtMost}
use Rattle.families.specs.Meanings.{Meaning, Yields, Few, Lawful}
use Rattle.families.specs.Pairs.{pair_sum, product}
use Rattle.families.specs.Places.{difference, partner}
use Rattle.families.specs.Laws.Classes.{by_class}
use Rattle.families.specs.Laws.Residues.{add_same, subtract}
use Rattle.families.specs.Laws.Products.{level, crossed}
use Rattle.families.specs.Laws.Places.{difference_differs, partner_inside}
use Rattle.families.specs.Laws.Splits.{Pair, split}

-- (v + s) - (v + t), each modulo 2^32, has one of two values
same_low : (v w s t : ℕ) → (v + t) % 2 ^ 32 ≤ (v + s) % 2 ^ 32 → (w + t) % 2 ^ 32 ≤ (w + s) % 2 ^ 32 → (v + s) % 2 ^ 32 + (w + t) % 2 ^ 32 ≡ (w + s) % 2 ^ 32 + (v + t) % 2 ^ 32
same_low v w s t hv hw = omega arith

same_high : (v w s t : ℕ) → (v + s) % 2 ^ 32 < (v + t) % 2 ^ 32 → (w + s) % 2 ^ 32 < (w + t) % 2 ^ 32 → (v + s) % 2 ^ 32 + (w + t) % 2 ^ 32 ≡ (w + s) % 2 ^ 32 + (v + t) % 2 ^ 32
same_high v w s t hv hw = omega arith

across : (v w s t : ℕ) → (v + t) % 2 ^ 32 ≤ (v + s) % 2 ^ 32 → (w + s) % 2 ^ 32 < (w + t) % 2 ^ 32 → (v + s) % 2 ^ 32 + (w + t) % 2 ^ 32 ≡ (w + s) % 2 ^ 32 + (v + t) % 2 ^ 32 + 2 ^ 32
across v w s t hv hw = omega arith

same_word : (v w s : ℕ) → v < 2 ^ 32 → w < 2 ^ 32 → (v + s) % 2 ^ 32 ≡ (w + s) % 2 ^ 32 → v ≡ w
same_word v w s lv lw e = omega arith

-- f multiplies, modulo 2^64, what is read of a key word and a message word: their sum plus h, modulo 2^32, and then c
pub record Reading (f : ℕ → ℕ → ℕ → ℕ → ℕ) (h c : ℕ) : Type 0 where
  pub comm : (k x l y : ℕ) → f k x l y ≡ f l y k x
  pub times : (k x l y : ℕ) → k < 2 ^ 32 → x < 2 ^ 32 → l < 2 ^ 32 → y < 2 ^ 32 → f k x l y % 2 ^ 64 ≡ (((k + (x + h)) % 2 ^ 32 + c) * ((l + (y + h)) % 2 ^ 32 + c)) % 2 ^ 64

-- beside the sums p and q of the other pairs, v makes the sums differ by d
abbrev pub Solves : (ℕ → ℕ → ℕ → ℕ → ℕ) → Pair → ℕ → ℕ → ℕ → ℕ → Type 0
Solves f t p q d v = (v < 2 ^ 32) × ((p + f t.k t.m v t.n) % 2 ^ 64 ≡ ((q + f t.k t.m' v t.n') % 2 ^ 64 + d) % 2 ^ 64)

-- The meaning that is proved lawful, written out. The definition of a family computes to it: the check compares the two at
-- the family's impl, and refuses a definition that says anything else.
abbrev pub sums : (ℕ → ℕ → ℕ → ℕ → ℕ) → Meaning
sums f = record { modulus = 2 ^ 64; tag = λ ks xs. pair_sum f ks xs % 2 ^ 64; pivot = λ xs ys. partner (difference xs ys) }

module _ {f : ℕ → ℕ → ℕ → ℕ → ℕ} {h c : ℕ} (r : Reading f h c) where
  abbrev read : ℕ → ℕ → ℕ
  read k x = (k + (x + h)) % 2 ^ 32 + c

  near : (k x l y : ℕ) → read k x < read l y + 2 ^ 32
  near k x l y = omega arith

  apart : (k m m' : ℕ) → m ≢ m' → m < 2 ^ 32 → m' < 2 ^ 32 → read k m ≢ read k m'
  apart k m m' differ low low' e = differ (same_word m m' (k + h) low low' (turned m ∙ same ∙ sym (turned m')))
    where
      same : (k + (m + h)) % 2 ^ 32 ≡ (k + (m' + h)) % 2 ^ 32
      same = omega arith

      turned : (x : ℕ) → (x + (k + h)) % 2 ^ 32 ≡ (k + (x + h)) % 2 ^ 32
      turned x = ap (λ n. n % 2 ^ 32) (omega arith)

  module _ (t : Pair) (p q d : ℕ) where
    abbrev A : ℕ
    A = read t.k t.m

    abbrev A' : ℕ
    A' = read t.k t.m'

    abbrev X : ℕ → ℕ
    X v = read v t.n

    abbrev Y : ℕ → ℕ
    Y v = read v t.n'

    -- two solutions, one less the other
    equation : (v w : ℕ) → Solves f t p q d v → Solves f t p q d w → (A * X v + A' * Y w) % 2 ^ 64 ≡ (A * X w + A' * Y v) % 2 ^ 64
    equation v w hv hw =
        let first = λ (u : ℕ) (low : u < 2 ^ 32). r.times t.k t.m u t.n t.k_low t.m_low low t.n_low in
        let second = λ (u : ℕ) (low : u < 2 ^ 32). r.times t.k t.m' u t.n' t.k_low t.m'_low low t.n'_low in
        let e = subtract (2 ^ 64) p q d _ _ _ _ (lit< tt) hv.1 hw.1 in
        let left = add_same (2 ^ 64) (A * X v) (A' * Y w) _ _ (sym (first v hv.0)) (sym (second w hw.0)) in
        let right = add_same (2 ^ 64) _ _ (A * X w) (A' * Y v) (first w hw.0) (second v hv.0) in
        left ∙ e ∙ right

    differ : A ≢ A'
    differ = apart t.k t.m t.m' t.differ t.m_low t.m'_low

    -- two solutions with one difference of X and Y
    one_level : (v w : ℕ) → Solves f t p q d v → Solves f t p q d w → X v + Y w ≡ X w + Y v → v ≡ w
    one_level v w hv hw even =
        let same : X v ≡ X w = level A A' (X v) (X w) (Y v) (Y w) differ (near _ _ _ _) (near _ _ _ _) (near _ _ _ _) (near _ _ _ _) even (equation v w hv hw) in
        same_word v w (t.n + h) hv.0 hw.0 (omega arith)

    both_low : (v w : ℕ) → Y v ≤ X v → Y w ≤ X w → X v + Y w ≡ X w + Y v
    both_low v w lv lw = let even = same_low v w (t.n + h) (t.n' + h) (omega arith) (omega arith) in omega arith

    both_high : (v w : ℕ) → X v < Y v → X w < Y w → X v + Y w ≡ X w + Y v
    both_high v w lv lw = let even = same_high v w (t.n + h) (t.n' + h) (omega arith) (omega arith) in omega arith

    low_and_high : (v w : ℕ) → Y v ≤ X v → X w < Y w → X v + Y w ≡ X w + Y v + 2 ^ 32
    low_and_high v w lv lw = let even = across v w (t.n + h) (t.n' + h) (omega arith) (omega arith) in omega arith

    abbrev class : ℕ → ℕ
    class v = cond (nat_lt (X v) (Y v)) 1 0

    class_low : (v : ℕ) → class v < 2
    class_low v = grind arith

    same_class : (v w : ℕ) → class v ≡ class w → X v + Y w ≡ X w + Y v
    same_class v w same = go (cases_lt (X v) (Y v)) (cases_lt (X w) (Y w))
      where
        go : (X v < Y v) ⊎ (Y v ≤ X v) → (X w < Y w) ⊎ (Y w ≤ X w) → X v + Y w ≡ X w + Y v
        go (inl hv) (inl hw) = both_high v w hv hw
        go (inr hv) (inr hw) = both_low v w hv hw
        go (inl hv) (inr hw) = absurd (grind arith)
        go (inr hv) (inl hw) = absurd (grind arith)

    -- two words solve at most
    pub two : AtMost 2 (Solves f t p q d)
    two = by_class (Solves f t p q d) 2 class (λ v hv. class_low v) (λ v w hv hw same. one_level v w hv hw (same_class v w same))

    -- and one, where nothing is added to the sum modulo 2^32
    pub one : c ≡ 0 → AtMost 1 (Solves f t p q d)
    one plain = by_class (Solves f t p q d) 1 (λ v. 0) (λ v hv. omega arith) (λ v w hv hw same. go v w hv hw (cases_lt (X v) (Y v)) (cases_lt (X w) (Y w)))
      where
        read_low : (k x : ℕ) → read k x < 2 ^ 32
        read_low k x = omega arith

        never : (v w : ℕ) → Solves f t p q d v → Solves f t p q d w → Y v ≤ X v → X w < Y w → ⊥
        never v w hv hw lv lw =
            crossed A A' (X v) (X w) (Y v) (Y w) differ (read_low _ _) (read_low _ _) (read_low _ _) (read_low _ _) (low_and_high v w lv lw) (equation v w hv hw)

        go : (v w : ℕ) → Solves f t p q d v → Solves f t p q d w → (X v < Y v) ⊎ (Y v ≤ X v) → (X w < Y w) ⊎ (Y w ≤ X w) → v ≡ w
        go v w hv hw (inl lv) (inl lw) = one_level v w hv hw (both_high v w lv lw)
        go v w hv hw (inr lv) (inr lw) = one_level v w hv hw (both_low v w lv lw)
        go v w hv hw (inl lv) (inr lw) = absurd (never w v hw hv lw lv)
        go v w hv hw (inr lv) (inl lw) = absurd (never v w hv hw lv lw)

  -- the law, from what holds of one pair
  pub lawful : (n : ℕ) → 1 ≤ n → n ≤ 65535 → ((t : Pair) (p q d : ℕ) → AtMost n (Solves f t p q d)) → Lawful (sums f) n
  unfolding Few
  lawful n low high most = record {
    modulus_low = omega arith;
    modulus_high = omega arith;
    count_low = low;
    count_high = high;
    below = λ ks xs. omega arith;
    inside = λ xs ys same even ne. partner_inside (difference xs ys) (length xs) even (difference_differs xs ys same ne).inside;
    few = λ ks xs ys d wk wx wy sx sy ne small vs distinct yields.
        let s = split f r.comm ks xs ys wk wx wy sx.same sy.same sx.even ne in
        most s.pair s.p s.q d vs distinct
        (All-weaker (Yields (sums f) ks xs ys d) (Solves f s.pair s.p s.q d)
        (λ v hit. (hit.0, ap (λ n. n % 2 ^ 64) (sym (s.first v)) ∙ hit.1 ∙ ap (λ n. (n % 2 ^ 64 + d) % 2 ^ 64) (s.second v))) vs yields);
  }

pub plain : Reading product 0 0
plain = record {
  comm = λ k x l y. mul_comm _ _;
  times = λ k x l y lk lx ll ly. ap₂ (λ a b. (a * b) % 2 ^ 64) (omega arith) (omega arith);
}

pub nh_lawful : Lawful (sums product) 1
nh_lawful = lawful plain 1 (omega arith) (omega arith) (λ t p q d. one plain t p q d refl)
