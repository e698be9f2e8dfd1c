-- Two messages, and the pair in which they first differ: the pivot's word stands in that pair alone.
use Rattle.std.specs.Prelude.{◌≡◌, ℕ, suc, ◌+◌, ◌%◌, ◌^◌, ◌<◌, Bool, true, cond, ◌≢◌, ◌⊎◌, List, [], ◌∷◌, length, ◌==◌, slice_set, refl}
use Rattle.std.proofs.Common.{sym, ap, subst, ◌∙◌, inl, inr, add_comm, add_assoc, arith}
use Rattle.std.proofs.lemmas.Bool.{cases_eq, eq-eqb, ne_eqb}
use Rattle.families.specs.Meanings.{Words}
use Rattle.families.specs.Pairs.{pair_sum}
use Rattle.families.specs.Places.{partner, difference}

-- one pair of two messages: key word k with words m and m', which differ, and the pivot's key word with words n and n'
pub record Pair : Type 0 where
  pub k : ℕ
  pub m : ℕ
  pub m' : ℕ
  pub n : ℕ
  pub n' : ℕ
  pub differ : m ≢ m'
  pub k_low : k < 2 ^ 32
  pub m_low : m < 2 ^ 32
  pub m'_low : m' < 2 ^ 32
  pub n_low : n < 2 ^ 32
  pub n'_low : n' < 2 ^ 32

-- with v at place j of the key, each sum is what one pair gives, in which v stands, and a number that v does not change
pub record Split (f : ℕ → ℕ → ℕ → ℕ → ℕ) (j : ℕ) (ks xs ys : List ℕ) : Type 0 where
  pub pair : Pair
  pub p : ℕ
  pub q : ℕ
  pub first : (v : ℕ) → pair_sum f (slice_set ks j v) xs ≡ p + f pair.k pair.m v pair.n
  pub second : (v : ℕ) → pair_sum f (slice_set ks j v) ys ≡ q + f pair.k pair.m' v pair.n'

-- the pivot, by whether the words of the first pair are equal, and from where the other words first differ
abbrev place : ℕ → Bool → Bool → ℕ
place i b b' = partner (cond b (suc (cond b' (suc i) 0)) 0)

module _ (f : ℕ → ℕ → ℕ → ℕ → ℕ) (comm : (k x l y : ℕ) → f k x l y ≡ f l y k x) where
  pub split : (ks xs ys : List ℕ) → Words ks → Words xs → Words ys → length ks ≡ length xs → length ks ≡ length ys → length xs % 2 ≡ 0 → xs ≢ ys → Split f (partner (difference xs ys)) ks xs ys
  split ks [] [] wk wx wy lx ly even ne = absurd (ne refl)
  split ks [] (y ∷ ys) wk wx wy lx ly even ne = absurd (omega arith)
  split ks (x ∷ []) ys wk wx wy lx ly even ne = absurd (omega arith)
  split ks (x ∷ x' ∷ xs) [] wk wx wy lx ly even ne = absurd (omega arith)
  split ks (x ∷ x' ∷ xs) (y ∷ []) wk wx wy lx ly even ne = absurd (omega arith)
  split [] (x ∷ x' ∷ xs) (y ∷ y' ∷ ys) wk wx wy lx ly even ne = absurd (omega arith)
  split (k ∷ []) (x ∷ x' ∷ xs) (y ∷ y' ∷ ys) wk wx wy lx ly even ne = absurd (omega arith)
  split (k ∷ l ∷ ks) (x ∷ x' ∷ xs) (y ∷ y' ∷ ys) wk wx wy lx ly even ne =
      go (cases_eq x y) (cases_eq x' y') (split ks xs ys wk.1.1 wx.1.1 wy.1.1 (omega arith) (omega arith) (omega arith))
    where
      later : {j : ℕ} → Split f j ks xs ys → Split f (suc (suc j)) (k ∷ l ∷ ks) (x ∷ x' ∷ xs) (y ∷ y' ∷ ys)
      later {j} s =
          record {
            pair = s.pair;
            p = f k x l x' + s.p;
            q = f k y l y' + s.q;
            first = λ v. ap (λ n. f k x l x' + n) (s.first v) ∙ sym (add_assoc _ _ _);
            second = λ v. ap (λ n. f k y l y' + n) (s.second v) ∙ sym (add_assoc _ _ _);
          }

      go : (x ≡ y) ⊎ (x ≢ y) → (x' ≡ y') ⊎ (x' ≢ y') → (xs ≢ ys → Split f (partner (difference xs ys)) ks xs ys) → Split f (place (difference xs ys) (x == y) (x' == y')) (k ∷ l ∷ ks) (x ∷ x' ∷ xs) (y ∷ y' ∷ ys)
      go (inr d) e rec =
          let at : Split f 1 (k ∷ l ∷ ks) (x ∷ x' ∷ xs) (y ∷ y' ∷ ys) = record {
            pair = record { k = k; m = x; m' = y; n = x'; n' = y'; differ = d; k_low = wk.0; m_low = wx.0; m'_low = wy.0; n_low = wx.1.0; n'_low = wy.1.0 };
            p = pair_sum f ks xs;
            q = pair_sum f ks ys;
            first = λ v. add_comm _ _;
            second = λ v. add_comm _ _;
          } in
          subst (λ j. Split f j (k ∷ l ∷ ks) (x ∷ x' ∷ xs) (y ∷ y' ∷ ys)) (sym (ap (λ b. place (difference xs ys) b (x' == y')) (ne_eqb x y d))) at
      go (inl e) (inr d) rec =
          let at : Split f 0 (k ∷ l ∷ ks) (x ∷ x' ∷ xs) (y ∷ y' ∷ ys) = record {
            pair = record { k = l; m = x'; m' = y'; n = x; n' = y; differ = d; k_low = wk.1.0; m_low = wx.1.0; m'_low = wy.1.0; n_low = wx.0; n'_low = wy.0 };
            p = pair_sum f ks xs;
            q = pair_sum f ks ys;
            first = λ v. add_comm _ _ ∙ ap (λ n. pair_sum f ks xs + n) (comm _ _ _ _);
            second = λ v. add_comm _ _ ∙ ap (λ n. pair_sum f ks ys + n) (comm _ _ _ _);
          } in
          subst (λ j. Split f j (k ∷ l ∷ ks) (x ∷ x' ∷ xs) (y ∷ y' ∷ ys)) (sym (ap (λ b. place (difference xs ys) b (x' == y')) (eq-eqb x y e) ∙ ap (λ b. place (difference xs ys) true b) (ne_eqb x' y' d))) at
      go (inl e) (inl e') rec =
          let at = later (rec (λ same. ne (ap (λ n. n ∷ x' ∷ xs) e ∙ ap (λ n. y ∷ n ∷ xs) e' ∙ ap (λ zs. y ∷ y' ∷ zs) same))) in
          subst (λ j. Split f j (k ∷ l ∷ ks) (x ∷ x' ∷ xs) (y ∷ y' ∷ ys)) (sym (ap (λ b. place (difference xs ys) b (x' == y')) (eq-eqb x y e) ∙ ap (λ b. place (difference xs ys) true b) (eq-eqb x' y' e'))) at
