-- Products modulo a prime.
use Rattle.std.specs.Prelude.{◌≡◌, ℕ, zero, suc, ◌+◌, ◌-◌, ◌*◌, ◌/◌, ◌%◌, ◌<◌, ◌≤◌, ◌≢◌, ◌⊎◌, refl}
use Rattle.std.proofs.Common.{sym, ◌∙◌, ap, subst₂, inl, inr, ⊎_elim, mul-add, add-mul, mul_assoc, mul_comm, mul_left_comm, mul-one, one-mul, not-suc-le-zero, mod-lt, mod-eq_of_lt, div-add-mod', add-zero, add_comm, arith}
use Rattle.std.proofs.Math.Nat.{div-mul_cancel, dvd_of_mod-eq-zero, mul-mod_left, mul-add-mod_self_right, zero-mod}
use Rattle.std.proofs.lemmas.Bool.{cases_order}
use Rattle.families.specs.Primes.{Prime}
use Rattle.families.specs.Laws.Residues.{cancel}

quotient : (p x : ℕ) → x % p ≡ 0 → x / p * p ≡ x
quotient p x e = div-mul_cancel p (dvd_of_mod-eq-zero p e)

-- p divides a * r where it divides a * b, and p = q * b + r
descends : (p a b q r : ℕ) → q * b + r ≡ p → (a * b) % p ≡ 0 → (a * r) % p ≡ 0
descends p a b q r split e =
    let k = a * b / p in
    let m : q * k * p ≡ a * (q * b) =
    mul_assoc q k p ∙ ap (λ x. q * x) (quotient p (a * b) e) ∙ mul_left_comm q a b in
    let w : q * k * p + a * r ≡ a * p = ap (λ x. x + a * r) m ∙ sym (mul-add a (q * b) r) ∙ ap (λ x. a * x) split in
    sym (mul-add-mod_self_right (q * k) p (a * r)) ∙ ap (λ x. x % p) w ∙ mul-mod_left a p

below : (n p : ℕ) → Prime p → (a b : ℕ) → 0 < a → a < p → b < p → (a * b) % p ≡ 0 → b < n → b ≡ 0
below zero p P a b ha hp hb e h = absurd (not-suc-le-zero h)
below (suc n) p P a zero ha hp hb e h = refl
below (suc n) p P a (suc c) ha hp hb e h =
    let b = suc c in
    let r = p % b in
    let split : p / b * b + r ≡ p = div-add-mod' p b in
    let less : r < b = mod-lt p (omega arith) in
    let none : r ≡ 0 = below n p P a r ha hp (omega arith) (descends p a b (p / b) r split e) (omega arith) in
    ⊎_elim
    (λ one. let same : 1 * b ≡ p / b * b = ap (λ x. x * b) (sym one) in absurd (omega (arith, one-mul b)))
    (λ one.
    let zeroth : a ≡ 0 = sym (mod-eq_of_lt hp) ∙ ap (λ x. x % p) (sym (mul-one a) ∙ ap (λ x. a * x) (sym one)) ∙ e in
    absurd (omega arith))
    (P.only (p / b) b (quotient b p none))

-- a prime that divides a product of two numbers below it, the one above 0, divides the other, which then is 0
euclid : (p : ℕ) → Prime p → (a b : ℕ) → 0 < a → a < p → b < p → (a * b) % p ≡ 0 → b ≡ 0
euclid p P a b ha hp hb e = below (suc b) p P a b ha hp hb e (omega arith)

-- products of which each factor is the one less than the other, and what a swap of two factors changes
swapped : (v t m s : ℕ) → (v + t) * (m + s) + v * m ≡ v * (m + s) + (v + t) * m + s * t
swapped v t m s =
    omega (arith, add-mul v t (m + s), add-mul v t m, mul-add v m s, mul-add t m s, mul_comm s t)

module _ (p : ℕ) (prime : Prime p) where
  ordered : (v t m s : ℕ) → 0 < s → m + s < p → v + t < p → (v * (m + s) + (v + t) * m) % p ≡ ((v + t) * (m + s) + v * m) % p → t ≡ 0
  ordered v t m s hs hm hv e =
      let both = v * (m + s) + (v + t) * m in
      let none : (both + 0) % p ≡ (both + s * t) % p = ap (λ x. x % p) (add-zero both) ∙ e ∙ ap (λ x. x % p) (swapped v t m s) in
      euclid p prime s t hs (omega arith) (omega arith) (sym (cancel p both 0 (s * t) (omega arith) none) ∙ zero-mod p)

  sorted : (v w m n : ℕ) → v ≤ w → n < m → m < p → w < p → (v * m + w * n) % p ≡ (w * m + v * n) % p → v ≡ w
  sorted v w m n hv hn hm hw e =
      let t = w - v in
      let s = m - n in
      let wide : w ≡ v + t = omega arith in
      let long : m ≡ n + s = omega arith in
      let none : t ≡ 0 =
      ordered v t n s (omega arith) (omega arith) (omega arith)
      (subst₂ (λ a b. (v * a + b * n) % p ≡ (b * a + v * n) % p) long wide e) in
      omega arith

  -- words v and w below p, of which the multiples by m and by n differ alike, are one
  pub one_word : (v w m n : ℕ) → v < p → w < p → m < p → n < p → m ≢ n → (v * m + w * n) % p ≡ (w * m + v * n) % p → v ≡ w
  one_word v w m n hv hw hm hn ne e = go (cases_order v w) (cases_order m n)
    where
      turned : (v * n + w * m) % p ≡ (w * n + v * m) % p
      turned = ap (λ x. x % p) (add_comm (v * n) (w * m)) ∙ sym e ∙ ap (λ x. x % p) (add_comm (v * m) (w * n))

      go : (v ≡ w) ⊎ ((v < w) ⊎ (w < v)) → (m ≡ n) ⊎ ((m < n) ⊎ (n < m)) → v ≡ w
      go (inl same) d = same
      go (inr c) (inl same) = absurd (ne same)
      go (inr (inl up)) (inr (inl more)) = sorted v w n m (omega arith) more hn hw turned
      go (inr (inl up)) (inr (inr less)) = sorted v w m n (omega arith) less hm hw e
      go (inr (inr down)) (inr (inl more)) = sym (sorted w v n m (omega arith) more hn hv (sym turned))
      go (inr (inr down)) (inr (inr less)) = sym (sorted w v m n (omega arith) less hm hv (sym e))
