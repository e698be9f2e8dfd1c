-- A prime by trial division, which the checker computes.
use Rattle.std.specs.Prelude.{◌≡◌, ℕ, zero, suc, ◌*◌, ◌%◌, ◌<◌, ◌≤◌, Bool, true, false, cond, T, ◌⊎◌, ◌==◌, ◌≢◌, refl}
use Rattle.std.proofs.Common.{sym, ◌∙◌, subst, inl, inr, ⊎_elim, zero-mul, mul_comm, not-suc-le-zero, mul-le-mul, arith, lit<}
use Rattle.std.proofs.Math.Nat.{mul-mod_right}
use Rattle.std.proofs.lemmas.Bool.{eqb-false, cases_lt, cases_eq}
use Rattle.families.specs.Primes.{Prime}

-- no number from 2 to n + 1 divides p
abbrev none : ℕ → ℕ → Bool
none p zero = true
none p (suc n) = cond (p % suc (suc n) == 0) false (none p n)

step : (b r : Bool) → T (cond b false r) → (b ≡ false) × T r
step true r t = absurd t
step false r t = (refl, t)

none_at : (p n : ℕ) → T (none p n) → (k : ℕ) → k < n → p % suc (suc k) ≢ 0
none_at p zero t k h e = absurd (not-suc-le-zero h)
none_at p (suc n) t k h e =
    let s = step (p % suc (suc n) == 0) (none p n) t in
    ⊎_elim
    (λ same. eqb-false (p % suc (suc n)) 0 s.0 (subst (λ j. p % suc (suc j) ≡ 0) same e))
    (λ other. none_at p n s.1 k (omega arith) e)
    (cases_eq k n)

-- a number is prime that no number from 2 to n + 1 divides and that is below the square of n + 2
trial : (p n : ℕ) → 1 < p → p < suc (suc n) * suc (suc n) → T (none p n) → Prime p
trial p n big small t = record { above = big; only = λ a b e. go a b e (cases_lt a (suc (suc n))) (cases_lt b (suc (suc n))) }
  where
    one : (a b : ℕ) → a * b ≡ p → a < suc (suc n) → a ≡ 1
    one zero b e h = let none : 0 ≡ p = sym (zero-mul b) ∙ e in absurd (omega arith)
    one (suc zero) b e h = refl
    one (suc (suc k)) b e h =
        absurd (none_at p n t k (omega arith) (subst (λ x. x % suc (suc k) ≡ 0) e (mul-mod_right (suc (suc k)) b)))

    go : (a b : ℕ) → a * b ≡ p → (a < suc (suc n)) ⊎ (suc (suc n) ≤ a) → (b < suc (suc n)) ⊎ (suc (suc n) ≤ b) → (a ≡ 1) ⊎ (b ≡ 1)
    go a b e (inl h) other = inl (one a b e h)
    go a b e (inr high) (inl h) = inr (one b a (mul_comm b a ∙ e) h)
    go a b e (inr high) (inr high') = let m : suc (suc n) * suc (suc n) ≤ a * b = mul-le-mul high high' in absurd (omega arith)

pub prime : Prime 4294967311
prime = trial 4294967311 65535 (lit< tt) (lit< tt) tt
