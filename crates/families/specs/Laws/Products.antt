-- What equal tags say of one pair: products of numbers that differ by less than 2^32, modulo 2^64.
use Rattle.std.specs.Prelude.{◌≡◌, ℕ, ◌+◌, ◌-◌, ◌*◌, ◌%◌, ◌^◌, ◌<◌, ◌≤◌, ◌≢◌, ◌⊎◌}
use Rattle.std.proofs.Common.{sym, ap, ◌∙◌, inl, inr, ⊎_elim, add_comm, mul-le-mul_right, arith}
use Rattle.std.proofs.Math.Nat.{eq-zero-or-pos, mul-pos}
use Rattle.std.proofs.lemmas.Nat.{mul-lt}
use Rattle.std.proofs.lemmas.Bool.{cases_order}

-- what is added below the modulus and changes nothing is 0
none_added : (b t : ℕ) → t < 2 ^ 64 → (b + t) % 2 ^ 64 ≡ b % 2 ^ 64 → t ≡ 0
none_added b t low e = omega arith

-- a is above a', and x₁ above x₂ by as much as y₁ above y₂
level_up : (a' x₂ y₂ δ t : ℕ) → 0 < δ → δ < 2 ^ 32 → t < 2 ^ 32 → ((a' + δ) * (x₂ + t) + a' * y₂) % 2 ^ 64 ≡ ((a' + δ) * x₂ + a' * (y₂ + t)) % 2 ^ 64 → t ≡ 0
level_up a' x₂ y₂ δ t pos high low e =
    let b = (a' + δ) * x₂ + a' * (y₂ + t) in
    let left : (a' + δ) * (x₂ + t) + a' * y₂ ≡ b + δ * t = omega arith in
    let small : δ * t < 2 ^ 32 * 2 ^ 32 = mul-lt δ t (2 ^ 32) (2 ^ 32) high low in
    let none : δ * t ≡ 0 = none_added b (δ * t) small (ap (λ n. n % 2 ^ 64) (sym left) ∙ e) in
    let most : 1 * t ≤ δ * t = mul-le-mul_right t pos in
    omega arith

-- the same, over the numbers themselves
level_over : (a a' x₁ x₂ y₁ y₂ : ℕ) → a' < a → a < a' + 2 ^ 32 → x₂ ≤ x₁ → x₁ < x₂ + 2 ^ 32 → x₁ + y₂ ≡ x₂ + y₁ → (a * x₁ + a' * y₂) % 2 ^ 64 ≡ (a * x₂ + a' * y₁) % 2 ^ 64 → x₁ ≡ x₂
level_over a a' x₁ x₂ y₁ y₂ above near up close level e =
    let ea : a ≡ a' + (a - a') = omega arith in
    let ex : x₁ ≡ x₂ + (x₁ - x₂) = omega arith in
    let ey : y₁ ≡ y₂ + (x₁ - x₂) = omega arith in
    let left : (a' + (a - a')) * (x₂ + (x₁ - x₂)) + a' * y₂ ≡ a * x₁ + a' * y₂ = rw (← ea, ← ex) in
    let right : a * x₂ + a' * y₁ ≡ (a' + (a - a')) * x₂ + a' * (y₂ + (x₁ - x₂)) = rw (← ea, ← ey) in
    let none : x₁ - x₂ ≡ 0 = level_up a' x₂ y₂ (a - a') (x₁ - x₂) (omega arith) (omega arith) (omega arith) (ap (λ n. n % 2 ^ 64) left ∙ e ∙ ap (λ n. n % 2 ^ 64) right) in
    omega arith

-- two solutions of one class are one
pub level : (a a' x₁ x₂ y₁ y₂ : ℕ) → a ≢ a' → a < a' + 2 ^ 32 → a' < a + 2 ^ 32 → x₁ < x₂ + 2 ^ 32 → x₂ < x₁ + 2 ^ 32 → x₁ + y₂ ≡ x₂ + y₁ → (a * x₁ + a' * y₂) % 2 ^ 64 ≡ (a * x₂ + a' * y₁) % 2 ^ 64 → x₁ ≡ x₂
level a a' x₁ x₂ y₁ y₂ ne la la' l₁ l₂ even e = go (cases_order a a') (cases_order x₁ x₂)
  where
    flip : (u v s t : ℕ) → (u + v) % 2 ^ 64 ≡ (s + t) % 2 ^ 64 → (v + u) % 2 ^ 64 ≡ (t + s) % 2 ^ 64
    flip u v s t h = ap (λ n. n % 2 ^ 64) (add_comm v u) ∙ h ∙ ap (λ n. n % 2 ^ 64) (add_comm s t)

    go : (a ≡ a') ⊎ ((a < a') ⊎ (a' < a)) → (x₁ ≡ x₂) ⊎ ((x₁ < x₂) ⊎ (x₂ < x₁)) → x₁ ≡ x₂
    go (inl same) d = absurd (ne same)
    go (inr (inl under)) (inl same) = same
    go (inr (inl under)) (inr (inl down)) =
        let s : y₂ ≡ y₁ = level_over a' a y₂ y₁ x₂ x₁ under la' (omega arith) (omega arith) (omega arith) (flip _ _ _ _ e) in omega arith
    go (inr (inl under)) (inr (inr up)) =
        let s : y₁ ≡ y₂ = level_over a' a y₁ y₂ x₁ x₂ under la' (omega arith) (omega arith) (omega arith) (flip _ _ _ _ (sym e)) in omega arith
    go (inr (inr over)) (inl same) = same
    go (inr (inr over)) (inr (inl down)) =
        let s : x₂ ≡ x₁ = level_over a a' x₂ x₁ y₂ y₁ over la (omega arith) (omega arith) (omega arith) (sym e) in omega arith
    go (inr (inr over)) (inr (inr up)) = level_over a a' x₁ x₂ y₁ y₂ over la (omega arith) (omega arith) (omega arith) e

factor_zero : (a u : ℕ) → 0 < u → a * u ≡ 0 → a ≡ 0
factor_zero a u pos none = ⊎_elim (λ zeroth. zeroth) (λ more. let above = mul-pos more pos in absurd (omega arith)) (eq-zero-or-pos a)

-- words read as unsigned: no two solutions are of different classes
pub crossed : (a a' x₁ x₂ y₁ y₂ : ℕ) → a ≢ a' → a < 2 ^ 32 → a' < 2 ^ 32 → x₁ < 2 ^ 32 → y₂ < 2 ^ 32 → x₁ + y₂ ≡ x₂ + y₁ + 2 ^ 32 → (a * x₁ + a' * y₂) % 2 ^ 64 ≢ (a * x₂ + a' * y₁) % 2 ^ 64
crossed a a' x₁ x₂ y₁ y₂ ne la la' lx ly cross e =
    let u = x₁ - x₂ in
    let v = y₂ - y₁ in
    let ex : x₁ ≡ x₂ + u = omega arith in
    let ey : y₂ ≡ y₁ + v = omega arith in
    let whole : u + v ≡ 2 ^ 32 = omega arith in
    let left : a * (x₂ + u) + a' * (y₁ + v) ≡ (a * x₂ + a' * y₁) + (a * u + a' * v) = omega arith in
    let most : a * u ≤ (2 ^ 32 - 1) * u = mul-le-mul_right u (omega arith) in
    let most' : a' * v ≤ (2 ^ 32 - 1) * v = mul-le-mul_right v (omega arith) in
    let same : a * (x₂ + u) + a' * (y₁ + v) ≡ a * x₁ + a' * y₂ = rw (← ex, ← ey) in
    let none : a * u + a' * v ≡ 0 = none_added (a * x₂ + a' * y₁) (a * u + a' * v) (omega arith) (ap (λ n. n % 2 ^ 64) (sym left ∙ same) ∙ e) in
    ne (factor_zero a u (omega arith) (omega arith) ∙ sym (factor_zero a' v (omega arith) (omega arith)))
