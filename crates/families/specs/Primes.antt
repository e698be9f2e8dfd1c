-- Prime numbers.
use Rattle.std.specs.Prelude.{◌≡◌, ℕ, ◌*◌, ◌<◌, ◌⊎◌}

-- p is above 1, and a product of two numbers only where one of them is 1
pub record Prime (p : ℕ) : Type 0 where
  pub above : 1 < p
  pub only : (a b : ℕ) → a * b ≡ p → (a ≡ 1) ⊎ (b ≡ 1)
