-- A list of distinct numbers, at most one to a class, is no longer than there are classes.
use Rattle.std.specs.Prelude.{◌≡◌, ℕ, ◌<◌, true, false, eqb, ◌||◌, ◌≢◌, List, [], ◌∷◌, map}
use Rattle.std.proofs.Common.{sym, ap, ◌∙◌, ⊎_elim, arith}
use Rattle.std.specs.List.{AllByRecursion, IsDistinct, list_any}
use Rattle.std.proofs.lemmas.Bool.{cases_eq, ne_eqb}
use Rattle.std.proofs.lemmas.List.{length-map}
use Rattle.std.proofs.lemmas.Map.Steps.{length-le_from_distinct_below}
use Rattle.families.specs.Counting.{Distinct, AtMost}

-- where P puts a number into one of n classes, and no two numbers into one class, at most n numbers have P
module _ (P : ℕ → Type 0) (n : ℕ) (class : ℕ → ℕ) (low : (v : ℕ) → P v → class v < n) (one : (v w : ℕ) → P v → P w → class v ≡ class w → v ≡ w) where
  apart : (v : ℕ) → P v → (ws : List ℕ) → AllByRecursion (λ w. v ≢ w) ws → AllByRecursion P ws → AllByRecursion (λ c. eqb (class v) c ≡ false) (map class ws)
  apart v p [] differ holds = tt
  apart v p (w ∷ ws) differ holds = (ne_eqb _ _ (λ e. differ.0 (one v w p holds.0 e)), apart v p ws differ.1 holds.1)

  classes_distinct : (vs : List ℕ) → Distinct vs → AllByRecursion P vs → IsDistinct eqb (map class vs)
  unfolding IsDistinct
  classes_distinct [] distinct holds = tt
  classes_distinct (v ∷ vs) distinct holds = (apart v holds.0 vs distinct.0 holds.1, classes_distinct vs distinct.1 holds.1)

  class_below : (vs : List ℕ) → AllByRecursion P vs → (c : ℕ) → list_any (eqb c) (map class vs) ≡ true → c < n
  class_below [] holds c found = absurd (grind arith)
  class_below (v ∷ vs) holds c found =
      ⊎_elim
      (λ same. let l = low v holds.0 in omega arith)
      (λ other. class_below vs holds.1 c (sym (ap (λ b. b || list_any (eqb c) (map class vs)) (ne_eqb c (class v) other)) ∙ found))
      (cases_eq c (class v))

  pub by_class : AtMost n P
  by_class vs distinct holds =
      let most = length-le_from_distinct_below (map class vs) n (classes_distinct vs distinct holds) (class_below vs holds) in
      omega (arith, length-map vs class)

-- at most n numbers of P are in a class below n
pub at_most : (class : ℕ → ℕ) (P : ℕ → Type 0) (n : ℕ) → ((v w : ℕ) → P v → P w → class v ≡ class w → v ≡ w) → AtMost n (λ v. P v × (class v < n))
at_most class P n one = by_class (λ v. P v × (class v < n)) n class (λ v p. p.1) (λ v w p q. one v w p.0 q.0)
