-- The place where two lists first differ, and its partner.
use Rattle.std.specs.Prelude.{◌≡◌, ℕ, zero, suc, ◌-◌, ◌%◌, ◌<◌, Bool, true, false, cond, ◌≢◌, List, [], ◌∷◌, length, ◌==◌, slice_index, slice_index_or, refl}
use Rattle.std.proofs.Common.{ap, ◌∙◌, arith}
use Rattle.std.proofs.lemmas.Bool.{eqb-true, eqb-false}
use Rattle.families.specs.Places.{partner, difference}

-- i is a place of the lists, at which they differ
pub record Differ (xs ys : List ℕ) (i : ℕ) : Type 0 where
  pub inside : i < length xs
  pub words : slice_index_or xs i 0 ≢ slice_index ys i

pub difference_differs : (xs ys : List ℕ) → length xs ≡ length ys → xs ≢ ys → Differ xs ys (difference xs ys)
difference_differs [] [] same ne = absurd (ne refl)
difference_differs [] (y ∷ ys) same ne = absurd (omega arith)
difference_differs (x ∷ xs) [] same ne = absurd (omega arith)
difference_differs (x ∷ xs) (y ∷ ys) same ne = go (x == y) refl (difference_differs xs ys (omega arith))
  where
    go : (b : Bool) → (x == y) ≡ b → (xs ≢ ys → Differ xs ys (difference xs ys)) → Differ (x ∷ xs) (y ∷ ys) (cond b (suc (difference xs ys)) 0)
    go true e rec =
        let later = rec (λ rest. ne (ap (λ n. n ∷ xs) (eqb-true x y e) ∙ ap (λ zs. y ∷ zs) rest)) in
        record { inside = omega arith; words = later.words }
    go false e rec = record { inside = omega arith; words = eqb-false x y e }

pub partner_inside : (i n : ℕ) → n % 2 ≡ 0 → i < n → partner i < n
partner_inside zero n even low = omega arith
partner_inside (suc zero) n even low = omega arith
partner_inside (suc (suc i)) n even low =
    let rec = partner_inside i (n - 2) (omega arith) (omega arith) in
    omega arith
