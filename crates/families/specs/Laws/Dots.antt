-- The sum of products: over pairs, at the pivot, and the law of a family that reduces it.
use Rattle.std.specs.Prelude.{◌≡◌, ℕ, zero, suc, ◌+◌, ◌*◌, ◌%◌, ◌^◌, ◌<◌, ◌≤◌, ◌≢◌, List, [], ◌∷◌, length, slice_index, slice_set, refl}
use Rattle.std.proofs.Common.{sym, ◌∙◌, subst₂, not-suc-le-zero, zero-mul, arith}
use Rattle.std.proofs.ByRecursion.{All-weaker, All-get_or}
use Rattle.families.specs.Counting.{AtMost}
use Rattle.families.specs.Dots.{dot, dotted, products}
use Rattle.families.specs.Meanings.{Yields, Few, Lawful}
use Rattle.families.specs.Pairs.{pair_sum}
use Rattle.families.specs.Places.{difference}
use Rattle.families.specs.Laws.Places.{difference_differs}

pub dot_pairs : (ks xs : List ℕ) → length ks ≡ length xs → length xs % 2 ≡ 0 → pair_sum products ks xs ≡ dot ks xs
dot_pairs [] xs same even = refl
dot_pairs (k ∷ ks) [] same even = absurd (omega arith)
dot_pairs (k ∷ []) (x ∷ []) same even = absurd (omega arith)
dot_pairs (k ∷ []) (x ∷ y ∷ xs) same even = absurd (omega arith)
dot_pairs (k ∷ l ∷ ks) (x ∷ []) same even = absurd (omega arith)
dot_pairs (k ∷ l ∷ ks) (x ∷ y ∷ xs) same even = omega (arith, dot_pairs ks xs (omega arith) (omega arith))

dot-set : (ks xs : List ℕ) (i v : ℕ) → length ks ≡ length xs → i < length xs → dot (slice_set ks i v) xs ≡ dot (slice_set ks i 0) xs + v * slice_index xs i
dot-set ks [] i v same inside = absurd (not-suc-le-zero inside)
dot-set [] (x ∷ xs) i v same inside = absurd (omega arith)
dot-set (k ∷ ks) (x ∷ xs) zero v same inside = omega (arith, zero-mul x)
dot-set (k ∷ ks) (x ∷ xs) (suc i) v same inside = omega (arith, dot-set ks xs i v (omega arith) (omega arith))

-- two messages with the words m and n at the pivot, which differ: with v there in the key, the sums are a + v × m
-- and b + v × n
pub record Lines : Type 0 where
  pub a : ℕ
  pub b : ℕ
  pub m : ℕ
  pub n : ℕ
  pub differ : m ≢ n
  pub m_low : m < 2 ^ 32
  pub n_low : n < 2 ^ 32

-- v makes the sums, reduced by g, differ by d
abbrev pub Meets : (ℕ → ℕ) → ℕ → Lines → ℕ → ℕ → Type 0
Meets g modulus l d v = (v < 2 ^ 32) × (g (l.a + v * l.m) ≡ (g (l.b + v * l.n) + d) % modulus)

-- the law, from what holds of two such sums
pub dot_lawful : (g : ℕ → ℕ) (modulus count : ℕ) → 2 ≤ modulus → modulus ≤ 2 ^ 64 → 1 ≤ count → count ≤ 65535 → ((s : ℕ) → g s < modulus) → ((l : Lines) (d : ℕ) → d < modulus → AtMost count (Meets g modulus l d)) → Lawful (dotted g modulus) count
unfolding Few
dot_lawful g modulus count low high some few_values below most = record {
  modulus_low = low;
  modulus_high = high;
  count_low = some;
  count_high = few_values;
  below = λ ks xs. below (dot ks xs);
  inside = λ xs ys same even ne. (difference_differs xs ys same ne).inside;
  few = λ ks xs ys d wk wx wy sx sy ne small vs distinct yields.
      let i = difference xs ys in
      let at = difference_differs xs ys (sym sx.same ∙ sy.same) ne in
      let other : i < length ys = omega (arith, at.inside, sx.same, sy.same) in
      let l : Lines = record {
        a = dot (slice_set ks i 0) xs;
        b = dot (slice_set ks i 0) ys;
        m = slice_index xs i;
        n = slice_index ys i;
        differ = at.words;
        m_low = All-get_or (λ x. x < 2 ^ 32) xs i 0 at.inside wx;
        n_low = All-get_or (λ x. x < 2 ^ 32) ys i 0 other wy;
      } in
      most l d small vs distinct
      (All-weaker (Yields (dotted g modulus) ks xs ys d) (Meets g modulus l d)
      (λ v hit. (
        hit.0,
        subst₂ (λ x y. g x ≡ (g y + d) % modulus) (dot-set ks xs i v sx.same at.inside) (dot-set ks ys i v sy.same other) hit.1,
      )) vs yields);
}
