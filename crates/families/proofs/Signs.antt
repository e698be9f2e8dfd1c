-- Signed words and products: what is no part of a law.
use Rattle.std.specs.Prelude.{◌≡◌, ℕ, ◌%◌, ◌^◌, ◌<◌, ◌≤◌, ◌≢◌, List, [], ◌∷◌, ℤ, pos, negsuc, FitsSigned, slice_index, refl}
use Rattle.std.proofs.Common.{ap, arith, lit<, lit≤, of_z}
use Rattle.std.specs.Int.{int_wrap, w64}
use Rattle.families.specs.Meanings.{Words, Few, Lawful}
use Rattle.families.specs.Pairs.{nhs, residue}

-- no lower count is lawful: under the key words 1 and v, the messages 0, 0 and 2^31, 2^31 have one tag both at
-- v = 2^31 - 1 and at v = 2^31 + 1
pub nhs_not_one : Lawful nhs 1 → ⊥
unfolding Few int_wrap
nhs_not_one l =
    let zero : List ℕ = 0 ∷ 0 ∷ [] in
    let high : List ℕ = 2 ^ 31 ∷ 2 ^ 31 ∷ [] in
    let words : Words high = (lit< tt, (lit< tt, tt)) in
    let differ : zero ≢ high = λ e. let same : 0 ≡ 2 ^ 31 = ap (λ zs. slice_index zs 0) e in omega arith in
    let most : 2 ≤ 1 =
    l.few (1 ∷ 0 ∷ []) zero high 0 (lit< tt, (lit< tt, tt)) (lit< tt, (lit< tt, tt)) words
    (record { same = refl; even = refl; short = lit≤ tt }) (record { same = refl; even = refl; short = lit≤ tt }) differ (lit< tt)
    (2147483647 ∷ 2147483649 ∷ []) (((λ e. omega arith), tt), (tt, tt)) ((lit< tt, refl), ((lit< tt, refl), tt)) in
    omega arith

-- the bits of a signed number of 64 bits are its residue
pub bits-residue : (z : ℤ) → FitsSigned w64 z → of_z w64 z ≡ residue z % 2 ^ 64
bits-residue (pos n) fits = let low : n < 2 ^ 63 = fits.sfits in omega arith
bits-residue (negsuc n) fits = let low : n < 2 ^ 63 = fits.sfits in omega arith
