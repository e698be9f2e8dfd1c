-- Products of sums that are read as signed numbers.
use Rattle.std.specs.Prelude.{◌≡◌, ℕ, zero, suc, ◌+◌, ◌-◌, ◌*◌, ◌%◌, ◌^◌, ◌<◌, ◌≤◌, ◌⊎◌, ℤ, pos, negsuc, ◌*ℤ◌, neg_ℤ, refl}
use Rattle.std.proofs.Common.{sym, ap, subst, ◌∙◌, inl, inr, mul_comm, add_assoc, arith, lit<, to_z}
use Rattle.std.proofs.Math.Nat.{mod-mod, mod-add-mod, add-mul-mod_self_left, mul-mod_right}
use Rattle.std.proofs.Math.IntN.{*ℤ_comm, pos-*ℤ-negsuc, negsuc-*ℤ-pos}
use Rattle.std.proofs.lemmas.Int.{to_z_pos, wrapping_add-bits}
use Rattle.std.proofs.lemmas.Bool.{cases_lt, le-ltb}
use Rattle.std.specs.Int.{w32}
use Rattle.families.specs.Meanings.{Lawful}
use Rattle.families.specs.Pairs.{residue, signed_sum, signed_product}
use Rattle.families.specs.Laws.Residues.{cancel}
use Rattle.families.specs.Laws.Solutions.{Reading, sums, lawful, two}

-- e is the residue of the number z of 31 bits and a sign, perhaps plus 2^64
data Residue (e : ℕ) : ℤ → Type 0 where
  above : (n : ℕ) → n < 2 ^ 31 → e ≡ n + 2 ^ 64 → Residue e (pos n)
  under : (n : ℕ) → n < 2 ^ 31 → e + suc n ≡ 2 ^ 64 → Residue e (negsuc n)

to_z_neg : (x : ℕ) → 2 ^ 31 ≤ x → to_z w32 x ≡ negsuc (2 ^ 32 - suc x)
to_z_neg x high = rw (le-ltb x (2 ^ 31) high)

-- a word read as a signed number
word : (x : ℕ) → x < 2 ^ 32 → Residue ((x + 2 ^ 31) % 2 ^ 32 + (2 ^ 64 - 2 ^ 31)) (to_z w32 x)
word x low = go (cases_lt x (2 ^ 31))
  where
    go : (x < 2 ^ 31) ⊎ (2 ^ 31 ≤ x) → Residue ((x + 2 ^ 31) % 2 ^ 32 + (2 ^ 64 - 2 ^ 31)) (to_z w32 x)
    go (inl small) = subst (Residue _) (sym (to_z_pos w32 x small)) (above x small (omega arith))
    go (inr high) = subst (Residue _) (sym (to_z_neg x high)) (under (2 ^ 32 - suc x) (omega arith) (omega arith))

-- the sum of two words, modulo 2^32, read as a signed number
pub sum_bits : (k x : ℕ) → k < 2 ^ 32 → x < 2 ^ 32 → to_z w32 ((k + x) % 2 ^ 32) ≡ signed_sum k x
sum_bits k x lk lx = wrapping_add-bits w32 k x lk lx

sum : (k x : ℕ) → k < 2 ^ 32 → x < 2 ^ 32 → Residue ((k + (x + 2 ^ 31)) % 2 ^ 32 + (2 ^ 64 - 2 ^ 31)) (signed_sum k x)
sum k x lk lx =
    let same = mod-add-mod (k + x) (2 ^ 32) (2 ^ 31) ∙ ap (λ n. n % 2 ^ 32) (add_assoc k x (2 ^ 31)) in
    subst (λ n. Residue (n + (2 ^ 64 - 2 ^ 31)) (signed_sum k x)) same
    (subst (Residue _) (sum_bits k x lk lx) (word ((k + x) % 2 ^ 32) (omega arith)))

residue-neg : (k : ℕ) → (k + residue (neg_ℤ (pos k))) % 2 ^ 64 ≡ 0
residue-neg zero = refl
residue-neg (suc k) = omega arith

-- each is 0 with k added
opposite : (k a b : ℕ) → (k + a) % 2 ^ 64 ≡ 0 → (k + b) % 2 ^ 64 ≡ 0 → a % 2 ^ 64 ≡ b % 2 ^ 64
opposite k a b e e' = cancel (2 ^ 64) k a b (lit< tt) (e ∙ sym e')

-- a multiple of 2^64
whole : (k n : ℕ) → n ≡ 2 ^ 64 * k → n % 2 ^ 64 ≡ 0
whole k n e = ap (λ m. m % 2 ^ 64) e ∙ mul-mod_right (2 ^ 64) k

both_above : (e e' n n' : ℕ) → e ≡ n + 2 ^ 64 → e' ≡ n' + 2 ^ 64 → (n * n') % 2 ^ 64 % 2 ^ 64 ≡ (e * e') % 2 ^ 64
both_above e e' n n' s s' =
    let out : (n + 2 ^ 64) * (n' + 2 ^ 64) ≡ n * n' + 2 ^ 64 * (n + n' + 2 ^ 64) = omega arith in
    mod-mod (n * n') (2 ^ 64) ∙ sym (rw (s, s') (ap (λ m. m % 2 ^ 64) out ∙ add-mul-mod_self_left (n * n') (2 ^ 64) (n + n' + 2 ^ 64)))

one_under : (e e' n n' : ℕ) → e ≡ n + 2 ^ 64 → e' + suc n' ≡ 2 ^ 64 → residue (neg_ℤ (pos (n * suc n'))) % 2 ^ 64 ≡ (e * e') % 2 ^ 64
one_under e e' n n' s s' =
    let all : n * (e' + suc n') ≡ n * 2 ^ 64 = ap (λ m. n * m) s' in
    let out : n * suc n' + (n + 2 ^ 64) * e' ≡ 2 ^ 64 * (n + e') = omega arith in
    opposite (n * suc n') (residue (neg_ℤ (pos (n * suc n')))) (e * e') (residue-neg (n * suc n')) (whole (n + e') (n * suc n' + e * e') (ap (λ m. n * suc n' + m * e') s ∙ out))

both_under : (e e' n n' : ℕ) → e + suc n ≡ 2 ^ 64 → e' + suc n' ≡ 2 ^ 64 → (suc n * suc n') % 2 ^ 64 % 2 ^ 64 ≡ (e * e') % 2 ^ 64
both_under e e' n n' s s' =
    let rows : (e + suc n) * suc n' ≡ 2 ^ 64 * suc n' = ap (λ m. m * suc n') s in
    let columns : e * (e' + suc n') ≡ e * 2 ^ 64 = ap (λ m. e * m) s' in
    let left : e * suc n' + suc n * suc n' ≡ 2 ^ 64 * suc n' = omega arith in
    let right : e * suc n' + e * e' ≡ 2 ^ 64 * e = omega arith in
    mod-mod (suc n * suc n') (2 ^ 64) ∙ opposite (e * suc n') (suc n * suc n') (e * e') (whole (suc n') _ left) (whole e _ right)

product_is : {e e' : ℕ} {z z' : ℤ} → Residue e z → Residue e' z' → residue (z *ℤ z') % 2 ^ 64 ≡ (e * e') % 2 ^ 64
product_is {e} {e'} (above n l s) (above n' l' s') = both_above e e' n n' s s'
product_is {e} {e'} (above n l s) (under n' l' s') = ap (λ z. residue z % 2 ^ 64) (pos-*ℤ-negsuc n n') ∙ one_under e e' n n' s s'
product_is {e} {e'} (under n l s) (above n' l' s') =
    ap (λ z. residue z % 2 ^ 64) (negsuc-*ℤ-pos n n') ∙ ap (λ m. residue (neg_ℤ (pos m)) % 2 ^ 64) (mul_comm (suc n) n') ∙ one_under e' e n' n s' s ∙ ap (λ m. m % 2 ^ 64) (mul_comm e' e)
product_is {e} {e'} (under n l s) (under n' l' s') = both_under e e' n n' s s'

signed : Reading signed_product (2 ^ 31) (2 ^ 64 - 2 ^ 31)
signed = record {
  comm = λ k x l y. ap residue (*ℤ_comm (signed_sum k x) (signed_sum l y));
  times = λ k x l y lk lx ll ly. product_is (sum k x lk lx) (sum l y ll ly);
}

pub nhs_lawful : Lawful (sums signed_product) 2
nhs_lawful = lawful signed 2 (omega arith) (omega arith) (two signed)
