-- Equal remainders, at any modulus.
use Rattle.std.specs.Prelude.{◌≡◌, ℕ, zero, suc, ◌+◌, ◌*◌, ◌%◌, ◌<◌, refl}
use Rattle.std.proofs.Common.{sym, ap, ap₂, ◌∙◌, suc-mul, not-suc-le-zero, arith}
use Rattle.std.proofs.Math.Nat.{add-mod, mod-add-mod, add-mul-mod_self_left}

pub add_same : (m a b a' b' : ℕ) → a % m ≡ a' % m → b % m ≡ b' % m → (a + b) % m ≡ (a' + b') % m
add_same m a b a' b' e e' = add-mod a b m ∙ ap₂ (λ x y. (x + y) % m) e e' ∙ sym (add-mod a' b' m)

-- c added m times, the first time ahead of the others
all_round : (n c a : ℕ) → (c + a + n * c) % suc n ≡ a % suc n
all_round n c a =
    let whole : c + a + n * c ≡ a + suc n * c = omega (arith, suc-mul n c) in
    ap (λ x. x % suc n) whole ∙ add-mul-mod_self_left a (suc n) c

pub cancel : (m c a b : ℕ) → 0 < m → (c + a) % m ≡ (c + b) % m → a % m ≡ b % m
cancel zero c a b pos e = absurd (not-suc-le-zero pos)
cancel (suc n) c a b pos e = sym (all_round n c a) ∙ add_same (suc n) (c + a) (n * c) (c + b) (n * c) e refl ∙ all_round n c b

-- two equations of one shape, one less the other
pub subtract : (m p q d a b a' b' : ℕ) → 0 < m → (p + a) % m ≡ ((q + b) % m + d) % m → (p + a') % m ≡ ((q + b') % m + d) % m → (a + b') % m ≡ (a' + b) % m
subtract m p q d a b a' b' pos e e' =
    let one = e ∙ mod-add-mod (q + b) m d in
    let two = e' ∙ mod-add-mod (q + b') m d in
    let both = add_same m (p + a) (q + b' + d) (q + b + d) (p + a') one (sym two) in
    let left : p + q + d + (a + b') ≡ p + a + (q + b' + d) = omega arith in
    let right : q + b + d + (p + a') ≡ p + q + d + (a' + b) = omega arith in
    cancel m (p + q + d) (a + b') (a' + b) pos (ap (λ n. n % m) left ∙ both ∙ ap (λ n. n % m) right)
