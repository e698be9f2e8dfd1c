-- Numbers as bytes, by the definitions here and by the library's.
use Rattle.std.proofs.Common.{◌≡◌, ℕ, zero, suc, ◌+◌, ◌*◌, ◌/◌, ◌%◌, ◌^◌, ◌<◌, List, [], ◌∷◌, length, refl, sym, ap, ◌∙◌, subst, pow-suc, div-one, arith}
use Rattle.std.specs.Int.{byte_at, bytes_low_first}
use native.Mathlib.Nat.{div-div-eq-div-mul}
use Rattle.jobs.specs.Reading.{Bytes}
use Rattle.line.specs.Bytes.{bytes_of, number_of}

one_byte : (i v : ℕ) → byte_at i v ≡ v / 256 ^ i % 256
one_byte zero v = ap (λ x. x % 256) (sym (div-one v))
one_byte (suc i) v = refl

bytes_from : (i n v : ℕ) → bytes_low_first i n v ≡ bytes_of n (v / 256 ^ i)
bytes_from i zero v = refl
bytes_from i (suc n) v =
    let next : v / 256 ^ suc i ≡ v / 256 ^ i / 256 = ap (λ x. v / x) (pow-suc 256 i) ∙ sym (div-div-eq-div-mul v (256 ^ i) 256) in
    ap (λ x. x ∷ bytes_low_first (suc i) n v) (one_byte i v) ∙ ap (λ xs. v / 256 ^ i % 256 ∷ xs) (bytes_from (suc i) n v ∙ ap (bytes_of n) next)

-- n bytes, as `to_le_bytes` gives them
pub bytes_low : (n v : ℕ) → bytes_low_first 0 n v ≡ bytes_of n v
bytes_low n v = bytes_from 0 n v ∙ ap (bytes_of n) (div-one v)

pub length-bytes : (n v : ℕ) → length (bytes_of n v) ≡ n
length-bytes zero v = refl
length-bytes (suc n) v = ap suc (length-bytes n (v / 256))

-- written and read again
pub number_bytes : (n v : ℕ) → v < 256 ^ n → number_of (bytes_of n v) ≡ v
number_bytes zero v h = omega (arith, h)
number_bytes (suc n) v h =
    let p : 256 ^ suc n ≡ 256 ^ n * 256 = pow-suc 256 n in
    let below : v / 256 < 256 ^ n = omega arith in
    let rest = number_bytes n (v / 256) below in
    omega arith

bytes_number : (bs : List ℕ) → Bytes bs → bytes_of (length bs) (number_of bs) ≡ bs
bytes_number [] h = refl
bytes_number (b ∷ bs) h =
    let low : (b + 256 * number_of bs) % 256 ≡ b = omega (arith, h.0) in
    let high : (b + 256 * number_of bs) / 256 ≡ number_of bs = omega (arith, h.0) in
    ap (λ x. x ∷ bytes_of (length bs) ((b + 256 * number_of bs) / 256)) low
    ∙ ap (λ x. b ∷ bytes_of (length bs) x) high
    ∙ ap (λ xs. b ∷ xs) (bytes_number bs h.1)

number_below : (bs : List ℕ) → Bytes bs → number_of bs < 256 ^ length bs
number_below [] h = omega arith
number_below (b ∷ bs) h =
    let p : 256 ^ suc (length bs) ≡ 256 ^ length bs * 256 = pow-suc 256 (length bs) in
    let rest = number_below bs h.1 in
    omega (arith, h.0)

-- the number that n bytes hold, written in n bytes
pub number_at : (n : ℕ) (bs : List ℕ) → Bytes bs → length bs ≡ n → (number_of bs < 256 ^ n) × (bytes_of n (number_of bs) ≡ bs)
number_at n bs h long =
    (subst (λ k. number_of bs < 256 ^ k) long (number_below bs h), ap (λ k. bytes_of k (number_of bs)) (sym long) ∙ bytes_number bs h)
