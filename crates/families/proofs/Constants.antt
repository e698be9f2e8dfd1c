-- A family with one tag for all messages is not lawful: every word at the pivot gives two messages the difference 0.
use Rattle.std.proofs.Common.{◌≡◌, ℕ, zero, suc, ◌+◌, ◌%◌, ◌<◌, ◌≤◌, ◌≢◌, List, [], ◌∷◌, length, get_or, set, sym, refl, ap, ◌∙◌, add-zero, mod-eq_of_lt, arith, lit<, lit≤}
use Rattle.std.specs.List.{AllByRecursion}
use Rattle.families.specs.Counting.{Distinct}
use Rattle.families.specs.Meanings.{Meaning, Words, Yields, Few, Sized, Lawful}

-- the numbers below n
abbrev down : ℕ → List ℕ
down zero = []
down (suc n) = n ∷ down n

length-down : (n : ℕ) → length (down n) ≡ n
length-down zero = refl
length-down (suc n) = ap suc (length-down n)

all-down : (P : ℕ → Type 0) (n : ℕ) → ((v : ℕ) → v < n → P v) → AllByRecursion P (down n)
all-down P zero holds = tt
all-down P (suc n) holds = (holds n (omega arith), all-down P n (λ v low. holds v (omega arith)))

distinct-down : (n : ℕ) → Distinct (down n)
distinct-down zero = tt
distinct-down (suc n) = (all-down (λ w. n ≢ w) n (λ w low e. omega arith), distinct-down n)

pub constant_not_lawful : (m : Meaning) (count t : ℕ) → ((ks xs : List ℕ) → m.tag ks xs ≡ t) → Lawful m count → ⊥
unfolding Few
constant_not_lawful m count t same l =
    let ks : List ℕ = 0 ∷ 0 ∷ [] in
    let ys : List ℕ = 1 ∷ 0 ∷ [] in
    let low : Words ks = (lit< tt, (lit< tt, tt)) in
    let low' : Words ys = (lit< tt, (lit< tt, tt)) in
    let sized : Sized ks ks = record { same = refl; even = refl; short = lit≤ tt } in
    let sized' : Sized ks ys = record { same = refl; even = refl; short = lit≤ tt } in
    let differ : ks ≢ ys = λ e. let one : ◌≡◌ {A = ℕ} 0 1 = ap (λ zs. get_or zs 0 0) e in omega arith in
    let few : count ≤ 65535 = l.count_high in
    let modulus : 2 ≤ m.modulus = l.modulus_low in
    let yields : (v : ℕ) → v < suc count → Yields m ks ks ys 0 v = λ v h. (omega arith, unchanged (set ks (m.pivot ks ys) v) ks ys) in
    let most = l.few ks ks ys 0 low low low' sized sized' differ (omega arith) (down (suc count)) (distinct-down (suc count)) (all-down (Yields m ks ks ys 0) (suc count) yields) in
    omega (arith, length-down (suc count))
  where
    unchanged : (ks xs ys : List ℕ) → m.tag ks xs ≡ (m.tag ks ys + 0) % m.modulus
    unchanged ks xs ys =
        same ks xs ∙ sym (same ks ys) ∙ sym (mod-eq_of_lt (l.below ks ys)) ∙ ap (λ n. n % m.modulus) (sym (add-zero (m.tag ks ys)))
