-- What sources answer, and pads that are split over two lists.
use Rattle.std.proofs.Common.{◌≡◌, ℕ, zero, suc, ◌+◌, ◌%◌, ◌^◌, ◌<◌, ◌≤◌, min, List, [], ◌∷◌, length, get_or, Ok, Err, refl, arith}
use Rattle.std.proofs.lemmas.Grind.{common_steps}
use Rattle.pads.specs.Sources.{asked, summed}
use Rattle.pads.specs.declared.source.NoSuchPad.{NoSuchPad}

pub asked_ok : (ps : List ℕ) (n : ℕ) → n < length ps → asked ps n ≡ Ok (get_or ps n 0)
asked_ok ps n low = grind (arith, common_steps)

pub asked_err : (ps : List ℕ) (n : ℕ) → length ps ≤ n → asked ps n ≡ Err (record {})
asked_err ps n high = grind (arith, common_steps)

-- a source that answers with a pad has the number, and one that refuses has it not
pub ok_tells : (ps : List ℕ) (n v : ℕ) → Ok v ≡ asked ps n → (n < length ps) × (v ≡ get_or ps n 0)
ok_tells ps n v h = (grind (arith, common_steps), grind (arith, common_steps))

pub err_tells : (ps : List ℕ) (n : ℕ) (e : NoSuchPad) → Err e ≡ asked ps n → length ps ≤ n
err_tells ps n e h = grind (arith, common_steps)

pub length-summed : (xs ys : List ℕ) → length (summed xs ys) ≡ min (length xs) (length ys)
length-summed [] ys = omega arith
length-summed (x ∷ xs) [] = omega arith
length-summed (x ∷ xs) (y ∷ ys) = omega (arith, length-summed xs ys)

get_or-summed : (xs ys : List ℕ) (n : ℕ) → n < length xs → n < length ys → get_or (summed xs ys) n 0 ≡ (get_or xs n 0 + get_or ys n 0) % 2 ^ 64
get_or-summed [] ys n l m = absurd (omega arith)
get_or-summed (x ∷ xs) [] n l m = absurd (omega arith)
get_or-summed (x ∷ xs) (y ∷ ys) zero l m = refl
get_or-summed (x ∷ xs) (y ∷ ys) (suc n) l m = get_or-summed xs ys n (omega arith) (omega arith)

-- two sources refuse as soon as one does, and else give the sum
pub left_refuses : (xs ys : List ℕ) (n : ℕ) (e : NoSuchPad) → Err e ≡ asked xs n → asked (summed xs ys) n ≡ Err e
left_refuses xs ys n e h = grind (arith, common_steps, length-summed)

pub right_refuses : (xs ys : List ℕ) (n : ℕ) (e : NoSuchPad) → Err e ≡ asked ys n → asked (summed xs ys) n ≡ Err e
right_refuses xs ys n e h = grind (arith, common_steps, length-summed)

pub both_answer : (xs ys : List ℕ) (n v w : ℕ) → Ok v ≡ asked xs n → Ok w ≡ asked ys n → asked (summed xs ys) n ≡ Ok ((v + w) % 2 ^ 64)
both_answer xs ys n v w h k = grind (arith, common_steps, length-summed, get_or-summed)

pub ruleset summing = (length-summed, left_refuses, right_refuses, both_answer)
