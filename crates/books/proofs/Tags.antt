-- What the tag of a granted sealing is, and how far apart two tags under one pad are.
use Rattle.std.proofs.Common.{◌≡◌, ℕ, ◌+◌, ◌-◌, ◌%◌, ◌<◌, Bool, true, false, List, Ok, Err, Result, sym, refl, ap, ◌∙◌, add-zero, mod-lt, mod-eq_of_lt, arith}
use native.Mathlib.Nat.{mod-add-mod, add-mod-mod, add-mod_right}
use Rattle.pads.specs.Sources.{asked}
use Rattle.books.specs.Office.{Office, held, sealed}
use Rattle.books.specs.declared.pad.Pad.{Pad}
use Rattle.books.specs.declared.refusals.WrongPad.{WrongPad}
use Rattle.books.proofs.Moves.{sealed_by, held_value}

-- a sealed tag is the job's under the pad of its number
abbrev pub Sealing : (modulus root : ℕ) → List ℕ → Pad → Result (ℕ × ℕ) WrongPad → Type 0
Sealing modulus root ps p (Ok s) = (asked ps s.0 ≡ Ok p.value) × (s.1 ≡ (root + p.value) % modulus)
Sealing modulus root ps p (Err e) = Unit {0}

pub seal_matches : (modulus root : ℕ) (p : Pad) (b : Office) → Sealing modulus root b.pads p (sealed modulus root p b).0
seal_matches modulus root p b = go (held p b) refl
  where
    go : (t : Bool) → held p b ≡ t → Sealing modulus root b.pads p (sealed_by t modulus root p b)
    go true e = (held_value p b e, refl)
    go false e = tt

-- tags under the pad v are as far apart as the root tags a and s
module _ (modulus a s v : ℕ) (a_below : a < modulus) (s_below : s < modulus) where
  abbrev pub apart : ℕ
  apart = (a + (modulus - s)) % modulus

  pub apart_below : apart < modulus
  apart_below = mod-lt (a + (modulus - s)) (omega arith)

  -- whatever is added to both
  added : (w : ℕ) → ((s + w) + apart) % modulus ≡ (a + w) % modulus
  added w =
      let sum : (s + w) + (a + (modulus - s)) ≡ (a + w) + modulus = omega arith in
      add-mod-mod (s + w) (a + (modulus - s)) modulus ∙ ap (λ n. n % modulus) sum ∙ add-mod_right (a + w) modulus

  pub tags_apart : (a + v) % modulus ≡ ((s + v) % modulus + apart) % modulus
  tags_apart = sym (mod-add-mod (s + v) modulus apart ∙ added v)

  pub roots_apart : a ≡ (s + apart) % modulus
  roots_apart =
      sym (ap (λ n. (n + apart) % modulus) (sym (add-zero s)) ∙ added 0 ∙ ap (λ n. n % modulus) (add-zero a) ∙ mod-eq_of_lt a_below)
