-- The law of MMH: sums that wrap at 2^64, reduced by the prime and then by 2^32.
use Rattle.std.specs.Prelude.{◌≡◌, ℕ, ◌+◌, ◌-◌, ◌*◌, ◌/◌, ◌%◌, ◌^◌, ◌<◌, ◌≤◌}
use Rattle.std.proofs.Common.{sym, ◌∙◌, ap, subst₂, ⊎_elim, mod-lt, mul-le-mul_right, arith, lit<, lit≤}
use Rattle.std.proofs.Math.Nat.{add-mod, mod-add-mod}
use Rattle.std.proofs.lemmas.Nat.{mul-lt}
use Rattle.std.proofs.ByRecursion.{All-weaker}
use Rattle.std.proofs.lemmas.Bool.{cases_lt}
use Rattle.families.specs.Counting.{AtMost}
use Rattle.families.specs.Dots.{mmh, mmh_reduced}
use Rattle.families.specs.Meanings.{Lawful}
use Rattle.families.specs.Laws.Classes.{by_class}
use Rattle.families.specs.Laws.Dots.{Lines, Meets, dot_lawful}
use Rattle.families.specs.Laws.Primes.{one_word}
use Rattle.families.specs.Laws.Residues.{add_same, cancel}
use Rattle.families.specs.Laws.Trials.{prime}

-- Tags d apart modulo 2^32 come from remainders h and g modulo the prime with h + 2^34 = g + d + 2^32 * k, where k is
-- 2, 3, 4 or 5. Not both 2 and 5 occur for one d, so that k % 3 tells which it is.
abbrev gap : ℕ → ℕ → ℕ → ℕ
gap h g d = (h + 2 ^ 34 - (g + d)) / 2 ^ 32

record Gap (h g d k : ℕ) : Type 0 where
  is : h + 2 ^ 34 ≡ g + d + 2 ^ 32 * k
  low : h < 4294967311
  high : g < 4294967311
  small : d < 2 ^ 32

gaps : (h g d : ℕ) → h < 4294967311 → g < 4294967311 → d < 2 ^ 32 → h % 2 ^ 32 ≡ (g % 2 ^ 32 + d) % 2 ^ 32 → Gap h g d (gap h g d)
gaps h g d hh hg hd e = record { is = omega arith; low = hh; high = hg; small = hd }

same_gap : (h g i j d k l : ℕ) → Gap h g d k → Gap i j d l → k % 3 ≡ l % 3 → h + j ≡ i + g
same_gap h g i j d k l x y e = omega arith

-- the sum a + v * m, wrapped at 2^64, with its carry
record Wrap (a m v s t : ℕ) : Type 0 where
  is : s + t * 2 ^ 64 ≡ a + v * m
  low : s < 2 ^ 64
  bit : t ≤ 1

wraps : (a m v : ℕ) → a < 2 ^ 64 → m < 2 ^ 32 → v < 2 ^ 32 → Wrap a m v ((a + v * m) % 2 ^ 64) ((a + v * m) / 2 ^ 64)
wraps a m v ha hm hv = let less : v * m < 2 ^ 32 * 2 ^ 32 = mul-lt v m (2 ^ 32) (2 ^ 32) hv hm in record { is = omega arith; low = omega arith; bit = omega arith }

-- a larger word carries where a smaller one does
carry_grows : (a m v w s t r u : ℕ) → v ≤ w → Wrap a m v s t → Wrap a m w r u → t ≤ u
carry_grows a m v w s t r u h x y = let more : v * m ≤ w * m = mul-le-mul_right m h in omega arith

same_parity : (t t' u u' : ℕ) → t ≤ u → t' ≤ u' → u ≤ 1 → u' ≤ 1 → (t + t') % 2 ≡ (u + u') % 2 → t + u' ≡ u + t'
same_parity t t' u u' h h' b b' e = omega arith

digits : (x y z w : ℕ) → y < 3 → w < 3 → 3 * x + y ≡ 3 * z + w → (x ≡ z) × (y ≡ w)
digits x y z w hy hw e = (omega arith, omega arith)

-- what the wraps of two words tell of their products, where remainders and carries differ alike
module _ (p a b m n v w s t s' t' r u r' u' : ℕ) where
  unwrapped : 0 < p → Wrap a m v s t → Wrap b n v s' t' → Wrap a m w r u → Wrap b n w r' u' → s % p + r' % p ≡ r % p + s' % p → t + u' ≡ u + t' → (v * m + w * n) % p ≡ (w * m + v * n) % p
  unwrapped pos x x' y y' e f =
      let sums : (s + r') % p ≡ (r + s') % p = add-mod s r' p ∙ ap (λ k. k % p) e ∙ sym (add-mod r s' p) in
      let carried = add_same p (s + r') ((t + u') * 2 ^ 64) (r + s') ((u + t') * 2 ^ 64) sums (ap (λ k. k * 2 ^ 64 % p) f) in
      cancel p (a + b) (v * m + w * n) (w * m + v * n) pos
      (ap (λ k. k % p) (omega arith) ∙ carried ∙ ap (λ k. k % p) (omega arith))

-- sums of which what v does not change is below 2^64
module _ (l : Lines) (d : ℕ) (a_low : l.a < 2 ^ 64) (b_low : l.b < 2 ^ 64) (small : d < 2 ^ 32) where
  abbrev left : ℕ → ℕ
  left v = (l.a + v * l.m) % 2 ^ 64

  abbrev right : ℕ → ℕ
  right v = (l.b + v * l.n) % 2 ^ 64

  -- whether just one of the sums carries
  abbrev parity : ℕ → ℕ
  parity v = ((l.a + v * l.m) / 2 ^ 64 + (l.b + v * l.n) / 2 ^ 64) % 2

  abbrev distance : ℕ → ℕ
  distance v = gap (left v % 4294967311) (right v % 4294967311) d % 3

  abbrev class : ℕ → ℕ
  class v = 3 * parity v + distance v

  class_below : (v : ℕ) → class v < 6
  class_below v = omega arith

  same_distance : (v w : ℕ) → Meets mmh_reduced (2 ^ 32) l d v → Meets mmh_reduced (2 ^ 32) l d w → distance v ≡ distance w → left v % 4294967311 + right w % 4294967311 ≡ left w % 4294967311 + right v % 4294967311
  same_distance v w e f s =
      same_gap _ _ _ _ d _ _
      (gaps (left v % 4294967311) (right v % 4294967311) d (mod-lt (left v) (lit< tt)) (mod-lt (right v) (lit< tt)) small e.1)
      (gaps (left w % 4294967311) (right w % 4294967311) d (mod-lt (left w) (lit< tt)) (mod-lt (right w) (lit< tt)) small f.1)
      s

  wrap_left : (v : ℕ) → v < 2 ^ 32 → Wrap l.a l.m v (left v) ((l.a + v * l.m) / 2 ^ 64)
  wrap_left v hv = wraps l.a l.m v a_low l.m_low hv

  wrap_right : (v : ℕ) → v < 2 ^ 32 → Wrap l.b l.n v (right v) ((l.b + v * l.n) / 2 ^ 64)
  wrap_right v hv = wraps l.b l.n v b_low l.n_low hv

  same_carry : (v w : ℕ) → v < 2 ^ 32 → w < 2 ^ 32 → v ≤ w → parity v ≡ parity w → (l.a + v * l.m) / 2 ^ 64 + (l.b + w * l.n) / 2 ^ 64 ≡ (l.a + w * l.m) / 2 ^ 64 + (l.b + v * l.n) / 2 ^ 64
  same_carry v w hv hw h s =
      same_parity _ _ _ _
      (carry_grows l.a l.m v w _ _ _ _ h (wrap_left v hv) (wrap_left w hw))
      (carry_grows l.b l.n v w _ _ _ _ h (wrap_right v hv) (wrap_right w hw))
      (wrap_left w hw).bit
      (wrap_right w hw).bit
      s

  in_order : (v w : ℕ) → v ≤ w → Meets mmh_reduced (2 ^ 32) l d v → Meets mmh_reduced (2 ^ 32) l d w → class v ≡ class w → v ≡ w
  in_order v w h e f s =
      let parts = digits (parity v) (distance v) (parity w) (distance w) (mod-lt _ (lit< tt)) (mod-lt _ (lit< tt)) s in
      let equal = unwrapped 4294967311 l.a l.b l.m l.n v w _ _ _ _ _ _ _ _ (lit< tt)
      (wrap_left v e.0) (wrap_right v e.0) (wrap_left w f.0) (wrap_right w f.0)
      (same_distance v w e f parts.1) (same_carry v w e.0 f.0 h parts.0) in
      one_word 4294967311 prime v w l.m l.n (omega arith) (omega arith) (omega arith) (omega arith) l.differ equal

  six_low : AtMost 6 (Meets mmh_reduced (2 ^ 32) l d)
  six_low = by_class (Meets mmh_reduced (2 ^ 32) l d) 6 class (λ v e. class_below v) (λ v w e f s.
      ⊎_elim
      (λ h. in_order v w (omega arith) e f s)
      (λ h. sym (in_order w v h f e (sym s)))
      (cases_lt v w))

-- the parts that v does not change, modulo 2^64
abbrev lowered : Lines → Lines
lowered l = record { a = l.a % 2 ^ 64; b = l.b % 2 ^ 64; m = l.m; n = l.n; differ = l.differ; m_low = l.m_low; n_low = l.n_low }

six : (l : Lines) (d : ℕ) → d < 2 ^ 32 → AtMost 6 (Meets mmh_reduced (2 ^ 32) l d)
six l d small vs distinct meets =
    six_low (lowered l) d (mod-lt _ (lit< tt)) (mod-lt _ (lit< tt)) small vs distinct
    (All-weaker (Meets mmh_reduced (2 ^ 32) l d) (Meets mmh_reduced (2 ^ 32) (lowered l) d)
    (λ v e. (
      e.0,
      subst₂ (λ x y. x % 4294967311 % 2 ^ 32 ≡ (y % 4294967311 % 2 ^ 32 + d) % 2 ^ 32)
          (sym (mod-add-mod l.a (2 ^ 64) (v * l.m))) (sym (mod-add-mod l.b (2 ^ 64) (v * l.n))) e.1,
    )) vs meets)

pub mmh_lawful : Lawful mmh 6
mmh_lawful = dot_lawful mmh_reduced (2 ^ 32) 6 (lit≤ tt) (lit≤ tt) (lit≤ tt) (lit≤ tt) (λ s. mod-lt _ (lit< tt)) six
