-- The struck numbers as a list.
use Rattle.std.proofs.Common.{◌≡◌, ℕ, zero, suc, ◌+◌, ◌<◌, ◌≤◌, cond, List, [], ◌∷◌, map, length, get_or, refl, ap, ◌∙◌, zero-add, arith, take, sym}
use Rattle.std.specs.List.{filter, enumerate_from}
use Rattle.std.proofs.lemmas.Grind.{common_steps}
use Rattle.std.proofs.lemmas.List.FromFn.{length-enumerate_from, get_or-enumerate_from}
use Rattle.std.proofs.lemmas.List.{get_or-map, length-map}
use Rattle.books.specs.Counting.{times}
use Rattle.books.specs.Fates.{fate_is}
use Rattle.books.specs.Listing.{struck_count, Listed}
use Rattle.books.specs.declared.fate.Fate.{Fate}
use Rattle.books.specs.declared.fate.Fate.TheVariants.{Unspent, Sealed, Struck}
use Rattle.pads.specs.Stored.{written}
use Rattle.books.proofs.Counts.{times_same, times_other}

pub length-filter_struck : (fs : List Fate) → length (filter (fate_is Struck) fs) ≡ struck_count fs
length-filter_struck [] = refl
length-filter_struck (Unspent ∷ fs) = omega (arith, length-filter_struck fs)
length-filter_struck (Sealed ∷ fs) = omega (arith, length-filter_struck fs)
length-filter_struck (Struck ∷ fs) = omega (arith, length-filter_struck fs)

-- the struck numbers with their fates, the first fate being that of the number s
abbrev pub struck_pairs : ℕ → List Fate → List (ℕ × Fate)
struck_pairs s fs = filter (λ (p : ℕ × Fate). fate_is Struck p.1) (enumerate_from s fs)

abbrev pub strucks : ℕ → List Fate → List ℕ
strucks s fs = map (λ (p : ℕ × Fate). p.0) (struck_pairs s fs)

pub length-strucks : (s : ℕ) (fs : List Fate) → length (strucks s fs) ≡ struck_count fs
length-strucks s [] = refl
length-strucks s (Unspent ∷ fs) = omega (arith, length-strucks (s + 1) fs)
length-strucks s (Sealed ∷ fs) = omega (arith, length-strucks (s + 1) fs)
length-strucks s (Struck ∷ fs) = omega (arith, length-strucks (s + 1) fs)

times_before : (n s : ℕ) (fs : List Fate) → n < s → times n (strucks s fs) ≡ 0
times_before n s [] low = refl
times_before n s (Unspent ∷ fs) low = times_before n (s + 1) fs (omega arith)
times_before n s (Sealed ∷ fs) low = times_before n (s + 1) fs (omega arith)
times_before n s (Struck ∷ fs) low = omega (arith, times_before n (s + 1) fs (omega arith), times_other s n (omega arith))

-- a number is listed once if it is struck
times-strucks : (n s k : ℕ) (fs : List Fate) → n ≡ s + k → times n (strucks s fs) ≡ cond (fate_is Struck (get_or fs k Unspent)) 1 0
times-strucks n s k [] e = refl
times-strucks n s zero (Unspent ∷ fs) e = times_before n (s + 1) fs (omega arith)
times-strucks n s zero (Sealed ∷ fs) e = times_before n (s + 1) fs (omega arith)
times-strucks n s zero (Struck ∷ fs) e = omega (arith, times_before n (s + 1) fs (omega arith), times_same s n (omega arith))
times-strucks n s (suc k) (Unspent ∷ fs) e = times-strucks n (s + 1) k fs (omega arith)
times-strucks n s (suc k) (Sealed ∷ fs) e = times-strucks n (s + 1) k fs (omega arith)
times-strucks n s (suc k) (Struck ∷ fs) e = omega (arith, times-strucks n (s + 1) k fs (omega arith), times_other s n (omega arith))

-- the pairs, as a loop over them has them
abbrev pub numbered : List Fate → List (ℕ × (ℕ × Fate))
numbered fs = enumerate_from 0 (struck_pairs 0 fs)

pub length-numbered : (fs : List Fate) → length (numbered fs) ≡ struck_count fs
length-numbered fs = omega (arith, length-enumerate_from 0 (struck_pairs 0 fs), length-map (struck_pairs 0 fs) (λ (p : ℕ × Fate). p.0), length-strucks 0 fs)

pub numbered_at :
    (fs : List Fate) (i : ℕ) (x : ℕ × (ℕ × Fate)) →
    i < length (numbered fs) →
    x ≡ get_or (numbered fs) i x →
    (x.0 ≡ i) × (x.1.0 ≡ get_or (strucks 0 fs) i 0)
numbered_at fs i x low e =
    let ps = struck_pairs 0 fs in
    let inside : i < length ps = omega (arith, length-enumerate_from 0 ps) in
    let are : x ≡ (0 + i, get_or ps i x.1) = e ∙ get_or-enumerate_from 0 ps i x inside in
    let number : get_or (strucks 0 fs) i 0 ≡ (get_or ps i x.1).0 = get_or-map (λ (p : ℕ × Fate). p.0) ps i x.1 0 inside in
    (ap (λ y. y.0) are ∙ zero-add i, ap (λ y. y.1.0) are ∙ sym number)

-- places over whose front the struck numbers were written
pub listed : (fs : List Fate) (before after : List ℕ) → struck_count fs ≤ length before → after ≡ written (strucks 0 fs) before → Listed fs before after (struck_count fs)
listed fs before after room e =
    let long : length (strucks 0 fs) ≡ struck_count fs = length-strucks 0 fs in
    record {
      count = refl;
      each = λ n.
          let front : take (struck_count fs) after ≡ strucks 0 fs = rw e (grind (arith, common_steps)) in
          ap (times n) front ∙ times-strucks n 0 n fs (omega arith);
      rest = rw e (grind (arith, common_steps));
      long = rw e (grind (arith, common_steps));
    }
