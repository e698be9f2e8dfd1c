-- Pads that are read from bytes, and a list whose front is written over, place by place.
use Rattle.std.proofs.Common.{◌≡◌, ℕ, zero, suc, ◌+◌, ◌*◌, ◌/◌, ◌<◌, ◌≤◌, ◌≢◌, min, List, [], length, get_or, take, drop, set, sym, refl, ap, ◌∙◌, ⊎_elim, add-zero, zero-add, arith, below_more, get_or-take, get_or-set_same, get_or-set_other}
use Rattle.std.specs.Int.{w64, from_le_bytes}
use Rattle.std.specs.Simd.{first_chunks}
use Rattle.std.proofs.lemmas.Grind.{common_steps, same_number_lists}
use Rattle.std.proofs.lemmas.Bool.{cases_lt}
use Rattle.std.proofs.lemmas.List.{get_or-drop, drop-drop}
use Rattle.std.proofs.lemmas.List.FromFn.{length-map-range_with_len, get_or-map-range_with_len}
use Rattle.pads.specs.Stored.{pad_at, pads_of, written}

-- ---- a list that is written over

length-written : (ps xs : List ℕ) → length (written ps xs) ≡ length xs
length-written ps xs = grind (arith, common_steps)

pub get_or-written_low : (ps xs : List ℕ) (k : ℕ) → k < length ps → k < length xs → get_or (written ps xs) k 0 ≡ get_or ps k 0
get_or-written_low ps xs k l m = grind (arith, common_steps)

get_or-written_high : (ps xs : List ℕ) (k : ℕ) → length ps ≤ k → k < length xs → get_or (written ps xs) k 0 ≡ get_or xs k 0
get_or-written_high ps xs k l m = grind (arith, common_steps)

-- i places are written over, and the others are as they were
pub record Filled (ps before after : List ℕ) (i : ℕ) : Type 0 where
  pub front : (k : ℕ) → k < i → get_or after k 0 ≡ get_or (written ps before) k 0
  pub back : (k : ℕ) → i ≤ k → get_or after k 0 ≡ get_or before k 0

module _ (ps xs ys : List ℕ) (i : ℕ) (h : Filled ps xs ys i) where
  pub filled_more : (v : ℕ) → i < length ys → v ≡ get_or (written ps xs) i 0 → Filled ps xs (set ys i v) (i + 1)
  filled_more v low e =
      record {
        front = below_more _ _ (λ k l. let ne : k ≢ i = omega arith in get_or-set_other ys i k v 0 ne ∙ h.front k l) (get_or-set_same ys i v 0 low ∙ e);
        back = λ k l. let ne : k ≢ i = omega arith in get_or-set_other ys i k v 0 ne ∙ h.back k (omega arith);
      }

  pub filled_past : length ps ≤ i → i < length xs → get_or ys i 0 ≡ get_or (written ps xs) i 0
  filled_past past low = h.back i (omega arith) ∙ sym (get_or-written_high ps xs i past low)

  -- as far as one of the lists goes
  pub filled_all : length ys ≡ length xs → min (length ps) (length xs) ≤ i → ys ≡ written ps xs
  filled_all long all =
      same_number_lists ys (written ps xs) (long ∙ sym (length-written ps xs)) λ k low.
      ⊎_elim
      (h.front k)
      (λ (past : i ≤ k). h.back k past ∙ sym (get_or-written_high ps xs k (omega arith) (omega arith)))
      (cases_lt k i)

-- ---- pads as bytes

pub length-pads_of : (bytes : List ℕ) → length (pads_of bytes) ≡ length bytes / 8
unfolding pads_of
length-pads_of bytes = length-map-range_with_len (λ i. pad_at bytes (8 * i)) 0 (length bytes / 8)

get_or-pads_of : (bytes : List ℕ) (k : ℕ) → k < length bytes / 8 → get_or (pads_of bytes) k 0 ≡ pad_at bytes (8 * k)
unfolding pads_of
get_or-pads_of bytes k low = get_or-map-range_with_len (λ i. pad_at bytes (8 * i)) 0 (length bytes / 8) k k 0 low (zero-add k)

-- the eight bytes of a pad
get_or-first_chunks : (n k : ℕ) (bytes d : List ℕ) → k < n → get_or (first_chunks 8 n bytes) k d ≡ take 8 (drop (8 * k) bytes)
get_or-first_chunks zero k bytes d low = absurd (omega arith)
get_or-first_chunks (suc n) zero bytes d low = refl
get_or-first_chunks (suc n) (suc k) bytes d low =
    let e : 8 + 8 * k ≡ 8 * suc k = omega arith in
    get_or-first_chunks n k (drop 8 bytes) d (omega arith) ∙ ap (take 8) (drop-drop (8 * k) 8 bytes ∙ ap (λ m. drop m bytes) e)

pad_of_chunk : (bytes : List ℕ) (k : ℕ) → from_le_bytes w64 (take 8 (drop (8 * k) bytes)) ≡ pad_at bytes (8 * k)
pad_of_chunk bytes k =
    let b = λ (i : ℕ) (low : i < 8). get_or-take 8 (drop (8 * k) bytes) i 0 low ∙ get_or-drop (8 * k) bytes i 0 in
    rw (b 0 (omega arith), b 1 (omega arith), b 2 (omega arith), b 3 (omega arith), b 4 (omega arith), b 5 (omega arith), b 6 (omega arith), b 7 (omega arith), add-zero (8 * k)) refl

pub pad_read :
    (bytes eight : List ℕ) (chunks : List (List ℕ)) (k : ℕ) →
    k < length bytes / 8 →
    chunks ≡ first_chunks 8 (length bytes / 8) bytes →
    eight ≡ get_or chunks k [] →
    from_le_bytes w64 eight ≡ get_or (pads_of bytes) k 0
pad_read bytes eight chunks k low are is =
    ap (from_le_bytes w64) (is ∙ ap (λ cs. get_or cs k []) are ∙ get_or-first_chunks (length bytes / 8) k bytes [] low)
    ∙ pad_of_chunk bytes k ∙ sym (get_or-pads_of bytes k low)
