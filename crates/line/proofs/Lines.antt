-- The commands of a line, place by place.
use Rattle.std.proofs.Common.{◌≡◌, ℕ, zero, suc, ◌+◌, ◌<◌, ◌≤◌, Bool, true, false, cond, leb, List, [], ◌∷◌, length, take, drop, Ok, Err, Result, sym, refl, ap, ◌∙◌, arith, length-drop}
use Rattle.std.proofs.lemmas.List.{drop_all, drop-drop, length-take-le}
use Rattle.std.proofs.lemmas.Bool.{leb-true}
use Rattle.std.proofs.lemmas.Bool.Decides.{nat_tests}
use Rattle.line.specs.Commands.{Order, Reading, first, begun, operands, width, read_from, read_at, behind, nothing}
use Rattle.line.specs.Commands.Order.{choose, open_job, feed_byte, feed_block, seal_job, strike_pad, check_job}
use Rattle.line.specs.Steps.{past}
use Rattle.line.specs.Commands.End.{all_read, stopped}
use Rattle.line.specs.declared.refusal.LineFault.{LineFault}

-- ---- every command has a byte, and no more than there are

pub width_some : (o : Order) → 0 < width o
width_some (choose family) = omega arith
width_some (open_job label) = omega arith
width_some (feed_byte byte) = omega arith
width_some (feed_block bytes) = omega arith
width_some seal_job = omega arith
width_some strike_pad = omega arith
width_some (check_job number tag) = omega arith

-- by whether a test came out
pub by_cases : {X : Type 0} (t : Bool) {x y r : X} (P : Type 0) → (t ≡ true → x ≡ r → P) → (t ≡ false → y ≡ r → P) → cond t x y ≡ r → P
by_cases true P f g e = f refl e
by_cases false P f g e = g refl e

-- operands that were read: there are as many
pub operands_read :
    (n : ℕ) (bs : List ℕ) (make : List ℕ → Order) (o : Order) →
    operands n bs make ≡ Ok o →
    (length (take n bs) ≡ n) × (make (take n bs) ≡ o)
operands_read n bs make o h =
    by_cases (leb n (length bs)) ((length (take n bs) ≡ n) × (make (take n bs) ≡ o))
    (λ t e. (length-take-le n bs (leb-true n (length bs) t), cc))
    (λ t e. cc)
    h

begun_within : (byte : ℕ) (bs : List ℕ) (o : Order) → begun byte bs ≡ Ok o → width o ≤ suc (length bs)
begun_within byte bs o h = grind (arith, nat_tests)

pub first_within : (bs : List ℕ) (o : Order) → first bs ≡ Ok o → width o ≤ length bs
first_within [] o h = cc
first_within (byte ∷ bs) o h = begun_within byte bs o h

-- a command ends behind its place, and a fault at the end of the line
pub past_more : (x : Result Order LineFault) (at long : ℕ) → at < long → at < past x at long
past_more (Ok o) at long h = let w = width_some o in omega arith
past_more (Err f) at long h = h

-- ---- reading on

abbrev pub read_by : Result Order LineFault → (most place : ℕ) → List ℕ → Reading
read_by (Ok order) most place bs = behind (record { place = place; order = order }) (read_from most (place + width order) (drop (width order) bs))
read_by (Err fault) most place bs = nothing (stopped fault place)

pub read_some : (most place byte : ℕ) (bs : List ℕ) → read_from (suc most) place (byte ∷ bs) ≡ read_by (first (byte ∷ bs)) most place (byte ∷ bs)
unfolding read_from
read_some most place byte bs =
    elim (first (byte ∷ bs)) as (λ r. (elim r [
      | Ok order ↦ behind (record { place = place; order = order }) (read_from most (place + width order) (drop (width order) (byte ∷ bs)))
      | Err fault ↦ nothing (stopped fault place)
    ]) ≡ read_by r most place (byte ∷ bs)) [ Ok o ↦ refl | Err f ↦ refl ]

pub shorter : (o : Order) (byte : ℕ) (bs : List ℕ) → length (drop (width o) (byte ∷ bs)) ≤ length bs
shorter o byte bs = let w = width_some o in let n = length-drop (width o) (byte ∷ bs) in omega arith

-- any number that is not below that of the bytes will do
read_enough : (n k place : ℕ) (bs : List ℕ) → length bs ≤ n → length bs ≤ k → read_from n place bs ≡ read_from k place bs
unfolding read_from
read_enough zero zero place [] h h' = refl
read_enough zero (suc k) place [] h h' = refl
read_enough (suc n) zero place [] h h' = refl
read_enough (suc n) (suc k) place [] h h' = refl
read_enough zero k place (byte ∷ bs) h h' = absurd (omega arith)
read_enough (suc n) zero place (byte ∷ bs) h h' = absurd (omega arith)
read_enough (suc n) (suc k) place (byte ∷ bs) h h' =
    read_some n place byte bs
    ∙ (elim (first (byte ∷ bs)) as (λ r. read_by r n place (byte ∷ bs) ≡ read_by r k place (byte ∷ bs)) [
      | Ok o ↦
          let s = shorter o byte bs in
          ap (behind (record { place = place; order = o }))
          (read_enough n k (place + width o) (drop (width o) (byte ∷ bs)) (omega arith) (omega arith))
      | Err f ↦ refl
    ])
    ∙ sym (read_some k place byte bs)

pub next_of : (place : ℕ) (bs : List ℕ) (o : Order) → first bs ≡ Ok o → read_from (length bs) place bs ≡ behind (record { place = place; order = o }) (read_from (length (drop (width o) bs)) (place + width o) (drop (width o) bs))
next_of place [] o h = cc
next_of place (byte ∷ bs) o h =
    let s = shorter o byte bs in
    read_some (length bs) place byte bs ∙ ap (λ r. read_by r (length bs) place (byte ∷ bs)) h
    ∙ ap (behind (record { place = place; order = o }))
    (read_enough (length bs) (length (drop (width o) (byte ∷ bs))) (place + width o) (drop (width o) (byte ∷ bs)) (omega arith) (omega arith))

module _ (line : List ℕ) (at : ℕ) where
  pub read_next : (o : Order) → first (drop at line) ≡ Ok o → read_at line at ≡ behind (record { place = at; order = o }) (read_at line (at + width o))
  read_next o h =
      next_of at (drop at line) o h
      ∙ ap (λ (xs : List ℕ). behind (record { place = at; order = o }) (read_from (length xs) (at + width o) xs)) (drop-drop (width o) at line)

  pub next_within : (o : Order) → first (drop at line) ≡ Ok o → at ≤ length line → at + width o ≤ length line
  next_within o h l = let w = first_within (drop at line) o h in let n = length-drop at line in omega arith

  stop_of : (bs : List ℕ) (f : LineFault) → 0 < length bs → first bs ≡ Err f → read_from (length bs) at bs ≡ nothing (stopped f at)
  stop_of [] f l h = absurd (omega arith)
  stop_of (byte ∷ bs) f l h = read_some (length bs) at byte bs ∙ ap (λ r. read_by r (length bs) at (byte ∷ bs)) h

  pub read_stop : (f : LineFault) → at < length line → first (drop at line) ≡ Err f → read_at line at ≡ nothing (stopped f at)
  read_stop f l h = stop_of (drop at line) f (let n = length-drop at line in omega arith) h

  done_of : read_from (length {A = ℕ} []) at [] ≡ nothing all_read
  unfolding read_from
  done_of = refl

  pub read_done : length line ≤ at → read_at line at ≡ nothing all_read
  read_done h = ap (λ (xs : List ℕ). read_from (length xs) at xs) (drop_all at line h) ∙ done_of
