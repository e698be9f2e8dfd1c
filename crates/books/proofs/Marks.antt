-- What each call records of the numbers' fates.
use Rattle.std.proofs.Common.{◌≡◌, ℕ, ◌+◌, ◌<◌, ◌≤◌, Bool, true, false, cond, ◌≢◌, List, [], ◌∷◌, ◌++◌, length, get_or, set, replicate, Some, None, Ok, Err, Option, Result, sym, refl, ap, ◌∙◌, ⊎_elim, arith, length-set}
use Rattle.std.proofs.lemmas.List.{get_or-set_same, get_or-set_other, get_or-replicate, get_or_past}
use Rattle.std.proofs.lemmas.Bool.{cases_eq, cases_lt}
use Rattle.jobs.specs.Roots.{Job}
use Rattle.pads.specs.Sources.{asked}
use Rattle.pads.specs.declared.source.NoSuchPad.{NoSuchPad}
use Rattle.pads.proofs.Answers.{ok_tells}
use Rattle.books.specs.Counting.{times}
use Rattle.books.specs.Fates.{fate_is}
use Rattle.books.specs.Law.{recording}
use Rattle.books.specs.Office.{Office, opened, handed, spent, taken, taken_by, held, struck, sealed, called_in, called_in_by}
use Rattle.books.specs.Runs.{Event}
use Rattle.books.specs.Runs.Event.{take, seal, strike, call_in}
use Rattle.books.specs.declared.fate.Fate.{Fate}
use Rattle.books.specs.declared.fate.Fate.TheVariants.{Unspent, Sealed, Struck}
use Rattle.books.specs.declared.pad.Pad.{Pad}
use Rattle.books.proofs.Counts.{times-append, times_same, times_other, times_cond, cond_none}
use Rattle.books.proofs.Moves.{used_by, sealed_by, held_out}

abbrev fate_of : Office → ℕ → Fate
fate_of b n = get_or b.fates n Unspent

-- numbers that are not used up have no fate yet, and there is a place for each
pub record Clean (b : Office) : Type 0 where
  pub pads_fit : length b.pads ≤ length b.fates
  pub next_fits : b.next ≤ length b.fates
  pub ahead : (n : ℕ) → b.next ≤ n → fate_of b n ≡ Unspent
  pub out_fits : (n : ℕ) → b.out ≡ Some n → n < b.next
  pub out_clean : (n : ℕ) → b.out ≡ Some n → fate_of b n ≡ Unspent

-- how often the fate is f
abbrev pub mark : Fate → Fate → ℕ
mark f g = cond (fate_is f g) 1 0

-- from b to c the office gave the numbers ns the fate f
pub record Marks (f : Fate) (b : Office) (ns : List ℕ) (c : Office) : Type 0 where
  pub clean : Clean b → Clean c
  pub marks : Clean b → (n : ℕ) → times n ns + mark f (fate_of b n) ≡ mark f (fate_of c n)

pub unmarked : (f : Fate) (b : Office) → Marks f b [] b
unmarked f b = record { clean = λ h. h; marks = λ h n. omega arith }

-- one after another
pub marks_then : (f : Fate) (b c d : Office) (ns ms : List ℕ) → Marks f b ns c → Marks f c ms d → Marks f b (ns ++ ms) d
marks_then f b c d ns ms first second =
    record {
      clean = λ h. second.clean (first.clean h);
      marks = λ h n.
          let x = first.marks h n in
          let y = second.marks (first.clean h) n in
          let p = times-append n ns ms in
          omega arith;
    }

hands : (f : Fate) (b : Office) → b.next < length b.pads → Marks f b [] (handed b)
hands f b low =
    record {
      clean = λ h.
          record {
            pads_fit = h.pads_fit;
            next_fits = let x = h.pads_fit in omega arith;
            ahead = λ n m. h.ahead n (omega arith);
            out_fits = λ n e. let x : b.next ≡ n = cc in omega arith;
            out_clean = λ n e. let x : b.next ≡ n = cc in h.ahead n (omega arith);
          };
      marks = λ h n. omega arith;
    }

-- the number n that is out gets the fate g, and the other fates stay
module _ (f g : Fate) (n : ℕ) (b : Office) (some : fate_is f Unspent ≡ false) (e : b.out ≡ Some n) where
  spent_clean : Clean b → Clean (spent g n b)
  spent_clean h =
      let long : length (set b.fates n g) ≡ length b.fates = length-set b.fates n g in
      let low = h.out_fits n e in
      record {
        pads_fit = let x = h.pads_fit in omega arith;
        next_fits = let x = h.next_fits in omega arith;
        ahead = λ k l. let ne : k ≢ n = omega arith in get_or-set_other b.fates n k g Unspent ne ∙ h.ahead k l;
        out_fits = λ k x. cc;
        out_clean = λ k x. cc;
      }

  here : Clean b → fate_of (spent g n b) n ≡ g
  here h = let x = h.out_fits n e in let y = h.next_fits in get_or-set_same b.fates n g Unspent (omega arith)

  abbrev gave : List ℕ
  gave = cond (fate_is f g) (n ∷ []) []

  spent_marks : Clean b → (k : ℕ) → times k gave + mark f (fate_of b k) ≡ mark f (fate_of (spent g n b) k)
  spent_marks h k =
      ⊎_elim
      (λ (same : n ≡ k).
      let old : mark f (fate_of b k) ≡ 0 = ap (mark f) (ap (fate_of b) (sym same) ∙ h.out_clean n e) ∙ ap (λ t. cond t 1 0) some in
      let new : mark f (fate_of (spent g n b) k) ≡ mark f g = ap (mark f) (ap (fate_of (spent g n b)) (sym same) ∙ here h) in
      let counted : times k gave ≡ mark f g = times_cond k n (fate_is f g) 1 (times_same n k same) in
      omega arith)
      (λ (ne : n ≡ k → ⊥).
      let other : k ≢ n = λ x. ne (sym x) in
      let new : mark f (fate_of (spent g n b) k) ≡ mark f (fate_of b k) = ap (mark f) (get_or-set_other b.fates n k g Unspent other) in
      let counted : times k gave ≡ 0 = times_cond k n (fate_is f g) 0 (times_other n k ne) ∙ cond_none (fate_is f g) in
      omega arith)
      (cases_eq n k)

  spends : Marks f b gave (spent g n b)
  spends = record { clean = spent_clean; marks = spent_marks }

-- ---- each call

abbrev pub Marked : Fate → Office → Event → Office → Type 0
Marked f b e c = Marks f b (recording f e) c

module _ (f : Fate) (some : fate_is f Unspent ≡ false) (b : Office) where
  pub take_marks : Marked f b (take (taken b).0) (taken b).1
  take_marks = go b.out (asked b.pads b.next) refl
    where
      go : (o : Option ℕ) (a : Result ℕ NoSuchPad) → asked b.pads b.next ≡ a → Marked f b (take (taken_by o a b).0) (taken_by o a b).1
      go (Some n) a e = unmarked f b
      go None (Err x) e = unmarked f b
      go None (Ok v) e = hands f b (ok_tells b.pads b.next v (sym e)).0

  pub strike_marks : (p : Pad) → Marked f b (strike p (struck p b).0) (struck p b).1
  strike_marks p = go (held p b) refl
    where
      go : (t : Bool) → held p b ≡ t → Marked f b (strike p (used_by t Struck p b).0) (used_by t Struck p b).1
      go true e = spends f Struck p.number b some (held_out p b e)
      go false e = unmarked f b

  pub seal_marks : (modulus root : ℕ) (p : Pad) (j : Job) → Marked f b (seal p j (sealed modulus root p b).0) (sealed modulus root p b).1
  seal_marks modulus root p j = go (held p b) refl
    where
      go : (t : Bool) → held p b ≡ t → Marked f b (seal p j (sealed_by t modulus root p b)) (used_by t Sealed p b).1
      go true e = spends f Sealed p.number b some (held_out p b e)
      go false e = unmarked f b

  pub call_in_marks : Marked f b (call_in (called_in b).0) (called_in b).1
  call_in_marks = go b.out refl
    where
      go : (o : Option ℕ) → b.out ≡ o → Marked f b (call_in (called_in_by o b).0) (called_in_by o b).1
      go None e = unmarked f b
      go (Some n) e = spends f Struck n b some e

-- ---- a book as it is opened

blank : (n : ℕ) → get_or (replicate 256 Unspent) n Unspent ≡ Unspent
blank n =
    ⊎_elim
    (λ (low : n < 256). get_or-replicate 256 n Unspent Unspent low)
    (λ (high : 256 ≤ n). get_or_past (replicate 256 Unspent) n Unspent high)
    (cases_lt n 256)

pub opened_clean : (ps : List ℕ) → length ps ≤ 256 → Clean (opened ps)
opened_clean ps few =
    record {
      pads_fit = few;
      next_fits = omega arith;
      ahead = λ n l. blank n;
      out_fits = λ n e. cc;
      out_clean = λ n e. cc;
    }

-- after a run from there, a fate stands in the book as often as it was given
pub marks_opened :
    (f : Fate) (ps ns : List ℕ) (d : Office) →
    fate_is f Unspent ≡ false →
    length ps ≤ 256 →
    Marks f (opened ps) ns d →
    (n : ℕ) →
    times n ns ≡ mark f (fate_of d n)
marks_opened f ps ns d some few h n =
    let x = h.marks (opened_clean ps few) n in
    let y : mark f (fate_of (opened ps) n) ≡ 0 = ap (mark f) (blank n) ∙ ap (λ t. cond t 1 0) some in
    omega arith
