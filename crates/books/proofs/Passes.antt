-- What a check does to the table book, and what an accepted tag is.
use Rattle.std.proofs.Common.{◌≡◌, ℕ, ◌+◌, ◌%◌, ◌<◌, ◌≤◌, Bool, true, false, cond, eqb, ltb, List, [], ◌∷◌, ◌++◌, Ok, Err, Result, refl, ◌∙◌, ⊎_elim, arith}
use Rattle.std.proofs.lemmas.Bool.{ltb-false, eqb-true, cases_lt}
use Rattle.jobs.specs.Roots.{Job}
use Rattle.pads.specs.Sources.{asked}
use Rattle.pads.specs.declared.source.NoSuchPad.{NoSuchPad}
use Rattle.books.specs.Counting.{times}
use Rattle.books.specs.Law.{accepting}
use Rattle.books.specs.Runs.Event.{check}
use Rattle.books.specs.Table.{Table, passed, checked, checked_by}
use Rattle.books.specs.declared.refusals.CheckError.{CheckError}
use Rattle.books.specs.declared.refusals.CheckError.TheVariants.{OldNumber, NotATag, WrongTag}
use Rattle.books.proofs.Counts.{times-append, times_other, times_one}

-- from b to c the table accepted the numbers ns
pub record Passes (b : Table) (ns : List ℕ) (c : Table) : Type 0 where
  pub same_pads : c.pads ≡ b.pads
  pub rises : b.floor ≤ c.floor
  pub fresh : (n : ℕ) → n < b.floor → times n ns ≡ 0
  pub closed : (n : ℕ) → c.floor ≤ n → times n ns ≡ 0
  pub once : (n : ℕ) → times n ns ≤ 1

pub rests : (b : Table) → Passes b [] b
rests b = record { same_pads = refl; rises = omega arith; fresh = λ n l. refl; closed = λ n l. refl; once = λ n. omega arith }

accepts : (n : ℕ) (b : Table) → b.floor ≤ n → Passes b (n ∷ []) (passed n b)
accepts n b h =
    record {
      same_pads = refl;
      rises = omega arith;
      fresh = λ k l. times_other n k (omega arith);
      closed = λ k l. times_other n k (omega arith);
      once = λ k. times_one n k;
    }

-- one after another
pub passes_then : (b c d : Table) (ns ms : List ℕ) → Passes b ns c → Passes c ms d → Passes b (ns ++ ms) d
passes_then b c d ns ms f g =
    record {
      same_pads = g.same_pads ∙ f.same_pads;
      rises = let x = f.rises in let y = g.rises in omega arith;
      fresh = λ n l.
          let r = f.rises in
          let x = f.fresh n l in
          let y = g.fresh n (omega arith) in
          let p = times-append n ns ms in
          omega arith;
      closed = λ n l.
          let r = g.rises in
          let x = f.closed n (omega arith) in
          let y = g.closed n l in
          let p = times-append n ns ms in
          omega arith;
      once = λ n.
          let p = times-append n ns ms in
          ⊎_elim
          (λ (l : n < c.floor). let x = f.once n in let y = g.fresh n l in omega arith)
          (λ (l : c.floor ≤ n). let x = f.closed n l in let y = g.once n in omega arith)
          (cases_lt n c.floor);
    }

-- an accepted tag is the job's under the pad of its number
abbrev pub Matching : (modulus root : ℕ) → List ℕ → ℕ → ℕ → Result (Unit {0}) CheckError → Type 0
Matching modulus root ps n t (Ok u) = (v : ℕ) × (asked ps n ≡ Ok v) × (t ≡ (root + v) % modulus)
Matching modulus root ps n t (Err e) = Unit {0}

-- a check, by what its tests say
module _ (modulus root : ℕ) (b : Table) (j : Job) (n t : ℕ) where
  abbrev outcome : Bool → Bool → Bool → Result (Unit {0}) CheckError × Table
  outcome old low same = cond old (Err OldNumber, b) (cond low (cond same (Ok tt, passed n b) (Err WrongTag, b)) (Err NotATag, b))

  passes_by : (old low same : Bool) → ltb n b.floor ≡ old → Passes b (accepting (check j n t (outcome old low same).0)) (outcome old low same).1
  passes_by true low same e = rests b
  passes_by false false same e = rests b
  passes_by false true false e = rests b
  passes_by false true true e = accepts n b (ltb-false n b.floor e)

  pub check_passes : Passes b (accepting (check j n t (checked modulus root n t b).0)) (checked modulus root n t b).1
  check_passes = go (asked b.pads n)
    where
      go : (a : Result ℕ NoSuchPad) → Passes b (accepting (check j n t (checked_by a modulus root n t b).0)) (checked_by a modulus root n t b).1
      go (Err e) = rests b
      go (Ok v) = passes_by (ltb n b.floor) (ltb t modulus) (eqb t ((root + v) % modulus)) refl

  matches_by :
      (v : ℕ) (old low same : Bool) →
      asked b.pads n ≡ Ok v →
      eqb t ((root + v) % modulus) ≡ same →
      Matching modulus root b.pads n t (outcome old low same).0
  matches_by v true low same a e = tt
  matches_by v false false same a e = tt
  matches_by v false true false a e = tt
  matches_by v false true true a e = (v, a, eqb-true t ((root + v) % modulus) e)

  pub check_matches : Matching modulus root b.pads n t (checked modulus root n t b).0
  check_matches = go (asked b.pads n) refl
    where
      go : (a : Result ℕ NoSuchPad) → asked b.pads n ≡ a → Matching modulus root b.pads n t (checked_by a modulus root n t b).0
      go (Err e) a = tt
      go (Ok v) a = matches_by v (ltb n b.floor) (ltb t modulus) (eqb t ((root + v) % modulus)) a refl
