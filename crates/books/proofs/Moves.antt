-- What each call takes from the office book and uses up in it.
use Rattle.std.proofs.Common.{◌≡◌, ℕ, ◌+◌, Bool, true, false, cond, List, [], ◌∷◌, ◌++◌, length, Some, None, Ok, Err, Option, Result, sym, refl, ap, ◌∙◌, subst, arith, length-append}
use Rattle.std.proofs.lemmas.Bool.{eqb-true, and_parts, false≢true}
use Rattle.std.specs.List.{range_with_len}
use Rattle.std.specs.Result.{result_map_both}
use Rattle.jobs.specs.Roots.{Job}
use Rattle.pads.specs.Sources.{asked}
use Rattle.pads.specs.declared.source.NoSuchPad.{NoSuchPad}
use Rattle.books.specs.Counting.{times}
use Rattle.books.specs.Law.{taking, spending}
use Rattle.books.specs.Office.{Office, handed, spent, taken, taken_by, held, is_out, is_pad, used, struck, sealed, called_in, called_in_by}
use Rattle.books.specs.Office as office
use Rattle.books.specs.Runs.{Event}
use Rattle.books.specs.Runs.Event.{take, seal, strike, call_in}
use Rattle.books.specs.declared.fate.Fate.{Fate}
use Rattle.books.specs.declared.fate.Fate.TheVariants.{Sealed, Struck}
use Rattle.books.specs.declared.pad.Pad.{Pad}
use Rattle.books.specs.declared.refusals.WrongPad.{WrongPad}
use Rattle.books.proofs.Counts.{times-append, counting-append}

-- how often n is out: once or not at all
abbrev pub outs : ℕ → Option ℕ → ℕ
outs n None = 0
outs n (Some k) = times n (k ∷ [])

-- what is out is the last number that was taken
abbrev pub Last : Option ℕ → ℕ → Type 0
Last out next = (n : ℕ) → out ≡ Some n → n + 1 ≡ next

-- from b to c the office took the numbers ts and used up the numbers ss
pub record Moves (b : Office) (ts ss : List ℕ) (c : Office) : Type 0 where
  pub same_pads : c.pads ≡ b.pads
  pub in_turn : ts ≡ range_with_len b.next (length ts)
  pub advances : c.next ≡ b.next + length ts
  pub balance : (n : ℕ) → times n ts + outs n b.out ≡ times n ss + outs n c.out
  pub last : Last b.out b.next → Last c.out c.next

pub stays : (b : Office) → Moves b [] [] b
stays b = record { same_pads = refl; in_turn = refl; advances = omega arith; balance = λ n. refl; last = λ h. h }

hands : (b : Office) → b.out ≡ None → Moves b (b.next ∷ []) [] (handed b)
hands b e =
    record {
      same_pads = refl;
      in_turn = refl;
      advances = refl;
      balance = λ n. let z : outs n b.out ≡ 0 = ap (outs n) e in omega arith;
      last = λ h n s. let e : b.next ≡ n = cc in omega arith;
    }

spends : (f : Fate) (n : ℕ) (b : Office) → b.out ≡ Some n → Moves b [] (n ∷ []) (spent f n b)
spends f n b e =
    record {
      same_pads = refl;
      in_turn = refl;
      advances = omega arith;
      balance = λ k. let z : outs k b.out ≡ times k (n ∷ []) = ap (outs k) e in omega arith;
      last = λ h k s. cc;
    }

-- one after another
pub moves_then : (b c d : Office) (ts us ss rs : List ℕ) → Moves b ts ss c → Moves c us rs d → Moves b (ts ++ us) (ss ++ rs) d
moves_then b c d ts us ss rs f g =
    let long : length (ts ++ us) ≡ length ts + length us = length-append ts us in
    let second : us ≡ range_with_len (b.next + length ts) (length us) = subst (λ n. us ≡ range_with_len n (length us)) f.advances g.in_turn in
    record {
      same_pads = g.same_pads ∙ f.same_pads;
      in_turn =
          ap (λ xs. xs ++ us) f.in_turn ∙ ap (λ xs. range_with_len b.next (length ts) ++ xs) second
          ∙ counting-append b.next (length ts) (length us)
          ∙ ap (range_with_len b.next) (sym long);
      advances = let x = f.advances in let y = g.advances in omega arith;
      balance = λ n.
          let x = f.balance n in
          let y = g.balance n in
          let p = times-append n ts us in
          let q = times-append n ss rs in
          omega arith;
      last = λ h. g.last (f.last h);
    }

-- ---- each call

abbrev pub Moved : Office → Event → Office → Type 0
Moved b e c = Moves b (taking e) (spending e) c

pub take_moves : (b : Office) → Moved b (take (taken b).0) (taken b).1
take_moves b = go b.out (asked b.pads b.next) refl
  where
    go : (o : Option ℕ) (a : Result ℕ NoSuchPad) → b.out ≡ o → Moved b (take (taken_by o a b).0) (taken_by o a b).1
    go (Some n) a e = stays b
    go None (Err x) e = stays b
    go None (Ok v) e = hands b e

-- `used`, by what the test says
abbrev pub used_by : Bool → Fate → Pad → Office → Result (Unit {0}) WrongPad × Office
used_by t f p b = cond t (Ok tt, spent f p.number b) (Err (record {}), b)

abbrev pub sealed_by : Bool → (modulus root : ℕ) → Pad → Office → Result (ℕ × ℕ) WrongPad
sealed_by t modulus root p b = result_map_both (λ _. office.seal modulus root p) (λ e. e) (used_by t Sealed p b).0

out_from : (o : Option ℕ) (n : ℕ) → is_out o n ≡ true → o ≡ Some n
out_from None n e = absurd (false≢true e)
out_from (Some k) n e = ap Some (eqb-true k n e)

value_from : (a : Result ℕ NoSuchPad) (v : ℕ) → is_pad a v ≡ true → a ≡ Ok v
value_from (Err e) v h = absurd (false≢true h)
value_from (Ok w) v h = ap Ok (eqb-true w v h)

-- a pad that is out here has the number that is out, and the source's value
pub held_out : (p : Pad) (b : Office) → held p b ≡ true → b.out ≡ Some p.number
held_out p b e = out_from b.out p.number (and_parts (is_out b.out p.number) _ e).0

pub held_value : (p : Pad) (b : Office) → held p b ≡ true → asked b.pads p.number ≡ Ok p.value
held_value p b e = value_from _ p.value (and_parts (is_out b.out p.number) _ e).1

pub strike_moves : (p : Pad) (b : Office) → Moved b (strike p (struck p b).0) (struck p b).1
strike_moves p b = go (held p b) refl
  where
    go : (t : Bool) → held p b ≡ t → Moved b (strike p (used_by t Struck p b).0) (used_by t Struck p b).1
    go true e = spends Struck p.number b (held_out p b e)
    go false e = stays b

pub seal_moves : (modulus root : ℕ) (p : Pad) (j : Job) (b : Office) → Moved b (seal p j (sealed modulus root p b).0) (sealed modulus root p b).1
seal_moves modulus root p j b = go (held p b) refl
  where
    go : (t : Bool) → held p b ≡ t → Moved b (seal p j (sealed_by t modulus root p b)) (used_by t Sealed p b).1
    go true e = spends Sealed p.number b (held_out p b e)
    go false e = stays b

pub call_in_moves : (b : Office) → Moved b (call_in (called_in b).0) (called_in b).1
call_in_moves b = go b.out refl
  where
    go : (o : Option ℕ) → b.out ≡ o → Moved b (call_in (called_in_by o b).0) (called_in_by o b).1
    go None e = stays b
    go (Some n) e = spends Struck n b e
