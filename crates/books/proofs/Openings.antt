-- When a book is opened, and what the openings of both answer together.
use Rattle.std.proofs.Common.{◌≡◌, ℕ, ◌≤◌, Bool, true, false, cond, ◌&&◌, leb, List, length, take, Ok, Err, Result, refl, ap, ◌∙◌, arith}
use Rattle.std.proofs.lemmas.Bool.{and_parts, leb-true}
use Rattle.std.proofs.lemmas.List.{take_all}
use Rattle.books.specs.Office.{opened}
use Rattle.books.specs.Opening.{fits, opening}
use Rattle.books.specs.Runs.{started, starting}
use Rattle.books.specs.declared.refusals.PadCountError.{PadCountError}

abbrev opening_by : {B : Type 0} → Bool → B → Result B PadCountError
opening_by t b = cond t (Ok b) (Err (record {}))

-- a book that was opened is what it should be, over a fitting number of pads
granted_by : {B : Type 0} (t : Bool) (a b : B) → Ok a ≡ opening_by t b → (t ≡ true) × (a ≡ b)
granted_by true a b h = (refl, cc)
granted_by false a b h = cc

pub granted : {B : Type 0} (n : ℕ) (a b : B) → Ok a ≡ opening n b → (fits n ≡ true) × (a ≡ b)
granted n a b h = granted_by (fits n) a b h

pub few : (n : ℕ) → fits n ≡ true → n ≤ 256
few n e = leb-true n 256 (and_parts (leb 1 n) (leb n 256) e).1

-- an office book, over the first 256 of its pads
pub office_opened : (ps : List ℕ) (n : ℕ) (u : Unit {0}) → n ≡ length ps → Ok u ≡ opening n tt → Ok (opened (take 256 ps)) ≡ opening (length ps) (opened ps)
office_opened ps n u e h =
    let fit : fits n ≡ true = (granted n u tt h).0 in
    rw (take_all 256 ps (omega (arith, e, few n fit)), ← e, fit)

-- both books
pub both_opened : (ps qs : List ℕ) → fits (length ps) ≡ true → fits (length qs) ≡ true → starting ps qs ≡ Ok (started ps qs)
both_opened ps qs e f = ap (λ t. cond t (Ok (started ps qs)) (Err (record {}))) (ap (λ t. t && fits (length qs)) e ∙ f)
