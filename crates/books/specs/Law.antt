-- The law over every run.
use Rattle.std.specs.Prelude.{◌≡◌, ℕ, ◌+◌, ◌%◌, ◌<◌, ◌≤◌, cond, ◌≢◌, ◌⊎◌, List, [], ◌∷◌, ◌++◌, length, Some, Ok, Err, slice_index_or}
use Rattle.families.specs.Meanings.{Meaning, Lawful}
use Rattle.jobs.specs.Collisions.{Collision}
use Rattle.jobs.specs.Roots.{Card, Job, root_tag}
use Rattle.books.specs.Counting.{times}
use Rattle.books.specs.Fates.{fate_is}
use Rattle.books.specs.Runs.{Books, Event, Run}
use Rattle.books.specs.Runs.Event.{take, seal, strike, call_in, check}
use Rattle.books.specs.declared.fate.Fate.{Fate}
use Rattle.books.specs.declared.fate.Fate.TheVariants.{Unspent, Sealed, Struck}
use Rattle.books.specs.declared.pad.Pad.{Pad}
use Rattle.std.specs.List.{range_with_len}

-- the number that an event took, if it is a granted taking
abbrev pub taking : Event → List ℕ
taking (take (Ok p)) = p.number ∷ []
taking (take (Err e)) = []
taking (seal p j r) = []
taking (strike p r) = []
taking (call_in r) = []
taking (check j n t r) = []

-- the number that an event used up, if it is a granted sealing, striking or calling in
abbrev pub spending : Event → List ℕ
spending (take r) = []
spending (seal p j (Ok s)) = s.0 ∷ []
spending (seal p j (Err e)) = []
spending (strike p (Ok u)) = p.number ∷ []
spending (strike p (Err e)) = []
spending (call_in (Ok n)) = n ∷ []
spending (call_in (Err e)) = []
spending (check j n t r) = []

-- the number to which an event gave this fate: a granted sealing seals it, a granted striking or calling in strikes it
abbrev pub recording : Fate → Event → List ℕ
recording fate (take r) = []
recording fate (seal p j (Ok s)) = cond (fate_is fate Sealed) (s.0 ∷ []) []
recording fate (seal p j (Err e)) = []
recording fate (strike p (Ok u)) = cond (fate_is fate Struck) (p.number ∷ []) []
recording fate (strike p (Err e)) = []
recording fate (call_in (Ok n)) = cond (fate_is fate Struck) (n ∷ []) []
recording fate (call_in (Err e)) = []
recording fate (check j n t r) = []

-- the number that an event accepted, if it is a granted check
abbrev pub accepting : Event → List ℕ
accepting (take r) = []
accepting (seal p j r) = []
accepting (strike p r) = []
accepting (call_in r) = []
accepting (check j n t (Ok u)) = n ∷ []
accepting (check j n t (Err e)) = []

-- the numbers of a run, in order
abbrev pub through : (Event → List ℕ) → List Event → List ℕ
through f [] = []
through f (e ∷ es) = f e ++ through f es

abbrev pub Among : Event → List Event → Type 0
Among e [] = ⊥
Among e (x ∷ xs) = (e ≡ x) ⊎ Among e xs

-- how often a number has this fate: once or not at all
abbrev pub recorded : Fate → ℕ → Books → ℕ
recorded fate n d = cond (fate_is fate (slice_index_or d.office.fates n Unspent)) 1 0

-- Handed out once, after a run that ends with the books d.
pub record Once (es : List Event) (d : Books) : Type 0 where
  -- the numbers of the granted takings are 0, 1, 2, ..
  pub in_order : through taking es ≡ range_with_len 0 (length (through taking es))
  -- each was used up once, or its pad is out
  pub spent_once :
      (n : ℕ) →
      n < length (through taking es) →
      ((times n (through spending es) ≡ 1) × (d.office.out ≢ Some n)) ⊎ ((times n (through spending es) ≡ 0) × (d.office.out ≡ Some n))
  -- none before it was handed out
  pub never_early : (n : ℕ) → length (through taking es) ≤ n → times n (through spending es) ≡ 0
  -- only the last can be out
  pub last_out : (n : ℕ) → d.office.out ≡ Some n → n + 1 ≡ length (through taking es)
  -- the book says sealed of a number as often as a sealing was granted for it
  pub sealed_recorded : (n : ℕ) → times n (through (recording Sealed) es) ≡ recorded Sealed n d
  -- and struck as often as a striking or calling in was
  pub struck_recorded : (n : ℕ) → times n (through (recording Struck) es) ≡ recorded Struck n d
  -- the table accepts no number twice
  pub accepted_once : (n : ℕ) → times n (through accepting es) ≤ 1

-- A forged job, accepted in place of the sealed one: the two tags are d apart, and the two jobs collide with
-- difference d.
pub record Forged (m : Meaning) (count : ℕ) (card : List ℕ) (accepted sealed : Job) (accepted_tag sealed_tag : ℕ) : Type 0 where
  pub d : ℕ
  pub below : d < m.modulus
  pub tags : accepted_tag ≡ (sealed_tag + d) % m.modulus
  pub collision : Collision m count card d accepted sealed

-- A forged job collides: the table accepted a job under a number with which the office sealed another, earlier or later.
abbrev pub Collides : Meaning → ℕ → List ℕ → List Event → Type 0
Collides m count card es =
    (p : Pad) (accepted sealed : Job) (number accepted_tag sealed_tag : ℕ) →
    Among (seal p sealed (Ok (number, sealed_tag))) es →
    Among (check accepted number accepted_tag (Ok tt)) es →
    accepted ≢ sealed →
    Forged m count card accepted sealed accepted_tag sealed_tag

-- what holds of every run from these books on, under every lawful family and every key card
abbrev pub LawFrom : Books → Type 0
LawFrom b =
    (m : Meaning) (count : ℕ) →
    Lawful m count →
    (card : List ℕ) →
    Card card →
    (es : List Event) (d : Books) →
    Run m.modulus (root_tag m card) b es d →
    Once es d × Collides m count card es
