-- What the office book holds, and what each call on it answers and leaves.
use Rattle.std.specs.Prelude.{ℕ, ◌+◌, ◌%◌, Bool, false, cond, ◌&&◌, List, replicate, Some, None, Ok, Err, Option, Result, ◌==◌, slice_set}
use Rattle.pads.specs.Sources.{asked}
use Rattle.pads.specs.declared.source.NoSuchPad.{NoSuchPad}
use Rattle.books.specs.declared.fate.Fate.{Fate}
use Rattle.books.specs.declared.fate.Fate.TheVariants.{Unspent, Sealed, Struck}
use Rattle.books.specs.declared.pad.Pad.{Pad}
use Rattle.books.specs.declared.refusals.NoneOut.{NoneOut}
use Rattle.books.specs.declared.refusals.TakeError.{TakeError}
use Rattle.books.specs.declared.refusals.TakeError.TheVariants.{PadOut, AllTaken}
use Rattle.books.specs.declared.refusals.WrongPad.{WrongPad}
use Rattle.std.specs.Result.{result_map_both}

-- The office's record: its pads, the next number, the number whose pad is out, and what became of each number's pad.
pub record Office : Type 0 where
  pub pads : List ℕ
  pub next : ℕ
  pub out : Option ℕ
  pub fates : List Fate

abbrev pub opened : List ℕ → Office
opened pads = record { pads = pads; next = 0; out = None; fates = replicate 256 Unspent }

-- the next number's pad is out
abbrev pub handed : Office → Office
handed b = record { pads = b.pads; next = b.next + 1; out = Some b.next; fates = b.fates }

-- the pad that was out is used up, and its number has this fate
abbrev pub spent : Fate → ℕ → Office → Office
spent fate number b = record { pads = b.pads; next = b.next; out = None; fates = slice_set b.fates number fate }

-- taking: by the number that is out and what the source answers for the next
abbrev pub taken_by : Option ℕ → Result ℕ NoSuchPad → Office → Result Pad TakeError × Office
taken_by (Some n) a b = (Err PadOut, b)
taken_by None (Err e) b = (Err AllTaken, b)
taken_by None (Ok value) b = (Ok (record { number = b.next; value = value }), handed b)

abbrev pub taken : Office → Result Pad TakeError × Office
taken b = taken_by b.out (asked b.pads b.next) b

-- whether this number is out
abbrev pub is_out : Option ℕ → ℕ → Bool
is_out None number = false
is_out (Some n) number = n == number

-- whether this is what the source answers
abbrev pub is_pad : Result ℕ NoSuchPad → ℕ → Bool
is_pad (Err e) value = false
is_pad (Ok v) value = v == value

-- whether the pad is the one that is out here: its number is, and its value is the source's
abbrev pub held : Pad → Office → Bool
held pad b = is_out b.out pad.number && is_pad (asked b.pads pad.number) pad.value

-- taking a pad back: it is used up; if it was not out here, the book stays
abbrev pub used : Fate → Pad → Office → Result (Unit {0}) WrongPad × Office
used fate pad b = cond (held pad b) (Ok tt, spent fate pad.number b) (Err (record {}), b)

-- sealing a job with this root tag: the number, and the tag
abbrev pub seal : (modulus root : ℕ) → Pad → ℕ × ℕ
seal modulus root pad = (pad.number, (root + pad.value) % modulus)

abbrev pub sealed : (modulus root : ℕ) → Pad → Office → Result (ℕ × ℕ) WrongPad × Office
sealed modulus root pad b = (result_map_both (λ _. seal modulus root pad) (λ e. e) (used Sealed pad b).0, (used Sealed pad b).1)

abbrev pub struck : Pad → Office → Result (Unit {0}) WrongPad × Office
struck pad b = used Struck pad b

-- calling in: by the number that is out
abbrev pub called_in_by : Option ℕ → Office → Result ℕ NoneOut × Office
called_in_by None b = (Err (record {}), b)
called_in_by (Some n) b = (Ok n, spent Struck n b)

abbrev pub called_in : Office → Result ℕ NoneOut × Office
called_in b = called_in_by b.out b
