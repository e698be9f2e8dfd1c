-- The layer and the number of each refusal, and the bytes of each answer.
use Rattle.std.specs.Prelude.{ℕ, List, ◌∷◌, ◌++◌}
use Rattle.line.specs.Bytes.{bytes_of}
use Rattle.line.specs.declared.answer.Answer.{Answer}
use Rattle.line.specs.declared.answer.Answer.TheVariants.{Sealed, Struck, Accepted, Refused}
use Rattle.line.specs.declared.refusal.Refusal.{Refusal}
use Rattle.line.specs.declared.refusal.Refusal.TheVariants.{Line, Session, Book, Pad, Family}
use Rattle.line.specs.declared.refusal.LineFault.TheVariants.{NoSuchCommand, CutOff, LongLine, ShortBuffer}
use Rattle.line.specs.declared.refusal.SessionFault.TheVariants.{Choice, Job}
use Rattle.line.specs.declared.refusal.BookFault.TheVariants.{Card, TooLong, PadCount, PadOut, AllTaken, WrongPad, NoneOut, OldNumber, NotATag, WrongTag, FewPlaces}
use Rattle.line.specs.declared.refusal.PadFault.TheVariants.{NoSuchPad, SheetSize}
use Rattle.line.specs.declared.refusal.FamilyFault.TheVariants.{Widths}

-- a refusal's layer, and its number
abbrev pub code_of : Refusal → ℕ × ℕ
code_of (Line NoSuchCommand) = (1, 13)
code_of (Line CutOff) = (1, 14)
code_of (Line LongLine) = (1, 15)
code_of (Line ShortBuffer) = (1, 16)
code_of (Session Choice) = (2, 17)
code_of (Session Job) = (2, 18)
code_of (Book Card) = (3, 1)
code_of (Book TooLong) = (3, 3)
code_of (Book PadCount) = (3, 4)
code_of (Book PadOut) = (3, 6)
code_of (Book AllTaken) = (3, 7)
code_of (Book WrongPad) = (3, 8)
code_of (Book NoneOut) = (3, 9)
code_of (Book OldNumber) = (3, 10)
code_of (Book NotATag) = (3, 11)
code_of (Book WrongTag) = (3, 12)
code_of (Book FewPlaces) = (3, 20)
code_of (Pad NoSuchPad) = (4, 5)
code_of (Pad SheetSize) = (4, 19)
code_of (Family Widths) = (5, 2)

-- an answer in bytes
abbrev pub answer_bytes : Answer → List ℕ
answer_bytes (Sealed number tag) = 0x53 ∷ bytes_of 4 number ++ bytes_of 8 tag
answer_bytes (Struck number) = 0x58 ∷ bytes_of 4 number
answer_bytes (Accepted number) = 0x59 ∷ bytes_of 4 number
answer_bytes (Refused refusal place) = 0x52 ∷ (code_of refusal).0 ∷ (code_of refusal).1 ∷ bytes_of 4 place
