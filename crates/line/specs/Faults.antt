-- The refusals of the books as refusals of the line.
use Rattle.books.specs.declared.refusals.CheckError.{CheckError}
use Rattle.books.specs.declared.refusals.CheckError.TheVariants as check
use Rattle.books.specs.declared.refusals.TakeError.{TakeError}
use Rattle.books.specs.declared.refusals.TakeError.TheVariants as take
use Rattle.line.specs.declared.refusal.BookFault.TheVariants.{PadOut, AllTaken, OldNumber, NotATag, WrongTag}
use Rattle.line.specs.declared.refusal.PadFault.TheVariants.{NoSuchPad}
use Rattle.line.specs.declared.refusal.Refusal.{Refusal}
use Rattle.line.specs.declared.refusal.Refusal.TheVariants.{Book, Pad}

abbrev pub take_refusal : TakeError → Refusal
take_refusal take.PadOut = Book PadOut
take_refusal take.AllTaken = Book AllTaken

-- a number that the source does not have is refused by the pads' layer
abbrev pub check_refusal : CheckError → Refusal
check_refusal (check.Source e) = Pad NoSuchPad
check_refusal check.OldNumber = Book OldNumber
check_refusal check.NotATag = Book NotATag
check_refusal check.WrongTag = Book WrongTag
