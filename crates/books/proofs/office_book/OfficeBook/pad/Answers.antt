use Rattle.std.proofs.Common.{sym, ◌∙◌}
use Rattle.books.proofs.Questions.{asked_take, asked_past}
use Rattle.books.proofs.office_book.OfficeBook.pad.Goals as goal

pub returns-then-number-ge-MOST_PADS-clause-answer : goal.returns-then-number-ge-MOST_PADS-clause-answer
returns-then-number-ge-MOST_PADS-clause-answer g c = sym (asked_past _ _ _ c.if-number-ge-MOST_PADS.true)

pub returns-clause-answer : goal.returns-clause-answer
returns-clause-answer g c = c.pad.ensures ∙ sym (asked_take _ _ _ c.if-number-ge-MOST_PADS.false)
