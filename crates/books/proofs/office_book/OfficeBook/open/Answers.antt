use Rattle.books.proofs.Openings.{office_opened}
use Rattle.books.proofs.office_book.OfficeBook.open.Goals as goal

pub returns : goal.returns
returns g c =
    rw c.fresh.ensures (office_opened (g.S.PadSource.pads c.args.source) c.count.result _ c.count.ensures c.in_ok-check_count.ensures)
