-- What the books hold, read off their fields.
use Rattle.std.specs.Prelude.{ℕ, List, take}
use Rattle.books.specs.Office.{Office}
use Rattle.books.specs.Runs.{Books}
use Rattle.books.specs.Table.{Table}
use Rattle.books.specs.declared.office_book.OfficeBook.{OfficeBook}
use Rattle.books.specs.declared.table_book.TableBook.{TableBook}

-- an office book, over a source that stands for these pads; a book has 256 at most
abbrev pub office_view : {S : Type 0} → (S → List ℕ) → OfficeBook S → Office
office_view pads_of b = record { pads = take 256 (pads_of b.source); next = b.next; out = b.out; fates = b.fates }

abbrev pub table_view : {S : Type 0} → (S → List ℕ) → TableBook S → Table
table_view pads_of b = record { pads = pads_of b.source; floor = b.floor }

abbrev pub books_view : {S U : Type 0} → (S → List ℕ) → (U → List ℕ) → OfficeBook S × TableBook U → Books
books_view office_pads table_pads both = record { office = office_view office_pads both.0; table = table_view table_pads both.1 }
