use Rattle.std.proofs.Common.{◌≡◌, ℕ, List, length, Ok, sym, ap, ◌∙◌, subst}
use Rattle.books.specs.Law.{LawFrom}
use Rattle.books.specs.Office.{opened}
use Rattle.books.specs.Runs.{started}
use Rattle.books.specs.Table.{laid}
use Rattle.books.specs.Views.{books_view}
use Rattle.books.proofs.Laws.{law_holds}
use Rattle.books.proofs.Openings.{granted, few, both_opened}
use Rattle.books.proofs.run.open_books.Goals as goal

pub returns : goal.returns
returns g c =
    let ps : List ℕ = g.S.PadSource.pads c.args.office in
    let qs : List ℕ = g.U.PadSource.pads c.args.table in
    let office = granted (length ps) _ (opened ps) c.in_ok-office.ensures in
    let table = granted (length qs) _ (laid qs) c.in_ok-table.ensures in
    let are : books_view g.S.PadSource.pads g.U.PadSource.pads (c.in_ok-office.office, c.in_ok-table.table) ≡ started ps qs =
    cc (office.1, table.1)
    in
    record {
      given = ap Ok are ∙ sym (both_opened ps qs office.0 table.0);
      law = λ same. subst LawFrom (sym (are ∙ ap (started ps) (sym same))) (law_holds ps (few (length ps) office.0));
    }
