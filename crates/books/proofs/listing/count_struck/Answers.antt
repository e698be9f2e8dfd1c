use Rattle.std.proofs.Common.{rules, tests, ◌∙◌}
use Rattle.std.proofs.lemmas.Iterator.{YieldsList-from_slice}
use Rattle.std.proofs.lemmas.Iterator.Consumers.{YieldsList-from_filter, count_from_yields_List}
use Rattle.books.specs.Fates.{fate_is}
use Rattle.books.specs.declared.fate.Fate.TheVariants.{Struck}
use Rattle.books.proofs.Strucks.{length-filter_struck}
use Rattle.books.proofs.listing.count_struck.Goals as goal

pub returns : goal.returns
returns c =
    count_from_yields_List c.filter.result _ c.count.ensures.ran
    (YieldsList-from_filter _ (fate_is Struck) (YieldsList-from_slice c.args.fates.now cc) c.filter.ensures.closure (λ x r q k. search (rules, tests)))
    ∙ length-filter_struck c.args.fates.now
