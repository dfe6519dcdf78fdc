use Rattle.std.proofs.Common.{rules, max}
use Rattle.std.proofs.lemmas.Iterator.{YieldsList-from_slice}
use Rattle.std.proofs.lemmas.Iterator.Consumers.{fold_from_yields_List}
use Rattle.layout.proofs.LayoutLaws.{largest_is}
use Rattle.layout.proofs.largest.Goals as goal

pub returns : goal.returns
returns c =
    largest_is c.args.s.now c.fold.result
    (fold_from_yields_List _ max 0 c.fold.result c.fold.ensures.ran (YieldsList-from_slice c.args.s.now cc) (λ a x b q k. search rules))
