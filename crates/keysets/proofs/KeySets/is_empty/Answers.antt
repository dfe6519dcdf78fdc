use borrow.Author.Rules.{rules}
use mathlib.Core.Path.{◌≡◌, ◌∙◌}
use borrow.Author.Tests.{tests}
use Rattle.std.proofs.lemmas.Iterator.Adapters.{YieldsList-from_rev_slice}
use Rattle.std.proofs.lemmas.Iterator.Search.{all_from_yields_List}
use lib.Dec.{eqb}
use mathlib.Core.List.{reverse}
use Rattle.std.specs.List.{list_all}
use Rattle.keysets.proofs.KeySetLaws.{all_reversed, zeros_all}
use Rattle.keysets.proofs.KeySets.is_empty.Goals as goal

pub returns : goal.returns
returns c =
    let ws = c.words.result.now in
    let e : c.all.result ≡ list_all (λ w. eqb w 0) (reverse ws) =
    all_from_yields_List (λ w. eqb w 0) _ _ _ c.all.ensures.ran (YieldsList-from_rev_slice ws cc) (λ x b q k. search (rules, tests)) in
    e ∙ all_reversed (λ w. eqb w 0) ws ∙ zeros_all _ c.args.k ws c.words.ensures.0
