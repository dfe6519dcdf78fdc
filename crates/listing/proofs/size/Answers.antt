use Rattle.std.proofs.Common.{rules, tests}
use mathlib.Core.Path.{◌≡◌, ◌∙◌}
use lib.Count.{ones}
use lib.ListN.{length}
use native.Mathlib.Omega.{arith}
use Rattle.std.specs.List.{sum_by}
use Rattle.std.proofs.lemmas.Iterator.{YieldsList-from_slice, YieldsList-from_map}
use Rattle.std.proofs.lemmas.Iterator.Consumers.{YieldsList-at, sum_by_from_yields_List, fits_by_from_yields_list}
use Rattle.slots.specs.Slots.{members}
use Rattle.listing.proofs.Listing.{size_words, size_most, eight_same}
use Rattle.listing.proofs.size.Goals as goal

-- the words that are summed are the set's, one by one
summed : (c : goal.After-map) → c.iter.result.rest.now ≡ c.args.set.words
summed c = c.iter.ensures.rest ∙ eight_same _ c.args.set.words (search rules) (search rules) (search rules) (search rules) (search rules)
    (search rules) (search rules) (search rules) (search rules) (search rules)

pub sum-requires-clause-fits : goal.sum-requires-clause-fits
sum-requires-clause-fits c =
    let ws = c.args.set.words in
    let e : sum_by ones ws ≡ length (members ws) = size_words ws (search rules) (λ k. search rules) in
    fits_by_from_yields_list ones _ c.map.result _
    (YieldsList-from_map _ ones (YieldsList-at c.map.ensures.source (YieldsList-from_slice ws (summed c))) c.map.ensures.closure (λ x r q k. search (rules, tests)))
    (omega (arith, e, size_most ws))

pub returns : goal.returns
returns c =
    let ws = c.args.set.words in
    let e : sum_by ones ws ≡ length (members ws) = size_words ws (search rules) (λ k. search rules) in
    let summed : c.iter.result.rest.now ≡ ws = c.iter.ensures.rest ∙ eight_same _ ws (search rules) (search rules) (search rules)
    (search rules) (search rules) (search rules) (search rules) (search rules) (search rules) (search rules) in
    let f : c.sum.result ≡ length (members ws) = sum_by_from_yields_List ones _ c.map.result _ c.sum.ensures.ran
    (YieldsList-from_map _ ones (YieldsList-at c.map.ensures.source (YieldsList-from_slice ws summed)) c.map.ensures.closure (λ x r q k. search (rules, tests))) ∙ e in
    (omega (arith, f), omega (arith, f, size_most ws))
