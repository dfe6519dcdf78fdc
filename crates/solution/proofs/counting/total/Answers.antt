use Rattle.std.proofs.Common.{arith, rules, ◌∙◌, ◌≤◌, ◌^◌, length, sym}
use Rattle.std.specs.List.{zip}
use Rattle.std.proofs.lemmas.Iterator.{YieldsList-from_map, YieldsList-from_zip, YieldsList-from_slice}
use Rattle.std.proofs.lemmas.Iterator.Adapters.{fits_from_length, at_most_from_yields_List}
use Rattle.std.proofs.lemmas.Iterator.Consumers.{YieldsList-at, sum_by_from_yields_List}
use Rattle.std.proofs.lemmas.Slice.Zip.{length-zip}
use Rattle.solution.proofs.SolutionLaws.{pair_bytes, total_sum_by}
use Rattle.solution.proofs.counting.total.Goals as goal

pub sum-requires-clause-fits : goal.sum-requires-clause-fits
sum-requires-clause-fits c =
    let tab = c.args.tab.now in
    let sz = c.args.sz.now in
    let few : length (zip tab sz) ≤ 64 = omega (arith, length-zip tab sz, c.told-tab) in
    fits_from_length _ _ 64 (2 ^ 64) (at_most_from_yields_List (YieldsList-at c.map.ensures.source (YieldsList-from_zip (YieldsList-from_slice tab cc) (YieldsList-from_slice sz cc))) few) c.map.ensures.closure (omega arith) (λ x r q k. search rules)

pub returns : goal.returns
returns c =
    let tab = c.args.tab.now in
    let sz = c.args.sz.now in
    sum_by_from_yields_List pair_bytes (zip tab sz) c.map.result _ c.sum.ensures.ran (YieldsList-from_map _ pair_bytes (YieldsList-at c.map.ensures.source (YieldsList-from_zip (YieldsList-from_slice tab cc) (YieldsList-from_slice sz cc))) c.map.ensures.closure (λ x r q k. search rules))
    ∙ sym (total_sum_by tab sz 64 0 (sym c.told-tab) (c.told-sz ∙ sym c.told-tab))
