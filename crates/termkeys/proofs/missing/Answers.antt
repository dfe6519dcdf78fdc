use mathlib.Core.Path.{◌≡◌, sym, ◌∙◌}
use native.Mathlib.Omega.{arith}
use lib.Dec.{leb}
use Rattle.std.proofs.Common.{rules, count_by}
use Rattle.std.proofs.lemmas.List.Sums.{count_by-le-length}
use Rattle.laws.specs.Sizes.{key_limit}
use Rattle.termkeys.proofs.TermKeyLaws.{missing_counted}
use Rattle.termkeys.proofs.missing.Goals as goal

pub returns : goal.returns
returns c = let e : c.count.result ≡ count_by (leb key_limit) c.args.ks.now = search rules in
    (e ∙ sym (missing_counted c.args.ks.now), omega (arith, e, count_by-le-length (leb key_limit) c.args.ks.now))
