use native.Mathlib.Omega.{arith}
use mathlib.Core.Path.{ap, ◌∙◌}
use mathlib.Core.List.{List}
use Prim.Native.Nat.{ℕ}
use lib.ListN.{length}
use Rattle.slots.proofs.SlotLaws.{length_words8}
use Rattle.keysets.proofs.KeySetLaws.{words_part}
use Rattle.keysets.proofs.KeySets.words.Goals as goal

pub returns : goal.returns
returns c =
    let e = words_part _ c.args.k _ c.table.result.now (omega arith) (omega (arith, c.table.ensures.1)) c.table.ensures.0 in
    (e, ap (λ (r : List ℕ). length r) e ∙ length_words8 _)
