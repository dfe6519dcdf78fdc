use mathlib.Core.Path.{ap, ◌∙◌}
use mathlib.Core.List.{List}
use lib.ListN.{get_or}
use Prim.Native.Nat.{ℕ}
use Rattle.slots.proofs.SlotLaws.{get_or_words8}
use Rattle.keysets.proofs.KeySets.word.Goals as goal

pub returns : goal.returns
returns c = ap (λ (r : List ℕ). get_or r c.args.i 0) c.words.ensures.0 ∙ get_or_words8 _ c.args.i c.requires.2
