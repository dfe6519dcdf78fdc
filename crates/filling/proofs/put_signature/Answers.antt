use mathlib.Core.Path.{◌∙◌}
use native.Mathlib.Omega.{arith}
use lib.ListN.{length-set}
use Rattle.layout.proofs.LayoutLaws.{signed_is, cleared}
use Rattle.filling.proofs.put_signature.Goals as goal

pub bounds-bytes-1 : goal.bounds-bytes-1
bounds-bytes-1 c = simp length-set (omega (arith, c.clear.auto.cells))

pub copy-requires : goal.copy-requires
copy-requires c = simp length-set (omega (arith, c.clear.auto.cells))

pub returns : goal.returns
returns c = c.copy.ensures ∙ signed_is _ _ _ (cleared _ _ _ c.clear.ensures)
