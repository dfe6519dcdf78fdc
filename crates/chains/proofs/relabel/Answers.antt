use mathlib.Core.Path.{refl}
use native.Mathlib.Omega.{arith}
use lib.ListN.{length-set}
use Rattle.chains.proofs.ChainLaws.{relinked_is}
use Rattle.chains.proofs.relabel.Goals as goal

pub bounds-link-at-2 : goal.bounds-link-at-2
bounds-link-at-2 c = simp length-set (omega arith)

pub returns : goal.returns
returns c = (relinked_is _ _ _ _ _ _ _ _ refl c.home-old.ensures.0 c.unlink.ensures c.home-at.ensures.0, refl)
