use native.Mathlib.Omega.{arith}
use Rattle.keysets.proofs.KeySetLaws.{tab_0, tab_1, tab_2, tab_3}
use Rattle.keysets.proofs.KeySets.table.Goals as goal

pub returns-in-0 : goal.returns-in-0
returns-in-0 c = (tab_0 _ _ _ _ _ c.in-0.is, c.requires.l0)

pub returns-in-1 : goal.returns-in-1
returns-in-1 c = (tab_1 _ _ _ _ _ c.in-1.is, c.requires.l1)

pub returns-in-2 : goal.returns-in-2
returns-in-2 c = (tab_2 _ _ _ _ _ c.in-2.is, c.requires.l2)

pub returns-in_default : goal.returns-in_default
returns-in_default c = (tab_3 _ _ _ _ _ (omega arith), c.requires.l3)
