use native.Mathlib.Omega.{arith}
use mathlib.Core.Path.{sym, ◌∙◌}
use Rattle.layout.proofs.LayoutLaws.{in_use_small}
use Rattle.calls.proofs.Public.{ample_not, ample_is, lengths}
use Rattle.store.proofs.Parts.{none_are, sized}
use Rattle.deleting.proofs.DeleteLaws.{used_is, delete_short, delete_none, delete_done}
use Rattle.deleting.proofs.delete.Goals as goal

pub returns-then-not-lengths_suffice : goal.returns-then-not-lengths_suffice
returns-then-not-lengths_suffice c = delete_short _ _ (ample_not _ _ c.lengths_suffice.ensures c.if-not-lengths_suffice.true)

pub returns-then-not-contains : goal.returns-then-not-contains
returns-then-not-contains c = delete_none _ _ _ _ (ample_is _ _ c.lengths_suffice.ensures c.if-not-lengths_suffice.false) c.slots_used-set.ensures c.contains.ensures (c.if-not-contains.true)

pub keys_in-n-requires : goal.keys_in-n-requires
keys_in-n-requires c = let L = lengths _ _ _ _ _ _ _ _ _ c.lengths_suffice.ensures c.if-not-lengths_suffice.false in (L.bytes, L.links, L.labels, in_use_small _ _ (sym (used_is _ _ _ _ c.slots_used-set.ensures c.contains.ensures) ∙ c.if-not-contains.false), none_are)

pub delete_all-requires : goal.delete_all-requires
delete_all-requires c = let q = in_use_small _ _ (sym (used_is _ _ _ _ c.slots_used-set.ensures c.contains.ensures) ∙ c.if-not-contains.false) in (sized _ _ _ _ _ _ _ _ (lengths _ _ _ _ _ _ _ _ _ c.lengths_suffice.ensures c.if-not-lengths_suffice.false), omega (arith, q), omega (arith, c.keys_in-n.auto.keys, c.keys_in-n.ensures.few))

pub returns : goal.returns
returns c = delete_done _ _ _ _ (ample_is _ _ c.lengths_suffice.ensures c.if-not-lengths_suffice.false) c.slots_used-set.ensures c.contains.ensures _ _ _ _ _ _ _ _ _ _ (c.if-not-contains.false) c.keys_in-n.ensures c.delete_all.ensures c.remove.ensures c.put_used.ensures
