use Rattle.layout.proofs.LayoutLaws.{used_copied}
use Rattle.filling.proofs.put_used.Goals as goal

pub returns : goal.returns
returns c = let e = c.copy_from_slice.ensures in used_copied _ _ _ c.requires e.len e.after
