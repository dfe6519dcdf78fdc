use native.Mathlib.Omega.{arith}
use Rattle.lines.proofs.LineLaws.{put_part}
use Rattle.lines.proofs.put.put_bytes.Goals as goal

pub returns : goal.returns
returns c = put_part _ _ _ _ _ _ c.requires c.min-n.ensures (omega arith) c.copy_from_slice.ensures.after
