use Rattle.lines.proofs.LineLaws.{put_then}
use Rattle.caselines.proofs.listed_line.Goals as goal

pub returns : goal.returns
returns c = put_then c.put_bytes-x.ensures (put_then c.put_bytes-y.ensures (put_then c.put_figure-z.ensures (put_then c.put_slots-w.ensures c.put_byte.ensures)))
