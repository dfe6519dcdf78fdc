use Rattle.lines.proofs.LineLaws.{put_then}
use Rattle.lines.proofs.line.put_head.Goals as goal

pub returns : goal.returns
returns c = put_then c.put_bytes-a.ensures (put_then c.put_bytes-b.ensures c.put_figure.ensures)
