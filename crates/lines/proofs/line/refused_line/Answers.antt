use Rattle.lines.proofs.LineLaws.{put_then}
use Rattle.lines.specs.Lines.{refused_line}
use Rattle.lines.proofs.line.refused_line.Goals as goal

pub returns : goal.returns
unfolding refused_line
returns c = put_then c.put_bytes-a.ensures (put_then c.put_bytes-b.ensures (put_then c.put_figure-c.ensures c.put_byte.ensures))
