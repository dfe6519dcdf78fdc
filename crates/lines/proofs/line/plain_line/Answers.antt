use Rattle.lines.proofs.LineLaws.{put_then}
use Rattle.lines.specs.Lines.{plain_line}
use Rattle.lines.proofs.line.plain_line.Goals as goal

pub returns : goal.returns
unfolding plain_line
returns c = put_then c.put_bytes-a.ensures c.put_bytes.ensures
