use Rattle.lines.proofs.LineLaws.{put_then}
use Rattle.lines.proofs.put.put_figure.Goals as goal

pub returns : goal.returns
returns c = put_then c.put_byte-next.ensures c.put_decimal.ensures
