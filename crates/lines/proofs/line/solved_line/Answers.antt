use Rattle.lines.proofs.LineLaws.{put_then, put_after}
use Rattle.lines.specs.Lines.{ok, figure, solved_line}
use Rattle.lines.proofs.line.solved_line.Goals as goal

pub returns : goal.returns
unfolding solved_line
returns c = put_after c.args.word.now ok (figure c.args.fields) c.put_head-a.ensures (put_then c.put_record-b.ensures c.put_byte.ensures)
