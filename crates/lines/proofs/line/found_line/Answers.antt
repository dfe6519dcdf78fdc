use Rattle.lines.proofs.LineLaws.{put_then, put_after}
use Rattle.lines.specs.Lines.{found_line, ok, figure}
use Rattle.lines.proofs.line.found_line.Goals as goal

pub returns : goal.returns
unfolding found_line
returns c = put_after c.args.word.now ok (figure c.args.candidates) c.put_head-a.ensures (put_then c.put_figure-b.ensures (put_then c.put_slots-c.ensures c.put_byte.ensures))
