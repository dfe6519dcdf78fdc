use Rattle.lines.proofs.LineLaws.{put_after}
use Rattle.lines.specs.Lines.{ok, figure, slot_line}
use Rattle.lines.proofs.line.slot_line.Goals as goal

pub returns : goal.returns
unfolding slot_line
returns c = put_after c.args.word.now ok (figure c.args.slot) c.put_head-a.ensures c.put_byte.ensures
