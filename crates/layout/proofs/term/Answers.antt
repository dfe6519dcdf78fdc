use Rattle.layout.proofs.LayoutLaws.{term_part}
use Rattle.layout.proofs.term.Goals as goal

pub returns : goal.returns
returns c = term_part c.args.bytes.now c.args.slot
