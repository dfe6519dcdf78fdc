use mathlib.Core.Path.{ap, ◌∙◌}
use lib.Seq.{sets}
use Rattle.items.specs.Decoding.{decoded_stored}
use Rattle.outline.proofs.decode.Goals as goal

pub returns : goal.returns
returns c = (c.load.ensures.0, c.load.ensures.1 ∙ ap (sets c.args.out.now 0) (decoded_stored c.args.t.now))
