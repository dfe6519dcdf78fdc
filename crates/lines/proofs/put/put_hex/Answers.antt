use Rattle.lines.specs.Lines.{hex}
use Rattle.lines.proofs.LineLaws.{put_none, hex_turn}
use Rattle.lines.proofs.put.put_hex.Goals as goal

pub loop-byte-init : goal.loop-byte-init
unfolding hex
loop-byte-init c = put_none _ _ c.requires

pub loop-byte-preserved : goal.loop-byte-preserved
loop-byte-preserved c = hex_turn _ _ c.loop-byte-test.true c.loop-byte.invariant c.put_hex_byte-next.ensures
