use Rattle.lines.proofs.LineLaws.{put_then}
use Rattle.lines.specs.Lines.{hex}
use Rattle.lines.proofs.put.put_hex_byte.Goals as goal

pub returns : goal.returns
unfolding hex
returns c = rw (← c.glyph.ensures, ← c.glyph-2.ensures) (put_then c.put_byte-next.ensures c.put_byte.ensures)
