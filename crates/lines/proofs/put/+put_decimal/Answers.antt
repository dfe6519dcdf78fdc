use Rattle.lines.proofs.LineLaws.{put_then, decimal_one, decimal_more}
use Rattle.lines.proofs.put.+put_decimal.Goals as goal

pub returns-then-n-lt10 : goal.returns-then-n-lt10
returns-then-n-lt10 t c = rw (decimal_one _ c.if-n-lt10.true) c.put_byte.ensures

pub returns : goal.returns
returns t c = rw (decimal_more _ c.if-n-lt10.false) (put_then c.put_decimal-next.ensures c.put_byte-2.ensures)
