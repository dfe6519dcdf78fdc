use Rattle.std.proofs.Common.{rules}
use Rattle.lines.proofs.LineLaws.{record_none, record_some}
use Rattle.lines.proofs.line.put_record.Goals as goal

pub returns-then-is_empty : goal.returns-then-is_empty
returns-then-is_empty c = record_none _ _ _ c.requires (search rules)

pub returns : goal.returns
returns c = record_some _ _ _ _ _ _ _ (search rules) c.put_byte-next.ensures c.put_hex.ensures
