use Rattle.layout.specs.Tables.{held}
use Rattle.orders.proofs.OrderLaws.{open_told, insert_told, delete_told, unchanging_told}
use Rattle.orders.proofs.call.Goals as goal

pub returns-in-Open : goal.returns-in-Open
returns-in-Open c = let l = c.«open».new in open_told _ _ (held l.bytes l.used l.label l.link l.s0 l.s1 l.s2 l.s3) _ _ _ c.«open».result c.in-Open.is c.«open».ensures

pub returns-in-Insert : goal.returns-in-Insert
returns-in-Insert c = let l = c.insert.new in insert_told _ _ (held l.bytes l.used l.label l.link l.s0 l.s1 l.s2 l.s3) _ _ _ c.insert.result c.in-Insert.is c.insert.ensures

pub returns-in-Delete : goal.returns-in-Delete
returns-in-Delete c = let l = c.delete.new in delete_told _ _ _ (held l.bytes l.used l.label l.link l.s0 l.s1 l.s2 l.s3) _ _ _ c.delete.result c.in-Delete.is c.delete.ensures

pub returns-in_default : goal.returns-in_default
returns-in_default c = unchanging_told c.args.order _ _ _ _ _ c.in_default.not-Open c.in_default.not-Insert c.in_default.not-Delete c.ask.ensures
