use Rattle.cases.proofs.Lending.{lend_made}
use Rattle.layout.specs.Tables.{held}
use Rattle.cases.proofs.lend.Goals as goal

pub returns : goal.returns
returns c = lend_made c.args.case c.args.place c.args.given.now c.args.bytes.now c.args.used.now c.args.label.now c.args.link.now c.args.s0.now c.args.s1.now c.args.s2.now c.args.s3.now c.args.out.now _ _ _ _ _ _ _ _ _ c.call.result (held c.call.new.bytes c.call.new.used c.call.new.label c.call.new.link c.call.new.s0 c.call.new.s1 c.call.new.s2 c.call.new.s3) c.call.new.out c.cut-l0.ensures.0 c.cut-l1.ensures.0 c.cut-l2.ensures.0 c.cut-l3.ensures.0 c.cut-l4.ensures.0 c.cut-l5.ensures.0 c.cut-l6.ensures.0 c.cut-l7.ensures.0 c.order_of.ensures c.requires.1 c.call.ensures
