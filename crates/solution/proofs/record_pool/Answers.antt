use Rattle.std.proofs.Common.{rules}
use native.Mathlib.Omega.{arith}
use Rattle.joining.specs.Run.{Unified}
use Rattle.solution.specs.Totals.{total_record, value_short}
use Rattle.solution.specs.Promise.{promise_long, promise_room, promise_written}
use Rattle.solution.proofs.record_pool.Goals as goal

pub returns-then-long : goal.returns-then-long
returns-then-long c = let a = c.args in
    let tab = c.in_ok-tab.tab in
    let u : Unified a.sig.now a.pool.now a.root tab = search rules in
    promise_long a.sig.now a.pool.now a.root tab c.requires.0 u c.sizes-sz.result c.sizes-sz.ensures c.if-long.ensures a.out.now

pub returns-then-out-total : goal.returns-then-out-total
returns-then-out-total c = let a = c.args in
    let tab = c.in_ok-tab.tab in
    let u : Unified a.sig.now a.pool.now a.root tab = search rules in
    promise_room a.sig.now a.pool.now a.root tab c.requires.0 u c.sizes-sz.result c.sizes-sz.ensures c.if-long.ensures a.out.now (omega (arith, c.total.ensures, c.if-out-total.true))

pub put_record-bytes-requires : goal.put_record-bytes-requires
put_record-bytes-requires c = let a = c.args in
    let tab = c.in_ok-tab.tab in
    let sz = c.sizes-sz.result in
    let u : Unified a.sig.now a.pool.now a.root tab = search rules in
    let short = c.if-long.ensures in
    (c.requires.0, u.shape, omega (arith, total_record a.sig.now a.pool.now tab sz c.sizes-sz.ensures short, c.total.ensures, c.if-out-total.false), λ y b. omega (arith, value_short a.sig.now a.pool.now tab sz c.sizes-sz.ensures short y b, short y b))

pub returns : goal.returns
returns c = let a = c.args in
    let tab = c.in_ok-tab.tab in
    let u : Unified a.sig.now a.pool.now a.root tab = search rules in
    promise_written a.sig.now a.pool.now a.root tab c.requires.0 u c.sizes-sz.result c.sizes-sz.ensures c.if-long.ensures a.out.now _ c.fields.result c.put_record-bytes.result (omega (arith, c.total.ensures, c.if-out-total.false)) c.fields.ensures c.put_record-bytes.ensures.0 c.put_record-bytes.ensures.1
