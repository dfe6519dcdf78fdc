use Prim.Native.Nat.{ℕ, ◌+◌, ◌-◌, ◌≤◌, ◌<◌}
use mathlib.Core.Path.{◌≡◌}
use mathlib.Core.List.{List}
use native.Mathlib.Omega.{arith}
use lib.ListN.{length, length-drop}
use borrow.Rule.Slice.PartMut.{put_mid}
use Rattle.laws.proofs.Lists.{tail_part}
use Rattle.solution.specs.Filling.{Filling, fill_room, fill_turn, fill_end}
use Rattle.solution.specs.RecordFields.{part, fields_from, record_bytes, fields_end, record_turn}
use Rattle.solution.proofs.SolutionLaws.{tail_front}
use Rattle.solution.proofs.writing.put_record.Goals as goal

-- in a turn: the part fits
fits : (sig pool tab out₀ out : List ℕ) (used y : ℕ) → Filling (record_bytes sig pool tab) (fields_from sig pool tab (64 - y) y) out₀ out used → y < 64 → length (record_bytes sig pool tab) ≤ length out₀ → used + length (part sig pool tab y) ≤ length out
fits sig pool tab out₀ out used y v b e =
    let room = fill_room (record_bytes sig pool tab) (fields_from sig pool tab (64 - y) y) out₀ out used (part sig pool tab y) _ (record_turn sig pool tab y b) v in
    omega (arith, room, v.same)

pub put_part-used-requires : goal.put_part-used-requires
put_part-used-requires c = let a = c.args in
    let l = c.loop-y in
    let b = c.loop-y-test.true in
    (c.requires.0, c.requires.1, b, rw (tail_part l.out l.used) (omega (arith, fits a.sig.now a.pool.now a.tab.now a.out.now l.out l.used l.y l.invariant b c.requires.2, length-drop l.used l.out)), c.requires.3 l.y b)

pub loop-y-preserved : goal.loop-y-preserved
loop-y-preserved c = let a = c.args in
    let l = c.loop-y in
    let k = c.put_part-used in
    let w = part a.sig.now a.pool.now a.tab.now l.y in
    let b = tail_front l.used l.out k.new.out w k.auto.out k.ensures.1 in
    rw k.ensures.0 (fill_turn _ _ a.out.now l.out l.used w _ (record_turn a.sig.now a.pool.now a.tab.now l.y c.loop-y-test.true) l.invariant (put_mid l.used (length l.out - l.used) l.out k.new.out) b.0 b.1)

pub returns : goal.returns
returns c = let a = c.args in
    let l = c.loop-y in
    let z : 64 - l.y ≡ 0 = omega (arith, c.loop-y-test.false) in
    fill_end (record_bytes a.sig.now a.pool.now a.tab.now) _ a.out.now l.out l.used (fields_end a.sig.now a.pool.now a.tab.now (64 - l.y) l.y z) l.invariant
