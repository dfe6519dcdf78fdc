use Prim.Native.Nat.{◌/◌, ◌<◌}
use mathlib.Core.Path.{refl, sym, ap, ◌∙◌}
use native.Mathlib.Omega.{arith}
use lib.ListN.{length}
use lib.Seq.{sets, take_all}
use Rattle.laws.proofs.Lists.{sets_turn, sets_start}
use Rattle.variables.specs.Banks.{bank_of}
use Rattle.items.specs.Decoding.{written_as, decoded, decoded_at, length_decoded}
use Rattle.items.proofs.load.Goals as goal

pub loop-i-init : goal.loop-i-init
loop-i-init c = sets_start c.args.out.now c.args.at (decoded (bank_of c.args.bank) c.args.t.now)

pub loop-i-preserved : goal.loop-i-preserved
loop-i-preserved c = let a = c.args in
    let l = c.loop-i in
    let t = a.t.now in
    let k = bank_of a.bank in
    let b : l.i < length t / 2 = c.loop-i-test.true in
    let v = c.code.ensures ∙ ap (written_as k) c.number_at.ensures.0 ∙ sym (decoded_at k t l.i b) in
    rw (v, l.invariant) (sets_turn a.out.now a.at l.i (decoded k t) (omega (arith, b, length_decoded k t)))

pub returns : goal.returns
returns c = let a = c.args in
    let l = c.loop-i in
    let k = bank_of a.bank in
    (refl, l.invariant ∙ ap (sets a.out.now a.at) (take_all l.i (decoded k a.t.now) (omega (arith, c.loop-i-test.false, length_decoded k a.t.now))))
