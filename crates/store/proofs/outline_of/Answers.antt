use mathlib.Core.Path.{refl, sym}
use native.Mathlib.Omega.{arith}
use lib.Seq.{length-take-le}
use Rattle.store.proofs.Parts.{outlined}
use Rattle.store.proofs.outline_of.Goals as goal

pub slice_bounds-ends-end : goal.slice_bounds-ends-end
slice_bounds-ends-end c = let d = c.decode-n in sym (length-take-le d.result d.new.out (omega (arith, d.ensures.0, d.auto.out, c.requires.1)))

pub ends-requires : goal.ends-requires
ends-requires c = let d = c.decode-n in
    let e = length-take-le d.result d.new.out (omega (arith, d.ensures.0, d.auto.out, c.requires.1)) in
    omega (arith, e, d.ensures.0, c.requires.1)

pub slice_bounds-ups-end : goal.slice_bounds-ups-end
slice_bounds-ups-end c = let d = c.decode-n in sym (length-take-le d.result d.new.out (omega (arith, d.ensures.0, d.auto.out, c.requires.1)))

pub ups-items-requires : goal.ups-items-requires
ups-items-requires c = let d = c.decode-n in
    let e = length-take-le d.result d.new.out (omega (arith, d.ensures.0, d.auto.out, c.requires.1)) in
    (omega (arith, e, d.ensures.0, c.requires.1), omega (arith, e, d.ensures.0, c.requires.1), c.requires.0.eight)

pub returns : goal.returns
returns c = outlined _ _ _ _ _ _ _ _ _ c.requires.1 refl refl c.ups-items.auto.out c.decode-n.ensures.0 c.decode-n.ensures.1 c.ends.ensures c.ups-items.ensures.0 c.ups-items.ensures.1
