use native.Mathlib.Omega.{arith}
use mathlib.Core.Path.{refl, sym, ◌∙◌}
use lib.Seq.{length-take-le}
use Rattle.store.proofs.Parts.{none_room, numbers_are}
use Rattle.store.proofs.numbers_of.Goals as goal

pub slice_bounds-locate-end : goal.slice_bounds-locate-end
slice_bounds-locate-end c = sym (length-take-le c.args.o.items c.args.o.ups (omega (arith, c.requires)))

pub slice_bounds-locate-end-2 : goal.slice_bounds-locate-end-2
slice_bounds-locate-end-2 c = sym (length-take-le c.args.o.items c.args.o.ends (omega (arith, c.requires)))

pub locate-requires : goal.locate-requires
locate-requires c = let p = c.requires in let a = length-take-le c.args.o.items c.args.o.ups (omega (arith, c.requires)) in let b = length-take-le c.args.o.items c.args.o.ends (omega (arith, c.requires)) in let w = none_room _ p.5 in (p.0, p.1, a ∙ sym b, omega (arith, a, p.2, w), omega (arith, w))

pub shape_of-keys : goal.shape_of-keys
shape_of-keys c = c.locate.auto.ks

pub returns : goal.returns
returns c = (refl, numbers_are _ _ _ _ _ _ c.requires.5 c.locate.ensures)
