use native.Mathlib.Omega.{arith}
use Rattle.logfields.proofs.Fields.{past_within, taken_is}
use Rattle.logfields.proofs.reader.take_at.Goals as goal

pub place_after-place-requires : goal.place_after-place-requires
place_after-place-requires c = let w = past_within c.args.log.now c.args.at c.field_at-field.result c.field_at-field.ensures in
    omega (arith, w)

pub returns : goal.returns
returns c = taken_is _ _ _ _ c.field_at-field.ensures c.place_after-place.ensures
