use Rattle.std.specs.Prelude.{◌≡◌, ◌<◌}
use Rattle.keys.proofs.KeyLaws.{after}
use Rattle.store.specs.Tables.{number_from, key_number}
use Rattle.laws.specs.Sizes.{place_end}
use Rattle.keyquestion.proofs.key_number.Given as goal

abbrev pub invariant-loop-step : goal.invariant-loop-step
invariant-loop-step l = (l.place < place_end) × (l.step-iterator.size ≡ 3) × (after l.step-iterator.rest.now ≡ l.end)
    × (number_from l.link l.label l.place l.step-iterator.rest.now ≡ key_number l.link l.label l.key)
