use Rattle.std.proofs.Common.{◌-◌, ◌+◌, ◌*◌, ◌≤◌, ◌<◌, length}
use Rattle.keysets.specs.Tables.{sets_of}
use Rattle.candidates.proofs.CandidateLaws.{Kids}
use Rattle.laws.specs.Sizes.{key_limit}
use Rattle.candidates.proofs.+narrow.Given as goal

abbrev pub decreases-narrow : goal.decreases-narrow
decreases-narrow l = l.levels

abbrev pub invariant-loop-child : goal.invariant-loop-child
invariant-loop-child l =
    (l.at < l.child) × (l.next ≤ key_limit * 8 + l.child) × (l.end ≤ length l.items) × Kids l.tables.link.now l.tables.label.now (sets_of l.tables.sets) l.rule.open l.rule.stars l.items l.ends l.at l.x l.initial.next l.initial.deep.words l.child l.end l.next l.deep.words

abbrev pub decreases-loop-child : goal.decreases-loop-child
decreases-loop-child l = l.end - l.child
