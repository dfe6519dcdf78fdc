-- SCOPE.md, 'Paths and keys': the candidate walk over the question's tree, on sets of slots as words.
use Rattle.std.specs.Prelude.{ℕ, suc, ◌*◌, Bool, List, leb}
use Rattle.laws.specs.Choice.{pick}
use Rattle.slots.specs.Slots.{either}
use Rattle.keys.specs.Keys.{Tm, Args, node, nil, cons}
use Rattle.chains.specs.Chains.{find}
use Rattle.keysets.specs.KeySets.{Sets, met}
use Rattle.paths.specs.Rep.{lab}
use Rattle.laws.specs.Sizes.{variable_base}

module _ (link label : List ℕ) (σ : Sets) where
  -- the slots of ws that have the key with end e at place n; 256 is the star
  abbrev pub having : ℕ → ℕ → List ℕ → List ℕ
  having n e ws = met σ (find link label (lab n e)) ws

  -- qv: a variable of the question agrees with any term; tv: one of the stored term does
  module _ (qv tv : Bool) where
    -- the slots of ws whose term at place n agrees with the question's term
    unfoldable mutual
      pub walk : Tm → ℕ → List ℕ → List ℕ
      walk (node x us) n ws = pick (leb variable_base x)
          (pick qv ws (having n 256 ws))
          (pick tv
          (either (walk_all us (find link label (lab n x) * 8) (having n x ws)) (having n 256 ws))
          (walk_all us (find link label (lab n x) * 8) (having n x ws)))

      -- the arguments, from place m on, each within what the one before left
      pub walk_all : Args → ℕ → List ℕ → List ℕ
      walk_all nil m ws = ws
      walk_all (cons u us) m ws = walk_all us (suc m) (walk u m ws)
