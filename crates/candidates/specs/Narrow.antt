-- Serves SCOPE.md, 'Paths and keys' (candidates): what one call of the walk promises: over items that spell trees
-- under a signature, it is the walk over the tree at an item.
use Rattle.std.specs.Prelude.{ℕ, ◌≡◌, List, Bool, drop}
use Rattle.keysets.specs.KeySets.{Sets}
use Rattle.definitions.specs.Trees.{forest, top}
use Rattle.candidates.specs.Ends.{Ended}
use Rattle.candidates.specs.Walk.{walk}

abbrev pub Narrowed : (link label : List ℕ) (σ : Sets) (qv tv : Bool) (items ends : List ℕ) (at place : ℕ)
    (within result : List ℕ) → Type 0
Narrowed link label σ qv tv items ends at place within result =
    (sig : List ℕ) → Ended 0 sig items ends
    → result ≡ walk link label σ qv tv (top (forest sig (drop at items))) place within
