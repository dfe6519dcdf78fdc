-- Serves SCOPE.md, 'Paths and keys' (candidates): where the terms of a question end, item by item, read from the last
-- item to the first.
use Rattle.std.specs.Prelude.{ℕ, ◌≤◌, ◌<◌, ◌≡◌, List, length, get_or, drop}
use Rattle.definitions.specs.Trees.{forest, arguments_after}

-- later than they begin, and within the n items
abbrev pub EndsFrom : ℕ → ℕ → List ℕ → Type 0
EndsFrom from n ends = (i : ℕ) → from ≤ i → i < n → (i < get_or ends i 0) × (get_or ends i 0 ≤ n)

-- the trees from the end of the term at item i on are those that follow that term
abbrev pub Ended : ℕ → List ℕ → List ℕ → List ℕ → Type 0
Ended from sig items ends = (i : ℕ) → from ≤ i → i < length items
    → forest sig (drop (get_or ends i 0) items) ≡ arguments_after 1 (forest sig (drop i items))
