-- The number of a key by its bytes, over plain lists.
use Prim.Native.Nat.{ℕ, ◌+◌, ◌-◌, ◌*◌, ◌<◌}
use mathlib.Core.Path.{◌≡◌, refl, ap}
use mathlib.Core.List.{List, [], ◌∷◌, ◌++◌}
use native.Mathlib.Omega.{arith}
use lib.ListN.{length, get_or}
use Rattle.keys.proofs.KeyLaws.{after}
use Rattle.chains.specs.Chains.{find}
use Rattle.paths.specs.Rep.{lab}
use Rattle.store.specs.Tables.{end_number, number_from, key_number}
use Rattle.laws.specs.Sizes.{key_limit, root_place}

-- one step of a key: x is its three bytes
pub number_turn : (link label x r : List ℕ) (p n k q : ℕ) → length x ≡ 3 → n ≡ get_or x 0 0 * 256 + get_or x 1 0 → k ≡ find link label (lab p n) → q ≡ k * 8 + (get_or x 2 0 - 1)
    → number_from link label q r ≡ number_from link label p (x ++ r)
unfolding number_from
number_turn link label [] r p n k q h e f g = absurd (omega arith)
number_turn link label (a ∷ []) r p n k q h e f g = absurd (omega arith)
number_turn link label (a ∷ b ∷ []) r p n k q h e f g = absurd (omega arith)
number_turn link label (a ∷ b ∷ i ∷ []) r p n k q h e f g = rw (g, f, e)
number_turn link label (a ∷ b ∷ i ∷ j ∷ x) r p n k q h e f g = absurd (omega arith)

pub after_turn : (x r : List ℕ) → length x ≡ 3 → after (x ++ r) ≡ after r
unfolding after
after_turn [] r h = absurd (omega arith)
after_turn (a ∷ []) r h = absurd (omega arith)
after_turn (a ∷ b ∷ []) r h = absurd (omega arith)
after_turn (a ∷ b ∷ i ∷ []) r h = refl
after_turn (a ∷ b ∷ i ∷ j ∷ x) r h = absurd (omega arith)

-- bytes that don't end in two after their steps
pub number_none : (link label k : List ℕ) (p : ℕ) → (length (after k) ≡ 2 → ⊥) → key_limit ≡ number_from link label p k
unfolding number_from after
number_none link label [] p n = refl
number_none link label (a ∷ []) p n = refl
number_none link label (a ∷ b ∷ []) p n = absurd (n refl)
number_none link label (a ∷ b ∷ i ∷ r) p n = number_none link label r (find link label (lab p (a * 256 + b)) * 8 + (i - 1)) n

-- the end, once no step is left
pub number_end : (link label rest end : List ℕ) (p x e w k : ℕ) → length rest < 3 → after rest ≡ end → length end ≡ 2 → x ≡ get_or end 0 0 * 256 + get_or end 1 0 → e ≡ end_number x → w ≡ lab p e → k ≡ find link label w → k ≡ number_from link label p rest
unfolding number_from after
number_end link label [] end p x e w k l t h a b c d = absurd (omega (arith, ap length t))
number_end link label (u ∷ []) end p x e w k l t h a b c d = absurd (omega (arith, ap length t))
number_end link label (u ∷ v ∷ []) end p x e w k l t h a b c d = rw (d, c, b, a, ← t)
number_end link label (u ∷ v ∷ i ∷ r) end p x e w k l t h a b c d = absurd (omega arith)

pub number_start : (link label k : List ℕ) → number_from link label root_place k ≡ key_number link label k
unfolding key_number
number_start link label k = refl
