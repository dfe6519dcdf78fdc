use Prim.Native.Nat.{ℕ, suc, ◌-◌, ◌^◌, ◌<◌}
use mathlib.Core.Path.{◌≡◌, refl, sym, ap, ◌∙◌}
use mathlib.Core.List.{List, [], ◌∷◌, map}
use lib.ListN.{length, length-map}
use native.Mathlib.Omega.{arith}
use Rattle.std.specs.Int.Bits.{bit_and, bit_xor, xor_add_and, and_self}
use Rattle.std.proofs.lemmas.Nat.{and-not, and_comm, and_assoc}
use Rattle.slots.specs.Slots.{both, words8}
pub use Rattle.slots.specs.Sets.{has_insert_same, has_insert_other, get_or_both, has_both, get_or_words8, has_either, bit_not}

pub length_both : (us vs : List ℕ) → length us ≡ length vs → length (both us vs) ≡ length us
unfolding both
length_both [] vs h = refl
length_both (u ∷ us) [] h = absurd (omega arith)
length_both (u ∷ us) (v ∷ vs) h = ap suc (length_both us vs (omega arith))

pub length_words8 : (f : ℕ → ℕ) → length (words8 f) ≡ 8
unfolding words8
length_words8 f = refl

-- what owning a set tells of its words
pub words_8 : (ws : List ℕ) → length (map (λ (v : ℕ). v) ws) ≡ 8 → length ws ≡ 8
words_8 ws h = sym (length-map ws (λ (v : ℕ). v)) ∙ h

-- the bits of b out of a word, by a mask and by turning those that stand in it
pub clear_turned : (w b : ℕ) → w < 2 ^ 64 → b < 2 ^ 64 → bit_and w (2 ^ 64 - 1 - b) ≡ bit_xor w (bit_and w b)
clear_turned w b h k =
    let twice : bit_and w (bit_and w b) ≡ bit_and w b = rw (← and_assoc, and_self) in
    omega (arith, twice, and-not 64 b w k h, and_comm w (2 ^ 64 - 1 - b), and_comm w b, xor_add_and w (bit_and w b))
