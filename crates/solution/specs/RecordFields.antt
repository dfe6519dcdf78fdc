-- SCOPE.md, 'The solver's record': a field for each variable with a value, by ascending number.
use Rattle.std.specs.Prelude.{◌≡◌, ◌≢◌, List, [], ◌∷◌, ◌++◌, drop, take, set}
use Rattle.std.proofs.Math.Path.{refl}
use Rattle.std.proofs.Common.{ap, ◌∙◌, drop-drop}
use Prim.Native.Nat.{ℕ, zero, suc, ◌+◌, ◌-◌, ◌*◌, ◌/◌, ◌%◌, ◌≤◌, ◌<◌}
use native.Mathlib.Omega.{arith}
use Rattle.std.proofs.Math.ListN.{length, get_or}
use Rattle.theory.specs.Subst.{app}
use Rattle.definitions.specs.Records.{bytes}
use Rattle.definitions.specs.ReadBack.{length_bytes}
use Rattle.joining.specs.Run.{term}
use Rattle.solution.specs.Values.{value, value_bound}
use Rattle.solution.specs.Filling.{front}
use Rattle.solution.specs.ValueBytes.{term_bytes}

-- a field: the tag, the length in two bytes, the variable's item, the value's items
unfoldable pub field : ℕ → List ℕ → List ℕ
field y w = 16 ∷ (length w + 2) / 256 ∷ (length w + 2) % 256 ∷ 128 ∷ y ∷ w

pub length_field : (y : ℕ) (w : List ℕ) → length (field y w) ≡ length w + 5
unfolding field
length_field y w = omega arith

abbrev pub field_if : ℕ → ℕ → List ℕ → List ℕ
field_if y zero w = []
field_if y (suc p) w = field y w

module _ (sig pool tab : List ℕ) where
  -- the bytes of the value of y
  abbrev pub value_bytes : ℕ → List ℕ
  value_bytes y = bytes (value sig pool tab 64 y)

  unfoldable pub part : ℕ → List ℕ
  part y = field_if y (get_or tab y 0) (value_bytes y)

  unfoldable pub fields_from : ℕ → ℕ → List ℕ
  fields_from zero y = []
  fields_from (suc k) y = part y ++ fields_from k (y + 1)

  -- the record
  abbrev pub record_bytes : List ℕ
  record_bytes = fields_from 64 0

  pub fields_end : (k y : ℕ) → k ≡ 0 → fields_from k y ≡ []
  unfolding fields_from
  fields_end k y e = rw e

  pub fields_turn : (k y : ℕ) → k ≢ 0 → fields_from k y ≡ part y ++ fields_from (k - 1) (y + 1)
  unfolding fields_from
  fields_turn zero y n = absurd (n refl)
  fields_turn (suc k) y n = let e : suc k - 1 ≡ k = omega arith in rw e

  -- the field of y, and what follows it
  pub record_turn : (y : ℕ) → y < 64 → fields_from (64 - y) y ≡ part y ++ fields_from (64 - (y + 1)) (y + 1)
  record_turn y b = let e : 64 - y - 1 ≡ 64 - (y + 1) = omega arith in rw (← e) (fields_turn (64 - y) y (λ z. omega (arith, z)))

  pub part_none : (y : ℕ) → get_or tab y 0 ≡ 0 → part y ≡ []
  unfolding part
  part_none y e = rw e

  pub part_some : (y : ℕ) → get_or tab y 0 ≢ 0 → part y ≡ field y (term_bytes sig pool tab 63 (get_or tab y 0 - 1))
  unfolding part term_bytes
  part_some y n = go (get_or tab y 0) refl
    where
      go : (e : ℕ) → get_or tab y 0 ≡ e → field_if y e (value_bytes y) ≡ field y (bytes (app (value sig pool tab 63) (term sig pool (e - 1))))
      go zero q = absurd (n q)
      go (suc p) q = let k : suc p - 1 ≡ p = omega arith in rw k (ap (λ l. field y (bytes l)) (value_bound sig pool tab 63 y p q))

  pub length_part : (y : ℕ) → get_or tab y 0 ≢ 0 → length (part y) ≡ 5 + 2 * length (value sig pool tab 64 y)
  unfolding part
  length_part y n = go (get_or tab y 0) refl
    where
      go : (e : ℕ) → get_or tab y 0 ≡ e → length (field_if y e (value_bytes y)) ≡ 5 + 2 * length (value sig pool tab 64 y)
      go zero q = absurd (n q)
      go (suc p) q = length_field y (value_bytes y) ∙ omega (arith, length_bytes (value sig pool tab 64 y))

-- the head of a field written before its value
pub head_front : (w out : List ℕ) (y : ℕ) → (16 ∷ (length w + 2) / 256 ∷ (length w + 2) % 256 ∷ 128 ∷ y ∷ []) ++ front w (drop 5 out) ≡ front (field y w) out
unfolding field
head_front w out y =
    let e : 5 + length w ≡ length (field y w) = omega arith in
    ap (λ (r : List ℕ). 16 ∷ (length w + 2) / 256 ∷ (length w + 2) % 256 ∷ 128 ∷ y ∷ w ++ r) (drop-drop (length w) 5 out ∙ ap (λ (k : ℕ). drop k out) e)

-- the head of a field written around a value that is written after it
pub field_front : (out w last : List ℕ) (y g a b : ℕ) → 5 ≤ length out → g ≡ 128
    → a ≡ (length w + 2) / 256 → b ≡ (length w + 2) % 256
    → last ≡ front w (drop 5 out)
    → set (set (take 5 (set (set (set out 0 16) 3 g) 4 y) ++ last) 1 a) 2 b ≡ front (field y w) out
unfolding field
field_front [] w last y g a b h r p q e = absurd (omega arith)
field_front (x0 ∷ []) w last y g a b h r p q e = absurd (omega arith)
field_front (x0 ∷ x1 ∷ []) w last y g a b h r p q e = absurd (omega arith)
field_front (x0 ∷ x1 ∷ x2 ∷ []) w last y g a b h r p q e = absurd (omega arith)
field_front (x0 ∷ x1 ∷ x2 ∷ x3 ∷ []) w last y g a b h r p q e = absurd (omega arith)
field_front (x0 ∷ x1 ∷ x2 ∷ x3 ∷ x4 ∷ out) w last y g a b h r p q e = rw (r, p, q, e) refl

pub drop_five : (out : List ℕ) (g y : ℕ) → drop 5 (set (set (set out 0 16) 3 g) 4 y) ≡ drop 5 out
drop_five [] g y = refl
drop_five (x0 ∷ []) g y = refl
drop_five (x0 ∷ x1 ∷ []) g y = refl
drop_five (x0 ∷ x1 ∷ x2 ∷ []) g y = refl
drop_five (x0 ∷ x1 ∷ x2 ∷ x3 ∷ []) g y = refl
drop_five (x0 ∷ x1 ∷ x2 ∷ x3 ∷ x4 ∷ out) g y = refl
