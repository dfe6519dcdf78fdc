-- Laws of what is counted over the tables, and of a field that is written.
use Prim.Native.Nat.{ℕ, zero, suc, ◌+◌, ◌-◌, ◌/◌, ◌%◌, ◌≤◌, ◌<◌}
use mathlib.Core.Path.{◌≡◌, refl, sym, ap, ◌∙◌}
use mathlib.Core.List.{List, [], ◌∷◌, ◌++◌}
use mathlib.Core.Logic.{◌≢◌}
use lib.ListN.{length, get_or, drop, take, replicate, length-drop}
use lib.Seq.{length-take-le}
use Rattle.std.proofs.Common.{drop_at}
use native.Mathlib.Omega.{arith}
use mathlib.Core.Bool.{cond, not}
use Rattle.std.proofs.lemmas.Bool.Decides.{nat_tests}
use Rattle.std.specs.Prelude.{◌==◌, count_by, sum_by}
use Rattle.std.specs.List.{zip}
use Rattle.std.proofs.lemmas.List.{at_drop_all}
use Rattle.std.proofs.lemmas.List.Sums.{sum_by-drop_more}
use Rattle.std.proofs.lemmas.Slice.Zip.{length-zip, get_or-zip}
use borrow.Rule.Slice.PartMut.{same_len_mid, put_mid}
use Rattle.laws.proofs.Lists.{tail_part, tail_back}
use Rattle.solution.specs.Filling.{front}
use Rattle.solution.specs.ValueBytes.{term_bytes}
use Rattle.solution.specs.Totals.{bytes_if, total_from, total_turn, total_end, present, bound_count, count_turn, count_end}
use Rattle.solution.specs.RecordFields.{part, length_field, part_some, head_front}

present_cond : (e : ℕ) → present e ≡ cond (not (e == 0)) 1 0
present_cond zero = refl
present_cond (suc e) = grind (arith, nat_tests)

-- the fields counted, and their bytes summed, are those of the lists from y on
pub bound_count_by : (tab : List ℕ) (k y : ℕ) → y + k ≡ length tab → bound_count tab k y ≡ count_by (λ e. not (e == 0)) (drop y tab)
bound_count_by tab zero y h = count_end tab 0 y refl ∙ sym (at_drop_all (count_by (λ e. not (e == 0))) tab y (omega arith))
bound_count_by tab (suc k) y h =
    let less : suc k - 1 ≡ k = omega arith in
    let turn : bound_count tab (suc k) y ≡ present (get_or tab y 0) + bound_count tab k (y + 1) = rw less at (count_turn tab (suc k) y (λ z. omega (arith, z))) in
    let step : count_by (λ e. not (e == 0)) (drop y tab) ≡ cond (not (get_or tab y 0 == 0)) 1 0 + count_by (λ e. not (e == 0)) (drop (y + 1) tab) = sum_by-drop_more _ tab y 0 (omega arith) in
    omega (arith, turn, step, bound_count_by tab k (y + 1) (omega arith), present_cond (get_or tab y 0))

abbrev pub pair_bytes : ℕ × ℕ → ℕ
pair_bytes p = bytes_if p.0 p.1

pub total_sum_by : (tab sz : List ℕ) (k y : ℕ) → y + k ≡ length tab → length sz ≡ length tab → total_from tab sz k y ≡ sum_by pair_bytes (drop y (zip tab sz))
total_sum_by tab sz zero y h l = total_end tab sz 0 y refl ∙ sym (at_drop_all (sum_by pair_bytes) (zip tab sz) y (omega (arith, length-zip tab sz)))
total_sum_by tab sz (suc k) y h l =
    let less : suc k - 1 ≡ k = omega arith in
    let turn : total_from tab sz (suc k) y ≡ bytes_if (get_or tab y 0) (get_or sz y 0) + total_from tab sz k (y + 1) = rw less at (total_turn tab sz (suc k) y (λ z. omega (arith, z))) in
    let step : sum_by pair_bytes (drop y (zip tab sz)) ≡ pair_bytes (get_or (zip tab sz) y (0, 0)) + sum_by pair_bytes (drop (y + 1) (zip tab sz)) = sum_by-drop_more pair_bytes (zip tab sz) y (0, 0) (omega (arith, length-zip tab sz)) in
    let here : pair_bytes (get_or (zip tab sz) y (0, 0)) ≡ bytes_if (get_or tab y 0) (get_or sz y 0) = ap pair_bytes (get_or-zip tab sz y (0, 0) (omega arith) (omega arith)) in
    omega (arith, turn, step, here, total_sum_by tab sz k (y + 1) (omega arith) l)

pub ones_at : (n y : ℕ) → y < n → ◌≡◌ {A = ℕ} (get_or (replicate n 1) y 0) 1
ones_at zero y b = absurd (omega arith)
ones_at (suc n) zero b = refl
ones_at (suc n) (suc y) b = ones_at n y (omega arith)

-- a writer of the bytes w got the buffer from `used` on, and it came back as last
pub tail_front : (used : ℕ) (out last w : List ℕ) → length last ≡ length (take (length out - used) (drop used out))
    → last ≡ front w (take (length out - used) (drop used out))
    → (length (put_mid used (length out - used) out last) ≡ length out) × (put_mid used (length out - used) out last ≡ take used out ++ front w (drop used out))
tail_front used out last w k e = (
  same_len_mid used (length out - used) out last k,
  tail_back used out last ∙ ap (λ (r : List ℕ). take used out ++ r) (e ∙ ap (λ (r : List ℕ). front w r) (tail_part out used)),
)

-- the field of the variable y, whose entry is not 0
module _ (sig pool tab : List ℕ) (y : ℕ) (some : get_or tab y 0 ≢ 0) where
  abbrev pub bound_bytes : List ℕ
  bound_bytes = term_bytes sig pool tab 63 (get_or tab y 0 - 1)

  pub bound_length : length bound_bytes + 5 ≡ length (part sig pool tab y)
  bound_length = sym (length_field y bound_bytes) ∙ ap length (sym (part_some sig pool tab y some))

  pub bound_room : (out : List ℕ) → length (part sig pool tab y) ≤ length out → length bound_bytes ≤ length (take (length out - 5) (drop 5 out))
  bound_room out room = rw (tail_part out 5) (omega (arith, length-drop 5 out, bound_length, room))

  -- the buffer has room for the head, also when the value has come back into it
  pub head_room : (out : List ℕ) → length (part sig pool tab y) ≤ length out → 5 ≤ length out
  head_room out room = omega (arith, bound_length, room)

  pub head_back : (out last : List ℕ) → length (part sig pool tab y) ≤ length out → length last ≡ length (take (length out - 5) (drop 5 out)) → 5 ≤ length (put_mid 5 (length out - 5) out last)
  head_back out last room k = omega (arith, same_len_mid 5 (length out - 5) out last k, head_room out room)

  -- the value written first, and the head before it
  pub field_put : (out last head : List ℕ) → length (part sig pool tab y) ≤ length out → last ≡ front bound_bytes (take (length out - 5) (drop 5 out))
      → head ≡ 16 ∷ (length bound_bytes + 2) / 256 ∷ (length bound_bytes + 2) % 256 ∷ 128 ∷ y ∷ []
      → head ++ drop 5 (put_mid 5 (length out - 5) out last) ≡ front (part sig pool tab y) out
  field_put out last head room back is =
      let five : length (take 5 out) ≡ 5 = length-take-le 5 out (head_room out room) in
      let behind : drop 5 (put_mid 5 (length out - 5) out last) ≡ front bound_bytes (drop 5 out) =
      ap (drop 5) (tail_back 5 out last) ∙ drop_at (take 5 out) last 5 five ∙ back ∙ ap (front bound_bytes) (tail_part out 5) in
      rw (is, behind) (head_front bound_bytes out y) ∙ ap (λ (x : List ℕ). front x out) (sym (part_some sig pool tab y some))
