-- SCOPE.md, 'The solver's record': what the code counts and writes from the table of bindings is the record of the
-- unifier that the table stands for: its bytes, their number, the number of its fields.
use Rattle.std.specs.Prelude.{◌≡◌, ◌≢◌, List, [], ◌∷◌, ◌++◌, get_or}
use Rattle.std.proofs.Math.Path.{refl, ap}
use Rattle.std.proofs.Common.{◌∙◌, inl, inr}
use Prim.Native.Nat.{ℕ, zero, suc, ◌+◌, ◌-◌, ◌*◌, ◌/◌, ◌%◌, ◌≤◌, ◌<◌}
use Rattle.std.proofs.Math.Decide.{ℕ_discrete}
use native.Mathlib.Omega.{arith}
use Rattle.std.proofs.Math.ListN.{length, length-append}
use Rattle.theory.specs.Flat.{Item}
use Rattle.theory.specs.Subst.{vars, app, Occurs, in_app}
use Rattle.theory.specs.Unify.{one, one_same, one_other, Bind, ◌:=◌, full, GoodBindings, Unbound, unbound, Has}
use Rattle.theory.specs.Unify.{not_both}
use Rattle.theory.specs.Matcher.{items?}
use Rattle.definitions.specs.Records.{unless_decided, listed_from, bytes, field_bytes, written_fields, record_of, count_of}
use Rattle.joining.specs.Run.{Given, Tab, term}
use Rattle.solution.specs.Values.{value, value_full, Sizes}
use Rattle.solution.specs.RecordFields.{field, field_if, part, fields_from, record_bytes, length_part, part_none}
use Rattle.laws.specs.Sizes.{value_limit, variable_base}

-- what stands in a value has no binding
unbound_in : (B : List Bind) → GoodBindings B → (y z : ℕ) → Occurs z (full B y) → Unbound z B
unbound_in [] g y z i = tt
unbound_in ((x := u) ∷ B) g y z i = let r = in_app (one x (app (full B) u)) z (full B y) i in go r.0 r.1 r.2 (ℕ_discrete x r.0) (unbound_in B g.2)
  where
    is : (w : ℕ) → Occurs z (vars w) → z ≡ w
    is w (inr x) = elim x [ ]
    is w (inl e) = e

    go : (w : ℕ) → Occurs w (full B y) → Occurs z (one x (app (full B) u) w) → Dec (x ≡ w) → ((y z : ℕ) → Occurs z (full B y) → Unbound z B) → (x ≢ z) × Unbound z B
    go w j k (yes e) ih =
        let k' : Occurs z (app (full B) u) = rw (one_same x (app (full B) u)) at (rw (← e) at k) in
        let r = in_app (full B) z u k' in
        ((λ q. g.1 (rw q k')), ih r.0 z r.2)
    go w j k (no f) ih = let q = is w (rw (one_other x (app (full B) u) w f) at k) in ((λ p. f (p ∙ q)), ih y z (rw q j))

-- a variable with a binding has a value that is not itself
pub bound_other : (B : List Bind) → GoodBindings B → (y : ℕ) (u : List Item) → Has y u B → full B y ≡ vars y → ⊥
bound_other B g y u h e = not_both y u B (unbound_in B g y y (rw e (inl refl))) h

-- the fields as the code writes them
field_bytes_lem : (y : ℕ) (l : List Item) → y < 64 → field y (bytes l) ≡ field_bytes (y := l)
unfolding field field_bytes bytes
field_bytes_lem y l b =
    let e : length (bytes l) + 2 ≡ suc (suc (length (bytes l))) = omega arith in
    let h : (variable_base + y) / 256 ≡ 128 = omega arith in
    let k : (variable_base + y) % 256 ≡ y = omega arith in
    rw (e, h, k)

module _ (sig pool tab : List ℕ) (G : Given sig pool) (B : List Bind) (g : GoodBindings B) (t : Tab sig pool tab B) (few : length B ≤ 64) where
  -- an entry is 0 exactly where the value is the variable itself
  entry_own : (y : ℕ) → y < 64 → full B y ≡ vars y → get_or tab y 0 ≡ 0
  entry_own y b e = go (get_or tab y 0) refl
    where
      go : (n : ℕ) → get_or tab y 0 ≡ n → n ≡ 0
      go zero q = refl
      go (suc p) q = absurd (bound_other B g y (term sig pool p) (rw q at (t y b)) e)

  entry_other : (y : ℕ) → y < 64 → (full B y ≡ vars y → ⊥) → get_or tab y 0 ≢ 0
  entry_other y b n q = n (unbound y B (rw q at (t y b)))

  part_field : (y : ℕ) → y < 64 → (full B y ≡ vars y → ⊥) → part sig pool tab y ≡ field_bytes (y := full B y)
  unfolding part
  part_field y b n = go (get_or tab y 0) (entry_other y b n)
    where
      go : (e : ℕ) → e ≢ 0 → field_if y e (bytes (value sig pool tab 64 y)) ≡ field_bytes (y := full B y)
      go zero z = absurd (z refl)
      go (suc p) z = ap (λ l. field y (bytes l)) (value_full sig pool tab G B g t few y b) ∙ field_bytes_lem y (full B y) b

  from : (k y : ℕ) → y + k ≤ 64 → fields_from sig pool tab k y ≡ written_fields (listed_from (full B) k y)
  unfolding fields_from listed_from written_fields
  from zero y b = refl
  from (suc k) y b = go (items? (full B y) (vars y)) (from k (y + 1) (omega arith))
    where
      go : (d : Dec (full B y ≡ vars y)) → fields_from sig pool tab k (y + 1) ≡ written_fields (listed_from (full B) k (y + 1))
          → part sig pool tab y ++ fields_from sig pool tab k (y + 1) ≡ written_fields (unless_decided d (y := full B y) (listed_from (full B) k (y + 1)))
      go (yes e) h = rw (part_none sig pool tab y (entry_own y (omega arith) e), h)
      go (no n) h = rw (part_field y (omega arith) n, h)

  pub record_full : record_bytes sig pool tab ≡ record_of (full B)
  unfolding record_of
  record_full = from 64 0 (omega arith)

-- the record's length, from the sizes
abbrev pub bytes_if : ℕ → ℕ → ℕ
bytes_if zero s = 0
bytes_if (suc p) s = 5 + 2 * s

unfoldable pub total_from : List ℕ → List ℕ → ℕ → ℕ → ℕ
total_from tab sz zero y = 0
total_from tab sz (suc k) y = bytes_if (get_or tab y 0) (get_or sz y 0) + total_from tab sz k (y + 1)

pub total_turn : (tab sz : List ℕ) (k y : ℕ) → k ≢ 0 → total_from tab sz k y ≡ bytes_if (get_or tab y 0) (get_or sz y 0) + total_from tab sz (k - 1) (y + 1)
unfolding total_from
total_turn tab sz zero y n = absurd (n refl)
total_turn tab sz (suc k) y n = let e : suc k - 1 ≡ k = omega arith in rw e

pub total_end : (tab sz : List ℕ) (k y : ℕ) → k ≡ 0 → total_from tab sz k y ≡ 0
unfolding total_from
total_end tab sz k y e = rw e

module _ (sig pool tab sz : List ℕ) (s : Sizes sig pool tab 64 sz) (short : (y : ℕ) → y < 64 → get_or sz y 0 ≤ value_limit) where
  pub value_short : (y : ℕ) → y < 64 → length (value sig pool tab 64 y) ≡ get_or sz y 0
  value_short y b = omega (arith, s y b, short y b)

  total_part : (y : ℕ) → y < 64 → bytes_if (get_or tab y 0) (get_or sz y 0) ≡ length (part sig pool tab y)
  total_part y b = go (get_or tab y 0) refl
    where
      go : (e : ℕ) → get_or tab y 0 ≡ e → bytes_if e (get_or sz y 0) ≡ length (part sig pool tab y)
      go zero e = rw (part_none sig pool tab y e)
      go (suc p) e = omega (arith, length_part sig pool tab y (λ z. omega (arith, e, z)), value_short y b)

  total_from_lem : (k y : ℕ) → y + k ≤ 64 → total_from tab sz k y ≡ length (fields_from sig pool tab k y)
  unfolding total_from fields_from
  total_from_lem zero y b = refl
  total_from_lem (suc k) y b = omega (arith, total_part y (omega arith), total_from_lem k (y + 1) (omega arith), length-append (part sig pool tab y) (fields_from sig pool tab k (y + 1)))

  pub total_record : total_from tab sz 64 0 ≡ length (record_bytes sig pool tab)
  total_record = total_from_lem 64 0 (omega arith)

-- the number of fields: 0 or 1 for an entry of the table
abbrev pub present : ℕ → ℕ
present zero = 0
present (suc p) = 1

pub present_one : (e : ℕ) → e ≢ 0 → 1 ≡ present e
present_one zero n = absurd (n refl)
present_one (suc e) n = refl

unfoldable pub bound_count : List ℕ → ℕ → ℕ → ℕ
bound_count tab zero y = 0
bound_count tab (suc k) y = present (get_or tab y 0) + bound_count tab k (y + 1)

pub count_turn : (tab : List ℕ) (k y : ℕ) → k ≢ 0 → bound_count tab k y ≡ present (get_or tab y 0) + bound_count tab (k - 1) (y + 1)
unfolding bound_count
count_turn tab zero y n = absurd (n refl)
count_turn tab (suc k) y n = let e : suc k - 1 ≡ k = omega arith in rw e

pub count_end : (tab : List ℕ) (k y : ℕ) → k ≡ 0 → bound_count tab k y ≡ 0
unfolding bound_count
count_end tab k y e = rw e

module _ (sig pool tab : List ℕ) (G : Given sig pool) (B : List Bind) (g : GoodBindings B) (t : Tab sig pool tab B) (few : length B ≤ 64) where
  counts : (k y : ℕ) → y + k ≤ 64 → bound_count tab k y ≡ length (listed_from (full B) k y)
  unfolding bound_count listed_from
  counts zero y b = refl
  counts (suc k) y b = go (items? (full B y) (vars y)) (counts k (y + 1) (omega arith))
    where
      go : (d : Dec (full B y ≡ vars y)) → bound_count tab k (y + 1) ≡ length (listed_from (full B) k (y + 1))
          → present (get_or tab y 0) + bound_count tab k (y + 1) ≡ length (unless_decided d (y := full B y) (listed_from (full B) k (y + 1)))
      go (yes e) h = rw (entry_own sig pool tab G B g t few y (omega arith) e, h) (omega arith)
      go (no n) h = let c = present_one (get_or tab y 0) (entry_other sig pool tab G B g t few y (omega arith) n) in omega arith

  pub count_full : bound_count tab 64 0 ≡ count_of (full B)
  unfolding count_of
  count_full = counts 64 0 (omega arith)

pub bytes_none : (e n : ℕ) → e ≡ 0 → 0 ≡ bytes_if e n
bytes_none e n z = rw z

pub bytes_some : (e n m : ℕ) → e ≢ 0 → m ≡ n → 5 + 2 * m ≡ bytes_if e n
bytes_some zero n m z h = absurd (z refl)
bytes_some (suc e) n m z h = rw h
